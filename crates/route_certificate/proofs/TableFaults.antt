-- Where a text stops being a table's.
use Rattle.std.proofs.Common.{◌≡◌, ℕ, ◌+◌, ◌<◌, List, [], ◌∷◌, ◌++◌, length, refl, sym, ap, subst, ◌∙◌, append_assoc, arith, codes}
use Rattle.std.proofs.lemmas.List.{length-append, append-nil}
use Rattle.std.specs.List.{flat_map}
use Rattle.venue_types.specs.declared.feature_id.FeatureId.{FeatureId}
use Rattle.line_forms.specs.Lines.{line}
use Rattle.line_forms.specs.Faults.{IsLines, IsFaultLine}
use Rattle.line_forms.proofs.LineLemmas.{Lacks-test, line_front, lines_unique}
use Rattle.line_forms.proofs.FaultLemmas.{IsLines-one, IsLines-append, IsLines-items, other_head, next_faulty}
use Rattle.route_certificate.specs.declared.table.TableLink.{TableLink}
use Rattle.route_certificate.specs.declared.table.Table.{Table}
use Rattle.route_certificate.specs.Forms.{node_line, link_line, node_body, link_body, end_line, table_head, FitsId, FitsLink, IsTable, IsTableText}
use Rattle.route_certificate.proofs.LineLemmas.{node_line_is, link_line_is, Lacks-node_body, Lacks-link_body, small_link}
use Rattle.route_certificate.proofs.TableLemmas.{TableRead, read_on, table_of, no_node_behind, no_link_behind}

-- a text without the first line of a table
pub no_head : (text : List ℕ) → ((rest : List ℕ) → text ≡ table_head ++ rest → ⊥) → IsFaultLine IsTableText text 1
no_head text none = other_head IsTableText text (codes "imdf-links 1") (Lacks-test 10 (codes "imdf-links 1") refl) (λ whole is. (_, is.1.spelled)) none

front_of : List FeatureId → List TableLink → List ℕ
front_of nodes links = table_head ++ (flat_map node_line nodes ++ flat_map link_line links)

front_is : (nodes : List FeatureId) (links : List TableLink) (rest : List ℕ) → front_of nodes links ++ rest ≡ table_head ++ (flat_map node_line nodes ++ (flat_map link_line links ++ rest))
unfolding front_of
front_is nodes links rest =
    append_assoc table_head (flat_map node_line nodes ++ flat_map link_line links) rest
    ∙ ap (λ (t : List ℕ). table_head ++ t) (append_assoc (flat_map node_line nodes) (flat_map link_line links) rest)

-- as many lines as nodes and links, and the first
front_lines : (text : List ℕ) (nodes : List FeatureId) (links : List TableLink) (rest : List ℕ) → TableRead text nodes links rest → IsLines (1 + (length nodes + length links)) (front_of nodes links)
unfolding front_of
front_lines text nodes links rest read =
    IsLines-append 1 (length nodes + length links) table_head (flat_map node_line nodes ++ flat_map link_line links)
    (IsLines-one (codes "imdf-links 1") (Lacks-test 10 (codes "imdf-links 1") refl))
    (IsLines-append (length nodes) (length links) (flat_map node_line nodes) (flat_map link_line links)
    (IsLines-items node_line node_body FitsId node_line_is (λ x fits. Lacks-node_body x) nodes read.nodes_fit)
    (IsLines-items link_line link_body (FitsLink (length nodes)) link_line_is (λ link fits. Lacks-link_body link (small_link (length nodes) link (omega (arith, read.count)) fits)) links read.links_fit))

-- what was read, and the line `end`, is a table's text
ended : (text : List ℕ) (nodes : List FeatureId) (links : List TableLink) (rest : List ℕ) → TableRead text nodes links rest → IsTableText (front_of nodes links ++ end_line)
ended text nodes links rest read =
    let table : Table = record { nodes = nodes; links = links } in
    (table, record { spelled = front_is nodes links end_line; fits = record { count = read.count; nodes = read.nodes_fit; links = read.links_fit } })

-- neither a node, nor a link, nor the end
pub no_end : (text : List ℕ) (nodes : List FeatureId) (links : List TableLink) (rest : List ℕ) → TableRead text nodes links rest → ((more : List ℕ) → rest ≡ end_line ++ more → ⊥)
    → IsFaultLine IsTableText text (1 + (length nodes + length links) + 1)
no_end text nodes links rest read none =
    next_faulty IsTableText text (front_of nodes links) rest end_line (1 + (length nodes + length links)) (read.parts ∙ sym (front_is nodes links rest))
    (front_lines text nodes links rest read) (ended text nodes links rest read)
    (λ is. none [] (table_of text nodes links rest is.0 read is.1).rest_is)
    (λ body after more cut is.
    let whole = subst (λ (t : List ℕ). IsTable t is.0) (front_is nodes links (line body ++ more)) is.1 in
    let same = table_of _ nodes links (line body ++ more) is.0 (read_on text nodes links rest body after more read cut) whole in
    let words = lines_unique body (codes "end") more [] cut.first (Lacks-test 10 (codes "end") refl) same.rest_is in
    none after (cut.parts ∙ sym (line_front body after) ∙ ap (λ (t : List ℕ). line t ++ after) words.0))

too_long : (behind : List ℕ) → 0 < length behind → end_line ++ behind ≡ end_line → ⊥
too_long behind some e = omega (arith, ap (length {A = ℕ}) e, length-append end_line behind)

line_some : (body more : List ℕ) → 0 < length (line body ++ more)
line_some body more = omega (arith, length-append (line body) more, length-append body (10 ∷ []))

-- more stands behind the end
pub text_behind : (text : List ℕ) (nodes : List FeatureId) (links : List TableLink) (rest behind : List ℕ) → TableRead text nodes links rest → rest ≡ end_line ++ behind → 0 < length behind
    → IsFaultLine IsTableText text (1 + (length nodes + length links) + 1 + 1)
text_behind text nodes links rest behind read ends some =
    let front = front_of nodes links ++ end_line in
    let whole : text ≡ front ++ behind =
    read.parts ∙ sym (front_is nodes links rest) ∙ ap (λ (t : List ℕ). front_of nodes links ++ t) ends ∙ sym (append_assoc (front_of nodes links) end_line behind) in
    next_faulty IsTableText text front behind [] (1 + (length nodes + length links) + 1) whole
    (IsLines-append (1 + (length nodes + length links)) 1 (front_of nodes links) end_line (front_lines text nodes links rest read)
    (IsLines-one (codes "end") (Lacks-test 10 (codes "end") refl)))
    (subst IsTableText (sym (append-nil front)) (ended text nodes links rest read))
    (λ is. too_long behind some (sym ends ∙ (table_of text nodes links rest is.0 read is.1).rest_is))
    (λ body after more cut is.
    let more' = line body ++ more in
    let as_read = subst (λ (t : List ℕ). IsTable t is.0) (append_assoc (front_of nodes links) end_line more' ∙ front_is nodes links (end_line ++ more')) is.1 in
    let same = table_of _ nodes links (end_line ++ more') is.0 (record {
      parts = refl;
      count = read.count;
      nodes_fit = read.nodes_fit;
      links_fit = read.links_fit;
      no_node = λ less. no_node_behind links more';
      no_link = no_link_behind (length nodes) more';
    }) as_read in
    too_long more' (line_some body more) same.rest_is)
