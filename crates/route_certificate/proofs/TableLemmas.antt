-- What was read of a table is what any table with this text has.
use Rattle.std.proofs.Common.{◌≡◌, ℕ, ◌^◌, ◌<◌, ◌≤◌, List, [], ◌∷◌, ◌++◌, length, refl, sym, ap, subst, ◌∙◌, append_assoc, arith}
use Rattle.std.proofs.lemmas.List.{append_cancel_left, length-append, append-nil}
use Rattle.std.specs.List.{flat_map, AllByRecursion}
use Rattle.venue_types.specs.declared.feature_id.FeatureId.{FeatureId}
use Rattle.line_forms.specs.Lines.{line}
use Rattle.line_forms.specs.Fronts.{HasNone, IsSplitAt, IsFront}
use Rattle.line_forms.proofs.ListLemmas.{fronts_agree, fronts_split, differ, length-flat_map-le}
use Rattle.line_forms.proofs.FaultLemmas.{HasNone-line}
use Rattle.route_certificate.specs.declared.table.TableLink.{TableLink}
use Rattle.route_certificate.specs.declared.table.Table.{Table}
use Rattle.route_certificate.specs.Forms.{node_line, link_line, node_body, link_body, end_line, table_head, FitsId, FitsLink, IsTable}
use Rattle.route_certificate.specs.Fronts.{IsNodeFront}
use Rattle.route_certificate.proofs.LineLemmas.{node_unique, link_unique, node_line_is, link_line_is, Lacks-node_body, Lacks-link_body, small_link}

-- ---- no node and no link where others stand

pub no_node_behind : (links : List TableLink) (tail : List ℕ) → HasNone node_line FitsId (flat_map link_line links ++ (end_line ++ tail))
unfolding node_line link_line
no_node_behind [] tail x more fits e = differ 101 110 _ _ e (λ h. omega arith)
no_node_behind (link ∷ links) tail x more fits e = differ 108 110 _ _ e (λ h. omega arith)

pub no_link_behind : (nodes : ℕ) (tail : List ℕ) → HasNone link_line (FitsLink nodes) (end_line ++ tail)
unfolding link_line
no_link_behind nodes tail x more fits e = differ 101 108 _ _ e (λ h. omega arith)

no_node_first : (link : TableLink) (links : List TableLink) (tail : List ℕ) → HasNone node_line FitsId (flat_map link_line (link ∷ links) ++ tail)
unfolding node_line link_line
no_node_first link links tail x more fits e = differ 108 110 _ _ e (λ h. omega arith)

-- ---- how far a table's text was read

pub record TableRead (text : List ℕ) (nodes : List FeatureId) (links : List TableLink) (rest : List ℕ) : Type 0 where
  pub parts : text ≡ table_head ++ (flat_map node_line nodes ++ (flat_map link_line links ++ rest))
  pub count : length nodes ≤ 400000
  pub nodes_fit : AllByRecursion FitsId nodes
  pub links_fit : AllByRecursion (FitsLink (length nodes)) links
  pub no_node : length nodes < 400000 → HasNone node_line FitsId (flat_map link_line links ++ rest)
  pub no_link : HasNone link_line (FitsLink (length nodes)) rest

pub table_read : (text rest more end : List ℕ) (nodes : List FeatureId) (links : List TableLink) (count : ℕ) → text ≡ table_head ++ rest → IsNodeFront nodes rest more
    → count ≡ length nodes → IsFront link_line (FitsLink count) links more end → TableRead text nodes links end
table_read text rest more end nodes links count head front count-is front' = record {
  parts = head ∙ ap (λ (t : List ℕ). table_head ++ t) (front.parts ∙ ap (λ (t : List ℕ). flat_map node_line nodes ++ t) front'.parts);
  count = front.count;
  nodes_fit = front.fit;
  links_fit = subst (λ (n : ℕ). AllByRecursion (FitsLink n) links) count-is front'.fit;
  no_node = λ less. subst (HasNone node_line FitsId) front'.parts (front.all less);
  no_link = subst (λ (n : ℕ). HasNone link_line (FitsLink n) end) count-is front'.all;
}

-- the same where the rest is another text with the same first line
pub read_on : (text : List ℕ) (nodes : List FeatureId) (links : List TableLink) (rest body after more : List ℕ) → TableRead text nodes links rest → IsSplitAt 10 rest body after
    → TableRead (table_head ++ (flat_map node_line nodes ++ (flat_map link_line links ++ (line body ++ more)))) nodes links (line body ++ more)
read_on text nodes [] rest body after more read cut = record {
  parts = refl;
  count = read.count;
  nodes_fit = read.nodes_fit;
  links_fit = read.links_fit;
  no_node = λ less. HasNone-line node_line node_body FitsId node_line_is (λ x fits. Lacks-node_body x) rest body after more (read.no_node less) cut;
  no_link = HasNone-line link_line link_body (FitsLink (length nodes)) link_line_is (λ link fits. Lacks-link_body link (small_link (length nodes) link (omega (arith, read.count)) fits)) rest body after more read.no_link cut;
}
read_on text nodes (first ∷ links) rest body after more read cut = record {
  parts = refl;
  count = read.count;
  nodes_fit = read.nodes_fit;
  links_fit = read.links_fit;
  no_node = λ less. no_node_first first links (line body ++ more);
  no_link = HasNone-line link_line link_body (FitsLink (length nodes)) link_line_is (λ link fits. Lacks-link_body link (small_link (length nodes) link (omega (arith, read.count)) fits)) rest body after more read.no_link cut;
}

-- ---- the table of such a text

first_fits : (xs ys : List FeatureId) (x : FeatureId) → AllByRecursion FitsId (xs ++ x ∷ ys) → FitsId x
first_fits [] ys x p = p.0
first_fits (y ∷ xs) ys x p = first_fits xs ys x p.1

no_others : (nodes others : List FeatureId) (tail rest : List ℕ) → length (nodes ++ others) ≤ 400000 → AllByRecursion FitsId (nodes ++ others) → (length nodes < 400000 → HasNone node_line FitsId rest)
    → rest ≡ flat_map node_line others ++ tail → (others ≡ []) × (rest ≡ tail)
no_others nodes [] tail rest count fits none e = (refl, e)
no_others nodes (x ∷ others) tail rest count fits none e =
    absurd (none (omega (arith, count, length-append nodes (x ∷ others))) x (flat_map node_line others ++ tail) (first_fits nodes others x fits)
    (e ∙ append_assoc (node_line x) (flat_map node_line others) tail))

pub record SameTable (nodes : List FeatureId) (links : List TableLink) (rest : List ℕ) (table : Table) : Type 0 where
  pub nodes_are : nodes ≡ table.nodes
  pub links_are : links ≡ table.links
  pub rest_is : rest ≡ end_line

pub table_of : (text : List ℕ) (nodes : List FeatureId) (links : List TableLink) (rest : List ℕ) (table : Table) → TableRead text nodes links rest → IsTable text table → SameTable nodes links rest table
table_of text nodes links rest table read is =
    let tail = flat_map link_line table.links ++ end_line in
    let behind = flat_map link_line links ++ rest in
    let whole : flat_map node_line nodes ++ behind ≡ flat_map node_line table.nodes ++ tail =
    append_cancel_left table_head (flat_map node_line nodes ++ behind) (flat_map node_line table.nodes ++ tail) (sym read.parts ∙ is.spelled) in
    let split = fronts_split node_line FitsId node_unique nodes table.nodes behind tail read.nodes_fit is.fits.nodes (no_node_behind table.links []) whole in
    let all : AllByRecursion FitsId (nodes ++ split.others) = subst (AllByRecursion FitsId) split.items is.fits.nodes in
    let few : length (nodes ++ split.others) ≤ 400000 = subst (λ (xs : List FeatureId). length xs ≤ 400000) split.items is.fits.count in
    let last = no_others nodes split.others tail behind few all read.no_node split.rest_is in
    let same : nodes ≡ table.nodes = sym (append-nil nodes) ∙ ap (λ (xs : List FeatureId). nodes ++ xs) (sym last.0) ∙ sym split.items in
    let fits : AllByRecursion (FitsLink (length nodes)) table.links = subst (λ (xs : List FeatureId). AllByRecursion (FitsLink (length xs)) table.links) (sym same) is.fits.links in
    let both = fronts_agree link_line (FitsLink (length nodes)) (link_unique (length nodes) (omega (arith, read.count))) links table.links rest end_line read.links_fit fits read.no_link (no_link_behind (length nodes) []) last.1 in
    record { nodes_are = same; links_are = both.0; rest_is = both.1 }

table_same : (a b : Table) → a.nodes ≡ b.nodes → a.links ≡ b.links → a ≡ b
table_same a b p q = λ i. record { nodes = p i; links = q i }

pub one_table : (text : List ℕ) (a b : Table) → IsTable text a → IsTable text b → a ≡ b
one_table text a b p q =
    let same = table_of text a.nodes a.links end_line b (record {
      parts = p.spelled;
      count = p.fits.count;
      nodes_fit = p.fits.nodes;
      links_fit = p.fits.links;
      no_node = λ less. no_node_behind a.links [];
      no_link = no_link_behind (length a.nodes) [];
    }) q in
    table_same a b same.nodes_are same.links_are

-- ---- the links are fewer than the bytes

node_some : (id : FeatureId) → 0 < length (node_line id)
unfolding node_line
node_some id = omega (arith, length-append (node_body id) (10 ∷ []))

link_some : (link : TableLink) → 0 < length (link_line link)
unfolding link_line
link_some link = omega (arith, length-append (link_body link) (10 ∷ []))

pub few_links : (text : List ℕ) (nodes : List FeatureId) (links : List TableLink) (rest : List ℕ) → TableRead text nodes links rest → length text < 2 ^ 32 → length links < 2 ^ 32
few_links text nodes links rest read small =
    omega (
      arith,
      ap (length {A = ℕ}) read.parts,
      length-append table_head (flat_map node_line nodes ++ (flat_map link_line links ++ rest)),
      length-append (flat_map node_line nodes) (flat_map link_line links ++ rest),
      length-append (flat_map link_line links) rest,
      length-flat_map-le link_line link_some links,
    )
