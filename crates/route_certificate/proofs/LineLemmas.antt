-- Lines of tables and walks are read in one way.
use Rattle.std.proofs.Common.{◌≡◌, ℕ, ◌+◌, ◌^◌, ◌<◌, ◌≤◌, List, [], ◌∷◌, ◌++◌, refl, sym, ap, ◌∙◌, append_assoc, length, length-append, take, drop, arith, codes}
use Rattle.std.proofs.lemmas.List.{append_cancel_left, take_at, drop_at, take-append-drop}
use Rattle.std.specs.Fmt.{decimal}
use Rattle.std.specs.List.{AllByRecursion}
use Rattle.venue_types.specs.declared.feature_id.FeatureId.{FeatureId}
use Rattle.venue_types.specs.Identifier.{identifier_text}
use Rattle.venue_types.proofs.IdentifierLemmas.{length-identifier_text, identifier_text-high, identifier_unique}
use Rattle.line_forms.specs.Lines.{line, word}
use Rattle.line_forms.specs.Fronts.{Lacks, IsUnique}
use Rattle.line_forms.proofs.LineLemmas.{word_unique, lines_unique, line_front, numbered_unique, Lacks-word, Lacks-number, Lacks-test}
use Rattle.route_certificate.specs.declared.table.TableLink.{TableLink}
use Rattle.route_certificate.specs.Forms.{node_body, link_body, from_body, step_body, node_line, link_line, from_line, step_line, FitsId, FitsLink, FitsStep, FitsNode}

Lacks-high : (stop low : ℕ) (bs : List ℕ) → stop < low → AllByRecursion (λ x. low ≤ x) bs → Lacks stop bs
Lacks-high stop low [] less p = tt
Lacks-high stop low (b ∷ bs) less p = (λ e. omega (arith, p.0), Lacks-high stop low bs less p.1)

pub Lacks-identifier : (stop : ℕ) (id : FeatureId) → stop < 45 → Lacks stop (identifier_text id)
Lacks-identifier stop id low = Lacks-high stop 45 (identifier_text id) low (identifier_text-high id)

-- ---- an identifier that ends its line

pub id_line_length : (id : FeatureId) (more : List ℕ) → length (line (identifier_text id) ++ more) ≡ 37 + length more
id_line_length id more =
    omega (arith, length-append (identifier_text id ++ 10 ∷ []) more, length-append (identifier_text id) (10 ∷ []), length-identifier_text id)

pub id_line_front : (id : FeatureId) (more : List ℕ) → take 36 (line (identifier_text id) ++ more) ≡ identifier_text id
id_line_front id more = ap (take 36) (line_front (identifier_text id) more) ∙ take_at (identifier_text id) (10 ∷ more) 36 (length-identifier_text id)

pub id_line_end : (id : FeatureId) (more : List ℕ) → drop 36 (line (identifier_text id) ++ more) ≡ 10 ∷ more
id_line_end id more = ap (drop 36) (line_front (identifier_text id) more) ∙ drop_at (identifier_text id) (10 ∷ more) 36 (length-identifier_text id)

pub id_line_parts : (text rest : List ℕ) (id : FeatureId) → take 36 text ≡ identifier_text id → drop 36 text ≡ 10 ∷ rest → text ≡ line (identifier_text id) ++ rest
id_line_parts text rest id front end =
    sym (take-append-drop 36 text) ∙ ap (λ (t : List ℕ). t ++ drop 36 text) front
    ∙ ap (λ (t : List ℕ). identifier_text id ++ t) end ∙ sym (line_front (identifier_text id) rest)

-- ---- the bodies of lines lack LF

pub Lacks-node_body : (id : FeatureId) → Lacks 10 (node_body id)
Lacks-node_body id = Lacks-word (codes "node") (identifier_text id) (Lacks-test 10 (codes "node") refl) (Lacks-identifier 10 id (omega arith))

pub record Small (link : TableLink) : Type 0 where
  pub from : link.from < 2 ^ 64
  pub to : link.to < 2 ^ 64
  pub cost : link.cost < 2 ^ 64

pub small_link : (nodes : ℕ) (link : TableLink) → nodes ≤ 2 ^ 32 → FitsLink nodes link → Small link
small_link nodes link few fits = record { from = omega (arith, fits.from); to = omega (arith, fits.to); cost = omega (arith, fits.cost) }

pub Lacks-link_body : (link : TableLink) → Small link → Lacks 10 (link_body link)
Lacks-link_body link small =
    Lacks-word (codes "link") _ (Lacks-test 10 (codes "link") refl)
    (Lacks-word (decimal link.from) _ (Lacks-number link.from small.from)
    (Lacks-word (decimal link.to) _ (Lacks-number link.to small.to)
    (Lacks-word (decimal link.cost) _ (Lacks-number link.cost small.cost) (Lacks-identifier 10 link.via (omega arith)))))

pub Lacks-step_body : (k : ℕ) → k < 2 ^ 64 → Lacks 10 (step_body k)
Lacks-step_body k fits = Lacks-word (codes "step") (decimal k) (Lacks-test 10 (codes "step") refl) (Lacks-number k fits)

pub Lacks-from_body : (k : ℕ) → k < 2 ^ 64 → Lacks 10 (from_body k)
Lacks-from_body k fits = Lacks-word (codes "from") (decimal k) (Lacks-test 10 (codes "from") refl) (Lacks-number k fits)

-- ---- the words of a link

-- the numbers of a link, each before a space, and what follows them
abbrev pub link_words : TableLink → List ℕ → List ℕ
link_words link end = word (decimal link.from) (word (decimal link.to) (word (decimal link.cost) end))

abbrev pub link_tail : TableLink → List ℕ
link_tail link = link_words link (identifier_text link.via)

pub link_0 : (rest end : List ℕ) (link : TableLink) → codes "link " ++ rest ≡ codes "link " ++ link_words link end → rest ≡ link_words link end
link_0 rest end link e = append_cancel_left (codes "link ") rest (link_words link end) e

pub link_1 : (from : ℕ) (rest end : List ℕ) (link : TableLink) → from < 2 ^ 64 → Small link → word (decimal from) rest ≡ link_words link end
    → (from ≡ link.from) × (rest ≡ word (decimal link.to) (word (decimal link.cost) end))
link_1 from rest end link p small e = word_unique from link.from rest _ p small.from e

pub link_2 : (from to : ℕ) (rest end : List ℕ) (link : TableLink) → from < 2 ^ 64 → to < 2 ^ 64 → Small link → word (decimal from) (word (decimal to) rest) ≡ link_words link end
    → (from ≡ link.from) × (to ≡ link.to) × (rest ≡ word (decimal link.cost) end)
link_2 from to rest end link p q small e =
    let one = link_1 from _ end link p small e in
    let two = word_unique to link.to rest _ q small.to one.1 in
    (one.0, two.0, two.1)

pub link_3 : (from to cost : ℕ) (rest end : List ℕ) (link : TableLink) → from < 2 ^ 64 → to < 2 ^ 64 → cost < 2 ^ 64 → Small link
    → word (decimal from) (word (decimal to) (word (decimal cost) rest)) ≡ link_words link end
    → (from ≡ link.from) × (to ≡ link.to) × (cost ≡ link.cost) × (rest ≡ end)
link_3 from to cost rest end link p q r small e =
    let two = link_2 from to _ end link p q small e in
    let three = word_unique cost link.cost rest _ r small.cost two.2 in
    (two.0, two.1, three.0, three.1)

word_more : (first rest more : List ℕ) → word first rest ++ more ≡ word first (rest ++ more)
word_more first rest more = append_assoc first (32 ∷ rest) more

link_words_more : (link : TableLink) (end more : List ℕ) → link_words link end ++ more ≡ link_words link (end ++ more)
link_words_more link end more =
    word_more (decimal link.from) _ more
    ∙ ap (word (decimal link.from)) (word_more (decimal link.to) _ more ∙ ap (word (decimal link.to)) (word_more (decimal link.cost) end more))

-- a line of a node is its word and the line of its identifier
pub node_line_words : (id : FeatureId) (more : List ℕ) → node_line id ++ more ≡ codes "node " ++ (line (identifier_text id) ++ more)
unfolding node_line
node_line_words id more = refl

-- a line of a link is its words and the line of its identifier
pub link_line_words : (link : TableLink) (more : List ℕ) → link_line link ++ more ≡ codes "link " ++ link_words link (line (identifier_text link.via) ++ more)
unfolding link_line
link_line_words link more =
    line_front (link_body link) more
    ∙ ap (λ (t : List ℕ). codes "link " ++ t)
    (link_words_more link (identifier_text link.via) (10 ∷ more) ∙ ap (link_words link) (sym (line_front (identifier_text link.via) more)))

-- ---- each item has one spelling

link_same : (a b : TableLink) → a.from ≡ b.from → a.to ≡ b.to → a.cost ≡ b.cost → a.via ≡ b.via → a ≡ b
link_same a b p q r s = λ i. record { from = p i; to = q i; cost = r i; via = s i }

pub node_unique : IsUnique node_line FitsId
unfolding node_line
node_unique x y a b p q e =
    let both = lines_unique (node_body x) (node_body y) a b (Lacks-node_body x) (Lacks-node_body y) e in
    (identifier_unique x y p q (append_cancel_left (codes "node ") (identifier_text x) (identifier_text y) both.0), both.1)

pub link_unique : (nodes : ℕ) → nodes ≤ 2 ^ 32 → IsUnique link_line (FitsLink nodes)
unfolding link_line
link_unique nodes few x y a b p q e =
    let x-small = small_link nodes x few p in
    let y-small = small_link nodes y few q in
    let both = lines_unique (link_body x) (link_body y) a b (Lacks-link_body x x-small) (Lacks-link_body y y-small) e in
    let parts = link_3 x.from x.to x.cost (identifier_text x.via) (identifier_text y.via) y x-small.from x-small.to x-small.cost y-small (append_cancel_left (codes "link ") (link_tail x) (link_tail y) both.0) in
    (link_same x y parts.0 parts.1 parts.2 (identifier_unique x.via y.via p.via q.via parts.3), both.1)

pub step_unique : IsUnique step_line FitsStep
unfolding step_line
step_unique x y a b p q e = numbered_unique (codes "step") x y a b (Lacks-test 10 (codes "step") refl) (omega (arith, p)) (omega (arith, q)) e

pub from_unique : (nodes : ℕ) → IsUnique from_line (FitsNode nodes)
unfolding from_line
from_unique nodes x y a b p q e = numbered_unique (codes "from") x y a b (Lacks-test 10 (codes "from") refl) (omega (arith, p.small)) (omega (arith, q.small)) e

-- ---- each item is a line

pub node_line_is : (x : FeatureId) → node_line x ≡ line (node_body x)
unfolding node_line
node_line_is x = refl

pub link_line_is : (x : TableLink) → link_line x ≡ line (link_body x)
unfolding link_line
link_line_is x = refl

pub from_line_is : (x : ℕ) → from_line x ≡ line (from_body x)
unfolding from_line
from_line_is x = refl

pub step_line_is : (x : ℕ) → step_line x ≡ line (step_body x)
unfolding step_line
step_line_is x = refl
