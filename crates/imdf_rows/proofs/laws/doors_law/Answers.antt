use Rattle.std.proofs.Common.{◌≡◌, ◌∙◌, ℕ, List, true, get_or, refl, ap, sym, arith, codes}
use Rattle.std.specs.Str.{bytes_eq}
use Rattle.std.proofs.lemmas.Slice.Eq.{bytes_eq-Decides}
use Rattle.venue_types.proofs.Zips.{zip_all}
use Rattle.exact_json.specs.Json.{Json, member}
use Rattle.imdf_access.specs.Categories.{before_dot}
use Rattle.imdf_schema.specs.declared.table.Property.TheVariants as property
use Rattle.imdf_schema.specs.Contents.{content_items}
use Rattle.imdf_schema.specs.Items as item
use Rattle.imdf_rows.specs.Fields.{text_field}
use Rattle.imdf_rows.specs.Laws.{IsOneDoor}
use Rattle.imdf_rows.specs.Rows.{IsOpeningRow}
use Rattle.imdf_rows.proofs.laws.doors_law.Goals as goal

apart : (a b : ℕ) → a ≡ b → a ≡ 114 → b ≡ 116 → ⊥
apart a b same r t = omega arith

two_words : codes "revolving" ≡ codes "turnstile" → ⊥
two_words e = apart (get_or (codes "revolving") 0 0) (get_or (codes "turnstile") 0 0) (ap (λ (word : List ℕ). get_or word 0 0) e) refl refl

-- a word is one
one_word : (word : List ℕ) → bytes_eq word (codes "revolving") ≡ true → bytes_eq word (codes "turnstile") ≡ true → ⊥
one_word word a b = two_words (sym ((bytes_eq-Decides word (codes "revolving")).0 a) ∙ (bytes_eq-Decides word (codes "turnstile")).0 b)

abbrev door_word : Json → List ℕ
door_word v = before_dot (text_field (member (item.property v property.Door) (codes "type")))

pub returns : goal.returns
returns c = λ files features are. zip_all IsOpeningRow IsOneDoor
    (λ v row is both. one_word (door_word v) (sym is.revolving ∙ both.0) (sym is.turnstile ∙ both.1))
    (content_items are.openings.content) features.openings are.openings.each
