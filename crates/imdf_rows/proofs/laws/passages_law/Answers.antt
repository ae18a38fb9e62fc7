use Rattle.std.proofs.Common.{◌≡◌, ◌∙◌, ℕ, List, Some, sym}
use Rattle.venue_types.proofs.Zips.{zip_all}
use Rattle.venue_types.specs.declared.kind.Kind.TheVariants as kind
use Rattle.imdf_access.specs.declared.meaning.Meaning.{Meaning}
use Rattle.imdf_access.specs.declared.meaning.Meaning.TheVariants.{Elevator, Escalator, Movingwalkway, Ramp, Stairs, Steps, Traversal, Ground, Solid, Unknown}
use Rattle.imdf_access.specs.Categories.{kind_between, meaning_of, passage_of}
use Rattle.imdf_schema.specs.Contents.{content_items}
use Rattle.imdf_rows.specs.Laws.{IsPassageOrNone}
use Rattle.imdf_rows.specs.Rows.{IsRelationshipRow}
use Rattle.imdf_rows.proofs.laws.passages_law.Goals as goal

no_floor : (m : Meaning) → kind_between m ≡ Some kind.Floor → ⊥
no_floor Elevator e = cc
no_floor Escalator e = cc
no_floor Movingwalkway e = cc
no_floor Ramp e = cc
no_floor Stairs e = cc
no_floor Steps e = cc
no_floor Traversal e = cc
no_floor Ground e = cc
no_floor Solid e = cc
no_floor Unknown e = cc

no_floor_passage : (category : List ℕ) → passage_of category ≡ Some kind.Floor → ⊥
unfolding passage_of
no_floor_passage category e = no_floor (meaning_of category) e

pub returns : goal.returns
returns c = λ files features are. zip_all IsRelationshipRow IsPassageOrNone
    (λ v row is e. no_floor_passage _ (sym is.kind ∙ e))
    (content_items are.relationships.content) features.relationships are.relationships.each
