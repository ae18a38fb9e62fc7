-- Words, doors, passages and directions, written and read again.
use Rattle.std.proofs.Common.{◌≡◌, Bool, true, false, not, Option, Some, None, IsTrue, refl, codes}
use Rattle.std.specs.Prelude.{◌≢◌}
use Rattle.exact_json.specs.Json.{text}
use Rattle.venue_types.specs.declared.kind.Kind.{Kind}
use Rattle.venue_types.specs.declared.kind.Kind.TheVariants as kind
use Rattle.imdf_access.specs.Categories.{passage_of, meaning_of}
use Rattle.imdf_schema.specs.Values.{is_null, is_word}
use Rattle.imdf_rows.specs.Fields.{lists_word, door_is, passage_field}
use Rattle.imdf_write.specs.Values.{if_so, word_list, door_of, passage_word, direction_word}

pub marked_back : (holds : Bool) → lists_word (word_list holds (codes "wheelchair")) (codes "wheelchair") ≡ holds
marked_back true = refl
marked_back false = refl

pub out_back : (holds : Bool) → lists_word (word_list holds (codes "outofservice")) (codes "outofservice") ≡ holds
out_back true = refl
out_back false = refl

pub revolving_back : (revolving turnstile : Bool) → door_is (door_of revolving turnstile) (codes "revolving") ≡ revolving
revolving_back true turnstile = refl
revolving_back false true = refl
revolving_back false false = refl

pub turnstile_back : (revolving turnstile : Bool) → ¬ (IsTrue revolving × IsTrue turnstile) → door_is (door_of revolving turnstile) (codes "turnstile") ≡ turnstile
turnstile_back true true one = absurd (one (refl, refl))
turnstile_back true false one = refl
turnstile_back false true one = refl
turnstile_back false false one = refl

pub passage_back : (passage : Option Kind) → passage ≢ Some kind.Floor → passage_field (text (passage_word passage)) ≡ passage
unfolding passage_of meaning_of
passage_back None h = refl
passage_back (Some kind.Floor) h = absurd (h refl)
passage_back (Some kind.Elevator) h = refl
passage_back (Some kind.Escalator) h = refl
passage_back (Some kind.Movingwalkway) h = refl
passage_back (Some kind.Ramp) h = refl
passage_back (Some kind.Stairs) h = refl
passage_back (Some kind.Traversal) h = refl

pub direction_back : (directed : Bool) → is_word (text (direction_word directed)) (codes "directed") ≡ directed
direction_back true = refl
direction_back false = refl

pub restricted_back : (restricted : Bool) → not (is_null (if_so restricted (text (codes "restricted")))) ≡ restricted
restricted_back true = refl
restricted_back false = refl
