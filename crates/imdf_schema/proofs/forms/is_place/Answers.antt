use Rattle.std.proofs.Common.{◌≡◌, ◌∙◌, [], ◌∷◌, Option, Some, None, Bool, true, false, not, IfSome, IsSome, get_or, refl, sym, ap, subst, arith, codes}
use Rattle.exact_json.specs.Json.{Json, member}
use Rattle.exact_json.specs.View.{tree_view}
use Rattle.venue_types.specs.declared.point.Point.{Point}
use Rattle.geo_shapes.specs.Position.{IsPosition, BreaksPositions}
use Rattle.geo_shapes.specs.Geometry.{HasPoint, point_places, coordinates}
use Rattle.imdf_schema.specs.Values.{seen, is_word}
use Rattle.imdf_schema.proofs.forms.is_place.Goals as goal

given : {T : Type 0} (o : Option T) (P : T → Type 0) → IsSome o → IfSome o P → (x : T) × P x
given None P there has = let e : false ≡ true = there in cc
given (Some x) P there has = (x, has)

-- a value that is a position breaks none
sound_place : (v : Json) (p : Point) → HasPoint v p → BreaksPositions (point_places v) → ⊥
sound_place v p has bad =
    let first : bad.0 ≡ 0 = omega arith in
    let is : coordinates v ≡ bad.1 = ap (λ k. get_or (coordinates v ∷ []) k bad.1) (sym first) ∙ bad.3 in
    bad.4 p (subst (λ (w : Json). IsPosition w p) is has)

fine : (b : Bool) (Q : Type 0) → (b ≡ true → Q) → (Q → ⊥) → b ≡ false
fine true Q bad none = absurd (none (bad refl))
fine false Q bad none = refl

not_true : (b : Bool) → not b ≡ true → b ≡ false
not_true true e = cc
not_true false e = refl

not_false : (b : Bool) → b ≡ false → not b ≡ true
not_false b e = ap not e

pub returns-then-is_word : goal.returns-then-is_word
returns-then-is_word c =
    let v = tree_view c.in-Some.tree.now in
    let same : v ≡ seen c.args.value = sym (ap seen c.in-Some.is) in
    let word : is_word (member (seen c.args.value) (codes "type")) (codes "Point") ≡ true = ap (λ (w : Json). is_word w (codes "Point")) (sym c.member.ensures) ∙ sym c.is_word.ensures ∙ c.if-is_word.true in
    let Has : Json → Type 0 = λ w. (p : Point) × HasPoint w p in (
      (λ h.
          let fits = not_true c.point.result.bad_position h in
          (word, subst Has same (given c.point.result.value (HasPoint v) (c.point.ensures.there.1 (fits, c.point.ensures.bad_form)) c.point.ensures.value))),
      (λ place.
          let here : Has v = subst Has (sym same) place.1 in
          not_false c.point.result.bad_position (fine c.point.result.bad_position (BreaksPositions (point_places v)) c.point.ensures.bad_position.0 (λ bad. sound_place v here.0 here.1 bad))),
    )
