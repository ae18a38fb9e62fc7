-- What several values in turn are read into.
use Rattle.std.proofs.Common.{◌≡◌, ℕ, ◌+◌, ◌<◌, max, List, [], ◌∷◌, ◌++◌, length, get_or, map, take, Bool, true, false, ◌||◌, IsTrue, Option, Some, None, IfSome, IsSome, ◌⊎◌, inl, inr, ◌↔◌, refl, sym, ap, ◌∙◌, subst, arith}
use Rattle.std.specs.Option.{option_to_list}
use Rattle.std.specs.List.{flat_map, AllZip}
use Rattle.std.proofs.lemmas.List.{append-nil, length-append}
use Rattle.std.proofs.lemmas.Grind.{flat_map-append}
use Rattle.std.proofs.lemmas.Slice.Zip.{all_zipped_more}
use Rattle.std.proofs.lemmas.Bool.Decides.{Decides-at, Decides-like, Decides-or}
use Rattle.exact_json.specs.Json.{Json}
use Rattle.geo_shapes.specs.declared.read_geometry.ReadGeometry.{ReadGeometry}
use Rattle.geo_shapes.specs.declared.gathered.Gathered.{Gathered}
use Rattle.geo_shapes.specs.Position.{IsNoPosition, BreaksPositions}
use Rattle.geo_shapes.specs.Geometry.{longest_of}
use Rattle.geo_shapes.specs.Reading.{Reads, Gathers, Adds, IsFresh}
use Rattle.geo_shapes.proofs.Lists.{any_here, any_cons, any_none, any_left, any_right, any_either, front_more}

pub longest_of-append : (xs ys : List Json) → longest_of (xs ++ ys) ≡ max (longest_of xs) (longest_of ys)
longest_of-append [] ys = omega arith
longest_of-append (x ∷ xs) ys = let rest = longest_of-append xs ys in omega arith

pub flat_map_last : {X A : Type 0} (f : X → List A) (xs : List X) (x : X) → flat_map f (xs ++ x ∷ []) ≡ flat_map f xs ++ f x
flat_map_last f xs x = flat_map-append f xs (x ∷ []) ∙ ap (λ ys. flat_map f xs ++ ys) (append-nil (f x))

pub either_true : (a b c : Bool) {P Q R : Type 0} → c ≡ (a || b) → IsTrue a ↔ P → IsTrue b ↔ Q → (P ⊎ Q → R) → (R → P ⊎ Q) → IsTrue c ↔ R
either_true a b c is f g join split = Decides-at c (a || b) is (Decides-like (a || b) join split (Decides-or a b f g))

pub left_false : (a b c : Bool) → c ≡ (a || b) → c ≡ false → a ≡ false
left_false true b c is off = absurd (cc)
left_false false b c is off = refl

pub right_false : (a b c : Bool) → c ≡ (a || b) → c ≡ false → b ≡ false
right_false true b c is off = absurd (cc)
right_false false b c is off = sym is ∙ off

-- the figure that is there
pub there_is : {T : Type 0} (Is : T → Type 0) (value : Option T) → IfSome value Is → IsSome value → (v : T) × (option_to_list value ≡ v ∷ []) × Is v
there_is Is None is some = absurd (cc)
there_is Is (Some v) is some = (v, refl, is)

pub gathers_none : {T : Type 0} (Is : Json → T → Type 0) (Breaks : Json → Type 0) (places rings : Json → List Json) (g : Gathered T) → IsFresh g → Gathers Is Breaks places rings [] g
gathers_none {T} Is Breaks places rings g fresh = record {
  figures = λ _ _. let P : List T → Type 0 = λ ys. AllZip Is [] ys in subst P (sym fresh.figures) tt;
  bad_position = (λ t. absurd (let e = fresh.bad_position in cc), λ a. absurd (any_none IsNoPosition a));
  bad_form = (λ t. absurd (let e = fresh.bad_form in cc), λ a. absurd (any_none Breaks a));
  positions = let e = fresh.positions in omega arith;
  longest = fresh.longest;
}

pub gathers_more : {T : Type 0} (Is : Json → T → Type 0) (Breaks : Json → Type 0) (places rings : Json → List Json) (xs : List Json) (x : Json) (old new : Gathered T) (read : ReadGeometry T)
    → Gathers Is Breaks places rings xs old → Reads (Is x) (Breaks x) (places x) (rings x) read → Adds old read new → Gathers Is Breaks places rings (xs ++ x ∷ []) new
gathers_more {T} Is Breaks places rings xs x old new read before here adds = record {
  figures = λ p f.
      let old_figures = before.figures (left_false old.bad_position read.bad_position new.bad_position adds.bad_position p) (left_false old.bad_form read.bad_form new.bad_form adds.bad_form f) in
      let some = here.there.1 (right_false old.bad_position read.bad_position new.bad_position adds.bad_position p, right_false old.bad_form read.bad_form new.bad_form adds.bad_form f) in
      let found = there_is (Is x) read.value here.value some in
      let P : List T → Type 0 = λ ys. AllZip Is (xs ++ x ∷ []) ys in
      subst P (sym (adds.figures ∙ ap (λ ys. old.figures.items ++ ys) found.1)) (all_zipped_more Is xs old.figures.items x found.0 old_figures found.2);
  bad_position =
      let P : List Json → Type 0 = BreaksPositions in
      either_true old.bad_position read.bad_position new.bad_position adds.bad_position before.bad_position here.bad_position
      (λ either. subst P (sym (flat_map_last places xs x)) (elim either [ inl a ↦ any_left IsNoPosition (flat_map places xs) (places x) a | inr b ↦ any_right IsNoPosition (flat_map places xs) (places x) b ]))
      (λ any. any_either IsNoPosition (flat_map places xs) (places x) (subst P (flat_map_last places xs x) any));
  bad_form =
      either_true old.bad_form read.bad_form new.bad_form adds.bad_form before.bad_form here.bad_form
      (λ either. elim either [ inl a ↦ any_left Breaks xs (x ∷ []) a | inr b ↦ any_right Breaks xs (x ∷ []) (any_here Breaks x [] b) ])
      (λ any. elim (any_either Breaks xs (x ∷ []) any) [ inl a ↦ inl a | inr b ↦ elim (any_cons Breaks x [] b) [ inl p ↦ inr p | inr n ↦ absurd (any_none Breaks n) ] ]);
  positions =
      let count : length (flat_map places (xs ++ x ∷ [])) ≡ length (flat_map places xs) + length (places x) = ap length (flat_map_last places xs x) ∙ length-append (flat_map places xs) (places x) in
      let a = before.positions in
      let b = here.positions in
      let c = adds.positions in
      omega arith;
  longest =
      let all : longest_of (flat_map rings (xs ++ x ∷ [])) ≡ max (longest_of (flat_map rings xs)) (longest_of (rings x)) = ap longest_of (flat_map_last rings xs x) ∙ longest_of-append (flat_map rings xs) (rings x) in
      let a = before.longest in
      let b = here.longest in
      let c = adds.longest in
      omega arith;
}

-- the step of a loop over trees
pub gathers_step : {A T : Type 0} (Is : Json → T → Type 0) (Breaks : Json → Type 0) (places rings : Json → List Json) (view : A → Json) (xs : List A) (i : ℕ) (x : A) (old new : Gathered T) (read : ReadGeometry T)
    → i < length xs → x ≡ get_or xs i x
    → Gathers Is Breaks places rings (map view (take i xs)) old → Reads (Is (view x)) (Breaks (view x)) (places (view x)) (rings (view x)) read → Adds old read new
    → Gathers Is Breaks places rings (map view (take (i + 1) xs)) new
gathers_step Is Breaks places rings view xs i x old new read below at before here adds =
    let P : List Json → Type 0 = λ zs. Gathers Is Breaks places rings zs new in
    subst P (sym (front_more view xs i x below at)) (gathers_more Is Breaks places rings (map view (take i xs)) (view x) old new read before here adds)
