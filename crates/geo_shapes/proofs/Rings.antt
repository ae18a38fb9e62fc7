-- The ends of a list of positions.
use Rattle.std.proofs.Common.{◌≡◌, ◌≢◌, ℕ, ℤ, zero, suc, ◌-◌, ◌<◌, List, [], ◌∷◌, length, map, slice_get, Option, Some, None, Vec, Bor, Bool, true, false, IsTrue, option_map, ◌↔◌, refl, sym, ap, ◌∙◌, subst, arith}
use Rattle.std.specs.List.{AllZip}
use Rattle.std.specs.Option.{option_copied}
use Rattle.std.specs.Ordering.{int_eq}
use Rattle.std.proofs.lemmas.Bool.Decides.{Decides-int_eq}
use Rattle.std.proofs.lemmas.Option.{slice_get-map}
use Rattle.std.proofs.lemmas.Slice.Zip.{AllZip-long}
use Rattle.exact_json.specs.Json.{Json}
use Rattle.geo_decimal.specs.Laws.{HasOneValue}
use Rattle.venue_types.specs.declared.point.Point.{Point}
use Rattle.geo_shapes.specs.Position.{IsPosition}
use Rattle.geo_shapes.specs.Figure.{IsOpen}
use Rattle.geo_shapes.specs.Reading.{ReadsPosition, ReadsMaybe, ReadsPositions, AreApart}
use Rattle.geo_shapes.proofs.Positions.{one_position}

-- where all are positions, each place has one
pub all_zip_at : (xs : List Json) (ys : List Point) (k : ℕ) → AllZip IsPosition xs ys → ReadsMaybe (slice_get xs k) (slice_get ys k)
all_zip_at [] [] k h = refl
all_zip_at [] (y ∷ ys) k h = absurd h
all_zip_at (x ∷ xs) [] k h = absurd h
all_zip_at (x ∷ xs) (y ∷ ys) zero h = h.0
all_zip_at (x ∷ xs) (y ∷ ys) (suc k) h = all_zip_at xs ys k h.1

read_is : HasOneValue → (v : Json) (a : Option Point) (p : Point) → ReadsPosition v a → IsPosition v p → a ≡ Some p
read_is one v None p reads is = absurd (reads p is)
read_is one v (Some q) p reads is = ap Some (one_position one v q p reads is)

apart_of : (a b : Option Point) (p q : Point) → a ≡ Some p → b ≡ Some q → p ≢ q → AreApart a b
apart_of a b p q left right apart =
    let P : Option Point → Type 0 = λ o. AreApart o b in
    let Q : Option Point → Type 0 = λ o. AreApart (Some p) o in
    subst P (sym left) (subst Q (sym right) apart)

open_from : (xs : List Json) (f l : Option Json) (a b : Option Point) → slice_get xs 0 ≡ f → slice_get xs (length xs - 1) ≡ l
    → ReadsMaybe f a → ReadsMaybe l b → AreApart a b → IsOpen xs
open_from xs (Some v) (Some w) (Some p) (Some q) first last x y apart =
    record { first = v; last = w; start = p; end = q; first_item = first; last_item = last; starts = x; ends = y; apart = apart }
open_from xs None l (Some p) b first last x y apart = absurd (cc)
open_from xs (Some v) None (Some p) (Some q) first last x y apart = absurd (cc)
open_from xs f l None b first last x y apart = absurd apart
open_from xs f l (Some p) None first last x y apart = absurd apart

-- the list is open where what is read of its ends is apart
pub open_ends : HasOneValue → (xs : List Json) (a b : Option Point) → ReadsMaybe (slice_get xs 0) a → ReadsMaybe (slice_get xs (length xs - 1)) b → AreApart a b ↔ IsOpen xs
open_ends one xs a b first last = (
  open_from xs _ _ a b refl refl first last,
  λ o.
      let P : Option Json → Type 0 = λ v. ReadsMaybe v a in
      let Q : Option Json → Type 0 = λ v. ReadsMaybe v b in
      apart_of a b o.start o.end (read_is one o.first a o.start (subst P o.first_item first) o.starts) (read_is one o.last b o.end (subst Q o.last_item last) o.ends) o.apart,
)

copied_map : {T X : Type 0} (view : T → X) (o : Option (Bor T)) → option_map (λ t. view t.now) o ≡ option_map view (option_copied o)
copied_map view None = refl
copied_map view (Some t) = refl

-- an end of the list of trees
pub maybe_at : {T : Type 0} (view : T → Json) (ts : List T) (k : ℕ) (o : Option (Bor T)) (a : Option Point) → option_copied o ≡ slice_get ts k
    → ReadsMaybe (option_map (λ t. view t.now) o) a → ReadsMaybe (slice_get (map view ts) k) a
maybe_at view ts k o a is reads =
    let P : Option Json → Type 0 = λ v. ReadsMaybe v a in
    subst P (copied_map view o ∙ ap (option_map view) is ∙ sym (slice_get-map view ts k)) reads

-- an end of the list of points
pub point_at : (xs : List Json) (ys : List Point) (k j : ℕ) (a : Option Point) → AllZip IsPosition xs ys → k ≡ j → a ≡ slice_get ys k → ReadsMaybe (slice_get xs j) a
point_at xs ys k j a h same is =
    let P : Option Point → Type 0 = λ o. ReadsMaybe (slice_get xs j) o in
    subst P (sym (is ∙ ap (slice_get ys) same)) (all_zip_at xs ys j h)

pub both_ways : {P Q R : Type 0} → P ↔ Q → Q ↔ R → P ↔ R
both_ways f g = (λ p. g.0 (f.0 p), λ r. f.1 (g.1 r))

pub known_points : {Z : Type 0} (xs : List Json) (o : Option (Vec Point Z)) (v : Vec Point Z) → o ≡ Some v → ReadsPositions xs o → AllZip IsPosition xs v.items
known_points {Z} xs o v is h = let P : Option (Vec Point Z) → Type 0 = ReadsPositions xs in subst P is h

stable : {P : Type 0} (r : Bool) → IsTrue r ↔ P → ¬ (¬ P) → P
stable true d h = d.0 refl
stable false d h = absurd (h (λ p. let e = d.1 p in cc))

-- points that don't differ are one
same_point : (p q : Point) → ¬ (p ≢ q) → p ≡ q
same_point p q h =
    let x = stable (int_eq p.x q.x) (Decides-int_eq p.x q.x) (λ n. h (λ e. n (ap (λ r. r.x) e))) in
    let y = stable (int_eq p.y q.y) (Decides-int_eq p.y q.y) (λ n. h (λ e. n (ap (λ r. r.y) e))) in
    let make : ℤ → ℤ → Point = λ a b. record { x = a; y = b } in
    ap (λ a. make a p.y) x ∙ ap (λ b. make q.x b) y

not_apart : (a b : Option Point) (p q : Point) → a ≡ Some p → b ≡ Some q → ¬ AreApart a b → a ≡ b
not_apart a b p q left right h = left ∙ ap Some (same_point p q (λ n. h (apart_of a b p q left right n))) ∙ sym right

has_item : {X : Type 0} (xs : List X) (k : ℕ) → k < length xs → (x : X) × (slice_get xs k ≡ Some x)
has_item [] k below = absurd (omega arith)
has_item (x ∷ xs) zero below = (x, refl)
has_item (x ∷ xs) (suc k) below = has_item xs k (omega arith)

-- a ring that isn't open is closed
pub closed_ring : HasOneValue → (xs : List Json) (ys : List Point) → 0 < length ys → AllZip IsPosition xs ys → ¬ IsOpen xs → slice_get ys 0 ≡ slice_get ys (length ys - 1)
closed_ring one xs ys some h shut =
    let long : length ys ≡ length xs = AllZip-long IsPosition xs ys h in
    let first = has_item ys 0 some in
    let last = has_item ys (length ys - 1) (omega arith) in
    let start = all_zip_at xs ys 0 h in
    let end = point_at xs ys (length ys - 1) (length xs - 1) (slice_get ys (length ys - 1)) h (ap (λ n. n - 1) long) refl in
    not_apart (slice_get ys 0) (slice_get ys (length ys - 1)) first.0 last.0 first.1 last.1 (λ apart. shut ((open_ends one xs _ _ start end).0 apart))
