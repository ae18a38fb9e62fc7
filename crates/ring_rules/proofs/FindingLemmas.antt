-- What is found in rings one after another, from what is found in each.
use Rattle.std.proofs.Common.{◌≡◌, ℕ, zero, suc, ◌+◌, ◌<◌, ◌≤◌, Bool, IsTrue, ◌↔◌, ◌⊎◌, inl, inr, List, [], ◌∷◌, ◌++◌, length, get_or, take, map, flat_map, Some, None, refl, sym, subst, ap, ◌∙◌, arith}
use Rattle.std.specs.Prelude.{slice_get}
use Rattle.std.proofs.lemmas.List.{length-append, length-map, length-take-le, map-append, take_more}
use Rattle.std.proofs.lemmas.Option.{same_Some}
use Rattle.venue_types.specs.declared.finding.Finding.{Finding}
use Rattle.venue_types.specs.declared.point.Ring.{Ring}
use Rattle.venue_types.specs.declared.point.Part.{Part}
use Rattle.venue_types.specs.declared.point.Shape.{Shape}
use Rattle.venue_types.specs.declared.folder_file.File.{File}
use Rattle.rule_reports.specs.Passes.{Adds, found}
use Rattle.rule_reports.proofs.Adding.{Adds-same, Adds-found, Adds-then, Among}
use Rattle.imdf_schema.specs.declared.rules.Rule.{Rule}
use Rattle.imdf_schema.specs.declared.rules.Rule.TheVariants.{G3, G4, G5}
use Rattle.ring_rules.specs.Rings.{Placed, as_hole, placed_in, placed_rings, LeavesBorder}
use Rattle.ring_rules.specs.Rules.{RingBreaks}
use Rattle.imdf_schema.specs.Places.{finding_at}
use Rattle.ring_rules.specs.Findings.{FindsRule, FindsInRing, FindsFrom, FindsInShapes, alone}
use Rattle.ring_rules.proofs.BoundsLemmas.{flat_map_step}

-- ---- the rules on one ring

-- a test that decides a rule
pub adds_rule : (rule : Rule) (source : File) (i n : ℕ) (placed : Placed) (holds : Bool) (place : Finding) (old new : List Finding)
    → new ≡ old ++ found holds place → IsTrue holds ↔ RingBreaks rule placed → place ≡ finding_at rule source i n → Adds (FindsRule source i n placed rule) old new
adds_rule rule source i n placed holds place old new is decides at = Adds-found (FindsRule source i n placed rule) holds place old new is
    (λ t. record { breaks = decides.0 t; is = at })
    (λ x h. (decides.1 h.breaks, h.is ∙ sym at))

no_border : (ring : Ring) → LeavesBorder (alone ring) → ⊥
no_border ring h = let e : None ≡ Some h.border = h.hole in cc

alone_split : (source : File) (i n : ℕ) (ring : Ring) (x : Finding) (rule : Rule) → RingBreaks rule (alone ring) → x ≡ finding_at rule source i n
    → FindsRule source i n (alone ring) G3 x ⊎ FindsRule source i n (alone ring) G5 x
alone_split source i n ring x G3 h e = inl (record { breaks = h; is = e })
alone_split source i n ring x G4 h e = absurd (no_border ring h)
alone_split source i n ring x G5 h e = inr (record { breaks = h; is = e })
alone_split source i n ring x _ h e = absurd h

-- of a ring that is no hole
pub adds_alone : (source : File) (i n : ℕ) (ring : Ring) (a b c : List Finding) → Adds (FindsRule source i n (alone ring) G3) a b → Adds (FindsRule source i n (alone ring) G5) b c → Adds (FindsInRing source i n (alone ring)) a c
adds_alone source i n ring a b c one other = Adds-then (FindsInRing source i n (alone ring)) one other
    (λ x h. record { rule = G3; breaks = h.breaks; is = h.is })
    (λ x h. record { rule = G5; breaks = h.breaks; is = h.is })
    (λ x h. alone_split source i n ring x h.rule h.breaks h.is)

hole_also : (source : File) (i n : ℕ) (border ring : Ring) (x : Finding) (rule : Rule) → RingBreaks rule (alone ring) → x ≡ finding_at rule source i n → FindsInRing source i n (as_hole border ring) x
hole_also source i n border ring x G3 h e = record { rule = G3; breaks = h; is = e }
hole_also source i n border ring x G4 h e = absurd (no_border ring h)
hole_also source i n border ring x G5 h e = record { rule = G5; breaks = h; is = e }
hole_also source i n border ring x _ h e = absurd h

hole_split : (source : File) (i n : ℕ) (border ring : Ring) (x : Finding) (rule : Rule) → RingBreaks rule (as_hole border ring) → x ≡ finding_at rule source i n
    → FindsRule source i n (as_hole border ring) G4 x ⊎ FindsInRing source i n (alone ring) x
hole_split source i n border ring x G3 h e = inr (record { rule = G3; breaks = h; is = e })
hole_split source i n border ring x G4 h e = inl (record { breaks = h; is = e })
hole_split source i n border ring x G5 h e = inr (record { rule = G5; breaks = h; is = e })
hole_split source i n border ring x _ h e = absurd h

-- of a hole
pub adds_hole : (source : File) (i n : ℕ) (border ring : Ring) (a b c : List Finding) → Adds (FindsRule source i n (as_hole border ring) G4) a b → Adds (FindsInRing source i n (alone ring)) b c → Adds (FindsInRing source i n (as_hole border ring)) a c
adds_hole source i n border ring a b c one other = Adds-then (FindsInRing source i n (as_hole border ring)) one other
    (λ x h. record { rule = G4; breaks = h.breaks; is = h.is })
    (λ x h. hole_also source i n border ring x h.rule h.breaks h.is)
    (λ x h. hole_split source i n border ring x h.rule h.breaks h.is)

-- ---- items of joined lists

at_left : {X : Type 0} (xs ys : List X) (k : ℕ) (x : X) → slice_get xs k ≡ Some x → slice_get (xs ++ ys) k ≡ Some x
at_left [] ys k x e = absurd cc
at_left (z ∷ zs) ys zero x e = e
at_left (z ∷ zs) ys (suc k) x e = at_left zs ys k x e

at_right : {X : Type 0} (xs ys : List X) (k : ℕ) (x : X) → slice_get ys k ≡ Some x → slice_get (xs ++ ys) (length xs + k) ≡ Some x
at_right [] ys k x e = let zero_more : 0 + k ≡ k = omega arith in rw zero_more e
at_right (z ∷ zs) ys k x e = let more : length (z ∷ zs) + k ≡ suc (length zs + k) = omega arith in rw more (at_right zs ys k x e)

record IsAt {X : Type 0} (xs ys : List X) (k : ℕ) (x : X) : Type 0 where
  place : ℕ
  is : k ≡ length xs + place
  there : slice_get ys place ≡ Some x

at_cases : {X : Type 0} (xs ys : List X) (k : ℕ) (x : X) → slice_get (xs ++ ys) k ≡ Some x → (slice_get xs k ≡ Some x) ⊎ IsAt xs ys k x
at_cases [] ys k x e = inr (record { place = k; is = omega arith; there = e })
at_cases (z ∷ zs) ys zero x e = inl e
at_cases (z ∷ zs) ys (suc k) x e = elim (at_cases zs ys k x e) [
  | inl here ↦ inl here
  | inr there ↦ inr (record { place = there.place; is = omega (arith, there.is); there = there.there })
]

-- ---- rings one after another

pub adds_none : (source : File) (i n : ℕ) (xs : List Finding) → Adds (FindsFrom source i n []) xs xs
adds_none source i n xs = record { kept = λ x h. h; only = λ x h. inl h; whole = λ x h. absurd (let e : None ≡ Some h.placed = h.there in cc) }

record IsOnly {X : Type 0} (y x : X) (k : ℕ) : Type 0 where
  first : k ≡ 0
  same : y ≡ x

only_item : {X : Type 0} (y x : X) (k : ℕ) → slice_get (y ∷ []) k ≡ Some x → IsOnly y x k
only_item y x zero e = record { first = refl; same = same_Some y x e }
only_item y x (suc k) e = absurd cc

one_back : (source : File) (i n : ℕ) (placed other : Placed) (place : ℕ) (x : Finding) → IsOnly placed other place → FindsInRing source i (n + place) other x → FindsInRing source i n placed x
one_back source i n placed other place x at h =
    let e : n + place ≡ n = omega (arith, at.first) in
    subst (λ (p : Placed). FindsInRing source i n p x) (sym at.same) (subst (λ (m : ℕ). FindsInRing source i m other x) e h)

pub adds_one : (source : File) (i n : ℕ) (placed : Placed) (a b : List Finding) → Adds (FindsInRing source i n placed) a b → Adds (FindsFrom source i n (placed ∷ [])) a b
adds_one source i n placed a b adds =
    let e : n ≡ n + 0 = omega arith in
    Adds-same (FindsFrom source i n (placed ∷ [])) adds
    (λ x h. record { place = 0; placed = placed; there = refl; finds = subst (λ (m : ℕ). FindsInRing source i m placed x) e h })
    (λ x h. one_back source i n placed h.placed h.place x (only_item placed h.placed h.place h.there) h.finds)

from_right : (source : File) (i n : ℕ) (list more : List Placed) (x : Finding) → FindsFrom source i (n + length list) more x → FindsFrom source i n (list ++ more) x
from_right source i n list more x h =
    let e : n + length list + h.place ≡ n + (length list + h.place) = omega arith in
    record { place = length list + h.place; placed = h.placed; there = at_right list more h.place h.placed h.there; finds = subst (λ (m : ℕ). FindsInRing source i m h.placed x) e h.finds }

from_cases : (source : File) (i n : ℕ) (list more : List Placed) (x : Finding) → FindsFrom source i n (list ++ more) x → FindsFrom source i n list x ⊎ FindsFrom source i (n + length list) more x
from_cases source i n list more x h = elim (at_cases list more h.place h.placed h.there) [
  | inl here ↦ inl (record { place = h.place; placed = h.placed; there = here; finds = h.finds })
  | inr at ↦
      let e : n + h.place ≡ n + length list + at.place = omega (arith, at.is) in
      inr (record { place = at.place; placed = h.placed; there = at.there; finds = subst (λ (m : ℕ). FindsInRing source i m h.placed x) e h.finds })
]

pub adds_more : (source : File) (i n number : ℕ) (list more : List Placed) (a b c : List Finding) → number ≡ n + length list
    → Adds (FindsFrom source i n list) a b → Adds (FindsFrom source i number more) b c → Adds (FindsFrom source i n (list ++ more)) a c
adds_more source i n number list more a b c e one other =
    Adds-then (FindsFrom source i n (list ++ more)) one (subst (λ (m : ℕ). Adds (FindsFrom source i m more) b c) e other)
    (λ x h. record { place = h.place; placed = h.placed; there = at_left list more h.place h.placed h.there; finds = h.finds })
    (λ x h. from_right source i n list more x h)
    (λ x h. from_cases source i n list more x h)

-- ---- steps of the loops over holes and over polygons

map_step : (border : Ring) (holes : List Ring) (k : ℕ) (hole : Ring) → k < length holes → hole ≡ get_or holes k hole → map (as_hole border) (take (k + 1) holes) ≡ map (as_hole border) (take k holes) ++ as_hole border hole ∷ []
map_step border holes k hole within is =
    ap (map (as_hole border)) (take_more holes k hole within ∙ ap (λ y. take k holes ++ y ∷ []) (sym is)) ∙ map-append (as_hole border) (take k holes) (hole ∷ [])

pub hole_step : (source : File) (i first number : ℕ) (border : Ring) (holes : List Ring) (k : ℕ) (hole : Ring) (a b c : List Finding) → k < length holes → hole ≡ get_or holes k hole → number ≡ first + k
    → Adds (FindsFrom source i first (map (as_hole border) (take k holes))) a b → Adds (FindsInRing source i number (as_hole border hole)) b c
    → Adds (FindsFrom source i first (map (as_hole border) (take (k + 1) holes))) a c
hole_step source i first number border holes k hole a b c within is count before here =
    let inside : k ≤ length holes = omega arith in
    let passed : length (map (as_hole border) (take k holes)) ≡ k = rw length-map (length-take-le k holes inside) in
    subst (λ (list : List Placed). Adds (FindsFrom source i first list) a c) (sym (map_step border holes k hole within is))
    (adds_more source i first number (map (as_hole border) (take k holes)) (as_hole border hole ∷ []) a b c (omega (arith, passed)) before (adds_one source i number (as_hole border hole) b c here))

pub part_step : (source : File) (i number : ℕ) (parts : List Part) (k : ℕ) (part : Part) (a b c : List Finding) → k < length parts → part ≡ get_or parts k part → number ≡ length (flat_map placed_in (take k parts))
    → Adds (FindsFrom source i 0 (flat_map placed_in (take k parts))) a b → Adds (FindsFrom source i number (placed_in part)) b c
    → Adds (FindsFrom source i 0 (flat_map placed_in (take (k + 1) parts))) a c
part_step source i number parts k part a b c within is count before here =
    subst (λ (list : List Placed). Adds (FindsFrom source i 0 list) a c) (sym (flat_map_step placed_in parts k part within is))
    (adds_more source i 0 number (flat_map placed_in (take k parts)) (placed_in part) a b c (omega (arith, count)) before here)

pub part_count : (number next : ℕ) (parts : List Part) (k : ℕ) (part : Part) → k < length parts → part ≡ get_or parts k part → number ≡ length (flat_map placed_in (take k parts))
    → next ≡ number + length (placed_in part) → next ≡ length (flat_map placed_in (take (k + 1) parts))
part_count number next parts k part within is count more =
    let joined : length (flat_map placed_in (take (k + 1) parts)) ≡ length (flat_map placed_in (take k parts)) + length (placed_in part) =
    ap length (flat_map_step placed_in parts k part within is) ∙ length-append (flat_map placed_in (take k parts)) (placed_in part) in
    omega (arith, joined, count, more)

-- ---- the shapes of a file

pub in_shapes : (source : File) (shapes : List Shape) (a b : List Finding) → Adds (Among (λ k shape. FindsFrom source k 0 (placed_rings shape)) shapes) a b → Adds (FindsInShapes source shapes) a b
in_shapes source shapes a b adds = Adds-same (FindsInShapes source shapes) adds
    (λ x h. record { place = h.place; shape = h.item; there = h.there; finds = h.holds })
    (λ x h. record { place = h.place; item = h.shape; there = h.there; holds = h.finds })
