-- Steps of the walks over runs: what two parts answer makes up what the whole answers.
use Rattle.std.proofs.Common.{◌≡◌, ℕ, ◌+◌, ◌*◌, ◌<◌, ℤ, pos, ◌+ℤ◌, ◌-ℤ◌, ◌≤ℤ◌, ◌<ℤ◌, Bool, true, false, IsTrue, ◌↔◌, ◌⊎◌, inl, inr, List, ◌∷◌, ◌++◌, length, drop, get_or, Any, Contains, Option, Some, IfSome, refl, sym, subst, ◌∙◌, arith}
use Rattle.std.proofs.lemmas.Int.{ints}
use Rattle.std.proofs.lemmas.Bool.{false≢true}
use Rattle.std.proofs.lemmas.List.Elements.{All-weaker}
use Rattle.venue_types.specs.declared.point.Point.{Point}
use Rattle.plane_trees.specs.declared.octagons.Band.{Band}
use Rattle.plane_trees.specs.declared.octagons.Octagon.{Octagon}
use Rattle.plane_trees.specs.declared.octagons.Offset.{Offset}
use Rattle.plane_exact.specs.Segment.{Crosses}
use Rattle.plane_exact.specs.Figure.{Edge, edges_from, IsNearSome, HaveCrossing}
use Rattle.plane_trees.specs.Line.{Direction, coordinate, stretch}
use Rattle.plane_trees.specs.Octagons.{offset, kept, IsOffset, band, IsInBand, IsAtBand, IsRound, AreApart}
use Rattle.plane_trees.specs.Trees.{CrossesSome, CrossEachOther}
use Rattle.plane_exact.proofs.ListLemmas.{drop_at, any_here, any_past, any_left, any_right, any_of_append}
use Rattle.plane_trees.proofs.NearLineLemmas.{line_at_most, line_at_least}
use Rattle.plane_trees.proofs.CrossingLemmas.{lines_apart}

-- ---- one test after the other

-- the test held, and what it decides is enough
pub enough : (r : Bool) (A W : Type 0) → r ≡ true → IsTrue r ↔ A → (A → W) → IsTrue r ↔ W
enough r A W e f g = (λ t. g (f.0 t), λ _. e)

-- the first test failed, so the second decides
pub left_over : (r s : Bool) (A B W : Type 0) → r ≡ false → IsTrue r ↔ A → IsTrue s ↔ B → (A → W) → (B → W) → (W → A ⊎ B) → IsTrue s ↔ W
left_over r s A B W e f g a b split = (λ t. b (g.0 t), λ w. elim (split w) [ inl x ↦ absurd (false≢true (sym e ∙ f.1 x)) | inr y ↦ g.1 y ])

-- ---- some item of two parts

pub any_of_parts : {X : Type 0} (P : X → Type 0) (whole front back : List X) → whole ≡ front ++ back → Any P whole → Any P front ⊎ Any P back
any_of_parts P whole front back e h = any_of_append P front back (subst (Any P) e h)

pub any_from_front : {X : Type 0} (P : X → Type 0) (whole front back : List X) → whole ≡ front ++ back → Any P front → Any P whole
any_from_front P whole front back e h = subst (Any P) (sym e) (any_left P front back h)

pub any_from_back : {X : Type 0} (P : X → Type 0) (whole front back : List X) → whole ≡ front ++ back → Any P back → Any P whole
any_from_back P whole front back e h = subst (Any P) (sym e) (any_right P front back h)

-- ---- near

pub least_moved : (range : Band) (n o : ℤ) → IsInBand range (n -ℤ o) → (range.least +ℤ o) ≤ℤ n
least_moved range n o h = omega (arith, ints)

pub greatest_moved : (range : Band) (n o : ℤ) → IsInBand range (n -ℤ o) → n ≤ℤ (range.greatest +ℤ o)
greatest_moved range n o h = omega (arith, ints)

at_moved : (range : Band) (c o m : ℤ) (s : ℕ) → m ≡ c -ℤ o → (range.least +ℤ o) ≤ℤ (c +ℤ pos s) → c ≤ℤ ((range.greatest +ℤ o) +ℤ pos s) → IsAtBand range m s
at_moved range c o m s e h k = record { least = omega (arith, ints); greatest = omega (arith, ints) }

pub near_at_band : (octagon : Octagon) (place : Offset) (origin p start : Point) (rest : List Point) (t : ℕ) → IsOffset place origin p → IsRound octagon origin (start ∷ rest) → IsNearSome p t (edges_from start rest) → (way : Direction) → IsAtBand (band way octagon) (kept way place) (stretch way * t)
near_at_band octagon place origin p start rest t at round near way =
    let P : Point → Type 0 = λ q. IsInBand (band way octagon) (offset way origin q) in
    let low = line_at_least way ((band way octagon).least +ℤ coordinate way origin) p start rest t (All-weaker P (λ q. ((band way octagon).least +ℤ coordinate way origin) ≤ℤ coordinate way q) (λ q h. least_moved (band way octagon) (coordinate way q) (coordinate way origin) h) (start ∷ rest) (round way)) near in
    let high = line_at_most way ((band way octagon).greatest +ℤ coordinate way origin) p start rest t (All-weaker P (λ q. coordinate way q ≤ℤ ((band way octagon).greatest +ℤ coordinate way origin)) (λ q h. greatest_moved (band way octagon) (coordinate way q) (coordinate way origin) h) (start ∷ rest) (round way)) near in
    at_moved (band way octagon) (coordinate way p) (coordinate way origin) (kept way place) (stretch way * t) (at way) low high

-- ---- crossings

pub any_contained : {X : Type 0} (P : X → Type 0) (C : Type 0) (xs : List X) → ((x : X) → Contains xs x → P x → C) → Any P xs → C
any_contained P C xs step (k, x, within, at, h) = step x (k, within, at) h

pub contained_any : {X : Type 0} (P : X → Type 0) (xs : List X) (x : X) → Contains xs x → P x → Any P xs
contained_any P xs x (k, within, at) h = (k, x, within, at, h)

abbrev crossing_of : Edge → Edge → Type 0
crossing_of one other = Crosses one.from one.to other.from other.to

pub each_other : (xs ys : List Edge) (one other : Edge) → Contains xs one → Contains ys other → Crosses one.from one.to other.from other.to → CrossEachOther xs ys
each_other xs ys one other h k crossed = contained_any (λ (edge : Edge). CrossesSome edge.from edge.to ys) xs one h (contained_any (crossing_of one) ys other k crossed)

pub by_crossing : (xs ys : List Edge) (C : Type 0) → ((one other : Edge) → Contains xs one → Contains ys other → Crosses one.from one.to other.from other.to → C) → CrossEachOther xs ys → C
by_crossing xs ys C step h = any_contained (λ (edge : Edge). CrossesSome edge.from edge.to ys) C xs (λ one has_one some. any_contained (crossing_of one) C ys (λ other has_other crossed. step one other has_one has_other crossed) some) h

turned : (a b c d : Point) → Crosses a b c d → Crosses c d a b
turned a b c d h = record { across_first = h.across_second; across_second = h.across_first }

pub each_other_turned : (xs ys : List Edge) → CrossEachOther xs ys → CrossEachOther ys xs
each_other_turned xs ys h = by_crossing xs ys (CrossEachOther ys xs) (λ one other has_one has_other crossed. each_other ys xs other one has_other has_one (turned one.from one.to other.from other.to crossed)) h

pub own_crossing : (xs : List Edge) → CrossEachOther xs xs ↔ HaveCrossing xs
own_crossing xs = (λ h. by_crossing xs xs (HaveCrossing xs) (λ one other has_one has_other crossed. record { one = one; other = other; has_one = has_one; has_other = has_other; cross = crossed }) h, λ h. each_other xs xs h.one h.other h.has_one h.has_other h.cross)

-- of the parts of the second row
pub others_parts : (xs whole front back : List Edge) → whole ≡ front ++ back → CrossEachOther xs whole → CrossEachOther xs front ⊎ CrossEachOther xs back
others_parts xs whole front back e h = elim (any_of_parts (λ (edge : Edge). CrossesSome edge.from edge.to xs) whole front back e (each_other_turned xs whole h)) [ inl x ↦ inl (each_other_turned front xs x) | inr y ↦ inr (each_other_turned back xs y) ]

pub others_front : (xs whole front back : List Edge) → whole ≡ front ++ back → CrossEachOther xs front → CrossEachOther xs whole
others_front xs whole front back e h = each_other_turned whole xs (any_from_front (λ (edge : Edge). CrossesSome edge.from edge.to xs) whole front back e (each_other_turned xs front h))

pub others_back : (xs whole front back : List Edge) → whole ≡ front ++ back → CrossEachOther xs back → CrossEachOther xs whole
others_back xs whole front back e h = each_other_turned whole xs (any_from_back (λ (edge : Edge). CrossesSome edge.from edge.to xs) whole front back e (each_other_turned xs back h))

-- of the parts of one row
pub own_of_front : (whole front back : List Edge) → whole ≡ front ++ back → HaveCrossing front → HaveCrossing whole
own_of_front whole front back e h = (own_crossing whole).0 (any_from_front (λ (edge : Edge). CrossesSome edge.from edge.to whole) whole front back e (others_front front whole front back e ((own_crossing front).1 h)))

pub own_of_back : (whole front back : List Edge) → whole ≡ front ++ back → HaveCrossing back → HaveCrossing whole
own_of_back whole front back e h = (own_crossing whole).0 (any_from_back (λ (edge : Edge). CrossesSome edge.from edge.to whole) whole front back e (others_back back whole front back e ((own_crossing back).1 h)))

own_of_both : (whole front back : List Edge) → whole ≡ front ++ back → CrossEachOther front back → HaveCrossing whole
own_of_both whole front back e h = (own_crossing whole).0 (any_from_front (λ (edge : Edge). CrossesSome edge.from edge.to whole) whole front back e (others_back front whole front back e h))

abbrev OwnParts : List Edge → List Edge → Type 0
OwnParts front back = HaveCrossing front ⊎ (HaveCrossing back ⊎ CrossEachOther front back)

own_parts : (whole front back : List Edge) → whole ≡ front ++ back → HaveCrossing whole → OwnParts front back
own_parts whole front back e h = elim (any_of_parts (λ (edge : Edge). CrossesSome edge.from edge.to whole) whole front back e ((own_crossing whole).1 h)) [
  | inl x ↦ elim (others_parts front whole front back e x) [ inl y ↦ inl ((own_crossing front).0 y) | inr y ↦ inr (inr y) ]
  | inr x ↦ elim (others_parts back whole front back e x) [ inl y ↦ inr (inr (each_other_turned back front y)) | inr y ↦ inr (inl ((own_crossing back).0 y)) ]
]

-- the last of the three tests of a run on itself
pub own_left_over : (r s q : Bool) (whole front back : List Edge) → whole ≡ front ++ back → r ≡ false → s ≡ false → IsTrue r ↔ HaveCrossing front → IsTrue s ↔ HaveCrossing back → IsTrue q ↔ CrossEachOther front back → IsTrue q ↔ HaveCrossing whole
own_left_over r s q whole front back e t u f g h = (
  λ v. own_of_both whole front back e (h.0 v),
  λ w. elim (own_parts whole front back e w) [
    | inl x ↦ absurd (false≢true (sym t ∙ f.1 x))
    | inr x ↦ elim x [ inl y ↦ absurd (false≢true (sym u ∙ g.1 y)) | inr y ↦ h.1 y ]
  ],
)

-- ---- octagons apart

apart_one : (range other : Band) (o : ℤ) (n m : ℤ) → range.greatest <ℤ other.least → IsInBand other (m -ℤ o) → (range.greatest +ℤ o) <ℤ m
apart_one range other o n m h k = omega (arith, ints)

bands_apart : (way : Direction) (one other : Octagon) (origin a c : Point) (rest more : List Point) → IsRound one origin (a ∷ rest) → IsRound other origin (c ∷ more) → (band way one).greatest <ℤ (band way other).least → ¬ CrossEachOther (edges_from a rest) (edges_from c more)
bands_apart way one other origin a c rest more round round_other h crossed =
    let m = (band way one).greatest +ℤ coordinate way origin in
    let low = All-weaker (λ q. IsInBand (band way one) (offset way origin q)) (λ q. coordinate way q ≤ℤ m) (λ q k. greatest_moved (band way one) (coordinate way q) (coordinate way origin) k) (a ∷ rest) (round way) in
    let high = All-weaker (λ q. IsInBand (band way other) (offset way origin q)) (λ q. m <ℤ coordinate way q) (λ q k. apart_one (band way one) (band way other) (coordinate way origin) (coordinate way q) (coordinate way q) h k) (c ∷ more) (round_other way) in
    by_crossing (edges_from a rest) (edges_from c more) ⊥ (λ e f has_e has_f k. lines_apart way m a c rest more e f low high has_e has_f k) crossed

pub octagons_apart : (one other : Octagon) (origin a c : Point) (rest more : List Point) → IsRound one origin (a ∷ rest) → IsRound other origin (c ∷ more) → (way : Direction) × AreApart (band way one) (band way other) → ¬ CrossEachOther (edges_from a rest) (edges_from c more)
octagons_apart one other origin a c rest more round round_other (way, apart) crossed = elim apart [
  | inl h ↦ bands_apart way one other origin a c rest more round round_other h crossed
  | inr h ↦ bands_apart way other one origin c a more rest round_other round h (each_other_turned (edges_from a rest) (edges_from c more) crossed)
]

-- ---- loops over a line

pub line_here : (Q : Point → Point → Type 0) (a : Point) (rest : List Point) (i : ℕ) (d : Point) → i < length rest → Q a (get_or rest i d) → Any (λ (edge : Edge). Q edge.from edge.to) (edges_from a (drop i rest))
line_here Q a rest i d within h = rw (drop_at rest i (get_or rest i d) d within refl) (any_here (λ (edge : Edge). Q edge.from edge.to) (record { from = a; to = get_or rest i d }) (edges_from (get_or rest i d) (drop (i + 1) rest)) h)

pub line_past : (Q : Point → Point → Type 0) (a : Point) (rest : List Point) (i : ℕ) (d : Point) → i < length rest → ¬ Q a (get_or rest i d) → Any (λ (edge : Edge). Q edge.from edge.to) (edges_from (get_or rest i d) (drop (i + 1) rest)) ↔ Any (λ (edge : Edge). Q edge.from edge.to) (edges_from a (drop i rest))
line_past Q a rest i d within none = rw (drop_at rest i (get_or rest i d) d within refl) (any_past (λ (edge : Edge). Q edge.from edge.to) (record { from = a; to = get_or rest i d }) (edges_from (get_or rest i d) (drop (i + 1) rest)) none)

-- ---- what is kept of an option

pub IfSome-at : {X : Type 0} (o : Option X) (x : X) (P : X → Type 0) → o ≡ Some x → IfSome o P → P x
IfSome-at {X} o x P e h = let Q : Option X → Type 0 = λ v. IfSome v P in subst Q e h
