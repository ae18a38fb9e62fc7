-- The length that is computed plainly is the least number of centimetres that spans the way.
use Rattle.std.proofs.Common.{◌≡◌, ℕ, zero, suc, ◌+◌, ◌*◌, ◌^◌, ◌≤◌, ℤ, pos, ◌+ℤ◌, ◌-ℤ◌, ◌*ℤ◌, ◌≤ℤ◌, unsigned_abs, ◌↔◌, Bool, true, false, cond, IsTrue, refl, arith}
use Rattle.std.proofs.lemmas.Int.{ints}
use Rattle.venue_types.specs.declared.point.Spot.{Spot}
use Rattle.plane_exact.specs.Plane.{IsWithin, IsCloseDoubled, square}
use Rattle.plane_exact.specs.Length.{IsLength, Spans, scaled_square}
use Rattle.plane_exact.proofs.LengthLemmas.{square_of_length, square_bound}
use Rattle.plane_exact.proofs.SegmentLemmas.{le_decides}
use Rattle.link_graph.specs.Lengths.{does_span, first_from, length_between}

-- ---- the first number at which a test holds

choice_bound : (b : Bool) (n m c : ℕ) → n ≤ c → m ≤ c → cond b n m ≤ c
choice_bound true n m c h k = h
choice_bound false n m c h k = k

first_bound : (test : ℕ → Bool) (more n c : ℕ) → n + more ≤ c → first_from test more n ≤ c
first_bound test zero n c h = omega (arith, h)
first_bound test (suc more) n c h = choice_bound (test n) n (first_from test more (n + 1)) c (omega (arith, h)) (first_bound test more (n + 1) c (omega (arith, h)))

choice_holds : (test : ℕ → Bool) (b : Bool) (n m : ℕ) → test n ≡ b → IsTrue (test m) → IsTrue (test (cond b n m))
choice_holds test true n m e h = e
choice_holds test false n m e h = h

first_holds : (test : ℕ → Bool) (more n c : ℕ) → c ≡ n + more → IsTrue (test c) → IsTrue (test (first_from test more n))
first_holds test zero n c e h = let same : c ≡ n = omega (arith, e) in rw same at h
first_holds test (suc more) n c e h = choice_holds test (test n) n (first_from test more (n + 1)) refl (first_holds test more (n + 1) c (omega (arith, e)) h)

choice_least : (test : ℕ → Bool) (b : Bool) (n m k : ℕ) → test n ≡ b → n ≤ k → IsTrue (test k) → (n + 1 ≤ k → m ≤ k) → cond b n m ≤ k
choice_least test true n m k e le h rest = le
choice_least test false n m k e le h rest = grind (arith, e, le, h, rest)

first_least : (test : ℕ → Bool) (more n k : ℕ) → n ≤ k → IsTrue (test k) → first_from test more n ≤ k
first_least test zero n k le h = le
first_least test (suc more) n k le h = choice_least test (test n) n (first_from test more (n + 1)) k refl le h (λ next. first_least test more (n + 1) k next h)

-- ---- spanning

span_decides : (a b : Spot) (kx ky c : ℕ) → IsTrue (does_span a b kx ky c) ↔ Spans a b kx ky c
unfolding does_span
span_decides a b kx ky c =
    let both = le_decides (scaled_square a b kx ky) (pos (4 * 10 ^ 18 * (c * c))) in
    (λ h. record { spans = both.0 h }, λ s. both.1 s.spans)

step_bound : (m n : ℤ) (k : ℕ) → IsWithin 400000000 m n → k ≤ 20000000 → square ((n -ℤ m) *ℤ pos k) ≤ℤ pos 64000000000000000000000000000000
step_bound m n k h l =
    let within : unsigned_abs (n -ℤ m) ≤ 400000000 = omega (arith, ints, h.above, h.below) in
    let bound = square_bound (unsigned_abs (n -ℤ m)) k within l in
    rw (← square_of_length (n -ℤ m) (unsigned_abs (n -ℤ m)) k refl) (omega (arith, ints, bound))

sum_bound : (x y : ℤ) → x ≤ℤ pos 64000000000000000000000000000000 → y ≤ℤ pos 64000000000000000000000000000000 → (x +ℤ y) ≤ℤ pos 129960000000000000000000000000000
sum_bound x y h k = omega (arith, ints)

-- the greatest spread is spanned by so many centimetres
spread_spans : (a b : Spot) (kx ky : ℕ) → IsCloseDoubled a b → kx ≤ 20000000 → ky ≤ 20000000 → Spans a b kx ky 5700000
unfolding scaled_square
spread_spans a b kx ky close h k = record { spans = sum_bound _ _ (step_bound a.x b.x kx close.x h) (step_bound a.y b.y ky close.y k) }

-- ---- the length

pub between_length : (a b : Spot) (kx ky : ℕ) → IsCloseDoubled a b → kx ≤ 20000000 → ky ≤ 20000000 → IsLength a b kx ky (length_between a b kx ky)
unfolding length_between
between_length a b kx ky close h k =
    let test = does_span a b kx ky in
    let reached = (span_decides a b kx ky 5700000).1 (spread_spans a b kx ky close h k) in
    record {
      spans = (span_decides a b kx ky (first_from test 5700000 0)).0 (first_holds test 5700000 0 5700000 (omega arith) reached);
      least = λ n spanned. first_least test 5700000 0 n (omega arith) ((span_decides a b kx ky n).1 spanned);
    }

pub between_bound : (a b : Spot) (kx ky : ℕ) → length_between a b kx ky ≤ 5700000
unfolding length_between
between_bound a b kx ky = first_bound (does_span a b kx ky) 5700000 0 5700000 (omega arith)
