-- Where members stand, and which of them their table joins.
use Rattle.std.proofs.Common.{◌≡◌, ℕ, ◌<◌, ◌≤◌, Bool, true, false, ◌&&◌, List, length, get_or, Some, ap, ◌∙◌, subst, ⊎_elim, arith}
use Rattle.std.specs.Prelude.{Contains, slice_get}
use Rattle.std.specs.List.Sorted.{IsNonDecreasingBy, IsStrictlyIncreasing}
use Rattle.std.proofs.lemmas.Bool.{cases_lt}
use Rattle.std.proofs.lemmas.List.Kept.{AllPairs-from_increasing}
use Rattle.std.proofs.lemmas.Option.{get_or_from_slice_get, slice_get-get_or, slice_get_within}
use Rattle.unit_sight.specs.Tables.{joins}
use Rattle.link_graph.specs.Areas.{joined_across}
use Rattle.link_graph.specs.Cores.{place_in}
use Rattle.link_graph.proofs.TableRows.{place_at}
use Rattle.route_answers.proofs.Rising.{at_item}

-- ---- numbers that rise

pub never_fall : (xs : List ℕ) → IsStrictlyIncreasing xs → IsNonDecreasingBy (λ (x : ℕ). x) xs
never_fall xs rise = λ i j d from within.
    ⊎_elim
    (λ (less : i < j). let up : get_or xs i d < get_or xs j d = AllPairs-from_increasing xs rise i j d less within in omega (arith, up))
    (λ (most : j ≤ i).
    let same : i ≡ j = omega (arith, from, most) in
    let equal : get_or xs i d ≡ get_or xs j d = ap (λ (n : ℕ). get_or xs n d) same in
    omega (arith, equal))
    (cases_lt i j)

-- one of them stands where as many are less
pub stands_behind : (xs : List ℕ) (n p : ℕ) → IsStrictlyIncreasing xs → Contains xs n → ((k d : ℕ) → k < p → get_or xs k d < n) → ((k d : ℕ) → p ≤ k → k < length xs → n ≤ get_or xs k d) → slice_get xs p ≡ Some n
stands_behind xs n p rise there less rest =
    let at = at_item xs n there in
    let within = slice_get_within xs at.0 n at.1 in
    let is = get_or_from_slice_get xs at.0 n n at.1 in
    ⊎_elim
    (λ (before : p < at.0).
    absurd (
    let more = rest p n (omega arith) (omega (arith, before, within)) in
    let up : get_or xs p n < get_or xs at.0 n = AllPairs-from_increasing xs rise p at.0 n before within in
    omega (arith, more, up, is)
    ))
    (λ (most : at.0 ≤ p).
    ⊎_elim
    (λ (behind : at.0 < p). absurd (let below = less at.0 n behind in omega (arith, below, is)))
    (λ (least : p ≤ at.0). let same : at.0 ≡ p = omega (arith, most, least) in subst (λ (k : ℕ). slice_get xs k ≡ Some n) same at.1)
    (cases_lt at.0 p))
    (cases_lt p at.0)

-- ---- members that are joined

pub joined_at : (table : List (List Bool)) (members : List ℕ) (i j a : ℕ) → IsStrictlyIncreasing members → slice_get members i ≡ Some a → j < length members → joined_across table members a (get_or members j 0) ≡ joins table i j
unfolding joined_across
joined_at table members i j a rise at within =
    ap (λ (p : ℕ). joins table p (place_in members (get_or members j 0))) (place_at members i a rise at)
    ∙ ap (joins table i) (place_at members j (get_or members j 0) rise (slice_get-get_or members j 0 within))

-- both tests, by the second where the first is passed
pub first_passes : (a b c : Bool) → a ≡ true → b ≡ c → (a && b) ≡ c
first_passes a b c one two = ap (λ (v : Bool). v && b) one ∙ two

pub first_fails : (a b : Bool) → a ≡ false → (a && b) ≡ false
first_fails a b one = ap (λ (v : Bool). v && b) one
