use Rattle.std.proofs.Common.{◌≡◌, FitsSigned, w64, ap₂, ◌∙◌, arith, rules}
use Rattle.std.specs.Int.{int_min, int_max}
use Rattle.std.proofs.lemmas.Int.{ints, to_z-of_z}
use Rattle.ring_rules.proofs.BoundsLemmas.{least_of, greatest_of, extent_join}
use Rattle.ring_rules.proofs.bounds.Extent.join.Goals as goal

pub returns : goal.returns
returns c = λ axis xs ys h k.
    let a = c.args.self in
    let b = c.args.other in
    let fits_min : FitsSigned w64 c.min.result = search rules in
    let fits_max : FitsSigned w64 c.max.result = search rules in
    let fits_a : FitsSigned w64 a.least = search rules in
    let fits_b : FitsSigned w64 b.least = search rules in
    let fits_c : FitsSigned w64 a.greatest = search rules in
    let fits_d : FitsSigned w64 b.greatest = search rules in
    let least : c.min.result ≡ int_min a.least b.least = c.min.ensures.value ∙ ap₂ int_min (to_z-of_z w64 a.least fits_a) (to_z-of_z w64 b.least fits_b) in
    let greatest : c.max.result ≡ int_max a.greatest b.greatest = c.max.ensures.value ∙ ap₂ int_max (to_z-of_z w64 a.greatest fits_c) (to_z-of_z w64 b.greatest fits_d) in
    let low = to_z-of_z w64 c.min.result fits_min in
    let high = to_z-of_z w64 c.max.result fits_max in
    rw (low, high) (extent_join axis xs ys a b (record { least = c.min.result; greatest = c.max.result })
    (least_of _ _ _ least) (omega (arith, ints)) (omega (arith, ints))
    (greatest_of _ _ _ greatest) (omega (arith, ints)) (omega (arith, ints)) h k)
