use Rattle.std.proofs.Common.{◌≡◌, true, List, Bool, length, ap, ◌∙◌, arith}
use Rattle.unit_sight.specs.Finding.{asked}
use Rattle.unit_sight.proofs.TableLemmas.{length_table}
use Rattle.unit_sight.proofs.PairLemmas.{all_done, whole_next}
use Rattle.unit_sight.proofs.GuestLemmas.{whole_done}
use Rattle.unit_sight.proofs.finding.whole_bits.Goals as goal

pub join_front-requires : goal.join_front-requires
join_front-requires c =
    let size : length c.loop-i.bits ≡ c.args.size = ap (λ (t : List (List Bool)). length t) c.loop-i.invariant ∙ length_table c.args.size (asked (λ a b. true) c.loop-i.i 0) in
    omega arith

pub loop-i-preserved : goal.loop-i-preserved
loop-i-preserved c = whole_next c.args.size c.loop-i.i c.loop-i.bits c.join_front.new.bits c.loop-i.invariant c.join_front.ensures.told

pub returns : goal.returns
returns c =
    let last : c.loop-i.i ≡ c.args.size = omega arith in
    whole_done c.args.size c.loop-i.bits (all_done (λ a b. true) c.args.size c.loop-i.i c.loop-i.bits last c.loop-i.invariant)
