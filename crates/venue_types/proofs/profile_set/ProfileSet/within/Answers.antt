use Rattle.std.proofs.Common.{ℕ, ◌*◌, ◌%◌, ◌^◌, ◌<◌, nat_lt, ap, arith, ◌∙◌}
use Rattle.std.proofs.lemmas.Nat.{one_shl}
use Rattle.venue_types.specs.ProfileSets.{is_within}
use Rattle.venue_types.proofs.profile_set.ProfileSet.within.Goals as goal

pub returns : goal.returns
unfolding is_within
returns c =
    let below : c.args.count < 32 = omega arith in
    ap (λ (n : ℕ). nat_lt n (1 * 2 ^ c.args.count % 4294967296)) c.from.ensures ∙ ap (nat_lt c.args.self.0) (one_shl c.args.count 32 below)
