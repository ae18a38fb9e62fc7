use Rattle.std.proofs.Common.{sym, ◌∙◌}
use Rattle.venue_types.proofs.ProfileSetLemmas.{has_with}
use Rattle.venue_types.proofs.profile_set.ProfileSet.with.Goals as goal

pub returns : goal.returns
returns c = λ i.
    let same = has_with c.args.self c.args.k i c.requires in
    (λ there. sym same ∙ there, λ there. same ∙ there)
