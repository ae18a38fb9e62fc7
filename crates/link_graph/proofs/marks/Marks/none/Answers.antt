use Rattle.std.proofs.Common.{◌≡◌, List, replicate, ap, ◌∙◌}
use Rattle.std.specs.Prelude.{slice_index_or}
use Rattle.venue_types.specs.declared.profile_set.ProfileSet.{ProfileSet}
use Rattle.venue_types.specs.ProfileSets.{has, nobody}
use Rattle.venue_types.proofs.ProfileSetLemmas.{has_nobody}
use Rattle.link_graph.proofs.AskingMarks.{none_chosen, none_marked}
use Rattle.link_graph.specs.Graphs.{network}
use Rattle.link_graph.specs.Marking.{chosen, marked}
use Rattle.link_graph.proofs.marks.Marks.none.Goals as goal

-- a number of sets that are equal to nobody
nobody_each : (c : goal.In_ok-sets) → c.in_ok-sets.sets.items ≡ replicate c.closables.result nobody
nobody_each c = c.in_ok-sets.ensures.items_if_clones_equal (λ y e. e) ∙ ap (replicate c.closables.result) c.nobody.ensures

pub returns-clause-nobody : goal.returns-clause-nobody
returns-clause-nobody c = λ k.
    ap (λ (marks : List ProfileSet). slice_index_or marks k nobody) (nobody_each c) ∙ none_marked nobody c.closables.result k

pub returns-clause-none : goal.returns-clause-none
unfolding marked
returns-clause-none c = λ profile.
    let ids = (network c.args.graph.now).closables in
    ap (λ (marks : List ProfileSet). chosen (has profile) marks ids) (nobody_each c) ∙ none_chosen (has profile) nobody (has_nobody profile) c.closables.result ids
