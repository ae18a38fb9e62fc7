use Rattle.venue_types.proofs.ProfileSetLemmas.{has_of_all, has_joined, has_without, empty_has, empty_from, all_have, all_from, none_have, none_from, within_below, same_set}
use Rattle.venue_types.proofs.profile_set.profile_set_law.Goals as goal

pub returns-clause-nobody : goal.returns-clause-nobody
returns-clause-nobody c = λ set. (empty_has set, empty_from set)

pub returns-clause-all : goal.returns-clause-all
returns-clause-all c = has_of_all

pub returns-clause-joined : goal.returns-clause-joined
returns-clause-joined c = has_joined

pub returns-clause-without : goal.returns-clause-without
returns-clause-without c = has_without

pub returns-clause-all_of : goal.returns-clause-all_of
returns-clause-all_of c = λ set other. (all_have set other, all_from set other)

pub returns-clause-none_of : goal.returns-clause-none_of
returns-clause-none_of c = λ set other. (none_have set other, none_from set other)

pub returns-clause-within : goal.returns-clause-within
returns-clause-within c = within_below

pub returns-clause-same : goal.returns-clause-same
returns-clause-same c = same_set
