use Rattle.std.proofs.Common.{◌∙◌, sym, ap, not}
use Rattle.std.proofs.lemmas.Bool.{and_parts, false_from_ne_true}
use Rattle.std.proofs.lemmas.List.{length-map}
use Rattle.venue_types.specs.ProfileSets.{is_empty}
use Rattle.venue_history.specs.Closed.{feature_of, closed_ids, closed_for, closed_set, is_one_of, is_everybody}
use Rattle.venue_history.proofs.Closings.{nobody_empty}
use Rattle.venue_history.proofs.Identities.{one_of_there, there_one_of}
use Rattle.venue_history.proofs.Listed.{for_has, has_for, listed_some, unlisted_nobody, is_for_everybody}
use Rattle.venue_history.proofs.laws.closed_law.Goals as goal

pub returns-clause-ids : goal.returns-clause-ids
returns-clause-ids c v id = (there_one_of (closed_ids v) id, one_of_there (closed_ids v) id)

pub returns-clause-count : goal.returns-clause-count
returns-clause-count c v = sym (length-map v.closed feature_of)

pub returns-clause-for_profile : goal.returns-clause-for_profile
returns-clause-for_profile c v number id once = (
  λ there. for_has number v.closed id once (one_of_there (closed_for v number) id there),
  λ has. there_one_of (closed_for v number) id (has_for number v.closed id has),
)

pub returns-clause-for_nobody : goal.returns-clause-for_nobody
returns-clause-for_nobody c v id some = (
  λ empty there. listed_some v.closed id some (one_of_there (closed_ids v) id there) empty,
  λ other. ap is_empty (unlisted_nobody v.closed id (false_from_ne_true (is_one_of (closed_ids v) id) (λ there. other (there_one_of (closed_ids v) id there)))) ∙ nobody_empty,
)

pub returns-clause-for_all : goal.returns-clause-for_all
returns-clause-for_all c v id all =
    is_for_everybody v.settings (closed_set v id) (and_parts (is_everybody v.settings (closed_set v id)) (not (is_empty (closed_set v id))) all).0
