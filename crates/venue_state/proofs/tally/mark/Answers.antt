-- The marks change at one number, and their count by what it was and what it is.
use Rattle.std.proofs.Common.{◌≡◌, ◌∙◌, ℕ, ◌+◌, ◌<◌, ◌≤◌, length, List, Bool, Some, not, sym, ap, arith, slice_index_or, slice_set}
use Rattle.std.specs.Int.{from_bool}
use Rattle.std.proofs.Math.ListN.{length-set}
use Rattle.std.proofs.lemmas.Option.{slice_get_within}
use Rattle.venue_types.specs.declared.feature_id.FeatureId.{FeatureId}
use Rattle.venue_types.specs.declared.profile_set.ProfileSet.{ProfileSet}
use Rattle.venue_types.specs.ProfileSets.{nobody, is_empty}
use Rattle.route_search.specs.Numbering.{number_among}
use Rattle.route_search.proofs.Finding.{stands_there}
use Rattle.route_search.specs.Graphs.{network}
use Rattle.venue_history.proofs.Closings.{nobody_empty}
use Rattle.venue_history.proofs.Identities.{one_of_there}
use Rattle.venue_state.specs.Boards.{closed_by}
use Rattle.venue_state.proofs.Marking.{remark, unmarked, numbered, not_there, closed_short, counted, one_at_most, count_set}
use Rattle.venue_state.proofs.tally.mark.Goals as goal

within : (marks : List ProfileSet) (ids : List FeatureId) (id : FeatureId) (k : ℕ) → length marks ≡ length ids → number_among ids id ≡ Some k → k < length marks
within marks ids id k whole at = let there = slice_get_within ids k id (stands_there ids id k at) in omega arith

-- the count before and after
counts : (marks set : List ProfileSet) (ids : List FeatureId) (id : FeatureId) (k before : ℕ) (told : ProfileSet) → length marks ≡ length ids → number_among ids id ≡ Some k
    → before ≡ counted (slice_index_or marks k nobody) → set ≡ slice_set marks k told
    → length (closed_by set ids) + before ≡ length (closed_by marks ids) + counted told
counts marks set ids id k before told whole at was is =
    ap (λ (n : ℕ). length (closed_by set ids) + n) was
    ∙ (ap (λ (ms : List ProfileSet). length (closed_by ms ids) + counted (slice_index_or marks k nobody)) is
    ∙ count_set marks ids k told whole (within marks ids id k whole at))

-- one that was marked is counted
counted_before : (marks : List ProfileSet) (ids : List FeatureId) (id : FeatureId) (k before : ℕ) → length marks ≡ length ids → number_among ids id ≡ Some k
    → before ≡ counted (slice_index_or marks k nobody) → before ≤ length (closed_by marks ids)
counted_before marks ids id k before whole at was =
    let e : length (closed_by (slice_set marks k nobody) ids) + counted (slice_index_or marks k nobody) ≡ length (closed_by marks ids) + counted nobody =
    count_set marks ids k nobody whole (within marks ids id k whole at) in
    let none : counted nobody ≡ 0 = ap (λ (b : Bool). from_bool (not b)) nobody_empty in
    omega arith

pub profiles-requires : goal.profiles-requires
profiles-requires c = within _ _ _ _ c.requires.tallied.whole (sym c.in-Some.ensures)

pub mark-requires : goal.mark-requires
mark-requires c = within _ _ _ _ c.requires.tallied.whole (sym c.in-Some.ensures)

counted_so : (set : ProfileSet) (empty : Bool) (n : ℕ) → n ≡ from_bool (not empty) → empty ≡ is_empty set → n ≡ counted set
counted_so set empty n is so = is ∙ ap (λ (b : Bool). from_bool (not b)) so

pub overflow_sub-tally : goal.overflow_sub-tally
overflow_sub-tally c =
    let was = counted_so (slice_index_or c.args.tally.now.marks c.in-Some.k nobody) _ _ c.from-before.ensures (c.is_empty.ensures ∙ ap is_empty c.profiles.ensures) in
    let before = counted_before _ _ _ _ _ c.requires.tallied.whole (sym c.in-Some.ensures) was in
    omega (arith, before, c.requires.tallied.counted)

pub overflow_add-tally : goal.overflow_add-tally
overflow_add-tally c =
    let short = closed_short c.args.tally.now.marks (network c.args.graph.now).closables in
    let one = one_at_most c.args.profiles in
    let is = counted_so c.args.profiles _ _ c.from.ensures c.is_empty-in-Some.ensures in
    omega (arith, short, one, is, c.requires.tallied.counted, c.range_law.ensures.closables)

pub returns-in-Some-clause-tallied : goal.returns-in-Some-clause-tallied
returns-in-Some-clause-tallied c =
    let ids = (network c.args.graph.now).closables in
    let was = counted_so (slice_index_or c.args.tally.now.marks c.in-Some.k nobody) _ _ c.from-before.ensures (c.is_empty.ensures ∙ ap is_empty c.profiles.ensures) in
    let before = counted_before _ _ _ _ _ c.requires.tallied.whole (sym c.in-Some.ensures) was in
    let after = counts c.args.tally.now.marks c.mark.new.self ids _ _ _ c.args.profiles c.requires.tallied.whole (sym c.in-Some.ensures) was c.mark.ensures in
    let is = counted_so c.args.profiles _ _ c.from.ensures c.is_empty-in-Some.ensures in
    record {
      whole = ap length c.mark.ensures ∙ (simp length-set c.requires.tallied.whole);
      counted = omega (arith, before, after, is, c.requires.tallied.counted);
    }

pub returns-in-Some-clause-marked : goal.returns-in-Some-clause-marked
returns-in-Some-clause-marked c =
    let ids = (network c.args.graph.now).closables in
    ap (λ (ms : List ProfileSet). closed_by ms ids) c.mark.ensures
    ∙ remark c.args.tally.now.marks ids c.in-Some.k c.args.id c.args.profiles c.requires.tallied.whole c.range_law.ensures.once (sym c.in-Some.ensures)

pub returns-in-Some-clause-can : goal.returns-in-Some-clause-can
returns-in-Some-clause-can c = sym (one_of_there _ _ (numbered _ _ _ (sym c.in-Some.ensures)))

pub returns-in-None-clause-marked : goal.returns-in-None-clause-marked
returns-in-None-clause-marked c =
    unmarked c.args.tally.now.marks (network c.args.graph.now).closables c.args.id c.args.profiles c.requires.tallied.whole c.range_law.ensures.once (sym c.in-None.ensures)

pub returns-in-None-clause-can : goal.returns-in-None-clause-can
returns-in-None-clause-can c = sym (not_there _ _ (sym c.in-None.ensures))
