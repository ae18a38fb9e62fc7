-- Each name brings its profile.
use Rattle.std.proofs.Common.{◌≡◌, ◌∙◌, List, ℕ, Some, ap, sym, subst, slice_index_or}
use Rattle.std.specs.Option.{option_map}
use Rattle.std.proofs.lemmas.List.{at_drop_all}
use Rattle.venue_types.specs.declared.profile_set.ProfileSet.{ProfileSet}
use Rattle.venue_types.specs.ProfileSets.{joined}
use Rattle.venue_types.proofs.ProfileSetLemmas.{joined_nobody}
use Rattle.venue_history.specs.Named.{set_of_names}
use Rattle.venue_history.specs.Ways.{profile_number}
use Rattle.venue_state.proofs.NamedSets.{none_yet, named_more}
use Rattle.venue_state.proofs.profile_names.set_of_names.Goals as goal

pub loop-name-init : goal.loop-name-init
loop-name-init c =
    let all = set_of_names c.args.settings.now c.args.names.now in
    subst (λ (set : ProfileSet). option_map (joined set) all ≡ all) (sym c.nobody-set.ensures) (none_yet all)

pub loop-name-preserved : goal.loop-name-preserved
loop-name-preserved c =
    let settings = c.args.settings.now in
    let names = c.args.names.now in
    let i = c.loop-name.name-index in
    let number = c.in_ok-number.number in
    let at : profile_number settings (slice_index_or names i c.name-item.result) ≡ Some number =
    ap (λ (name : List ℕ). profile_number settings name) (sym c.name-item.is) ∙ sym c.profile_number.ensures.number ∙ c.in_ok-number.was in
    named_more settings names i c.name-item.result c.loop-name.set c.with-set.result number _ c.loop-name-test.true at c.with-set.ensures c.loop-name.invariant

pub returns : goal.returns
returns c =
    let settings = c.args.settings.now in
    let none = at_drop_all (λ (names : List (List ℕ)). option_map (joined c.loop-name.set) (set_of_names settings names)) c.args.names.now c.loop-name.name-index c.loop-name-test.false in
    ap (λ (set : ProfileSet). Some set) (sym (joined_nobody c.loop-name.set)) ∙ sym none ∙ c.loop-name.invariant
