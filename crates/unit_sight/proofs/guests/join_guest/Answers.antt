use Rattle.std.proofs.Common.{◌||◌, true, false, length, sym, ◌∙◌}
use Rattle.std.proofs.lemmas.Bool.{not-true, not-false}
use Rattle.unit_sight.specs.Tables.{joins}
use Rattle.unit_sight.proofs.PairLemmas.{is_pair, size_of}
use Rattle.unit_sight.proofs.GuestLemmas.{blind_is, seeing_left, guest_joined}
use Rattle.unit_sight.proofs.guests.join_guest.Goals as goal

pub returns-then-sees_some-clause-told : goal.returns-then-sees_some-clause-told
returns-then-sees_some-clause-told c =
    λ sees test far lengths same start.
    let n = length c.args.lengths.now.spots.now in
    seeing_left sees far n c.args.a test c.args.bits.now (blind_is sees n c.args.a c.args.blind.now true false same c.requires.place (not-true _ (sym c.sees_some.ensures ∙ c.if-sees_some.true))) start

pub returns-in-Some-clause-size : goal.returns-in-Some-clause-size
returns-in-Some-clause-size c = size_of (length c.args.lengths.now.spots.now) (λ i j. joins c.args.bits.now i j || is_pair c.args.a c.in-Some.host i j) c.args.bits.now c.join.new.self c.requires.size c.join.ensures

pub returns-in-Some-clause-told : goal.returns-in-Some-clause-told
returns-in-Some-clause-told c =
    λ sees test far lengths same start.
    let n = length c.args.lengths.now.spots.now in
    guest_joined sees far n c.args.a c.in-Some.host test c.args.bits.now c.join.new.self
    (blind_is sees n c.args.a c.args.blind.now true true same c.requires.place (not-false _ (sym c.sees_some.ensures ∙ c.if-sees_some.false)))
    (sym (c.host_of.ensures.host sees far lengths same) ∙ c.in-Some.is)
    start c.join.ensures
