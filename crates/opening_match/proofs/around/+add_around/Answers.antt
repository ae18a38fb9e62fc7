use Rattle.std.proofs.Common.{arith}
use Rattle.std.proofs.lemmas.Result.{on_ok_weaker}
use Rattle.opening_match.proofs.Gathering.{both_around, apart_front, apart_back}
use Rattle.opening_match.proofs.around.+add_around.Goals as goal

pub add_around-requires : goal.add_around-requires
add_around-requires t c =
    let half = c.in-Some.ensures in
    (omega (arith, half.front_depth), (half.front_sound c.requires.sound, (apart_front c.args.branch.entries.now c.in-Some.front.entries.now c.in-Some.back.entries.now half.entries c.requires.apart, c.requires.range)))

pub add_around-requires-in-Some : goal.add_around-requires-in-Some
add_around-requires-in-Some t c =
    let half = c.in-Some.ensures in
    (omega (arith, half.back_depth), (half.back_sound c.requires.sound, (apart_back c.args.branch.entries.now c.in-Some.front.entries.now c.in-Some.back.entries.now half.entries c.requires.apart, c.requires.range)))

pub returns-in_ok-add_around-in-Some : goal.returns-in_ok-add_around-in-Some
returns-in_ok-add_around-in-Some t c =
    let sought = c.args.sought.now in
    let whole = c.args.branch.entries.now in
    let front = c.in-Some.front.entries.now in
    let back = c.in-Some.back.entries.now in
    let old = c.args.places.now.items in
    let between = c.add_around.new.places.items in
    let new = c.add_around-in-Some.new.places.items in
    on_ok_weaker c.add_around-in-Some.result
    (both_around sought whole front back old between new c.in-Some.ensures.entries c.requires.apart c.in_ok-add_around-in-Some.ensures) c.add_around-in-Some.ensures
