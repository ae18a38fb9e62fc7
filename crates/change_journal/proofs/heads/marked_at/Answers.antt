use Rattle.std.proofs.Common.{◌≡◌, ◌+◌, ◌<◌, Option, Some, length, refl, sym, subst, arith}
use Rattle.venue_hall.specs.Records.{LoggedAct}
use Rattle.change_journal.specs.Forms.{IsMarkAt, IsMarkWithin, mark_text}
use Rattle.change_journal.specs.Looks.{Spans}
use Rattle.change_journal.specs.Places.{IsRecordAt}
use Rattle.change_journal.specs.declared.heads.Mark.{Mark}
use Rattle.change_journal.proofs.Parsing.{broken_mark, whole_mark}
use Rattle.change_journal.proofs.heads.marked_at.Goals as goal

pub returns-in-Some-clause-found : goal.returns-in-Some-clause-found
returns-in-Some-clause-found g c = λ bytes is.
    let gate = c.args.gate in
    let worker = c.args.worker in
    let mark = c.in-Some.mark in
    let at : IsMarkAt (gate + 3) (Some mark) bytes = subst (λ (o : Option Mark). IsMarkAt (gate + 3) o bytes) c.in-Some.is (c.in_ok-mark.ensures.mark bytes is) in
    let within = subst (λ (o : Option Mark). IsMarkWithin (gate + 3) c.args.reader.now.length o) c.in-Some.is c.in_ok-mark.ensures.within in
    let there : gate + 3 + 18 ≡ gate + 21 = omega arith in
    let text = subst (λ n. Spans (gate + 3) n (mark_text mark) bytes) there at in
    let long = c.in_ok-mark.ensures.whole bytes is in
    let fits : gate + 21 < length bytes = omega (arith, within.0, long) in
    subst (λ (a : LoggedAct). IsRecordAt gate (gate + 21) (record { worker = worker; act = a }) bytes) (sym c.marked_act.ensures)
    (whole_mark gate (gate + 21) worker c.args.is_open mark bytes refl fits c.requires.worker within.1 within.2 (c.requires.head bytes is) text)

pub returns-in-None-clause-found : goal.returns-in-None-clause-found
returns-in-None-clause-found g c = λ bytes is.
    let at = subst (λ (o : Option Mark). IsMarkAt (c.args.gate + 3) o bytes) c.in-None.is (c.in_ok-mark.ensures.mark bytes is) in
    broken_mark c.args.gate c.args.worker c.args.is_open bytes (c.requires.head bytes is) at
