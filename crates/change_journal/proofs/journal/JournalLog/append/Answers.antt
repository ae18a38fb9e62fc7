use Rattle.std.proofs.Common.{◌≡◌, [], ◌∷◌, ◌++◌, ◌+◌, length, true, false, sym, ap, refl, subst, arith, rules}
use Rattle.std.proofs.lemmas.Result.{err_from_is_err_and}
use Rattle.venue_ports.specs.Moments.{Now}
use Rattle.venue_hall.specs.Logging.{logged}
use Rattle.change_journal.specs.States.{IsReady, IsStaged}
use Rattle.change_journal.specs.Texts.{IsRecord, record_body}
use Rattle.change_journal.specs.Told.{recorded}
use Rattle.change_journal.proofs.Runs.{now_maps}
use Rattle.change_journal.proofs.Steps.{shut_long, staged_long}
use Rattle.change_journal.proofs.Recorded.{told_counted, ready_again, told_kept, ready_more, told_more, failed_append, ended_append, closed_run, put_run, opened_run}
use Rattle.change_journal.proofs.journal.JournalLog.append.Goals as goal

pub invariant_of-self : goal.invariant_of-self
invariant_of-self g c =
    let f = c.self.inside in
    let entry = logged c.args.entry.now in
    let old = g.K.Disk.moments f.disk in
    let records = recorded f.count old in
    let new = g.K.Disk.moments c.close_gate.new.disk in
    let S = IsReady records f.gate f.is_shut in
    let run = closed_run records entry old S new (c.in_err-close_gate.ensures.err records c.self.invariant.ready) in
    record { ready = ready_again f.count f.gate f.is_shut old new run.untold run.now; room = c.self.invariant.room; many = c.self.invariant.many }

pub returns-in_err-close_gate : goal.returns-in_err-close_gate
returns-in_err-close_gate g c =
    let f = c.self.inside in
    let entry = logged c.args.entry.now in
    let old = g.K.Disk.moments f.disk in
    let records = recorded f.count old in
    let new = g.K.Disk.moments c.close_gate.new.disk in
    let S = IsReady records f.gate f.is_shut in
    let run = closed_run records entry old S new (c.in_err-close_gate.ensures.err records c.self.invariant.ready) in
    let p = err_from_is_err_and c.from_residual.result c.from_residual.ensures.1 in
    rw (p.1, ← c.self.view_is) record {
      one_more = tt;
      appended = tt;
      as_many = refl;
      kept = told_kept f.count f.gate f.is_shut old new run.untold run.now;
      counted = told_counted f.count new;
      cause = search rules;
      append = failed_append records entry S old new run;
    }

pub put_body-requires-clause-within : goal.put_body-requires-clause-within
put_body-requires-clause-within g c =
    let f = c.self.inside in
    let entry = logged c.args.entry.now in
    let old = g.K.Disk.moments f.disk in
    let records = recorded f.count old in
    let closed = c.in_ok-close_gate.ensures.ok records c.self.invariant.ready in
    now_maps _ (λ m s. shut_long records f.gate m s) closed.now

pub invariant_of-self-in_err-next : goal.invariant_of-self-in_err-next
invariant_of-self-in_err-next g c =
    let f = c.self.inside in
    let entry = logged c.args.entry.now in
    let old = g.K.Disk.moments f.disk in
    let records = recorded f.count old in
    let closed = c.in_ok-close_gate.ensures.ok records c.self.invariant.ready in
    let new = g.K.Disk.moments c.put_body.new.disk in
    let S = IsReady records f.gate true in
    let run = put_run records entry old S S (g.K.Disk.moments c.close_gate.new.disk) new closed (c.in_err-next.ensures.err records closed.now) in
    record { ready = ready_again f.count f.gate true old new run.untold run.now; room = c.self.invariant.room; many = c.self.invariant.many }

pub returns-in_err-next : goal.returns-in_err-next
returns-in_err-next g c =
    let f = c.self.inside in
    let entry = logged c.args.entry.now in
    let old = g.K.Disk.moments f.disk in
    let records = recorded f.count old in
    let closed = c.in_ok-close_gate.ensures.ok records c.self.invariant.ready in
    let new = g.K.Disk.moments c.put_body.new.disk in
    let S = IsReady records f.gate true in
    let run = put_run records entry old S S (g.K.Disk.moments c.close_gate.new.disk) new closed (c.in_err-next.ensures.err records closed.now) in
    let p = err_from_is_err_and c.from_residual-in_err-next.result c.from_residual-in_err-next.ensures.1 in
    rw (p.1, ← c.self.view_is) record {
      one_more = tt;
      appended = tt;
      as_many = refl;
      kept = told_kept f.count f.gate true old new run.untold run.now;
      counted = told_counted f.count new;
      cause = search rules;
      append = failed_append records entry S old new run;
    }

pub open_gate-requires-clause-within : goal.open_gate-requires-clause-within
open_gate-requires-clause-within g c =
    let f = c.self.inside in
    let entry = logged c.args.entry.now in
    let old = g.K.Disk.moments f.disk in
    let records = recorded f.count old in
    let closed = c.in_ok-close_gate.ensures.ok records c.self.invariant.ready in
    let put = c.in_ok-next.ensures.ok records closed.now in
    now_maps _ (λ m s. staged_long records f.gate entry m s) put.now

pub invariant_of-self-in_err-open_gate : goal.invariant_of-self-in_err-open_gate
invariant_of-self-in_err-open_gate g c =
    let f = c.self.inside in
    let entry = logged c.args.entry.now in
    let old = g.K.Disk.moments f.disk in
    let records = recorded f.count old in
    let is : IsRecord entry = record { loggable = c.requires.loggable; ranges = c.see_ranges.ensures } in
    let closed = c.in_ok-close_gate.ensures.ok records c.self.invariant.ready in
    let put = c.in_ok-next.ensures.ok records closed.now in
    let mid = g.K.Disk.moments c.put_body.new.disk in
    let new = g.K.Disk.moments c.open_gate.new.disk in
    let S = IsReady records f.gate true in
    let T = IsStaged records f.gate entry in
    let U = IsReady records f.gate false in
    let both = put_run records entry old S T (g.K.Disk.moments c.close_gate.new.disk) mid closed put in
    let run = opened_run records entry old T U mid new both (c.in_err-open_gate.ensures.err records entry is put.now) in
    record { ready = ready_again f.count f.gate false old new run.untold run.now; room = c.self.invariant.room; many = c.self.invariant.many }

pub returns-in_err-open_gate : goal.returns-in_err-open_gate
returns-in_err-open_gate g c =
    let f = c.self.inside in
    let entry = logged c.args.entry.now in
    let old = g.K.Disk.moments f.disk in
    let records = recorded f.count old in
    let is : IsRecord entry = record { loggable = c.requires.loggable; ranges = c.see_ranges.ensures } in
    let closed = c.in_ok-close_gate.ensures.ok records c.self.invariant.ready in
    let put = c.in_ok-next.ensures.ok records closed.now in
    let mid = g.K.Disk.moments c.put_body.new.disk in
    let new = g.K.Disk.moments c.open_gate.new.disk in
    let S = IsReady records f.gate true in
    let T = IsStaged records f.gate entry in
    let U = IsReady records f.gate false in
    let both = put_run records entry old S T (g.K.Disk.moments c.close_gate.new.disk) mid closed put in
    let run = opened_run records entry old T U mid new both (c.in_err-open_gate.ensures.err records entry is put.now) in
    let p = err_from_is_err_and c.from_residual-in_err-open_gate.result c.from_residual-in_err-open_gate.ensures.1 in
    rw (p.1, ← c.self.view_is) record {
      one_more = tt;
      appended = tt;
      as_many = refl;
      kept = told_kept f.count f.gate false old new run.untold run.now;
      counted = told_counted f.count new;
      cause = search rules;
      append = failed_append records entry U old new run;
    }

pub invariant_of-self-2 : goal.invariant_of-self-2
invariant_of-self-2 g c =
    let f = c.self.inside in
    let entry = logged c.args.entry.now in
    let old = g.K.Disk.moments f.disk in
    let records = recorded f.count old in
    let is : IsRecord entry = record { loggable = c.requires.loggable; ranges = c.see_ranges.ensures } in
    let closed = c.in_ok-close_gate.ensures.ok records c.self.invariant.ready in
    let put = c.in_ok-next.ensures.ok records closed.now in
    let mid = g.K.Disk.moments c.put_body.new.disk in
    let new = g.K.Disk.moments c.open_gate.new.disk in
    let next = c.in_ok-next.next in
    let S = IsReady records f.gate true in
    let T = IsStaged records f.gate entry in
    let both = put_run records entry old S T (g.K.Disk.moments c.close_gate.new.disk) mid closed put in
    let far = f.gate + 1 + length (record_body entry) in
    let U = IsReady (records ++ entry ∷ []) far true in
    let run = opened_run records entry old T U mid new both (c.in_ok-open_gate.ensures.ok records entry is put.now) in
    let far_is : next ≡ far = c.in_ok-next.ensures.next in
    let ready = subst (λ n. Now (IsReady (records ++ entry ∷ []) n true) new) (sym far_is) run.now in
    let count_is = ap (λ h. h.count) c.self.view_is in
    let short = c.in_ok-next.ensures.short in
    record { ready = ready_more f.count next entry old new run.untold ready; room = omega arith; many = omega (arith, c.requires.room) }

pub returns : goal.returns
returns g c =
    let f = c.self.inside in
    let entry = logged c.args.entry.now in
    let old = g.K.Disk.moments f.disk in
    let records = recorded f.count old in
    let is : IsRecord entry = record { loggable = c.requires.loggable; ranges = c.see_ranges.ensures } in
    let closed = c.in_ok-close_gate.ensures.ok records c.self.invariant.ready in
    let put = c.in_ok-next.ensures.ok records closed.now in
    let mid = g.K.Disk.moments c.put_body.new.disk in
    let new = g.K.Disk.moments c.open_gate.new.disk in
    let next = c.in_ok-next.next in
    let S = IsReady records f.gate true in
    let T = IsStaged records f.gate entry in
    let both = put_run records entry old S T (g.K.Disk.moments c.close_gate.new.disk) mid closed put in
    let far = f.gate + 1 + length (record_body entry) in
    let U = IsReady (records ++ entry ∷ []) far true in
    let run = opened_run records entry old T U mid new both (c.in_ok-open_gate.ensures.ok records entry is put.now) in
    let far_is : next ≡ far = c.in_ok-next.ensures.next in
    let ready = subst (λ n. Now (IsReady (records ++ entry ∷ []) n true) new) (sym far_is) run.now in
    let told = λ (e : new ≡ []). c.in_ok-close_gate.ensures.told (c.in_ok-next.ensures.told (c.in_ok-open_gate.ensures.told e)) in
    rw (← c.self.view_is) record {
      one_more = refl;
      appended = told_more f.count next entry old new run.untold told ready;
      as_many = tt;
      kept = tt;
      counted = told_counted (f.count + 1) new;
      cause = search rules;
      append = ended_append records entry far old new run;
    }
