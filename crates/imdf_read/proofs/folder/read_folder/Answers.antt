use Rattle.std.proofs.Common.{List, nat_lt, subst}
use Rattle.venue_types.specs.declared.files.Slot.{Slot}
use Rattle.imdf_read.specs.Progress.{IsUpTo, HaveRows}
use Rattle.rule_reports.proofs.Adding.{Adds-found}
use Rattle.imdf_read.proofs.FolderReports.{report, notes_listed, all_rows}
use Rattle.imdf_read.proofs.folder.read_folder.Goals as goal

pub returns : goal.returns
returns c =
    let files = c.args.files.now in
    let p = c.read_rows.new.progress in
    let a = p.gathered.findings.items in
    let b = c.add.new.places.items in
    let d = c.add-2.new.places.items in
    let up : IsUpTo files.slots 16 p = subst (λ (ss : List Slot). IsUpTo ss 16 p) c.as_slice-slots.ensures (c.in_ok-features.ensures.progress c.in_ok-progress.ensures) in
    let held : HaveRows files.slots c.in_ok-features.features = subst (λ (ss : List Slot). HaveRows ss c.in_ok-features.features) c.as_slice-slots.ensures c.in_ok-features.ensures.rows in
    let listed = report files p c.whole.result c.whole-2.result b d c.in_order.result c.requires up c.whole.ensures c.whole-2.ensures
    (λ P into back. Adds-found P (nat_lt 100000 p.items) c.whole.result a b c.in_ok-add.ensures.ok into back)
    (λ P into back. Adds-found P (nat_lt 1000000 p.positions) c.whole-2.result b d c.in_ok-add-2.ensures.ok into back)
    c.in_order.ensures in
    record {
      findings = listed;
      notes = notes_listed files p c.notes_in_order.result up c.notes_in_order.ensures;
      rows = all_rows files c.in_order.result c.in_ok-features.features listed held;
    }
