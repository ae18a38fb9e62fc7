-- The published board is the one version to which the office's entries lead, and the log has a record of each.
use Rattle.std.proofs.Common.{rules, arith, ◌≡◌, ◌∙◌, ◌+◌, ◌<◌, ◌^◌, List, [], ◌∷◌, ◌++◌, length, sym, ap, subst}
use Rattle.std.proofs.lemmas.List.{length_push}
use Rattle.std.specs.Arc.{arc_value}
use Rattle.venue_hall.specs.Entry.{Entry}
use Rattle.venue_hall.specs.Histories.{Replays}
use Rattle.venue_hall.specs.Logging.{logged}
use Rattle.venue_hall.specs.Standing.{AreRecordsOf}
use Rattle.venue_hall.proofs.Standing.{records_more}
use Rattle.board_copies.proofs.Fronts.{prefix_trans}
use Rattle.board_copies.specs.Rules.{list_of}
use Rattle.board_copies.specs.Stamps.{entries_of}
use Rattle.board_copies.specs.declared.held.Held.{Held}
use Rattle.board_copies.specs.declared.held.Side.{Side}
use Rattle.shared_hall.specs.Offices.{OfficeFacts}
use Rattle.shared_hall.proofs.office.OfficeOf+N+F+Keeper+J.enter.Goals as goal

pub record_of-record-requires-clause-worker : goal.record_of-record-requires-clause-worker
record_of-record-requires-clause-worker g c =
    let held = arc_value c.self.inside.keeper.writer.desk.shown.value.held in
    (c.requires.may held.board (subst (λ (o : OfficeFacts). Replays o.entries held.board) c.self.view_is held.stands)).worker_range

pub queue_next-requires-clause-may : goal.queue_next-requires-clause-may
queue_next-requires-clause-may g c =
    let held = arc_value c.self.inside.keeper.writer.desk.shown.value.held in
    c.requires.may held.board (subst (λ (o : OfficeFacts). Replays o.entries held.board) c.self.view_is held.stands)

pub queue_next-requires-clause-next : goal.queue_next-requires-clause-next
queue_next-requires-clause-next g c =
    let held = arc_value c.self.inside.keeper.writer.desk.shown.value.held in
    c.requires.next held.board (subst (λ (o : OfficeFacts). Replays o.entries held.board) c.self.view_is held.stands)

-- a version's number fits into 32 bits
pub keep-requires-clause-room : goal.keep-requires-clause-room
keep-requires-clause-room g c =
    let side : Side = c.self.inside.keeper.writer.desk.shown.value in
    let read : c.deref.result.now ≡ arc_value side.held = c.deref.ensures ∙ ap (λ (s : Side). arc_value s.held) c.published.ensures in
    let number : c.number-number.result ≡ length (list_of side) = c.number-number.ensures ∙ (ap (λ (h : Held). h.board.number) read ∙ c.number_law.ensures _ _ (arc_value side.held).stands) in
    let small : c.number-number.result < 2 ^ 32 = search rules in
    omega (arith, number, small, c.self.invariant.8)

pub invariant_of-self-2 : goal.invariant_of-self-2
invariant_of-self-2 g c =
    let old : Side = c.self.inside.keeper.writer.desk.shown.value in
    let new : Side = c.show_in.new.writer.desk.shown.value in
    let inside = c.self.invariant in
    let queued = c.in-Ok.ensures in
    let kept = c.in_default-keep.ensures in
    let e : Entry = c.args.ready.entry in
    let now : arc_value new.held ≡ arc_value c.in-Ok.last = c.show_in.ensures.shown in
    let entries : list_of new ≡ list_of old ++ e ∷ [] = ap (λ (h : Held). entries_of h.stamp) now ∙ queued.entries in
    let grown : length (list_of new) ≡ length (list_of old) + 1 = ap length entries ∙ length_push (list_of old) e in (
      c.queue_next.ensures.roll ∙ inside.0,
      ap (λ (h : Held). h.stamp.seen.book) now ∙ (queued.book ∙ inside.1),
      inside.2 ∙ sym (ap (λ (h : Held). h.board.settings) now ∙ queued.settings),
      inside.3,
      omega (arith, c.add.ensures.total, inside.4, grown),
      prefix_trans g.N.HallName.opening (list_of old) (list_of new) inside.5 (e ∷ [], sym entries),
      inside.6,
      inside.7,
      omega (arith, kept.one_more, inside.8, grown),
      subst (λ (h : List Entry). AreRecordsOf (g.J.Log.records c.keep.new.log) h) (sym entries)
          (records_more (g.J.Log.records c.self.inside.log) (g.J.Log.records c.keep.new.log) (list_of old) (logged c.record_of-record.result) e inside.9 kept.appended c.record_of-record.ensures.stands),
      omega (arith, kept.faultless, inside.10),
    )

pub returns-clause-recorded : goal.returns-clause-recorded
returns-clause-recorded g c =
    let told : g.J.Log.records c.self.inside.log ≡ c.args.self.now.records = ap (λ (o : OfficeFacts). o.records) c.self.view_is in
    (logged c.record_of-record.result, rw (sym told) c.in_default-keep.ensures.appended)

pub returns-clause-records : goal.returns-clause-records
returns-clause-records g c =
    let old : Side = c.self.inside.keeper.writer.desk.shown.value in
    let new : Side = c.show_in.new.writer.desk.shown.value in
    let e : Entry = c.args.ready.entry in
    let now : arc_value new.held ≡ arc_value c.in-Ok.last = c.show_in.ensures.shown in
    let entries : list_of new ≡ list_of old ++ e ∷ [] = ap (λ (h : Held). entries_of h.stamp) now ∙ c.in-Ok.ensures.entries in
    subst (λ (h : List Entry). AreRecordsOf (g.J.Log.records c.keep.new.log) h) (sym entries)
    (records_more (g.J.Log.records c.self.inside.log) (g.J.Log.records c.keep.new.log) (list_of old) (logged c.record_of-record.result) e c.self.invariant.9 c.in_default-keep.ensures.appended c.record_of-record.ensures.stands)
