-- The body of a record, by its kind.
use Rattle.std.proofs.Common.{◌≡◌, [], ◌∷◌, ◌++◌, List, true, sym, ap, ◌∙◌}
use Rattle.std.specs.Int.{bytes_high_first}
use Rattle.std.specs.List.{flat_map}
use Rattle.std.proofs.lemmas.Result.{on_ok_weaker}
use Rattle.venue_types.specs.declared.files.Slot.{Slot}
use Rattle.venue_ports.specs.Moments.{Now}
use Rattle.venue_hall.specs.Logging.{logged}
use Rattle.venue_hall.specs.Records.{Logged}
use Rattle.venue_hall.specs.declared.records.Record.{Record}
use Rattle.change_journal.specs.Runs.{Run}
use Rattle.change_journal.specs.States.{IsReady, IsStaged}
use Rattle.change_journal.specs.Texts.{IsJournal, record_body, slot_text}
use Rattle.change_journal.proofs.bodies.put_body.Goals as goal

pub returns-in-Published-clause-ok : goal.returns-in-Published-clause-ok
returns-in-Published-clause-ok g c =
    let old = g.K.Disk.moments c.args.disk.now in
    let new = g.K.Disk.moments c.put_published.new.disk in
    let gate = c.args.gate in
    let entry = logged c.args.entry.now in
    let same : record_body entry ≡ 1 ∷ (c.in-Published.worker ∷ flat_map slot_text c.as_slice.result.now) =
    ap (λ (r : Record). record_body (logged r)) c.in-Published.is
    ∙ ap (λ (l : List Slot). 1 ∷ (c.in-Published.worker ∷ flat_map slot_text l)) (sym c.as_slice.ensures) in
    on_ok_weaker {Q = (records : List Logged) → Now (IsReady records gate true) old → Run (IsJournal records) (IsStaged records gate entry) old new} _
    (λ stages records ready. stages.runs records entry same ready) c.put_published.ensures.ok

pub returns-in-Closed-clause-ok : goal.returns-in-Closed-clause-ok
returns-in-Closed-clause-ok g c =
    let old = g.K.Disk.moments c.args.disk.now in
    let new = g.K.Disk.moments c.put_profiles.new.disk in
    let gate = c.args.gate in
    let entry = logged c.args.entry.now in
    let here = c.in-Closed in
    let same : record_body entry ≡ 2 ∷ (here.worker ∷ (bytes_high_first 16 here.feature.0 ++ bytes_high_first 2 here.profiles)) =
    ap (λ (r : Record). record_body (logged r)) here.is in
    on_ok_weaker {Q = (records : List Logged) → Now (IsReady records gate true) old → Run (IsJournal records) (IsStaged records gate entry) old new} _
    (λ stages records ready. stages.runs records entry same ready) c.put_profiles.ensures.ok

pub returns-in-Reopened-clause-ok : goal.returns-in-Reopened-clause-ok
returns-in-Reopened-clause-ok g c =
    let old = g.K.Disk.moments c.args.disk.now in
    let new = g.K.Disk.moments c.put_profiles-in-Reopened.new.disk in
    let gate = c.args.gate in
    let entry = logged c.args.entry.now in
    let here = c.in-Reopened in
    let same : record_body entry ≡ 3 ∷ (here.worker ∷ (bytes_high_first 16 here.feature.0 ++ bytes_high_first 2 here.profiles)) =
    ap (λ (r : Record). record_body (logged r)) here.is in
    on_ok_weaker {Q = (records : List Logged) → Now (IsReady records gate true) old → Run (IsJournal records) (IsStaged records gate entry) old new} _
    (λ stages records ready. stages.runs records entry same ready) c.put_profiles-in-Reopened.ensures.ok

pub returns-in-Published-clause-told : goal.returns-in-Published-clause-told
returns-in-Published-clause-told g c =
    let old = g.K.Disk.moments c.args.disk.now in
    let new = g.K.Disk.moments c.put_published.new.disk in
    on_ok_weaker {Q = new ≡ [] → old ≡ []} _ (λ stages. stages.told) c.put_published.ensures.ok

pub returns-in-Closed-clause-told : goal.returns-in-Closed-clause-told
returns-in-Closed-clause-told g c =
    let old = g.K.Disk.moments c.args.disk.now in
    let new = g.K.Disk.moments c.put_profiles.new.disk in
    on_ok_weaker {Q = new ≡ [] → old ≡ []} _ (λ stages. stages.told) c.put_profiles.ensures.ok

pub returns-in-Reopened-clause-told : goal.returns-in-Reopened-clause-told
returns-in-Reopened-clause-told g c =
    let old = g.K.Disk.moments c.args.disk.now in
    let new = g.K.Disk.moments c.put_profiles-in-Reopened.new.disk in
    on_ok_weaker {Q = new ≡ [] → old ≡ []} _ (λ stages. stages.told) c.put_profiles-in-Reopened.ensures.ok
