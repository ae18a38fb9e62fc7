use Rattle.std.proofs.Common.{refl, inl, inr}
use Rattle.std.specs.Prelude.{string_bytes, map}
use Rattle.venue_commands.specs.Runs.{folders_between, run_between}
use Rattle.venue_program.proofs.Hosting.{service_headline, asks_doors}
use Rattle.venue_program.proofs.KeptRuns.{session_headline, session_console, session_journal, service_doors, service_journal}
use Rattle.venue_program.proofs.KeptRuns.{service_headline as kept_headline}
use Rattle.venue_program.proofs.program.run.Goals as goal

pub returns-in-Serve-clause-ends : goal.returns-in-Serve-clause-ends
returns-in-Serve-clause-ends g c =
    inl (
      c.serve-status.ensures.ends (map string_bytes c.args.words.now) (rw c.in-Serve.is at c.read_command.ensures),
      (record { opens = refl; names = refl; faults = refl; nothing = refl }),
    )

pub returns-in-Serve-clause-headline : goal.returns-in-Serve-clause-headline
returns-in-Serve-clause-headline g c =
    service_headline (map string_bytes c.args.words.now) (g.F.Folders.files c.args.folders)
    (run_between g.C.Stream c.args.console.now c.serve-status.new.console (folders_between g.F.Folders c.args.folders c.serve-status.result.folders)) c.serve-status.result.status
    c.in-Serve.service (rw c.in-Serve.is at c.read_command.ensures)

pub returns-in-Serve-clause-doors : goal.returns-in-Serve-clause-doors
returns-in-Serve-clause-doors g c none = absurd (asks_doors (map string_bytes c.args.words.now) c.in-Serve.service (rw c.in-Serve.is at c.read_command.ensures) none)

pub returns-in-KeptSession-clause-ends : goal.returns-in-KeptSession-clause-ends
returns-in-KeptSession-clause-ends g c = inr (c.kept_session.ensures.ends (map string_bytes c.args.words.now) (rw c.in-KeptSession.is at c.read_command.ensures))

pub returns-in-KeptSession-clause-headline : goal.returns-in-KeptSession-clause-headline
returns-in-KeptSession-clause-headline g c =
    session_headline (map string_bytes c.args.words.now) (g.F.Folders.files c.args.folders)
    (run_between g.C.Stream c.args.console.now c.kept_session.new.console (folders_between g.F.Folders c.args.folders c.kept_session.result.folders)) c.kept_session.result.status
    c.in-KeptSession.of (rw c.in-KeptSession.is at c.read_command.ensures)

pub returns-in-KeptSession-clause-left : goal.returns-in-KeptSession-clause-left
returns-in-KeptSession-clause-left g c none = absurd (session_console (map string_bytes c.args.words.now) c.in-KeptSession.of (rw c.in-KeptSession.is at c.read_command.ensures) none)

pub returns-in-KeptSession-clause-disks : goal.returns-in-KeptSession-clause-disks
returns-in-KeptSession-clause-disks g c none = absurd (session_journal (map string_bytes c.args.words.now) c.in-KeptSession.of (rw c.in-KeptSession.is at c.read_command.ensures) none)

pub returns-in-KeptServe-clause-ends : goal.returns-in-KeptServe-clause-ends
returns-in-KeptServe-clause-ends g c = inr (c.kept_service.ensures.ends (map string_bytes c.args.words.now) (rw c.in-KeptServe.is at c.read_command.ensures))

pub returns-in-KeptServe-clause-headline : goal.returns-in-KeptServe-clause-headline
returns-in-KeptServe-clause-headline g c =
    kept_headline (map string_bytes c.args.words.now) (g.F.Folders.files c.args.folders)
    (run_between g.C.Stream c.args.console.now c.kept_service.new.console (folders_between g.F.Folders c.args.folders c.kept_service.result.folders)) c.kept_service.result.status
    c.in-KeptServe.of (rw c.in-KeptServe.is at c.read_command.ensures)

pub returns-in-KeptServe-clause-doors : goal.returns-in-KeptServe-clause-doors
returns-in-KeptServe-clause-doors g c none = absurd (service_doors (map string_bytes c.args.words.now) c.in-KeptServe.of (rw c.in-KeptServe.is at c.read_command.ensures) none)

pub returns-in-KeptServe-clause-disks : goal.returns-in-KeptServe-clause-disks
returns-in-KeptServe-clause-disks g c none = absurd (service_journal (map string_bytes c.args.words.now) c.in-KeptServe.of (rw c.in-KeptServe.is at c.read_command.ensures) none)

pub returns-in-Local-clause-ends : goal.returns-in-Local-clause-ends
returns-in-Local-clause-ends g c =
    inl (
      inl (record {
        ends = c.run_alone-status.ensures.ends (map string_bytes c.args.words.now) (rw c.in-Local.is at c.read_command.ensures);
        unasked = (record { accepted = refl; binds = refl; bound = refl; faults = refl });
      }),
      (record { opens = refl; names = refl; faults = refl; nothing = refl }),
    )

pub returns-in-Local-clause-headline : goal.returns-in-Local-clause-headline
returns-in-Local-clause-headline g c = c.run_alone-status.ensures.headline (map string_bytes c.args.words.now) (rw c.in-Local.is at c.read_command.ensures)

pub returns-in-Local-clause-left : goal.returns-in-Local-clause-left
returns-in-Local-clause-left g c = c.run_alone-status.ensures.left (map string_bytes c.args.words.now) (rw c.in-Local.is at c.read_command.ensures)
