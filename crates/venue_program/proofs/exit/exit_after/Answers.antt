use Rattle.std.proofs.Common.{◌≡◌, [], refl, ap}
use Rattle.std.specs.Prelude.{string_bytes, map}
use Rattle.venue_program.specs.declared.exit.WordsFault.TheVariants.{NotText, OutOfMemory}
use Rattle.venue_program.proofs.Exiting.{exits_as, exits_words, exits_no_text, exits_no_memory, leaves_words, leaves_fault, keeps_words, keeps_fault, nothing_asked, nobody_asked, no_session_as, no_service_as}
use Rattle.venue_program.proofs.exit.exit_after.Goals as goal

pub returns-in-Ok-clause-exits : goal.returns-in-Ok-clause-exits
returns-in-Ok-clause-exits g c =
    exits_words c.args.words c.in-Ok.words (g.F.Folders.files c.args.folders) _ _ _ _ c.in-Ok.is
    (exits_as (map string_bytes c.in-Ok.words.items) (map string_bytes c.as_slice.result.now) (g.F.Folders.files c.args.folders) _ _ _ _ _
    (ap (map string_bytes) c.as_slice.ensures.value) c.run-status.ensures.ends c.code_of.ensures)

pub returns-in-Ok-clause-doors : goal.returns-in-Ok-clause-doors
returns-in-Ok-clause-doors g c =
    keeps_words c.args.words c.in-Ok.words _ c.in-Ok.is
    (λ none. c.run-status.ensures.doors (no_service_as (map string_bytes c.in-Ok.words.items) (map string_bytes c.as_slice.result.now) (ap (map string_bytes) c.as_slice.ensures.value) none))

pub returns-in-Ok-clause-left : goal.returns-in-Ok-clause-left
returns-in-Ok-clause-left g c =
    leaves_words c.args.words c.in-Ok.words _ _ c.in-Ok.is
    (λ none. c.run-status.ensures.left (no_session_as (map string_bytes c.in-Ok.words.items) (map string_bytes c.as_slice.result.now) (ap (map string_bytes) c.as_slice.ensures.value) none))

pub returns-in-Err-NotText-clause-exits : goal.returns-in-Err-NotText-clause-exits
returns-in-Err-NotText-clause-exits g c =
    let named : c.in-Err-NotText.field-0 ≡ NotText = rw c.in-Err-NotText.is at c.in-Err-NotText.field-0-is in
    exits_no_text c.args.words c.in-Err-NotText.field-0 (g.F.Folders.files c.args.folders) _ _ _ _ c.in-Err-NotText.is named
    (exits_as [] [] (g.F.Folders.files c.args.folders) _ _ _ _ _ refl c.run-status-in-Err-NotText.ensures.ends c.code_of-in-Err-NotText.ensures)

pub returns-in-Err-NotText-clause-doors : goal.returns-in-Err-NotText-clause-doors
returns-in-Err-NotText-clause-doors g c =
    keeps_fault c.args.words c.in-Err-NotText.field-0 _ c.in-Err-NotText.is (c.run-status-in-Err-NotText.ensures.doors nobody_asked)

pub returns-in-Err-NotText-clause-left : goal.returns-in-Err-NotText-clause-left
returns-in-Err-NotText-clause-left g c =
    leaves_fault c.args.words c.in-Err-NotText.field-0 _ _ c.in-Err-NotText.is (c.run-status-in-Err-NotText.ensures.left nothing_asked)

pub returns-in-Err-OutOfMemory-clause-exits : goal.returns-in-Err-OutOfMemory-clause-exits
returns-in-Err-OutOfMemory-clause-exits g c =
    let named : c.in-Err-OutOfMemory.field-0 ≡ OutOfMemory = rw c.in-Err-OutOfMemory.is at c.in-Err-OutOfMemory.field-0-is in
    exits_no_memory c.args.words c.in-Err-OutOfMemory.field-0 (g.F.Folders.files c.args.folders) _ _ _ _ c.in-Err-OutOfMemory.is named
    (record { written = refl; faultless = record { console = refl; folders = refl }; unread = refl }) (record { accepted = refl; binds = refl; bound = refl; faults = refl }) (record { opens = refl; names = refl; faults = refl; nothing = refl }) c.code_of-in-Err-OutOfMemory.ensures

pub returns-in-Err-OutOfMemory-clause-left : goal.returns-in-Err-OutOfMemory-clause-left
returns-in-Err-OutOfMemory-clause-left g c = leaves_fault c.args.words c.in-Err-OutOfMemory.field-0 _ _ c.in-Err-OutOfMemory.is refl
