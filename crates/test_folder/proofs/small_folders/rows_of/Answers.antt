use Rattle.imdf_read.specs.Broken.{IsBroken}
use Rattle.test_folder.proofs.Silence.{nothing}
use Rattle.test_folder.proofs.small_folders.rows_of.Goals as goal

pub returns : goal.returns
returns c =
    let out = c.in_ok-features.field-0 in
    let none = c.is_empty.ensures.0 c.if-not-is_empty.false in
    c.sound_reading_law.ensures c.args.files.now out.features c.requires
    (nothing (IsBroken c.args.files.now) out.findings none c.in_ok-features.ensures.findings.whole) (c.in_ok-features.ensures.rows none)
