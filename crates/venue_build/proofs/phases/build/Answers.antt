use Rattle.std.proofs.lemmas.Result.{IfOk-weaker}
use Rattle.imdf_read.specs.Broken.{IsBroken}
use Rattle.venue_build.specs.Built.{IsBuilt}
use Rattle.venue_build.specs.Ground.{IsLaterBuilt}
use Rattle.venue_build.proofs.Builds.{later_built}
use Rattle.venue_build.proofs.PhaseLemmas.{nothing, not_empty, empty, rejected_first}
use Rattle.venue_build.proofs.phases.build.Goals as goal

pub returns-then-not-is_empty : goal.returns-then-not-is_empty
returns-then-not-is_empty c =
    let out = c.in_ok-features.field-0 in
    rejected_first c.args.files.now c.args.settings.now out.features out.findings c.shortened.result
    (not_empty c.is_empty.result out.findings c.is_empty.ensures c.if-not-is_empty.true) c.in_ok-features.ensures.findings c.shortened.ensures

pub built-requires : goal.built-requires
built-requires c =
    let out = c.in_ok-features.field-0 in
    let none = empty c.is_empty.result out.findings c.is_empty.ensures c.if-not-is_empty.false in
    c.sound_reading_law.ensures c.args.files.now out.features c.requires
    (nothing (IsBroken c.args.files.now) out.findings none c.in_ok-features.ensures.findings) (c.in_ok-features.ensures.rows none)

pub returns : goal.returns
returns c =
    let files = c.args.files.now in
    let settings = c.args.settings.now in
    let out = c.in_ok-features.field-0 in
    let none = empty c.is_empty.result out.findings c.is_empty.ensures c.if-not-is_empty.false in
    let rows = c.in_ok-features.ensures.rows none in
    let sound = c.sound_reading_law.ensures files out.features c.requires
    (nothing (IsBroken files) out.findings none c.in_ok-features.ensures.findings) rows in
    IfOk-weaker c.built.result (IsLaterBuilt out.features settings out.notes) (IsBuilt files settings)
    (later_built files settings out.features out.findings out.notes none c.in_ok-features.ensures.findings rows sound c.in_ok-features.ensures.notes)
    c.built.ensures
