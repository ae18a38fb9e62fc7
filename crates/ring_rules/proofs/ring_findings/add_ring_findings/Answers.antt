use Rattle.rule_reports.proofs.Adding.{on_ok}
use Rattle.ring_rules.proofs.FolderLemmas.{fit_fixtures, fit_footprints, fit_levels, fit_units, fit_venues, five_files}
use Rattle.ring_rules.proofs.ring_findings.add_ring_findings.Goals as goal

pub add_file-requires-clause-fit : goal.add_file-requires-clause-fit
add_file-requires-clause-fit c = fit_fixtures c.args.features.now c.requires.close

pub add_file-requires-2-clause-fit : goal.add_file-requires-2-clause-fit
add_file-requires-2-clause-fit c = fit_footprints c.args.features.now c.requires.close

pub add_file-requires-3-clause-fit : goal.add_file-requires-3-clause-fit
add_file-requires-3-clause-fit c = fit_levels c.args.features.now c.requires.close

pub add_file-requires-4-clause-fit : goal.add_file-requires-4-clause-fit
add_file-requires-4-clause-fit c = fit_units c.args.features.now c.requires.close

pub add_file-requires-5-clause-fit : goal.add_file-requires-5-clause-fit
add_file-requires-5-clause-fit c = fit_venues c.args.features.now c.requires.close

pub returns-clause-adds : goal.returns-clause-adds
returns-clause-adds c = on_ok c.add_file-5.result _ _ c.add_file-5.ensures.adds (λ last.
    five_files c.args.features.now c.args.findings.now.items c.add_file.new.findings.items c.add_file-2.new.findings.items c.add_file-3.new.findings.items c.add_file-4.new.findings.items c.add_file-5.new.findings.items
    c.in_ok-add_file.ensures.adds c.in_ok-add_file-2.ensures.adds c.in_ok-add_file-3.ensures.adds c.in_ok-add_file-4.ensures.adds last)
