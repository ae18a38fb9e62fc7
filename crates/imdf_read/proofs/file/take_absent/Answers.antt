use Rattle.std.proofs.Common.{◌∙◌, rules, refl, inl, sym}
use denote.Enum.Bare.{same_true, true_same}
use Rattle.venue_types.specs.declared.files.Slot.TheVariants.{Absent}
use Rattle.venue_types.specs.contracts.folder_file.File.{the_type}
use Rattle.venue_types.specs.declared.folder_file.File.TheVariants as file
use Rattle.imdf_schema.specs.declared.rules.Rule.TheVariants.{V1}
use Rattle.rule_reports.proofs.Adding.{Adds-found}
use Rattle.imdf_read.proofs.Slots.{no_value_adds, adds_whole, absent_rules}
use Rattle.imdf_read.proofs.file.take_absent.Goals as goal

pub returns-clause-findings : goal.returns-clause-findings
returns-clause-findings g c =
    let f = c.args.file in
    let a = c.args.gathered.now.findings.items in
    let b = c.add.new.places.items in
    no_value_adds f Absent V1 a b (λ v h. h) (absent_rules f c.requires)
    (adds_whole f Absent V1 c.eq.result c.whole.result a b
    (λ h. (same_true the_type (search rules) f file.Venue (sym c.eq.ensures ∙ h), inl refl))
    (λ v. c.eq.ensures ∙ true_same the_type f file.Venue v.0)
    c.whole.ensures
    (λ P into back. Adds-found P c.eq.result c.whole.result a b c.in_ok-add.ensures.ok into back))
