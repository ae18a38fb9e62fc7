-- A rule and a note are known by their numbers.
use Rattle.std.proofs.Common.{◌≡◌, Some, refl}
use Rattle.imdf_schema.specs.declared.rules.Rule.{Rule}
use Rattle.imdf_schema.specs.declared.rules.Rule.TheVariants as rule
use Rattle.imdf_schema.specs.declared.rules.NoteKind.{NoteKind}
use Rattle.imdf_schema.specs.declared.rules.NoteKind.TheVariants as kind
use Rattle.imdf_schema.specs.Rules.{rule_number, rule_numbered, note_number, note_numbered}

pub rule_at : (r : Rule) → rule_numbered (rule_number r) ≡ Some r
rule_at rule.F1 = refl
rule_at rule.F2 = refl
rule_at rule.F3 = refl
rule_at rule.F4 = refl
rule_at rule.M1 = refl
rule_at rule.M2 = refl
rule_at rule.M3 = refl
rule_at rule.C1 = refl
rule_at rule.C2 = refl
rule_at rule.C3 = refl
rule_at rule.C4 = refl
rule_at rule.C5 = refl
rule_at rule.C6 = refl
rule_at rule.V1 = refl
rule_at rule.L1 = refl
rule_at rule.Q1 = refl
rule_at rule.S1 = refl
rule_at rule.S2 = refl
rule_at rule.S3 = refl
rule_at rule.S4 = refl
rule_at rule.G1 = refl
rule_at rule.G2 = refl
rule_at rule.C7 = refl
rule_at rule.X1 = refl
rule_at rule.X2 = refl
rule_at rule.G6 = refl
rule_at rule.G3 = refl
rule_at rule.G4 = refl
rule_at rule.G5 = refl
rule_at rule.K1 = refl
rule_at rule.K2 = refl
rule_at rule.K3 = refl
rule_at rule.K4 = refl
rule_at rule.S5 = refl
rule_at rule.S6 = refl
rule_at rule.S7 = refl
rule_at rule.S8 = refl

pub note_at : (n : NoteKind) → note_numbered (note_number n) ≡ Some n
note_at kind.N1 = refl
note_at kind.N2 = refl
note_at kind.N3 = refl
note_at kind.N4 = refl
note_at kind.N5 = refl
