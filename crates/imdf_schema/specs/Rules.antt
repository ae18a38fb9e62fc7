-- The rules by which folders are judged, and the notes: their numbers and names.
use Rattle.std.specs.Prelude.{ℕ, zero, suc, List, [], ◌∷◌, Option, None, slice_get, codes}
use Rattle.imdf_schema.specs.declared.rules.Rule.{Rule}
use Rattle.imdf_schema.specs.declared.rules.Rule.TheVariants as rule
use Rattle.imdf_schema.specs.declared.rules.NoteKind.{NoteKind}
use Rattle.imdf_schema.specs.declared.rules.NoteKind.TheVariants as kind

-- the item of a number, counted from 1
abbrev pub from_one : {A : Type 0} → List A → ℕ → Option A
from_one items zero = None
from_one items (suc n) = slice_get items n

-- the number of a rule, which stands in findings
abbrev pub rule_number : Rule → ℕ
rule_number rule.F1 = 1
rule_number rule.F2 = 2
rule_number rule.F3 = 3
rule_number rule.F4 = 4
rule_number rule.M1 = 5
rule_number rule.M2 = 6
rule_number rule.M3 = 7
rule_number rule.C1 = 8
rule_number rule.C2 = 9
rule_number rule.C3 = 10
rule_number rule.C4 = 11
rule_number rule.C5 = 12
rule_number rule.C6 = 13
rule_number rule.V1 = 14
rule_number rule.L1 = 15
rule_number rule.Q1 = 16
rule_number rule.S1 = 17
rule_number rule.S2 = 18
rule_number rule.S3 = 19
rule_number rule.S4 = 20
rule_number rule.G1 = 21
rule_number rule.G2 = 22
rule_number rule.C7 = 23
rule_number rule.X1 = 24
rule_number rule.X2 = 25
rule_number rule.G6 = 26
rule_number rule.G3 = 27
rule_number rule.G4 = 28
rule_number rule.G5 = 29
rule_number rule.K1 = 30
rule_number rule.K2 = 31
rule_number rule.K3 = 32
rule_number rule.K4 = 33
rule_number rule.S5 = 34
rule_number rule.S6 = 35
rule_number rule.S7 = 36
rule_number rule.S8 = 37

-- its name
abbrev pub rule_name : Rule → List ℕ
rule_name rule.F1 = codes "F1"
rule_name rule.F2 = codes "F2"
rule_name rule.F3 = codes "F3"
rule_name rule.F4 = codes "F4"
rule_name rule.M1 = codes "M1"
rule_name rule.M2 = codes "M2"
rule_name rule.M3 = codes "M3"
rule_name rule.C1 = codes "C1"
rule_name rule.C2 = codes "C2"
rule_name rule.C3 = codes "C3"
rule_name rule.C4 = codes "C4"
rule_name rule.C5 = codes "C5"
rule_name rule.C6 = codes "C6"
rule_name rule.V1 = codes "V1"
rule_name rule.L1 = codes "L1"
rule_name rule.Q1 = codes "Q1"
rule_name rule.S1 = codes "S1"
rule_name rule.S2 = codes "S2"
rule_name rule.S3 = codes "S3"
rule_name rule.S4 = codes "S4"
rule_name rule.G1 = codes "G1"
rule_name rule.G2 = codes "G2"
rule_name rule.C7 = codes "C7"
rule_name rule.X1 = codes "X1"
rule_name rule.X2 = codes "X2"
rule_name rule.G6 = codes "G6"
rule_name rule.G3 = codes "G3"
rule_name rule.G4 = codes "G4"
rule_name rule.G5 = codes "G5"
rule_name rule.K1 = codes "K1"
rule_name rule.K2 = codes "K2"
rule_name rule.K3 = codes "K3"
rule_name rule.K4 = codes "K4"
rule_name rule.S5 = codes "S5"
rule_name rule.S6 = codes "S6"
rule_name rule.S7 = codes "S7"
rule_name rule.S8 = codes "S8"

-- the rules in the order of their numbers
abbrev pub all_rules : List Rule
all_rules =
    rule.F1 ∷ rule.F2 ∷ rule.F3 ∷ rule.F4 ∷ rule.M1 ∷ rule.M2 ∷ rule.M3 ∷ rule.C1 ∷ rule.C2 ∷ rule.C3 ∷ rule.C4 ∷ rule.C5 ∷ rule.C6
    ∷ rule.V1 ∷ rule.L1 ∷ rule.Q1 ∷ rule.S1 ∷ rule.S2 ∷ rule.S3 ∷ rule.S4 ∷ rule.G1 ∷ rule.G2 ∷ rule.C7 ∷ rule.X1 ∷ rule.X2 ∷ rule.G6
    ∷ rule.G3 ∷ rule.G4 ∷ rule.G5 ∷ rule.K1 ∷ rule.K2 ∷ rule.K3 ∷ rule.K4 ∷ rule.S5 ∷ rule.S6
    ∷ rule.S7 ∷ rule.S8 ∷ []

-- the rule of a number
abbrev pub rule_numbered : ℕ → Option Rule
rule_numbered number = from_one all_rules number

-- the number of a note, which stands in notes
abbrev pub note_number : NoteKind → ℕ
note_number kind.N1 = 1
note_number kind.N2 = 2
note_number kind.N3 = 3
note_number kind.N4 = 4
note_number kind.N5 = 5

-- its name
abbrev pub note_name : NoteKind → List ℕ
note_name kind.N1 = codes "N1"
note_name kind.N2 = codes "N2"
note_name kind.N3 = codes "N3"
note_name kind.N4 = codes "N4"
note_name kind.N5 = codes "N5"

-- the notes in the order of their numbers
abbrev pub all_notes : List NoteKind
all_notes =
    kind.N1 ∷ kind.N2 ∷ kind.N3 ∷ kind.N4 ∷ kind.N5 ∷ []

-- the note of a number
abbrev pub note_numbered : ℕ → Option NoteKind
note_numbered number = from_one all_notes number
