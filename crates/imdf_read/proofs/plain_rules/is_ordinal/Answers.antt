use Rattle.std.proofs.Common.{ℤ, Option, Some, None, Bool, is_some, IsTrue, IfSome, IfNone, ◌↔◌, refl, sym, subst}
use Rattle.exact_json.specs.Json.{Json}
use Rattle.imdf_schema.specs.Values.{seen}
use Rattle.imdf_rows.specs.Fields.{IsOrdinal}
use Rattle.imdf_read.proofs.plain_rules.is_ordinal.Goals as goal

known : (v : Json) (o : Option ℤ) → IfSome o (IsOrdinal v) → IfNone o ((n : ℤ) → ¬ IsOrdinal v n) → IsTrue (is_some o) ↔ ((n : ℤ) × IsOrdinal v n)
known v None some none = ((λ h. cc), (λ o. absurd (none o.0 o.1)))
known v (Some n) some none = ((λ h. (n, some)), (λ o. refl))

pub returns : goal.returns
returns c =
    let P : Bool → Type 0 = λ b. IsTrue b ↔ ((n : ℤ) × IsOrdinal (seen c.args.value) n) in
    subst P (sym c.is_some.ensures) (known (seen c.args.value) c.ordinal.result c.ordinal.ensures.some c.ordinal.ensures.none)
