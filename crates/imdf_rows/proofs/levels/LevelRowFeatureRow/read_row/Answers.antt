use Rattle.std.proofs.Common.{◌≡◌, arith, rules, sym, subst, SFits, w16}
use Rattle.std.proofs.lemmas.Int.{ints}
use Rattle.exact_json.specs.Json.{Json}
use Rattle.imdf_rows.specs.Fields.{IsOrdinal}
use Rattle.imdf_rows.proofs.levels.LevelRowFeatureRow.read_row.Goals as goal

pub returns : goal.returns
returns c = λ texts figure. record {
  id = search rules;
  address = search rules;
  buildings = search rules;
  ordinal = λ n w.
      let fits : SFits w16 c.ordinal_field.result = search rules in
      let P : Json → Type 0 = λ j. IsOrdinal j n in
      let same : c.ordinal_field.result ≡ n = c.ordinal_field.ensures.some n (subst P (sym c.unlisted_property.ensures) w) in
      omega (arith, ints);
  shape = search rules;
}
