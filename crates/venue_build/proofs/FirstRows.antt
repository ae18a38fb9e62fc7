-- The first row of an identifier, by an index.
use Rattle.std.proofs.Common.{◌≡◌, ℕ, ◌≤◌, nat_lt, List, Bool, true, false, cond, Option, Some, None, length, map, refl, sym, ap, subst, ◌∙◌, arith}
use Rattle.std.specs.Prelude.{slice_get}
use Rattle.std.specs.List.{position_from, find, position_or_len}
use Rattle.std.proofs.lemmas.Bool.Decides.{nat_tests}
use Rattle.std.proofs.lemmas.Iterator.Adapters.{position_from-zero}
use Rattle.std.proofs.lemmas.List.{map-id}
use Rattle.std.proofs.lemmas.List.Folds.{find_at}
use Rattle.std.proofs.lemmas.Option.{slice_get_past}
use Rattle.venue_types.specs.declared.feature_id.FeatureId.{FeatureId}
use Rattle.imdf_read.specs.Index.{Index}
use Rattle.imdf_read.specs.Indexes.{IsIndex}
use Rattle.link_graph.proofs.Finding.{number_exact, number_map}
use Rattle.venue_build.specs.FirstRows.{FindsFirst}

-- the row at a place, if there is a place
abbrev pub row_at : {R : Type 0} → List R → Option ℕ → Option R
row_at rows None = None
row_at rows (Some k) = slice_get rows k

behind : (p n : ℕ) → nat_lt p n ≡ false → n ≤ p
behind p n e = grind (arith, nat_tests)

by_test : {R : Type 0} (rows : List R) (p : ℕ) (b : Bool) → nat_lt p (length rows) ≡ b → slice_get rows p ≡ row_at rows (cond b (Some p) None)
by_test rows p true e = refl
by_test rows p false e = slice_get_past rows p (behind p (length rows) e)

-- the first that passes stands at the first place
found_by : {R : Type 0} (test : R → Bool) (rows : List R) → find test rows ≡ row_at rows (position_from test 0 rows)
found_by test rows =
    find_at test rows
    ∙ by_test rows (position_or_len test rows) (nat_lt (position_or_len test rows) (length rows)) refl
    ∙ ap (λ (o : Option ℕ). row_at rows o) (position_from-zero test rows)

pub found_at : {R : Type 0} (test : R → Bool) (rows : List R) (o : Option ℕ) → o ≡ position_from test 0 rows → row_at rows o ≡ find test rows
found_at test rows o e = ap (λ (p : Option ℕ). row_at rows p) e ∙ sym (found_by test rows)

pub finds_first : {R : Type 0} (id_of : R → FeatureId) (rows : List R) (index : Index) → IsIndex (map id_of rows) index → FindsFirst id_of rows index
finds_first id_of rows index is = record { first = λ id. number_exact (map id_of rows) index is id ∙ number_map id_of rows id }

-- the same of a list of identifiers
pub ids_find : {R : Type 0} (id_of : R → FeatureId) (rows : List R) (ids : List FeatureId) (index : Index) → ids ≡ map id_of rows → IsIndex (map (λ (id : FeatureId). id) ids) index → FindsFirst id_of rows index
ids_find id_of rows ids index are is = finds_first id_of rows index (subst (λ (xs : List FeatureId). IsIndex xs index) (map-id ids ∙ are) is)
