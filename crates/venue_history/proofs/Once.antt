-- In valid rows each identifier that can be closed stands once among those.
use Rattle.std.proofs.Common.{◌≡◌, ◌≢◌, ◌∙◌, ℕ, zero, suc, ◌+◌, List, [], ◌∷◌, ◌++◌, length, sym, ap, arith, ◌⊎◌, inl, inr, Some, length-append}
use Rattle.std.specs.Prelude.{AllPairs, slice_get, slice_index_or}
use Rattle.std.proofs.lemmas.Option.{slice_get-get_or}
use Rattle.venue_types.specs.declared.feature_id.FeatureId.{FeatureId}
use Rattle.venue_types.specs.declared.features.Features.{Features}
use Rattle.venue_types.specs.declared.folder_file.File.{File}
use Rattle.venue_types.specs.declared.folder_file.File.TheVariants as file
use Rattle.venue_build.specs.Rows.{ids_of, IsFeature, HaveOwnIds}
use Rattle.venue_build.specs.Nodes.{closables}

-- how many closable features stand before those of a file
before : Features → File → ℕ
before features file.Relationship = length (ids_of file.Opening features)
before features file.Unit = length (ids_of file.Opening features) + length (ids_of file.Relationship features)
before features _ = 0

-- the feature that stands at a place among the closable ones
record Stands (features : Features) (n : ℕ) (id : FeatureId) : Type 0 where
  source : File
  place : ℕ
  is : IsFeature features source place id
  at : n ≡ before features source + place

split_get : {X : Type 0} (xs ys : List X) (n : ℕ) (x : X) → slice_get (xs ++ ys) n ≡ Some x
    → (slice_get xs n ≡ Some x) ⊎ ((k : ℕ) × (slice_get ys k ≡ Some x) × (n ≡ length xs + k))
split_get [] ys n x e = inr (n, e, omega arith)
split_get (y ∷ xs) ys zero x e = inl e
split_get (y ∷ xs) ys (suc n) x e = elim (split_get xs ys n x e) [ inl there ↦ inl there | inr later ↦ inr (later.0, later.1, omega (arith, later.2)) ]

placed : (features : Features) (n : ℕ) (id : FeatureId) → slice_get (closables features) n ≡ Some id → Stands features n id
unfolding closables before
placed features n id e =
    elim (split_get (ids_of file.Opening features ++ ids_of file.Relationship features) (ids_of file.Unit features) n id e) [
      | inl front ↦ elim (split_get (ids_of file.Opening features) (ids_of file.Relationship features) n id front) [
        | inl first ↦ record { source = file.Opening; place = n; is = first; at = omega arith }
        | inr second ↦ record { source = file.Relationship; place = second.0; is = second.1; at = second.2 }
      ]
      | inr third ↦ record { source = file.Unit; place = third.0; is = third.1; at = omega (arith, third.2, length-append (ids_of file.Opening features) (ids_of file.Relationship features)) }
    ]

apart : (features : Features) (i j : ℕ) (id : FeatureId) → HaveOwnIds features → slice_get (closables features) i ≡ Some id → slice_get (closables features) j ≡ Some id → i ≡ j
apart features i j id own one other =
    let s = placed features i id one in
    let t = placed features j id other in
    let same = own.own s.source t.source s.place t.place id s.is t.is in
    let level = ap (before features) same.0 in
    omega (arith, s.at, t.at, level, same.1)

-- no two of them are the same
pub closables_once : (features : Features) → HaveOwnIds features → AllPairs (λ a b. a ≢ b) (closables features)
closables_once features own i j d less within e =
    let one : slice_get (closables features) i ≡ Some (slice_index_or (closables features) i d) = slice_get-get_or (closables features) i d (omega arith) in
    let other : slice_get (closables features) j ≡ Some (slice_index_or (closables features) j d) = slice_get-get_or (closables features) j d within in
    let same = apart features i j (slice_index_or (closables features) i d) own one (other ∙ ap Some (sym e)) in
    omega arith
