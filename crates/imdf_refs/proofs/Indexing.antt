-- One feature more in the index, one file more, and all.
use Rattle.std.proofs.Common.{◌≡◌, ◌∙◌, ℕ, ◌+◌, ◌<◌, ◌≤◌, Some, Bool, true, false, ◌&&◌, ◌||◌, eqb, length, refl, sym, ap, arith, ◌⊎◌, inl, inr}
use Rattle.std.specs.Prelude.{slice_get}
use Rattle.std.specs.Ordering.{nat_cmp}
use Rattle.std.specs.BTreeSet.{contains}
use Rattle.std.proofs.lemmas.Bool.{eqb-true, cases_lt}
use Rattle.std.proofs.lemmas.Option.{slice_get_within, same_Some}
use Rattle.venue_types.specs.declared.feature_id.FeatureId.{FeatureId}
use Rattle.venue_types.specs.declared.features.Features.{Features}
use Rattle.venue_types.specs.declared.folder_file.File.{File}
use Rattle.venue_types.specs.FolderFiles.{file_number}
use Rattle.feature_rows.specs.Rows.{ids_of, IsFeature}
use Rattle.imdf_refs.specs.declared.known.Known.{Known}
use Rattle.imdf_refs.specs.Index.{pair_cmp, HasBefore, HasAll}
use Rattle.venue_types.proofs.FileNumbers.{same_number, up_to_16}
use Rattle.imdf_refs.proofs.FileOrder.{from_one}

either : (a b : Bool) → (a || b) ≡ true → (a ≡ true) ⊎ (b ≡ true)
either true b e = inl refl
either false b e = inr e

either_left : (a b : Bool) → a ≡ true → (a || b) ≡ true
either_left true b e = refl
either_left false b e = cc

either_right : (a b : Bool) → b ≡ true → (a || b) ≡ true
either_right true b e = refl
either_right false b e = e

both : (a b : Bool) → (a && b) ≡ true → (a ≡ true) × (b ≡ true)
both true b e = (refl, e)
both false b e = cc

of_both : (a b : Bool) → a ≡ true → b ≡ true → (a && b) ≡ true
of_both true b p q = q
of_both false b p q = p

-- an identifier is its number
same_id : (a b : FeatureId) → eqb a.0 b.0 ≡ true → a ≡ b
same_id a b e = ap (λ (n : ℕ). let id : FeatureId = record { 0 = n } in id) (eqb-true a.0 b.0 e)

id_itself : (a b : FeatureId) → a ≡ b → eqb a.0 b.0 ≡ true
id_itself a b e = eqb-from a.0 b.0 (ap (λ (id : FeatureId). id.0) e)
  where
    eqb-from : (n m : ℕ) → n ≡ m → eqb n m ≡ true
    eqb-from n m e = grind arith

file_itself : (n m : ℕ) → n ≡ m → eqb n m ≡ true
file_itself n m e = grind arith

-- before the k-th feature of the file of this number
abbrev Before : ℕ → ℕ → File → ℕ → Type 0
Before n k source place = (file_number source < n) ⊎ ((file_number source ≡ n) × (place < k))

later : (n k : ℕ) (source : File) (place : ℕ) → Before n k source place → Before n (k + 1) source place
later n k source place (inl h) = inl h
later n k source place (inr h) = inr (h.0, omega (arith, h.1))

-- a feature before the next one is before, or is this one
split : (n k : ℕ) (source f : File) (place : ℕ) → file_number f ≡ n → Before n (k + 1) source place → Before n k source place ⊎ ((source ≡ f) × (place ≡ k))
split n k source f place e (inl h) = inl (inl h)
split n k source f place e (inr h) = elim (cases_lt place k) [
  | inl under ↦ inl (inr (h.0, under))
  | inr not_under ↦ inr (same_number source f (h.0 ∙ sym e), omega (arith, h.1, not_under))
]

-- this feature's identifier is the one
here : (features : Features) (source f : File) (place k : ℕ) (q id : FeatureId) → IsFeature features f k id → IsFeature features source place q → source ≡ f → place ≡ k → q ≡ id
here features source f place k q id this there same at =
    same_Some q id (sym there ∙ ap (λ (g : File). slice_get (ids_of g features) place) same ∙ ap (λ (j : ℕ). slice_get (ids_of f features) j) at ∙ this)

-- no feature is before the first file
pub starts : (features : Features) (known : Known) → ((q : ℕ) → contains nat_cmp known.ids q ≡ false) → ((q f : ℕ) → contains pair_cmp known.typed (q, f) ≡ false) → HasBefore features 1 0 known
starts features known no_ids no_typed = record {
  ids = λ id. ((λ h. absurd (not_both _ (no_ids id.0) h)), (λ h. absurd (none h.source h.place id h.there h.before)));
  typed = λ id f. ((λ h. absurd (not_both _ (no_typed id.0 f) h)), (λ h. absurd (none h.source h.place id h.there h.before)));
}
  where
    not_both : (b : Bool) → b ≡ false → b ≡ true → ⊥
    not_both b p q = cc

    none : (source : File) (place : ℕ) (id : FeatureId) → IsFeature features source place id → Before 1 0 source place → ⊥
    none source place id there (inl h) = absurd (omega (arith, from_one source features place id there, h))
    none source place id there (inr h) = absurd (omega (arith, h.1))

-- one feature more
pub one_more : (features : Features) (f : File) (k : ℕ) (id : FeatureId) (known new : Known) → IsFeature features f k id → HasBefore features (file_number f) k known
    → ((q : ℕ) → contains nat_cmp new.ids q ≡ (contains nat_cmp known.ids q || eqb id.0 q))
    → ((q n : ℕ) → contains pair_cmp new.typed (q, n) ≡ (contains pair_cmp known.typed (q, n) || (eqb id.0 q && eqb (file_number f) n)))
    → HasBefore features (file_number f) (k + 1) new
one_more features f k id known new this has ids typed = record {
  ids = λ q. (
    (λ h. elim (either _ _ (sym (ids q.0) ∙ h)) [
      | inl was ↦ let at = (has.ids q).0 was in record { source = at.source; place = at.place; there = at.there; before = later _ _ _ _ at.before }
      | inr same ↦ record { source = f; place = k; there = this ∙ ap (λ (x : FeatureId). Some x) (same_id id q same); before = inr (refl, omega arith) }
    ]),
    (λ h. ids q.0 ∙ elim (split _ _ h.source f h.place refl h.before) [
      | inl was ↦ either_left _ _ ((has.ids q).1 (record { source = h.source; place = h.place; there = h.there; before = was }))
      | inr now ↦ either_right _ _ (id_itself id q (sym (here features h.source f h.place k q id this h.there now.0 now.1)))
    ]),
  );
  typed = λ q n. (
    (λ h. elim (either _ _ (sym (typed q.0 n) ∙ h)) [
      | inl was ↦ let at = (has.typed q n).0 was in record { source = at.source; place = at.place; there = at.there; before = later _ _ _ _ at.before; of_file = at.of_file }
      | inr same ↦
          let two = both _ _ same in
          record { source = f; place = k; there = this ∙ ap (λ (x : FeatureId). Some x) (same_id id q two.0); before = inr (refl, omega arith); of_file = eqb-true (file_number f) n two.1 }
    ]),
    (λ h. typed q.0 n ∙ elim (split _ _ h.source f h.place refl h.before) [
      | inl was ↦ either_left _ _ ((has.typed q n).1 (record { source = h.source; place = h.place; there = h.there; before = was; of_file = h.of_file }))
      | inr now ↦ either_right _ _ (of_both _ _ (id_itself id q (sym (here features h.source f h.place k q id this h.there now.0 now.1))) (file_itself (file_number f) n (ap file_number (sym now.0) ∙ h.of_file)))
    ]),
  );
}

-- one file more
pub one_file : (features : Features) (f : File) (k : ℕ) (known : Known) → length (ids_of f features) ≤ k → HasBefore features (file_number f) k known → HasBefore features (file_number f + 1) 0 known
one_file features f k known long has = record {
  ids = λ q. (
    (λ h. let at = (has.ids q).0 h in record { source = at.source; place = at.place; there = at.there; before = up at.source at.place at.before }),
    (λ h. (has.ids q).1 (record { source = h.source; place = h.place; there = h.there; before = down h.source h.place q h.there h.before })),
  );
  typed = λ q n. (
    (λ h. let at = (has.typed q n).0 h in record { source = at.source; place = at.place; there = at.there; before = up at.source at.place at.before; of_file = at.of_file }),
    (λ h. (has.typed q n).1 (record { source = h.source; place = h.place; there = h.there; before = down h.source h.place q h.there h.before; of_file = h.of_file })),
  );
}
  where
    up : (source : File) (place : ℕ) → Before (file_number f) k source place → Before (file_number f + 1) 0 source place
    up source place (inl h) = inl (omega (arith, h))
    up source place (inr h) = inl (omega (arith, h.0))

    within : (source : File) (place : ℕ) (q : FeatureId) → IsFeature features source place q → source ≡ f → place < k
    within source place q there same =
        let under = slice_get_within (ids_of source features) place q there in
        let as_long : length (ids_of source features) ≡ length (ids_of f features) = ap (λ (g : File). length (ids_of g features)) same in
        omega (arith, under, as_long, long)

    down : (source : File) (place : ℕ) (q : FeatureId) → IsFeature features source place q → Before (file_number f + 1) 0 source place → Before (file_number f) k source place
    down source place q there (inr h) = absurd (omega (arith, h.1))
    down source place q there (inl h) = elim (cases_lt (file_number source) (file_number f)) [
      | inl under ↦ inl under
      | inr not_under ↦
          let same : file_number source ≡ file_number f = omega (arith, h, not_under) in
          inr (same, within source place q there (same_number source f same))
    ]

-- all files
pub all_files : (features : Features) (known : Known) → HasBefore features 17 0 known → HasAll features known
all_files features known has = record {
  ids = λ q. (
    (λ h. let at = (has.ids q).0 h in record { source = at.source; place = at.place; there = at.there }),
    (λ h. (has.ids q).1 (record { source = h.source; place = h.place; there = h.there; before = inl (up_to_16 h.source) })),
  );
  typed = λ q n. (
    (λ h. let at = (has.typed q n).0 h in record { source = at.source; place = at.place; there = at.there; of_file = at.of_file }),
    (λ h. (has.typed q n).1 (record { source = h.source; place = h.place; there = h.there; before = inl (up_to_16 h.source); of_file = h.of_file })),
  );
}

-- one feature more, whose file is known by its number
pub one_more_of : (features : Features) (f : File) (m k : ℕ) (id : FeatureId) (known new : Known) → m ≡ file_number f → IsFeature features f k id → HasBefore features (file_number f) k known
    → ((q : ℕ) → contains nat_cmp new.ids q ≡ (contains nat_cmp known.ids q || eqb id.0 q))
    → ((q n : ℕ) → contains pair_cmp new.typed (q, n) ≡ (contains pair_cmp known.typed (q, n) || (eqb id.0 q && eqb m n)))
    → HasBefore features (file_number f) (k + 1) new
one_more_of features f m k id known new e this has ids typed =
    one_more features f k id known new this has ids (λ q n. typed q n ∙ ap (λ (j : ℕ). contains pair_cmp known.typed (q, n) || (eqb id.0 q && eqb j n)) e)
