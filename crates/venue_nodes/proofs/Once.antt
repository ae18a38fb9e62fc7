-- Where no two features have the same identifier, each that can be closed stands once among them.
use Rattle.std.proofs.Common.{◌≡◌, ℕ, zero, suc, ◌+◌, List, [], ◌∷◌, ◌++◌, length, Some, ap, ◌∙◌, ◌⊎◌, inl, inr, arith}
use Rattle.std.specs.Prelude.{slice_get}
use Rattle.venue_types.specs.declared.feature_id.FeatureId.{FeatureId}
use Rattle.venue_types.specs.declared.features.Features.{Features}
use Rattle.venue_types.specs.declared.folder_file.File.{File}
use Rattle.venue_types.specs.declared.folder_file.File.TheVariants as file
use Rattle.feature_rows.specs.Indexes.{AreOnce}
use Rattle.feature_rows.specs.Rows.{ids_of, HaveOwnIds}
use Rattle.venue_nodes.specs.Nodes.{closables}
use Rattle.venue_nodes.specs.Numbering.{number_among}
use Rattle.venue_nodes.proofs.Finding.{found_at}

at_append : {X : Type 0} (xs ys : List X) (k : ℕ) (x : X) → slice_get (xs ++ ys) k ≡ Some x → (slice_get xs k ≡ Some x) ⊎ ((j : ℕ) × (k ≡ length xs + j) × (slice_get ys j ≡ Some x))
at_append [] ys k x e = let none : k ≡ 0 + k = omega arith in inr (k, none, e)
at_append (y ∷ xs) ys zero x e = inl e
at_append (y ∷ xs) ys (suc k) x e = elim (at_append xs ys k x e) [
  | inl front ↦ inl front
  | inr (j, at, back) ↦ let moved : suc k ≡ length (y ∷ xs) + j = omega arith in inr (j, moved, back)
]

-- two lists that share nothing
once_append : (xs ys : List FeatureId) → AreOnce xs → AreOnce ys → ((id : FeatureId) (k j : ℕ) → slice_get xs k ≡ Some id → slice_get ys j ≡ Some id → ⊥) → AreOnce (xs ++ ys)
once_append xs ys one other apart = record {
  once = λ k j id a b. elim (at_append xs ys k id a) [
    | inl p ↦ elim (at_append xs ys j id b) [ inl q ↦ one.once k j id p q | inr (n, at, q) ↦ absurd (apart id k n p q) ]
    | inr (m, here, p) ↦ elim (at_append xs ys j id b) [
      | inl q ↦ absurd (apart id j m q p)
      | inr (n, there, q) ↦ let same : m ≡ n = other.once m n id p q in omega (arith, here, there, same)
    ]
  ];
}

once_in : (features : Features) (f : File) → HaveOwnIds features → AreOnce (ids_of f features)
once_in features f own = record { once = λ k j id a b. (own.own f f k j id a b).1 }

pub closables_once : (features : Features) → HaveOwnIds features → AreOnce (closables features)
unfolding closables
closables_once features own =
    let openings = ids_of file.Opening features in
    let relationships = ids_of file.Relationship features in
    let units = ids_of file.Unit features in
    once_append (openings ++ relationships) units
    (once_append openings relationships (once_in features file.Opening own) (once_in features file.Relationship own) (λ id k j a b. let same = (own.own file.Opening file.Relationship k j id a b).0 in cc))
    (once_in features file.Unit own)
    (λ id k j a b. elim (at_append openings relationships k id a) [
      | inl p ↦ let same = (own.own file.Opening file.Unit k j id p b).0 in cc
      | inr (n, at, p) ↦ let same = (own.own file.Relationship file.Unit n j id p b).0 in cc
    ])

pub own_number : (ids : List FeatureId) (id : FeatureId) (k : ℕ) → AreOnce ids → slice_get ids k ≡ Some id → number_among ids id ≡ Some k
unfolding number_among
own_number ids id k own at =
    let none : 0 + k ≡ k = omega arith in
    found_at ids id 0 k at (λ j there. let same : k ≡ j = own.once k j id at there in omega arith) ∙ ap (λ i. Some i) none
