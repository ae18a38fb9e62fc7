-- Identifiers compared.
use Rattle.std.proofs.Common.{◌≡◌, ℕ, ◌↔◌, IsTrue, true, eq-eqb, ap}
use Rattle.std.proofs.lemmas.Bool.{eqb-true}
use Rattle.venue_types.specs.declared.feature_id.FeatureId.{FeatureId}
use Rattle.venue_nodes.specs.Identity.{is_same}

pub same_id : (a b : FeatureId) → is_same a b ≡ true → a ≡ b
unfolding is_same
same_id a b h = ap (λ (n : ℕ). record { 0 = n }) (eqb-true a.0 b.0 h)

pub id_same : (a b : FeatureId) → a ≡ b → is_same a b ≡ true
unfolding is_same
id_same a b h = eq-eqb a.0 b.0 (ap (λ (id : FeatureId). id.0) h)

pub same_decides : (a b : FeatureId) → IsTrue (is_same a b) ↔ (a ≡ b)
same_decides a b = (same_id a b, id_same a b)
