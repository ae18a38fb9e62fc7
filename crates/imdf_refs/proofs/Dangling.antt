-- What the passes over references add, put together from below.
use Rattle.std.proofs.Common.{◌≡◌, ℕ, List, Bool, true, not, ◌&&◌, ◌++◌, Option, refl, inl, inr, subst}
use Rattle.venue_types.proofs.Items.{at_member, member_at}
use Rattle.venue_types.specs.declared.feature_id.FeatureId.{FeatureId}
use Rattle.venue_types.specs.declared.features.Features.{Features}
use Rattle.venue_types.specs.declared.finding.Finding.{Finding}
use Rattle.imdf_schema.specs.declared.table.PropertyRow.{PropertyRow}
use Rattle.rule_reports.specs.Passes.{Adds, found}
use Rattle.rule_reports.proofs.Adding.{Adds-same, Adds-found, Adds-then, Among}
use Rattle.imdf_refs.specs.declared.known.Known.{Known}
use Rattle.imdf_schema.specs.declared.feature_at.FeatureAt.{FeatureAt}
use Rattle.imdf_schema.specs.declared.rules.Rule.TheVariants.{X1, X2}
use Rattle.imdf_schema.specs.Places.{finding_at}
use Rattle.imdf_refs.specs.References.{Reference}
use Rattle.imdf_refs.specs.Index.{has_id, has_typed}
use Rattle.imdf_refs.specs.Gathering.{Dangles, DanglesAt, DanglesAmong, DanglesInRows, DanglesInProperty, DanglesInTable}

-- two tests, one after the other
pub at_one : (known : Known) (place : FeatureAt) (member : ℕ) (id : FeatureId) (f : Option ℕ) (named right : Bool) (one two : Finding) (a b c : List Finding)
    → named ≡ has_id known id → right ≡ has_typed known id f → one ≡ finding_at X1 place.file place.index member → two ≡ finding_at X2 place.file place.index member
    → b ≡ a ++ found (not named) one → c ≡ b ++ found (named && not right) two → Adds (Dangles known place member id f) a c
at_one known place member id f named right one two a b c names types first second added more =
    let missing : Adds (λ x. (not (has_id known id) ≡ true) × (x ≡ finding_at X1 place.file place.index member)) a b =
    Adds-found _ (not (has_id known id)) (finding_at X1 place.file place.index member) a b (subst (λ (t : Bool). b ≡ a ++ found (not t) (finding_at X1 place.file place.index member)) names (subst (λ (x : Finding). b ≡ a ++ found (not named) x) first added)) (λ h. (h, refl)) (λ x h. h) in
    let other : Adds (λ x. ((has_id known id && not (has_typed known id f)) ≡ true) × (x ≡ finding_at X2 place.file place.index member)) b c =
    Adds-found _ (has_id known id && not (has_typed known id f)) (finding_at X2 place.file place.index member) b c
    (subst (λ (t : Bool). c ≡ b ++ found (t && not (has_typed known id f)) (finding_at X2 place.file place.index member)) names (subst (λ (t : Bool). c ≡ b ++ found (named && not t) (finding_at X2 place.file place.index member)) types (subst (λ (x : Finding). c ≡ b ++ found (named && not right) x) second more)))
    (λ h. (h, refl)) (λ x h. h) in
    Adds-then (Dangles known place member id f) missing other (λ x h. inl h) (λ x h. inr h) (λ x h. h)

-- all of them
pub at_all : (known : Known) (row : PropertyRow) (k : ℕ) (rs : List Reference) (old new : List Finding) → Adds (Among (DanglesAt known row k) rs) old new → Adds (DanglesAmong known row k rs) old new
at_all known row k rs old new adds = Adds-same (DanglesAmong known row k rs) adds
    (λ x h. record { place = h.place; reference = h.item; there = h.there; dangles = h.holds })
    (λ x h. record { place = h.place; item = h.reference; there = h.there; holds = h.dangles })

pub in_all : (known : Known) (row : PropertyRow) (rows : List (List Reference)) (old new : List Finding) → Adds (Among (DanglesAmong known row) rows) old new → Adds (DanglesInRows known row rows) old new
in_all known row rows old new adds = Adds-same (DanglesInRows known row rows) adds
    (λ x h. record { index = h.place; references = h.item; there = h.there; dangles = h.holds })
    (λ x h. record { place = h.index; item = h.references; there = h.there; holds = h.dangles })

pub in_table : (known : Known) (features : Features) (table : List PropertyRow) (old new : List Finding) → Adds (Among (λ i row. DanglesInProperty known features row) table) old new → Adds (DanglesInTable known features table) old new
in_table known features table old new adds = Adds-same (DanglesInTable known features table) adds
    (λ x h. record { row = h.item; listed = member_at table h.place h.item h.there; dangles = h.holds })
    (λ x h. let at = at_member table h.row h.listed in
    record { place = at.0; item = h.row; there = at.1; holds = h.dangles })
