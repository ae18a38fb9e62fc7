-- What a legal history says of its first entry.
use Rattle.std.proofs.Common.{◌≡◌, ◌≢◌, List, [], ◌∷◌, refl, subst}
use Rattle.std.proofs.Math.Logic.{∥∥₁_map, ∥∥₁_elim}
use Rattle.std.proofs.Props.{props}
use Rattle.std.specs.Arc.{arc_value}
use mathlib.Core.HLevel.{⊥_prop}
use Rattle.venue_history.specs.Report.{AreValid}
use Rattle.venue_history.specs.Venues.{SeenVenue as Venue}
use Rattle.venue_history.specs.declared.entry.Act.{Act}
use Rattle.venue_history.specs.declared.entry.Act.TheVariants.{Published, Closed, Reopened}
use Rattle.venue_history.specs.declared.entry.Entry.{Entry}
use Rattle.venue_history.specs.Histories.{IsPublished, IsLegalFrom, KeepsTheRules, IsLegal}

-- there is an entry
pub legal_some : (h : List Entry) → IsLegal h → h ≢ []
legal_some [] legal = absurd (∥∥₁_elim legal ⊥_prop (λ (rules : KeepsTheRules []). rules))
legal_some (e ∷ k) legal = λ none. absurd (cc none)

-- worker 0 makes the first
pub first_worker : (e : Entry) (k : List Entry) → IsLegal (e ∷ k) → e.worker ≡ 0
first_worker e k legal = ∥∥₁_elim legal (hlevel props) (λ (rules : KeepsTheRules (e ∷ k)). rules.0)

first_act : (e : Entry) (k : List Entry) → IsLegal (e ∷ k) → ∥ IsLegalFrom e.act k ∥₁
first_act e k legal = ∥∥₁_map legal (λ (rules : KeepsTheRules (e ∷ k)). rules.1)

act_published : (a : Act) (k : List Entry) → ∥ IsLegalFrom a k ∥₁ → (venue : Venue) × IsPublished venue a
act_published (Published venue) k legal = (arc_value venue, refl)
act_published (Closed it) k legal = absurd (∥∥₁_elim legal ⊥_prop (λ (from : IsLegalFrom (Closed it) k). from))
act_published (Reopened it) k legal = absurd (∥∥₁_elim legal ⊥_prop (λ (from : IsLegalFrom (Reopened it) k). from))

-- it is a publication
pub first_published : (e : Entry) (k : List Entry) → IsLegal (e ∷ k) → (venue : Venue) × IsPublished venue e.act
first_published e k legal = act_published e.act k (first_act e k legal)

act_valid : (a : Act) (k : List Entry) (venue : Venue) → IsLegalFrom a k → IsPublished venue a → AreValid venue.features venue.settings
act_valid (Published it) k venue from is = subst (λ (v : Venue). AreValid v.features v.settings) is from.0
act_valid (Closed it) k venue from is = absurd from
act_valid (Reopened it) k venue from is = absurd from

-- of rows that every phase accepts
pub first_valid : (e : Entry) (k : List Entry) (venue : Venue) → IsLegal (e ∷ k) → IsPublished venue e.act → ∥ AreValid venue.features venue.settings ∥₁
first_valid e k venue legal is = ∥∥₁_map (first_act e k legal) (λ (from : IsLegalFrom e.act k). act_valid e.act k venue from is)
