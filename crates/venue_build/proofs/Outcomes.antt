-- A folder has one outcome, where its files have one reading.
use Rattle.std.proofs.Common.{◌≡◌, ◌<◌, List, [], ◌∷◌, subst, sym, ◌∙◌, arith, inl, inr}
use Rattle.venue_types.proofs.Items.{Contains-first}
use Rattle.venue_types.specs.declared.files.Files.{Files}
use Rattle.venue_types.specs.declared.features.Features.{Features}
use Rattle.venue_types.specs.declared.settings.Settings.{Settings}
use Rattle.venue_types.specs.declared.finding.Finding.{Finding}
use Rattle.venue_types.specs.declared.finding.Report.{Report}
use Rattle.rule_reports.specs.Order.{finding_cmp, note_cmp}
use Rattle.rule_reports.specs.Reports.{IsReport, IsNoteList, Shortens, IsShortReport}
use Rattle.rule_reports.proofs.Phases.{Lists-same, same_short}
use Rattle.rule_reports.proofs.Orders.{findings_total, notes_total}
use Rattle.rule_reports.proofs.Unique.{one_list}
use Rattle.imdf_read.specs.Folder.{AreFeatures}
use Rattle.imdf_read.specs.Broken.{IsBroken}
use Rattle.venue_build.specs.Report.{IsWrong, IsLaterBroken, IsVenueNoted}
use Rattle.venue_build.specs.Built.{IsRejected, IsVenueOf}
use Rattle.venue_build.specs.Venues.{SeenVenue as Venue}
use Rattle.venue_build.proofs.Venues.{same_venue}

-- a report that isn't empty has a first finding
first_of : (P : Finding → Type 0) (findings : List Finding) (report : Report) → IsReport P findings → Shortens findings report → 0 < report.total → (x : Finding) × P x
first_of P [] report all short some = absurd (omega (arith, some, short.total))
first_of P (x ∷ xs) report all short some = (x, all.only x (Contains-first x xs))

pub wrong_somewhere : (P : Finding → Type 0) (report : Report) → IsShortReport P report → 0 < report.total → (x : Finding) × P x
wrong_somewhere P report short some = first_of P short.0 report short.1 short.2 some

-- two properties that hold of the same have the same report
same_report : (P Q : Finding → Type 0) (one other : Report) → ((x : Finding) → P x → Q x) → ((x : Finding) → Q x → P x)
    → IsShortReport P one → IsShortReport Q other → one ≡ other
same_report P Q one other into back first second =
    let same = one_list finding_cmp findings_total Q first.0 second.0 (Lists-same finding_cmp P Q first.0 into back first.1) second.1 in
    same_short first.0 second.0 one other same first.2 second.2

module _ (files : Files) (settings : Settings) (readings : (one other : Features) → ((x : Finding) → ¬ IsBroken files x) → AreFeatures files one → AreFeatures files other → one ≡ other) where
  pub not_both : (report : Report) (venue : Venue) → IsRejected files settings report → IsVenueOf files settings venue → ⊥
  not_both report venue rejected of =
      let wrong = wrong_somewhere (IsWrong files rejected.features settings) report rejected.short rejected.some in
      elim wrong.1 [
        | inl broken ↦ of.first wrong.0 broken
        | inr later ↦
            let same = readings rejected.features venue.features of.first (rejected.rows of.first) of.rows in
            of.valid.unbroken wrong.0 (subst (λ (f : Features). IsLaterBroken f settings wrong.0) same later.1)
      ]

  -- where the first phase finds something, later phases don't count
  first_counts : (f g : Features) (x : Finding) → IsBroken files x → (y : Finding) → IsWrong files f settings y → IsWrong files g settings y
  first_counts f g x broken y wrong = elim wrong [ inl here ↦ inl here | inr later ↦ absurd (later.0 x broken) ]

  pub one_report : (one other : Report) → IsRejected files settings one → IsRejected files settings other → one ≡ other
  one_report one other first second =
      let f = first.features in
      let g = second.features in
      let wrong = wrong_somewhere (IsWrong files f settings) one first.short first.some in
      elim wrong.1 [
        | inl broken ↦ same_report (IsWrong files f settings) (IsWrong files g settings) one other
            (first_counts f g wrong.0 broken) (first_counts g f wrong.0 broken) first.short second.short
        | inr later ↦
            let same : f ≡ g = readings f g later.0 (first.rows later.0) (second.rows later.0) in
            same_report (IsWrong files f settings) (IsWrong files g settings) one other
            (λ y w. subst (λ (h : Features). IsWrong files h settings y) same w)
            (λ y w. subst (λ (h : Features). IsWrong files h settings y) (sym same) w) first.short second.short
      ]

  pub one_venue : (one other : Venue) → IsVenueOf files settings one → IsVenueOf files settings other → one ≡ other
  one_venue one other first second =
      let rows = readings one.features other.features first.first first.rows second.rows in
      let notes = one_list note_cmp notes_total (IsVenueNoted files other.features settings) one.notes other.notes
      (subst (λ (f : Features). IsNoteList (IsVenueNoted files f settings) one.notes) rows first.notes) second.notes in
      same_venue one other rows (first.settings_given ∙ sym second.settings_given) notes
