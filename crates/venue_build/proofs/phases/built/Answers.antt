use Rattle.std.proofs.Common.{◌∙◌, ◌⊎◌, List, subst, sym}
use Rattle.std.specs.Prelude.{Contains}
use Rattle.venue_types.specs.declared.settings.Settings.{Settings}
use Rattle.venue_types.specs.declared.finding.Note.{Note}
use Rattle.rule_reports.specs.Reports.{IsNoteList}
use Rattle.link_graph.specs.Unplaced.{IsUnplaced}
use Rattle.venue_build.specs.Ground.{IsJudged}
use Rattle.link_graph.specs.Graphs.{network}
use Rattle.venue_build.specs.Kept.{IsKept}
use Rattle.venue_build.specs.Report.{AreValid}
use Rattle.venue_build.specs.declared.ground.Judged.{Judged}
use Rattle.venue_build.proofs.phases.built.Goals as goal

pub new-venue-requires : goal.new-venue-requires
new-venue-requires c =
    let features = c.args.features in
    let settings = c.args.settings.now in
    let judged = subst (λ (j : Judged). IsJudged features settings j) c.in-Sound.is c.in_ok-findings.ensures in
    let valid : AreValid features settings = record { sound = c.requires; unbroken = judged.0 } in
    let graph = network c.in-Sound.ground.graph in
    let places = c.in_ok-places-in-Sound.places in
    let whole : IsKept features settings graph places = record { valid = valid; graph_is = judged.1.graph; places_are = c.in_ok-places-in-Sound.ensures } in
    subst (λ (s : Settings). IsKept features s graph places) (sym c.in_ok-kept-in-Sound.ensures) whole

pub returns-in_ok-kept-in-Sound : goal.returns-in_ok-kept-in-Sound
returns-in_ok-kept-in-Sound c =
    let features = c.args.features in
    let settings = c.args.settings.now in
    let judged = subst (λ (j : Judged). IsJudged features settings j) c.in-Sound.is c.in_ok-findings.ensures in
    record {
      rows = c.new-venue.ensures.features;
      settings_given = c.new-venue.ensures.settings ∙ c.in_ok-kept-in-Sound.ensures;
      silent = judged.0;
      notes = subst (λ (ns : List Note). IsNoteList (λ x. Contains c.args.noted x ⊎ IsUnplaced features settings.border_tol x) ns)
          (sym c.new-venue.ensures.notes) c.in_ok-notes-in-Sound.ensures;
    }
