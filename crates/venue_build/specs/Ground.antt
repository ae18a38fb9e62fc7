-- What the fifth phase makes of rows, and what a venue's rows come to.
use Rattle.std.specs.Prelude.{◌≡◌, ◌≢◌, ◌⊎◌, List, [], None, Contains}
use Rattle.venue_types.specs.declared.features.Features.{Features}
use Rattle.venue_types.specs.declared.settings.Settings.{Settings}
use Rattle.venue_types.specs.declared.finding.Finding.{Finding}
use Rattle.venue_types.specs.declared.finding.Note.{Note}
use Rattle.venue_types.specs.declared.finding.Report.{Report}
use Rattle.plane_exact.specs.Opening.{AreTouches}
use Rattle.rule_reports.specs.Reports.{IsReport, IsNoteList, Shortens}
use Rattle.link_graph.specs.Crowds.{Crowds}
use Rattle.link_graph.specs.Graphs.{network}
use Rattle.link_graph.specs.Networks.{IsNetworkOf}
use Rattle.link_graph.specs.Unplaced.{IsUnplaced}
use Rattle.venue_build.specs.declared.built.Built.{Built}
use Rattle.venue_build.specs.declared.built.Built.TheVariants as built
use Rattle.venue_build.specs.Venues.{SeenVenue as Venue}
use Rattle.venue_build.specs.declared.ground.Ground.{Ground}
use Rattle.venue_build.specs.declared.ground.Judged.{Judged}
use Rattle.venue_build.specs.declared.ground.Judged.TheVariants as judged
use Rattle.venue_build.specs.Report.{IsLaterBroken}

-- the units that openings touch, and the graph, of these rows, in which no limit is passed
pub record IsGround (features : Features) (settings : Settings) (ground : Ground) : Type 0 where
  pub touches : AreTouches settings.border_tol features ground.touches
  pub graph : IsNetworkOf features settings (network ground.graph)
  pub roomy : Crowds features settings None

-- no later phase finds anything, and this is the ground; or one does, and these are its findings
abbrev pub IsJudged : Features → Settings → Judged → Type 0
IsJudged features settings (judged.Sound ground) = ((x : Finding) → ¬ IsLaterBroken features settings x) × IsGround features settings ground
IsJudged features settings (judged.Broken findings) = (findings ≢ []) × IsReport (IsLaterBroken features settings) findings

-- a later phase finds something, and this is its report; or none does, and the venue has these rows, these settings, and as
-- notes these and what is no place or leads nowhere
pub record IsSoundVenue (features : Features) (settings : Settings) (noted : List Note) (venue : Venue) : Type 0 where
  pub rows : venue.features ≡ features
  pub settings_given : venue.settings ≡ settings
  pub silent : (x : Finding) → ¬ IsLaterBroken features settings x
  pub notes : IsNoteList (λ x. Contains noted x ⊎ IsUnplaced features settings.border_tol x) venue.notes

pub record IsLaterReport (features : Features) (settings : Settings) (report : Report) : Type 0 where
  pub findings : List Finding
  pub some : findings ≢ []
  pub all : IsReport (IsLaterBroken features settings) findings
  pub short : Shortens findings report

abbrev pub IsLaterBuilt : Features → Settings → List Note → Built → Type 0
IsLaterBuilt features settings noted (built.Rejected report) = IsLaterReport features settings report
IsLaterBuilt features settings noted (built.Venue venue) = IsSoundVenue features settings noted venue
