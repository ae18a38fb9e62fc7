-- Where no later phase finds anything, none of them does.
use Rattle.std.proofs.Common.{refl}
use Rattle.venue_types.specs.declared.features.Features.{Features}
use Rattle.venue_types.specs.declared.settings.Settings.{Settings}
use Rattle.venue_types.specs.declared.finding.Finding.{Finding}
use Rattle.imdf_refs.specs.Rules.{IsMisnamed}
use Rattle.ring_rules.specs.Rules.{BreaksSpread, IsSpread}
use Rattle.link_graph.specs.Limits.{BreaksLimit}
use Rattle.venue_build.specs.Phases.{IsMisplaced, IsPlaneBroken, IsGroundBroken}
use Rattle.venue_build.specs.Report.{IsLaterBroken}
use Rattle.venue_build.proofs.PhaseLemmas.{first_silent, second_silent}

module _ (features : Features) (settings : Settings) (unbroken : (x : Finding) → ¬ IsLaterBroken features settings x) where
  -- the phases behind the second find nothing
  ground_silent : (x : Finding) → ¬ IsGroundBroken features settings x
  ground_silent = second_silent (IsMisnamed features) (IsGroundBroken features settings) unbroken

  -- nor do those on the plane
  plane_silent : (x : Finding) → ¬ IsPlaneBroken features settings.contain_tol x
  plane_silent = first_silent (IsPlaneBroken features settings.contain_tol) (BreaksLimit features settings) ground_silent

  pub named : (x : Finding) → ¬ IsMisnamed features x
  named = first_silent (IsMisnamed features) (IsGroundBroken features settings) unbroken

  pub close : (x : Finding) → ¬ BreaksSpread features x
  close = first_silent (BreaksSpread features) (IsMisplaced features settings.contain_tol) plane_silent

  pub placed : (x : Finding) → ¬ IsMisplaced features settings.contain_tol x
  placed = second_silent (BreaksSpread features) (IsMisplaced features settings.contain_tol) plane_silent

  pub roomy : (x : Finding) → ¬ BreaksLimit features settings x
  roomy = second_silent (IsPlaneBroken features settings.contain_tol) (BreaksLimit features settings) ground_silent

  -- a spread would be a finding of the third phase
  pub not_spread : ¬ IsSpread features
  not_spread spread = close (record { rule = 26; file = 0; index = 0; member = 0 }) (record { spread = spread; rule = refl; in_file = refl; at_index = refl; at_member = refl })
