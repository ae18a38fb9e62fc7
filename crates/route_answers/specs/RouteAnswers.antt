-- The answer to the question for a way through a venue in which nothing is closed.
use Rattle.std.specs.Prelude.{◌≡◌, ℕ, List, [], map, length}
use Rattle.venue_types.specs.declared.features.Features.{Features}
use Rattle.venue_types.specs.declared.link.Link.{Link}
use Rattle.venue_types.specs.declared.link.Potential.{Potential}
use Rattle.venue_types.specs.declared.settings.Profile.{Profile}
use Rattle.venue_types.specs.declared.settings.Settings.{Settings}
use Rattle.venue_nodes.specs.Nodes.{nodes}
use Rattle.link_graph.specs.Usable.{IsUsable}
use Rattle.route_certificate.specs.declared.answer.AnswerIn.{AnswerIn}
use Rattle.route_certificate.specs.declared.answer.Claim.{Claim}
use Rattle.route_certificate.specs.declared.answer.Claim.TheVariants.{Route, Nothing}
use Rattle.route_certificate.specs.Answers.{FitsAnswer}
use Rattle.route_certificate.specs.Verdicts.{IsProved}
use Rattle.route_search.specs.Answers.{IsRoute, IsNoRoute}
use Rattle.route_answers.specs.Places.{AreFirstPlaces}
use Rattle.route_answers.specs.Tables.{row_of, table_of}

-- what the profile may use, nothing closed
abbrev pub MayUse : Features → Settings → Profile → Link → Type 0
MayUse features settings profile link = IsUsable features settings [] profile link

-- the steps are a least walk of what the profile may use, numbered by the table of its links, and the potentials show that none costs less
pub record IsRouteOf (features : Features) (settings : Settings) (profile : Profile) (from to cost : ℕ) (steps : List ℕ) (at : List Potential) : Type 0 where
  pub walk : List Link
  pub route : IsRoute (MayUse features settings profile) from to walk cost at
  pub numbered : AreFirstPlaces (table_of features settings profile).links (map (row_of features) walk) steps

-- a route; or that there is none, with exactly the nodes that are reached
abbrev pub IsClaimOf : Features → Settings → Profile → ℕ → ℕ → Claim → Type 0
IsClaimOf features settings profile from to (Route cost steps at) = IsRouteOf features settings profile from to cost steps at
IsClaimOf features settings profile from to (Nothing reached) = IsNoRoute (MayUse features settings profile) from to reached

-- the answer to the question for a way from node to node: what it claims is so of the venue, and proved by the table of its links
pub record IsRouteAnswer (features : Features) (settings : Settings) (profile : Profile) (from to : ℕ) (answer : AnswerIn) : Type 0 where
  pub starts : answer.from ≡ from
  pub ends : answer.to ≡ to
  pub claim : IsClaimOf features settings profile from to answer.claim
  pub fits : FitsAnswer (length (nodes features settings)) answer
  pub proved : IsProved (table_of features settings profile) answer
