-- The code's own way, no promise: where the steps of a walk lead.
use Rattle.std.specs.Prelude.{ℕ, List}
use Rattle.route_certificate.specs.declared.table.TableLink.{TableLink}
use Rattle.route_certificate.specs.declared.walk_price.Followed.{Followed}
use Rattle.route_certificate.specs.declared.walk_price.Followed.TheVariants.{To, Broken}
use Rattle.route_certificate.specs.Prices.{IsChain, IsBroken}

-- where the steps lead, and the sum of the costs; or the first that does not fit
abbrev pub IsFollowed : List TableLink → ℕ → List ℕ → Followed → Type 0
IsFollowed links from steps (To end sum) = IsChain links from steps end sum
IsFollowed links from steps (Broken place) = IsBroken links from steps place
