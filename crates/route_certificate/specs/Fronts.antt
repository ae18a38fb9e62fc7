-- The code's own way, no promise: how far a text of a form was read.
use Rattle.std.specs.Prelude.{◌≡◌, ℕ, ◌<◌, ◌≤◌, List, ◌++◌, length}
use Rattle.std.specs.List.{flat_map, AllByRecursion}
use Rattle.line_forms.specs.Fronts.{HasNone}
use Rattle.venue_types.specs.declared.feature_id.FeatureId.{FeatureId}
use Rattle.route_certificate.specs.declared.form_end.Ending.{Ending}
use Rattle.route_certificate.specs.declared.form_end.Ending.TheVariants.{Whole, Missing, TextBehind}
use Rattle.route_certificate.specs.Forms.{FitsId, node_line, end_line}

-- the text begins with these nodes, and the rest with no further one that a table may have
pub record IsNodeFront (nodes : List FeatureId) (text rest : List ℕ) : Type 0 where
  pub parts : text ≡ flat_map node_line nodes ++ rest
  pub fit : AllByRecursion FitsId nodes
  pub count : length nodes ≤ 400000
  pub all : length nodes < 400000 → HasNone node_line FitsId rest

-- whether the text is the line `end`, does not begin with it, or goes on behind it
abbrev pub IsEnding : List ℕ → Ending → Type 0
IsEnding text Whole = text ≡ end_line
IsEnding text Missing = (more : List ℕ) → text ≡ end_line ++ more → ⊥
IsEnding text TextBehind = (behind : List ℕ) × (text ≡ end_line ++ behind) × (0 < length behind)
