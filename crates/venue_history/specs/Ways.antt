-- The links that somebody may use at a version, and how a reply names nodes and ways.
use Rattle.std.specs.Prelude.{ℕ, List, Option, Some, None, option_and_then, slice_get}
use Rattle.std.specs.List.{position_from}
use Rattle.std.specs.Str.{bytes_eq}
use Rattle.venue_types.specs.declared.feature_id.FeatureId.{FeatureId}
use Rattle.venue_types.specs.declared.kind.Class.TheVariants as class
use Rattle.venue_types.specs.declared.link.Link.{Link}
use Rattle.venue_types.specs.declared.link.Potential.{Potential}
use Rattle.venue_types.specs.declared.link.Node.{Node}
use Rattle.venue_types.specs.declared.reply.Mark.{Mark}
use Rattle.venue_types.specs.declared.reply.NodeName.{NodeName}
use Rattle.venue_types.specs.declared.reply.StepRow.{StepRow}
use Rattle.venue_types.specs.declared.settings.Profile.{Profile}
use Rattle.venue_types.specs.declared.settings.Settings.{Settings}
use Rattle.venue_build.specs.Nodes.{nodes, closables}
use Rattle.venue_build.specs.Usable.{IsUsable}
use Rattle.venue_history.specs.Closed.{Version, closed_for}

-- the number of the profile of this name: the place in the settings, from 0, of the first that has it
unfoldable pub profile_number : Settings → List ℕ → Option ℕ
profile_number settings name = position_from (λ (p : Profile). bytes_eq p.name name) 0 settings.profiles

-- the profile of this name: the one at its number
unfoldable pub profile_of : Settings → List ℕ → Option Profile
profile_of settings name = option_and_then (slice_get settings.profiles) (profile_number settings name)

-- the link may be used by somebody with the profile of this number, where what is closed for that profile is
abbrev pub Usable : Version → ℕ → Profile → Link → Type 0
Usable v number profile link = IsUsable v.features v.settings (closed_for v number) profile link

-- the identifier that stands for no feature
abbrev pub no_name : FeatureId
no_name = record { 0 = 0 }

-- the number of a corner among those of its unit; no other node has one
abbrev pub corner_number : Node → Option ℕ
corner_number node = elim node.class [ class.Corner ↦ Some node.corner | _ ↦ None ]

-- how a reply names a node: by its feature's identifier, and a corner by its unit's and its number there
abbrev pub node_name : Node → NodeName
node_name node = record { id = node.id; corner = corner_number node }

-- how a reply names the node of this number
unfoldable pub name_of : Version → ℕ → NodeName
name_of v n = elim (slice_get (nodes v.features v.settings) n) [ None ↦ record { id = no_name; corner = None } | Some node ↦ node_name node ]

-- how a reply names what a link goes by: by its identifier
unfoldable pub way_name : Version → ℕ → FeatureId
way_name v k = elim (slice_get (closables v.features) k) [ None ↦ no_name | Some id ↦ id ]

-- a link as the step of a reply
abbrev pub step_of : Version → Link → StepRow
step_of v link = record { corner = (name_of v link.to).corner; to = (name_of v link.to).id; via = way_name v link.via; cost = link.cost; kind = link.kind }

-- a potential as a reply tells it
abbrev pub mark_of : Version → Potential → Mark
mark_of v p = record { corner = (name_of v p.node).corner; node = (name_of v p.node).id; value = p.value }
