-- The links of a venue, in their order.
use Rattle.std.specs.Prelude.{ℕ, ◌+◌, ◌==◌, nat_lt, pos, List, [], ◌∷◌, ◌++◌, map, filter, length, slice_get, Some, None, Bool, not, ◌&&◌, if◌then◌else◌}
use Rattle.std.specs.List.{flat_map, filter_map, enumerate_from}
use Rattle.venue_types.specs.declared.features.Features.{Features}
use Rattle.venue_types.specs.declared.features.RelationshipRow.{RelationshipRow}
use Rattle.venue_types.specs.declared.features.UnitRow.{UnitRow}
use Rattle.venue_types.specs.declared.kind.Kind.{Kind}
use Rattle.venue_types.specs.declared.kind.Kind.TheVariants as kinds
use Rattle.venue_types.specs.declared.link.Link.{Link}
use Rattle.venue_types.specs.declared.point.Spot.{Spot}
use Rattle.venue_types.specs.declared.settings.Extras.{Extras}
use Rattle.venue_types.specs.declared.settings.Inside.{Inside}
use Rattle.venue_types.specs.declared.settings.Inside.TheVariants as inside
use Rattle.venue_types.specs.declared.settings.Settings.{Settings}
use Rattle.imdf_access.specs.Categories.{is_walkable, unit_kind_of}
use Rattle.venue_nodes.specs.Nodes.{nodes, place_of, carries}
use Rattle.venue_nodes.specs.Members.{members}
use Rattle.venue_nodes.specs.Unplaced.{Element, elements}
use Rattle.plane_exact.specs.Seeing.{does_see}
use Rattle.unit_sight.specs.Joined.{is_joined}
use Rattle.link_graph.specs.Lengths.{length_between}

-- where a node is
abbrev pub spot_of : Features → Settings → ℕ → Spot
spot_of features settings n = elim (slice_get (nodes features settings) n) [ None ↦ record { x = pos 0; y = pos 0 } | Some node ↦ node.spot ]

-- the length of the straight line from node to node, in whole centimetres rounded up
abbrev pub way : Features → Settings → ℕ → ℕ → ℕ
way features settings a b = length_between (spot_of features settings a) (spot_of features settings b) settings.kx settings.ky

-- what a passage of the kind costs beside its way
abbrev pub extra_of : Extras → Kind → ℕ
extra_of extras kinds.Floor = 0
extra_of extras kinds.Elevator = extras.elevator
extra_of extras kinds.Escalator = extras.escalator
extra_of extras kinds.Movingwalkway = extras.movingwalkway
extra_of extras kinds.Ramp = extras.ramp
extra_of extras kinds.Stairs = extras.stairs
extra_of extras kinds.Traversal = extras.traversal

-- how far off a wall a place stands at it: the greater of the two tolerances
abbrev pub wall_tol : Settings → ℕ
wall_tol settings = if nat_lt settings.border_tol settings.contain_tol then settings.contain_tol else settings.border_tol

-- whether two nodes see each other in the unit
abbrev pub sees : Features → Settings → UnitRow → ℕ → ℕ → Bool
sees features settings u a b = does_see (spot_of features settings a) (spot_of features settings b) u.shape (wall_tol settings)

-- whether two members of the unit are joined where ways go straight: any two; where they go round walls: those that see each other, and who
-- sees nobody with its host alone
abbrev pub joined_by : Inside → Features → Settings → UnitRow → ℕ → ℕ → Bool
joined_by inside.Straight features settings u a b = not (a == b)
joined_by inside.Clear features settings u a b = is_joined (sees features settings u) (way features settings) (members features settings u) a b

-- whether one walks straight from a member of the unit to another of its members
unfoldable pub are_joined : Features → Settings → UnitRow → ℕ → ℕ → Bool
are_joined features settings u a b = joined_by settings.inside features settings u a b

-- the link from member to member of the unit with this closable number
abbrev pub inside_link : Features → Settings → ℕ → UnitRow → ℕ → ℕ → Link
inside_link features settings via u a b = record { from = a; to = b; via = via; cost = way features settings a b; kind = unit_kind_of u.category }

-- the links from a member of a unit to its others
abbrev pub links_from : Features → Settings → ℕ → UnitRow → ℕ → List Link
links_from features settings via u a = map (inside_link features settings via u a) (filter (are_joined features settings u a) (members features settings u))

-- the closable number of the first unit, behind the openings and the relationships
abbrev pub first_unit : Features → ℕ
first_unit features = length features.openings + length features.relationships

-- whether one walks between the members of a unit: unless it is solid or a moving walkway
abbrev pub has_links : UnitRow → Bool
has_links u = is_walkable u.category && not (carries u)

-- the links inside a unit: by the first end, then by the second
abbrev pub unit_links : Features → Settings → (ℕ × UnitRow) → List Link
unit_links features settings row = (if has_links row.1 then flat_map (links_from features settings row.0 row.1) (members features settings row.1) else [])

-- the nodes of a relationship's chain, in order; an element without node is left out
abbrev pub chain : Features → RelationshipRow → List ℕ
chain features row = filter_map (λ (e : Element). place_of features e.reference.id) (elements row)

-- the link by a passage of the kind
abbrev pub passage_link : Features → Settings → ℕ → Kind → ℕ → ℕ → Link
passage_link features settings via kind a b = record { from = a; to = b; via = via; cost = way features settings a b + extra_of settings.extras kind; kind = kind }

-- the links between two neighbours of a chain: forward, and backward where it isn't directed; none from a node to itself
abbrev pub pair_links : Features → Settings → ℕ → Kind → Bool → ℕ → ℕ → List Link
pair_links features settings via kind directed a b =
    if a == b then []
    else passage_link features settings via kind a b ∷ (if directed then [] else passage_link features settings via kind b a ∷ [])

-- the links along the chain a ∷ rest, pair by pair
abbrev pub chain_links : Features → Settings → ℕ → Kind → Bool → ℕ → List ℕ → List Link
chain_links features settings via kind directed a [] = []
chain_links features settings via kind directed a (b ∷ rest) =
    pair_links features settings via kind directed a b ++ chain_links features settings via kind directed b rest

-- the links along a chain
abbrev pub whole_chain_links : Features → Settings → ℕ → Kind → Bool → List ℕ → List Link
whole_chain_links features settings via kind directed [] = []
whole_chain_links features settings via kind directed (a ∷ rest) = chain_links features settings via kind directed a rest

-- the links by a relationship, where it makes a passage
abbrev pub relationship_links : Features → Settings → (ℕ × RelationshipRow) → List Link
relationship_links features settings row = elim row.1.kind [
  | None ↦ []
  | Some kind ↦ whole_chain_links features settings row.0 kind row.1.directed (chain features row.1)
]

-- all links: unit by unit, then relationship by relationship, in file order
unfoldable pub links : Features → Settings → List Link
links features settings =
    flat_map (unit_links features settings) (enumerate_from (first_unit features) features.units)
    ++ flat_map (relationship_links features settings) (enumerate_from (length features.openings) features.relationships)
