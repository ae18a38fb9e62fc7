-- The text forms of a table of links and of a walk: lines that end with LF, words parted by one space,
-- numbers in decimal without leading zeros, identifiers in lower case with hyphens. Nothing follows the line `end`.
use Rattle.std.specs.Prelude.{◌≡◌, ℕ, ◌^◌, ◌<◌, ◌≤◌, List, ◌++◌, length, codes}
use Rattle.std.specs.List.{flat_map, AllByRecursion}
use Rattle.std.specs.Fmt.{decimal}
use Rattle.line_forms.specs.Lines.{line, word}
use Rattle.venue_types.specs.declared.feature_id.FeatureId.{FeatureId}
use Rattle.venue_types.specs.Identifier.{identifier_text}
use Rattle.route_certificate.specs.declared.table.TableLink.{TableLink}
use Rattle.route_certificate.specs.declared.table.Table.{Table}
use Rattle.route_certificate.specs.declared.table.WalkIn.{WalkIn}

-- ---- tables

-- node ID
abbrev pub node_body : FeatureId → List ℕ
node_body id = word (codes "node") (identifier_text id)

-- link FROM TO COST VIA
abbrev pub link_body : TableLink → List ℕ
link_body link = word (codes "link") (word (decimal link.from) (word (decimal link.to) (word (decimal link.cost) (identifier_text link.via))))

unfoldable pub node_line : FeatureId → List ℕ
node_line id = line (node_body id)

unfoldable pub link_line : TableLink → List ℕ
link_line link = line (link_body link)

-- the last line of every form
abbrev pub end_line : List ℕ
end_line = line (codes "end")

abbrev pub table_head : List ℕ
table_head = line (codes "imdf-links 1")

-- the text of a table: its nodes, and then its links
abbrev pub table_text : Table → List ℕ
table_text table = table_head ++ (flat_map node_line table.nodes ++ (flat_map link_line table.links ++ end_line))

-- an identifier has 128 bits
abbrev pub FitsId : FeatureId → Type 0
FitsId id = id.0 < 2 ^ 128

-- the ends are below the number of nodes, and the cost is at most 67 kilometres
pub record FitsLink (nodes : ℕ) (link : TableLink) : Type 0 where
  pub from : link.from < nodes
  pub to : link.to < nodes
  pub cost : link.cost ≤ 6700000
  pub via : FitsId link.via

-- the numbers of a table are within the form's ranges
pub record FitsTable (table : Table) : Type 0 where
  pub count : length table.nodes ≤ 400000
  pub nodes : AllByRecursion FitsId table.nodes
  pub links : AllByRecursion (FitsLink (length table.nodes)) table.links

-- the text is the one text of the table
pub record IsTable (text : List ℕ) (table : Table) : Type 0 where
  pub spelled : text ≡ table_text table
  pub fits : FitsTable table

-- the text is of the form of tables
abbrev pub IsTableText : List ℕ → Type 0
IsTableText text = (table : Table) × IsTable text table

-- ---- walks

-- from N
abbrev pub from_body : ℕ → List ℕ
from_body n = word (codes "from") (decimal n)

-- step K
abbrev pub step_body : ℕ → List ℕ
step_body k = word (codes "step") (decimal k)

unfoldable pub from_line : ℕ → List ℕ
from_line n = line (from_body n)

unfoldable pub step_line : ℕ → List ℕ
step_line k = line (step_body k)

abbrev pub walk_head : List ℕ
walk_head = line (codes "imdf-walk 1")

-- the text of a walk
abbrev pub walk_text : WalkIn → List ℕ
walk_text walk = walk_head ++ (from_line walk.from ++ (flat_map step_line walk.steps ++ end_line))

-- a node of a table of so many, and a number of 32 bits
pub record FitsNode (nodes n : ℕ) : Type 0 where
  pub node : n < nodes
  pub small : n < 2 ^ 32

-- a step is a number of 32 bits, whether the table has such a link or not
abbrev pub FitsStep : ℕ → Type 0
FitsStep k = k < 2 ^ 32

-- the numbers of a walk are within the form's ranges: it starts at a node of the table
pub record FitsWalk (table : Table) (walk : WalkIn) : Type 0 where
  pub from : walk.from < length table.nodes
  pub small : walk.from < 2 ^ 32
  pub steps : AllByRecursion FitsStep walk.steps

-- the text is the one text of the walk, over the table
pub record IsWalkText (text : List ℕ) (table : Table) (walk : WalkIn) : Type 0 where
  pub spelled : text ≡ walk_text walk
  pub fits : FitsWalk table walk

-- the text is of the form of walks over the table
abbrev pub IsWalkTextOver : Table → List ℕ → Type 0
IsWalkTextOver table text = (walk : WalkIn) × IsWalkText text table walk
