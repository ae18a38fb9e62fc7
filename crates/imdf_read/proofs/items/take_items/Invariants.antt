use Rattle.std.proofs.Common.{◌≡◌, ◌-◌, ◌^◌, min, map, take}
use Rattle.std.specs.Prelude.{sum_by}
use Rattle.std.specs.List.{AllZip}
use Rattle.exact_json.specs.View.{tree_view}
use Rattle.venue_types.specs.declared.finding.Finding.{Finding}
use Rattle.imdf_read.specs.Counts.{item_positions}
use Rattle.rule_reports.specs.Passes.{Adds}
use Rattle.imdf_read.specs.Gathering.{FindsInItem, NotesInItem}
use Rattle.rule_reports.proofs.Adding.{Below}
use Rattle.imdf_read.proofs.items.take_items.Given as goal

-- what the items before add, their rows, and their positions
abbrev pub invariant-loop-k : goal.invariant-loop-k
invariant-loop-k g l = record {
  findings : Adds (Below (λ k item. FindsInItem l.file k item) (map tree_view l.items) l.k) l.initial.gathered.findings.items l.gathered.findings.items;
  notes : Adds (Below (λ k item. NotesInItem l.file k item) (map tree_view l.items) l.k) l.initial.gathered.notes.items l.gathered.notes.items;
  rows : ((x : Finding) → ¬ Below (λ k item. FindsInItem l.file k item) (map tree_view l.items) l.k x) → AllZip g.R.FeatureRow.is_row (map tree_view (take l.k l.items)) l.rows.items;
  positions : l.positions ≡ min (sum_by (item_positions l.file) (map tree_view (take l.k l.items))) (2 ^ 64 - 1);
}
