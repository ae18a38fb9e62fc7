use Rattle.std.proofs.Common.{◌≡◌, ◌++◌, drop, map}
use Rattle.std.specs.List.{filter_map}
use Rattle.exact_json.specs.View.{tree_view}
use Rattle.imdf_schema.specs.Values.{id_of}
use Rattle.imdf_rows.proofs.fields.ids_among.Given as goal

-- the identifiers so far and those of the items that are left are those of all
abbrev pub invariant-loop-item : goal.invariant-loop-item
invariant-loop-item l = l.ids.items ++ filter_map id_of (map tree_view (drop l.item-index l.items)) ≡ filter_map id_of (map tree_view l.items)
