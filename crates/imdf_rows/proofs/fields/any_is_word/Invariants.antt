use Rattle.std.proofs.Common.{◌≡◌, drop, map}
use Rattle.std.specs.List.{list_any}
use Rattle.exact_json.specs.View.{tree_view}
use Rattle.imdf_schema.specs.Values.{is_word}
use Rattle.imdf_rows.proofs.fields.any_is_word.Given as goal

-- among the items that are left the word stands where it stands among all
abbrev pub invariant-loop-item : goal.invariant-loop-item
invariant-loop-item l = list_any (λ item. is_word item l.word) (map tree_view (drop l.item-index l.items)) ≡ list_any (λ item. is_word item l.word) (map tree_view l.items)
