use Rattle.std.proofs.Common.{◌≡◌, map, drop, []}
use Rattle.exact_json.specs.View.{pair_view}
use Rattle.imdf_rows.specs.Lossy.{entry_bytes, all_lossy}
use Rattle.imdf_rows.proofs.labels.texts_by_tag.Given as goal

-- with the pairs that are left put in, the texts so far become those of all
abbrev pub invariant-loop-pair : goal.invariant-loop-pair
invariant-loop-pair l = all_lossy (map entry_bytes l.texts.entries) (map pair_view (drop l.pair-index l.pairs)) ≡ all_lossy [] (map pair_view l.pairs)
