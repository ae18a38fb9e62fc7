use Rattle.std.proofs.Common.{◌≡◌, drop, map}
use Rattle.std.specs.List.{list_all}
use Rattle.exact_json.specs.View.{pair_view}
use Rattle.imdf_schema.specs.Values.{is_text}
use Rattle.imdf_schema.proofs.texts.are_texts.Given as goal

-- the values that are left are texts where all are
abbrev pub invariant-loop-pair : goal.invariant-loop-pair
invariant-loop-pair l = list_all (λ pair. is_text pair.1) (map pair_view (drop l.pair-index l.pairs)) ≡ list_all (λ pair. is_text pair.1) (map pair_view l.pairs)
