use Rattle.std.proofs.Common.{◌≡◌, ℕ, List, ◌++◌, drop, option_map}
use Rattle.serde_json.specs.View.{items_view}
use Rattle.venue_wire.specs.Bodies.{texts_of}
use Rattle.venue_wire.proofs.bodies.copy_texts.Given as goal

-- the texts of all are those copied and those of what is left
abbrev pub invariant-loop-item : goal.invariant-loop-item
invariant-loop-item l =
    texts_of (items_view l.items)
    ≡ option_map (λ (others : List (List ℕ)). l.texts ++ others) (texts_of (items_view (drop l.item-index l.items)))
