use Rattle.std.proofs.Common.{ℕ, ap}
use Rattle.std.specs.Prelude.{slice_get}
use Rattle.std.specs.Option.{option_map, option_copied}
use Rattle.venue_nodes.specs.Naming.{unit_id}
use Rattle.venue_nodes.proofs.Items.{given_on}
use Rattle.venue_nodes.proofs.named_units.ids_at.Goals as goal

pub loop-k-preserved : goal.loop-k-preserved
loop-k-preserved c =
    given_on (λ (k : ℕ). option_map unit_id (slice_get c.args.units.now k)) c.args.indexes.now c.loop-k.k-index _ (option_map unit_id (option_copied c.get.result)) c.loop-k.ids.items c.add_id.new.ids.items
    c.loop-k-test.true c.loop-k.invariant (ap (option_map unit_id) c.get.ensures) c.in_ok-add_id.ensures
