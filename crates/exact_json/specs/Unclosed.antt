-- The code's own way, and no promise: what is read of lists and objects whose closing brackets are still to come.
use Rattle.std.specs.Prelude.{◌≡◌}
use Rattle.exact_json.specs.declared.unclosed.Unclosed.{Unclosed}

-- the same items and pairs stand there
pub record Keeps (old new : Unclosed) : Type 0 where
  pub trees : new.trees.items ≡ old.trees.items
  pub pairs : new.pairs.items ≡ old.pairs.items
