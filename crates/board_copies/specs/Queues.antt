-- What is queued and not yet published.
use Rattle.std.specs.Prelude.{◌≡◌, List, [], ◌∷◌, ◌++◌}
use Rattle.std.specs.Arc.{arc_value}
use Rattle.board_copies.specs.declared.held.Held.{Held}
use Rattle.board_copies.specs.declared.held.Ready.{Ready}

-- the last that is queued is this board, whatever stands before it
pub record EndsWith (queued : List Ready) (held : Held) : Type 0 where
  pub before : List Ready
  pub last : Ready
  pub is : queued ≡ before ++ last ∷ []
  pub board : arc_value last.held ≡ held
