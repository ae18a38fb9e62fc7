-- Items of lists by their places, and what lists of lists have.
use Rattle.std.proofs.Common.{List, map}
use Rattle.std.specs.Prelude.{Contains}
use Rattle.venue_types.proofs.Items.{at_member, member_at, at_map}

pub Contains-map : {X Y : Type 0} (f : X → Y) (xs : List X) (x : X) → Contains xs x → Contains (map f xs) (f x)
Contains-map f xs x h = let at = at_member xs x h in member_at (map f xs) at.0 (f x) (at_map f xs at.0 x at.1)
