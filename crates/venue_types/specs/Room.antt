-- Room in a vector.
use Rattle.std.specs.Prelude.{ℕ, ◌+◌, ◌≤◌, vec_len}
use Rattle.std.specs.Vec.{vec_capacity}
use Rattle.std.specs.declared.vec.Vec.{Vec}

-- so many further items take no memory
abbrev pub HasRoom : {T A : Type 0} → Vec T A → ℕ → Type 0
HasRoom items n = vec_len items + n ≤ vec_capacity items
