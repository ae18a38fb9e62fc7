-- How long a link has waited for the other side.
use Rattle.std.specs.Prelude.{◌≡◌, ℕ, ◌+◌, ◌<◌, Bool, true, false, min, nat_lt, Result, IsErr, IfOk}
use Rattle.std.specs.Duration.{max_nanos}

-- the nanoseconds waited in reads since the accept or the last write, in writes since the last read that gave bytes, and the
-- most of both past which no call is made
pub record Waits : Type 0 where
  pub reading : ℕ
  pub writing : ℕ
  pub patience : ℕ
  pub delivery : ℕ

-- before the first call
abbrev pub no_waits : ℕ → ℕ → Waits
no_waits patience delivery = record { reading = 0; writing = 0; patience = patience; delivery = delivery }

-- a wait more, where there is a longer one
abbrev pub longer : ℕ → ℕ → ℕ
longer waited more = min (waited + more) max_nanos

-- a wait that starts anew where something was moved
abbrev pub anew : Bool → ℕ → ℕ
anew true waited = 0
anew false waited = waited

-- after a read, by how long it waited and whether it gave bytes
abbrev pub after_read : Waits → ℕ → Bool → Waits
after_read waits waited gave = record waits { reading = longer waits.reading waited; writing = anew gave waits.writing }

-- after a write, by how long it waited and whether it took bytes
abbrev pub after_write : Waits → ℕ → Bool → Waits
after_write waits waited took = record waits { reading = anew took waits.reading; writing = longer waits.writing waited }

-- a read past its limit fails, and one that doesn't fail is added
pub record LimitsRead {E : Type 0} (old new : Waits) (result : Result ℕ E) : Type 0 where
  pub past : old.patience < old.reading → IsErr result
  pub added : IfOk result (λ n. (waited : ℕ) × (new ≡ after_read old waited (nat_lt 0 n)))

-- a write past its limit fails, and one that doesn't fail is added
pub record LimitsWrite {E : Type 0} (old new : Waits) (result : Result ℕ E) : Type 0 where
  pub past : old.delivery < old.writing → IsErr result
  pub added : IfOk result (λ n. (waited : ℕ) × (new ≡ after_write old waited true))
