-- Limits in time, and which errors of an accept are the connection's own.
use Rattle.std.specs.Prelude.{◌≡◌, ◌*◌, ℤ, pos, ◌⊎◌, List, [], ◌∷◌, Option, Contains}
use Rattle.std.specs.Duration.{as_nanos}
use Rattle.std.specs.Option.{IsSomeAnd}
use Rattle.std.specs.declared.io.ErrorKind.{ErrorKind}
use Rattle.std.specs.declared.io.ErrorKind.TheVariants.{ConnectionAborted, ConnectionReset, Interrupted, NetworkDown, NetworkUnreachable, HostUnreachable}
use Rattle.venue_ports.specs.declared.limits.Limits.{Limits}

-- the limits of a server, in nanoseconds
pub record AreServers (limits : Limits) : Type 0 where
  pub wait : as_nanos limits.wait ≡ 10 * 1_000_000_000
  pub patience : as_nanos limits.patience ≡ 30 * 1_000_000_000
  pub delivery : as_nanos limits.delivery ≡ 60 * 1_000_000_000
  pub linger : as_nanos limits.linger ≡ 2 * 1_000_000_000

-- the kinds of an accept's error that are the connection's own
abbrev pub gone_kinds : List ErrorKind
gone_kinds = ConnectionAborted ∷ ConnectionReset ∷ Interrupted ∷ NetworkDown ∷ NetworkUnreachable ∷ HostUnreachable ∷ []

-- the same for errors that have no kind, by their numbers on Linux: ENONET, EPROTO, ENOPROTOOPT, EOPNOTSUPP, EHOSTDOWN
abbrev pub gone_codes : List ℤ
gone_codes = pos 64 ∷ pos 71 ∷ pos 92 ∷ pos 95 ∷ pos 112 ∷ []

-- an error of this kind and number is the connection's own
abbrev pub IsGone : ErrorKind → Option ℤ → Type 0
IsGone kind code = Contains gone_kinds kind ⊎ IsSomeAnd code (Contains gone_codes)
