-- What comes of an accept.
use Rattle.venue_service.specs.declared.desk.Next.{Next}
use Rattle.venue_service.specs.declared.desk.Next.TheVariants as next

abbrev pub IsNobody : {N C : Type 0} → Next N C → Type 0
IsNobody next.Nobody = Unit {0}
IsNobody _ = ⊥

abbrev pub IsFailed : {N C : Type 0} → Next N C → Type 0
IsFailed next.Failed = Unit {0}
IsFailed _ = ⊥

abbrev pub IsGuest : {N C : Type 0} → Next N C → Type 0
IsGuest (next.Conn guest) = Unit {0}
IsGuest _ = ⊥
