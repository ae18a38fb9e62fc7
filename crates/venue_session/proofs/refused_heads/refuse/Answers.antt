use Rattle.std.proofs.Common.{subst}
use Rattle.std.specs.Io.KnownBytes.{Appends}
use mathlib.Core.List.{IsPrefix}
use Rattle.venue_session.proofs.Endings.{ends_refused, ends_refused_in_part}
use Rattle.venue_session.proofs.refused_heads.refuse.Goals as goal

pub returns-in-Ok : goal.returns-in-Ok
returns-in-Ok g c = λ keys first facts taken waiting going refused.
    let told = c.in-Ok.ensures in
    ends_refused keys first facts _ _ _ _ taken waiting going _ _ _ _ c.args.refusal c.status_of.result refused c.status_of.ensures told.left told.starts
    (subst (Appends (g.L.Stream.written c.args.connection.now) (g.L.Stream.written c.write_all.new.connection)) c.refusal_bytes.ensures told.ok) told.cause.kept

pub returns-in-Err : goal.returns-in-Err
returns-in-Err g c = λ keys first facts taken waiting going refused.
    let told = c.in-Err.ensures in
    ends_refused_in_part keys first facts _ _ _ _ taken waiting going _ _ _ _ c.args.refusal told.err.0 refused
    (subst (IsPrefix told.err.0) c.refusal_bytes.ensures told.err.1) told.err.2 told.left told.starts told.cause.later told.cause.failed
