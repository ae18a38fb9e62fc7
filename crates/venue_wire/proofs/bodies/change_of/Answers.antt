use Rattle.std.proofs.Common.{◌<◌, length, subst}
use Rattle.std.specs.Prelude.{Result, Ok, Err, OnErr}
use Rattle.venue_wire.specs.Judging.{IsReadAs}
use Rattle.venue_wire.proofs.BodyLemmas.{body_some}
use Rattle.venue_wire.proofs.bodies.change_of.Goals as goal

on_err_of : {A E : Type 0} (r : Result A E) (P : Type 0) → P → OnErr r P
on_err_of (Ok a) P x = tt
on_err_of (Err e) P x = x

pub returns-in-None-clause-none : goal.returns-in-None-clause-none
returns-in-None-clause-none c = λ change asks.
    let none = subst (IsReadAs c.args.body.now) c.in-None.is c.in_ok-value.ensures.read in none asks.0 asks.1

-- a body that was read has a byte
pub returns-in-Some-clause-memory : goal.returns-in-Some-clause-memory
returns-in-Some-clause-memory c =
    let read = subst (IsReadAs c.args.body.now) c.in-Some.is c.in_ok-value.ensures.read in
    on_err_of c.change_in.result (0 < length c.args.body.now) (body_some c.args.body.now _ read)
