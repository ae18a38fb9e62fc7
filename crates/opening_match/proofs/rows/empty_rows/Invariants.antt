use Rattle.std.proofs.Common.{◌≡◌, replicate, []}
use Rattle.opening_match.proofs.rows.empty_rows.Given as goal

-- so many rows yet
abbrev pub invariant-loop : goal.invariant-loop
invariant-loop l = l.rows.items ≡ replicate l.counter []
