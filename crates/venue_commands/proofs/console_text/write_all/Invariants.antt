use Rattle.std.proofs.Common.{◌≡◌, ◌++◌, List, ℕ, length}
use Rattle.venue_commands.specs.Runs.{Wrote}
use Rattle.venue_commands.proofs.console_text.write_all.Given as goal

abbrev pub invariant-loop-rest : goal.invariant-loop-rest
invariant-loop-rest g l = record {
  told : (done : List ℕ) × Wrote (g.C.Stream.written l.fn.console) (g.C.Stream.written l.console) done × (l.text ≡ done ++ l.rest);
  left : g.C.Stream.left l.console ≡ g.C.Stream.left l.fn.console;
  kept : g.C.Stream.faults l.console ≡ g.C.Stream.faults l.fn.console;
}

abbrev pub decreases-loop-rest : goal.decreases-loop-rest
decreases-loop-rest g l = length l.rest
