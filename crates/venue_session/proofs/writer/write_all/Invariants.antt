use Rattle.std.proofs.Common.{◌≡◌, ◌≤◌, ◌-◌, length, take}
use Rattle.std.specs.Io.KnownBytes.{Appends}
use Rattle.venue_session.proofs.writer.write_all.Given as goal

abbrev pub invariant-loop-done : goal.invariant-loop-done
invariant-loop-done g l = record {
  within : l.done ≤ length l.text;
  wrote : Appends (g.L.Stream.written l.fn.connection) (g.L.Stream.written l.connection) (take l.done l.text);
  left : g.L.Stream.left l.connection ≡ g.L.Stream.left l.fn.connection;
  starts : g.L.Stream.starts l.connection ≡ g.L.Stream.starts l.fn.connection;
  faults : g.L.Stream.faults l.connection ≡ g.L.Stream.faults l.fn.connection;
}

abbrev pub decreases-loop-done : goal.decreases-loop-done
decreases-loop-done g l = length l.text - l.done
