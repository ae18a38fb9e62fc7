use Rattle.std.proofs.Common.{◌≡◌, ◌+◌, ◌-◌, ◌≤◌, length}
use Rattle.wire_frames.specs.Heads.{head_extent, extent_from}
use Rattle.wire_frames.specs.Lines.{place_behind}
use Rattle.wire_frames.proofs.heads.find_head.Given as goal

abbrev pub invariant-loop-line : goal.invariant-loop-line
invariant-loop-line l = record {
  few : l.lines + length l.rest ≤ length l.bytes;
  same : head_extent l.bytes ≡ extent_from (place_behind l.lines) (length l.bytes - length l.rest) l.lines l.rest;
}

abbrev pub decreases-loop-line : goal.decreases-loop-line
decreases-loop-line l = length l.rest
