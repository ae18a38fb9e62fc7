use Rattle.std.proofs.Common.{take, map}
use Rattle.httparse.specs.Borrowed.{header_parts}
use Rattle.http1.specs.Fields.{values_named}
use Rattle.wire_frames.specs.Outcomes.{AreValues}
use Rattle.wire_frames.proofs.fields.find_named.Given as goal

abbrev pub invariant-loop-header : goal.invariant-loop-header
invariant-loop-header l = AreValues l.found (values_named l.name (map header_parts (take l.header-index l.headers)))
