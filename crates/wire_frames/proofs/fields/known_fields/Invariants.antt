use Rattle.std.proofs.Common.{◌≡◌, take, map}
use Rattle.httparse.specs.Borrowed.{header_parts}
use Rattle.http1.specs.Fields.{known_fields}
use Rattle.wire_frames.proofs.fields.known_fields.Given as goal

abbrev pub invariant-loop-header : goal.invariant-loop-header
invariant-loop-header l = l.known ≡ known_fields (map header_parts (take l.header-index l.headers))
