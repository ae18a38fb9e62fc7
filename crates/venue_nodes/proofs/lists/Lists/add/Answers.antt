use Rattle.std.proofs.Common.{arith, sym}
use Rattle.venue_nodes.specs.declared.lists.Span.{Span}
use Rattle.venue_nodes.proofs.Spanned.{added_as}
use Rattle.venue_nodes.proofs.lists.Lists.add.Goals as goal

pub returns : goal.returns
returns g c =
    let s : Span = record { start = c.len-start.result; end = c.len-end.result } in
    added_as c.self.inside.items.items c.args.list.now c.extend_from_slice.new.self.items c.self.inside.spans.items c.push.new.self.items s c.args.self.now
    c.self.invariant (sym c.self.view_is) c.in_ok-extend_from_slice.ensures.items c.in_ok-push.ensures.items (omega arith) (omega arith)
