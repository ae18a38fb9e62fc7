use Rattle.std.proofs.Common.{◌≡◌}
use Rattle.venue_types.specs.Identifier.{identifier_text}
use Rattle.route_certificate.specs.Forms.{node_line}
use Rattle.route_certificate.proofs.WrittenLemmas.{two_pieces}
use Rattle.route_certificate.proofs.table_writer.push_node.Goals as goal

pub returns : goal.returns
unfolding node_line
returns c =
    let id : c.write.result ≡ identifier_text c.args.id = c.write.ensures in
    two_pieces c.args.out.now.items c.extend_from_slice.new.self.items c.extend_from_slice-2.new.self.items c.push.new.self.items (identifier_text c.args.id)
    c.in_ok-extend_from_slice.ensures.items (rw id at c.in_ok-extend_from_slice-2.ensures.items) c.in_ok-push.ensures.items
