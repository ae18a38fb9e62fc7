use Rattle.std.proofs.Common.{◌≡◌}
use Rattle.std.specs.Fmt.{decimal}
use Rattle.venue_types.specs.Identifier.{identifier_text}
use Rattle.route_certificate.specs.Forms.{link_line}
use Rattle.route_certificate.proofs.WrittenLemmas.{five_pieces}
use Rattle.route_certificate.proofs.table_writer.push_link.Goals as goal

pub returns : goal.returns
unfolding link_line
returns c =
    let id : c.write.result ≡ identifier_text c.args.link.now.via = c.write.ensures in
    five_pieces c.args.out.now.items c.extend_from_slice.new.self.items c.push_number.new.out.items c.push.new.self.items c.push_number-2.new.out.items c.push-2.new.self.items
    c.push_number-3.new.out.items c.push-3.new.self.items c.extend_from_slice-2.new.self.items c.push-4.new.self.items
    (decimal c.args.link.now.from) (decimal c.args.link.now.to) (decimal c.args.link.now.cost) (identifier_text c.args.link.now.via)
    c.in_ok-extend_from_slice.ensures.items c.in_ok-push_number.ensures.ok c.in_ok-push.ensures.items c.in_ok-push_number-2.ensures.ok c.in_ok-push-2.ensures.items
    c.in_ok-push_number-3.ensures.ok c.in_ok-push-3.ensures.items (rw id at c.in_ok-extend_from_slice-2.ensures.items) c.in_ok-push-4.ensures.items
