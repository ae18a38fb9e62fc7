use Rattle.std.proofs.Common.{◌≡◌, ◌+◌, length, subst, arith}
use Rattle.line_forms.specs.Faults.{IsFaultLine}
use Rattle.route_certificate.specs.declared.table.Table.{Table}
use Rattle.route_certificate.specs.Forms.{IsTableText}
use Rattle.route_certificate.proofs.TableLemmas.{table_read, few_links}
use Rattle.route_certificate.proofs.TableFaults.{no_head, no_end, text_behind}
use Rattle.route_certificate.proofs.FaultNames.{named}
use Rattle.route_certificate.proofs.table_text.read_table.Goals as goal

pub returns-in_default-clause-fault : goal.returns-in_default-clause-fault
returns-in_default-clause-fault c = λ n is. subst (IsFaultLine IsTableText c.args.text.now) (named {T = Table} 1 n is) (no_head c.args.text.now c.in_default.ensures.none)

pub returns-in-Whole-clause-few : goal.returns-in-Whole-clause-few
returns-in-Whole-clause-few c =
    let nodes = c.in_ok-nodes.nodes.items in
    let links = c.in_ok-links.links.items in
    let count : c.len.result ≡ length nodes = omega (arith, c.len.ensures, c.in_ok-nodes.nodes.ok.0) in
    let read = table_read c.args.text.now c.in-Some.rest.now c.in_ok-nodes.rest.now c.in_ok-links.rest.now nodes links c.len.result c.in-Some.ensures.found c.in_ok-nodes.ensures count c.in_ok-links.ensures in
    rw c.from_vec-in-Whole.ensures (few_links c.args.text.now nodes links c.in_ok-links.rest.now read c.requires)

pub returns-in-Missing-clause-fault : goal.returns-in-Missing-clause-fault
returns-in-Missing-clause-fault c = λ n is.
    let nodes = c.in_ok-nodes.nodes.items in
    let links = c.in_ok-links.links.items in
    let count : c.len.result ≡ length nodes = omega (arith, c.len.ensures, c.in_ok-nodes.nodes.ok.0) in
    let read = table_read c.args.text.now c.in-Some.rest.now c.in_ok-nodes.rest.now c.in_ok-links.rest.now nodes links c.len.result c.in-Some.ensures.found c.in_ok-nodes.ensures count c.in_ok-links.ensures in
    let line : 1 + (length nodes + length links) + 1 ≡ n =
    omega (arith, named {T = Table} _ n is, c.len-2.ensures, c.len-3.ensures, c.in_ok-nodes.nodes.ok.0, c.in_ok-links.links.ok.0) in
    subst (IsFaultLine IsTableText c.args.text.now) line (no_end c.args.text.now nodes links c.in_ok-links.rest.now read c.in-Missing.ensures)

pub returns-in-TextBehind-clause-fault : goal.returns-in-TextBehind-clause-fault
returns-in-TextBehind-clause-fault c = λ n is.
    let nodes = c.in_ok-nodes.nodes.items in
    let links = c.in_ok-links.links.items in
    let count : c.len.result ≡ length nodes = omega (arith, c.len.ensures, c.in_ok-nodes.nodes.ok.0) in
    let read = table_read c.args.text.now c.in-Some.rest.now c.in_ok-nodes.rest.now c.in_ok-links.rest.now nodes links c.len.result c.in-Some.ensures.found c.in_ok-nodes.ensures count c.in_ok-links.ensures in
    let line : 1 + (length nodes + length links) + 1 + 1 ≡ n =
    omega (arith, named {T = Table} _ n is, c.len-2.ensures, c.len-3.ensures, c.in_ok-nodes.nodes.ok.0, c.in_ok-links.links.ok.0) in
    let behind = c.in-TextBehind.ensures in
    subst (IsFaultLine IsTableText c.args.text.now) line (text_behind c.args.text.now nodes links c.in_ok-links.rest.now behind.0 read behind.1 behind.2)
