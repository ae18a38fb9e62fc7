use Rattle.std.proofs.Common.{refl}
use Rattle.venue_commands.specs.Commands.{Price, Verify, Check, Canon, Links, Route, Gen}
use Rattle.venue_commands.proofs.Ending.{price_told, verify_told, check_told, canon_told, links_told, route_told, gen_told, unknown_told, unknown_plain, is_answer, is_answer_alone}
use Rattle.venue_commands.proofs.Serving.{asks_console}
use Rattle.venue_commands.proofs.commands.answer.Goals as goal

pub returns-in-Price-clause-ends : goal.returns-in-Price-clause-ends
returns-in-Price-clause-ends g c words is =
    let asks = rw c.in-Price.is at is in
    let files = g.F.Folders.files c.args.folders in
    let told = price_told words files c.in-Price.base.name.now c.price_answer.result asks.form asks.spelled c.price_answer.ensures.told in
    c.print_answer.ensures.ends words files c.args.folders (is_answer words files _ (Price c.in-Price.base.name.now) c.price_answer.result c.price_answer.ensures.plain told asks c.price_answer.ensures.failed c.price_answer.ensures.cause)

pub returns-in-Verify-clause-ends : goal.returns-in-Verify-clause-ends
returns-in-Verify-clause-ends g c words is =
    let asks = rw c.in-Verify.is at is in
    let files = g.F.Folders.files c.args.folders in
    let told = verify_told words files c.in-Verify.base.name.now c.verify_answer.result asks.form asks.spelled c.verify_answer.ensures.told in
    c.print_answer-in-Verify.ensures.ends words files c.args.folders (is_answer words files _ (Verify c.in-Verify.base.name.now) c.verify_answer.result c.verify_answer.ensures.plain told asks c.verify_answer.ensures.failed c.verify_answer.ensures.cause)

pub returns-in-Check-clause-ends : goal.returns-in-Check-clause-ends
returns-in-Check-clause-ends g c words is =
    let asks = rw c.in-Check.is at is in
    let files = g.F.Folders.files c.args.folders in
    let told = check_told words files c.in-Check.of.base.now c.in-Check.of.folder.now c.check_answer.result asks.form.0 asks.form.1 asks.spelled c.check_answer.ensures.told in
    c.print_answer-in-Check.ensures.ends words files c.args.folders (is_answer words files _ (Check c.in-Check.of.base.now c.in-Check.of.folder.now) c.check_answer.result c.check_answer.ensures.plain told asks c.check_answer.ensures.failed c.check_answer.ensures.cause)

pub returns-in-Canon-clause-ends : goal.returns-in-Canon-clause-ends
returns-in-Canon-clause-ends g c words is =
    let asks = rw c.in-Canon.is at is in
    let files = g.F.Folders.files c.args.folders in
    let told = canon_told words files c.in-Canon.canon.of.base.now c.in-Canon.canon.of.folder.now c.in-Canon.canon.file c.canon_answer.result asks.form.0 asks.form.1 asks.spelled c.canon_answer.ensures.told in
    c.print_answer-in-Canon.ensures.ends words files c.args.folders (is_answer words files _ (Canon c.in-Canon.canon.of.base.now c.in-Canon.canon.of.folder.now c.in-Canon.canon.file) c.canon_answer.result c.canon_answer.ensures.plain told asks c.canon_answer.ensures.failed c.canon_answer.ensures.cause)

pub returns-in-Links-clause-ends : goal.returns-in-Links-clause-ends
returns-in-Links-clause-ends g c words is =
    let asks = rw c.in-Links.is at is in
    let files = g.F.Folders.files c.args.folders in
    let told = links_told words files c.in-Links.links.of.base.now c.in-Links.links.of.folder.now c.in-Links.links.profile.now c.links_answer.result asks.form.0 asks.form.1 asks.spelled c.links_answer.ensures.told in
    c.print_answer-in-Links.ensures.ends words files c.args.folders (is_answer words files _ (Links c.in-Links.links.of.base.now c.in-Links.links.of.folder.now c.in-Links.links.profile.now) c.links_answer.result c.links_answer.ensures.plain told asks c.links_answer.ensures.failed c.links_answer.ensures.cause)

pub returns-in-Route-clause-ends : goal.returns-in-Route-clause-ends
returns-in-Route-clause-ends g c words is =
    let asks = rw c.in-Route.is at is in
    let files = g.F.Folders.files c.args.folders in
    let told = route_told words files c.in-Route.route c.routing_answer.result asks c.routing_answer.ensures.told in
    c.print_answer-in-Route.ensures.ends words files c.args.folders (is_answer words files _ (Route c.in-Route.route.of.base.now c.in-Route.route.of.folder.now c.in-Route.route.profile.now asks.from asks.to) c.routing_answer.result c.routing_answer.ensures.plain told asks.asks c.routing_answer.ensures.failed c.routing_answer.ensures.cause)

pub returns-in-Gen-clause-ends : goal.returns-in-Gen-clause-ends
returns-in-Gen-clause-ends g c words is =
    let asks = rw c.in-Gen.is at is in
    let files = g.F.Folders.files c.args.folders in
    let told = gen_told words files c.in-Gen.levels.count c.building_answer.result asks.form.0 asks.form.1 asks.spelled c.building_answer.ensures.told in
    c.print_answer-in-Gen.ensures.ends words files c.args.folders (is_answer_alone words files _ c.building_answer.result c.building_answer.ensures.plain told c.building_answer.ensures.memory refl)

pub returns-in-Unknown-clause-ends : goal.returns-in-Unknown-clause-ends
returns-in-Unknown-clause-ends g c words is =
    let none = rw c.in-Unknown.is at is in
    let files = g.F.Folders.files c.args.folders in
    let told = c.unknown_answer.ensures.told in
    c.print_answer-in-Unknown.ensures.ends words files c.args.folders
    (is_answer_alone words files _ c.unknown_answer.result (unknown_plain c.unknown_answer.result told) (unknown_told words files c.unknown_answer.result none told) c.unknown_answer.ensures.memory refl)

pub returns-in-Session-clause-ends : goal.returns-in-Session-clause-ends
returns-in-Session-clause-ends g c words is =
    let asks = rw c.in-Session.is at is in
    c.session.ensures.ends words asks

pub returns-in-Session-clause-left : goal.returns-in-Session-clause-left
returns-in-Session-clause-left g c words is none =
    let asks = rw c.in-Session.is at is in
    absurd (asks_console words _ _ asks none)
