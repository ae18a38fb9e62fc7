use Rattle.std.proofs.Common.{◌≡◌, ℕ, ◌<◌, List, Bool, length, filter, flat_map, sym, ap, ◌∙◌, subst}
use Rattle.std.specs.Prelude.{All, OnOk}
use Rattle.std.proofs.lemmas.List.Elements.{All-filter}
use Rattle.link_graph.specs.Areas.{joined_across}
use Rattle.link_graph.specs.Graphs.{network}
use Rattle.route_certificate.specs.declared.table.TableLink.{TableLink}
use Rattle.route_answers.specs.Adding.{Adds, rows_from, rows_joined_to}
use Rattle.route_answers.specs.Passing.{passes_node}
use Rattle.route_answers.proofs.Choosing.{crossed_rows, closed_rows}
use Rattle.route_answers.proofs.Gathering.{adds_none}
use Rattle.route_answers.proofs.JoinedRows.{joined_rows}
use Rattle.route_answers.proofs.MarkedPlaces.{is_room}
use Rattle.route_answers.proofs.Numbers.{told}
use Rattle.route_answers.proofs.rows.add_area.Goals as goal

some_within : (bound : ℕ) (ok : ℕ → Bool) (members passed given : List ℕ) → given ≡ passed → passed ≡ filter ok members → All (λ (m : ℕ). m < bound) members → All (λ (m : ℕ). m < bound) given
some_within bound ok members passed given same chosen within = subst (All (λ (m : ℕ). m < bound)) (sym (same ∙ chosen)) (All-filter ok (λ (m : ℕ). m < bound) members within)

pub add_pairs-requires-clause-within : goal.add_pairs-requires-clause-within
add_pairs-requires-clause-within c =
    some_within (length (network c.args.graph.now).nodes) (passes_node (network c.args.graph.now) c.args.profile.now) c.area.result.1.now c.in_ok-passed.passed.items c.deref.result.now
    c.deref.ensures.value c.in_ok-passed.ensures c.area.ensures.area.within

pub returns-then-not-may_cross : goal.returns-then-not-may_cross
returns-then-not-may_cross c = λ listed there.
    let graph = c.args.graph.now in
    let profile = c.args.profile.now in
    let area = c.area.result.0 in
    let members = c.area.result.1.now in
    let table = c.area.result.2.now in
    let added : List TableLink → Type 0 = Adds (length (network graph).nodes) c.args.rows.now.items c.args.rows.now.items in
    told graph profile c.args.w area members table listed added c.area.ensures.there there
    (subst added (sym (closed_rows c.network_parts_law.ensures graph profile area members table c.area.ensures.area.barred (sym c.may_cross.ensures ∙ c.if-not-may_cross.true)))
    (adds_none (length (network graph).nodes) c.args.rows.now.items))

pub returns-in_ok-passed : goal.returns-in_ok-passed
returns-in_ok-passed c = λ listed there.
    let graph = c.args.graph.now in
    let profile = c.args.profile.now in
    let area = c.area.result.0 in
    let members = c.area.result.1.now in
    let table = c.area.result.2.now in
    let is = c.area.ensures.area in
    let added : List TableLink → Type 0 = λ rows. OnOk c.add_pairs.result (Adds (length (network graph).nodes) c.args.rows.now.items c.add_pairs.new.rows.items rows) in
    told graph profile c.args.w area members table listed added c.area.ensures.there there
    (subst added
    (ap (λ (xs : List ℕ). flat_map (rows_from graph area xs) xs) (c.deref.ensures.value ∙ c.in_ok-passed.ensures)
    ∙ sym (crossed_rows c.network_parts_law.ensures graph profile area members table (is.whole (c.is_whole.ensures.0 c.if-is_whole.true)) is.barred (sym c.may_cross.ensures ∙ c.if-not-may_cross.false)))
    c.add_pairs.ensures)

pub returns-in_ok-mask : goal.returns-in_ok-mask
unfolding rows_joined_to
returns-in_ok-mask c = λ listed there.
    let graph = c.args.graph.now in
    let profile = c.args.profile.now in
    let area = c.area.result.0 in
    let members = c.area.result.1.now in
    let table = c.area.result.2.now in
    let added : List TableLink → Type 0 = λ rows. OnOk c.add_joined.result (Adds (length (network graph).nodes) c.args.rows.now.items c.add_joined.new.rows.items rows) in
    told graph profile c.args.w area members table listed added c.area.ensures.there there
    (subst added (sym (joined_rows c.network_parts_law.ensures graph profile area members (joined_across table members) c.area.ensures.area.barred (sym c.may_cross.ensures ∙ c.if-not-may_cross.false))) c.add_joined.ensures)

pub add_joined-requires-clause-room : goal.add_joined-requires-clause-room
add_joined-requires-clause-room c = is_room _ c.area.result.0 c.size.result c.area.ensures.area c.size.ensures.size c.in_ok-mask.ensures
