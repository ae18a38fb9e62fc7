use Rattle.std.proofs.Common.{◌≡◌, ℕ, List, ◌∷◌, [], ◌++◌, filter, map, get_or, Vec, Global, sym, ap, ◌∙◌, subst}
use Rattle.std.proofs.lemmas.List.{take_all}
use Rattle.std.proofs.lemmas.Option.{get_or_from_slice_get, slice_get-get_or}
use Rattle.venue_types.specs.declared.link.Link.{Link}
use Rattle.link_graph.specs.declared.parts.UnitWay.{UnitWay}
use Rattle.link_graph.specs.Cores.{links_across_from, link_across, link_by, joined_in}
use Rattle.link_graph.proofs.LeadingLists.{kept_more, left_more}
use Rattle.link_graph.proofs.TableRows.{same_place}
use Rattle.link_graph.proofs.link_list.add_from.Goals as goal
use Rattle.link_graph.proofs.link_list.add_from.Goals.{then-joins+in_ok-push, else-joins}

pub loop-j-preserved : goal.loop-j-preserved
loop-j-preserved c =
    let core = c.args.core.now in
    let crossing = c.args.crossing.now in
    let row = c.args.row.now in
    let a = get_or row c.args.i 0 in
    let b = get_or row c.loop-j.j 0 in
    let told : joined_in crossing row a b ≡ c.joins.result = same_place crossing row c.args.i a c.loop-j.j c.requires.row.rise (slice_get-get_or row c.args.i 0 c.requires.place) c.loop-j-test.true ∙ sym c.joins.ensures in
    elim c.if-joins.branch [
      | then-joins+in_ok-push w ↦
          kept_more (link_across core crossing a) (joined_in crossing row a) row c.loop-j.j 0 c.args.links.now.items c.loop-j.links.items c.if-joins.links.items c.loop-j-test.true c.loop-j.invariant
          (told ∙ w.if-joins.true)
          (ap (λ (v : Vec Link Global). v.items) w.links-is ∙ w.in_ok-push.ensures.items ∙ ap (λ (l : Link). c.loop-j.links.items ++ l ∷ []) (w.across_link.ensures ∙ ap (λ (way : UnitWay). link_by core way a b) w.way.ensures))
      | else-joins w ↦
          left_more (link_across core crossing a) (joined_in crossing row a) row c.loop-j.j 0 c.args.links.now.items c.loop-j.links.items c.if-joins.links.items c.loop-j-test.true c.loop-j.invariant
          (told ∙ w.if-joins.false)
          (ap (λ (v : Vec Link Global). v.items) w.links-is)
    ]

pub returns : goal.returns
returns c = λ a there.
    let core = c.args.core.now in
    let crossing = c.args.crossing.now in
    let row = c.args.row.now in
    subst (λ (m : ℕ). c.loop-j.links.items ≡ c.args.links.now.items ++ links_across_from core crossing row m) (get_or_from_slice_get row c.args.i a 0 there) (
    c.loop-j.invariant
    ∙ ap (λ (xs : List ℕ). c.args.links.now.items ++ map (link_across core crossing (get_or row c.args.i 0)) (filter (joined_in crossing row (get_or row c.args.i 0)) xs)) (take_all c.loop-j.j row c.loop-j-test.false)
    )
