use Rattle.std.proofs.Common.{ℕ, sym, ap, ◌∙◌, subst, arith}
use Rattle.std.specs.BTreeMap.{BTreeMap, get}
use Rattle.venue_types.specs.declared.link.Link.{Link}
use Rattle.link_graph.specs.Graphs.{network}
use Rattle.route_answers.specs.declared.firsts.RowKey.{RowKey}
use Rattle.route_answers.specs.Placing.{KnowsFirsts, key_cmp, noted, same_key}
use Rattle.route_answers.proofs.Keys.{count_more, count_same, more_known, same_known}
use Rattle.venue_types.specs.declared.kind.Kind.TheVariants.{Floor}
use Rattle.route_answers.proofs.firsts.first_links.Goals as goal
use Rattle.route_answers.proofs.firsts.first_links.Goals.{then-may_use+in_ok-note, else-may_use}

abbrev nothing : Link
nothing = record { from = 0; to = 0; via = 0; cost = 0; kind = Floor }

pub loop-link-preserved : goal.loop-link-preserved
loop-link-preserved c =
    let given = network c.args.graph.now in
    let profile = c.args.profile.now in
    let links = c.args.links.now in
    let i = c.loop-link.link-index in
    let before = c.loop-link.invariant in
    let few = before.few in
    elim c.if-may_use.branch [
      | then-may_use+in_ok-note w ↦
          let more = w.count-is in
          record {
            firsts = more_known given profile links i nothing c.loop-link.count c.loop-link.firsts c.if-may_use.firsts c.loop-link-test.true before.firsts before.number (sym c.may_use.ensures ∙ w.if-may_use.true)
                (λ key. ap (λ (m : BTreeMap RowKey ℕ). get key_cmp m key) w.firsts-is ∙ w.in_ok-note.ensures key
                ∙ ap (λ (k : RowKey). noted (get key_cmp c.loop-link.firsts key) (same_key key k) c.loop-link.count) w.row_key.ensures);
            number = count_more given profile links i nothing c.loop-link.count c.if-may_use.count c.loop-link-test.true before.number (sym c.may_use.ensures ∙ w.if-may_use.true) more;
            few = omega (arith, few, more);
          }
      | else-may_use w ↦
          let same = w.count-is in
          record {
            firsts = subst (KnowsFirsts given profile _) (sym w.firsts-is) (same_known given profile links i nothing c.loop-link.firsts c.loop-link-test.true before.firsts (sym c.may_use.ensures ∙ w.if-may_use.false));
            number = count_same given profile links i nothing c.loop-link.count c.if-may_use.count c.loop-link-test.true before.number (sym c.may_use.ensures ∙ w.if-may_use.false) same;
            few = omega (arith, few, same);
          }
    ]
