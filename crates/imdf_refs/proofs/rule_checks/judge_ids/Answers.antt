use Rattle.std.proofs.Common.{◌≡◌, ◌<◌, Some, Option, ℕ, get_or, length, map, subst, arith}
use Rattle.std.specs.Prelude.{slice_get}
use Rattle.std.proofs.lemmas.List.{length-map}
use Rattle.std.proofs.lemmas.Option.{slice_get-get_or}
use Rattle.venue_types.proofs.Items.{at_map}
use Rattle.venue_types.specs.declared.feature_id.FeatureId.{FeatureId}
use Rattle.rule_reports.specs.Passes.{Adds}
use Rattle.rule_reports.proofs.Adding.{Adds-start, Adds-step, Adds-end}
use Rattle.imdf_refs.specs.References.{by_id, file_named}
use Rattle.imdf_refs.specs.Gathering.{place_of, Dangles, DanglesAt}
use Rattle.imdf_refs.proofs.Dangling.{at_all}
use Rattle.imdf_refs.proofs.rule_checks.judge_ids.Goals as goal

pub loop-k-init : goal.loop-k-init
loop-k-init c = Adds-start _ _ _

pub loop-k-preserved : goal.loop-k-preserved
loop-k-preserved c =
    let known = c.args.known.now in
    let row = c.args.row.now in
    let ids = c.args.ids.now in
    let k = c.loop-k.k in
    let none : FeatureId = record { 0 = 0 } in
    let item = get_or ids k none in
    let within : k < length ids = omega arith in
    let at : slice_get (map by_id ids) k ≡ Some (by_id item) = at_map by_id ids k item (slice_get-get_or ids k none within) in
    Adds-step (DanglesAt known row c.args.index) (map by_id ids) k (by_id item) at c.loop-k.invariant
    (subst (λ (member : ℕ). Adds (Dangles known (place_of row.file c.args.index) member item (file_named row.names (by_id item))) c.loop-k.findings.items c.judge.new.findings.items) c.in_ok-member.ensures.is
    (subst (λ (f : Option ℕ). Adds (Dangles known (place_of row.file c.args.index) c.in_ok-member.member item f) c.loop-k.findings.items c.judge.new.findings.items) (c.named_file-file.ensures item) c.in_ok-judge.ensures))

pub returns : goal.returns
returns c =
    let ids = c.args.ids.now in
    at_all c.args.known.now c.args.row.now c.args.index (map by_id ids) c.args.findings.now.items c.loop-k.findings.items
    (Adds-end (DanglesAt c.args.known.now c.args.row.now c.args.index) (map by_id ids) c.loop-k.k (rw length-map c.loop-k-test.false) c.loop-k.invariant)
