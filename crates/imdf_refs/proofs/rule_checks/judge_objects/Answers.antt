use Rattle.std.proofs.Common.{◌≡◌, ◌<◌, Some, Option, ℕ, get_or, length, map, subst, arith}
use Rattle.std.specs.Prelude.{slice_get}
use Rattle.std.proofs.lemmas.List.{length-map}
use Rattle.std.proofs.lemmas.Option.{slice_get-get_or}
use Rattle.venue_types.proofs.Items.{at_map}
use Rattle.venue_types.specs.declared.features.Ref.{Ref}
use Rattle.rule_reports.specs.Passes.{Adds}
use Rattle.rule_reports.proofs.Adding.{Adds-start, Adds-step, Adds-end}
use Rattle.imdf_refs.specs.References.{by_object, file_named}
use Rattle.imdf_refs.specs.Gathering.{place_of, Dangles, DanglesAt}
use Rattle.imdf_refs.proofs.Dangling.{at_all}
use Rattle.imdf_refs.proofs.rule_checks.judge_objects.Goals as goal

pub loop-k-init : goal.loop-k-init
loop-k-init c = Adds-start _ _ _

pub loop-k-preserved : goal.loop-k-preserved
loop-k-preserved c =
    let known = c.args.known.now in
    let row = c.args.row.now in
    let objects = c.args.objects.now in
    let k = c.loop-k.k in
    let none : Ref = record { id = record { 0 = 0 }; feature_type = 0 } in
    let item = get_or objects k none in
    let within : k < length objects = omega arith in
    let at : slice_get (map by_object objects) k ≡ Some (by_object item) = at_map by_object objects k item (slice_get-get_or objects k none within) in
    Adds-step (DanglesAt known row c.args.index) (map by_object objects) k (by_object item) at c.loop-k.invariant
    (subst (λ (member : ℕ). Adds (Dangles known (place_of row.file c.args.index) member item.id (file_named row.names (by_object item))) c.loop-k.findings.items c.judge.new.findings.items) c.in_ok-member.ensures.is
    (subst (λ (f : Option ℕ). Adds (Dangles known (place_of row.file c.args.index) c.in_ok-member.member item.id f) c.loop-k.findings.items c.judge.new.findings.items) (c.named_file-file.ensures item.id) c.in_ok-judge.ensures))

pub returns : goal.returns
returns c =
    let objects = c.args.objects.now in
    at_all c.args.known.now c.args.row.now c.args.index (map by_object objects) c.args.findings.now.items c.loop-k.findings.items
    (Adds-end (DanglesAt c.args.known.now c.args.row.now c.args.index) (map by_object objects) c.loop-k.k (rw length-map c.loop-k-test.false) c.loop-k.invariant)
