use Rattle.std.proofs.Common.{◌≡◌, ◌∙◌, ℕ, pos, Vec, Global, get_or, take, ap, sym, subst}
use Rattle.std.proofs.lemmas.List.{get_or_default}
use Rattle.venue_types.specs.declared.feature_id.FeatureId.{FeatureId}
use Rattle.opening_match.specs.declared.entries.Entry.{Entry}
use Rattle.opening_match.specs.Around.{AddsOfLevel}
use Rattle.opening_match.proofs.Gathering.{level_none, level_taken, level_passed, level_all, same_level}
use Rattle.opening_match.proofs.around.add_level.Goals as goal
use Rattle.opening_match.proofs.around.add_level.Goals.{then-entry-level+in_ok-push, else-entry-level}

pub loop-entry-init : goal.loop-entry-init
loop-entry-init c = level_none c.args.level c.args.places.now.items

pub loop-entry-preserved : goal.loop-entry-preserved
loop-entry-preserved c =
    let level = c.args.level in
    let entries = c.args.entries.now in
    let old = c.args.places.now.items in
    let i = c.loop-entry.entry-index in
    let none : Entry = record { level = record { 0 = 0 }; x = pos 0; y = pos 0; place = 0 } in
    let e = get_or entries i none in
    let is : e ≡ get_or entries i e = get_or_default entries i none e c.loop-entry-test.true in
    elim c.if-entry-level.branch [
      | then-entry-level+in_ok-push w ↦
          level_taken level entries i e old c.loop-entry.places.items c.if-entry-level.places.items c.requires c.loop-entry-test.true is (same_level e.level level w.if-entry-level.true)
          (ap (λ (v : Vec ℕ Global). v.items) w.places-is ∙ w.in_ok-push.ensures.items) c.loop-entry.invariant
      | else-entry-level w ↦
          level_passed level entries i e old c.if-entry-level.places.items c.loop-entry-test.true is
          (λ same. w.if-entry-level.false (ap (λ (level : FeatureId). level.0) same))
          (subst (λ (v : Vec ℕ Global). AddsOfLevel level (take i entries) old v.items) (sym w.places-is) c.loop-entry.invariant)
    ]

pub returns : goal.returns
returns c = level_all c.args.level c.args.entries.now c.loop-entry.entry-index c.args.places.now.items c.loop-entry.places.items c.loop-entry-test.false c.loop-entry.invariant
