use Rattle.std.proofs.Common.{◌≡◌, ◌∙◌, ℕ, pos, Vec, Global, get_or, take, ap, sym, subst, true≢false}
use Rattle.std.proofs.lemmas.List.{get_or_default}
use Rattle.opening_match.specs.declared.entries.Entry.{Entry}
use Rattle.opening_match.specs.Frames.{IsAtHeight}
use Rattle.opening_match.specs.Places.{ArePlaces}
use Rattle.opening_match.proofs.Placing.{taken, passed, all_taken}
use Rattle.opening_match.proofs.candidates.places_at_height.Goals as goal
use Rattle.opening_match.proofs.candidates.places_at_height.Goals.{then-is_at_height+in_ok-push, else-is_at_height}

pub loop-entry-preserved : goal.loop-entry-preserved
loop-entry-preserved c =
    let entries = c.args.entries.now in
    let frame = c.args.frame in
    let t = c.args.tolerance in
    let i = c.loop-entry.entry-index in
    let none : Entry = record { level = record { 0 = 0 }; x = pos 0; y = pos 0; place = 0 } in
    let e = get_or entries i none in
    let is : e ≡ get_or entries i e = get_or_default entries i none e c.loop-entry-test.true in
    elim c.if-is_at_height.branch [
      | then-is_at_height+in_ok-push w ↦
          taken (λ (e : Entry). e.place) (λ (e : Entry). IsAtHeight frame t e.y) entries i e c.loop-entry.places.items _ c.requires c.loop-entry-test.true is (c.is_at_height.ensures.0 w.if-is_at_height.true)
          (ap (λ (v : Vec ℕ Global). v.items) w.places-is ∙ w.in_ok-push.ensures.items) c.loop-entry.invariant
      | else-is_at_height w ↦
          passed (λ (e : Entry). e.place) (λ (e : Entry). IsAtHeight frame t e.y) entries i e _ c.loop-entry-test.true is
          (λ at. true≢false (sym (c.is_at_height.ensures.1 at) ∙ w.if-is_at_height.false))
          (subst (λ (v : Vec ℕ Global). ArePlaces (λ (e : Entry). e.place) (λ (e : Entry). IsAtHeight frame t e.y) (take i entries) v.items) (sym w.places-is) c.loop-entry.invariant)
    ]

pub returns : goal.returns
returns c = all_taken (λ (e : Entry). e.place) (λ (e : Entry). IsAtHeight c.args.frame c.args.tolerance e.y) c.args.entries.now c.loop-entry.entry-index c.loop-entry.places.items c.loop-entry-test.false c.loop-entry.invariant
