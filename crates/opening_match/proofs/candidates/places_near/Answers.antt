use Rattle.std.proofs.Common.{List, Vec, ℕ, Global, subst}
use Rattle.std.proofs.lemmas.Result.{IfOk-weaker}
use Rattle.opening_match.specs.declared.entries.Entry.{Entry}
use Rattle.opening_match.specs.Around.{AreCandidates}
use Rattle.opening_match.specs.Frames.{IsAtHeight}
use Rattle.opening_match.specs.Places.{ArePlaces}
use Rattle.opening_match.specs.Stretches.{IsStretch}
use Rattle.opening_match.proofs.Gathering.{moved_candidates}
use Rattle.opening_match.proofs.Ordering.{apart_sorted}
use Rattle.opening_match.proofs.Touching.{framed_candidates}
use Rattle.opening_match.proofs.candidates.places_near.Goals as goal

pub places_around-requires-clause-apart : goal.places_around-requires-clause-apart
places_around-requires-clause-apart c = apart_sorted c.args.starts.now.entries.items c.args.starts.now.tree.entries.items c.requires.tree.same c.requires.apart

pub returns-then-stretch-le-FEW : goal.returns-then-stretch-le-FEW
returns-then-stretch-le-FEW c =
    let t = c.args.tolerance in
    let unit = c.args.unit.now in
    let entries = c.args.starts.now.entries.items in
    let stretch = c.stretch_of-stretch.result.now in
    let frame = c.frame_of-frame.result in
    let part = subst (λ (es : List Entry). IsStretch es unit.level frame t stretch) c.as_slice.ensures.value c.stretch_of-stretch.ensures in
    IfOk-weaker c.places_at_height.result (λ (places : Vec ℕ Global). ArePlaces (λ (e : Entry). e.place) (λ (e : Entry). IsAtHeight frame t e.y) stretch places.items) (λ (places : Vec ℕ Global). AreCandidates t unit entries places.items)
    (λ places h. framed_candidates c.near_line_law.ensures.least c.near_line_law.ensures.greatest t unit entries stretch frame places.items c.frame_of-frame.ensures part h) c.places_at_height.ensures

pub returns-else-stretch-le-FEW : goal.returns-else-stretch-le-FEW
returns-else-stretch-le-FEW c =
    let t = c.args.tolerance in
    let unit = c.args.unit.now in
    let entries = c.args.starts.now.entries.items in
    let moved = c.args.starts.now.tree.entries.items in
    IfOk-weaker c.places_around.result (λ (places : Vec ℕ Global). AreCandidates t unit moved places.items) (λ (places : Vec ℕ Global). AreCandidates t unit entries places.items)
    (λ places h. moved_candidates t unit entries moved places.items c.requires.tree.same h) c.places_around.ensures
