use Rattle.std.proofs.Common.{List, refl, subst}
use Rattle.opening_match.specs.declared.around.Sought.{Sought}
use Rattle.opening_match.specs.declared.entries.Entry.{Entry}
use Rattle.opening_match.specs.Around.{AreCandidates}
use Rattle.opening_match.proofs.Gathering.{candidates_of}
use Rattle.opening_match.proofs.candidates.places_around.Goals as goal

pub returns : goal.returns
returns c =
    let unit = c.args.unit.now in
    let places = c.add_around.new.places.items in
    let sought : Sought = record { level = unit.level; edges = c.as_slice.result; tolerance = c.args.tolerance } in
    subst (λ (entries : List Entry). AreCandidates c.args.tolerance unit entries places) c.as_slice-3.ensures.value
    (candidates_of sought unit c.in_ok-edges.edges.items c.as_slice-3.result.now c.new-places.result.items places refl c.as_slice.ensures.value c.in_ok-edges.ensures c.new-places.ensures.items c.in_ok-add_around.ensures)
