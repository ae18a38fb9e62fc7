use Rattle.std.proofs.Common.{ℕ, ◌+◌, List, [], ◌∷◌, ◌++◌, get_or, take, map, refl, sym, subst, ◌∙◌, arith}
use Rattle.std.proofs.lemmas.List.{length-map, map_more, take_all}
use Rattle.venue_types.specs.declared.kind.Kind.TheVariants.{Floor}
use Rattle.venue_types.specs.declared.link.Link.{Link}
use Rattle.link_graph.specs.Graphs.{network}
use Rattle.route_certificate.specs.declared.table.TableLink.{TableLink}
use Rattle.route_answers.specs.Passing.{link_row, rows_of}
use Rattle.route_answers.specs.Places.{AreFirstPlaces, IsFirstPlace}
use Rattle.route_answers.specs.Tables.{row_of}
use Rattle.route_answers.proofs.AllPlaces.{place_few}
use Rattle.route_answers.proofs.Ranges.{as_many}
use Rattle.route_answers.proofs.Venues.{mapped_same, row_same, rows_are}
use Rattle.route_answers.proofs.places.row_places.Goals as goal

abbrev nothing : Link
nothing = record { from = 0; to = 0; via = 0; cost = 0; kind = Floor }

one_more : (rows wanted : List TableLink) (places : List ℕ) (row : TableLink) (k : ℕ) → AreFirstPlaces rows wanted places → IsFirstPlace rows row k → AreFirstPlaces rows (wanted ++ row ∷ []) (places ++ k ∷ [])
one_more rows [] places row k none is = subst (λ (ks : List ℕ). AreFirstPlaces rows (row ∷ []) (ks ++ k ∷ [])) (sym none) (is, refl)
one_more rows (x ∷ wanted) [] row k are is = absurd are
one_more rows (x ∷ wanted) (j ∷ places) row k are is = (are.0, one_more rows wanted places row k are.1 is)

pub place-requires-clause-there : goal.place-requires-clause-there
place-requires-clause-there c = c.requires.there c.loop-link.link-index nothing c.loop-link-test.true

pub place-requires-clause-allowed : goal.place-requires-clause-allowed
place-requires-clause-allowed c = c.requires.allowed c.loop-link.link-index nothing c.loop-link-test.true

pub overflow_cast-at : goal.overflow_cast-at
overflow_cast-at c =
    let few = place_few c.args.graph.now c.args.profile.now (get_or c.args.links.now c.loop-link.link-index nothing) c.in_ok-at.at c.in_ok-at.ensures in
    let bound = c.range_law.ensures.links in
    omega (arith, few, bound)

pub loop-link-preserved : goal.loop-link-preserved
loop-link-preserved c =
    let given = network c.args.graph.now in
    let rows = rows_of given c.args.profile.now given.links in
    let links = c.args.links.now in
    let i = c.loop-link.link-index in
    let link : Link = get_or links i nothing in
    let old = c.loop-link.places.items in
    let more = one_more rows (map (link_row given) (take i links)) old (link_row given link) c.in_ok-at.at c.loop-link.invariant c.in_ok-at.ensures in
    subst (AreFirstPlaces rows (map (link_row given) (take (i + 1) links))) (sym c.in_ok-push.ensures.items)
    (subst (λ (wanted : List TableLink). AreFirstPlaces rows wanted (old ++ c.in_ok-at.at ∷ [])) (sym (map_more (link_row given) links i nothing c.loop-link-test.true)) more)

pub returns-clause-numbered : goal.returns-clause-numbered
returns-clause-numbered c = λ features settings is.
    let given = network c.args.graph.now in
    let links = c.args.links.now in
    let places = c.loop-link.places.items in
    let whole = subst (λ (xs : List Link). AreFirstPlaces (rows_of given c.args.profile.now given.links) (map (link_row given) xs) places) (take_all c.loop-link.link-index links c.loop-link-test.false) c.loop-link.invariant in
    subst (λ (rows : List TableLink). AreFirstPlaces rows (map (row_of features) links) places) (rows_are features settings given c.args.profile.now is)
    (subst (λ (wanted : List TableLink). AreFirstPlaces (rows_of given c.args.profile.now given.links) wanted places) (mapped_same (link_row given) (row_of features) links (λ link. row_same features settings given link is)) whole)

pub returns-clause-many : goal.returns-clause-many
returns-clause-many c =
    let given = network c.args.graph.now in
    let rows = rows_of given c.args.profile.now given.links in
    let links = c.args.links.now in
    let places = c.loop-link.places.items in
    let whole = subst (λ (xs : List Link). AreFirstPlaces rows (map (link_row given) xs) places) (take_all c.loop-link.link-index links c.loop-link-test.false) c.loop-link.invariant in
    as_many rows (map (link_row given) links) places whole ∙ length-map links (link_row given)
