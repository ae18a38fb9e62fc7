-- The openings that touch a unit, by what the index and the bands say.
use Rattle.std.proofs.Common.{◌≡◌, ℕ, ◌<◌, Bool, true, false, IsTrue, true≢false, eqb, eq-eqb, List, [], ◌∷◌, Some, length, get_or, ◌↔◌, refl, sym, ap, subst, ◌∙◌, arith, All}
use Rattle.std.specs.Prelude.{Contains, slice_get}
use Rattle.std.proofs.lemmas.List.Elements.{All-contains, Contains-get_or, Contains-append_right}
use Rattle.std.proofs.lemmas.Option.{slice_get_within, same_Some}
use Rattle.std.proofs.lemmas.Bool.{eqb-true}
use Rattle.venue_types.proofs.Items.{member_at, Contains-nil}
use Rattle.venue_types.specs.declared.feature_id.FeatureId.{FeatureId}
use Rattle.venue_types.specs.declared.features.Features.{Features}
use Rattle.venue_types.specs.declared.features.OpeningRow.{OpeningRow}
use Rattle.venue_types.specs.declared.features.UnitRow.{UnitRow}
use Rattle.venue_types.specs.declared.point.Point.{Point}
use Rattle.venue_types.specs.declared.point.Shape.{Shape}
use Rattle.plane_exact.proofs.NearbyLemmas.{all_nearby}
use Rattle.plane_exact.specs.Figure.{AllClose, AllNearby, vertices, IsNear}
use Rattle.feature_rows.specs.Figures.{judged_positions}
use Rattle.feature_rows.specs.Named.{IsUnit}
use Rattle.opening_match.specs.declared.entries.Entry.{Entry}
use Rattle.opening_match.specs.declared.frame.Frame.{Frame}
use Rattle.opening_match.specs.Entries.{AreEntries, start_of}
use Rattle.opening_match.specs.Around.{AreCandidates}
use Rattle.opening_match.specs.Frames.{IsFramed, IsAtHeight}
use Rattle.opening_match.specs.Stretches.{IsStretch}
use Rattle.opening_match.specs.Places.{ArePlaces, AreDistinct}
use Rattle.venue_nodes.specs.TouchCounts.{TouchesAt, AreMatches}
use Rattle.opening_match.specs.Matches.{AreBeside, RunsAlong}
use Rattle.opening_match.proofs.Framing.{LeastLaw, GreatestLaw, near_framed}
use Rattle.opening_match.proofs.Items.{some_in}

-- the opening at this place is there, with a vertex
pub record StartsAt (openings : List OpeningRow) (o : ℕ) : Type 0 where
  pub opening : OpeningRow
  pub there : slice_get openings o ≡ Some opening
  pub vertex : Point
  pub has : Contains opening.line.points vertex

-- of the entries in a stretch those at the height of the frame are enough
pub framed_candidates : LeastLaw → GreatestLaw → (t : ℕ) (unit : UnitRow) (entries stretch : List Entry) (frame : Frame) (places : List ℕ)
    → IsFramed unit.shape frame → IsStretch entries unit.level frame t stretch
    → ArePlaces (λ (e : Entry). e.place) (λ (e : Entry). IsAtHeight frame t e.y) stretch places → AreCandidates t unit entries places
framed_candidates least greatest t unit entries stretch frame places framed part at = record {
  only = λ o h. let w = at.only o h in let s = part.own w.0 w.1 in (w.0, s.0, w.2, s.1);
  whole = λ e own level close near.
      let around = near_framed least greatest unit.shape frame t (start_of e) framed near in
      at.whole e (part.whole e own level around.width) around.height;
  distinct = at.distinct;
}

-- what is known of places at which openings are asked
pub record AreAsked (t : ℕ) (openings : List OpeningRow) (unit : UnitRow) (places : List ℕ) : Type 0 where
  pub only : (o : ℕ) (opening : OpeningRow) → Contains places o → slice_get openings o ≡ Some opening → opening.level ≡ unit.level
  pub starts : (o : ℕ) → Contains places o → StartsAt openings o
  pub whole : (o : ℕ) → TouchesAt t openings unit o → Contains places o
  pub distinct : AreDistinct places

pub asked : (t : ℕ) (openings : List OpeningRow) (unit : UnitRow) (entries : List Entry) (places : List ℕ)
    → AreBeside unit.shape openings → AreEntries openings entries → AreCandidates t unit entries places → AreAsked t openings unit places
asked t openings unit entries places beside are among = record {
  only = λ o opening h there.
      let w = among.only o h in
      let is = are.own w.0 w.1 in
      let same : is.opening ≡ opening = same_Some is.opening opening (sym is.there ∙ ap (λ (k : ℕ). slice_get openings k) w.2 ∙ there) in
      sym (ap (λ (row : OpeningRow). row.level) same) ∙ sym is.level ∙ w.3;
  starts = λ o h.
      let w = among.only o h in
      let is = are.own w.0 w.1 in
      subst (StartsAt openings) w.2 (record { opening = is.opening; there = is.there; vertex = start_of w.0; has = is.start });
  whole = λ o touch.
      let w = are.whole o (slice_get_within openings o touch.opening touch.there) in
      let is = are.own w.0 w.1 in
      let same : is.opening ≡ touch.opening = same_Some is.opening touch.opening (sym is.there ∙ ap (λ (k : ℕ). slice_get openings k) w.2 ∙ touch.there) in
      let start : Contains touch.opening.line.points (start_of w.0) = subst (λ (row : OpeningRow). Contains row.line.points (start_of w.0)) same is.start in
      let near = All-contains (λ p. IsNear p unit.shape t) touch.opening.line.points (start_of w.0) touch.touch.near start in
      let level = is.level ∙ ap (λ (row : OpeningRow). row.level) same ∙ touch.touch.level in
      let close = (beside.beside is.opening (member_at openings w.0.place is.opening is.there)).near (start_of w.0) is.start in
      subst (λ (k : ℕ). Contains places k) w.2 (among.whole w.0 w.1 level close near);
  distinct = among.distinct;
}

pub matches : (t : ℕ) (openings : List OpeningRow) (unit : UnitRow) (shape : Shape) (list places found : List ℕ) → shape ≡ unit.shape → list ≡ places → AreAsked t openings unit places
    → ArePlaces (λ (o : ℕ). o) (RunsAlong t openings shape) list found → AreMatches t openings unit found
matches t openings unit shape list places found same is of are =
    let here : ArePlaces (λ (o : ℕ). o) (RunsAlong t openings unit.shape) places found = subst (λ (s : Shape). ArePlaces (λ (o : ℕ). o) (RunsAlong t openings s) places found) same (subst (λ (ps : List ℕ). ArePlaces (λ (o : ℕ). o) (RunsAlong t openings shape) ps found) is are) in
    record {
      exact = λ o. (
        (λ h.
            let w = here.only o h in
            let along : RunsAlong t openings unit.shape o = subst (RunsAlong t openings unit.shape) w.2 w.3 in
            let own : Contains places o = subst (λ (k : ℕ). Contains places k) w.2 w.1 in
            record { opening = along.opening; there = along.there; touch = record { level = of.only o along.opening own along.there; near = along.near } }),
        (λ touch. here.whole o (of.whole o touch) (record { opening = touch.opening; there = touch.there; near = touch.touch.near })),
      );
      distinct = here.distinct;
    }

pub no_matches : (t : ℕ) (openings : List OpeningRow) (unit : UnitRow) (places : List ℕ) → places ≡ [] → AreAsked t openings unit places → AreMatches t openings unit places
no_matches t openings unit places empty of = record {
  exact = λ o. (
    (λ h. absurd (Contains-nil o (subst (λ (xs : List ℕ). Contains xs o) empty h))),
    (λ touch. of.whole o touch),
  );
  distinct = λ i j d under within. absurd (none within);
} where
  none : {j : ℕ} → j < length places → ⊥
  none {j} within = let e : length places ≡ 0 = ap length empty in omega (arith, within, e)

-- ---- closeness

pub close_alone : (p : Point) (points : List Point) → AllNearby (p ∷ points) → AllNearby points
close_alone p points all = record { near = λ a b h k. all.near a b (Contains-append_right (p ∷ []) points a h) (Contains-append_right (p ∷ []) points b k) }

-- where there is an opening with a vertex beside the shape, the shape's own vertices are close
close_beside : (openings : List OpeningRow) (shape : Shape) (o : ℕ) → AreBeside shape openings → StartsAt openings o → AllNearby (vertices shape)
close_beside openings shape o beside s = close_alone s.vertex (vertices shape) ((beside.beside s.opening (member_at openings o s.opening s.there)).near s.vertex s.has)

pub close_shape : (t : ℕ) (openings : List OpeningRow) (unit : UnitRow) (places : List ℕ) → AreBeside unit.shape openings → AreAsked t openings unit places → ¬ (places ≡ []) → AllNearby (vertices unit.shape)
close_shape t openings unit places beside of filled = let o = some_in places filled in close_beside openings unit.shape o.0 beside (of.starts o.0 o.1)

pub all_there : (t : ℕ) (openings : List OpeningRow) (unit : UnitRow) (places : List ℕ) → AreAsked t openings unit places → All (λ o. o < length openings) places
all_there t openings unit places of k d within =
    let s = of.starts (get_or places k d) (Contains-get_or places k d within) in
    slice_get_within openings (get_or places k d) s.opening s.there

-- the opening at the place runs along the shape exactly where each of its vertices is near
along_is : (t : ℕ) (openings : List OpeningRow) (shape : Shape) (o : ℕ) (opening : OpeningRow) → slice_get openings o ≡ Some opening → RunsAlong t openings shape o → All (λ p. IsNear p shape t) opening.line.points
along_is t openings shape o opening there along = subst (λ (row : OpeningRow). All (λ p. IsNear p shape t) row.line.points) (same_Some along.opening opening (sym along.there ∙ there)) along.near

pub along_true : (t : ℕ) (openings : List OpeningRow) (shape : Shape) (o : ℕ) (opening : OpeningRow) (points : List Point) (near : Bool) → slice_get openings o ≡ Some opening → points ≡ opening.line.points → (IsTrue near ↔ All (λ p. IsNear p shape t) points) → near ≡ true → RunsAlong t openings shape o
along_true t openings shape o opening points near there are decides is = record { opening = opening; there = there; near = subst (λ (ps : List Point). All (λ p. IsNear p shape t) ps) are (decides.0 is) }

pub along_false : (t : ℕ) (openings : List OpeningRow) (shape : Shape) (o : ℕ) (opening : OpeningRow) (points : List Point) (near : Bool) → slice_get openings o ≡ Some opening → points ≡ opening.line.points → (IsTrue near ↔ All (λ p. IsNear p shape t) points) → near ≡ false → ¬ RunsAlong t openings shape o
along_false t openings shape o opening points near there are decides is along =
    let met : near ≡ true = decides.1 (subst (λ (ps : List Point). All (λ p. IsNear p shape t) ps) (sym are) (along_is t openings shape o opening there along)) in
    true≢false (sym met ∙ is)

-- ---- in a folder whose positions are close

abbrev pub UnitLaw : Type 0
UnitLaw = (features : Features) (opening : OpeningRow) (p : Point) (id : FeatureId) (unit : UnitRow) → AllClose (judged_positions features) → Contains features.openings opening → Contains opening.line.points p → IsUnit features id unit → AllClose (p ∷ vertices unit.shape)

pub units_beside : UnitLaw → (features : Features) (openings : List OpeningRow) (units : List UnitRow) → AllClose (judged_positions features) → openings ≡ features.openings → units ≡ features.units → All (λ (unit : UnitRow). AreBeside unit.shape openings) units
units_beside law features openings units close same file k d within =
    let unit = get_or units k d in
    let has : Contains features.units unit = subst (λ (us : List UnitRow). Contains us unit) file (Contains-get_or units k d within) in
    record { beside = λ opening own. record { near = λ p at. all_nearby (p ∷ vertices unit.shape) (law features opening p unit.id unit close (subst (λ (os : List OpeningRow). Contains os opening) same own) at (record { has = has; named = refl })) } }

pub filled : (xs : List ℕ) (n : ℕ) (b : Bool) → n ≡ length xs → b ≡ eqb n 0 → b ≡ false → ¬ (xs ≡ [])
filled xs n b count is other empty = true≢false (sym (eq-eqb n 0 (count ∙ ap length empty)) ∙ sym is ∙ other)

pub unfilled : (xs : List ℕ) (n : ℕ) (b : Bool) → n ≡ length xs → b ≡ eqb n 0 → b ≡ true → xs ≡ []
unfilled [] n b count is met = refl
unfilled (x ∷ xs) n b count is met = let none : n ≡ 0 = eqb-true n 0 (sym is ∙ met) in absurd (omega (arith, count, none))
