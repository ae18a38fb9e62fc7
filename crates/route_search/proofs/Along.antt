-- The links of one stretch, one after another.
use Rattle.std.proofs.Common.{◌≡◌, ◌≢◌, ◌↔◌, ℕ, ◌+◌, ◌-◌, ◌≤◌, Option, Some, None, sym, subst, ◌∙◌, arith}
use Rattle.std.specs.Prelude.{Contains, slice_get}
use Rattle.std.proofs.lemmas.Option.{same_Some}
use Rattle.venue_types.proofs.Items.{member_at}
use Rattle.venue_types.specs.declared.link.Link.{Link}
use Rattle.link_graph.specs.declared.new_links.NewLink.{NewLink}
use Rattle.link_graph.specs.declared.stretches.Stretch.{Stretch}
use Rattle.link_graph.specs.declared.stretches.Way.{Way}
use Rattle.link_graph.specs.Detours.{AreKnown, IsNewIn}
use Rattle.link_graph.specs.Networks.{Network, AreStretches}
use Rattle.route_search.specs.declared.labels.Last.{Last}
use Rattle.route_search.specs.declared.node_stretch.NodeStretch.{NodeStretch}
use Rattle.route_search.specs.declared.state.State.{State}
use Rattle.route_search.specs.States.{last_in}
use Rattle.route_search.specs.Scans.{IsAmid, IsKnownStart, IsScanned, IsStretchOf}
use Rattle.route_search.proofs.Covers.{out_from}
use Rattle.route_search.proofs.Detours.{AreStarts, HasDetours, passed_known}
use Rattle.route_search.proofs.Scanned.{no_more, some_more}

-- what is so of the stretch is so of whatever stands at its number
pub of_stretch : (given : Network) (at : NodeStretch) (P : Stretch → Type 0) → IsStretchOf given at → P at.stretch
    → (stretch : Stretch) → slice_get (given.stretches at.node) at.k ≡ Some stretch → P stretch
of_stretch given at P is so stretch here = subst P (same_Some at.stretch stretch (sym is.here ∙ here)) so

pub starts_of : (state : State) (node : ℕ) (way : Way) (known : Option ℕ) (last : Last) → last ≡ last_in state node → ((a : ℕ) → known ≡ Some a ↔ IsKnownStart last.by way a)
    → AreStarts state node way known
starts_of state node way known last same start a is = subst (λ (l : Last). IsKnownStart l.by way a) same ((start a).0 is)

-- the links of the stretch in front of the place were regarded
pub record IsAlong (given : Network) (IsLink : Link → Type 0) (nodes : ℕ) (at : NodeStretch) (place old_steps new_steps : ℕ) (old new : State) : Type 0 where
  pub done : ℕ
  pub place_is : place ≡ at.stretch.first + done
  pub low : done ≤ at.stretch.count
  pub scanned : IsScanned given IsLink nodes at.node at.stretch.first done old new
  pub steps : new_steps ≤ old_steps + done

pub along_none : (given : Network) (IsLink : Link → Type 0) (nodes : ℕ) (at : NodeStretch) (steps : ℕ) (state : State) → IsAmid given IsLink nodes at.node state
    → IsAlong given IsLink nodes at at.stretch.first steps steps state state
along_none given IsLink nodes at steps state amid = record {
  done = 0;
  place_is = omega arith;
  low = omega arith;
  scanned = no_more given IsLink nodes at.node at.stretch.first state amid;
  steps = omega arith;
}

module _ (given : Network) (IsLink : Link → Type 0) (nodes : ℕ) (at : NodeStretch) (place old_steps steps : ℕ) (old state : State)
    (along : IsAlong given IsLink nodes at place old_steps steps old state) (known : Option ℕ) (starts : AreStarts old at.node at.stretch.way known) where
  -- the last link to the node stays, so from where links may be known stays too
  pub starts_later : AreStarts state at.node at.stretch.way known
  starts_later a is = subst (λ (l : Last). IsKnownStart l.by at.stretch.way a) (sym along.scanned.later.last) (starts a is)

  module _ (detours : HasDetours given IsLink) (apart : (link : Link) → IsLink link → link.from ≢ link.to) (are : AreStretches given at.node) (is : IsStretchOf given at) where
    one : Contains (given.stretches at.node) at.stretch
    one = member_at (given.stretches at.node) at.k at.stretch is.here

    -- so many links more were regarded
    regarded_more : (more : ℕ) → place + more ≤ at.stretch.first + at.stretch.count
        → IsScanned given IsLink nodes at.node place more state state → IsScanned given IsLink nodes at.node at.stretch.first (along.done + more) old state
    regarded_more more high rest = some_more given IsLink nodes at.node at.stretch.first along.done place more old state state (out_from given at.node) along.place_is along.scanned rest

    pub along_all : AreKnown given at.node at.stretch known place None → IsScanned given IsLink nodes at.node at.stretch.first at.stretch.count old state
    along_all are_known =
        let more = at.stretch.count - along.done in
        let low : at.stretch.first ≤ place = omega (arith, along.place_is) in
        let high : place + more ≤ at.stretch.first + at.stretch.count = omega (arith, along.place_is, along.low) in
        let rest = passed_known given IsLink nodes at.node at.stretch state along.scanned.amid detours apart known starts_later are one place more None low high
        (λ p low_p high_p. (omega arith, omega arith)) are_known in
        let whole : along.done + more ≡ at.stretch.count = omega (arith, along.low) in
        subst (λ (n : ℕ). IsScanned given IsLink nodes at.node at.stretch.first n old state) whole (regarded_more more high rest)

    pub along_more : (found : NewLink) (new_steps : ℕ) (new : State) → IsNewIn given at.node at.stretch place found → AreKnown given at.node at.stretch known place (Some found)
        → IsScanned given IsLink nodes at.node found.place 1 state new → new_steps ≡ steps + 1 → IsAlong given IsLink nodes at (found.place + 1) old_steps new_steps old new
    along_more found new_steps new told are_known looked step =
        let more = found.place - place in
        let low : at.stretch.first ≤ place = omega (arith, along.place_is) in
        let behind : place + more ≡ found.place = omega (arith, told.behind) in
        let high : place + more ≤ at.stretch.first + at.stretch.count = omega (arith, behind, told.within) in
        let rest = passed_known given IsLink nodes at.node at.stretch state along.scanned.amid detours apart known starts_later are one place more (Some found) low high
        (λ p low_p high_p. (omega arith, omega (arith, behind))) are_known in
        record {
          done = along.done + more + 1;
          place_is = omega (arith, behind, along.place_is);
          low = omega (arith, behind, along.place_is, told.within);
          scanned = some_more given IsLink nodes at.node at.stretch.first (along.done + more) found.place 1 old state new (out_from given at.node)
              (omega (arith, behind, along.place_is)) (regarded_more more high rest) looked;
          steps = omega (arith, step, along.steps);
        }
