-- Links across the unit by which a node was reached that lead to no new node and to none for less.
use Rattle.std.proofs.Common.{◌≡◌, ◌≢◌, inl, inr, ℕ, ◌+◌, ◌<◌, ◌≤◌, Option, Some, None, refl, sym, ap, subst, ◌∙◌, arith}
use Rattle.std.specs.Prelude.{Contains, slice_get}
use Rattle.venue_types.specs.declared.link.Link.{Link}
use Rattle.link_graph.specs.declared.new_links.NewLink.{NewLink}
use Rattle.link_graph.specs.declared.stretches.Stretch.{Stretch}
use Rattle.link_graph.specs.declared.stretches.Way.{Way}
use Rattle.link_graph.specs.declared.stretches.Way.TheVariants.{Inside, Between}
use Rattle.link_graph.specs.Detours.{IsKnownFrom, IsKnown, HasLinkAcross, IsInFront, AreKnown}
use Rattle.link_graph.specs.Networks.{Network, AreStretches, links_out}
use Rattle.route_search.specs.declared.state.State.{State}
use Rattle.route_search.specs.Labels.{IsRelaxed}
use Rattle.route_search.specs.States.{cost_in, last_in, IsRelaxedFrom, IsStep, ComesBy}
use Rattle.route_search.specs.Scans.{IsAcross, IsKnownStart, IsAmid, IsPassedOver, IsScanned}
use Rattle.route_search.proofs.Covers.{across_way, out_from}
use Rattle.route_search.proofs.Scanned.{passed}

-- the law of the way across, over the links of a family
abbrev pub HasDetours : Network → (Link → Type 0) → Type 0
HasDetours given IsLink = (first second across : Link) → IsLink first → IsLink second → second.from ≡ first.to → second.via ≡ first.via → given.first_unit ≤ first.via
    → Contains given.links across → across.from ≡ first.from → across.to ≡ second.to → across.via ≡ first.via → IsLink across × (across.cost ≤ first.cost + second.cost)

-- a link that is known from the start of the last link, by its unit, leads nowhere for less
pub detour_relaxed : (given : Network) (IsLink : Link → Type 0) (state : State) (n : ℕ) (link second : Link) → HasDetours given IsLink → IsStep IsLink state n link → IsRelaxedFrom IsLink state link.from
    → IsLink second → second.from ≡ n → second.via ≡ link.via → given.first_unit ≤ link.via → IsKnownFrom given link.from second → IsRelaxed state.costs.items second
detour_relaxed given IsLink state n link second detours step relaxed is at same unit known =
    let cost_n : cost_in state n ≡ cost_in state link.from + link.cost = step.cost in
    let cost_from : cost_in state second.from ≡ cost_in state n = ap (cost_in state) at in
    let goal : cost_in state second.to ≤ cost_in state second.from + second.cost = elim known [
      | inl back ↦ (let cost_to : cost_in state second.to ≡ cost_in state link.from = ap (cost_in state) back in omega arith)
      | inr (across, there, from, to, via) ↦
          (let (is_across, cheap) = detours link second across step.is is (at ∙ sym step.to) same unit there from to (via ∙ same) in
          let low : cost_in state across.to ≤ cost_in state across.from + across.cost = relaxed across is_across from in
          let cost_to : cost_in state across.to ≡ cost_in state second.to = ap (cost_in state) to in
          let cost_a : cost_in state across.from ≡ cost_in state link.from = ap (cost_in state) from in
          omega (arith, cheap))
    ] in
    goal

-- ---- links of one stretch

-- the links of a stretch that is passed over can't be passed
pub passed_over : (given : Network) (IsLink : Link → Type 0) (nodes node : ℕ) (stretch : Stretch) (state : State) → AreStretches given node → Contains (given.stretches node) stretch
    → IsAmid given IsLink nodes node state → IsPassedOver given IsLink stretch.way → IsScanned given IsLink nodes node stretch.first stretch.count state state
passed_over given IsLink nodes node stretch state are one amid over =
    passed given IsLink nodes node stretch.first stretch.count state amid (λ place second low high here is. absurd (over second (are.of_way stretch place second one low high here) is))

-- from where links of a stretch may be known
abbrev pub AreStarts : State → ℕ → Way → Option ℕ → Type 0
AreStarts state node way known = (a : ℕ) → known ≡ Some a → IsKnownStart (last_in state node).by way a

known_by : (given : Network) (known : Option ℕ) (second : Link) → IsKnown given known second → (a : ℕ) × (known ≡ Some a) × IsKnownFrom given a second
known_by given None second never = absurd never
known_by given (Some a) second is = (a, refl, is)

link_across : (given : Network) (way : Way) (a : ℕ) (link : Link) → Contains given.links link → link.from ≡ a → IsAcross link.via way → HasLinkAcross given way (Some a)
link_across given (Inside via kind restricted) a link there from across = (link, there, from, sym across)
link_across given Between a link there from never = absurd never

-- the links of a stretch that are known from the start of the last link are relaxed
module _ (given : Network) (IsLink : Link → Type 0) (nodes node : ℕ) (stretch : Stretch) (state : State) (amid : IsAmid given IsLink nodes node state) where
  step_of : (link : Link) → (last_in state node).by ≡ Some link → IsStep IsLink state node link
  step_of link is = subst (λ (o : Option Link). ComesBy IsLink state node o) is (amid.tree.comes node amid.known)

  -- where something is known there is a link from there
  pub start_across : (there : (link : Link) → IsLink link → Contains given.links link) (known : Option ℕ) → AreStarts state node stretch.way known → HasLinkAcross given stretch.way known
  start_across there None starts = tt
  start_across there (Some a) starts =
      let start = starts a refl in
      link_across given stretch.way a start.link (there start.link (step_of start.link start.by).is) start.from start.across

  module _ (detours : HasDetours given IsLink) (apart : (link : Link) → IsLink link → link.from ≢ link.to) (known : Option ℕ) (starts : AreStarts state node stretch.way known)
      (are : AreStretches given node) (one : Contains (given.stretches node) stretch) where
    relaxed_behind : (link : Link) → IsStep IsLink state node link → IsRelaxedFrom IsLink state link.from
    relaxed_behind link step = amid.done link.from (λ same. apart link step.is (same ∙ sym step.to)) step.done

    relaxed_one : (place : ℕ) (second : Link) → stretch.first ≤ place → place < stretch.first + stretch.count → slice_get (links_out given node) place ≡ Some second → IsLink second
        → IsKnown given known second → IsRelaxed state.costs.items second
    relaxed_one place second low high here is is_known =
        let (a, known_is, from_a) = known_by given known second is_known in
        let start = starts a known_is in
        let step = step_of start.link start.by in
        let (same, unit) = across_way given start.link.via stretch.way second start.across (are.of_way stretch place second one low high here) in
        detour_relaxed given IsLink state node start.link second detours step (relaxed_behind start.link step) is (out_from given node place second here) same unit
        (subst (λ (k : ℕ). IsKnownFrom given k second) (sym start.from) from_a)

    -- those at so many places from one on, where they lie in front of what was found
    pub passed_known : (place more : ℕ) (found : Option NewLink) → stretch.first ≤ place → place + more ≤ stretch.first + stretch.count
        → ((p : ℕ) → place ≤ p → p < place + more → IsInFront stretch found p) → AreKnown given node stretch known place found → IsScanned given IsLink nodes node place more state state
    passed_known place more found low high front are_known = passed given IsLink nodes node place more state amid
        (λ p second low_p high_p here is. relaxed_one p second (omega arith) (omega arith) here is (are_known p second low_p (front p low_p high_p) here))
