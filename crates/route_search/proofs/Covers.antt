-- Stretches and places of the links out of a node.
use Rattle.std.proofs.Common.{◌≡◌, ℕ, suc, ◌+◌, ◌<◌, ◌≤◌, Bool, true, false, cond, List, [], ◌∷◌, length, filter, ◌↔◌, Some, None, IsTrue, refl, subst, ◌∙◌, arith, inl, inr}
use Rattle.std.specs.Prelude.{Contains, slice_get, ◌==◌}
use Rattle.std.proofs.lemmas.Bool.{cases_lt}
use Rattle.std.proofs.lemmas.Bool.Decides.{nat_tests}
use Rattle.std.proofs.lemmas.Option.{slice_get_within}
use Rattle.venue_types.proofs.Items.{member_at}
use Rattle.route_search.proofs.Items.{from_filter}
use Rattle.venue_types.specs.declared.link.Link.{Link}
use Rattle.link_graph.specs.declared.stretches.Stretch.{Stretch}
use Rattle.link_graph.specs.declared.stretches.Way.{Way}
use Rattle.link_graph.specs.declared.stretches.Way.TheVariants.{Inside, Between}
use Rattle.link_graph.specs.Networks.{Network, Follow, GoesBy, AreStretches, links_out}
use Rattle.link_graph.specs.Detours.{AreKnown}
use Rattle.route_search.specs.Scans.{IsAcross, IsOwn, IsQuiet}

-- ---- stretches

pub follow_end : (at end : ℕ) (stretches : List Stretch) → Follow at end stretches → at ≤ end
follow_end at end [] same = omega (arith, same)
follow_end at end (stretch ∷ rest) (first, more) = let on = follow_end (at + stretch.count) end rest more in omega arith

-- each place stands in a stretch
pub covered : (at end place : ℕ) (stretches : List Stretch) → Follow at end stretches → at ≤ place → place < end
    → (k : ℕ) × (stretch : Stretch) × (slice_get stretches k ≡ Some stretch) × (stretch.first ≤ place) × (place < stretch.first + stretch.count)
covered at end place [] same low high = absurd (omega (arith, same))
covered at end place (stretch ∷ rest) (first, more) low high = elim (cases_lt place (at + stretch.count)) [
  | inl here ↦ (0, stretch, refl, omega (arith, first), omega (arith, first))
  | inr past ↦ (let (k, s, is, from, to) = covered (at + stretch.count) end place rest more past high in (suc k, s, is, from, to))
]

-- ---- links out of a node

pub out_member : (given : Network) (n place : ℕ) (link : Link) → slice_get (links_out given n) place ≡ Some link → Contains given.links link × IsTrue (link.from == n)
out_member given n place link is = from_filter (λ (l : Link). l.from == n) given.links link (member_at (links_out given n) place link is)

pub out_from : (given : Network) (n place : ℕ) (link : Link) → slice_get (links_out given n) place ≡ Some link → link.from ≡ n
out_from given n place link is = let t = (out_member given n place link is).1 in grind (arith, nat_tests)

-- where a link is of the network, its place among those out of its start
pub out_place : (given : Network) (n : ℕ) (link : Link) → (Contains given.links link ↔ (link.from < length given.nodes) × (place : ℕ) × (slice_get (links_out given link.from) place ≡ Some link))
    → Contains given.links link → link.from ≡ n → (place : ℕ) × (slice_get (links_out given n) place ≡ Some link)
out_place given n link member is at = let (low, place, here) = member.0 is in (place, subst (λ (k : ℕ). slice_get (links_out given k) place ≡ Some link) at here)

-- ---- quiet nodes

-- a link that goes a way across a unit goes by its number, and that is a unit's
pub across_way : (given : Network) (via : ℕ) (way : Way) (link : Link) → IsAcross via way → GoesBy given way link → (link.via ≡ via) × (given.first_unit ≤ via)
across_way given via (Inside own kind restricted) link same goes = (goes.0 ∙ same, subst (λ (k : ℕ). given.first_unit ≤ k) same goes.3)
across_way given via Between link never goes = absurd never

-- a stretch across the unit of which all is known
pub own_known : (given : Network) (via a n : ℕ) (stretch : Stretch) → AreStretches given n → Contains (given.stretches n) stretch → IsAcross via stretch.way
    → AreKnown given n stretch (Some a) stretch.first None → IsOwn given via a n stretch
own_known given via a n stretch are one across known place link low high here =
    let (same, unit) = across_way given via stretch.way link across (are.of_way stretch place link one low high here) in
    (same, unit, known place link low (low, high) here)

-- a stretch without links
pub own_empty : (given : Network) (via a n : ℕ) (stretch : Stretch) → stretch.count ≡ 0 → IsOwn given via a n stretch
own_empty given via a n stretch none place link low high here = absurd (omega (arith, none))

pub quiet : (given : Network) (via a n : ℕ) → AreStretches given n
    → ((link : Link) → Contains given.links link ↔ (link.from < length given.nodes) × (place : ℕ) × (slice_get (links_out given link.from) place ≡ Some link))
    → ((j : ℕ) (stretch : Stretch) → slice_get (given.stretches n) j ≡ Some stretch → IsOwn given via a n stretch) → IsQuiet given via a n
quiet given via a n are member own link is at =
    let (place, here) = out_place given n link (member link) is at in
    let within = slice_get_within (links_out given n) place link here in
    let (k, stretch, is_k, first, last) = covered 0 (length (links_out given n)) place (given.stretches n) are.cover (omega arith) within in
    own k stretch is_k place link first last here

-- ---- how many links leave a node

kept_few_one : {X : Type 0} (b : Bool) (x : X) (kept : List X) (n : ℕ) → length kept ≤ n → length (cond b (x ∷ kept) kept) ≤ suc n
kept_few_one true x kept n low = omega arith
kept_few_one false x kept n low = omega arith

kept_few : {X : Type 0} (test : X → Bool) (xs : List X) → length (filter test xs) ≤ length xs
kept_few test [] = omega arith
kept_few test (x ∷ xs) = kept_few_one (test x) x (filter test xs) (length xs) (kept_few test xs)

pub out_few : (given : Network) (n : ℕ) → length (links_out given n) ≤ length given.links
out_few given n = kept_few (λ (l : Link). l.from == n) given.links
