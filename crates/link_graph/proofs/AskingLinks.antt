-- Each link that a graph means goes across the unit of a row, or is one of those by relationships.
use Rattle.std.proofs.Common.{◌≡◌, ℕ, zero, suc, IsTrue, List, [], ◌∷◌, map, filter, flat_map, Some, None, refl, sym, subst, ◌⊎◌, inl, inr}
use Rattle.std.specs.Prelude.{Contains, slice_get}
use Rattle.std.proofs.lemmas.List.Elements.{Contains-append_left, Contains-append_right, Contains-append_cases}
use Rattle.std.proofs.lemmas.Option.{same_Some}
use Rattle.venue_types.specs.declared.kind.Kind.{Kind}
use Rattle.venue_types.specs.declared.link.Link.{Link}
use Rattle.rule_reports.proofs.Members.{Contains-nil}
use Rattle.venue_nodes.specs.Rows.{row_list}
use Rattle.venue_nodes.proofs.Judged.{Contains-map}
use Rattle.venue_nodes.proofs.Spread.{from_map}
use Rattle.link_graph.specs.declared.parts.Core.{Core}
use Rattle.link_graph.specs.declared.parts.Crossing.{Crossing}
use Rattle.link_graph.specs.Cores.{way_in, joined_in, link_across, links_across_from, links_across, links_across_all, links_in}
use Rattle.link_graph.proofs.Items.{from_flat_map, to_flat_map, from_then, to_then, from_filter, to_filter}

-- one walks through the unit of the row, and the link leads from one of its members to another, as far as the way is and of the unit's kind
pub record GoesAcross (core : Core) (crossing : Crossing) (row : List ℕ) (link : Link) : Type 0 where
  pub walked : IsTrue crossing.walked
  pub start : Contains row link.from
  pub finish : Contains row link.to
  pub joined : IsTrue (joined_in crossing row link.from link.to)
  pub via : crossing.via ≡ link.via
  pub cost : way_in core link.from link.to ≡ link.cost
  pub kind : crossing.kind ≡ link.kind

-- the link goes across the unit of the row of this number
pub record IsByRow (core : Core) (crossings : List Crossing) (rows : List (List ℕ)) (link : Link) : Type 0 where
  pub k : ℕ
  pub crossing : Crossing
  pub row : List ℕ
  pub unit : slice_get crossings k ≡ Some crossing
  pub there : slice_get rows k ≡ Some row
  pub goes : GoesAcross core crossing row link

-- ---- across one unit

pub goes_across : (core : Core) (crossing : Crossing) (row : List ℕ) (link : Link) → Contains (links_across core crossing row) link → GoesAcross core crossing row link
goes_across core crossing row link h =
    let some = from_then crossing.walked (flat_map (links_across_from core crossing row) row) link h in
    let first = from_flat_map (links_across_from core crossing row) row link some.1 in
    let second = from_map (link_across core crossing first.0) (filter (joined_in crossing row first.0) row) link first.2 in
    let kept = from_filter (joined_in crossing row first.0) row second.0 second.1 in
    subst (GoesAcross core crossing row) second.2 (record {
      walked = some.0;
      start = first.1;
      finish = kept.0;
      joined = kept.1;
      via = refl;
      cost = refl;
      kind = refl;
    })

-- a link by its five parts
abbrev link_of : ℕ → ℕ → ℕ → ℕ → Kind → Link
link_of a b via cost kind = record { from = a; to = b; via = via; cost = cost; kind = kind }

parts_same : (a b via via' cost cost' : ℕ) (kind kind' : Kind) → via ≡ via' → cost ≡ cost' → kind ≡ kind' → link_of a b via cost kind ≡ link_of a b via' cost' kind'
parts_same a b via via' cost cost' kind kind' e f g = rw (e, f, g) refl

pub across_goes : (core : Core) (crossing : Crossing) (row : List ℕ) (link : Link) → GoesAcross core crossing row link → Contains (links_across core crossing row) link
across_goes core crossing row link h =
    let made = link_across core crossing link.from in
    let others = filter (joined_in crossing row link.from) row in
    let is : made link.to ≡ link = parts_same link.from link.to crossing.via link.via (way_in core link.from link.to) link.cost crossing.kind link.kind h.via h.cost h.kind in
    let kept = to_filter (joined_in crossing row link.from) row link.to h.finish h.joined in
    let from_start : Contains (links_across_from core crossing row link.from) link = subst (λ (l : Link). Contains (map made others) l) is (Contains-map made others link.to kept) in
    to_then crossing.walked (flat_map (links_across_from core crossing row) row) link h.walked (to_flat_map (links_across_from core crossing row) row link.from link h.start from_start)

-- ---- across all units

later : (core : Core) (c : Crossing) (cs : List Crossing) (r : List ℕ) (rs : List (List ℕ)) (link : Link) → IsByRow core cs rs link → IsByRow core (c ∷ cs) (r ∷ rs) link
later core c cs r rs link h = record { k = suc h.k; crossing = h.crossing; row = h.row; unit = h.unit; there = h.there; goes = h.goes }

pub by_row : (core : Core) (crossings : List Crossing) (rows : List (List ℕ)) (link : Link) → Contains (links_across_all core crossings rows) link → IsByRow core crossings rows link
by_row core [] rows link h = absurd (Contains-nil link h)
by_row core (c ∷ cs) [] link h = absurd (Contains-nil link h)
by_row core (c ∷ cs) (r ∷ rs) link h = elim (Contains-append_cases (links_across core c r) (links_across_all core cs rs) link h) [
  | inl here ↦ record { k = 0; crossing = c; row = r; unit = refl; there = refl; goes = goes_across core c r link here }
  | inr behind ↦ later core c cs r rs link (by_row core cs rs link behind)
]

pub row_there : (core : Core) (crossings : List Crossing) (rows : List (List ℕ)) (k : ℕ) (crossing : Crossing) (row : List ℕ) (link : Link) → slice_get crossings k ≡ Some crossing → slice_get rows k ≡ Some row → GoesAcross core crossing row link
    → Contains (links_across_all core crossings rows) link
row_there core [] rows k crossing row link e f h = absurd (let no : None ≡ Some crossing = e in cc)
row_there core (c ∷ cs) [] k crossing row link e f h = absurd (let no : None ≡ Some row = f in cc)
row_there core (c ∷ cs) (r ∷ rs) zero crossing row link e f h =
    let moved = subst (λ (d : Crossing). GoesAcross core d row link) (sym (same_Some c crossing e)) h in
    let here = subst (λ (q : List ℕ). GoesAcross core c q link) (sym (same_Some r row f)) moved in
    Contains-append_left (links_across core c r) (links_across_all core cs rs) link (across_goes core c r link here)
row_there core (c ∷ cs) (r ∷ rs) (suc k) crossing row link e f h =
    Contains-append_right (links_across core c r) (links_across_all core cs rs) link (row_there core cs rs k crossing row link e f h)

-- ---- all links

pub link_sort : (core : Core) (link : Link) → Contains (links_in core) link → IsByRow core core.crossings.items (row_list core.rows) link ⊎ Contains core.passages.items link
unfolding links_in
link_sort core link h = elim (Contains-append_cases (links_across_all core core.crossings.items (row_list core.rows)) core.passages.items link h) [
  | inl here ↦ inl (by_row core core.crossings.items (row_list core.rows) link here)
  | inr there ↦ inr there
]

pub across_there : (core : Core) (link : Link) → IsByRow core core.crossings.items (row_list core.rows) link → Contains (links_in core) link
unfolding links_in
across_there core link h =
    Contains-append_left (links_across_all core core.crossings.items (row_list core.rows)) core.passages.items link
    (row_there core core.crossings.items (row_list core.rows) h.k h.crossing h.row link h.unit h.there h.goes)
