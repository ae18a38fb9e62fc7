-- The links by a unit's number are those inside it.
use Rattle.std.proofs.Common.{◌≡◌, ℕ, ◌+◌, length, Some, refl, sym, ap, ◌∙◌, subst, inl, inr, arith}
use Rattle.std.specs.Prelude.{Contains, slice_get}
use Rattle.std.proofs.lemmas.Option.{slice_get_within, same_Some}
use Rattle.venue_types.specs.declared.features.Features.{Features}
use Rattle.venue_types.specs.declared.features.UnitRow.{UnitRow}
use Rattle.venue_types.specs.declared.kind.Kind.{Kind}
use Rattle.venue_types.specs.declared.link.Link.{Link}
use Rattle.venue_types.specs.declared.settings.Settings.{Settings}
use Rattle.imdf_access.specs.Categories.{unit_kind_of}
use Rattle.link_graph.specs.Links.{first_unit, links, way}
use Rattle.link_graph.specs.Usable.{IsUnitBy}
use Rattle.link_graph.specs.Inside.{GoesInside}
use Rattle.link_graph.proofs.Sorts.{IsInside, link_sort, inside_there}

-- a link that is made of its ends goes inside
made_inside : (features : Features) (settings : Settings) (u : UnitRow) (k : ℕ) (link : Link) (h : IsInside features settings link) → h.u ≡ u → GoesInside features settings u link
made_inside features settings u k link h e =
    subst (λ v. GoesInside features settings v link) e (subst (GoesInside features settings h.u) h.is (record {
      walked = h.walked;
      start = h.start;
      finish = h.finish;
      joined = h.joined;
      cost = refl;
      kind = refl;
    }))

-- the unit of a number is one
same_unit : (features : Features) (via : ℕ) (k j : ℕ) (u v : UnitRow) → via ≡ first_unit features + k → via ≡ first_unit features + j → slice_get features.units k ≡ Some u → slice_get features.units j ≡ Some v → v ≡ u
same_unit features via k j u v e f h i =
    let same : j ≡ k = omega (arith, e, f) in
    same_Some v u (sym i ∙ ap (slice_get features.units) same ∙ h)

pub unit_link : (features : Features) (settings : Settings) (link : Link) (u : UnitRow) → IsUnitBy features link.via u → Contains (links features settings) link → GoesInside features settings u link
unit_link features settings link u by h = elim (link_sort features settings link h) [
  | inl inside ↦
      let via : link.via ≡ first_unit features + inside.k = ap (λ (l : Link). l.via) (sym inside.is) in
      made_inside features settings u inside.k link inside (same_unit features link.via by.0 inside.k u inside.u by.1 via by.2 inside.there)
  | inr passage ↦
      let via : link.via ≡ length features.openings + passage.k = ap (λ (l : Link). l.via) (sym passage.between.is) in
      let within = slice_get_within features.relationships passage.k passage.row passage.there in
      let unit : link.via ≡ length features.openings + length features.relationships + by.0 = by.1 in
      absurd (omega (arith, via, within, unit))
]

-- a link by its five parts
abbrev link_of : ℕ → ℕ → ℕ → ℕ → Kind → Link
link_of a b via cost kind = record { from = a; to = b; via = via; cost = cost; kind = kind }

parts_same : (a b via via' cost cost' : ℕ) (kind kind' : Kind) → via ≡ via' → cost ≡ cost' → kind ≡ kind' → link_of a b via cost kind ≡ link_of a b via' cost' kind'
parts_same a b via via' cost cost' kind kind' e f g = rw (e, f, g) refl

pub link_there : (features : Features) (settings : Settings) (link : Link) (u : UnitRow) → IsUnitBy features link.via u → GoesInside features settings u link → Contains (links features settings) link
link_there features settings link u by h = inside_there features settings link (record {
  k = by.0;
  u = u;
  a = link.from;
  b = link.to;
  there = by.2;
  walked = h.walked;
  start = h.start;
  finish = h.finish;
  joined = h.joined;
  is = parts_same link.from link.to (first_unit features + by.0) link.via (way features settings link.from link.to) link.cost (unit_kind_of u.category) link.kind (sym by.1) (sym h.cost) (sym h.kind);
})
