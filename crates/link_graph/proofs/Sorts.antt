-- Each link goes inside a unit or by a relationship.
use Rattle.std.proofs.Common.{◌≡◌, ℕ, ◌+◌, IsTrue, length, map, filter, flat_map, Some, refl, sym, ap, ◌∙◌, subst, ◌⊎◌, inl, inr}
use Rattle.std.specs.Prelude.{Contains, slice_get}
use Rattle.std.specs.List.{enumerate_from}
use Rattle.std.proofs.lemmas.List.Elements.{Contains-append_left, Contains-append_cases}
use Rattle.venue_types.specs.declared.features.Features.{Features}
use Rattle.venue_types.specs.declared.features.UnitRow.{UnitRow}
use Rattle.venue_types.specs.declared.link.Link.{Link}
use Rattle.venue_types.specs.declared.settings.Settings.{Settings}
use Rattle.venue_nodes.specs.Members.{members}
use Rattle.venue_nodes.proofs.Judged.{Contains-map}
use Rattle.venue_nodes.proofs.Spread.{from_map}
use Rattle.link_graph.specs.Links.{are_joined, inside_link, links_from, first_unit, has_links, unit_links, relationship_links, links}
use Rattle.link_graph.proofs.Passages.{IsPassage, of_relationship}
use Rattle.link_graph.proofs.Items.{from_flat_map, to_flat_map, from_enumerate, to_enumerate, from_then, to_then, from_filter, to_filter}

-- ---- inside a unit

-- the link leads from member to member of the unit with this index
pub record IsInside (features : Features) (settings : Settings) (link : Link) : Type 0 where
  pub k : ℕ
  pub u : UnitRow
  pub a : ℕ
  pub b : ℕ
  pub there : slice_get features.units k ≡ Some u
  pub walked : IsTrue (has_links u)
  pub start : Contains (members features settings u) a
  pub finish : Contains (members features settings u) b
  pub joined : IsTrue (are_joined features settings u a b)
  pub is : inside_link features settings (first_unit features + k) u a b ≡ link

of_unit : (features : Features) (settings : Settings) (row : ℕ × UnitRow) (k : ℕ) (link : Link) → slice_get features.units k ≡ Some row.1 → row.0 ≡ first_unit features + k → Contains (unit_links features settings row) link → IsInside features settings link
of_unit features settings row k link there e h =
    let standing = members features settings row.1 in
    let some = from_then (has_links row.1) (flat_map (links_from features settings row.0 row.1) standing) link h in
    let first = from_flat_map (links_from features settings row.0 row.1) standing link some.1 in
    let second = from_map (inside_link features settings row.0 row.1 first.0) (filter (are_joined features settings row.1 first.0) standing) link first.2 in
    let kept = from_filter (are_joined features settings row.1 first.0) standing second.0 second.1 in
    record {
      k = k;
      u = row.1;
      a = first.0;
      b = second.0;
      there = there;
      walked = some.0;
      start = first.1;
      finish = kept.0;
      joined = kept.1;
      is = ap (λ via. inside_link features settings via row.1 first.0 second.0) (sym e) ∙ second.2;
    }

pub inside_there : (features : Features) (settings : Settings) (link : Link) → IsInside features settings link → Contains (links features settings) link
unfolding links
inside_there features settings link h =
    let via = first_unit features + h.k in
    let standing = members features settings h.u in
    let made = inside_link features settings via h.u h.a in
    let others = filter (are_joined features settings h.u h.a) standing in
    let from_start : Contains (links_from features settings via h.u h.a) link =
    subst (λ l. Contains (map made others) l) h.is (Contains-map made others h.b (to_filter (are_joined features settings h.u h.a) standing h.b h.finish h.joined)) in
    let of_members = to_flat_map (links_from features settings via h.u) standing h.a link h.start from_start in
    let of_row = to_then (has_links h.u) (flat_map (links_from features settings via h.u) standing) link h.walked of_members in
    Contains-append_left
    (flat_map (unit_links features settings) (enumerate_from (first_unit features) features.units))
    (flat_map (relationship_links features settings) (enumerate_from (length features.openings) features.relationships))
    link
    (to_flat_map (unit_links features settings) (enumerate_from (first_unit features) features.units) (via, h.u) link (to_enumerate (first_unit features) features.units h.k h.u via refl h.there) of_row)

-- ---- all links

pub link_sort : (features : Features) (settings : Settings) (link : Link) → Contains (links features settings) link → IsInside features settings link ⊎ IsPassage features settings link
unfolding links
link_sort features settings link h =
    let units = enumerate_from (first_unit features) features.units in
    let relationships = enumerate_from (length features.openings) features.relationships in
    elim (Contains-append_cases (flat_map (unit_links features settings) units) (flat_map (relationship_links features settings) relationships) link h) [
      | inl here ↦
          let row = from_flat_map (unit_links features settings) units link here in
          let at = from_enumerate (first_unit features) features.units row.0 row.1 in
          inl (of_unit features settings row.0 at.0 link at.1 at.2 row.2)
      | inr there ↦
          let row = from_flat_map (relationship_links features settings) relationships link there in
          let at = from_enumerate (length features.openings) features.relationships row.0 row.1 in
          inr (of_relationship features settings row.0 at.0 link at.1 at.2 row.2)
    ]
