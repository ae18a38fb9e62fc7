-- The links by relationships: each leads from a node to another.
use Rattle.std.proofs.Common.{◌≡◌, ◌≢◌, false, true≢false, eq-eqb, ℕ, ◌+◌, ◌<◌, ◌==◌, Bool, cond, List, [], ◌∷◌, length, Option, Some, None, sym, ◌∙◌, subst, inl, inr}
use Rattle.std.specs.Prelude.{Contains, slice_get}
use Rattle.std.proofs.lemmas.List.Elements.{Contains-append_cases}
use Rattle.venue_types.specs.declared.features.Features.{Features}
use Rattle.venue_types.specs.declared.features.RelationshipRow.{RelationshipRow}
use Rattle.venue_types.specs.declared.kind.Kind.{Kind}
use Rattle.venue_types.specs.declared.link.Link.{Link}
use Rattle.venue_types.specs.declared.settings.Settings.{Settings}
use Rattle.rule_reports.proofs.Members.{Contains-nil, Contains-only, Contains-first, Contains-later, Contains-cons_cases}
use Rattle.venue_nodes.specs.Nodes.{nodes, place_of}
use Rattle.venue_nodes.specs.Unplaced.{Element, elements}
use Rattle.venue_nodes.proofs.Items.{at_member, given_from}
use Rattle.venue_nodes.proofs.Placed.{place_within}
use Rattle.link_graph.specs.Links.{chain, passage_link, pair_links, chain_links, whole_chain_links, relationship_links}
use Rattle.link_graph.proofs.Items.{from_else}

apart_from : (a b : ℕ) → (a == b) ≡ false → a ≢ b
apart_from a b h e = true≢false (sym (eq-eqb a b e) ∙ h)

-- the link leads by this way from a number below the bound to another
pub record IsBetween (features : Features) (settings : Settings) (via : ℕ) (kind : Kind) (bound : ℕ) (link : Link) : Type 0 where
  pub a : ℕ
  pub b : ℕ
  pub start : a < bound
  pub finish : b < bound
  pub apart : a ≢ b
  pub is : passage_link features settings via kind a b ≡ link

abbrev back_links : Bool → Link → List Link
back_links directed link = cond directed [] (link ∷ [])

of_pair : (features : Features) (settings : Settings) (via : ℕ) (kind : Kind) (directed : Bool) (bound a b : ℕ) (link : Link) → a < bound → b < bound → Contains (pair_links features settings via kind directed a b) link → IsBetween features settings via kind bound link
of_pair features settings via kind directed bound a b link h k there =
    let back = back_links directed (passage_link features settings via kind b a) in
    let some = from_else (a == b) (passage_link features settings via kind a b ∷ back) link there in
    elim (Contains-cons_cases (passage_link features settings via kind a b) back link some.1) [
      | inl here ↦ record { a = a; b = b; start = h; finish = k; apart = apart_from a b some.0; is = here }
      | inr behind ↦ record {
        a = b;
        b = a;
        start = k;
        finish = h;
        apart = λ e. apart_from a b some.0 (sym e);
        is = Contains-only (passage_link features settings via kind b a) link (from_else directed (passage_link features settings via kind b a ∷ []) link behind).1;
      }
    ]

of_chain : (features : Features) (settings : Settings) (via : ℕ) (kind : Kind) (directed : Bool) (bound a : ℕ) (rest : List ℕ) (link : Link) → a < bound → ((c : ℕ) → Contains rest c → c < bound) → Contains (chain_links features settings via kind directed a rest) link → IsBetween features settings via kind bound link
of_chain features settings via kind directed bound a [] link h k there = absurd (Contains-nil link there)
of_chain features settings via kind directed bound a (b ∷ rest) link h k there =
    let next = k b (Contains-first b rest) in
    elim (Contains-append_cases (pair_links features settings via kind directed a b) (chain_links features settings via kind directed b rest) link there) [
      | inl here ↦ of_pair features settings via kind directed bound a b link h next here
      | inr behind ↦ of_chain features settings via kind directed bound b rest link next (λ c s. k c (Contains-later b rest c s)) behind
    ]

of_whole_chain : (features : Features) (settings : Settings) (via : ℕ) (kind : Kind) (directed : Bool) (bound : ℕ) (all : List ℕ) (link : Link) → ((c : ℕ) → Contains all c → c < bound) → Contains (whole_chain_links features settings via kind directed all) link → IsBetween features settings via kind bound link
of_whole_chain features settings via kind directed bound [] link k there = absurd (Contains-nil link there)
of_whole_chain features settings via kind directed bound (a ∷ rest) link k there =
    of_chain features settings via kind directed bound a rest link (k a (Contains-first a rest)) (λ c s. k c (Contains-later a rest c s)) there

pub chain_within : (features : Features) (settings : Settings) (row : RelationshipRow) (c : ℕ) → Contains (chain features row) c → c < length (nodes features settings)
chain_within features settings row c h =
    let place = λ (e : Element). place_of features e.reference.id in
    let at = at_member (chain features row) c h in
    let given = given_from place (elements row) at.0 c at.1 in
    place_within features settings given.x.reference.id c given.gives

-- the link leads by the relationship with this index from node to node
pub record IsPassage (features : Features) (settings : Settings) (link : Link) : Type 0 where
  pub k : ℕ
  pub row : RelationshipRow
  pub kind : Kind
  pub there : slice_get features.relationships k ≡ Some row
  pub between : IsBetween features settings (length features.openings + k) kind (length (nodes features settings)) link

abbrev links_by : Features → Settings → (ℕ × RelationshipRow) → Option Kind → List Link
links_by features settings row kind = elim kind [
  | None ↦ []
  | Some kind ↦ whole_chain_links features settings row.0 kind row.1.directed (chain features row.1)
]

of_kind : (features : Features) (settings : Settings) (row : ℕ × RelationshipRow) (kind : Option Kind) (k : ℕ) (link : Link) → slice_get features.relationships k ≡ Some row.1 → row.0 ≡ length features.openings + k → Contains (links_by features settings row kind) link → IsPassage features settings link
of_kind features settings row None k link there e h = absurd (Contains-nil link h)
of_kind features settings row (Some kind) k link there e h =
    let between = of_whole_chain features settings row.0 kind row.1.directed (length (nodes features settings)) (chain features row.1) link (chain_within features settings row.1) h in
    record { k = k; row = row.1; kind = kind; there = there; between = subst (λ via. IsBetween features settings via kind (length (nodes features settings)) link) e between }

pub of_relationship : (features : Features) (settings : Settings) (row : ℕ × RelationshipRow) (k : ℕ) (link : Link) → slice_get features.relationships k ≡ Some row.1 → row.0 ≡ length features.openings + k → Contains (relationship_links features settings row) link → IsPassage features settings link
of_relationship features settings row k link there e h = of_kind features settings row row.1.kind k link there e h
