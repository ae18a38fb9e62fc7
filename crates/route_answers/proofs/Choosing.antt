-- The rows of the links that a profile allows, by the members that it passes.
use Rattle.std.proofs.Common.{◌≡◌, ℕ, Bool, true, false, ◌&&◌, cond, List, [], ◌∷◌, ◌++◌, map, filter, flat_map, refl, sym, ap, ◌∙◌}
use Rattle.std.proofs.lemmas.List.{map-append}
use Rattle.std.proofs.lemmas.List.Elements.{filter-append}
use Rattle.venue_types.specs.declared.link.Link.{Link}
use Rattle.venue_types.specs.declared.settings.Profile.{Profile}
use Rattle.link_graph.specs.declared.areas.Area.{Area}
use Rattle.link_graph.specs.declared.graph.Graph.{Graph}
use Rattle.link_graph.specs.Areas.{IsWholeAcross, area_links, inside_area, joined_across}
use Rattle.link_graph.specs.Graphs.{network}
use Rattle.route_answers.specs.Passing.{other_than}
use Rattle.link_graph.specs.Networks.{Network}
use Rattle.link_graph.proofs.AreaLinks.{whole_links}
use Rattle.route_certificate.specs.declared.table.TableLink.{TableLink}
use Rattle.route_answers.specs.Adding.{pair_row, rows_from}
use Rattle.route_answers.specs.Passing.{passes_by, passes_node, passes_link, link_row, rows_of}
use Rattle.route_answers.proofs.Judging.{PartsLaw, link_passes}

-- ---- what is chosen and mapped, of lists joined

chosen_joined : (r : Link → TableLink) (t : Link → Bool) (xs ys : List Link) → map r (filter t (xs ++ ys)) ≡ map r (filter t xs) ++ map r (filter t ys)
chosen_joined r t xs ys = ap (λ (links : List Link). map r links) (filter-append t xs ys) ∙ map-append r (filter t xs) (filter t ys)

pub rows_joined : (given : Network) (profile : Profile) (xs ys : List Link) → rows_of given profile (xs ++ ys) ≡ rows_of given profile xs ++ rows_of given profile ys
unfolding rows_of
rows_joined given profile xs ys = chosen_joined (link_row given) (passes_link given profile) xs ys

-- ---- from one member

-- one member more
from_step : (mk : ℕ → Link) (r : Link → TableLink) (t : Link → Bool) (j : ℕ → Bool) (x : ℕ) (ys zs : List ℕ) (e d : Bool) → j x ≡ e → t (mk x) ≡ d
    → map r (filter t (map mk ys)) ≡ map (λ (b : ℕ). r (mk b)) (filter j zs)
    → map r (filter t (map mk (cond e (x ∷ ys) ys))) ≡ map (λ (b : ℕ). r (mk b)) (filter j (cond d (x ∷ zs) zs))
from_step mk r t j x ys zs true true jx tx rest =
    ap (λ (v : Bool). map r (cond v (mk x ∷ filter t (map mk ys)) (filter t (map mk ys)))) tx
    ∙ ap (λ (rows : List TableLink). r (mk x) ∷ rows) rest
    ∙ sym (ap (λ (v : Bool). map (λ (b : ℕ). r (mk b)) (cond v (x ∷ filter j zs) (filter j zs))) jx)
from_step mk r t j x ys zs true false jx tx rest = ap (λ (v : Bool). map r (cond v (mk x ∷ filter t (map mk ys)) (filter t (map mk ys)))) tx ∙ rest
from_step mk r t j x ys zs false true jx tx rest = rest ∙ sym (ap (λ (v : Bool). map (λ (b : ℕ). r (mk b)) (cond v (x ∷ filter j zs) (filter j zs))) jx)
from_step mk r t j x ys zs false false jx tx rest = rest

-- the links to those that pass, where the test is that of their ends
pub from_one : (mk : ℕ → Link) (r : Link → TableLink) (t : Link → Bool) (j ok : ℕ → Bool) → ((b : ℕ) → t (mk b) ≡ ok b) → (xs : List ℕ)
    → map r (filter t (map mk (filter j xs))) ≡ map (λ (b : ℕ). r (mk b)) (filter j (filter ok xs))
from_one mk r t j ok same [] = refl
from_one mk r t j ok same (x ∷ xs) = from_step mk r t j x (filter j xs) (filter ok xs) (j x) (ok x) refl (same x) (from_one mk r t j ok same xs)

-- none, where none passes
pub from_none : (mk : ℕ → Link) (r : Link → TableLink) (t : Link → Bool) → ((b : ℕ) → t (mk b) ≡ false) → (ys : List ℕ) → map r (filter t (map mk ys)) ≡ []
from_none mk r t fail [] = refl
from_none mk r t fail (y ∷ ys) = ap (λ (v : Bool). map r (cond v (mk y ∷ filter t (map mk ys)) (filter t (map mk ys)))) (fail y) ∙ from_none mk r t fail ys

-- ---- from all

all_step : (h : ℕ → List TableLink) (ok : ℕ → Bool) (x : ℕ) (ys : List ℕ) (piece : List TableLink) (b : Bool) → ok x ≡ b → (ok x ≡ true → piece ≡ h x) → (ok x ≡ false → piece ≡ []) → piece ++ flat_map h ys ≡ flat_map h (cond b (x ∷ ys) ys)
all_step h ok x ys piece true e pass fail = ap (λ (rows : List TableLink). rows ++ flat_map h ys) (pass e)
all_step h ok x ys piece false e pass fail = ap (λ (rows : List TableLink). rows ++ flat_map h ys) (fail e)

pub from_all : (r : Link → TableLink) (t : Link → Bool) (g : ℕ → List Link) (h : ℕ → List TableLink) (ok : ℕ → Bool) → ((a : ℕ) → ok a ≡ true → map r (filter t (g a)) ≡ h a) → ((a : ℕ) → ok a ≡ false → map r (filter t (g a)) ≡ [])
    → (xs : List ℕ) → map r (filter t (flat_map g xs)) ≡ flat_map h (filter ok xs)
from_all r t g h ok pass fail [] = refl
from_all r t g h ok pass fail (x ∷ xs) =
    chosen_joined r t (g x) (flat_map g xs)
    ∙ ap (λ (rows : List TableLink). map r (filter t (g x)) ++ rows) (from_all r t g h ok pass fail xs)
    ∙ all_step h ok x (filter ok xs) (map r (filter t (g x))) (ok x) refl (pass x) (fail x)

none_all : (r : Link → TableLink) (t : Link → Bool) (g : ℕ → List Link) → ((a : ℕ) → map r (filter t (g a)) ≡ []) → (xs : List ℕ) → map r (filter t (flat_map g xs)) ≡ []
none_all r t g fail [] = refl
none_all r t g fail (x ∷ xs) = chosen_joined r t (g x) (flat_map g xs) ∙ ap (λ (rows : List TableLink). rows ++ map r (filter t (flat_map g xs))) (fail x) ∙ none_all r t g fail xs

-- ---- across a unit

-- whether the profile allows the link across a unit from node to node
pub across_test : PartsLaw → (graph : Graph) (profile : Profile) (area : Area) → (network graph).barred area.via ≡ area.restricted → (way from : Bool) (a : ℕ) → passes_by profile area.kind area.restricted ≡ way
    → passes_node (network graph) profile a ≡ from → (b : ℕ) → passes_link (network graph) profile (inside_area graph area a b) ≡ (way && (from && passes_node (network graph) profile b))
across_test law graph profile area barred way from a crossed start b =
    let to = passes_node (network graph) profile b in
    link_passes law (network graph) profile (inside_area graph area a b)
    ∙ ap (λ (v : Bool). passes_by profile area.kind v && (passes_node (network graph) profile a && to)) barred
    ∙ ap (λ (v : Bool). v && (passes_node (network graph) profile a && to)) crossed
    ∙ ap (λ (v : Bool). way && (v && to)) start

pub crossed_rows : PartsLaw → (graph : Graph) (profile : Profile) (area : Area) (members : List ℕ) (table : List (List Bool)) → IsWholeAcross table members → (network graph).barred area.via ≡ area.restricted → passes_by profile area.kind area.restricted ≡ true
    → rows_of (network graph) profile (area_links graph (area, members, table))
    ≡ flat_map (rows_from graph area (filter (passes_node (network graph) profile) members)) (filter (passes_node (network graph) profile) members)
unfolding rows_of rows_from
crossed_rows law graph profile area members table whole barred crossed =
    let r = link_row (network graph) in
    let t = passes_link (network graph) profile in
    let ok = passes_node (network graph) profile in
    ap (λ (links : List Link). map r (filter t links)) (whole_links graph area members table whole)
    ∙ from_all r t (λ (a : ℕ). map (inside_area graph area a) (filter (other_than a) members)) (λ (a : ℕ). map (pair_row graph area a) (filter (other_than a) (filter ok members))) ok
    (λ a start. from_one (inside_area graph area a) r t (other_than a) ok (across_test law graph profile area barred true true a crossed start) members)
    (λ a start. from_none (inside_area graph area a) r t (across_test law graph profile area barred true false a crossed start) (filter (other_than a) members))
    members

pub closed_rows : PartsLaw → (graph : Graph) (profile : Profile) (area : Area) (members : List ℕ) (table : List (List Bool)) → (network graph).barred area.via ≡ area.restricted → passes_by profile area.kind area.restricted ≡ false
    → rows_of (network graph) profile (area_links graph (area, members, table)) ≡ []
unfolding rows_of
closed_rows law graph profile area members table barred closed =
    let r = link_row (network graph) in
    let t = passes_link (network graph) profile in
    none_all r t (λ (a : ℕ). map (inside_area graph area a) (filter (joined_across table members a) members))
    (λ a. from_none (inside_area graph area a) r t (across_test law graph profile area barred false (passes_node (network graph) profile a) a closed refl) (filter (joined_across table members a) members))
    members
