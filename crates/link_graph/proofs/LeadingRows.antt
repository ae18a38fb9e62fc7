-- The links out of a node are those across the units of its seats, then those by relationships.
use Rattle.std.proofs.Common.{◌≡◌, ℕ, ◌+◌, suc, Bool, true, false, cond, eqb, List, [], ◌∷◌, ◌++◌, Option, Some, None, length, map, get_or, refl, sym, ap, ◌∙◌, subst, arith}
use Rattle.std.specs.Prelude.{slice_get, filter}
use Rattle.std.specs.List.{flat_map}
use Rattle.std.proofs.lemmas.Bool.{eqb-true}
use Rattle.std.proofs.lemmas.List.Elements.{filter-append}
use Rattle.std.proofs.lemmas.List.Folds.{flat_map-map}
use Rattle.std.proofs.lemmas.List.Concat.{flat_map-append}
use Rattle.std.proofs.lemmas.Option.{get_or_from_slice_get}
use Rattle.venue_types.specs.declared.link.Link.{Link}
use Rattle.venue_nodes.specs.declared.members.Membership.{Membership}
use Rattle.venue_nodes.specs.Members.{places_where}
use Rattle.venue_nodes.specs.Rows.{row_list}
use Rattle.venue_nodes.specs.Standing.{standings}
use Rattle.link_graph.specs.declared.parts.Core.{Core}
use Rattle.link_graph.specs.declared.parts.Crossing.{Crossing}
use Rattle.link_graph.specs.Cores.{IsSoundCore, link_across, links_across_from, links_across, links_across_all, joined_in}
use Rattle.link_graph.specs.Leads.{starts_at, links_of_row}
use Rattle.link_graph.proofs.LeadingLists.{filter-flat_map, filter-map_same, filter-cond, flat_map_same, flat_map_cond, flat_map_places}

-- ---- a row

start_same : {Y : Type 0} (b : Bool) (f : ℕ → List Y) (a n : ℕ) → eqb a n ≡ b → cond b (f a) [] ≡ cond b (f n) []
start_same true f a n e = ap f (eqb-true a n e)
start_same false f a n e = refl

of_member : (core : Core) (crossing : Crossing) (row : List ℕ) (n a : ℕ) → filter (starts_at n) (links_across_from core crossing row a) ≡ cond (eqb a n) (links_across_from core crossing row n) []
of_member core crossing row n a =
    filter-map_same (starts_at n) (link_across core crossing a) (eqb a n) (λ b. refl) (filter (joined_in crossing row a) row)
    ∙ start_same (eqb a n) (links_across_from core crossing row) a n refl

of_row : (core : Core) (crossing : Crossing) (row : List ℕ) (n : ℕ)
    → filter (starts_at n) (links_across core crossing row) ≡ cond crossing.walked (flat_map (λ (p : ℕ). links_across_from core crossing row n) (places_where (λ m. eqb m n) 0 row)) []
of_row core crossing row n =
    filter-cond (starts_at n) crossing.walked (flat_map (links_across_from core crossing row) row)
    ∙ ap (λ (ls : List Link). cond crossing.walked ls []) (
    filter-flat_map (starts_at n) (links_across_from core crossing row) row
    ∙ flat_map_same (λ a. filter (starts_at n) (links_across_from core crossing row a)) (λ a. cond (eqb a n) (links_across_from core crossing row n) []) (of_member core crossing row n) row
    ∙ flat_map_places n 0 (links_across_from core crossing row n) row
    )

-- ---- row by row

abbrev seated : ℕ → ℕ → Membership
seated w p = record { unit = w; place = p }

row_again : (F : ℕ → List Link) (w : ℕ) (walked : Bool) (links : List Link) (ps : List ℕ) → F w ≡ cond walked links []
    → flat_map (λ (m : Membership). F m.unit) (map (seated w) ps) ≡ cond walked (flat_map (λ (p : ℕ). links) ps) []
row_again F w walked links ps e =
    flat_map-map (λ (m : Membership). F m.unit) (seated w) ps
    ∙ ap (λ (ls : List Link). flat_map (λ (p : ℕ). ls) ps) e
    ∙ flat_map_cond walked links ps

of_rows : (core : Core) (n w : ℕ) (F : ℕ → List Link) (crossings : List Crossing) (rows : List (List ℕ)) → length crossings ≡ length rows
    → ((k : ℕ) (crossing : Crossing) (row : List ℕ) → slice_get crossings k ≡ Some crossing → slice_get rows k ≡ Some row → F (w + k) ≡ cond crossing.walked (links_across_from core crossing row n) [])
    → filter (starts_at n) (links_across_all core crossings rows) ≡ flat_map (λ (m : Membership). F m.unit) (standings n w rows)
of_rows core n w F [] [] e h = refl
of_rows core n w F [] (row ∷ rows) e h = absurd (omega (arith, e))
of_rows core n w F (crossing ∷ crossings) [] e h = absurd (omega (arith, e))
of_rows core n w F (crossing ∷ crossings) (row ∷ rows) e h =
    let here : F w ≡ cond crossing.walked (links_across_from core crossing row n) [] = subst (λ i. F i ≡ cond crossing.walked (links_across_from core crossing row n) []) (let z : w + 0 ≡ w = omega arith in z) (h 0 crossing row refl refl) in
    let later = of_rows core n (w + 1) F crossings rows (omega (arith, e)) (λ k c r i j.
    subst (λ i. F i ≡ cond c.walked (links_across_from core c r n) []) (let z : w + suc k ≡ w + 1 + k = omega arith in z) (h (suc k) c r i j)) in
    filter-append (starts_at n) (links_across core crossing row) (links_across_all core crossings rows)
    ∙ ap (λ (ls : List Link). ls ++ filter (starts_at n) (links_across_all core crossings rows)) (of_row core crossing row n ∙ sym (row_again F w crossing.walked (links_across_from core crossing row n) (places_where (λ m. eqb m n) 0 row) here))
    ∙ ap (λ (ls : List Link). flat_map (λ (m : Membership). F m.unit) (map (seated w) (places_where (λ m. eqb m n) 0 row)) ++ ls) later
    ∙ sym (flat_map-append (λ (m : Membership). F m.unit) (map (seated w) (places_where (λ m. eqb m n) 0 row)) (standings n (w + 1) rows))

-- the row of a number is there
pub row_known : (core : Core) (n w : ℕ) (crossing : Crossing) (row : List ℕ) → slice_get core.crossings.items w ≡ Some crossing → slice_get (row_list core.rows) w ≡ Some row
    → links_of_row core n w ≡ cond crossing.walked (links_across_from core crossing row n) []
unfolding links_of_row
row_known core n w crossing row here there =
    ap (λ (found : Option Crossing). elim found [ None ↦ [] | Some c ↦ cond c.walked (links_across_from core c (get_or (row_list core.rows) w []) n) [] ]) here
    ∙ ap (λ (r : List ℕ). cond crossing.walked (links_across_from core crossing r n) []) (get_or_from_slice_get (row_list core.rows) w row [] there)

pub across_memberships : (core : Core) (n : ℕ) → IsSoundCore core
    → filter (starts_at n) (links_across_all core core.crossings.items (row_list core.rows)) ≡ flat_map (λ (m : Membership). links_of_row core n m.unit) (standings n 0 (row_list core.rows))
across_memberships core n sound =
    of_rows core n 0 (links_of_row core n) core.crossings.items (row_list core.rows) sound.paired (λ k crossing row here there.
    subst (λ i. links_of_row core n i ≡ cond crossing.walked (links_across_from core crossing row n) []) (let z : k ≡ 0 + k = omega arith in z) (row_known core n k crossing row here there))
