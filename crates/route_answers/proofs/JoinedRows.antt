-- The rows of a unit some of whose members aren't joined.
use Rattle.std.proofs.Common.{◌≡◌, ℕ, ◌+◌, ◌<◌, Bool, true, false, ◌&&◌, cond, List, [], ◌∷◌, ◌++◌, length, get_or, take, map, filter, flat_map, refl, sym, ap, ◌∙◌, subst, arith, length-append}
use Rattle.std.proofs.lemmas.List.{append-nil}
use Rattle.std.proofs.lemmas.List.Concat.{flat_map-append}
use Rattle.std.proofs.lemmas.List.Elements.{filter_more}
use Rattle.std.proofs.lemmas.List.Filters.{length-filter_more}
use Rattle.venue_types.specs.declared.settings.Profile.{Profile}
use Rattle.link_graph.specs.declared.areas.Area.{Area}
use Rattle.link_graph.specs.declared.graph.Graph.{Graph}
use Rattle.link_graph.specs.Areas.{inside_area}
use Rattle.link_graph.specs.Graphs.{network}
use Rattle.route_certificate.specs.declared.table.TableLink.{TableLink}
use Rattle.route_answers.specs.Adding.{Adds, pair_row}
use Rattle.route_answers.specs.Passing.{passes_by, passes_node, passes_link, link_row, rows_of}
use Rattle.route_answers.proofs.Choosing.{from_one, from_none, from_all, across_test}
use Rattle.route_answers.proofs.Gathering.{adds_both, adds_same}
use Rattle.route_answers.proofs.Judging.{PartsLaw}

-- ---- both tests at once

both_step : (j : ℕ → Bool) (x : ℕ) (xs ys : List ℕ) (e d : Bool) → j x ≡ e → filter j xs ≡ ys → filter j (cond d (x ∷ xs) xs) ≡ cond (e && d) (x ∷ ys) ys
both_step j x xs ys true true jx rest = ap (λ (v : Bool). cond v (x ∷ filter j xs) (filter j xs)) jx ∙ ap (λ (zs : List ℕ). x ∷ zs) rest
both_step j x xs ys true false jx rest = rest
both_step j x xs ys false true jx rest = ap (λ (v : Bool). cond v (x ∷ filter j xs) (filter j xs)) jx ∙ rest
both_step j x xs ys false false jx rest = rest

both : (j ok : ℕ → Bool) (xs : List ℕ) → filter j (filter ok xs) ≡ filter (λ (b : ℕ). j b && ok b) xs
both j ok [] = refl
both j ok (x ∷ xs) = both_step j x (filter ok xs) (filter (λ (b : ℕ). j b && ok b) xs) (j x) (ok x) refl (both j ok xs)

-- ---- the rows

-- a row for each pair that the test joins, both of which pass
pub joined_rows : PartsLaw → (graph : Graph) (profile : Profile) (area : Area) (members : List ℕ) (t : ℕ → ℕ → Bool) → (network graph).barred area.via ≡ area.restricted → passes_by profile area.kind area.restricted ≡ true
    → rows_of (network graph) profile (flat_map (λ (a : ℕ). map (inside_area graph area a) (filter (t a) members)) members)
    ≡ flat_map (λ (a : ℕ). map (pair_row graph area a) (filter (λ b. t a b && passes_node (network graph) profile b) members)) (filter (passes_node (network graph) profile) members)
unfolding rows_of
joined_rows law graph profile area members t barred crossed =
    let r = link_row (network graph) in
    let passes = passes_link (network graph) profile in
    let ok = passes_node (network graph) profile in
    from_all r passes (λ (a : ℕ). map (inside_area graph area a) (filter (t a) members)) (λ (a : ℕ). map (pair_row graph area a) (filter (λ b. t a b && ok b) members)) ok
    (λ a start. from_one (inside_area graph area a) r passes (t a) ok (across_test law graph profile area barred true true a crossed start) members ∙ ap (map (pair_row graph area a)) (both (t a) ok members))
    (λ a start. from_none (inside_area graph area a) r passes (across_test law graph profile area barred true false a crossed start) (filter (t a) members))
    members

-- ---- a loop over numbers that pass, with a piece for each

kept_pieces : {Y : Type 0} (g : ℕ → List Y) (ok : ℕ → Bool) (xs : List ℕ) (i d : ℕ) → i < length xs → ok (get_or xs i d) ≡ true → flat_map g (filter ok (take (i + 1) xs)) ≡ flat_map g (filter ok (take i xs)) ++ g (get_or xs i d)
kept_pieces {Y} g ok xs i d within pass =
    ap (λ (ys : List ℕ). flat_map g ys) (filter_more ok xs i d within ∙ ap (λ (b : Bool). filter ok (take i xs) ++ cond b (get_or xs i d ∷ []) []) pass)
    ∙ flat_map-append g (filter ok (take i xs)) (get_or xs i d ∷ [])
    ∙ ap (λ (ys : List Y). flat_map g (filter ok (take i xs)) ++ ys) (append-nil (g (get_or xs i d)))

left_pieces : {Y : Type 0} (g : ℕ → List Y) (ok : ℕ → Bool) (xs : List ℕ) (i d : ℕ) → i < length xs → ok (get_or xs i d) ≡ false → flat_map g (filter ok (take (i + 1) xs)) ≡ flat_map g (filter ok (take i xs))
left_pieces g ok xs i d within fail =
    ap (λ (ys : List ℕ). flat_map g ys) (filter_more ok xs i d within ∙ ap (λ (b : Bool). filter ok (take i xs) ++ cond b (get_or xs i d ∷ []) []) fail ∙ append-nil (filter ok (take i xs)))

-- rows more, from one that passes
pub kept_piece : (g : ℕ → List TableLink) (ok : ℕ → Bool) (xs : List ℕ) (i d : ℕ) (count : ℕ) (start old new : List TableLink) → i < length xs → Adds count start old (flat_map g (filter ok (take i xs))) → ok (get_or xs i d) ≡ true
    → Adds count old new (g (get_or xs i d)) → Adds count start new (flat_map g (filter ok (take (i + 1) xs)))
kept_piece g ok xs i d count start old new within before pass added =
    subst (Adds count start new) (sym (kept_pieces g ok xs i d within pass)) (adds_both count start old new (flat_map g (filter ok (take i xs))) (g (get_or xs i d)) before added)

pub left_piece : (g : ℕ → List TableLink) (ok : ℕ → Bool) (xs : List ℕ) (i d : ℕ) (count : ℕ) (start old new : List TableLink) → i < length xs → Adds count start old (flat_map g (filter ok (take i xs))) → ok (get_or xs i d) ≡ false
    → new ≡ old → Adds count start new (flat_map g (filter ok (take (i + 1) xs)))
left_piece g ok xs i d count start old new within before fail same =
    subst (Adds count start new) (sym (left_pieces g ok xs i d within fail)) (adds_same count start old new (flat_map g (filter ok (take i xs))) same before)

-- how many there are
pub kept_sum : (g : ℕ → List ℕ) (ok : ℕ → Bool) (xs : List ℕ) (i d n m sum : ℕ) → i < length xs → n ≡ length (flat_map g (filter ok (take i xs))) → ok (get_or xs i d) ≡ true → m ≡ length (g (get_or xs i d)) → sum ≡ n + m
    → sum ≡ length (flat_map g (filter ok (take (i + 1) xs)))
kept_sum g ok xs i d n m sum within before pass one added =
    let all = ap (λ (ys : List ℕ). length ys) (kept_pieces g ok xs i d within pass) in
    let parts = length-append (flat_map g (filter ok (take i xs))) (g (get_or xs i d)) in
    omega (arith, all, parts, before, one, added)

pub left_sum : (g : ℕ → List ℕ) (ok : ℕ → Bool) (xs : List ℕ) (i d n sum : ℕ) → i < length xs → n ≡ length (flat_map g (filter ok (take i xs))) → ok (get_or xs i d) ≡ false → sum ≡ n → sum ≡ length (flat_map g (filter ok (take (i + 1) xs)))
left_sum g ok xs i d n sum within before fail same = same ∙ before ∙ sym (ap (λ (ys : List ℕ). length ys) (left_pieces g ok xs i d within fail))

-- ---- a loop that counts those that pass

pub kept_number : (t : ℕ → Bool) (xs : List ℕ) (i d n sum : ℕ) → i < length xs → n ≡ length (filter t (take i xs)) → t (get_or xs i d) ≡ true → sum ≡ n + 1 → sum ≡ length (filter t (take (i + 1) xs))
kept_number t xs i d n sum within before pass added =
    let more = length-filter_more t xs i d within ∙ ap (λ (b : Bool). length (filter t (take i xs)) + cond b 1 0) pass in
    omega (arith, more, before, added)

pub left_number : (t : ℕ → Bool) (xs : List ℕ) (i d n sum : ℕ) → i < length xs → n ≡ length (filter t (take i xs)) → t (get_or xs i d) ≡ false → sum ≡ n → sum ≡ length (filter t (take (i + 1) xs))
left_number t xs i d n sum within before fail same =
    let more = length-filter_more t xs i d within ∙ ap (λ (b : Bool). length (filter t (take i xs)) + cond b 1 0) fail in
    omega (arith, more, before, same)
