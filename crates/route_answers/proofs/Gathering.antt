-- Rows that are added behind others.
use Rattle.std.proofs.Common.{◌≡◌, ℕ, zero, suc, ◌+◌, ◌<◌, ◌≤◌, Bool, true, false, cond, List, [], ◌∷◌, ◌++◌, length, get_or, take, map, filter, flat_map, refl, sym, ap, ◌∙◌, subst, append_assoc, arith, Some}
use Rattle.std.specs.Prelude.{slice_get}
use Rattle.std.specs.List.{AllByRecursion}
use Rattle.std.proofs.lemmas.List.{take_more, append-nil, map-append}
use Rattle.std.proofs.lemmas.List.Concat.{flat_map-append}
use Rattle.std.proofs.lemmas.List.Elements.{filter_more}
use Rattle.venue_types.specs.declared.feature_id.FeatureId.{FeatureId}
use Rattle.venue_types.specs.declared.link.Link.{Link}
use Rattle.link_graph.specs.Networks.{Network}
use Rattle.route_certificate.specs.declared.table.TableLink.{TableLink}
use Rattle.route_certificate.specs.Forms.{FitsId, FitsLink}
use Rattle.route_answers.specs.Adding.{Adds}
use Rattle.route_answers.specs.Passing.{id_at, link_row}

pub all_joined : {X : Type 0} (P : X → Type 0) (xs ys : List X) → AllByRecursion P xs → AllByRecursion P ys → AllByRecursion P (xs ++ ys)
all_joined P [] ys h k = k
all_joined P (x ∷ xs) ys h k = (h.0, all_joined P xs ys h.1 k)

pub all_pushed : {X : Type 0} (P : X → Type 0) (xs : List X) (y : X) → AllByRecursion P xs → P y → AllByRecursion P (xs ++ y ∷ [])
all_pushed P xs y h k = all_joined P xs (y ∷ []) h (k, tt)

pub adds_none : (count : ℕ) (rows : List TableLink) → Adds count rows rows []
adds_none count rows = record { items = sym (append-nil rows); fits = tt }

pub adds_both : (count : ℕ) (start middle end first second : List TableLink) → Adds count start middle first → Adds count middle end second → Adds count start end (first ++ second)
adds_both count start middle end first second one two = record {
  items = two.items ∙ ap (λ (rows : List TableLink). rows ++ second) one.items ∙ append_assoc start first second;
  fits = all_joined (FitsLink count) first second one.fits two.fits;
}

pub adds_one : (count : ℕ) (old new : List TableLink) (row : TableLink) → new ≡ old ++ row ∷ [] → FitsLink count row → Adds count old new (row ∷ [])
adds_one count old new row grown fits = record { items = grown; fits = (fits, tt) }

pub adds_same : (count : ℕ) (start old new added : List TableLink) → new ≡ old → Adds count start old added → Adds count start new added
adds_same count start old new added same before = record { items = same ∙ before.items; fits = before.fits }

-- ---- a loop over items that pass a test, with a row for each

kept_rows : {X : Type 0} (f : X → TableLink) (t : X → Bool) (xs : List X) (i : ℕ) (d : X) → i < length xs → t (get_or xs i d) ≡ true → map f (filter t (take (i + 1) xs)) ≡ map f (filter t (take i xs)) ++ f (get_or xs i d) ∷ []
kept_rows {X} f t xs i d within pass =
    ap (λ (ys : List X). map f ys) (filter_more t xs i d within)
    ∙ map-append f (filter t (take i xs)) (cond (t (get_or xs i d)) (get_or xs i d ∷ []) [])
    ∙ ap (λ (b : Bool). map f (filter t (take i xs)) ++ map f (cond b (get_or xs i d ∷ []) [])) pass

left_rows : {X : Type 0} (f : X → TableLink) (t : X → Bool) (xs : List X) (i : ℕ) (d : X) → i < length xs → t (get_or xs i d) ≡ false → map f (filter t (take (i + 1) xs)) ≡ map f (filter t (take i xs))
left_rows {X} f t xs i d within fail =
    ap (λ (ys : List X). map f ys) (filter_more t xs i d within ∙ ap (λ (b : Bool). filter t (take i xs) ++ cond b (get_or xs i d ∷ []) []) fail ∙ append-nil (filter t (take i xs)))

pub kept_more : {X : Type 0} (f : X → TableLink) (t : X → Bool) (xs : List X) (i : ℕ) (d : X) (count : ℕ) (start old new : List TableLink) → i < length xs → Adds count start old (map f (filter t (take i xs))) → t (get_or xs i d) ≡ true
    → new ≡ old ++ f (get_or xs i d) ∷ [] → FitsLink count (f (get_or xs i d)) → Adds count start new (map f (filter t (take (i + 1) xs)))
kept_more f t xs i d count start old new within before pass grown fits =
    subst (Adds count start new) (sym (kept_rows f t xs i d within pass))
    (adds_both count start old new (map f (filter t (take i xs))) (f (get_or xs i d) ∷ []) before (adds_one count old new (f (get_or xs i d)) grown fits))

pub left_more : {X : Type 0} (f : X → TableLink) (t : X → Bool) (xs : List X) (i : ℕ) (d : X) (count : ℕ) (start old new : List TableLink) → i < length xs → Adds count start old (map f (filter t (take i xs))) → t (get_or xs i d) ≡ false
    → new ≡ old → Adds count start new (map f (filter t (take (i + 1) xs)))
left_more f t xs i d count start old new within before fail same =
    subst (Adds count start new) (sym (left_rows f t xs i d within fail)) (adds_same count start old new (map f (filter t (take i xs))) same before)

-- ---- a loop over items with rows for each

pub at_place : {X : Type 0} (xs : List X) (n : ℕ) → n < length xs → (x : X) × (slice_get xs n ≡ Some x)
at_place [] n h = absurd (omega (arith, h))
at_place (x ∷ xs) zero h = (x, refl)
at_place (x ∷ xs) (suc n) h = at_place xs n (omega (arith, h))

pub joined_more : {X Y : Type 0} (g : X → List Y) (xs : List X) (i : ℕ) (d : X) → i < length xs → flat_map g (take (i + 1) xs) ≡ flat_map g (take i xs) ++ g (get_or xs i d)
joined_more {X} {Y} g xs i d within =
    ap (λ (ys : List X). flat_map g ys) (take_more xs i d within)
    ∙ flat_map-append g (take i xs) (get_or xs i d ∷ [])
    ∙ ap (λ (ys : List Y). flat_map g (take i xs) ++ ys) (append-nil (g (get_or xs i d)))

pub pieces_more : (g : ℕ → List TableLink) (xs : List ℕ) (i d : ℕ) (count : ℕ) (start old new : List TableLink) → i < length xs → Adds count start old (flat_map g (take i xs)) → Adds count old new (g (get_or xs i d))
    → Adds count start new (flat_map g (take (i + 1) xs))
pieces_more g xs i d count start old new within before added =
    subst (Adds count start new) (sym (joined_more g xs i d within)) (adds_both count start old new (flat_map g (take i xs)) (g (get_or xs i d)) before added)

-- ---- rows of links

pub row_is : (given : Network) (link is : Link) (via : FeatureId) (row : TableLink) → row ≡ record { from = link.from; to = link.to; cost = link.cost; via = via } → link ≡ is → via ≡ id_at given.closables is.via → row ≡ link_row given is
unfolding link_row
row_is given link is via row made same id =
    made
    ∙ ap (λ (l : Link). record { from = l.from; to = l.to; cost = l.cost; via = via }) same
    ∙ ap (λ (v : FeatureId). record { from = is.from; to = is.to; cost = is.cost; via = v }) id

pub row_fits : (given : Network) (count : ℕ) (link is : Link) (via : FeatureId) → link ≡ is → via ≡ id_at given.closables is.via → FitsId via → is.from < count → is.to < count → link.cost ≤ 6700000 → FitsLink count (link_row given is)
unfolding link_row
row_fits given count link is via same id fits from to cost = record {
  from = from;
  to = to;
  cost = subst (λ (l : Link). l.cost ≤ 6700000) same cost;
  via = subst FitsId id fits;
}
