-- The links by relationships, as they are made.
use Rattle.std.proofs.Common.{◌≡◌, ℕ, suc, ◌+◌, ◌*◌, ◌<◌, ◌≤◌, ◌==◌, Bool, true, false, cond, List, [], ◌∷◌, ◌++◌, Option, Some, None, All, length, map, flat_map, take, get_or, pos, refl, sym, ap, ap₂, ◌∙◌, subst, append_assoc, arith, length-append}
use Rattle.std.specs.Prelude.{Contains, slice_get}
use Rattle.std.specs.List.{enumerate_from, filter_map, cons_option}
use Rattle.std.specs.Option.{option_to_list}
use Rattle.std.proofs.lemmas.List.{length-map}
use Rattle.std.proofs.lemmas.List.Elements.{filter_map-append, All-contains_itself}
use Rattle.venue_types.specs.declared.feature_id.FeatureId.{FeatureId}
use Rattle.venue_types.specs.declared.features.Features.{Features}
use Rattle.venue_types.specs.declared.features.Ref.{Ref}
use Rattle.venue_types.specs.declared.features.RelationshipRow.{RelationshipRow}
use Rattle.venue_types.specs.declared.kind.Kind.{Kind}
use Rattle.venue_types.specs.declared.link.Link.{Link}
use Rattle.venue_types.specs.declared.link.Node.{Node}
use Rattle.venue_types.specs.declared.point.Spot.{Spot}
use Rattle.venue_types.specs.declared.settings.Settings.{Settings}
use Rattle.venue_nodes.specs.Property.{Property}
use Rattle.venue_nodes.specs.Property.TheVariants as property
use Rattle.venue_nodes.specs.Sound.{element_count}
use Rattle.rule_reports.proofs.Members.{Contains-first, Contains-later}
use Rattle.venue_nodes.specs.Nodes.{nodes, place_of}
use Rattle.venue_nodes.specs.Unplaced.{Element, element_at, elements, one_or_none}
use Rattle.venue_nodes.proofs.Items.{given_more}
use Rattle.link_graph.specs.Lengths.{length_between}
use Rattle.link_graph.specs.Links.{spot_of, extra_of, chain, passage_link, pair_links, chain_links, whole_chain_links, relationship_links}
use Rattle.link_graph.specs.Making.{places_on}
use Rattle.link_graph.proofs.Passages.{chain_within}

-- ---- the places of references

pub places_step : (find : FeatureId → Option ℕ) (refs : List Ref) (i : ℕ) (d : Ref) (first old new : List ℕ) → i < length refs → old ≡ first ++ places_on find (take i refs)
    → new ≡ old ++ option_to_list (find (get_or refs i d).id) → new ≡ first ++ places_on find (take (i + 1) refs)
places_step find refs i d first old new within before grown =
    let last = option_to_list (find (get_or refs i d).id) in
    grown
    ∙ ap (λ (xs : List ℕ). xs ++ last) before
    ∙ append_assoc first (places_on find (take i refs)) last
    ∙ ap (λ (xs : List ℕ). first ++ xs) (sym (given_more (λ (r : Ref). find r.id) refs i d within))

places_same : (f g : FeatureId → Option ℕ) (refs : List Ref) → ((id : FeatureId) → f id ≡ g id) → places_on f refs ≡ places_on g refs
places_same f g [] same = refl
places_same f g (r ∷ refs) same = ap₂ (λ (o : Option ℕ) (xs : List ℕ). cons_option o xs) (same r.id) (places_same f g refs same)

abbrev place_at : (FeatureId → Option ℕ) → Element → Option ℕ
place_at find e = find e.reference.id

elements_places : (find : FeatureId → Option ℕ) (p : Property) (n : ℕ) (refs : List Ref) → filter_map (place_at find) (map (element_at p) (enumerate_from n refs)) ≡ places_on find refs
elements_places find p n [] = refl
elements_places find p n (r ∷ refs) = ap (λ (xs : List ℕ). cons_option (find r.id) xs) (elements_places find p (n + 1) refs)

chain_parts : (find : FeatureId → Option ℕ) (row : RelationshipRow) → filter_map (place_at find) (elements row) ≡ places_on find (one_or_none row.origin) ++ places_on find row.between ++ places_on find (one_or_none row.destination)
chain_parts find row =
    let origin = map (element_at property.Origin) (enumerate_from 0 (one_or_none row.origin)) in
    let between = map (element_at property.Intermediary) (enumerate_from 0 row.between) in
    let destination = map (element_at property.Destination) (enumerate_from 0 (one_or_none row.destination)) in
    filter_map-append (place_at find) (origin ++ between) destination
    ∙ ap₂ (λ (xs ys : List ℕ). xs ++ ys)
    (filter_map-append (place_at find) origin between ∙ ap₂ (λ (xs ys : List ℕ). xs ++ ys) (elements_places find property.Origin 0 (one_or_none row.origin)) (elements_places find property.Intermediary 0 row.between))
    (elements_places find property.Destination 0 (one_or_none row.destination))

three_joined : {X : Type 0} (n a b d p q r : List X) → n ≡ [] → a ≡ n ++ p → b ≡ a ++ q → d ≡ b ++ r → d ≡ p ++ q ++ r
three_joined n a b d p q r none one two three = three ∙ ap (λ xs. xs ++ r) (two ∙ ap (λ xs. xs ++ q) (one ∙ ap (λ xs. xs ++ p) none))

pub chain_is : (features : Features) (find : FeatureId → Option ℕ) (row : RelationshipRow) (between : List Ref) (n a b c : List ℕ) → ((id : FeatureId) → find id ≡ place_of features id) → between ≡ row.between → n ≡ []
    → a ≡ n ++ places_on find (one_or_none row.origin) → b ≡ a ++ places_on find between → c ≡ b ++ places_on find (one_or_none row.destination) → c ≡ chain features row
chain_is features find row between n a b c same middle none one two three =
    let place = place_of features in
    three_joined n a b c _ _ _ none
    (one ∙ ap (λ (xs : List ℕ). n ++ xs) (places_same find place (one_or_none row.origin) same))
    (two ∙ ap (λ (xs : List ℕ). a ++ xs) (ap (λ (refs : List Ref). places_on find refs) middle ∙ places_same find place row.between same))
    (three ∙ ap (λ (xs : List ℕ). b ++ xs) (places_same find place (one_or_none row.destination) same))
    ∙ sym (chain_parts place row)

pub chain_all_within : (features : Features) (settings : Settings) (row : RelationshipRow) (c : List ℕ) → c ≡ chain features row → All (λ n. n < length (nodes features settings)) c
chain_all_within features settings row c e =
    subst (λ (xs : List ℕ). All (λ n. n < length (nodes features settings)) xs) (sym e)
    (λ k d h. chain_within features settings row (get_or (chain features row) k d) (All-contains_itself (chain features row) k d h))

-- ---- a passage

abbrev spot_at : Option Node → Spot
spot_at found = elim found [ None ↦ record { x = pos 0; y = pos 0 } | Some node ↦ node.spot ]

pub passage_is : (features : Features) (settings : Settings) (via : ℕ) (kind : Kind) (a b : ℕ) (m n : Node) (list : List Node) (way extra : ℕ) → list ≡ nodes features settings → slice_get list a ≡ Some m → slice_get list b ≡ Some n
    → way ≡ length_between m.spot n.spot settings.kx settings.ky → extra ≡ extra_of settings.extras kind
    → record { from = a; to = b; via = via; cost = way + extra; kind = kind } ≡ passage_link features settings via kind a b
passage_is features settings via kind a b m n list way extra same here there long more =
    let start : spot_of features settings a ≡ m.spot = ap spot_at (subst (λ (xs : List Node). slice_get xs a ≡ Some m) same here) in
    let finish : spot_of features settings b ≡ n.spot = ap spot_at (subst (λ (xs : List Node). slice_get xs b ≡ Some n) same there) in
    let made : ℕ → ℕ → Link = λ w x. record { from = a; to = b; via = via; cost = w + x; kind = kind } in
    ap₂ made (long ∙ ap₂ (λ (s t : Spot). length_between s t settings.kx settings.ky) (sym start) (sym finish)) more

-- ---- how many there are

short_pair : (b c : Bool) (x y : Link) → length (cond b [] (x ∷ cond c [] (y ∷ []))) ≤ 2
short_pair true c x y = omega arith
short_pair false true x y = omega arith
short_pair false false x y = omega arith

short_chain : (features : Features) (settings : Settings) (via : ℕ) (kind : Kind) (directed : Bool) (a : ℕ) (rest : List ℕ) → length (chain_links features settings via kind directed a rest) ≤ 2 * length rest
short_chain features settings via kind directed a [] = omega arith
short_chain features settings via kind directed a (b ∷ rest) =
    let pair = pair_links features settings via kind directed a b in
    let more = chain_links features settings via kind directed b rest in
    let one : length pair ≤ 2 = short_pair (a == b) directed (passage_link features settings via kind a b) (passage_link features settings via kind b a) in
    let others : length more ≤ 2 * length rest = short_chain features settings via kind directed b rest in
    let both : length (pair ++ more) ≡ length pair + length more = length-append pair more in
    omega arith

short_whole : (features : Features) (settings : Settings) (via : ℕ) (kind : Kind) (directed : Bool) (all : List ℕ) → length all ≤ 65 → length (whole_chain_links features settings via kind directed all) ≤ 128
short_whole features settings via kind directed [] few = omega arith
short_whole features settings via kind directed (a ∷ rest) few =
    let bound : length (chain_links features settings via kind directed a rest) ≤ 2 * length rest = short_chain features settings via kind directed a rest in
    omega arith

cons_short : {Y : Type 0} (o : Option Y) (ys : List Y) (n : ℕ) → length ys ≤ n → length (cons_option o ys) ≤ suc n
cons_short None ys n h = omega arith
cons_short (Some y) ys n h = omega arith

given_short : {X Y : Type 0} (h : X → Option Y) (xs : List X) → length (filter_map h xs) ≤ length xs
given_short h [] = omega arith
given_short h (x ∷ xs) = cons_short (h x) (filter_map h xs) (length xs) (given_short h xs)

numbered_long : {X : Type 0} (n : ℕ) (xs : List X) → length (enumerate_from n xs) ≡ length xs
numbered_long n [] = refl
numbered_long n (x ∷ xs) = ap suc (numbered_long (n + 1) xs)

elements_long : (p : Property) (refs : List Ref) → length (map (element_at p) (enumerate_from 0 refs)) ≡ length refs
elements_long p refs = length-map (enumerate_from 0 refs) (element_at p) ∙ numbered_long 0 refs

abbrev one_of : Option Ref → ℕ
one_of reference = elim reference [ None ↦ 0 | Some r ↦ 1 ]

one_long : (o : Option Ref) → length (one_or_none o) ≡ one_of o
one_long None = refl
one_long (Some r) = refl

chain_short : (features : Features) (row : RelationshipRow) → element_count row ≤ 65 → length (chain features row) ≤ 65
chain_short features row few =
    let origin = map (element_at property.Origin) (enumerate_from 0 (one_or_none row.origin)) in
    let between = map (element_at property.Intermediary) (enumerate_from 0 row.between) in
    let destination = map (element_at property.Destination) (enumerate_from 0 (one_or_none row.destination)) in
    let a : length origin ≡ one_of row.origin = elements_long property.Origin (one_or_none row.origin) ∙ one_long row.origin in
    let b : length between ≡ length row.between = elements_long property.Intermediary row.between in
    let c : length destination ≡ one_of row.destination = elements_long property.Destination (one_or_none row.destination) ∙ one_long row.destination in
    let bound : length (chain features row) ≤ length (origin ++ between ++ destination) = given_short (place_at (place_of features)) (elements row) in
    let two : length (origin ++ between ++ destination) ≡ length (origin ++ between) + length destination = length-append (origin ++ between) destination in
    let one : length (origin ++ between) ≡ length origin + length between = length-append origin between in
    let most : one_of row.origin + length row.between + one_of row.destination ≤ 65 = few in
    omega arith

abbrev links_by : Features → Settings → ℕ → RelationshipRow → Option Kind → List Link
links_by features settings via row kind = elim kind [
  | None ↦ []
  | Some kind ↦ whole_chain_links features settings via kind row.directed (chain features row)
]

short_by : (features : Features) (settings : Settings) (via : ℕ) (row : RelationshipRow) (kind : Option Kind) → element_count row ≤ 65 → length (links_by features settings via row kind) ≤ 128
short_by features settings via row None few = omega arith
short_by features settings via row (Some kind) few = short_whole features settings via kind row.directed (chain features row) (chain_short features row few)

pub passages_few : (features : Features) (settings : Settings) (via : ℕ) (rows : List RelationshipRow) → ((row : RelationshipRow) → Contains rows row → element_count row ≤ 65)
    → length (flat_map (relationship_links features settings) (enumerate_from via rows)) ≤ 128 * length rows
passages_few features settings via [] few = omega arith
passages_few features settings via (row ∷ rows) few =
    let here = relationship_links features settings (via, row) in
    let behind = flat_map (relationship_links features settings) (enumerate_from (via + 1) rows) in
    let one : length here ≤ 128 = short_by features settings via row row.kind (few row (Contains-first row rows)) in
    let others : length behind ≤ 128 * length rows = passages_few features settings (via + 1) rows (λ r h. few r (Contains-later row rows r h)) in
    let both : length (here ++ behind) ≡ length here + length behind = length-append here behind in
    omega arith
