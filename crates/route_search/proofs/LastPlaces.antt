-- How known walks end, kept by places: what is read of a node, and what is written of one.
use Rattle.std.proofs.Common.{◌≡◌, ◌≢◌, inl, inr, ℕ, zero, suc, ◌+◌, ◌<◌, ◌≤◌, List, [], ◌∷◌, ◌++◌, length, get_or, set, replicate, refl, sym, ap, subst, ◌∙◌, arith}
use Rattle.std.proofs.lemmas.Bool.{cases_eq, cases_lt}
use Rattle.std.proofs.lemmas.List.{length-map, length-set, length-replicate, length_push, get_or-map, get_or-set_same, get_or-set_other, get_or_push, get_or_past, get_or_read, get_or_append_left, ext_get_or}
use Rattle.std.proofs.lemmas.List.Elements.{All-from_get_or, All-replicate}
use Rattle.route_search.specs.declared.labels.Last.{Last}
use Rattle.route_search.specs.Labels.{last_at, no_last}
use Rattle.route_search.specs.Lasts.{AreApart, lasts_of, used}

-- ---- how many places are used

used_none : (n : ℕ) → used (replicate n 0) ≡ 0
used_none zero = refl
used_none (suc n) = used_none n

used_more : (places : List ℕ) (i k : ℕ) → i < length places → get_or places i 0 ≡ 0 → used (set places i (suc k)) ≡ suc (used places)
used_more [] i k within free = absurd (omega arith)
used_more (zero ∷ places) zero k within free = refl
used_more (suc p ∷ places) zero k within free = absurd (omega arith)
used_more (zero ∷ places) (suc i) k within free = used_more places i k (omega arith) free
used_more (suc p ∷ places) (suc i) k within free = ap suc (used_more places i k (omega arith) free)

used_most : (places : List ℕ) → used places ≤ length places
used_most [] = omega arith
used_most (zero ∷ places) = let most = used_most places in omega (arith, most)
used_most (suc p ∷ places) = let most = used_most places in omega (arith, most)

-- a node without a place is one that isn't counted
used_room : (places : List ℕ) (i : ℕ) → i < length places → get_or places i 0 ≡ 0 → suc (used places) ≤ length places
used_room places i within free =
    let most = used_most (set places i 1) in
    let more = used_more places i 0 within free in
    let same = length-set places i 1 in
    omega (arith, most, more, same)

-- ---- reading

read_at : (found : List Last) (places : List ℕ) (n : ℕ) → n < length places → last_at (lasts_of found places) n ≡ last_at found (get_or places n 0)
unfolding last_at lasts_of
read_at found places n within = get_or-map (last_at found) places n 0 no_last within

count_of : (found : List Last) (places : List ℕ) → length (lasts_of found places) ≡ length places
unfolding lasts_of
count_of found places = length-map places (last_at found)

read_found : (found : List Last) (places : List ℕ) (n : ℕ) → n < length places → get_or (lasts_of found places) n no_last ≡ last_at found (get_or places n 0)
unfolding last_at
read_found found places n within = read_at found places n within

last_push : (found : List Last) (last : Last) (place : ℕ) → place < length found → last_at (found ++ last ∷ []) place ≡ last_at found place
unfolding last_at
last_push found last place within = get_or_append_left found (last ∷ []) no_last place within

last_pushed : (found : List Last) (last : Last) → last_at (found ++ last ∷ []) (length found) ≡ last
unfolding last_at
last_pushed found last = get_or_push found last no_last (length found) refl

pub last-set_same : (lasts : List Last) (i : ℕ) (y : Last) → i < length lasts → last_at (set lasts i y) i ≡ y
unfolding last_at
last-set_same lasts i y within = get_or-set_same lasts i y no_last within

pub last-set_other : (lasts : List Last) (i n : ℕ) (y : Last) → n ≢ i → last_at (set lasts i y) n ≡ last_at lasts n
unfolding last_at
last-set_other lasts i n y other = get_or-set_other lasts i n y no_last other

place_below : (found : List Last) (places : List ℕ) (n : ℕ) → AreApart found places → get_or places n 0 < length found
place_below found places n apart = elim (cases_lt n (length places)) [
  | inl within ↦ apart.within n 0 within
  | inr past ↦
      let none = get_or_past places n 0 (omega (arith, past)) in
      let count = apart.counted in
      omega (arith, none, count)
]

-- ---- a node and its place

pub node_within : (found : List Last) (places : List ℕ) (now : List Last) (n : ℕ) → lasts_of found places ≡ now → n < length now → n < length places
node_within found places now n view within =
    let same = ap length view in
    let count = count_of found places in
    omega (arith, same, count, within)

pub place_within : (found : List Last) (places : List ℕ) (now : List Last) (n place : ℕ) → AreApart found places → lasts_of found places ≡ now → n < length now
    → place ≡ get_or places n place → place < length found
place_within found places now n place apart view within read =
    let at = get_or_read places n place (node_within found places now n view within) read 0 in
    let low = place_below found places n apart in
    omega (arith, at, low)

pub known_at : (found : List Last) (places : List ℕ) (now : List Last) (n place : ℕ) (last : Last) → AreApart found places → lasts_of found places ≡ now → n < length now
    → place ≡ get_or places n place → last ≡ get_or found place last → last ≡ last_at now n
unfolding last_at
known_at found places now n place last apart view within read is =
    let there = node_within found places now n view within in
    let low = place_within found places now n place apart view within read in
    let here : last ≡ last_at found place = get_or_read found place last low is no_last in
    here ∙ ap (last_at found) (get_or_read places n place there read 0) ∙ sym (read_at found places n there) ∙ ap (λ (ls : List Last). last_at ls n) view

-- ---- at first

free_of : (nodes i : ℕ) → get_or {A = ℕ} (replicate nodes 0) i 0 ≡ 0
free_of zero i = refl
free_of (suc nodes) zero = refl
free_of (suc nodes) (suc i) = free_of nodes i

pub none_apart : (nodes : ℕ) → nodes ≤ 400000 → AreApart (replicate 1 no_last) (replicate nodes 0)
unfolding last_at
none_apart nodes few = record {
  first = refl;
  within = All-replicate (λ place. place < length (replicate 1 no_last)) nodes 0 (omega arith);
  apart = λ i j same some. let none = free_of nodes i in absurd (omega (arith, none, some));
  counted = ap suc (sym (used_none nodes));
  few = let many = length-replicate {A = ℕ} nodes 0 in omega (arith, many, few);
}

pub none_known : (nodes : ℕ) → lasts_of (replicate 1 no_last) (replicate nodes 0) ≡ replicate nodes no_last
unfolding last_at lasts_of
none_known zero = refl
none_known (suc nodes) = ap (λ (ls : List Last). no_last ∷ ls) (none_known nodes)

-- ---- a node of which nothing was known

module _ (found : List Last) (places : List ℕ) (node : ℕ) (last : Last) (apart : AreApart found places) (within : node < length places) (free : get_or places node 0 ≡ 0) where
  abbrev after : List ℕ
  after = set places node (length found)

  some : 0 < length found
  some = let count = apart.counted in omega (arith, count)

  here : get_or after node 0 ≡ length found
  here = get_or-set_same places node (length found) 0 within

  there : (i : ℕ) → i ≢ node → get_or after i 0 ≡ get_or places i 0
  there i other = get_or-set_other places node i (length found) 0 other

  one_more : length (found ++ last ∷ []) ≡ length found + 1
  one_more = length_push found last

  placed : (i : ℕ) → get_or after i 0 < length (found ++ last ∷ [])
  placed i = elim (cases_eq i node) [
    | inl same ↦ subst (λ (n : ℕ). get_or after n 0 < length (found ++ last ∷ [])) (sym same) (omega (arith, here, one_more))
    | inr other ↦ let was = place_below found places i apart in let at = there i other in omega (arith, at, was, one_more)
  ]

  different : (i j : ℕ) → get_or after i 0 ≡ get_or after j 0 → 0 < get_or after i 0 → i ≡ j
  different i j same is = elim (cases_eq i node) [
    | inl first ↦ elim (cases_eq j node) [
      | inl second ↦ first ∙ sym second
      | inr other ↦
          let at = there j other in
          let low = place_below found places j apart in
          let top : get_or after i 0 ≡ length found = ap (λ (n : ℕ). get_or after n 0) first ∙ here in
          absurd (omega (arith, same, at, low, top))
    ]
    | inr other ↦ elim (cases_eq j node) [
      | inl second ↦
          let at = there i other in
          let low = place_below found places i apart in
          let top : get_or after j 0 ≡ length found = ap (λ (n : ℕ). get_or after n 0) second ∙ here in
          absurd (omega (arith, same, at, low, top))
      | inr apart_too ↦
          let at = there i other in
          apart.apart i j (sym at ∙ same ∙ there j apart_too) (omega (arith, at, is))
    ]
  ]

  counts : (n : ℕ) → length found ≡ suc n → used (set places node (length found)) ≡ suc (used places)
  counts n is = subst (λ (k : ℕ). used (set places node k) ≡ suc (used places)) (sym is) (used_more places node n within free)

  added_apart : AreApart (found ++ last ∷ []) after
  added_apart = record {
    first = last_push found last 0 some ∙ apart.first;
    within = All-from_get_or (λ p. p < length (found ++ last ∷ [])) after 0 (λ i low. placed i);
    apart = different;
    counted = let more = counts (used places) apart.counted in let was = apart.counted in omega (arith, more, was, one_more);
    few = let same = length-set places node (length found) in let few = apart.few in omega (arith, same, few);
  }

  added_known : lasts_of (found ++ last ∷ []) after ≡ set (lasts_of found places) node last
  added_known =
      let left = count_of (found ++ last ∷ []) after in
      let right = length-set (lasts_of found places) node last in
      let both = count_of found places in
      let same = length-set places node (length found) in
      ext_get_or no_last (lasts_of (found ++ last ∷ []) after) (set (lasts_of found places) node last) (omega (arith, left, right, both, same))
      (λ i low. let low_here : i < length after = omega (arith, left, low) in
      read_found (found ++ last ∷ []) after i low_here ∙ elim (cases_eq i node) [
        | inl is ↦
            ap (λ (n : ℕ). last_at (found ++ last ∷ []) (get_or after n 0)) is ∙ ap (last_at (found ++ last ∷ [])) here ∙ last_pushed found last
            ∙ sym (ap (λ (n : ℕ). get_or (set (lasts_of found places) node last) n no_last) is ∙ get_or-set_same (lasts_of found places) node last no_last (omega (arith, both, within)))
        | inr other ↦
            ap (last_at (found ++ last ∷ [])) (there i other) ∙ last_push found last (get_or places i 0) (place_below found places i apart)
            ∙ sym (read_found found places i (omega (arith, same, low_here)))
            ∙ sym (get_or-set_other (lasts_of found places) node i last no_last other)
      ])

-- ---- a node of which something was known

module _ (found : List Last) (places : List ℕ) (node : ℕ) (last : Last) (apart : AreApart found places) (within : node < length places) (known : 0 < get_or places node 0) where
  abbrev place : ℕ
  place = get_or places node 0

  low : place < length found
  low = place_below found places node apart

  written_apart : AreApart (set found place last) places
  written_apart = record {
    first = last-set_other found place 0 last (λ is. absurd (omega (arith, is, known))) ∙ apart.first;
    within = All-from_get_or (λ p. p < length (set found place last)) places 0 (λ i here. let was = place_below found places i apart in let same = length-set found place last in omega (arith, was, same));
    apart = apart.apart;
    counted = length-set found place last ∙ apart.counted;
    few = apart.few;
  }

  written_known : lasts_of (set found place last) places ≡ set (lasts_of found places) node last
  written_known =
      let left = count_of (set found place last) places in
      let right = length-set (lasts_of found places) node last in
      let both = count_of found places in
      ext_get_or no_last (lasts_of (set found place last) places) (set (lasts_of found places) node last) (omega (arith, left, right, both))
      (λ i here. let here_too : i < length places = omega (arith, left, here) in
      read_found (set found place last) places i here_too ∙ elim (cases_eq i node) [
        | inl is ↦
            ap (λ (n : ℕ). last_at (set found place last) (get_or places n 0)) is ∙ last-set_same found place last low
            ∙ sym (ap (λ (n : ℕ). get_or (set (lasts_of found places) node last) n no_last) is ∙ get_or-set_same (lasts_of found places) node last no_last (omega (arith, both, within)))
        | inr other ↦
            last-set_other found place (get_or places i 0) last (λ same. other (sym (apart.apart node i (sym same) known)))
            ∙ sym (read_found found places i here_too)
            ∙ sym (get_or-set_other (lasts_of found places) node i last no_last other)
      ])

-- ---- what is written of a node

-- the place of a node of which nothing is known
free_at : (found : List Last) (places : List ℕ) (now : List Last) (n place : ℕ) → lasts_of found places ≡ now → n < length now → place ≡ get_or places n place → place ≡ 0 → get_or places n 0 ≡ 0
free_at found places now n place view within read none = sym (get_or_read places n place (node_within found places now n view within) read 0) ∙ none

pub found_few : (found : List Last) (places : List ℕ) (now : List Last) (n place : ℕ) → AreApart found places → lasts_of found places ≡ now → n < length now
    → place ≡ get_or places n place → place ≡ 0 → length found ≤ 400000
found_few found places now n place apart view within read none =
    let room = used_room places n (node_within found places now n view within) (free_at found places now n place view within read none) in
    omega (arith, room, apart.counted, apart.few)

-- so kept is what is known of nodes
pub record AreKept (found : List Last) (places : List ℕ) (now : List Last) : Type 0 where
  pub apart : AreApart found places
  pub known : lasts_of found places ≡ now

pub added : (found : List Last) (places : List ℕ) (now grown : List Last) (n place next : ℕ) (last : Last) → AreApart found places → lasts_of found places ≡ now → n < length now
    → place ≡ get_or places n place → place ≡ 0 → next ≡ length found → grown ≡ found ++ last ∷ [] → AreKept grown (set places n next) (set now n last)
added found places now grown n place next last apart view within read none at more =
    let there = node_within found places now n view within in
    let free = free_at found places now n place view within read none in
    let kept : AreKept (found ++ last ∷ []) (set places n (length found)) (set now n last) = record {
      apart = added_apart found places n last apart there free;
      known = added_known found places n last apart there free ∙ ap (λ (ls : List Last). set ls n last) view;
    } in
    subst (λ (k : ℕ). AreKept grown (set places n k) (set now n last)) (sym at)
    (subst (λ (ls : List Last). AreKept ls (set places n (length found)) (set now n last)) (sym more) kept)

pub written : (found : List Last) (places : List ℕ) (now : List Last) (n place : ℕ) (last : Last) → AreApart found places → lasts_of found places ≡ now → n < length now
    → place ≡ get_or places n place → place ≢ 0 → AreKept (set found place last) places (set now n last)
written found places now n place last apart view within read some =
    let there = node_within found places now n view within in
    let at = get_or_read places n place there read 0 in
    let known : 0 < get_or places n 0 = omega (arith, at, some) in
    subst (λ (k : ℕ). AreKept (set found k last) places (set now n last)) (sym at) (record {
      apart = written_apart found places n last apart there known;
      known = written_known found places n last apart there known ∙ ap (λ (ls : List Last). set ls n last) view;
    })
