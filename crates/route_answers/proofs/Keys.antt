-- Keys tell the rows of links.
use Rattle.std.proofs.Common.{◌≡◌, ◌≢◌, ℕ, ◌+◌, ◌<◌, ◌≤◌, zero, suc, Bool, true, false, ◌&&◌, cond, eqb, List, [], ◌∷◌, length, ◌++◌, get_or, take, map, filter, Option, Some, None, refl, sym, ap, ◌∙◌, subst, arith, eq-eqb, length-append, true≢false, inl, inr, ⊎_elim}
use Rattle.std.specs.Prelude.{AllPairs, Contains, slice_get}
use Rattle.std.specs.BTreeMap.{BTreeMap, get}
use Rattle.std.specs.List.{AllByRecursion}
use Rattle.std.proofs.lemmas.Bool.{cases_Bool, cases_lt, eqb-true}
use Rattle.std.proofs.lemmas.List.{append-nil}
use Rattle.std.proofs.lemmas.List.Elements.{filter_more}
use Rattle.std.proofs.lemmas.Option.{same_Some, slice_get-get_or}
use Rattle.venue_types.specs.declared.feature_id.FeatureId.{FeatureId}
use Rattle.venue_types.specs.declared.link.Link.{Link}
use Rattle.venue_types.specs.declared.settings.Profile.{Profile}
use Rattle.link_graph.specs.Networks.{Network}
use Rattle.route_certificate.specs.declared.table.TableLink.{TableLink}
use Rattle.route_answers.specs.declared.firsts.RowKey.{RowKey}
use Rattle.route_answers.specs.Passing.{id_at, link_row, passes_link, rows_of}
use Rattle.route_answers.specs.Places.{IsFirstPlace}
use Rattle.route_answers.specs.Placing.{KnowsFirsts, StandsFirst, first_of, key_cmp, key_of, noted, same_key}
use Rattle.route_answers.proofs.Everywhere.{all_kept}
use Rattle.route_answers.proofs.FirstRows.{first_later}
use Rattle.route_answers.proofs.Rising.{at_item, kept_at}

-- ---- identifiers

id_read : (ids : List FeatureId) (v : ℕ) (d : FeatureId) → v < length ids → id_at ids v ≡ get_or ids v d
unfolding id_at
id_read ids v d within = ap (λ (found : Option FeatureId). elim found [ None ↦ record { 0 = 0 } | Some id ↦ id ]) (slice_get-get_or ids v d within)

id_apart : (ids : List FeatureId) (v w : ℕ) → AllPairs (λ a b. a ≢ b) ids → v < w → w < length ids → id_at ids v ≢ id_at ids w
id_apart ids v w once less within same =
    let d : FeatureId = id_at ids v in
    once v w d less within (sym (id_read ids v d (omega (arith, less, within))) ∙ same ∙ id_read ids w d within)

-- identifiers that stand once tell their places
pub id_same : (ids : List FeatureId) (v w : ℕ) → AllPairs (λ a b. a ≢ b) ids → v < length ids → w < length ids → id_at ids v ≡ id_at ids w → v ≡ w
id_same ids v w once here there same =
    ⊎_elim
    (λ (less : v < w). absurd (id_apart ids v w once less there same))
    (λ (most : w ≤ v).
    ⊎_elim
    (λ (less : w < v). absurd (id_apart ids w v once less here (sym same)))
    (λ (more : v ≤ w). omega (arith, most, more))
    (cases_lt w v))
    (cases_lt v w)

-- ---- keys and rows

both_true : (a b : Bool) → (a && b) ≡ true → (a ≡ true) × (b ≡ true)
both_true true b e = (refl, e)
both_true false b e = absurd (true≢false (sym e))

are_both : (a b : Bool) → a ≡ true → b ≡ true → (a && b) ≡ true
are_both true b e f = f
are_both false b e f = absurd (true≢false (sym e))

abbrev row : ℕ → ℕ → ℕ → FeatureId → TableLink
row from to cost via = record { from = from; to = to; cost = cost; via = via }

same_row : (given : Network) (link other : Link) → same_key (key_of link) (key_of other) ≡ true → link_row given other ≡ link_row given link
unfolding link_row
same_row given link other same =
    let ids = given.closables in
    let from = both_true (eqb link.from other.from) _ same in
    let to = both_true (eqb link.to other.to) _ from.1 in
    let via = both_true (eqb link.via other.via) _ to.1 in
    ap (λ (n : ℕ). row n other.to other.cost (id_at ids other.via)) (sym (eqb-true link.from other.from from.0))
    ∙ ap (λ (n : ℕ). row link.from n other.cost (id_at ids other.via)) (sym (eqb-true link.to other.to to.0))
    ∙ ap (λ (n : ℕ). row link.from link.to n (id_at ids other.via)) (sym (eqb-true link.cost other.cost via.1))
    ∙ ap (λ (n : ℕ). row link.from link.to link.cost (id_at ids n)) (sym (eqb-true link.via other.via via.0))

key_by_row : (given : Network) (link other : Link) → AllPairs (λ a b. a ≢ b) given.closables → link.via < length given.closables → other.via < length given.closables → link_row given other ≡ link_row given link
    → same_key (key_of link) (key_of other) ≡ true
unfolding link_row
key_by_row given link other once here there same =
    are_both _ _ (eq-eqb link.from other.from (sym (ap (λ (r : TableLink). r.from) same)))
    (are_both _ _ (eq-eqb link.to other.to (sym (ap (λ (r : TableLink). r.to) same)))
    (are_both _ _ (eq-eqb link.via other.via (sym (id_same given.closables other.via link.via once there here (ap (λ (r : TableLink). r.via) same))))
    (eq-eqb link.cost other.cost (sym (ap (λ (r : TableLink). r.cost) same)))))

-- ---- the first of a key

found_later : (same : Bool) (n : ℕ) (rest : Option ℕ) → (k : ℕ) × (rest ≡ Some k) → (k : ℕ) × (cond same (Some n) rest ≡ Some k)
found_later true n rest found = (n, refl)
found_later false n rest found = found

first_found : (link : Link) (n : ℕ) (links : List Link) (i : ℕ) → slice_get links i ≡ Some link → (k : ℕ) × (first_of (key_of link) n links ≡ Some k)
first_found link n [] i at = absurd (let no_item : None ≡ Some link = at in cc)
first_found link n (x ∷ xs) zero at =
    let same : x ≡ link = same_Some x link at in
    let own : same_key (key_of link) (key_of link) ≡ true = are_both _ _ (eq-eqb link.from link.from refl) (are_both _ _ (eq-eqb link.to link.to refl) (are_both _ _ (eq-eqb link.via link.via refl) (eq-eqb link.cost link.cost refl))) in
    (n, ap (λ (y : Link). cond (same_key (key_of link) (key_of y)) (Some n) (first_of (key_of link) (n + 1) xs)) same ∙ ap (λ (b : Bool). cond b (Some n) (first_of (key_of link) (n + 1) xs)) own)
first_found link n (x ∷ xs) (suc i) at = found_later (same_key (key_of link) (key_of x)) n (first_of (key_of link) (n + 1) xs) (first_found link (n + 1) xs i at)

first_stands : (given : Network) (link : Link) → AllPairs (λ a b. a ≢ b) given.closables → link.via < length given.closables → (n k : ℕ) (links : List Link) → AllByRecursion (λ (l : Link). l.via < length given.closables) links
    → first_of (key_of link) n links ≡ Some k → (j : ℕ) × (k ≡ n + j) × IsFirstPlace (map (link_row given) links) (link_row given link) j
first_stands given link once own n k [] within is = absurd (let no_item : None ≡ Some k = is in cc)
first_stands given link once own n k (x ∷ xs) within is = elim (cases_Bool (same_key (key_of link) (key_of x))) [
  | inl same ↦ (
    0,
    let here : Some n ≡ Some k = sym (ap (λ (b : Bool). cond b (Some n) (first_of (key_of link) (n + 1) xs)) same) ∙ is in
        let here_is : n ≡ k = same_Some n k here in
        omega (arith, here_is),
    record { there = ap (λ (r : TableLink). Some r) (same_row given link x same); first = λ j at. omega arith },
  )
  | inr differ ↦
      let rest = first_stands given link once own (n + 1) k xs within.1 (sym (ap (λ (b : Bool). cond b (Some n) (first_of (key_of link) (n + 1) xs)) differ) ∙ is) in
      let later = rest.1 in (
        suc rest.0,
        omega (arith, later),
        first_later (link_row given x) (map (link_row given) xs) (link_row given link) rest.0 (λ e. true≢false (sym (key_by_row given link x once own within.0 e) ∙ differ)) rest.2,
      )
]

-- what is known of the key of a link that the profile allows is the first place of its row
pub known_place : (given : Network) (profile : Profile) (links : List Link) (firsts : BTreeMap RowKey ℕ) (link : Link) → AllPairs (λ a b. a ≢ b) given.closables → AllByRecursion (λ (l : Link). l.via < length given.closables) links
    → link.via < length given.closables → KnowsFirsts given profile links firsts → Contains links link → passes_link given profile link ≡ true → (k : ℕ) × (get key_cmp firsts (key_of link) ≡ Some k) × StandsFirst given profile links link k
unfolding rows_of
known_place given profile links firsts link once within own knows there passes =
    let at = at_item links link there in
    let kept = filter (passes_link given profile) links in
    let found = first_found link 0 kept _ (kept_at (passes_link given profile) links at.0 link at.1 passes) in
    let stands = first_stands given link once own 0 found.0 kept (all_kept (λ (l : Link). l.via < length given.closables) (passes_link given profile) links within) found.1 in
    let same : stands.0 ≡ found.0 = let is = stands.1 in omega (arith, is) in
    (found.0, knows (key_of link) ∙ found.1, subst (IsFirstPlace (map (link_row given) kept) (link_row given link)) same stands.2)

-- ---- one link more

noted_step : (key : RowKey) (same is : Bool) (n place : ℕ) (rest : Option ℕ) → noted (cond same (Some n) rest) is place ≡ cond same (Some n) (noted rest is place)
noted_step key true is n place rest = refl
noted_step key false is n place rest = refl

first_pushed : (key : RowKey) (n : ℕ) (links : List Link) (link : Link) → first_of key n (links ++ link ∷ []) ≡ noted (first_of key n links) (same_key key (key_of link)) (n + length links)
first_pushed key n [] link = ap (λ (place : ℕ). cond (same_key key (key_of link)) (Some place) None) (let e : n ≡ n + 0 = omega arith in e)
first_pushed key n (x ∷ xs) link =
    ap (λ (later : Option ℕ). cond (same_key key (key_of x)) (Some n) later)
    (first_pushed key (n + 1) xs link ∙ ap (λ (place : ℕ). noted (first_of key (n + 1) xs) (same_key key (key_of link)) place) (let e : n + 1 + length xs ≡ n + suc (length xs) = omega arith in e))
    ∙ sym (noted_step key (same_key key (key_of x)) (same_key key (key_of link)) n (n + suc (length xs)) (first_of key (n + 1) xs))

pub kept_one : (given : Network) (profile : Profile) (links : List Link) (i : ℕ) (d : Link) → i < length links → passes_link given profile (get_or links i d) ≡ true
    → filter (passes_link given profile) (take (i + 1) links) ≡ filter (passes_link given profile) (take i links) ++ get_or links i d ∷ []
kept_one given profile links i d within pass =
    filter_more (passes_link given profile) links i d within
    ∙ ap (λ (b : Bool). filter (passes_link given profile) (take i links) ++ cond b (get_or links i d ∷ []) []) pass

pub left_one : (given : Network) (profile : Profile) (links : List Link) (i : ℕ) (d : Link) → i < length links → passes_link given profile (get_or links i d) ≡ false
    → filter (passes_link given profile) (take (i + 1) links) ≡ filter (passes_link given profile) (take i links)
left_one given profile links i d within fail =
    filter_more (passes_link given profile) links i d within
    ∙ ap (λ (b : Bool). filter (passes_link given profile) (take i links) ++ cond b (get_or links i d ∷ []) []) fail
    ∙ append-nil (filter (passes_link given profile) (take i links))

-- a link that the profile allows is noted
pub more_known : (given : Network) (profile : Profile) (links : List Link) (i : ℕ) (d : Link) (count : ℕ) (old new : BTreeMap RowKey ℕ) → i < length links → KnowsFirsts given profile (take i links) old
    → count ≡ length (filter (passes_link given profile) (take i links)) → passes_link given profile (get_or links i d) ≡ true
    → ((key : RowKey) → get key_cmp new key ≡ noted (get key_cmp old key) (same_key key (key_of (get_or links i d))) count) → KnowsFirsts given profile (take (i + 1) links) new
more_known given profile links i d count old new within known count_is pass noted_is = λ key.
    let link : Link = get_or links i d in
    let kept = filter (passes_link given profile) (take i links) in
    noted_is key
    ∙ ap (λ (found : Option ℕ). noted found (same_key key (key_of link)) count) (known key)
    ∙ ap (λ (place : ℕ). noted (first_of key 0 kept) (same_key key (key_of link)) place) (let e : count ≡ 0 + length kept = omega (arith, count_is) in e)
    ∙ sym (first_pushed key 0 kept link)
    ∙ ap (λ (links : List Link). first_of key 0 links) (sym (kept_one given profile links i d within pass))

-- one that it doesn't allow is left out
pub same_known : (given : Network) (profile : Profile) (links : List Link) (i : ℕ) (d : Link) (firsts : BTreeMap RowKey ℕ) → i < length links → KnowsFirsts given profile (take i links) firsts → passes_link given profile (get_or links i d) ≡ false
    → KnowsFirsts given profile (take (i + 1) links) firsts
same_known given profile links i d firsts within known fail = λ key. known key ∙ ap (λ (links : List Link). first_of key 0 links) (sym (left_one given profile links i d within fail))

pub count_more : (given : Network) (profile : Profile) (links : List Link) (i : ℕ) (d : Link) (count new : ℕ) → i < length links → count ≡ length (filter (passes_link given profile) (take i links)) → passes_link given profile (get_or links i d) ≡ true
    → new ≡ count + 1 → new ≡ length (filter (passes_link given profile) (take (i + 1) links))
count_more given profile links i d count new within count_is pass more =
    let kept = filter (passes_link given profile) (take i links) in
    let all : length (filter (passes_link given profile) (take (i + 1) links)) ≡ length (kept ++ get_or links i d ∷ []) = ap (λ (ls : List Link). length ls) (kept_one given profile links i d within pass) in
    let sum = length-append kept (get_or links i d ∷ []) in
    omega (arith, all, sum, count_is, more)

pub count_same : (given : Network) (profile : Profile) (links : List Link) (i : ℕ) (d : Link) (count new : ℕ) → i < length links → count ≡ length (filter (passes_link given profile) (take i links)) → passes_link given profile (get_or links i d) ≡ false
    → new ≡ count → new ≡ length (filter (passes_link given profile) (take (i + 1) links))
count_same given profile links i d count new within count_is fail same =
    same ∙ count_is ∙ ap (λ (ls : List Link). length ls) (sym (left_one given profile links i d within fail))
