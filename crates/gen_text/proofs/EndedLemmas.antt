-- Items that each have a comma behind them.
use Rattle.std.proofs.Common.{◌≡◌, ℕ, ◌+◌, List, [], ◌∷◌, ◌++◌, map, sym, ap, ◌∙◌, append_assoc, append-nil, arith}
use Rattle.std.specs.List.{flat_map, range_with_len, join_with_byte}
use Rattle.std.proofs.lemmas.Grind.{flat_map-append}
use Rattle.std.proofs.lemmas.List.Folds.{flat_map-map}
use Rattle.std.proofs.lemmas.List.FromFn.{map-range_with_len_more}
use Rattle.gen_text.specs.Ended.{with_comma, ended}
use Rattle.gen_text.specs.Texts.{rooms}

-- without the last comma, the items are parted by commas
pub ended_joined : (item : List ℕ) (items : List (List ℕ)) → ended (item ∷ items) ≡ join_with_byte 44 (item ∷ items) ++ 44 ∷ []
ended_joined x [] = append-nil (x ++ 44 ∷ [])
ended_joined x (y ∷ ys) =
    ap (λ (xs : List ℕ). (x ++ 44 ∷ []) ++ xs) (ended_joined y ys)
    ∙ append_assoc x (44 ∷ []) (join_with_byte 44 (y ∷ ys) ++ 44 ∷ [])
    ∙ sym (append_assoc x (44 ∷ join_with_byte 44 (y ∷ ys)) (44 ∷ []))

pub ended-append : (xs ys : List (List ℕ)) → ended (xs ++ ys) ≡ ended xs ++ ended ys
ended-append xs ys = flat_map-append with_comma xs ys

range_more : (f : ℕ → List ℕ) (k : ℕ) → map f (range_with_len 0 (k + 1)) ≡ map f (range_with_len 0 k) ++ f k ∷ []
range_more f k = map-range_with_len_more f 0 k k (omega arith)

-- one item a turn
pub ended_map_more : (f : ℕ → List ℕ) (old a b : List ℕ) (k : ℕ) → a ≡ old ++ ended (map f (range_with_len 0 k)) → b ≡ a ++ with_comma (f k)
    → b ≡ old ++ ended (map f (range_with_len 0 (k + 1)))
ended_map_more f old a b k p q =
    q ∙ ap (λ (xs : List ℕ). xs ++ with_comma (f k)) p
    ∙ append_assoc old (ended (map f (range_with_len 0 k))) (with_comma (f k))
    ∙ ap (λ (xs : List ℕ). old ++ xs)
    (ap (λ (xs : List ℕ). ended (map f (range_with_len 0 k)) ++ xs) (sym (append-nil (with_comma (f k))))
    ∙ sym (ended-append (map f (range_with_len 0 k)) (f k ∷ []))
    ∙ ap ended (sym (range_more f k)))

-- the items of all rooms
pub all_rooms : (f : ℕ → List ℕ) (old a : List ℕ) (k : ℕ) → k ≡ 100 → a ≡ old ++ ended (map f (range_with_len 0 k)) → a ≡ old ++ ended (map f rooms)
unfolding rooms
all_rooms f old a k e p = p ∙ ap (λ (n : ℕ). old ++ ended (map f (range_with_len 0 n))) e

all_items : (f : ℕ → List (List ℕ)) (xs : List ℕ) → flat_map (λ (x : List (List ℕ)). x) (map f xs) ≡ flat_map f xs
all_items f xs = flat_map-map (λ (x : List (List ℕ)). x) f xs

-- one more level
lists_more : (f : ℕ → List (List ℕ)) (k : ℕ) → flat_map f (range_with_len 0 (k + 1)) ≡ flat_map f (range_with_len 0 k) ++ f k
lists_more f k =
    sym (all_items f (range_with_len 0 (k + 1)))
    ∙ ap (flat_map (λ (x : List (List ℕ)). x)) (map-range_with_len_more f 0 k k (omega arith))
    ∙ flat_map-append (λ (x : List (List ℕ)). x) (map f (range_with_len 0 k)) (f k ∷ [])
    ∙ ap (λ (xs : List (List ℕ)). flat_map (λ (x : List (List ℕ)). x) (map f (range_with_len 0 k)) ++ xs) (append-nil (f k))
    ∙ ap (λ (xs : List (List ℕ)). xs ++ f k) (all_items f (range_with_len 0 k))

-- the items of a level a turn
pub ended_lists_more : (f : ℕ → List (List ℕ)) (old a b : List ℕ) (k : ℕ) → a ≡ old ++ ended (flat_map f (range_with_len 0 k)) → b ≡ a ++ ended (f k)
    → b ≡ old ++ ended (flat_map f (range_with_len 0 (k + 1)))
ended_lists_more f old a b k p q =
    q ∙ ap (λ (xs : List ℕ). xs ++ ended (f k)) p
    ∙ append_assoc old (ended (flat_map f (range_with_len 0 k))) (ended (f k))
    ∙ ap (λ (xs : List ℕ). old ++ xs)
    (sym (ended-append (flat_map f (range_with_len 0 k)) (f k))
    ∙ ap ended (sym (lists_more f k)))
