-- What torn bytes keep, and what a write puts.
use Rattle.std.proofs.Common.{◌≡◌, ℕ, ◌+◌, ◌-◌, ◌≤◌, min, List, [], ◌∷◌, ◌++◌, length, get_or, take}
use Rattle.std.proofs.Common.{drop, refl, sym, ◌∙◌, ap, arith, append_assoc, length-append, take-append-drop}
use Rattle.std.proofs.lemmas.List.{take_at, drop_at, drop_more, take_all, drop_all, take-take, length-drop, drop-drop}
use Rattle.venue_ports.specs.Moments.{Range, IsTorn, with_piece}

module _ (front rest : List ℕ) (x : ℕ) where
  whole : ℕ
  whole = length (front ++ x ∷ rest)

  long : length (front ++ x ∷ rest) ≡ length front + 1 + length rest
  long = omega (arith, length-append front (x ∷ rest))

  one_more : length (front ++ x ∷ []) ≡ length front + 1
  one_more = omega (arith, length-append front (x ∷ []))

  apart : front ++ x ∷ rest ≡ (front ++ x ∷ []) ++ rest
  apart = sym (append_assoc front (x ∷ []) rest)

  front_of : take (length front + 1) (front ++ x ∷ rest) ≡ front ++ x ∷ []
  front_of = ap (take (length front + 1)) apart ∙ take_at (front ++ x ∷ []) rest (length front + 1) one_more

  back_of : drop (length front + 1) (front ++ x ∷ rest) ≡ rest
  back_of = ap (drop (length front + 1)) apart ∙ drop_at (front ++ x ∷ []) rest (length front + 1) one_more

  -- a write behind the gate leaves the gate and what is in front of it
  pub torn_behind : (at n : ℕ) (c : List ℕ) → length front + 1 ≤ at → IsTorn (record { at = at; count = n }) (front ++ x ∷ rest) c
      → c ≡ front ++ x ∷ drop (length front + 1) c
  torn_behind at n c le torn =
      let g = length front + 1 in
      let reach : g ≤ min at (length (front ++ x ∷ rest)) = omega (arith, le, long) in
      let same : take g c ≡ front ++ x ∷ [] =
      sym (take-take g (min at (length (front ++ x ∷ rest))) c reach) ∙ ap (take g) torn.front ∙ take-take g at (front ++ x ∷ rest) le ∙ front_of in
      sym (take-append-drop g c) ∙ ap (λ (l : List ℕ). l ++ drop g c) same ∙ append_assoc front (x ∷ []) (drop g c)

  -- a write of the gate leaves all but the gate
  pub torn_gate : (c : List ℕ) → IsTorn (record { at = length front; count = 1 }) (front ++ x ∷ rest) c → c ≡ front ++ get_or c (length front) 0 ∷ rest
  torn_gate c torn =
      let n = length front in
      let reach : min n (length (front ++ x ∷ rest)) ≡ n = omega (arith, long) in
      let same : take n c ≡ front = ap (λ k. take k c) (sym reach) ∙ torn.front ∙ take_at front (x ∷ rest) n refl in
      let left : length (front ++ x ∷ rest) - (n + 1) ≡ length rest = omega (arith, long) in
      let short : length (drop (n + 1) c) ≤ length rest = omega (arith, length-drop (n + 1) c, torn.no_longer, long) in
      let back : drop (n + 1) c ≡ rest = sym (take_all (length rest) (drop (n + 1) c) short) ∙ ap (λ k. take k (drop (n + 1) c)) (sym left) ∙ torn.behind ∙ back_of in
      let more : drop n c ≡ get_or c n 0 ∷ rest = drop_more c n 0 (omega (arith, torn.no_shorter, long)) ∙ ap (λ (l : List ℕ). get_or c n 0 ∷ l) back in
      sym (take-append-drop n c) ∙ ap (λ (l : List ℕ). l ++ drop n c) same ∙ ap (λ (l : List ℕ). front ++ l) more

  -- the gate written
  pub written_gate : (y : ℕ) → with_piece (front ++ x ∷ rest) (length front) (y ∷ []) ≡ front ++ y ∷ rest
  written_gate y =
      ap (λ (l : List ℕ). l ++ y ∷ drop (length front + 1) (front ++ x ∷ rest)) (take_at front (x ∷ rest) (length front) refl)
      ∙ ap (λ (l : List ℕ). front ++ y ∷ l) back_of

-- a piece written behind a front
pub written_on : (front rest piece : List ℕ) (at : ℕ) → length front ≡ at → with_piece (front ++ rest) at piece ≡ front ++ (piece ++ drop (length piece) rest)
written_on front rest piece at is =
    ap (λ (l : List ℕ). l ++ (piece ++ drop (at + length piece) (front ++ rest))) (take_at front rest at is)
    ∙ ap (λ (l : List ℕ). front ++ (piece ++ l)) (sym (drop-drop (length piece) at (front ++ rest)) ∙ ap (drop (length piece)) (drop_at front rest at is))

-- the first byte written
pub written_first : (old : List ℕ) (y : ℕ) → length old ≤ 1 → with_piece old 0 (y ∷ []) ≡ y ∷ []
written_first old y le = ap (λ (l : List ℕ). y ∷ l) (drop_all 1 old le)

-- torn twice in one range is torn once
pub torn_again : (range : Range) (a b c : List ℕ) → IsTorn range a b → IsTorn range b c → IsTorn range a c
torn_again range a b c one two =
    let s = range.at in
    let e = range.at + range.count in
    let k = min s (length a) in
    record {
      front = sym (take-take k (min s (length b)) c (omega (arith, one.no_shorter))) ∙ ap (take k) two.front ∙ take-take k s b (omega arith) ∙ one.front;
      behind = sym (take-take (length a - e) (length b - e) (drop e c) (omega (arith, one.no_shorter))) ∙ ap (take (length a - e)) two.behind ∙ one.behind;
      no_shorter = omega (arith, one.no_shorter, two.no_shorter);
      no_longer = omega (arith, one.no_longer, two.no_longer);
    }
