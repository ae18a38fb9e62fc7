-- Which entries stand between two bounds.
use Rattle.std.proofs.Common.{◌≡◌, ◌≢◌, ℕ, ◌+◌, ◌-◌, ◌<◌, ◌≤◌, ℤ, pos, ◌+ℤ◌, ◌-ℤ◌, ◌<ℤ◌, ◌≤ℤ◌, List, Bool, true, false, length, get_or, take, drop, sym, ap, subst, ◌∙◌, arith, inl, inr}
use Rattle.std.specs.Prelude.{◌==◌, nat_lt, int_lt, ◌&&◌, ◌||◌}
use Rattle.std.specs.List.Sorted.{IsPartitionedBy}
use Rattle.std.proofs.lemmas.Bool.{cases_lt}
use Rattle.std.proofs.lemmas.Bool.Decides.{nat_tests}
use Rattle.std.proofs.lemmas.Int.{ints}
use Rattle.std.proofs.lemmas.List.{length-take, length-drop, get_or-take, get_or-drop}
use Rattle.venue_types.specs.declared.feature_id.FeatureId.{FeatureId}
use Rattle.opening_match.specs.declared.entries.Entry.{Entry}
use Rattle.opening_match.specs.declared.frame.Frame.{Frame}
use Rattle.opening_match.specs.Entries.{AreRising, IsNotBehind, AreApart}
use Rattle.opening_match.specs.Stretches.{is_before, IsFront, IsStretch}
use Rattle.opening_match.proofs.Items.{pairs_drop, pairs_take}

-- what it is not to be before the bound
pub record IsBeyond (level : FeatureId) (bound : ℤ) (e : Entry) : Type 0 where
  pub rank : level.0 ≤ e.level.0
  pub x : e.level.0 ≡ level.0 → bound ≤ℤ e.x

-- what it is to be before it
pub record IsWithin (level : FeatureId) (bound : ℤ) (e : Entry) : Type 0 where
  pub rank : e.level.0 ≤ level.0
  pub x : e.level.0 ≡ level.0 → e.x <ℤ bound

-- ---- the test, by its numbers

abbrev test : ℕ → ℕ → ℤ → ℤ → Bool
test m n x b = nat_lt m n || (m == n && int_lt x b)

test_true : (m n : ℕ) (x b : ℤ) → test m n x b ≡ true → (m ≤ n) × (m ≡ n → x <ℤ b)
test_true m n x b e = grind (arith, nat_tests, ints)

test_false : (m n : ℕ) (x b : ℤ) → test m n x b ≡ false → (n ≤ m) × (m ≡ n → b ≤ℤ x)
test_false m n x b e = grind (arith, nat_tests, ints)

test_is : (m n : ℕ) (x b : ℤ) → m ≤ n → (m ≡ n → x <ℤ b) → test m n x b ≡ true
test_is m n x b h l = grind (arith, nat_tests, ints)

before_is : (level : FeatureId) (bound : ℤ) (e : Entry) → is_before level bound e ≡ true → IsWithin level bound e
before_is level bound e is = let both = test_true e.level.0 level.0 e.x bound is in record { rank = both.0; x = both.1 }

beyond_is : (level : FeatureId) (bound : ℤ) (e : Entry) → is_before level bound e ≡ false → IsBeyond level bound e
beyond_is level bound e is = let both = test_false e.level.0 level.0 e.x bound is in record { rank = both.0; x = both.1 }

-- ---- no entry is before the bound behind one that isn't

at_most : (m n k : ℕ) → m ≤ n → n ≤ k → m ≤ k
at_most m n k h l = omega arith

between : (m n k : ℕ) → m ≤ n → n ≤ k → m ≡ k → (m ≡ n) × (n ≡ k)
between m n k h l e = (omega arith, omega arith)

nearer : (x y z : ℤ) → x ≤ℤ y → y <ℤ z → x <ℤ z
nearer x y z h l = omega (arith, ints)

joined : (level : FeatureId) (bound : ℤ) (a b : Entry) → IsNotBehind a b → IsWithin level bound b → IsWithin level bound a
joined level bound a b order w = record {
  rank = at_most a.level.0 b.level.0 level.0 order.level w.rank;
  x = λ same.
      let both = between a.level.0 b.level.0 level.0 order.level w.rank same in
      nearer a.x b.x bound (order.x both.0) (w.x both.1);
}

pub parted : (level : FeatureId) (bound : ℤ) (es : List Entry) → AreRising es → IsPartitionedBy (is_before level bound) es
parted level bound es up i j d from within is =
    let a = get_or es i d in
    let w = joined level bound a (get_or es j d) (up.rise i j d from within) (before_is level bound (get_or es j d) is) in
    test_is a.level.0 level.0 a.x bound w.rank w.x

pub rising_drop : (n : ℕ) (es : List Entry) → AreRising es → AreRising (drop n es)
rising_drop n es up = record {
  rise = λ i j d from within.
      let far : n + j < length es = omega (arith, within, length-drop n es) in
      subst (λ (a : Entry). IsNotBehind a (get_or (drop n es) j d)) (sym (get_or-drop n es i d)) (subst (λ (b : Entry). IsNotBehind (get_or es (n + i) d) b) (sym (get_or-drop n es j d)) (up.rise (n + i) (n + j) d (omega arith) far));
}

same_id : (a b : FeatureId) → a.0 ≡ b.0 → a ≡ b
same_id a b e = ap (λ (n : ℕ). let x : FeatureId = record { 0 = n } in x) e

only_level : (m n : ℕ) → m ≤ n → n ≤ m → n ≡ m
only_level m n h l = omega arith

west_of : (x from west : ℤ) (t : ℕ) → from ≡ west -ℤ pos t → x <ℤ from → west ≤ℤ (x +ℤ pos t) → ⊥
west_of x from west t e h l = omega (arith, ints)

east_of : (x to east : ℤ) (t : ℕ) → to ≡ (east +ℤ pos t) +ℤ pos 1 → to ≤ℤ x → x ≤ℤ (east +ℤ pos t) → ⊥
east_of x to east t e h l = omega (arith, ints)

cut : (es : List Entry) (level : FeatureId) (frame : Frame) (t n m : ℕ) (from to : ℤ) → AreApart es → from ≡ frame.west -ℤ pos t → to ≡ (frame.east +ℤ pos t) +ℤ pos 1
    → IsFront es level from n → IsFront (drop n es) level to m → IsStretch es level frame t (take m (drop n es))
cut es level frame t n m from to apart west east front back = record {
  own = λ e h.
      let k = h.0 in
      let under : k < m = omega (arith, h.1, length-take m (drop n es)) in
      let inside : n + k < length es = omega (arith, h.1, length-take m (drop n es), length-drop n es) in
      let one : get_or (drop n es) k e ≡ e = sym (get_or-take m (drop n es) k e under) ∙ h.2 in
      let two : get_or es (n + k) e ≡ e = sym (get_or-drop n es k e) ∙ one in
      let low = beyond_is level from e (subst (λ (y : Entry). is_before level from y ≡ false) two (front.rest (n + k) e (omega arith) inside)) in
      let high = before_is level to e (subst (λ (y : Entry). is_before level to y ≡ true) one (back.before k e under)) in
      ((n + k, inside, two), same_id e.level level (only_level level.0 e.level.0 low.rank high.rank));
  whole = λ e h same width.
      let k = h.0 in
      let id : e.level.0 ≡ level.0 = ap (λ (i : FeatureId). i.0) same in
      elim (cases_lt k n) [
        | inl less ↦
            let low = before_is level from e (subst (λ (y : Entry). is_before level from y ≡ true) h.2 (front.before k e less)) in
            absurd (west_of e.x from frame.west t west (low.x id) width.west)
        | inr past ↦
            let inside : k - n < length (drop n es) = omega (arith, h.1, length-drop n es) in
            let place : n + (k - n) ≡ k = omega arith in
            let one : get_or (drop n es) (k - n) e ≡ e = get_or-drop n es (k - n) e ∙ ap (λ (i : ℕ). get_or es i e) place ∙ h.2 in
            elim (cases_lt (k - n) m) [
              | inl under ↦ (k - n, omega (arith, inside, under, length-take m (drop n es)), get_or-take m (drop n es) (k - n) e under ∙ one)
              | inr over ↦
                  let high = beyond_is level to e (subst (λ (y : Entry). is_before level to y ≡ false) one (back.rest (k - n) e over inside)) in
                  absurd (east_of e.x to frame.east t east (high.x id) width.east)
            ]
      ];
  apart = pairs_take (λ (a b : Entry). a.place ≢ b.place) m (drop n es) (pairs_drop (λ (a b : Entry). a.place ≢ b.place) n es apart);
}

pub cut_out : (es rest stretch : List Entry) (level : FeatureId) (frame : Frame) (t n m : ℕ) (from to : ℤ) → AreApart es → from ≡ frame.west -ℤ pos t → to ≡ (frame.east +ℤ pos t) +ℤ pos 1
    → IsFront es level from n → IsFront rest level to m → rest ≡ drop n es → stretch ≡ take m rest → IsStretch es level frame t stretch
cut_out es rest stretch level frame t n m from to apart west east front back behind ahead =
    subst (λ (list : List Entry). IsStretch es level frame t list) (sym (ahead ∙ ap (λ (list : List Entry). take m list) behind))
    (cut es level frame t n m from to apart west east front (subst (λ (list : List Entry). IsFront list level to m) behind back))
