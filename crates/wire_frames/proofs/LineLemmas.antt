-- A line at a time the reading of a head comes to the same as a byte at a time.
use Rattle.std.proofs.Common.{◌≡◌, ℕ, zero, suc, ◌+◌, Bool, true, false, not, ◌==◌, List, [], ◌∷◌, ◌++◌, length, refl, sym, ap, ◌∙◌, arith, length-append, add-one, None}
use Rattle.std.proofs.lemmas.List.Elements.{All-head, All-tail}
use Rattle.wire_frames.specs.Heads.{HeadState, front, front_return, line, fresh, fresh_return, extent_from}
use Rattle.wire_frames.specs.Lines.{IsUnbroken, is_blank_line, place_behind}
use Rattle.wire_frames.proofs.HeadLemmas.{line_goes}

no_feed : (b : ℕ) → not (b == 10) ≡ true → (b == 10) ≡ false
no_feed b is = by_test (b == 10) is
  where
    by_test : (test : Bool) → not test ≡ true → test ≡ false
    by_test true e = absurd (cc)
    by_test false e = refl

-- without a LF no head ends
pub no_end : (place : HeadState) (n k : ℕ) (bytes : List ℕ) → IsUnbroken bytes → extent_from place n k bytes ≡ None
no_end place n k [] all = refl
no_end place n k (b ∷ bytes) all =
    let P : ℕ → Type 0 = λ v. not (v == 10) ≡ true in
    let ne = no_feed b (All-head P b bytes all) in
    let later = λ (p : HeadState) (j : ℕ). no_end p (n + 1) j bytes (All-tail P b bytes all) in
    by_place place ne later
  where
    by_place : (p : HeadState) → (b == 10) ≡ false → ((q : HeadState) (j : ℕ) → extent_from q (n + 1) j bytes ≡ None)
        → extent_from p n k (b ∷ bytes) ≡ None
    by_place front ne later = later _ _
    by_place front_return ne later = later _ _
    by_place line ne later = later _ _
    by_place fresh ne later = rw ne (later _ _)
    by_place fresh_return ne later = rw ne (later _ _)

-- the rest of a line that isn't empty
pub line_read : (text rest : List ℕ) (n k m : ℕ) → IsUnbroken text → m ≡ n + length text + 1
    → extent_from line n k (text ++ 10 ∷ rest) ≡ extent_from fresh m (k + 1) rest
line_read text rest n k m all e =
    line_goes (λ b. not (b == 10)) text (10 ∷ rest) n k (n + length text) refl all refl
    ∙ ap (λ (v : ℕ). extent_from fresh v (k + 1) rest) (sym e)

-- a byte that is neither CR nor LF begins a line that isn't empty
enter : (k b : ℕ) (rest : List ℕ) (n : ℕ) → (b == 10) ≡ false → (b == 13) ≡ false
    → extent_from (place_behind k) n k (b ∷ rest) ≡ extent_from line (n + 1) k rest
enter zero b rest n feed return = rw (feed, return) refl
enter (suc k) b rest n feed return = rw (feed, return) refl

-- a CR that no LF follows begins one too
enter_return : (k b c : ℕ) (rest : List ℕ) (n : ℕ) → (b == 10) ≡ false → (b == 13) ≡ true → (c == 10) ≡ false
    → extent_from (place_behind k) n k (b ∷ c ∷ rest) ≡ extent_from line (n + 1 + 1) k rest
enter_return zero b c rest n feed return other = rw (feed, return, other) refl
enter_return (suc k) b c rest n feed return other = rw (feed, return, other) refl

-- a line that isn't empty, from its start
pub full_line : (text rest : List ℕ) (n k m : ℕ) → IsUnbroken text → is_blank_line text ≡ false → m ≡ n + length text + 1
    → extent_from (place_behind k) n k (text ++ 10 ∷ rest) ≡ extent_from fresh m (k + 1) rest
full_line [] rest n k m all blank e = absurd (cc)
full_line (b ∷ []) rest n k m all blank e =
    let P : ℕ → Type 0 = λ v. not (v == 10) ≡ true in
    enter k b (10 ∷ rest) n (no_feed b (All-head P b [] all)) blank
    ∙ line_read [] rest (n + 1) k m (All-tail P b [] all) (omega arith)
full_line (b ∷ c ∷ text) rest n k m all blank e =
    let P : ℕ → Type 0 = λ v. not (v == 10) ≡ true in
    let tail = All-tail P b (c ∷ text) all in
    by_test (b == 13) refl (no_feed b (All-head P b (c ∷ text) all)) (no_feed c (All-head P c text tail)) tail
  where
    by_test : (test : Bool) → (b == 13) ≡ test → (b == 10) ≡ false → (c == 10) ≡ false → IsUnbroken (c ∷ text)
        → extent_from (place_behind k) n k (b ∷ c ∷ text ++ 10 ∷ rest) ≡ extent_from fresh m (k + 1) rest
    by_test true is feed other tail =
        enter_return k b c (text ++ 10 ∷ rest) n feed is other
        ∙ line_read text rest (n + 1 + 1) k m (All-tail (λ (v : ℕ). not (v == 10) ≡ true) c text tail) (omega arith)
    by_test false is feed other tail =
        enter k b (c ∷ text ++ 10 ∷ rest) n feed is ∙ line_read (c ∷ text) rest (n + 1) k m tail (omega arith)

-- ---- the same of what is left, cut at its first LF

pub cut_length : (rest text behind : List ℕ) → rest ≡ text ++ 10 ∷ behind → length rest ≡ length text + 1 + length behind
cut_length rest text behind cut = ap (λ (t : List ℕ). length t) cut ∙ length-append text (10 ∷ behind) ∙ omega arith

pub full_step : (rest text behind : List ℕ) (n k m : ℕ) → IsUnbroken text → rest ≡ text ++ 10 ∷ behind
    → is_blank_line text ≡ false → m ≡ n + length text + 1
    → extent_from (place_behind k) n k rest ≡ extent_from (place_behind (k + 1)) m (k + 1) behind
full_step rest text behind n k m all cut blank e =
    ap (λ (t : List ℕ). extent_from (place_behind k) n k t) cut
    ∙ full_line text behind n k m all blank e
    ∙ ap (λ (v : ℕ). extent_from (place_behind v) m (k + 1) behind) (sym (add-one k))
