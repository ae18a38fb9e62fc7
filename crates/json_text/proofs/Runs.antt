-- Runs of bytes that need no escape stand as they are.
use Rattle.std.proofs.Common.{◌≡◌, ℕ, suc, ◌+◌, ◌<◌, List, [], ◌∷◌, ◌++◌, take, drop, length, get_or, Bool, true, false, not, cond, ◌||◌, ◌==◌, nat_lt, refl, sym, ap, ◌∙◌, arith, subst}
use Rattle.std.proofs.lemmas.Bool.{false≢true}
use Rattle.std.proofs.lemmas.List.{append-nil}
use Rattle.std.specs.List.{prefix_len}
use Rattle.std.proofs.lemmas.List.Sums.{prefix_len-drop_yes}
use Rattle.json_text.specs.Compact.{escaped_byte, escaped}
use Rattle.json_text.specs.Drafts.{Drafted, onto}
use Rattle.json_text.specs.Runs.{stands_as_it_is}
use Rattle.json_text.proofs.Drafts.{onto_twice}

pub passes_one : (xs : List ℕ) (i d : ℕ) {r : Bool} → i < length xs → r ≡ stands_as_it_is (get_or xs i d) → r ≡ true → {n : ℕ}
    → prefix_len stands_as_it_is (drop (i + 1) xs) ≡ n → prefix_len stands_as_it_is (drop i xs) ≡ 1 + n
passes_one xs i d less is passes more = prefix_len-drop_yes stands_as_it_is xs i d less (sym is ∙ passes) ∙ ap (λ k. 1 + k) more

pub drop_none : (xs : List ℕ) → drop 0 xs ≡ xs
drop_none [] = refl
drop_none (x ∷ xs) = refl

pick : (control quote backslash : Bool) (a b c : List ℕ) → not (control || (quote || backslash)) ≡ true → cond control a (cond (quote || backslash) b c) ≡ c
pick true q s a b c h = absurd (false≢true h)
pick false true s a b c h = absurd (false≢true h)
pick false false true a b c h = absurd (false≢true h)
pick false false false a b c h = refl

pub unescaped : (x : ℕ) → stands_as_it_is x ≡ true → escaped_byte x ≡ x ∷ []
unescaped x h = pick (nat_lt x 32) (x == 34) (x == 92) _ _ (x ∷ []) h

step : (x n : ℕ) (xs : List ℕ) (stands : Bool) → stands_as_it_is x ≡ stands → escaped xs ≡ take n xs ++ escaped (drop n xs)
    → escaped_byte x ++ escaped xs ≡ take (cond stands (1 + n) 0) (x ∷ xs) ++ escaped (drop (cond stands (1 + n) 0) (x ∷ xs))
step x n xs true is more =
    let next : suc n ≡ 1 + n = omega arith in
    subst (λ k. escaped_byte x ++ escaped xs ≡ take k (x ∷ xs) ++ escaped (drop k (x ∷ xs))) next (ap (λ s. s ++ escaped xs) (unescaped x is) ∙ ap (λ s. x ∷ s) more)
step x n xs false is more = refl

-- a text is escaped behind the run in front of it
pub escaped_run : (xs : List ℕ) → escaped xs ≡ take (prefix_len stands_as_it_is xs) xs ++ escaped (drop (prefix_len stands_as_it_is xs) xs)
escaped_run [] = refl
escaped_run (x ∷ xs) = step x (prefix_len stands_as_it_is xs) xs (stands_as_it_is x) refl (escaped_run xs)

-- what is told of the text so far, and of what is left of it, stays behind a run and a byte
pub turn : (out grown new whole : Drafted) (rest behind : List ℕ) (n : ℕ) → onto out (escaped rest) ≡ whole → n ≡ prefix_len stands_as_it_is rest → behind ≡ drop n rest
    → grown ≡ onto out (take n rest) → 0 < length behind → new ≡ onto grown (escaped_byte (get_or behind 0 0)) → onto new (escaped (drop 1 behind)) ≡ whole
turn out grown new whole rest [] n so_far count at more some byte = absurd (omega arith)
turn out grown new whole rest (x ∷ xs) n so_far count at more some byte =
    let run : escaped rest ≡ take n rest ++ escaped (x ∷ xs) = escaped_run rest ∙ ap (λ k. take k rest ++ escaped (drop k rest)) (sym count) ∙ ap (λ s. take n rest ++ escaped s) (sym at) in
    ap (λ d. onto d (escaped xs)) (byte ∙ ap (λ d. onto d (escaped_byte x)) more)
    ∙ onto_twice (onto out (take n rest)) (escaped_byte x) (escaped xs) ∙ onto_twice out (take n rest) (escaped_byte x ++ escaped xs)
    ∙ ap (λ s. onto out s) (sym run) ∙ so_far

-- where nothing is left behind a run, all of the text stands there
pub ended : (out grown whole : Drafted) (rest behind : List ℕ) (n : ℕ) → onto out (escaped rest) ≡ whole → n ≡ prefix_len stands_as_it_is rest → behind ≡ drop n rest
    → grown ≡ onto out (take n rest) → length behind ≡ 0 → grown ≡ whole
ended out grown whole rest (x ∷ xs) n so_far count at more none = absurd (omega arith)
ended out grown whole rest [] n so_far count at more none =
    let run : escaped rest ≡ take n rest ++ escaped [] = escaped_run rest ∙ ap (λ k. take k rest ++ escaped (drop k rest)) (sym count) ∙ ap (λ s. take n rest ++ escaped s) (sym at) in
    more ∙ ap (λ s. onto out s) (sym (append-nil (take n rest)) ∙ sym run) ∙ so_far
