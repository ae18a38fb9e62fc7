-- A text that stops being of a form behind some of its lines.
use Rattle.std.proofs.Common.{◌≡◌, ℕ, ◌+◌, ◌<◌, zero, suc, List, [], ◌∷◌, ◌++◌, length, ◌-◌, refl, sym, ap, subst, ◌∙◌, append_assoc, arith, take, drop, inl, inr}
use Rattle.std.proofs.lemmas.Bool.Decides.{leb_tells}
use Rattle.std.proofs.lemmas.List.{length-append, length-take-le, length-drop, take-append-drop}
use Rattle.std.proofs.lemmas.Grind.{flat_map-append}
use Rattle.std.specs.List.{flat_map, AllByRecursion}
use Rattle.line_forms.specs.Lines.{line}
use Rattle.line_forms.specs.Fronts.{Lacks, IsSplitAt, HasNone}
use Rattle.line_forms.specs.Faults.{IsLines, FitsTo, IsFaultLine}
use Rattle.line_forms.proofs.LineLemmas.{lines_unique}
use Rattle.line_forms.proofs.FaultLemmas.{IsLines-append, FitsTo-below, HasNone-line, next_faulty}

-- the same text, or another with the same first line
pub data BeginsAs (rest t : List ℕ) : Type 0 where
  same : t ≡ rest → BeginsAs rest t
  first : (body after more : List ℕ) → IsSplitAt 10 rest body after → t ≡ line body ++ more → BeginsAs rest t

-- behind these lines no text of the form goes on so
pub stuck : (Text : List ℕ → Type 0) (text front rest more : List ℕ) (k : ℕ) → text ≡ front ++ rest → IsLines k front → Text (front ++ more)
    → ((t : List ℕ) → BeginsAs rest t → Text (front ++ t) → ⊥) → IsFaultLine Text text (k + 1)
stuck Text text front rest more k parts lines begun none =
    next_faulty Text text front rest more k parts lines begun (λ is. none rest (same refl) (subst Text parts is))
    (λ body after tail cut is. none (line body ++ tail) (first body after tail cut refl) is)

-- an item that is no front of a rest is none of a text that begins as it
pub HasNone-begins : {X : Type 0} (spelling body : X → List ℕ) (Fits : X → Type 0) → ((x : X) → spelling x ≡ line (body x)) → ((x : X) → Fits x → Lacks 10 (body x))
    → (rest t : List ℕ) → BeginsAs rest t → HasNone spelling Fits rest → HasNone spelling Fits t
HasNone-begins spelling body Fits is lacks rest t (same e) none = subst (HasNone spelling Fits) (sym e) none
HasNone-begins spelling body Fits is lacks rest t (first front after more cut e) none =
    subst (HasNone spelling Fits) (sym e) (HasNone-line spelling body Fits is lacks rest front after more none cut)

-- a text that begins as one with some bytes has some
pub some_begins : (rest t : List ℕ) → BeginsAs rest t → 0 < length rest → 0 < length t
some_begins rest t (same e) some = subst (λ (x : List ℕ). 0 < length x) (sym e) some
some_begins rest t (first body after more cut e) some =
    subst (λ (x : List ℕ). 0 < length x) (sym e) (omega (arith, length-append (line body) more, length-append body (10 ∷ [])))

-- ---- a text behind some lines

-- two cuts of a text behind as many lines are the same
same_bodies : (xs ys : List (List ℕ)) (a b : List ℕ) → length xs ≡ length ys → AllByRecursion (Lacks 10) xs → AllByRecursion (Lacks 10) ys
    → flat_map line xs ++ a ≡ flat_map line ys ++ b → (xs ≡ ys) × (a ≡ b)
same_bodies [] [] a b n p q e = (refl, e)
same_bodies [] (y ∷ ys) a b n p q e = absurd (omega (arith, n))
same_bodies (x ∷ xs) [] a b n p q e = absurd (omega (arith, n))
same_bodies (x ∷ xs) (y ∷ ys) a b n p q e =
    let one = lines_unique x y (flat_map line xs ++ a) (flat_map line ys ++ b) p.0 q.0
    (sym (append_assoc (line x) (flat_map line xs) a) ∙ e ∙ append_assoc (line y) (flat_map line ys) b) in
    let more = same_bodies xs ys a b (omega (arith, n)) p.1 q.1 one.1 in
    (ap (λ (h : List ℕ). h ∷ xs) one.0 ∙ ap (λ (t : List (List ℕ)). y ∷ t) more.0, more.1)

All-take : (n : ℕ) (xs : List (List ℕ)) → AllByRecursion (Lacks 10) xs → AllByRecursion (Lacks 10) (take n xs)
All-take zero xs p = tt
All-take (suc n) [] p = tt
All-take (suc n) (x ∷ xs) p = (p.0, All-take n xs p.1)

All-drop : (n : ℕ) (xs : List (List ℕ)) → AllByRecursion (Lacks 10) xs → AllByRecursion (Lacks 10) (drop n xs)
All-drop zero xs p = p
All-drop (suc n) [] p = tt
All-drop (suc n) (x ∷ xs) p = All-drop n xs p.1

-- the lines behind the first k
pub record Later (k n : ℕ) (front rest whole tail : List ℕ) : Type 0 where
  pub late : List ℕ
  pub lines : IsLines n late
  pub whole_is : whole ≡ front ++ late
  pub rest_is : rest ≡ late ++ tail

later : (k n : ℕ) (front rest whole tail : List ℕ) → IsLines k front → IsLines (k + n) whole → front ++ rest ≡ whole ++ tail → Later k n front rest whole tail
later k n front rest whole tail one both e =
    let bodies = both.bodies in
    let early = flat_map line (take k bodies) in
    let late = flat_map line (drop k bodies) in
    let split : whole ≡ early ++ late = both.spelled ∙ ap (flat_map line) (sym (take-append-drop k bodies)) ∙ flat_map-append line (take k bodies) (drop k bodies) in
    let count : length (take k bodies) ≡ k = length-take-le k bodies (omega (arith, both.count)) in
    let same = same_bodies one.bodies (take k bodies) rest (late ++ tail) (omega (arith, count, one.count)) one.apart (All-take k bodies both.apart)
    (ap (λ (t : List ℕ). t ++ rest) (sym one.spelled) ∙ e ∙ ap (λ (t : List ℕ). t ++ tail) split ∙ append_assoc early late tail) in
    let fronts : front ≡ early = one.spelled ∙ ap (flat_map line) same.0 in
    record {
      late = late;
      lines = record { bodies = drop k bodies; count = omega (arith, length-drop k bodies, both.count); spelled = refl; apart = All-drop k bodies both.apart };
      whole_is = split ∙ ap (λ (t : List ℕ). t ++ late) (sym fronts);
      rest_is = same.1;
    }

-- where a text goes on, behind k lines, by another form, its faulty line is k further
pub fault_behind : (Text Rest : List ℕ → Type 0) (text front rest end : List ℕ) (k n : ℕ) → text ≡ front ++ rest → IsLines k front
    → ((t : List ℕ) → Rest t → Text (front ++ t)) → ((t : List ℕ) → Text (front ++ t) → Rest t) → Rest end → IsFaultLine Rest rest n → IsFaultLine Text text (k + n)
fault_behind Text Rest text front rest end k n parts lines up down ends fault = record {
  some = omega (arith, fault.some);
  other = λ is. fault.other (down rest (subst Text parts is));
  before = λ m low less.
      elim (leb_tells m k) [
        | inl early ↦ FitsTo-below Text text m k early.1 (record { front = front; rest = rest; more = end; parts = parts; lines = lines; begun = up end ends })
        | inr late ↦
            let j : ℕ = m - k in
            let fits = fault.before j (omega (arith, late.1)) (omega (arith, late.1, less)) in
            let whole : FitsTo Text text (k + j) = record {
              front = front ++ fits.front;
              rest = fits.rest;
              more = fits.more;
              parts = parts ∙ ap (λ (t : List ℕ). front ++ t) fits.parts ∙ sym (append_assoc front fits.front fits.rest);
              lines = IsLines-append k j front fits.front lines fits.lines;
              begun = subst Text (sym (append_assoc front fits.front fits.more)) (up (fits.front ++ fits.more) fits.begun);
            } in
            let same : k + j ≡ m = omega (arith, late.1) in
            subst (FitsTo Text text) same whole
      ];
  here = λ fits.
      let split = later k n front rest fits.front fits.rest lines fits.lines (sym parts ∙ fits.parts) in
      fault.here (record {
        front = split.late;
        rest = fits.rest;
        more = fits.more;
        parts = split.rest_is;
        lines = split.lines;
        begun = down (split.late ++ fits.more) (subst Text (ap (λ (t : List ℕ). t ++ fits.more) split.whole_is ∙ append_assoc front split.late fits.more) fits.begun);
      });
}
