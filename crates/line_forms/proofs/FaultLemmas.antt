-- Lines are cut in one way, and what makes a line the faulty one.
use Rattle.std.proofs.Common.{◌≡◌, ℕ, ◌+◌, ◌<◌, ◌≤◌, zero, suc, List, [], ◌∷◌, ◌++◌, length, take, drop, refl, sym, ap, subst, ◌∙◌, append_assoc, arith}
use Rattle.std.specs.List.{flat_map, AllByRecursion}
use Rattle.line_forms.specs.Lines.{line}
use Rattle.line_forms.specs.Fronts.{Lacks, IsSplitAt, HasNone}
use Rattle.line_forms.specs.Faults.{IsLines, FitsTo, IsFaultLine}
use Rattle.line_forms.proofs.LineLemmas.{line_front, lines_unique}

append_nil : (xs : List ℕ) → xs ++ [] ≡ xs
append_nil [] = refl
append_nil (x ∷ xs) = ap (λ (t : List ℕ). x ∷ t) (append_nil xs)

-- ---- texts of lines

pub IsLines-none : IsLines 0 []
IsLines-none = record { bodies = []; count = refl; spelled = refl; apart = tt }

pub IsLines-one : (body : List ℕ) → Lacks 10 body → IsLines 1 (line body)
IsLines-one body lacks = record { bodies = body ∷ []; count = omega arith; spelled = sym (append_nil (line body)); apart = (lacks, tt) }

flat_map-join : (xs ys : List (List ℕ)) → flat_map line (xs ++ ys) ≡ flat_map line xs ++ flat_map line ys
flat_map-join [] ys = refl
flat_map-join (x ∷ xs) ys = ap (λ (t : List ℕ). line x ++ t) (flat_map-join xs ys) ∙ sym (append_assoc (line x) (flat_map line xs) (flat_map line ys))

All-join : (xs ys : List (List ℕ)) → AllByRecursion (Lacks 10) xs → AllByRecursion (Lacks 10) ys → AllByRecursion (Lacks 10) (xs ++ ys)
All-join [] ys p q = q
All-join (x ∷ xs) ys p q = (p.0, All-join xs ys p.1 q)

length-join : (xs ys : List (List ℕ)) → length (xs ++ ys) ≡ length xs + length ys
length-join [] ys = omega arith
length-join (x ∷ xs) ys = omega (arith, length-join xs ys)

pub IsLines-append : (m n : ℕ) (a b : List ℕ) → IsLines m a → IsLines n b → IsLines (m + n) (a ++ b)
IsLines-append m n a b p q = record {
  bodies = p.bodies ++ q.bodies;
  count = omega (arith, length-join p.bodies q.bodies, p.count, q.count);
  spelled = ap (λ (t : List ℕ). t ++ b) p.spelled ∙ ap (λ (t : List ℕ). flat_map line p.bodies ++ t) q.spelled ∙ sym (flat_map-join p.bodies q.bodies);
  apart = All-join p.bodies q.bodies p.apart q.apart;
}

-- items that are spelled a line each
pub IsLines-items : {X : Type 0} (spelling body : X → List ℕ) (Fits : X → Type 0) → ((x : X) → spelling x ≡ line (body x)) → ((x : X) → Fits x → Lacks 10 (body x))
    → (xs : List X) → AllByRecursion Fits xs → IsLines (length xs) (flat_map spelling xs)
IsLines-items spelling body Fits is lacks [] p = IsLines-none
IsLines-items {X} spelling body Fits is lacks (x ∷ xs) p =
    let one : IsLines 1 (spelling x) = subst (IsLines 1) (sym (is x)) (IsLines-one (body x) (lacks x p.0)) in
    let both = IsLines-append 1 (length xs) (spelling x) (flat_map spelling xs) one (IsLines-items spelling body Fits is lacks xs p.1) in
    let same : 1 + length xs ≡ length (x ∷ xs) = omega arith in
    subst (λ (n : ℕ). IsLines n (spelling x ++ flat_map spelling xs)) same both

-- ---- the next line

pub record NextLine (front front' rest rest' : List ℕ) : Type 0 where
  pub body : List ℕ
  pub front_is : front' ≡ front ++ line body
  pub cut : IsSplitAt 10 rest body rest'

next_body : (xs ys : List (List ℕ)) (rest rest' : List ℕ) → AllByRecursion (Lacks 10) xs → AllByRecursion (Lacks 10) ys → length ys ≡ length xs + 1
    → flat_map line xs ++ rest ≡ flat_map line ys ++ rest' → NextLine (flat_map line xs) (flat_map line ys) rest rest'
next_body [] [] rest rest' p q n e = absurd (omega arith)
next_body [] (y ∷ []) rest rest' p q n e = record {
  body = y;
  front_is = append_nil (line y);
  cut = record { parts = e ∙ ap (λ (t : List ℕ). t ++ rest') (append_nil (line y)) ∙ line_front y rest'; first = q.0 };
}
next_body [] (y ∷ z ∷ ys) rest rest' p q n e = absurd (omega arith)
next_body (x ∷ xs) [] rest rest' p q n e = absurd (omega arith)
next_body (x ∷ xs) (y ∷ ys) rest rest' p q n e =
    let both = lines_unique x y (flat_map line xs ++ rest) (flat_map line ys ++ rest') p.0 q.0
    (sym (append_assoc (line x) (flat_map line xs) rest) ∙ e ∙ append_assoc (line y) (flat_map line ys) rest') in
    let more = next_body xs ys rest rest' p.1 q.1 (omega arith) both.1 in
    record {
      body = more.body;
      front_is = ap (λ (t : List ℕ). line t ++ flat_map line ys) (sym both.0) ∙ ap (λ (t : List ℕ). line x ++ t) more.front_is ∙ sym (append_assoc (line x) (flat_map line xs) (line more.body));
      cut = more.cut;
    }

pub next_line : (k : ℕ) (front rest front' rest' : List ℕ) → IsLines k front → IsLines (k + 1) front' → front ++ rest ≡ front' ++ rest' → NextLine front front' rest rest'
next_line k front rest front' rest' p q e =
    let next = next_body p.bodies q.bodies rest rest' p.apart q.apart (omega (arith, p.count, q.count))
    (ap (λ (t : List ℕ). t ++ rest) (sym p.spelled) ∙ e ∙ ap (λ (t : List ℕ). t ++ rest') q.spelled) in
    record {
      body = next.body;
      front_is = q.spelled ∙ next.front_is ∙ ap (λ (t : List ℕ). t ++ line next.body) (sym p.spelled);
      cut = next.cut;
    }

-- ---- fewer lines

take_drop : (n : ℕ) (xs : List (List ℕ)) → flat_map line xs ≡ flat_map line (take n xs) ++ flat_map line (drop n xs)
take_drop zero xs = refl
take_drop (suc n) [] = refl
take_drop (suc n) (x ∷ xs) = ap (λ (t : List ℕ). line x ++ t) (take_drop n xs) ∙ sym (append_assoc (line x) (flat_map line (take n xs)) (flat_map line (drop n xs)))

All-take : (n : ℕ) (xs : List (List ℕ)) → AllByRecursion (Lacks 10) xs → AllByRecursion (Lacks 10) (take n xs)
All-take zero xs p = tt
All-take (suc n) [] p = tt
All-take (suc n) (x ∷ xs) p = (p.0, All-take n xs p.1)

length_take : (n : ℕ) (xs : List (List ℕ)) → n ≤ length xs → length (take n xs) ≡ n
length_take zero xs p = refl
length_take (suc n) [] p = absurd (omega arith)
length_take (suc n) (x ∷ xs) p = omega (arith, length_take n xs (omega arith))

pub FitsTo-below : (Text : List ℕ → Type 0) (text : List ℕ) (m n : ℕ) → m ≤ n → FitsTo Text text n → FitsTo Text text m
FitsTo-below Text text m n less fits =
    let bodies = fits.lines.bodies in
    let early = flat_map line (take m bodies) in
    let late = flat_map line (drop m bodies) in
    let split : fits.front ≡ early ++ late = fits.lines.spelled ∙ take_drop m bodies in
    record {
      front = early;
      rest = late ++ fits.rest;
      more = late ++ fits.more;
      parts = fits.parts ∙ ap (λ (t : List ℕ). t ++ fits.rest) split ∙ append_assoc early late fits.rest;
      lines = record { bodies = take m bodies; count = length_take m bodies (omega (arith, fits.lines.count)); spelled = refl; apart = All-take m bodies fits.lines.apart };
      begun = subst Text (ap (λ (t : List ℕ). t ++ fits.more) split ∙ append_assoc early late fits.more) fits.begun;
    }

-- ---- the faulty line

-- no text of the form begins with the lines of the front and the next line of the rest
abbrev pub BeginsNone : (List ℕ → Type 0) → List ℕ → List ℕ → Type 0
BeginsNone Text front rest = (body after more : List ℕ) → IsSplitAt 10 rest body after → Text (front ++ (line body ++ more)) → ⊥

no_text_begins : (Text : List ℕ → Type 0) (text front rest : List ℕ) (k : ℕ) → text ≡ front ++ rest → IsLines k front → BeginsNone Text front rest → FitsTo Text text (k + 1) → ⊥
no_text_begins Text text front rest k parts lines none fits =
    let next = next_line k front rest fits.front fits.rest lines fits.lines (sym parts ∙ fits.parts) in
    none next.body fits.rest fits.more next.cut
    (subst Text (ap (λ (t : List ℕ). t ++ fits.more) next.front_is ∙ append_assoc front (line next.body) fits.more) fits.begun)

pub first_faulty : (Text : List ℕ → Type 0) (text : List ℕ) → (Text text → ⊥) → BeginsNone Text [] text → IsFaultLine Text text 1
first_faulty Text text other none = record {
  some = omega arith;
  other = other;
  before = λ m low high. absurd (omega arith);
  here = λ fits. no_text_begins Text text [] text 0 refl IsLines-none none fits;
}

pub next_faulty : (Text : List ℕ → Type 0) (text front rest more : List ℕ) (k : ℕ) → text ≡ front ++ rest → IsLines k front → Text (front ++ more) → (Text text → ⊥) → BeginsNone Text front rest
    → IsFaultLine Text text (k + 1)
next_faulty Text text front rest more k parts lines begun other none = record {
  some = omega arith;
  other = other;
  before = λ m low high. FitsTo-below Text text m k (omega arith) (record { front = front; rest = rest; more = more; parts = parts; lines = lines; begun = begun });
  here = no_text_begins Text text front rest k parts lines none;
}

-- an item that is no front of a rest is none of a text with the same first line
pub HasNone-line : {X : Type 0} (spelling body : X → List ℕ) (Fits : X → Type 0) → ((x : X) → spelling x ≡ line (body x)) → ((x : X) → Fits x → Lacks 10 (body x))
    → (rest front after more : List ℕ) → HasNone spelling Fits rest → IsSplitAt 10 rest front after → HasNone spelling Fits (line front ++ more)
HasNone-line spelling body Fits is lacks rest front after more none cut x tail fits e =
    let same = lines_unique front (body x) more tail cut.first (lacks x fits) (e ∙ ap (λ (t : List ℕ). t ++ tail) (is x)) in
    none x after fits (cut.parts ∙ sym (line_front front after) ∙ ap (λ (t : List ℕ). line t ++ after) same.0 ∙ ap (λ (t : List ℕ). t ++ after) (sym (is x)))

-- where each text of the form begins with a line, and the text does not
pub other_head : (Text : List ℕ → Type 0) (text head : List ℕ) → Lacks 10 head → ((whole : List ℕ) → Text whole → (tail : List ℕ) × (whole ≡ line head ++ tail))
    → ((tail : List ℕ) → text ≡ line head ++ tail → ⊥) → IsFaultLine Text text 1
other_head Text text head lacks begins none =
    first_faulty Text text (λ is. let whole = begins text is in none whole.0 whole.1)
    (λ body after more cut is.
    let whole = begins (line body ++ more) is in
    let same = lines_unique body head more whole.0 cut.first lacks whole.1 in
    none after (cut.parts ∙ sym (line_front body after) ∙ ap (λ (t : List ℕ). line t ++ after) same.0))

-- ---- at most one line is the faulty one

pub fault_unique : (Text : List ℕ → Type 0) (text : List ℕ) (m n : ℕ) → IsFaultLine Text text m → IsFaultLine Text text n → m ≡ n
fault_unique Text text m n p q =
    let low : m < n → ⊥ = λ less. p.here (q.before m p.some less) in
    let high : n < m → ⊥ = λ less. q.here (p.before n q.some less) in
    omega arith
