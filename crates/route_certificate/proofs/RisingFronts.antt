-- Items whose numbers ascend.
use Rattle.std.proofs.Common.{◌≡◌, ℕ, ◌+◌, ◌<◌, ◌≤◌, zero, suc, List, [], ◌∷◌, ◌++◌, map, length, refl, sym, ap, subst, ◌∙◌, append_assoc, add-one, arith}
use Rattle.std.specs.Prelude.{slice_index}
use Rattle.std.specs.List.{flat_map, AllByRecursion}
use Rattle.std.specs.List.Sorted.{IsStrictlyIncreasing}
use Rattle.line_forms.specs.Fronts.{HasNone, IsUnique}
use Rattle.route_certificate.specs.AnswerFronts.{Rises, next_number, FitsBehind}

-- one more item
All-push : {X : Type 0} (P : X → Type 0) (xs : List X) (x : X) → AllByRecursion P xs → P x → AllByRecursion P (xs ++ x ∷ [])
All-push P [] x p q = (q, tt)
All-push P (y ∷ xs) x p q = (p.0, All-push P xs x p.1 q)

flat_map-push : {X : Type 0} (f : X → List ℕ) (xs : List X) (x : X) (more : List ℕ) → flat_map f (xs ++ x ∷ []) ++ more ≡ flat_map f xs ++ (f x ++ more)
flat_map-push f [] x more = append_assoc (f x) [] more
flat_map-push f (y ∷ xs) x more =
    append_assoc (f y) (flat_map f (xs ++ x ∷ [])) more ∙ ap (λ (t : List ℕ). f y ++ t) (flat_map-push f xs x more) ∙ sym (append_assoc (f y) (flat_map f xs) (f x ++ more))

pub Rises-push : {X : Type 0} (number : X → ℕ) (low : ℕ) (xs : List X) (x : X) → Rises number low xs → next_number number low xs ≤ number x → Rises number low (xs ++ x ∷ [])
Rises-push number low [] x rises above = (above, tt)
Rises-push number low (y ∷ xs) x rises above = (rises.0, Rises-push number (number y + 1) xs x rises.1 above)

pub next_number-push : {X : Type 0} (number : X → ℕ) (low : ℕ) (xs : List X) (x : X) → next_number number low (xs ++ x ∷ []) ≡ number x + 1
next_number-push number low [] x = refl
next_number-push number low (y ∷ xs) x = next_number-push number (number y + 1) xs x

-- how far a loop has read
pub record RisingRead {X : Type 0} (spelling : X → List ℕ) (Fits : X → Type 0) (number : X → ℕ) (items : List X) (text rest : List ℕ) (low : ℕ) : Type 0 where
  pub parts : text ≡ flat_map spelling items ++ rest
  pub fit : AllByRecursion Fits items
  pub rises : Rises number 0 items
  pub next : low ≡ next_number number 0 items

pub rising_more : {X : Type 0} (spelling : X → List ℕ) (Fits : X → Type 0) (number : X → ℕ) (xs new : List X) (text rest more : List ℕ) (low : ℕ) (x : X)
    → RisingRead spelling Fits number xs text rest low → rest ≡ spelling x ++ more → FitsBehind Fits number low x → new ≡ xs ++ x ∷ [] → RisingRead spelling Fits number new text more (number x + 1)
rising_more {X} spelling Fits number xs new text rest more low x read first fits is =
    let pushed : RisingRead spelling Fits number (xs ++ x ∷ []) text more (number x + 1) = record {
      parts = read.parts ∙ ap (λ (t : List ℕ). flat_map spelling xs ++ t) first ∙ sym (flat_map-push spelling xs x more);
      fit = All-push Fits xs x read.fit fits.fits;
      rises = Rises-push number 0 xs x read.rises (omega (arith, read.next, fits.above));
      next = sym (next_number-push number 0 xs x);
    } in
    subst (λ (ys : List X). RisingRead spelling Fits number ys text more (number x + 1)) (sym is) pushed

-- two readings of one text into items that ascend and a rest without a further one are the same
pub rising_agree : {X : Type 0} (spelling : X → List ℕ) (Fits : X → Type 0) (number : X → ℕ) → IsUnique spelling Fits
    → (low : ℕ) (xs ys : List X) (rest tail : List ℕ) → AllByRecursion Fits xs → AllByRecursion Fits ys → Rises number low xs → Rises number low ys
    → HasNone spelling (FitsBehind Fits number (next_number number low xs)) rest → HasNone spelling Fits tail
    → flat_map spelling xs ++ rest ≡ flat_map spelling ys ++ tail → (xs ≡ ys) × (rest ≡ tail)
rising_agree spelling Fits number unique low [] [] rest tail p q up up' none none' e = (refl, e)
rising_agree spelling Fits number unique low [] (y ∷ ys) rest tail p q up up' none none' e =
    absurd (none y (flat_map spelling ys ++ tail) (record { fits = q.0; above = up'.0 }) (e ∙ append_assoc (spelling y) (flat_map spelling ys) tail))
rising_agree spelling Fits number unique low (x ∷ xs) [] rest tail p q up up' none none' e =
    absurd (none' x (flat_map spelling xs ++ rest) p.0 (sym e ∙ append_assoc (spelling x) (flat_map spelling xs) rest))
rising_agree {X} spelling Fits number unique low (x ∷ xs) (y ∷ ys) rest tail p q up up' none none' e =
    let one = unique x y (flat_map spelling xs ++ rest) (flat_map spelling ys ++ tail) p.0 q.0
    (sym (append_assoc (spelling x) (flat_map spelling xs) rest) ∙ e ∙ append_assoc (spelling y) (flat_map spelling ys) tail) in
    let rises : Rises number (number x + 1) ys = subst (λ (z : X). Rises number (number z + 1) ys) (sym one.0) up'.1 in
    let others = rising_agree spelling Fits number unique (number x + 1) xs ys rest tail p.1 q.1 up.1 rises none none' one.1 in
    (ap (λ (h : X). h ∷ xs) one.0 ∙ ap (λ (t : List X). y ∷ t) others.0, others.1)

-- ---- each number is below the next

increasing-cons : (n : ℕ) (ns : List ℕ) → IsStrictlyIncreasing ns → (0 < length ns → n < slice_index ns 0) → IsStrictlyIncreasing (n ∷ ns)
increasing-cons n ns up first zero within = first (omega (arith, within))
increasing-cons n ns up first (suc k) within =
    let here = up k (omega (arith, within)) in
    rw add-one (rw add-one at here)

first_above : {X : Type 0} (number : X → ℕ) (low : ℕ) (xs : List X) → Rises number low xs → 0 < length (map number xs) → low ≤ slice_index (map number xs) 0
first_above number low [] rises some = absurd (omega (arith, some))
first_above number low (x ∷ xs) rises some = rises.0

pub increasing_from : {X : Type 0} (number : X → ℕ) (low : ℕ) (xs : List X) → Rises number low xs → IsStrictlyIncreasing (map number xs)
increasing_from number low [] rises = λ k within. absurd (omega (arith, within))
increasing_from number low (x ∷ xs) rises =
    increasing-cons (number x) (map number xs) (increasing_from number (number x + 1) xs rises.1) (λ some. omega (arith, first_above number (number x + 1) xs rises.1 some))

increasing-tail : (n : ℕ) (ns : List ℕ) → IsStrictlyIncreasing (n ∷ ns) → IsStrictlyIncreasing ns
increasing-tail n ns up k within =
    let here = up (suc k) (omega (arith, within)) in
    rw add-one (rw add-one at here)

pub rises_from : {X : Type 0} (number : X → ℕ) (low : ℕ) (xs : List X) → IsStrictlyIncreasing (map number xs) → (0 < length xs → low ≤ slice_index (map number xs) 0) → Rises number low xs
rises_from number low [] up first = tt
rises_from number low (x ∷ []) up first = (first (omega arith), tt)
rises_from number low (x ∷ y ∷ xs) up first =
    (first (omega arith), rises_from number (number x + 1) (y ∷ xs) (increasing-tail (number x) (map number (y ∷ xs)) up) (λ some. omega (arith, up 0 (omega arith))))

pub map_same : (ns : List ℕ) → map (λ n. n) ns ≡ ns
map_same [] = refl
map_same (n ∷ ns) = ap (λ (t : List ℕ). n ∷ t) (map_same ns)
