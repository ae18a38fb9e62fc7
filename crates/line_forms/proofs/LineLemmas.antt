-- Lines and their words are read in one way.
use Rattle.std.proofs.Common.{◌≡◌, ℕ, ◌^◌, ◌<◌, Bool, true, not, ◌&&◌, ◌==◌, List, [], ◌∷◌, ◌++◌, sym, ap, subst, ◌∙◌, append_assoc, arith}
use Rattle.std.proofs.lemmas.Bool.Decides.{nat_tests}
use Rattle.std.proofs.lemmas.Fmt.{decimal_injective}
use Rattle.std.proofs.lemmas.List.{append_cancel_left}
use Rattle.std.specs.Fmt.{decimal}
use Rattle.line_forms.specs.Lines.{line, word}
use Rattle.line_forms.specs.Fronts.{Lacks, IsSplitAt, HasNone}
use Rattle.line_forms.proofs.ListLemmas.{Lacks-append, Lacks-cut, cut_unique, tail_same}
use Rattle.line_forms.proofs.NumberLemmas.{Lacks-decimal}

pub word_unique : (m n : ℕ) (x y : List ℕ) → m < 2 ^ 64 → n < 2 ^ 64 → word (decimal m) x ≡ word (decimal n) y → (m ≡ n) × (x ≡ y)
word_unique m n x y p q e =
    let parts = cut_unique 32 (decimal m) x (decimal n) y (Lacks-decimal 32 m (omega arith) p) (Lacks-decimal 32 n (omega arith) q) e in
    (decimal_injective m n p q parts.0, parts.1)

pub line_front : (body more : List ℕ) → line body ++ more ≡ body ++ 10 ∷ more
line_front body more = append_assoc body (10 ∷ []) more

pub no_line : (text body more : List ℕ) → Lacks 10 text → text ≡ line body ++ more → ⊥
no_line text body more lacks e = Lacks-cut 10 body more (subst (Lacks 10) (e ∙ line_front body more) lacks)

pub same_line : (text front rest body more : List ℕ) → IsSplitAt 10 text front rest → Lacks 10 body → text ≡ line body ++ more → (front ≡ body) × (rest ≡ more)
same_line text front rest body more cut lacks e = cut_unique 10 front rest body more cut.first lacks (sym cut.parts ∙ e ∙ line_front body more)

pub lines_unique : (a b x y : List ℕ) → Lacks 10 a → Lacks 10 b → line a ++ x ≡ line b ++ y → (a ≡ b) × (x ≡ y)
lines_unique a b x y p q e = cut_unique 10 a x b y p q (sym (line_front a x) ∙ e ∙ line_front b y)

pub Lacks-word : (first rest : List ℕ) → Lacks 10 first → Lacks 10 rest → Lacks 10 (word first rest)
Lacks-word first rest p q = Lacks-append 10 first (32 ∷ rest) p ((λ e. omega arith), q)

pub Lacks-number : (n : ℕ) → n < 2 ^ 64 → Lacks 10 (decimal n)
Lacks-number n fits = Lacks-decimal 10 n (omega arith) fits

-- a line of a name and a number is read in one way
pub numbered_unique : (name : List ℕ) (x y : ℕ) (a b : List ℕ) → Lacks 10 name → x < 2 ^ 64 → y < 2 ^ 64 → line (word name (decimal x)) ++ a ≡ line (word name (decimal y)) ++ b
    → (x ≡ y) × (a ≡ b)
numbered_unique name x y a b lacks p q e =
    let both = lines_unique (word name (decimal x)) (word name (decimal y)) a b (Lacks-word name (decimal x) lacks (Lacks-number x p)) (Lacks-word name (decimal y) lacks (Lacks-number y q)) e in
    let words : 32 ∷ decimal x ≡ 32 ∷ decimal y = append_cancel_left name (32 ∷ decimal x) (32 ∷ decimal y) both.0 in
    (decimal_injective x y p q (tail_same 32 32 (decimal x) (decimal y) words), both.1)

-- ---- an item that is spelled a line

-- a text without a line has none
pub no_item_line : {X : Type 0} (spelling body : X → List ℕ) (Fits : X → Type 0) → ((x : X) → spelling x ≡ line (body x)) → (text : List ℕ) → Lacks 10 text → HasNone spelling Fits text
no_item_line spelling body Fits is text lacks x more fits e = no_line text (body x) more lacks (e ∙ ap (λ (t : List ℕ). t ++ more) (is x))

-- a text whose first line is no item's has none
pub other_item_line : {X : Type 0} (spelling body : X → List ℕ) (Fits : X → Type 0) → ((x : X) → spelling x ≡ line (body x)) → ((x : X) → Fits x → Lacks 10 (body x))
    → (text first rest : List ℕ) → IsSplitAt 10 text first rest → ((x : X) → Fits x → first ≡ body x → ⊥) → HasNone spelling Fits text
other_item_line spelling body Fits is lacks text first rest split none x more fits e =
    none x fits (same_line text first rest (body x) more split (lacks x fits) (e ∙ ap (λ (t : List ℕ). t ++ more) (is x))).0

-- a text whose first line is an item's begins with it
pub item_line : {X : Type 0} (spelling body : X → List ℕ) → ((x : X) → spelling x ≡ line (body x)) → (text first rest : List ℕ) (x : X) → IsSplitAt 10 text first rest → first ≡ body x
    → text ≡ spelling x ++ rest
item_line spelling body is text first rest x split e =
    split.parts ∙ ap (λ (t : List ℕ). t ++ 10 ∷ rest) e ∙ sym (line_front (body x) rest) ∙ ap (λ (t : List ℕ). t ++ rest) (sym (is x))

-- ---- texts that are written out

abbrev pub lacks : ℕ → List ℕ → Bool
lacks stop [] = true
lacks stop (b ∷ bs) = not (b == stop) && lacks stop bs

one_lacks : (b stop : ℕ) (others : Bool) → not (b == stop) && others ≡ true → (b ≡ stop → ⊥) × (others ≡ true)
one_lacks b stop others h = (λ e. grind (arith, nat_tests), grind (arith, nat_tests))

pub Lacks-test : (stop : ℕ) (bs : List ℕ) → lacks stop bs ≡ true → Lacks stop bs
Lacks-test stop [] h = tt
Lacks-test stop (b ∷ bs) h =
    let one = one_lacks b stop (lacks stop bs) h in
    (one.0, Lacks-test stop bs one.1)
