-- Lines of answers are read in one way.
use Rattle.std.proofs.Common.{◌≡◌, ℕ, ◌^◌, ◌<◌, Bool, not, ◌&&◌, ◌==◌, List, [], ◌∷◌, ◌++◌, refl, arith, codes, IsTrue}
use Rattle.std.proofs.lemmas.Bool.Decides.{nat_tests}
use Rattle.std.proofs.lemmas.List.{append_cancel_left}
use Rattle.std.proofs.lemmas.Fmt.{decimal_injective}
use Rattle.std.specs.Fmt.{decimal}
use Rattle.std.specs.List.{list_all}
use Rattle.venue_types.specs.declared.link.Potential.{Potential}
use Rattle.line_forms.specs.Lines.{line, word}
use Rattle.line_forms.specs.Fronts.{Lacks, IsUnique}
use Rattle.line_forms.proofs.ListLemmas.{Lacks-append}
use Rattle.line_forms.proofs.LineLemmas.{word_unique, lines_unique, numbered_unique, Lacks-word, Lacks-number, Lacks-test}
use Rattle.route_certificate.specs.Forms.{FitsNode}
use Rattle.route_certificate.specs.Answers.{to_body, route_body, at_body, reach_body, to_line, route_line, at_line, reach_line, FitsCost, FitsPotential}

-- ---- bodies lack LF

one_lacks : (b : ℕ) (others : Bool) → IsTrue (not (b == 10) && others) → (b ≡ 10 → ⊥) × IsTrue others
one_lacks b others h = (λ e. grind (arith, nat_tests), grind (arith, nat_tests))

pub Lacks-tested : (bs : List ℕ) → IsTrue (list_all (λ b. not (b == 10)) bs) → Lacks 10 bs
Lacks-tested [] h = tt
Lacks-tested (b ∷ bs) h =
    let one = one_lacks b (list_all (λ c. not (c == 10)) bs) h in
    (one.0, Lacks-tested bs one.1)

pub Lacks-numbered : (front : List ℕ) (n : ℕ) → Lacks 10 front → n < 2 ^ 64 → Lacks 10 (front ++ decimal n)
Lacks-numbered front n lacks fits = Lacks-append 10 front (decimal n) lacks (Lacks-number n fits)

pub Lacks-to_body : (n : ℕ) → n < 2 ^ 64 → Lacks 10 (to_body n)
Lacks-to_body n fits = Lacks-word (codes "to") (decimal n) (Lacks-test 10 (codes "to") refl) (Lacks-number n fits)

pub Lacks-route_body : (n : ℕ) → n < 2 ^ 64 → Lacks 10 (route_body n)
Lacks-route_body n fits = Lacks-word (codes "route") (decimal n) (Lacks-test 10 (codes "route") refl) (Lacks-number n fits)

pub Lacks-reach_body : (n : ℕ) → n < 2 ^ 64 → Lacks 10 (reach_body n)
Lacks-reach_body n fits = Lacks-word (codes "reach") (decimal n) (Lacks-test 10 (codes "reach") refl) (Lacks-number n fits)

pub record SmallPotential (p : Potential) : Type 0 where
  pub node : p.node < 2 ^ 64
  pub value : p.value < 2 ^ 64

pub small_potential : (nodes : ℕ) (p : Potential) → FitsPotential nodes p → SmallPotential p
small_potential nodes p fits = record { node = omega (arith, fits.node.small); value = omega (arith, fits.value) }

pub Lacks-at_body : (p : Potential) → SmallPotential p → Lacks 10 (at_body p)
Lacks-at_body p small =
    Lacks-word (codes "at") _ (Lacks-test 10 (codes "at") refl)
    (Lacks-word (decimal p.node) _ (Lacks-number p.node small.node) (Lacks-number p.value small.value))

-- ---- each item has one spelling

pub to_unique : (nodes : ℕ) → IsUnique to_line (FitsNode nodes)
unfolding to_line
to_unique nodes x y a b p q e = numbered_unique (codes "to") x y a b (Lacks-test 10 (codes "to") refl) (omega (arith, p.small)) (omega (arith, q.small)) e

pub reach_unique : (nodes : ℕ) → IsUnique reach_line (FitsNode nodes)
unfolding reach_line
reach_unique nodes x y a b p q e = numbered_unique (codes "reach") x y a b (Lacks-test 10 (codes "reach") refl) (omega (arith, p.small)) (omega (arith, q.small)) e

pub route_unique : IsUnique route_line FitsCost
unfolding route_line
route_unique x y a b p q e = numbered_unique (codes "route") x y a b (Lacks-test 10 (codes "route") refl) (omega (arith, p)) (omega (arith, q)) e

potential_same : (a b : Potential) → a.node ≡ b.node → a.value ≡ b.value → a ≡ b
potential_same a b p q = λ i. record { node = p i; value = q i }

abbrev pub at_tail : Potential → List ℕ
at_tail p = word (decimal p.node) (decimal p.value)

pub at_unique : (nodes : ℕ) → IsUnique at_line (FitsPotential nodes)
unfolding at_line
at_unique nodes x y a b p q e =
    let x-small = small_potential nodes x p in
    let y-small = small_potential nodes y q in
    let both = lines_unique (at_body x) (at_body y) a b (Lacks-at_body x x-small) (Lacks-at_body y y-small) e in
    let words = word_unique x.node y.node (decimal x.value) (decimal y.value) x-small.node y-small.node (append_cancel_left (codes "at ") (at_tail x) (at_tail y) both.0) in
    (potential_same x y words.0 (decimal_injective x.value y.value x-small.value y-small.value words.1), both.1)

-- ---- each item is a line

pub to_line_is : (x : ℕ) → to_line x ≡ line (to_body x)
unfolding to_line
to_line_is x = refl

pub route_line_is : (x : ℕ) → route_line x ≡ line (route_body x)
unfolding route_line
route_line_is x = refl

pub at_line_is : (x : Potential) → at_line x ≡ line (at_body x)
unfolding at_line
at_line_is x = refl

pub reach_line_is : (x : ℕ) → reach_line x ≡ line (reach_body x)
unfolding reach_line
reach_line_is x = refl
