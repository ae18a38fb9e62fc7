-- One write after another.
use Rattle.std.proofs.Common.{◌≡◌, ℕ, List, [], ◌++◌, Option, Some, None, Ok, take, drop, refl, sym, ap, ◌∙◌, append_assoc, take-append-drop, append-nil}
use Rattle.std.proofs.lemmas.Option.{same_Some}
use Rattle.venue_ports.specs.Moves.{MovesOut}
use Rattle.venue_ports.specs.declared.stream.Failed.{Failed}
use Rattle.venue_commands.specs.Runs.{Wrote}

pub wrote_more : (a b c : Option (List ℕ)) (done piece : List ℕ) (n : ℕ) → Wrote a b done → MovesOut {E = Failed} b c (Ok n) piece → Wrote a c (done ++ take n piece)
wrote_more None None c done piece n w m = m
wrote_more None (Some b) c done piece n w m = absurd cc
wrote_more (Some a) None c done piece n w m = absurd cc
wrote_more (Some a) (Some b) c done piece n w m =
    m ∙ ap (λ (t : List ℕ). Some (t ++ take n piece)) (same_Some b (a ++ done) w) ∙ ap (λ (t : List ℕ). Some t) (append_assoc a done (take n piece))

pub wrote_none : (a : Option (List ℕ)) → Wrote a a []
wrote_none None = refl
wrote_none (Some a) = ap (λ (t : List ℕ). Some t) (sym (append-nil a))

pub text_more : (text done rest after : List ℕ) (n : ℕ) → text ≡ done ++ rest → after ≡ drop n rest → text ≡ (done ++ take n rest) ++ after
text_more text done rest after n e is = e ∙ ap (λ (t : List ℕ). done ++ t) (sym (take-append-drop n rest)) ∙ sym (append_assoc done (take n rest) (drop n rest)) ∙ ap (λ (t : List ℕ). (done ++ take n rest) ++ t) (sym is)
