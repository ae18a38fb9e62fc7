-- What a run of messages makes of the hall, and which of them may close.
use Rattle.std.proofs.Common.{◌≡◌, ℕ, ◌+◌, ◌≤◌, inl, inr, false, List, [], ◌∷◌, ◌++◌, length, drop, sym, ap, ◌∙◌, subst, arith, append-nil, append_assoc, length-append}
use Rattle.std.proofs.lemmas.List.Elements.{All-nil, All-cons}
use mathlib.Core.List.{IsPrefix}
use Rattle.venue_hall.specs.Facts.{Facts, IsSameHall}
use Rattle.venue_hall.specs.Histories.{IsLegal}
use Rattle.venue_session.specs.Acting.{Acted, AreOpen, Acts, told_in}

never_none : (front : List Acted) (last : Acted) → front ++ last ∷ [] ≡ [] → ⊥
never_none front last none = omega (arith, length-append front (last ∷ []), ap (λ (ms : List Acted). length ms) none)

pub acts_close : (keys : List (List ℕ)) (old new : Facts) (bytes out rest : List ℕ) (front : List Acted) (last : Acted)
    → Acts keys old bytes (front ++ last ∷ []) out new rest → AreOpen front
acts_close keys old new bytes out rest [] last acts = All-nil (λ (m : Acted). m.close ≡ false)
acts_close keys old new bytes out rest (k ∷ front) last (via, more, first, inl goes, text, later) =
    All-cons (λ (m : Acted). m.close ≡ false) k front goes (acts_close keys via new (drop k.length bytes) more rest front last later)
acts_close keys old new bytes out rest (k ∷ front) last (via, more, first, inr none, text, later) = absurd (never_none front last none)

pub grown : {A : Type 0} (a b c : List A) → IsPrefix a b → IsPrefix b c → IsPrefix a c
grown a b c (x, first) (y, second) = (x ++ y, sym (append_assoc a x y) ∙ ap (λ (l : List _). l ++ y) first ∙ second)

pub acts_grows : (keys : List (List ℕ)) (old new : Facts) (bytes out rest : List ℕ) (ms : List Acted)
    → Acts keys old bytes ms out new rest → IsPrefix old.seen new.seen
acts_grows keys old new bytes out rest [] (same, none, left) = ([], append-nil old.seen ∙ sym (ap (λ (f : Facts). f.seen) same))
acts_grows keys old new bytes out rest (m ∷ ms) (via, more, first, goes, text, later) =
    grown old.seen via.seen new.seen first.step.grows (acts_grows keys via new (drop m.length bytes) more rest ms later)

pub acts_legal : (keys : List (List ℕ)) (old new : Facts) (bytes out rest : List ℕ) (ms : List Acted)
    → Acts keys old bytes ms out new rest → IsLegal old.seen → IsLegal new.seen
acts_legal keys old new bytes out rest [] (same, none, left) legal = subst (λ (f : Facts). IsLegal f.seen) (sym same) legal
acts_legal keys old new bytes out rest (m ∷ ms) (via, more, first, goes, text, later) legal =
    acts_legal keys via new (drop m.length bytes) more rest ms later first.step.legal

pub acts_same : (keys : List (List ℕ)) (old new : Facts) (bytes out rest : List ℕ) (ms : List Acted)
    → Acts keys old bytes ms out new rest → IsSameHall old new
acts_same keys old new bytes out rest [] (same, none, left) = record {
  worker = ap (λ (f : Facts). f.worker) same;
  parts = ap (λ (f : Facts). f.parts) same;
  files = ap (λ (f : Facts). f.files) same;
}
acts_same keys old new bytes out rest (m ∷ ms) (via, more, first, goes, text, later) =
    let behind = acts_same keys via new (drop m.length bytes) more rest ms later in record {
      worker = behind.worker ∙ first.step.same.worker;
      parts = behind.parts ∙ first.step.same.parts;
      files = behind.files ∙ first.step.same.files;
    }

pub acts_made : (keys : List (List ℕ)) (old new : Facts) (bytes out rest : List ℕ) (ms : List Acted)
    → Acts keys old bytes ms out new rest → new.made ≡ old.made + told_in ms
acts_made keys old new bytes out rest [] (same, none, left) = omega (arith, ap (λ (f : Facts). f.made) same)
acts_made keys old new bytes out rest (m ∷ ms) (via, more, first, goes, text, later) =
    let behind = acts_made keys via new (drop m.length bytes) more rest ms later in
    omega (arith, behind, first.step.made)

pub acts_faults : (keys : List (List ℕ)) (old new : Facts) (bytes out rest : List ℕ) (ms : List Acted)
    → Acts keys old bytes ms out new rest → old.faults ≤ new.faults
acts_faults keys old new bytes out rest [] (same, none, left) = omega (arith, ap (λ (f : Facts). f.faults) same)
acts_faults keys old new bytes out rest (m ∷ ms) (via, more, first, goes, text, later) =
    let behind = acts_faults keys via new (drop m.length bytes) more rest ms later in
    omega (arith, behind, first.step.faults)
