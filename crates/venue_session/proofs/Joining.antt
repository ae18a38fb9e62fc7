-- Runs of messages, with a message more, and one behind the other.
use Rattle.std.proofs.Common.{◌≡◌, ℕ, inl, inr, false, List, [], ◌∷◌, ◌++◌, drop, refl, sym, ap, ◌∙◌, subst, append-nil, append_assoc}
use Rattle.std.proofs.lemmas.List.Elements.{All-head, All-tail}
use Rattle.venue_hall.specs.Facts.{Facts}
use Rattle.venue_session.specs.Acting.{Acted, text_of, IsActed, AreOpen, Acts}

pub first_open : (m : Acted) (ms : List Acted) → AreOpen (m ∷ ms) → m.close ≡ false
first_open m ms are = All-head (λ (x : Acted). x.close ≡ false) m ms are

pub others_open : (m : Acted) (ms : List Acted) → AreOpen (m ∷ ms) → AreOpen ms
others_open m ms are = All-tail (λ (x : Acted). x.close ≡ false) m ms are

text_behind : (out front more behind : List ℕ) → out ≡ front ++ more → out ++ behind ≡ front ++ (more ++ behind)
text_behind out front more behind is = ap (λ (o : List ℕ). o ++ behind) is ∙ append_assoc front more behind

moved : (keys : List (List ℕ)) (old mid new : Facts) (bytes rest : List ℕ) (m : Acted)
    → mid ≡ old → rest ≡ bytes → IsActed keys mid rest m new → IsActed keys old bytes m new
moved keys old mid new bytes rest m same left one =
    subst (λ (f : Facts). IsActed keys f bytes m new) same (subst (λ (b : List ℕ). IsActed keys mid b m new) left one)

pub acts_push : (keys : List (List ℕ)) (old mid new : Facts) (bytes out rest : List ℕ) (ms : List Acted) (m : Acted)
    → Acts keys old bytes ms out mid rest → AreOpen ms → IsActed keys mid rest m new
    → Acts keys old bytes (ms ++ m ∷ []) (out ++ text_of m) new (drop m.length rest)
acts_push keys old mid new bytes out rest [] m (same, none, left) are one = (
  new,
  [],
  moved keys old mid new bytes rest m same left one,
  inr refl,
  ap (λ (o : List ℕ). o ++ text_of m) none ∙ sym (append-nil (text_of m)),
  (refl, refl, ap (λ (b : List ℕ). drop m.length b) left),
)
acts_push keys old mid new bytes out rest (k ∷ ms) m (via, more, first, goes, text, later) are one = (
  via,
  more ++ text_of m,
  first,
  inl (first_open k ms are),
  text_behind out (text_of k) more (text_of m) text,
  acts_push keys via mid new (drop k.length bytes) more rest ms m later (others_open k ms are) one,
)

pub acts_then : (keys : List (List ℕ)) (old mid new : Facts) (bytes out rest behind last : List ℕ) (ms others : List Acted)
    → Acts keys old bytes ms out mid rest → AreOpen ms → Acts keys mid rest others behind new last
    → Acts keys old bytes (ms ++ others) (out ++ behind) new last
acts_then keys old mid new bytes out rest behind last [] others (same, none, left) are next =
    subst (λ (o : List ℕ). Acts keys old bytes others (o ++ behind) new last) (sym none)
    (subst (λ (f : Facts). Acts keys f bytes others behind new last) same
    (subst (λ (b : List ℕ). Acts keys mid b others behind new last) left next))
acts_then keys old mid new bytes out rest behind last (k ∷ ms) others (via, more, first, goes, text, later) are next = (
  via,
  more ++ behind,
  first,
  inl (first_open k ms are),
  text_behind out (text_of k) more behind text,
  acts_then keys via mid new (drop k.length bytes) more rest behind last ms others later (others_open k ms are) next,
)
