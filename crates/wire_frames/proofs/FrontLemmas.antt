-- The head at a front: one extent, one reading, and both stay whatever bytes follow.
use Rattle.std.proofs.Common.{◌≡◌, ℕ, zero, suc, ◌<◌, ◌≤◌, List, [], ◌∷◌, ◌++◌, length, take, refl, sym, ap, ◌∙◌, subst, arith, Some}
use Rattle.std.proofs.lemmas.List.{take-take, length-take, length-take-le, take-append-le}
use Rattle.httparse.specs.Grammar.{RequestHead}
use Rattle.httparse.proofs.GrammarLemmas.{request_unique}
use Rattle.wire_frames.specs.declared.heads.Extent.{Extent}
use Rattle.wire_frames.specs.Heads.{front, head_extent}
use Rattle.wire_frames.specs.Fields.{fields_of, body_length}
use Rattle.wire_frames.specs.Frames.{HasEnd, HasNoEnd, IsGoodHead, IsPlainHead, HasHead}
use Rattle.wire_frames.proofs.HeadLemmas.{extent_of}
use Rattle.wire_frames.proofs.EndLemmas.{found, extent_more}

-- what the end of a head says of the bytes
pub record IsFront (bytes : List ℕ) (e : Extent) : Type 0 where
  pub some : 0 < e.length
  pub within : e.length ≤ 16384
  pub fits : e.length ≤ length bytes
  pub whole : head_extent (take e.length bytes) ≡ extent_of (length (take e.length bytes)) e.lines

pub front_of : (bytes : List ℕ) (e : Extent) → HasEnd bytes e → IsFront bytes e
front_of bytes e ends =
    let f = found front 0 0 (take 16384 bytes) e ends in
    let size = length-take 16384 bytes in
    let fits : e.length ≤ length bytes = omega (arith, f.fits, size) in
    let within : e.length ≤ 16384 = omega (arith, f.fits, size) in
    let same : take e.length (take 16384 bytes) ≡ take e.length bytes = take-take e.length 16384 bytes within in
    record {
      some = f.more;
      within = within;
      fits = fits;
      whole = ap head_extent (sym same) ∙ f.cut e.length (omega arith)
          ∙ ap (λ (v : ℕ). extent_of v e.lines) (sym (length-take-le e.length bytes fits));
    }

pub one_end : (bytes : List ℕ) (e f : Extent) → HasEnd bytes e → HasEnd bytes f → e ≡ f
one_end bytes e f x y = cc

pub end_not_none : (bytes : List ℕ) (e : Extent) → HasEnd bytes e → HasNoEnd bytes → ⊥
end_not_none bytes e x y = cc

-- a head is read in one way
pub one_reading : (head : List ℕ) (h k : RequestHead) (n m : ℕ) → IsGoodHead head h n → IsGoodHead head k m → (h ≡ k) × (n ≡ m)
one_reading head h k n m x y =
    let same : h ≡ k = (request_unique head h k [] [] x.reads y.reads).0 in
    let sizes : Some n ≡ Some m = sym x.length ∙ ap (λ (g : RequestHead). body_length (fields_of g)) same ∙ y.length in
    (same, (cc))

-- two heads that aren't refused at one front are the same
pub record AreSame (e f : Extent) (h k : RequestHead) (n m : ℕ) : Type 0 where
  pub extent : e ≡ f
  pub head : h ≡ k
  pub size : n ≡ m

pub one_head : (bytes : List ℕ) (e f : Extent) (h k : RequestHead) (n m : ℕ) → HasHead bytes e h n → HasHead bytes f k m
    → AreSame e f h k n m
one_head bytes e f h k n m x y =
    let extent = one_end bytes e f x.ends y.ends in
    let good = subst (λ (v : Extent). IsGoodHead (take v.length bytes) h n) extent x.head.good in
    let same = one_reading (take f.length bytes) h k n m good y.head.good in
    record { extent = extent; head = same.0; size = same.1 }

-- ---- with bytes behind

take_more_of : (n : ℕ) (xs ys : List ℕ) → (zs : List ℕ) × (take n (xs ++ ys) ≡ take n xs ++ zs)
take_more_of zero xs ys = ([], refl)
take_more_of (suc n) [] ys = (take (suc n) ys, refl)
take_more_of (suc n) (x ∷ xs) ys =
    let later = take_more_of n xs ys in (later.0, ap (λ (zs : List ℕ). x ∷ zs) later.1)

pub end_more : (bytes more : List ℕ) (e : Extent) → HasEnd bytes e → HasEnd (bytes ++ more) e
end_more bytes more e ends =
    ap head_extent (take_more_of 16384 bytes more).1
    ∙ extent_more front 0 0 (take 16384 bytes) (take_more_of 16384 bytes more).0 e ends

pub no_end_more : (bytes more : List ℕ) → HasNoEnd bytes → 16384 ≤ length bytes → HasNoEnd (bytes ++ more)
no_end_more bytes more none many = ap head_extent (take-append-le 16384 bytes more many) ∙ none

pub front_more : (bytes more : List ℕ) (e : Extent) → HasEnd bytes e → take e.length (bytes ++ more) ≡ take e.length bytes
front_more bytes more e ends = take-append-le e.length bytes more (front_of bytes e ends).fits

pub head_more : (bytes more : List ℕ) (e : Extent) (h : RequestHead) (n : ℕ) → HasHead bytes e h n → HasHead (bytes ++ more) e h n
head_more bytes more e h n x = record {
  ends = end_more bytes more e x.ends;
  head = subst (λ (t : List ℕ). IsPlainHead t e.lines h n) (sym (front_more bytes more e x.ends)) x.head;
}
