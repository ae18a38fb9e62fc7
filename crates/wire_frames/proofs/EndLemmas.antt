-- What the end of a head says of the bytes in front of it, and that it stays where it is.
use Rattle.std.proofs.Common.{◌≡◌, ℕ, zero, suc, ◌+◌, ◌<◌, ◌≤◌, Bool, true, false, if◌then◌else◌, List, [], ◌∷◌, ◌++◌, length, take, refl, sym, ap, ◌∙◌, arith, length-append, Option, Some, None}
use Rattle.httparse.specs.Grammar.{RequestHead, print_request, ReadsRequest}
use Rattle.wire_frames.specs.declared.heads.Extent.{Extent}
use Rattle.wire_frames.specs.Heads.{HeadState, step, ends_head, ends_line, extent_from, head_extent}
use Rattle.wire_frames.proofs.HeadLemmas.{extent_of, request_extent}

-- what an extent that was found says of the bytes
pub record IsFound (place : HeadState) (n k : ℕ) (bytes : List ℕ) (e : Extent) : Type 0 where
  pub more : n < e.length
  pub fits : e.length ≤ n + length bytes
  pub cut : (t : ℕ) → e.length ≡ n + t → extent_from place n k (take t bytes) ≡ Some e

abbrev pub size_of : Option Extent → ℕ
size_of None = 0
size_of (Some e) = e.length

abbrev pub lines_of : Option Extent → ℕ
lines_of None = 0
lines_of (Some e) = e.lines

found_cons : (place : HeadState) (n k b : ℕ) (bytes : List ℕ) (e : Extent) (test : Bool) → ends_head place b ≡ test
    → (extent_from (step place b) (n + 1) (if ends_line place b then k + 1 else k) bytes ≡ Some e
    → IsFound (step place b) (n + 1) (if ends_line place b then k + 1 else k) bytes e)
    → extent_from place n k (b ∷ bytes) ≡ Some e → IsFound place n k (b ∷ bytes) e
found_cons place n k b bytes e true t later is =
    let tail : Option Extent = extent_from (step place b) (n + 1) (if ends_line place b then k + 1 else k) bytes in
    let at : extent_of (n + 1) k ≡ Some e = sym (ap (λ (c : Bool). if c then extent_of (n + 1) k else tail) t) ∙ is in
    let size : n + 1 ≡ e.length = ap size_of at in
    record {
      more = omega arith;
      fits = omega arith;
      cut = λ v same.
          let one : v ≡ 1 = omega arith in
          ap (λ (u : ℕ). extent_from place n k (take u (b ∷ bytes))) one
          ∙ ap (λ (c : Bool). if c then extent_of (n + 1) k else None) t ∙ at;
    }
found_cons place n k b bytes e false t later is =
    let j : ℕ = if ends_line place b then k + 1 else k in
    let tail : Option Extent = extent_from (step place b) (n + 1) j bytes in
    let at : tail ≡ Some e = sym (ap (λ (c : Bool). if c then extent_of (n + 1) k else tail) t) ∙ is in
    let more = later at in
    record {
      more = omega (arith, more.more);
      fits = omega (arith, more.fits);
      cut = λ v same. by_size v same more;
    }
  where
    by_size : (v : ℕ) → e.length ≡ n + v → IsFound (step place b) (n + 1) (if ends_line place b then k + 1 else k) bytes e
        → extent_from place n k (take v (b ∷ bytes)) ≡ Some e
    by_size zero same more = absurd (omega (arith, more.more))
    by_size (suc u) same more =
        ap (λ (c : Bool). if c then extent_of (n + 1) k
        else extent_from (step place b) (n + 1) (if ends_line place b then k + 1 else k) (take u bytes)) t
        ∙ more.cut u (omega arith)

pub found : (place : HeadState) (n k : ℕ) (bytes : List ℕ) (e : Extent) → extent_from place n k bytes ≡ Some e
    → IsFound place n k bytes e
found place n k [] e is = absurd (cc)
found place n k (b ∷ bytes) e is =
    found_cons place n k b bytes e (ends_head place b) refl
    (found (step place b) (n + 1) (if ends_line place b then k + 1 else k) bytes e) is

-- bytes that are a whole head by their lines hold no more than the grammar's head
pub whole_head : (head rest : List ℕ) (lines : ℕ) (h : RequestHead)
    → head_extent head ≡ Some (record { length = length head; lines = lines }) → ReadsRequest head h rest
    → (rest ≡ []) × (lines ≡ length h.fields + 1)
whole_head head rest lines h extent reads =
    let same : extent_of (length head) lines ≡ extent_of (length (print_request h)) (length h.fields + 1) =
    sym extent ∙ ap head_extent reads.1 ∙ request_extent h rest reads.0 in
    let size : length head ≡ length (print_request h) = ap size_of same in
    let count : lines ≡ length h.fields + 1 = ap lines_of same in
    let whole : length head ≡ length (print_request h) + length rest = ap (λ (t : List ℕ). length t) reads.1 ∙ length-append (print_request h) rest in
    (empty rest (omega arith), count)
  where
    empty : (xs : List ℕ) → length xs ≡ 0 → xs ≡ []
    empty [] e = refl
    empty (x ∷ xs) e = absurd (omega arith)

-- a head that ends stays where it is, whatever bytes follow
pub extent_more : (place : HeadState) (n k : ℕ) (xs ys : List ℕ) (e : Extent) → extent_from place n k xs ≡ Some e
    → extent_from place n k (xs ++ ys) ≡ Some e
extent_more place n k [] ys e is = absurd (cc)
extent_more place n k (b ∷ xs) ys e is =
    by_test (ends_head place b) (extent_from (step place b) (n + 1) (if ends_line place b then k + 1 else k) xs)
    (extent_from (step place b) (n + 1) (if ends_line place b then k + 1 else k) (xs ++ ys))
    (extent_more (step place b) (n + 1) (if ends_line place b then k + 1 else k) xs ys e) is
  where
    by_test : (test : Bool) (short long : Option Extent) → (short ≡ Some e → long ≡ Some e)
        → (if test then extent_of (n + 1) k else short) ≡ Some e → (if test then extent_of (n + 1) k else long) ≡ Some e
    by_test true short long more at = at
    by_test false short long more at = more at
