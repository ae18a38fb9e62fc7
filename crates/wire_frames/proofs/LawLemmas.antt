-- What stands at a front is one thing alone, and stays so whatever bytes follow.
use Rattle.std.proofs.Common.{◌≡◌, ℕ, ◌+◌, ◌<◌, ◌≤◌, inl, inr, List, ◌++◌, length, take, drop, refl, sym, ap, ◌∙◌, subst, arith, length-append, length-drop}
use Rattle.std.proofs.lemmas.List.{take-append-le, drop-append-le}
use Rattle.httparse.specs.Grammar.{RequestHead}
use Rattle.wire_frames.specs.declared.heads.Extent.{Extent}
use Rattle.wire_frames.specs.declared.refusals.Refusal.{Refusal}
use Rattle.wire_frames.specs.declared.refusals.Refusal.TheVariants.{HeadTooLarge, BadHead, TransferCoding, BodyTooLarge}
use Rattle.wire_frames.specs.Fields.{fields_of, HasCoding, closes}
use Rattle.wire_frames.specs.Frames.{IsGoodHead, IsPlainHead, RefusesHead, HasHead, IsShort, IsRefused, PlainFrame, HasFrame}
use Rattle.wire_frames.proofs.FrontLemmas.{front_of, one_end, end_not_none, one_reading, one_head, end_more, no_end_more, front_more, head_more}

-- ---- of a head

no_coding : (head : List ℕ) (h k : RequestHead) (n m : ℕ) → IsGoodHead head h n → IsGoodHead head k m → HasCoding h → ¬ HasCoding k → ⊥
no_coding head h k n m x y has none = none (subst HasCoding (one_reading head h k n m x y).0 has)

pub plain_not_refused : (head : List ℕ) (lines : ℕ) (h : RequestHead) (n : ℕ) (r : Refusal)
    → IsPlainHead head lines h n → RefusesHead head lines r → ⊥
plain_not_refused head lines h n HeadTooLarge x y = omega (arith, x.few, y)
plain_not_refused head lines h n BadHead x y = y.1 h n x.good
plain_not_refused head lines h n TransferCoding x y = no_coding head y.1.0 h y.1.1 n y.1.2 x.good y.1.3 x.plain
plain_not_refused head lines h n BodyTooLarge x y =
    let same = (one_reading head h y.1.0 n y.1.1 x.good y.1.2).1 in
    omega (arith, x.small, same, y.1.4)
plain_not_refused head lines h n r x y = y

pub one_refusal : (head : List ℕ) (lines : ℕ) (r q : Refusal) → RefusesHead head lines r → RefusesHead head lines q → r ≡ q
one_refusal head lines HeadTooLarge HeadTooLarge x y = refl
one_refusal head lines HeadTooLarge BadHead x y = absurd (omega (arith, x, y.0))
one_refusal head lines HeadTooLarge TransferCoding x y = absurd (omega (arith, x, y.0))
one_refusal head lines HeadTooLarge BodyTooLarge x y = absurd (omega (arith, x, y.0))
one_refusal head lines HeadTooLarge q x y = absurd y
one_refusal head lines BadHead HeadTooLarge x y = absurd (omega (arith, x.0, y))
one_refusal head lines BadHead BadHead x y = refl
one_refusal head lines BadHead TransferCoding x y = absurd (x.1 y.1.0 y.1.1 y.1.2)
one_refusal head lines BadHead BodyTooLarge x y = absurd (x.1 y.1.0 y.1.1 y.1.2)
one_refusal head lines BadHead q x y = absurd y
one_refusal head lines TransferCoding HeadTooLarge x y = absurd (omega (arith, x.0, y))
one_refusal head lines TransferCoding BadHead x y = absurd (y.1 x.1.0 x.1.1 x.1.2)
one_refusal head lines TransferCoding TransferCoding x y = refl
one_refusal head lines TransferCoding BodyTooLarge x y = absurd (no_coding head x.1.0 y.1.0 x.1.1 y.1.1 x.1.2 y.1.2 x.1.3 y.1.3)
one_refusal head lines TransferCoding q x y = absurd y
one_refusal head lines BodyTooLarge HeadTooLarge x y = absurd (omega (arith, x.0, y))
one_refusal head lines BodyTooLarge BadHead x y = absurd (y.1 x.1.0 x.1.1 x.1.2)
one_refusal head lines BodyTooLarge TransferCoding x y = absurd (no_coding head y.1.0 x.1.0 y.1.1 x.1.1 y.1.2 x.1.2 y.1.3 x.1.3)
one_refusal head lines BodyTooLarge BodyTooLarge x y = refl
one_refusal head lines BodyTooLarge q x y = absurd y
one_refusal head lines r q x y = absurd x

-- ---- of a front

pub head_not_refused : (bytes : List ℕ) (e : Extent) (h : RequestHead) (n : ℕ) (r : Refusal) → HasHead bytes e h n → IsRefused bytes r → ⊥
head_not_refused bytes e h n r x (inl none) = end_not_none bytes e x.ends none.0
head_not_refused bytes e h n r x (inr y) =
    let same = one_end bytes e y.0 x.ends y.1 in
    plain_not_refused (take y.0.length bytes) y.0.lines h n r
    (subst (λ (v : Extent). IsPlainHead (take v.length bytes) v.lines h n) same x.head) y.2

pub short_not_refused : (bytes : List ℕ) (r : Refusal) → IsShort bytes → IsRefused bytes r → ⊥
short_not_refused bytes r (inl none) (inl many) = omega (arith, none.1, many.1)
short_not_refused bytes r (inl none) (inr y) = end_not_none bytes y.0 y.1 none.0
short_not_refused bytes r (inr x) y = head_not_refused bytes x.0 x.1 x.2 r x.3 y

pub short_not_framed : (bytes : List ℕ) (f : PlainFrame) → IsShort bytes → HasFrame bytes f → ⊥
short_not_framed bytes f (inl none) y = end_not_none bytes y.extent y.head.ends none.0
short_not_framed bytes f (inr x) y =
    let same = one_head bytes x.0 y.extent x.1 y.h x.2 y.size x.3 y.head in
    let length_of = ap (λ (e : Extent). e.length) same.extent in
    omega (arith, same.size, length_of, x.4, y.whole)

pub one_front_refusal : (bytes : List ℕ) (r q : Refusal) → IsRefused bytes r → IsRefused bytes q → r ≡ q
one_front_refusal bytes r q (inl x) (inl y) = x.2 ∙ sym y.2
one_front_refusal bytes r q (inl x) (inr y) = absurd (end_not_none bytes y.0 y.1 x.0)
one_front_refusal bytes r q (inr x) (inl y) = absurd (end_not_none bytes x.0 x.1 y.0)
one_front_refusal bytes r q (inr x) (inr y) =
    let same = one_end bytes x.0 y.0 x.1 y.1 in
    one_refusal (take y.0.length bytes) y.0.lines r q
    (subst (λ (v : Extent). RefusesHead (take v.length bytes) v.lines r) same x.2) y.2

-- the frame of a head and its body
unfoldable pub plain_frame : List ℕ → Extent → RequestHead → ℕ → PlainFrame
plain_frame bytes e h n = record {
  method = h.method;
  target = h.target;
  fields = fields_of h;
  body = take n (drop e.length bytes);
  length = e.length + n;
  close = closes h;
}

frame_is : (bytes : List ℕ) (f : PlainFrame) (x : HasFrame bytes f) → f ≡ plain_frame bytes x.extent x.h x.size
unfolding plain_frame
frame_is bytes f x = λ i. record {
  method = x.method i;
  target = x.target i;
  fields = x.fields i;
  body = x.body i;
  length = x.length i;
  close = x.close i;
}

pub one_frame : (bytes : List ℕ) (f g : PlainFrame) → HasFrame bytes f → HasFrame bytes g → f ≡ g
one_frame bytes f g x y =
    let same = one_head bytes x.extent y.extent x.h y.h x.size y.size x.head y.head in
    frame_is bytes f x
    ∙ ap (λ (e : Extent). plain_frame bytes e x.h x.size) same.extent
    ∙ ap (λ (h : RequestHead). plain_frame bytes y.extent h x.size) same.head
    ∙ ap (λ (n : ℕ). plain_frame bytes y.extent y.h n) same.size
    ∙ sym (frame_is bytes g y)

-- ---- with bytes behind

pub refused_more : (bytes more : List ℕ) (r : Refusal) → IsRefused bytes r → IsRefused (bytes ++ more) r
refused_more bytes more r (inl x) =
    let longer = length-append bytes more in
    inl (no_end_more bytes more x.0 x.1, omega (arith, longer, x.1), x.2)
refused_more bytes more r (inr x) = inr (
  x.0,
  end_more bytes more x.0 x.1,
  subst (λ (t : List ℕ). RefusesHead t x.0.lines r) (sym (front_more bytes more x.0 x.1)) x.2,
)

body_more : (n m : ℕ) (bytes more : List ℕ) → n + m ≤ length bytes → take m (drop n (bytes ++ more)) ≡ take m (drop n bytes)
body_more n m bytes more fits =
    let left = length-drop n bytes in
    ap (λ (t : List ℕ). take m t) (drop-append-le n bytes more (omega (arith, fits)))
    ∙ take-append-le m (drop n bytes) more (omega (arith, left, fits))

pub framed_more : (bytes more : List ℕ) (f : PlainFrame) → HasFrame bytes f → HasFrame (bytes ++ more) f
framed_more bytes more f x =
    let longer = length-append bytes more in
    record {
      extent = x.extent;
      h = x.h;
      size = x.size;
      head = head_more bytes more x.extent x.h x.size x.head;
      whole = omega (arith, longer, x.whole);
      method = x.method;
      target = x.target;
      fields = x.fields;
      body = x.body ∙ sym (body_more x.extent.length x.size bytes more x.whole);
      length = x.length;
      close = x.close;
    }

pub short_length : (bytes : List ℕ) → IsShort bytes → length bytes < 81920
short_length bytes (inl none) = omega (arith, none.1)
short_length bytes (inr x) =
    let small = (front_of bytes x.0 x.3.ends).within in
    let body = x.3.head.small in
    omega (arith, small, body, x.4)
