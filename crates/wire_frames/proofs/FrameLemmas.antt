-- From what the calls below say of the front to what its answer says, and that each answer comes exactly where its fact holds.
use Rattle.std.proofs.Common.{◌≡◌, ℕ, ◌+◌, ◌<◌, ◌≤◌, inl, inr, List, [], ◌∷◌, ◌++◌, length, take, refl, sym, ap, ◌∙◌, subst, arith, append-nil, length-append}
use Rattle.std.proofs.lemmas.Bool.{cases_lt}
use Rattle.httparse.specs.Grammar.{RequestHead}
use Rattle.wire_frames.specs.declared.fields.Named.{Named}
use Rattle.wire_frames.specs.declared.frames.Framing.{Framing}
use Rattle.wire_frames.specs.declared.heads.Extent.{Extent}
use Rattle.wire_frames.specs.declared.parts.Parts.{Parts}
use Rattle.wire_frames.specs.declared.refusals.Refusal.{Refusal}
use Rattle.wire_frames.specs.declared.refusals.Refusal.TheVariants.{HeadTooLarge}
use Rattle.http1.specs.Fields.{values_named}
use Rattle.std.specs.Prelude.{codes}
use Rattle.wire_frames.specs.Fields.{fields_of}
use Rattle.wire_frames.specs.Frames.{HasEnd, HasNoEnd, RefusesHead, HasHead, IsShort, IsRefused, PlainFrame, HasFrame}
use Rattle.wire_frames.specs.Outcomes.{AreValues, ShowsFrame, WaitsFor, IfMore, IfFault, IfFramed, IsMore, IsFramedAnd}
use Rattle.wire_frames.specs.Reading.{AreParts, FramesBody}
use Rattle.wire_frames.proofs.FrontLemmas.{end_not_none, one_head, head_more}
use Rattle.wire_frames.proofs.LawLemmas.{short_not_refused, short_not_framed, head_not_refused, one_front_refusal, plain_frame, one_frame}

-- what an answer says of the front
abbrev pub FramesAs : List ℕ → Framing → Type 0
FramesAs bytes (Framing.More least) = WaitsFor bytes least
FramesAs bytes (Framing.Fault refusal) = IsRefused bytes refusal
FramesAs bytes (Framing.Framed framed) = (frame : PlainFrame) × HasFrame bytes frame × ShowsFrame framed frame

-- the same, both ways
pub record IsExact (bytes : List ℕ) (r : Framing) : Type 0 where
  pub more : IfMore r (WaitsFor bytes)
  pub fault : IfFault r (IsRefused bytes)
  pub framed : IfFramed r (λ framed. (frame : PlainFrame) × HasFrame bytes frame × ShowsFrame framed frame)
  pub short : IsShort bytes → IsMore r
  pub refused : (refusal : Refusal) → IsRefused bytes refusal → r ≡ Framing.Fault refusal
  pub whole : (frame : PlainFrame) → HasFrame bytes frame → IsFramedAnd r (λ framed. ShowsFrame framed frame)

pub exact : (bytes : List ℕ) (r : Framing) → FramesAs bytes r → IsExact bytes r
exact bytes (Framing.More least) x = record {
  more = x;
  fault = tt;
  framed = tt;
  short = λ _. tt;
  refused = λ refusal y. absurd (short_not_refused bytes refusal x.short y);
  whole = λ frame y. absurd (short_not_framed bytes frame x.short y);
}
exact bytes (Framing.Fault refusal) x = record {
  more = tt;
  fault = x;
  framed = tt;
  short = λ y. short_not_refused bytes refusal y x;
  refused = λ other y. ap Framing.Fault (one_front_refusal bytes refusal other x y);
  whole = λ frame y. head_not_refused bytes y.extent y.h y.size refusal y.head x;
}
exact bytes (Framing.Framed framed) x = record {
  more = tt;
  fault = tt;
  framed = x;
  short = λ y. short_not_framed bytes x.0 y x.1;
  refused = λ refusal y. absurd (head_not_refused bytes x.1.extent x.1.h x.1.size refusal x.1.head y);
  whole = λ frame y. subst (ShowsFrame framed) (one_frame bytes x.0 frame x.1 y) x.2;
}

-- ---- a front without the end of a head

same_behind : (bytes behind : List ℕ) → length (bytes ++ behind) < length bytes + 1 → bytes ++ behind ≡ bytes
same_behind bytes [] few = append-nil bytes
same_behind bytes (b ∷ behind) few = let longer = length-append bytes (b ∷ behind) in absurd (omega (arith, longer))

endless_waits : (bytes : List ℕ) → HasNoEnd bytes → length bytes < 16384 → WaitsFor bytes (length bytes + 1)
endless_waits bytes none few = record {
  short = inl (none, few);
  stays = λ behind below. subst IsShort (sym (same_behind bytes behind below)) (inl (none, few));
  more = omega arith;
  whole = λ e h n x. absurd (end_not_none bytes e x.ends none);
}

pub endless_frames : (bytes : List ℕ) (r : Framing) → HasNoEnd bytes
    → (length bytes < 16384 → r ≡ Framing.More (length bytes + 1)) → (16384 ≤ length bytes → r ≡ Framing.Fault HeadTooLarge)
    → FramesAs bytes r
endless_frames bytes r none short long = elim (cases_lt (length bytes) 16384) [
  | inl few ↦ subst (FramesAs bytes) (sym (short few)) (endless_waits bytes none few)
  | inr many ↦ subst (FramesAs bytes) (sym (long many)) (inl (none, many, refl))
]

-- ---- a head that isn't refused, and its body

body_waits : (bytes : List ℕ) (e : Extent) (h : RequestHead) (n : ℕ) → HasHead bytes e h n → length bytes < e.length + n
    → WaitsFor bytes (e.length + n)
body_waits bytes e h n x lt = record {
  short = inr (e, h, n, x, lt);
  stays = λ behind below. inr (e, h, n, head_more bytes behind e h n x, below);
  more = lt;
  whole = λ f k m y.
      let same = one_head bytes e f h k n m x y in
      let length_of = ap (λ (v : Extent). v.length) same.extent in
      omega (arith, same.size, length_of);
}

pub body_frames : (bytes : List ℕ) (e : Extent) (parts : Parts) (r : Framing) → HasEnd bytes e
    → AreParts (take e.length bytes) e.lines parts → FramesBody bytes parts e.length r → FramesAs bytes r
unfolding plain_frame
body_frames bytes e parts (Framing.More least) ends are x =
    let head : HasHead bytes e are.0 parts.body = record { ends = ends; head = are.1 } in
    subst (WaitsFor bytes) (sym x.1) (body_waits bytes e are.0 parts.body head (omega (arith, x.0, x.1)))
body_frames bytes e parts (Framing.Fault refusal) ends are x = absurd x
body_frames bytes e parts (Framing.Framed framed) ends are x =
    let h = are.0 in
    let from = are.2 in
    let fields = values_named (codes "x-staff-key") (fields_of h) in (
      plain_frame bytes e h parts.body,
      record {
        extent = e;
        h = h;
        size = parts.body;
        head = record { ends = ends; head = are.1 };
        whole = x.whole;
        method = refl;
        target = refl;
        fields = refl;
        body = refl;
        length = refl;
        close = refl;
      },
      record {
        method = x.method ∙ from.method;
        target = x.target ∙ from.target;
        staff_key = subst (λ (n : Named). AreValues n fields) (sym x.staff_key) from.staff_key;
        body = x.body;
        length = x.length;
        close = x.close ∙ from.close;
      },
    )

pub refused_frames : (bytes : List ℕ) (e : Extent) (refusal : Refusal) → HasEnd bytes e
    → RefusesHead (take e.length bytes) e.lines refusal → IsRefused bytes refusal
refused_frames bytes e refusal ends x = inr (e, ends, x)
