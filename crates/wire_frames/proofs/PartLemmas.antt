-- From what the parser and the fields say of a whole head to what it comes to.
use Rattle.std.proofs.Common.{◌≡◌, ◌∙◌, ℕ, ◌+◌, ◌≤◌, ◌==◌, ◌||◌, List, [], length, drop, map, sym, ap, subst, arith, append-nil, Option, Some, Result, Ok, Err, IfOk, IfErr}
use Rattle.std.specs.Prelude.{codes, option_copied}
use Rattle.std.specs.Borrow.{Bor}
use Rattle.http1.specs.Fields.{values_named}
use Rattle.httparse.specs.declared.borrowed.Request.{Request}
use Rattle.httparse.specs.Borrowed.{HoldsSomeRequest, header_parts}
use Rattle.httparse.specs.Grammar.{RequestHead, ReadsRequest}
use Rattle.httparse.specs.Spans.{RequestOverflows}
use Rattle.httparse.proofs.GrammarLemmas.{request_unique}
use Rattle.wire_frames.specs.declared.refusals.Refusal.{Refusal}
use Rattle.wire_frames.specs.declared.refusals.Refusal.TheVariants.{HeadTooLarge, BadHead, TransferCoding, BodyTooLarge}
use Rattle.wire_frames.specs.declared.parts.Parts.{Parts}
use Rattle.wire_frames.specs.Fields.{fields_of, is_head, lists_close}
use Rattle.wire_frames.specs.Frames.{IsGoodHead, RefusesHead}
use Rattle.wire_frames.specs.Heads.{head_extent}
use Rattle.wire_frames.specs.Outcomes.{AreValues}
use Rattle.wire_frames.specs.Reading.{FrameBody, GiveBody, RefuseHead, Holds, ArePartsOf, AreParts}
use Rattle.wire_frames.proofs.HeadLemmas.{extent_of}
use Rattle.wire_frames.proofs.EndLemmas.{whole_head}

-- the parser's answer on a whole head: all of it was read
pub record IsRead (head : List ℕ) (request : Request) : Type 0 where
  pub h : RequestHead
  pub reads : ReadsRequest head h []
  pub holds : Holds request h

pub read_of : (head : List ℕ) (lines len : ℕ) (request : Request) → head_extent head ≡ extent_of (length head) lines
    → HoldsSomeRequest head request len → IsRead head request
read_of head lines len request extent some =
    let h = some.0 in
    let x = some.1 in
    record {
      h = h;
      reads = subst (ReadsRequest head h) (whole_head head (drop len head) lines h extent x.reads).0 x.reads;
      holds = record { method = x.method; path = x.path; version = x.version; fields = x.fields };
    }

good_of : (head : List ℕ) (h : RequestHead) (n : ℕ) → ReadsRequest head h [] → GiveBody h.minor (fields_of h) n → IsGoodHead head h n
good_of head h n reads gives = record { reads = reads; host = gives.host; length = gives.length }

gives_of : (head : List ℕ) (h k : RequestHead) (n : ℕ) → ReadsRequest head h [] → IsGoodHead head k n → GiveBody h.minor (fields_of h) n
gives_of head h k n reads good =
    let same = (request_unique head k h [] [] good.reads reads).0 in
    subst (λ (g : RequestHead). GiveBody g.minor (fields_of g) n) same (record { host = good.host; length = good.length })

pub refuses_of : (head : List ℕ) (lines : ℕ) (h : RequestHead) (r : Refusal) → lines ≤ 65 → ReadsRequest head h []
    → RefuseHead h.minor (fields_of h) r → RefusesHead head lines r
refuses_of head lines h HeadTooLarge few reads x = absurd x
refuses_of head lines h BadHead few reads x = (few, λ k n good. x n (gives_of head h k n reads good))
refuses_of head lines h TransferCoding few reads x = (few, (h, x.0, good_of head h x.0 reads x.1, x.2))
refuses_of head lines h BodyTooLarge few reads x = (few, (h, x.0, good_of head h x.0 reads x.1, x.2, x.3))
refuses_of head lines h r few reads x = absurd x

pub parts_of : (head : List ℕ) (lines : ℕ) (h : RequestHead) (parts : Parts) → lines ≤ 65 → ReadsRequest head h []
    → ArePartsOf h parts → AreParts head lines parts
parts_of head lines h parts few reads x = (
  h,
  record {
    few = few;
    good = good_of head h parts.body reads x.frames.gives;
    plain = x.frames.plain;
    small = x.frames.small;
  },
  x,
)

some_same : {A : Type 0} (x y : A) → Some x ≡ Some y → x ≡ y
some_same x y is = cc is

copied_is : (found : Option (Bor (List ℕ))) (x : Bor (List ℕ)) (bytes : List ℕ) → found ≡ Some x → option_copied found ≡ Some bytes → x.now ≡ bytes
copied_is found x bytes is copied = some_same x.now bytes (sym (ap (λ (o : Option (Bor (List ℕ))). option_copied o) is) ∙ copied)

-- parts that were made of what the parser holds are those of the head
pub judged : (request : Request) (h : RequestHead) (parts : Parts) (minor : ℕ) → Holds request h
    → request.method ≡ Some parts.method → request.path ≡ Some parts.target → request.version ≡ Some minor
    → FrameBody minor (map header_parts request.headers.now) parts.body
    → AreValues parts.staff_key (values_named (codes "x-staff-key") (map header_parts request.headers.now))
    → parts.close ≡ ((minor == 0) || (is_head parts.method.now || lists_close (map header_parts request.headers.now)))
    → ArePartsOf h parts
judged request h parts minor holds has_method has_target has_version frames key close =
    let method = copied_is request.method parts.method h.method has_method holds.method in
    let version : minor ≡ h.minor = some_same minor h.minor (sym has_version ∙ holds.version) in
    record {
      frames = subst (λ (fields : List (List ℕ × List ℕ)). FrameBody h.minor fields parts.body) holds.fields
          (subst (λ (n : ℕ). FrameBody n (map header_parts request.headers.now) parts.body) version frames);
      method = method;
      target = copied_is request.path parts.target h.target has_target holds.path;
      staff_key = subst (λ (fields : List (List ℕ × List ℕ)). AreValues parts.staff_key (values_named (codes "x-staff-key") fields)) holds.fields key;
      close = close
          ∙ ap (λ (n : ℕ). (n == 0) || (is_head parts.method.now || lists_close (map header_parts request.headers.now))) version
          ∙ ap (λ (bytes : List ℕ). (h.minor == 0) || (is_head bytes || lists_close (map header_parts request.headers.now))) method
          ∙ ap (λ (fields : List (List ℕ × List ℕ)). (h.minor == 0) || (is_head h.method || lists_close fields)) holds.fields;
    }

-- ---- the judgement of what was read, carried over to the head

pub ok_of : (head : List ℕ) (lines : ℕ) (request : Request) (r : Result Parts Refusal) → lines ≤ 65 → IsRead head request
    → IfOk r (λ parts. (h : RequestHead) → Holds request h → ArePartsOf h parts) → IfOk r (AreParts head lines)
ok_of head lines request (Ok parts) few read x = parts_of head lines read.h parts few read.reads (x read.h read.holds)
ok_of head lines request (Err refusal) few read x = tt

pub err_of : (head : List ℕ) (lines : ℕ) (request : Request) (r : Result Parts Refusal) → lines ≤ 65 → IsRead head request
    → IfErr r (λ refusal. (h : RequestHead) → Holds request h → RefuseHead h.minor (fields_of h) refusal)
    → IfErr r (RefusesHead head lines)
err_of head lines request (Ok parts) few read x = tt
err_of head lines request (Err refusal) few read x = refuses_of head lines read.h refusal few read.reads (x read.h read.holds)

-- more fields than there is room for want more lines than there are
pub overflow_bad : (head : List ℕ) (lines room : ℕ) → head_extent head ≡ extent_of (length head) lines → lines ≤ room + 1
    → RequestOverflows room head → (h : RequestHead) (n : ℕ) → ¬ IsGoodHead head h n
overflow_bad head lines room extent few overflows h n good =
    let count = (whole_head head [] lines h extent good.reads).1 in
    let many = overflows [] h [] (subst (λ (t : List ℕ). ReadsRequest t h []) (sym (append-nil head)) good.reads) in
    omega (arith, count, many)
