-- A call more on the record of a disk in memory.
use Rattle.std.proofs.Common.{◌≡◌, ◌≢◌, ℕ, ◌+◌, ◌-◌, ◌≤◌, ◌<◌, List, [], ◌∷◌, ◌++◌, length, take, drop, Bool, true, false, cond, refl, sym, ◌∙◌, ap, subst, arith, nat_le, min, length-append, take-append-drop}
use Rattle.std.proofs.lemmas.Bool.Decides.{nat_tests}
use Rattle.std.proofs.lemmas.List.{take-append-le, drop-append-le, take_all, length-drop, append-nil}
use Rattle.venue_ports.proofs.Tears.{length-with_piece}
use Rattle.venue_ports.specs.Moments.{Moment, Now, with_piece}
use Rattle.venue_ports.specs.Plans.{Held, room_left}
use Rattle.venue_ports.specs.DiskCalls.{DiskRecord, first_moment, after_kind, add_call, add_calls, moments_of, record_moments, newest_reads, content_of, record_of, bytes_left, is_full, noted_moments, count_put, IsKept}
use Rattle.venue_ports.specs.declared.disk_calls.DiskCall.{DiskCall}
use Rattle.venue_ports.specs.declared.disk_calls.DiskCallKind.{DiskCallKind}
use Rattle.venue_ports.specs.declared.disk_calls.DiskCallKind.TheVariants.{Len, Read, Write, Sync}

nil_of : (l : List ℕ) → 0 ≡ length l → l ≡ []
nil_of [] e = refl
nil_of (x ∷ xs) e = absurd (omega (arith, e))

pub add_calls-push : (calls : List DiskCall) (call : DiskCall) (put more : List ℕ) (ms : List Moment) → count_put calls ≡ length put → call.put ≡ length more
    → add_calls (calls ++ call ∷ []) (put ++ more) ms ≡ add_call call more (add_calls calls put ms)
add_calls-push [] call put more ms counts size =
    ap (λ (l : List ℕ). add_call call (take call.put (l ++ more)) ms) (nil_of put counts) ∙ ap (λ (l : List ℕ). add_call call l ms) (take_all call.put more (omega (arith, size)))
add_calls-push (c ∷ cs) call put more ms counts size =
    let le : c.put ≤ length put = omega (arith, counts) in
    let left : count_put cs ≡ length (drop c.put put) = omega (arith, counts, length-drop c.put put) in
    ap (λ (l : List ℕ). add_calls (cs ++ call ∷ []) l (add_call c (take c.put (put ++ more)) ms)) (drop-append-le c.put put more le)
    ∙ ap (λ (l : List ℕ). add_calls (cs ++ call ∷ []) (drop c.put put ++ more) (add_call c l ms)) (take-append-le c.put put more le)
    ∙ add_calls-push cs call (drop c.put put) more (add_call c (take c.put put) ms) left size

pub count_put-push : (calls : List DiskCall) (call : DiskCall) → count_put (calls ++ call ∷ []) ≡ count_put calls + call.put
count_put-push [] call = omega arith
count_put-push (c ∷ cs) call = omega (arith, count_put-push cs call)

-- there is always a newest moment
pub record IsSome (moments : List Moment) : Type 0 where
  pub now : Moment
  pub past : List Moment
  pub is : moments ≡ now ∷ past

pub some_moment : (calls : List DiskCall) (put : List ℕ) (now : Moment) (past : List Moment) → IsSome (add_calls calls put (now ∷ past))
some_moment [] put now past = record { now = now; past = past; is = refl }
some_moment (c ∷ cs) put now past = some_moment cs (drop c.put put) (after_kind c.kind c (take c.put put) now) (now ∷ past)

reads_of_kind : (kind : DiskCallKind) (call : DiskCall) (put : List ℕ) (now : Moment) → kind ≢ Write → (after_kind kind call put now).reads ≡ now.reads
reads_of_kind Len call put now other = refl
reads_of_kind Read call put now other = refl
reads_of_kind Write call put now other = absurd (other refl)
reads_of_kind Sync call put now other = by_outcome call.failed
  where
    by_outcome : (failed : Bool) → (cond failed now (record { reads = now.reads; synced = now.reads; loose = [] })).reads ≡ now.reads
    by_outcome true = refl
    by_outcome false = refl

-- what a read gives is as it was but for a write
pub reads_stay : (call : DiskCall) (put : List ℕ) (moments : List Moment) → call.kind ≢ Write → newest_reads (add_call call put moments) ≡ newest_reads moments
reads_stay call put [] other = refl
reads_stay call put (now ∷ past) other = reads_of_kind call.kind call put now other

pub reads_written : (call : DiskCall) (put : List ℕ) (moments : List Moment) → IsSome moments → call.kind ≡ Write → newest_reads (add_call call put moments) ≡ with_piece (newest_reads moments) call.at put
reads_written call put [] some write = absurd cc
reads_written call put (now ∷ past) some write = ap (λ (k : DiskCallKind). (after_kind k call put now).reads) write

-- a fact of what a read gives, where a moment is told
pub of_now : (P : List ℕ → Type 0) (moments : List Moment) → IsSome moments → Now (λ m. P m.reads) moments → P (newest_reads moments)
of_now P [] some now = absurd cc
of_now P (m ∷ past) some now = now

some_of : (r : DiskRecord) → IsSome (moments_of r.first r.calls r.put)
some_of r = some_moment r.calls r.put (first_moment r.first) []

-- a record keeps what it says, with a call more that puts nothing
pub kept_noted : (r : DiskRecord) (reads : List ℕ) (call : DiskCall) (calls : List DiskCall) → IsKept r reads → calls ≡ r.calls ++ call ∷ [] → call.put ≡ 0 → call.kind ≢ Write → IsKept (record r { calls = calls }) reads
kept_noted r reads call calls kept is none other =
    let before : List Moment = moments_of r.first r.calls r.put in
    let more : moments_of r.first (r.calls ++ call ∷ []) r.put ≡ add_call call [] before =
    ap (λ (l : List ℕ). moments_of r.first (r.calls ++ call ∷ []) l) (sym (append-nil r.put)) ∙ add_calls-push r.calls call r.put [] (first_moment r.first ∷ []) kept.counts none in
    record {
      counts = ap count_put is ∙ count_put-push r.calls call ∙ omega (arith, none, kept.counts);
      content = kept.content ∙ sym (ap (λ (l : List DiskCall). newest_reads (moments_of r.first l r.put)) is ∙ ap newest_reads more ∙ reads_stay call [] before other);
      fits = kept.fits;
      room = kept.room;
      full = λ e. let long : length calls ≡ length r.calls + 1 = ap length is ∙ length-append r.calls (call ∷ []) in omega (arith, long, kept.full e);
    }

not_full : (a b : ℕ) → nat_le a b ≡ false → a ≤ b → ⊥
not_full a b more le = grind (arith, nat_tests)

-- what is told then, where there was room for the call
pub moments_noted : (r : DiskRecord) (reads : List ℕ) (call : DiskCall) (calls : List DiskCall) → IsKept r reads → calls ≡ r.calls ++ call ∷ [] → call.put ≡ 0 → is_full r ≡ false
    → record_moments (record r { calls = calls }) ≡ noted_moments call [] r
moments_noted r reads call calls kept is none room =
    ap (λ (l : List DiskCall). cond r.ended [] (moments_of r.first l r.put)) is ∙ by_end r.ended kept.full ∙ ap (λ b. cond b [] (add_call call [] (record_moments r))) (sym room)
  where
    by_end : (ended : Bool) → (ended ≡ true → r.most ≤ length r.calls)
        → cond ended [] (moments_of r.first (r.calls ++ call ∷ []) r.put) ≡ add_call call [] (cond ended [] (moments_of r.first r.calls r.put))
    by_end true full = absurd (not_full r.most (length r.calls) room (full refl))
    by_end false full =
        ap (λ (l : List ℕ). moments_of r.first (r.calls ++ call ∷ []) l) (sym (append-nil r.put)) ∙ add_calls-push r.calls call r.put [] (first_moment r.first ∷ []) kept.counts none

-- a record keeps what it says, with a write more
pub kept_written : (r : DiskRecord) (reads : List ℕ) (call : DiskCall) (calls : List DiskCall) (put all : List ℕ) → IsKept r reads → calls ≡ r.calls ++ call ∷ [] → all ≡ r.put ++ put → call.put ≡ length put
    → call.kind ≡ Write → call.at ≤ length reads → length put ≤ bytes_left r → IsKept (record r { calls = calls; put = all }) (with_piece reads call.at put)
kept_written r reads call calls put all kept is whole size write within room =
    let before : List Moment = moments_of r.first r.calls r.put in
    let more : moments_of r.first calls all ≡ add_call call put before =
    ap (λ (l : List DiskCall). moments_of r.first l all) is ∙ ap (λ (l : List ℕ). moments_of r.first (r.calls ++ call ∷ []) l) whole
    ∙ add_calls-push r.calls call r.put put (first_moment r.first ∷ []) kept.counts size in
    let long : length all ≡ length r.put + length put = ap length whole ∙ length-append r.put put in
    record {
      counts = ap count_put is ∙ count_put-push r.calls call ∙ omega (arith, size, kept.counts, long);
      content = ap (λ (l : List ℕ). with_piece l call.at put) kept.content ∙ sym (ap newest_reads more ∙ reads_written call put before (some_of r) write);
      fits = omega (arith, length-with_piece reads call.at put within, within, kept.fits, long);
      room = omega (arith, long, kept.room, room);
      full = λ e. let longer : length calls ≡ length r.calls + 1 = ap length is ∙ length-append r.calls (call ∷ []) in omega (arith, longer, kept.full e);
    }

pub moments_written : (r : DiskRecord) (reads : List ℕ) (call : DiskCall) (calls : List DiskCall) (put all : List ℕ) → IsKept r reads → calls ≡ r.calls ++ call ∷ [] → all ≡ r.put ++ put → call.put ≡ length put
    → is_full r ≡ false → record_moments (record r { calls = calls; put = all }) ≡ noted_moments call put r
moments_written r reads call calls put all kept is whole size room =
    ap (λ (l : List DiskCall). cond r.ended [] (moments_of r.first l all)) is ∙ ap (λ (l : List ℕ). cond r.ended [] (moments_of r.first (r.calls ++ call ∷ []) l)) whole
    ∙ by_end r.ended kept.full ∙ ap (λ b. cond b [] (add_call call put (record_moments r))) (sym room)
  where
    by_end : (ended : Bool) → (ended ≡ true → r.most ≤ length r.calls)
        → cond ended [] (moments_of r.first (r.calls ++ call ∷ []) (r.put ++ put)) ≡ add_call call put (cond ended [] (moments_of r.first r.calls r.put))
    by_end true full = absurd (not_full r.most (length r.calls) room (full refl))
    by_end false full = add_calls-push r.calls call r.put put (first_moment r.first ∷ []) kept.counts size

-- a fact of what is told holds of what a read gives, where there is room for a call
pub of_content : (P : List ℕ → Type 0) (r : DiskRecord) (reads : List ℕ) → IsKept r reads → is_full r ≡ false → Now (λ m. P m.reads) (record_moments r) → P reads
of_content P r reads kept room within = subst P (sym kept.content) (by_end r.ended kept.full within)
  where
    by_end : (ended : Bool) → (ended ≡ true → r.most ≤ length r.calls) → Now (λ m. P m.reads) (cond ended [] (moments_of r.first r.calls r.put)) → P (content_of r)
    by_end true full now = absurd (not_full r.most (length r.calls) room (full refl))
    by_end false full now = of_now P (moments_of r.first r.calls r.put) (some_of r) now

-- bytes that have room are appended whole
pub all_appended : (first : ℕ) (held : Held) (x : List ℕ) (n : ℕ) → n ≡ min (room_left held) (length x) → length x ≤ held.room - (length (take first held.bytes) + length (drop first held.bytes)) → take n x ≡ x
all_appended first held x n is fits =
    let parts : length held.bytes ≡ length (take first held.bytes) + length (drop first held.bytes) = ap length (sym (take-append-drop first held.bytes)) ∙ length-append (take first held.bytes) (drop first held.bytes) in
    take_all n x (omega (arith, is, fits, parts))

module _ (first most : ℕ) (held next : Held) (calls more : List DiskCall) (ended : Bool) (reads : List ℕ) (call : DiskCall) (x : List ℕ) where
  abbrev before : DiskRecord
  before = record_of first held calls most ended

  appended : first ≤ length held.bytes → next ≡ record held { bytes = held.bytes ++ x } → record_of first next more most ended ≡ record before { calls = more; put = before.put ++ x }
  appended le is =
      ap (λ (h : Held). record_of first h more most ended) is
      ∙ ap (λ (l : List ℕ). record before { first = l; calls = more; put = drop first (held.bytes ++ x) }) (take-append-le first held.bytes x le)
      ∙ ap (λ (l : List ℕ). record before { calls = more; put = l }) (drop-append-le first held.bytes x le)

  pub kept_appended : first ≤ length held.bytes → next ≡ record held { bytes = held.bytes ++ x } → IsKept before reads → more ≡ calls ++ call ∷ [] → call.put ≡ length x → call.kind ≡ Write → call.at ≤ length reads → length x ≤ bytes_left before
      → IsKept (record_of first next more most ended) (with_piece reads call.at x)
  kept_appended le is kept one size write within room =
      subst (λ (r : DiskRecord). IsKept r (with_piece reads call.at x)) (sym (appended le is)) (kept_written before reads call more x (before.put ++ x) kept one refl size write within room)

  pub moments_appended : first ≤ length held.bytes → next ≡ record held { bytes = held.bytes ++ x } → IsKept before reads → more ≡ calls ++ call ∷ [] → call.put ≡ length x → is_full before ≡ false
      → record_moments (record_of first next more most ended) ≡ noted_moments call x before
  moments_appended le is kept one size room = ap record_moments (appended le is) ∙ moments_written before reads call more x (before.put ++ x) kept one refl size room
