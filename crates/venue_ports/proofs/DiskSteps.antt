-- What the calls of a disk in memory make of its moments.
use Rattle.std.proofs.Common.{◌≡◌, ◌⊎◌, inl, inr, ℕ, ◌+◌, ◌≤◌, List, [], ◌∷◌, length, take, Bool, true, false, cond, refl, sym, ◌∙◌, ap, subst, arith, length-take}
use Rattle.std.proofs.lemmas.List.{take_all}
use Rattle.venue_ports.specs.Moments.{Moment, Now, Goes, GoesOrEnds, HasWritten, MayHaveWritten, with_piece}
use Rattle.venue_ports.specs.DiskCalls.{DiskRecord, first_moment, after_call, add_call, moments_of, noted_moments, record_moments, content_of, is_full}
use Rattle.venue_ports.specs.declared.disk_calls.DiskCall.{DiskCall}
use Rattle.venue_ports.specs.declared.disk_calls.DiskCallKind.TheVariants.{Write}
use Rattle.venue_ports.proofs.CallLemmas.{IsSome, some_moment, of_now}
use Rattle.venue_ports.proofs.Tears.{torn_by_piece}

goes_of : (step : Moment → Moment → Type 0) (Q : Moment → Type 0) (call : DiskCall) (put : List ℕ) (moments new : List Moment) → new ≡ add_call call put moments → Now Q moments
    → ((now : Moment) → Q now → step now (after_call call put now)) → Goes step moments new
goes_of step Q call put [] new is now here = is
goes_of step Q call put (m ∷ past) new is now here = (after_call call put m, here m now, is)

goes_or_ends_by : (step : Moment → Moment → Type 0) (Q : Moment → Type 0) (call : DiskCall) (put : List ℕ) (moments new : List Moment) (full : Bool) → new ≡ cond full [] (add_call call put moments) → Now Q moments
    → ((now : Moment) → Q now → step now (after_call call put now)) → GoesOrEnds step moments new
goes_or_ends_by step Q call put moments new true is now here = inl is
goes_or_ends_by step Q call put moments new false is now here = inr (goes_of step Q call put moments new is now here)

-- a write that is recorded and puts its piece
pub goes_written : (at : ℕ) (piece : List ℕ) (failed : Bool) (r : DiskRecord) (new : List Moment) → is_full r ≡ false → Now (λ m. at ≤ length m.reads) (record_moments r)
    → new ≡ noted_moments (record { kind = Write; at = at; count = length piece; put = length piece; failed = failed }) (take (length piece) piece) r → Goes (HasWritten at piece) (record_moments r) new
goes_written at piece failed r new room within is =
    let call : DiskCall = record { kind = Write; at = at; count = length piece; put = length piece; failed = failed } in
    let whole : take (length piece) piece ≡ piece = take_all (length piece) piece (omega arith) in
    goes_of (HasWritten at piece) (λ m. at ≤ length m.reads) call piece (record_moments r) new
    (is ∙ ap (λ b. cond b [] (add_call call (take (length piece) piece) (record_moments r))) room ∙ ap (λ (l : List ℕ). add_call call l (record_moments r)) whole)
    within (λ m le. record { reads = refl; synced = refl; loose = refl })

-- a write that failed and puts the front of its piece
pub goes_torn : (at put : ℕ) (piece : List ℕ) (failed : Bool) (r : DiskRecord) (new : List Moment) → Now (λ m. at ≤ length m.reads) (record_moments r)
    → new ≡ noted_moments (record { kind = Write; at = at; count = length piece; put = put; failed = failed }) (take put piece) r → GoesOrEnds (MayHaveWritten at piece) (record_moments r) new
goes_torn at put piece failed r new within is =
    goes_or_ends_by (MayHaveWritten at piece) (λ m. at ≤ length m.reads) (record { kind = Write; at = at; count = length piece; put = put; failed = failed }) (take put piece) (record_moments r) new (is_full r) is within
    (λ m le. record { reads = torn_by_piece m.reads at (length piece) (take put piece) le (omega (arith, length-take put piece)); synced = refl; loose = refl })

-- a fact of what is told holds of what a read gives
pub of_told : (P : List ℕ → Type 0) (r : DiskRecord) → r.ended ≡ false → Now (λ m. P m.reads) (record_moments r) → P (content_of r)
of_told P r tells now =
    of_now P (moments_of r.first r.calls r.put) (some_moment r.calls r.put (first_moment r.first) [])
    (subst (λ b. Now (λ m. P m.reads) (cond b [] (moments_of r.first r.calls r.put))) tells now)
