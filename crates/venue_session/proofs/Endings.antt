-- A session under way ends.
use Rattle.std.proofs.Common.{◌≡◌, ℕ, ◌+◌, ◌<◌, ◌≤◌, ◌^◌, inl, inr, true, List, [], ◌∷◌, ◌++◌, length, drop, refl, sym, ◌∙◌, subst, arith, append-nil, Option}
use Rattle.std.specs.Io.KnownBytes.{Appends, Consumes, IsAtEnd}
use Rattle.std.proofs.KnownBytes.{Appends-trans}
use mathlib.Core.List.{IsPrefix}
use Rattle.venue_ports.specs.Causes.{Rose}
use Rattle.venue_ports.specs.Starts.{ReadStart}
use Rattle.venue_hall.specs.Facts.{Facts}
use Rattle.wire_frames.specs.Frames.{IsShort, IsRefused}
use Rattle.wire_frames.specs.declared.refusals.Refusal.{Refusal}
use Rattle.wire_replies.specs.Heads.{refusal_status}
use Rattle.venue_session.specs.Acting.{Acted, text_of, IsActed}
use Rattle.venue_session.specs.Ends.{Run, Ended, refused_text}
use Rattle.venue_session.specs.Going.{Moment, moment, measured, IsGoing, HasEnded, WasPrompt}
use Rattle.venue_session.specs.Steps.{told_by}
use Rattle.venue_session.specs.declared.ends.End.{End}
use Rattle.venue_session.specs.declared.ends.End.TheVariants as end
use Rattle.venue_session.proofs.Joining.{acts_push}
use Rattle.venue_session.proofs.Prompting.{prompt_kept}

module _ (keys : List (List ℕ)) (first : Moment) (mid : Facts) (left written : Option (List ℕ)) (starts : Option (List ReadStart)) (faults taken : ℕ) (waiting : List ℕ)
    (going : IsGoing keys first (moment mid left written starts faults) taken waiting) where
  -- what was done before the end
  abbrev run : Run
  run = record { bytes = going.bytes; acted = going.acted; out = going.out; facts = mid; rest = waiting }

  -- what was done, with one message more
  abbrev run_with : Acted → Facts → Run
  run_with m new = record { bytes = going.bytes; acted = going.acted ++ m ∷ []; out = going.out ++ text_of m; facts = new; rest = drop m.length waiting }

  kept_took : (same : Option (List ℕ)) → same ≡ left → Consumes first.left same going.bytes
  kept_took same is = subst (λ (l : Option (List ℕ)). Consumes first.left l going.bytes) (sym is) going.took

  in_all : (after : Option (List ℕ)) (text : List ℕ) → Appends written after text → Appends first.written after (going.out ++ text)
  in_all after text wrote = Appends-trans first.written written after going.out text going.wrote wrote

  kept_wrote : (same : Option (List ℕ)) → same ≡ written → Appends first.written same going.out
  kept_wrote same is = subst (λ (w : Option (List ℕ)). Appends first.written w going.out) (sym is) going.wrote

  rose_in_all : (later : ℕ) → Rose faults later → Rose first.faults later
  rose_in_all later rose = subst (λ (n : ℕ). Rose n later) going.sound rose

  later_in_all : (later : ℕ) → faults ≤ later → first.faults ≤ later
  later_in_all later le = subst (λ (n : ℕ). n ≤ later) going.sound le

  most : length going.bytes < 2 ^ 40 + 81920
  most = omega (arith, going.most, going.count)

  -- the session ended at what was done
  ended : (end : End) (new : Facts) (same after : Option (List ℕ)) (begun : Option (List ReadStart)) (later : ℕ) → same ≡ left → WasPrompt keys first begun → faults ≤ later
      → Ended keys end run (measured first (moment new same after begun later)) new → HasEnded keys first (moment new same after begun later) end
  ended end new same after begun later kept prompt le how = record {
    session = record { legal = going.legal; run = run; took = kept_took same kept; bound = most; acts = going.acts; ended = how };
    later = later_in_all later le;
    prompt = prompt;
  }

  prompt_still : (begun : Option (List ReadStart)) → begun ≡ starts → WasPrompt keys first begun
  prompt_still begun none = prompt_kept keys first starts begun none going.prompt

  pub ends_closed : (new : Facts) (same after : Option (List ℕ)) (begun : Option (List ReadStart)) (later : ℕ) (m : Acted) → IsActed keys mid waiting m new → m.close ≡ true
      → same ≡ left → begun ≡ starts → Appends written after (text_of m) → later ≡ faults → HasEnded keys first (moment new same after begun later) end.Done
  ends_closed new same after begun later m acted closes kept none wrote sound = record {
    session = record {
      legal = going.legal;
      run = run_with m new;
      took = kept_took same kept;
      bound = most;
      acts = acts_push keys first.facts mid new going.bytes going.out waiting going.acted m going.acts going.are_open acted;
      ended = (sound ∙ going.sound, in_all after (text_of m) wrote, refl, inr (going.acted, m, refl, closes));
    };
    later = later_in_all later (omega (arith, sound));
    prompt = prompt_still begun none;
  }

  pub ends_done : waiting ≡ [] → IsAtEnd left → HasEnded keys first (moment mid left written starts faults) end.Done
  ends_done none over =
      ended end.Done mid left written starts faults refl going.prompt (omega arith) (going.sound, going.wrote, refl, inl (going.are_open, none, over))

  pub ends_cut : (count : ℕ) → IsShort waiting → 0 < count → count ≡ length waiting → IsAtEnd left
      → HasEnded keys first (moment mid left written starts faults) (end.Cut count)
  ends_cut count short some is over =
      ended (end.Cut count) mid left written starts faults refl going.prompt (omega arith) (going.sound, going.wrote, refl, ((going.are_open, short), some, is, over))

  pub ends_refused : (same after : Option (List ℕ)) (begun : Option (List ReadStart)) (later : ℕ) (refusal : Refusal) (status : ℕ) → IsRefused waiting refusal
      → status ≡ refusal_status refusal → same ≡ left → begun ≡ starts → Appends written after (refused_text refusal) → later ≡ faults
      → HasEnded keys first (moment mid same after begun later) (end.Refused status)
  ends_refused same after begun later refusal status refused is kept none wrote sound =
      ended (end.Refused status) mid same after begun later kept (prompt_still begun none) (omega (arith, sound))
      (sound ∙ going.sound, refl, refusal, (going.are_open, refused), is, in_all after (refused_text refusal) wrote)

  pub ends_worn : IsShort waiting → 2 ^ 40 ≤ taken → HasEnded keys first (moment mid left written starts faults) end.Worn
  ends_worn short many =
      let all : 2 ^ 40 ≤ length going.bytes = omega (arith, many, going.count) in
      ended end.Worn mid left written starts faults refl going.prompt (omega arith) (going.sound, going.wrote, refl, (going.are_open, short), all)

  pub ends_unread : (same kept : Option (List ℕ)) (begun : Option (List ReadStart)) (later : ℕ) → IsShort waiting → same ≡ left → kept ≡ written → WasPrompt keys first begun
      → faults ≤ later → Rose faults later → HasEnded keys first (moment mid same kept begun later) end.LinkFault
  ends_unread same kept begun later short is stays prompt le rose =
      ended end.LinkFault mid same kept begun later is prompt le
      (rose_in_all later rose, [], subst (Appends first.written kept) (sym (append-nil going.out)) (kept_wrote kept stays), inl ((going.are_open, short), refl, refl))

  pub ends_told_in_part : (new : Facts) (same after : Option (List ℕ)) (begun : Option (List ReadStart)) (later : ℕ) (m : Acted) (part : List ℕ) → IsActed keys mid waiting m new
      → IsPrefix part (text_of m) → Appends written after part → same ≡ left → begun ≡ starts → faults ≤ later → Rose faults later
      → HasEnded keys first (moment new same after begun later) end.LinkFault
  ends_told_in_part new same after begun later m part acted within wrote kept none le rose =
      ended end.LinkFault new same after begun later kept (prompt_still begun none) le
      (rose_in_all later rose, part, in_all after part wrote, inr (inl (going.are_open, m, acted, within)))

  pub ends_refused_in_part : (same after : Option (List ℕ)) (begun : Option (List ReadStart)) (later : ℕ) (refusal : Refusal) (part : List ℕ) → IsRefused waiting refusal
      → IsPrefix part (refused_text refusal) → Appends written after part → same ≡ left → begun ≡ starts → faults ≤ later → Rose faults later
      → HasEnded keys first (moment mid same after begun later) end.LinkFault
  ends_refused_in_part same after begun later refusal part refused within wrote kept none le rose =
      ended end.LinkFault mid same after begun later kept (prompt_still begun none) le
      (rose_in_all later rose, part, in_all after part wrote, inr (inr (refusal, (going.are_open, refused), refl, within)))

  pub ends_starved : going.bytes ≡ [] → HasEnded keys first (moment mid left written starts faults) end.OutOfMemory
  ends_starved nothing = ended end.OutOfMemory mid left written starts faults refl going.prompt (omega arith) (going.sound, going.wrote, going.are_open, inl (refl, nothing))

  pub ends_untold : (new : Facts) (m : Acted) → IsActed keys mid waiting m new → told_by m.answer ≡ 1
      → HasEnded keys first (moment new left written starts faults) end.OutOfMemory
  ends_untold new m acted told =
      ended end.OutOfMemory new left written starts faults refl going.prompt (omega arith) (going.sound, going.wrote, going.are_open, inr (m, acted, told))
