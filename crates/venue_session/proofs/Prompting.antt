-- All that has come is answered whenever a read begins.
use Rattle.std.proofs.Common.{◌≡◌, ℕ, List, [], ◌∷◌, ◌++◌, sym, ap, ◌∙◌, subst, append-nil, append_assoc, Option, Some, None}
use Rattle.std.proofs.lemmas.List.Elements.{All-nil, All-push}
use Rattle.venue_ports.specs.Starts.{ReadStart, start_at, TellsStart}
use Rattle.venue_hall.specs.Facts.{Facts}
use Rattle.wire_frames.specs.Frames.{IsShort}
use Rattle.venue_session.specs.Going.{Moment, moment, IsGoing, WasPrompt}
use Rattle.venue_session.specs.Moments.{IsAllAnswered, ArePrompt}

prompt_first : (keys : List (List ℕ)) (old : Facts) (left written : Option (List ℕ)) (starts : Option (List ReadStart)) → ArePrompt keys old left written starts starts
prompt_first keys old left written None = tt
prompt_first keys old left written (Some starts) = ([], sym (append-nil starts), All-nil (IsAllAnswered keys old left written))

pub was_prompt : (keys : List (List ℕ)) (first : Moment) → WasPrompt keys first first.starts
was_prompt keys first = prompt_first keys first.facts first.left first.written first.starts

prompt_push : (keys : List (List ℕ)) (old : Facts) (left written : Option (List ℕ)) (before mid after : Option (List ReadStart)) (start : ReadStart)
    → ArePrompt keys old left written before mid → IsAllAnswered keys old left written start → TellsStart mid after start → ArePrompt keys old left written before after
prompt_push keys old left written before mid None start prompt now told = tt
prompt_push keys old left written before None (Some starts) start prompt now told = absurd told
prompt_push keys old left written None (Some mid) (Some starts) start prompt now told = absurd prompt
prompt_push keys old left written (Some before) (Some mid) (Some starts) start (since, is, all) now told = (
  since ++ start ∷ [],
  told ∙ ap (λ (s : List ReadStart). s ++ start ∷ []) is ∙ append_assoc before since (start ∷ []),
  All-push (IsAllAnswered keys old left written) since start all now,
)

-- a read that begins while less than a message waits
pub prompt_read : (keys : List (List ℕ)) (first : Moment) (facts : Facts) (left written : Option (List ℕ)) (starts after : Option (List ReadStart)) (faults taken : ℕ)
    (waiting : List ℕ) → IsGoing keys first (moment facts left written starts faults) taken waiting → IsShort waiting
    → TellsStart starts after (start_at left written) → WasPrompt keys first after
prompt_read keys first facts left written starts after faults taken waiting going short told =
    prompt_push keys first.facts first.left first.written first.starts starts after (start_at left written) going.prompt
    (record {
      run = record { bytes = going.bytes; acted = going.acted; out = going.out; facts = facts; rest = waiting };
      came = going.took;
      acts = going.acts;
      wrote = going.wrote;
      waits = (going.are_open, short);
    })
    told

pub prompt_kept : (keys : List (List ℕ)) (first : Moment) (starts same : Option (List ReadStart)) → same ≡ starts → WasPrompt keys first starts → WasPrompt keys first same
prompt_kept keys first starts same is prompt = subst (λ (s : Option (List ReadStart)). WasPrompt keys first s) (sym is) prompt
