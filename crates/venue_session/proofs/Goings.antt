-- A session under way begins, takes more bytes, and acts on a message.
use Rattle.std.proofs.Common.{◌≡◌, inl, lit<, ℕ, ◌+◌, ◌<◌, ◌^◌, false, List, [], ◌∷◌, ◌++◌, length, drop, refl, sym, ◌∙◌, subst, arith, length-append, append-nil, append_assoc, Option}
use Rattle.std.specs.Io.KnownBytes.{Appends, Consumes}
use Rattle.std.proofs.KnownBytes.{Appends-nil, Appends-trans, Consumes-nil, Consumes-trans}
use Rattle.std.proofs.lemmas.List.Elements.{All-nil, All-push}
use Rattle.venue_ports.specs.Starts.{ReadStart}
use Rattle.venue_hall.specs.Histories.{IsLegal}
use Rattle.venue_hall.specs.Facts.{Facts}
use Rattle.wire_frames.specs.Frames.{IsShort}
use Rattle.venue_session.specs.Acting.{Acted, text_of, IsActed, Acts}
use Rattle.venue_session.specs.Going.{Moment, moment, IsGoing, WasPrompt, StaysShort, Awaits}
use Rattle.venue_session.proofs.Joining.{acts_push}
use Rattle.venue_session.proofs.Prompting.{was_prompt, prompt_kept}

unfoldable pub going_first : (keys : List (List ℕ)) (first : Moment) → IsLegal first.facts.seen → IsGoing keys first first 0 []
going_first keys first legal = record {
  legal = legal;
  bytes = [];
  acted = [];
  out = [];
  took = Consumes-nil first.left;
  count = refl;
  acts = (refl, refl, refl);
  are_open = All-nil (λ (m : Acted). m.close ≡ false);
  wrote = Appends-nil first.written;
  sound = refl;
  most = lit< tt;
  prompt = was_prompt keys first;
}

nothing_is_short : IsShort []
nothing_is_short = inl (refl, lit< tt)

pub nothing_awaits : Awaits [] 0
nothing_awaits = (nothing_is_short, λ behind below. absurd (omega (arith, below)))

pub going_more : (law : (keys : List (List ℕ)) (old new : Facts) (bytes out rest more : List ℕ) (ms : List Acted)
    → Acts keys old bytes ms out new rest → Acts keys old (bytes ++ more) ms out new (rest ++ more))
    (keys : List (List ℕ)) (first : Moment) (facts : Facts) (left after written same : Option (List ℕ)) (starts begun : Option (List ReadStart))
    (faults later taken total : ℕ) (waiting more : List ℕ)
    → IsGoing keys first (moment facts left written starts faults) taken waiting → Consumes left after more → same ≡ written → WasPrompt keys first begun → later ≡ faults
    → total ≡ taken + length more → total < 2 ^ 40 + 81920 → IsGoing keys first (moment facts after same begun later) total (waiting ++ more)
going_more law keys first facts left after written same starts begun faults later taken total waiting more going took kept prompt sound count most = record {
  legal = going.legal;
  bytes = going.bytes ++ more;
  acted = going.acted;
  out = going.out;
  took = Consumes-trans first.left left after going.bytes more going.took took;
  count = omega (arith, count, going.count, length-append going.bytes more);
  acts = law keys first.facts facts going.bytes going.out waiting more going.acted going.acts;
  are_open = going.are_open;
  wrote = subst (λ (w : Option (List ℕ)). Appends first.written w going.out) (sym kept) going.wrote;
  sound = sound ∙ going.sound;
  most = most;
  prompt = prompt;
}

pub going_acted : (keys : List (List ℕ)) (first : Moment) (mid new : Facts) (left same written after : Option (List ℕ)) (starts begun : Option (List ReadStart))
    (faults later taken : ℕ) (waiting : List ℕ) (m : Acted)
    → IsGoing keys first (moment mid left written starts faults) taken waiting → IsActed keys mid waiting m new → m.close ≡ false
    → same ≡ left → begun ≡ starts → Appends written after (text_of m) → later ≡ faults
    → IsGoing keys first (moment new same after begun later) taken (drop m.length waiting)
going_acted keys first mid new left same written after starts begun faults later taken waiting m going acted stays kept none wrote sound = record {
  legal = going.legal;
  bytes = going.bytes;
  acted = going.acted ++ m ∷ [];
  out = going.out ++ text_of m;
  took = subst (λ (l : Option (List ℕ)). Consumes first.left l going.bytes) (sym kept) going.took;
  count = going.count;
  acts = acts_push keys first.facts mid new going.bytes going.out waiting going.acted m going.acts going.are_open acted;
  are_open = All-push (λ (k : Acted). k.close ≡ false) going.acted m going.are_open stays;
  wrote = Appends-trans first.written written after going.out (text_of m) going.wrote wrote;
  sound = sound ∙ going.sound;
  most = going.most;
  prompt = prompt_kept keys first starts begun none going.prompt;
}

pub going_renamed : (keys : List (List ℕ)) (first now : Moment) (taken : ℕ) (waiting same : List ℕ)
    → IsGoing keys first now taken waiting → same ≡ waiting → IsGoing keys first now taken same
going_renamed keys first now taken waiting same going is = subst (λ (b : List ℕ). IsGoing keys first now taken b) (sym is) going

pub short_grown : (bytes more : List ℕ) (least : ℕ) → StaysShort bytes least → StaysShort (bytes ++ more) least
short_grown bytes more least stays = λ behind below.
    let same : (bytes ++ more) ++ behind ≡ bytes ++ (more ++ behind) = append_assoc bytes more behind in
    subst IsShort (sym same) (stays (more ++ behind) (subst (λ (b : List ℕ). length b < least) same below))

pub short_itself : (bytes : List ℕ) (least : ℕ) → StaysShort bytes least → length bytes < least → IsShort bytes
short_itself bytes least stays below =
    subst IsShort (append-nil bytes) (stays [] (subst (λ (b : List ℕ). length b < least) (sym (append-nil bytes)) below))

pub nothing_more : (more : List ℕ) (count : ℕ) → count ≡ length more → count ≡ 0 → more ≡ []
nothing_more [] count is zero = refl
nothing_more (byte ∷ more) count is zero = absurd (omega (arith, is, zero))
