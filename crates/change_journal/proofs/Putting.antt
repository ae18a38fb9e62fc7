-- How the parts of an append are joined: what waits, what is written behind it, and what a failure leaves.
use Rattle.std.proofs.Common.{◌≡◌, ℕ, ◌+◌, ◌*◌, ◌≤◌, List, [], ◌∷◌, ◌++◌, length, take, drop, refl, sym, ◌∙◌, ap, subst, arith, append_assoc, length-append}
use Rattle.std.specs.List.{All, flat_map}
use Rattle.std.proofs.lemmas.List.{append-nil, length-take}
use Rattle.std.proofs.lemmas.List.Elements.{All-head, All-tail}
use Rattle.venue_ports.specs.Moments.{Moment, Goes, GoesOrEnds, Now, Leaves, HasWritten, MayHaveWritten, HasSynced, HasStayed}
use Rattle.venue_types.specs.declared.files.Slot.{Slot}
use Rattle.venue_types.specs.declared.files.Slot.TheVariants.{Absent, Held}
use Rattle.venue_hall.specs.Records.{Logged, IsWithinLimit}
use Rattle.change_journal.specs.Texts.{record_body, slot_text, IsJournal}
use Rattle.change_journal.specs.States.{IsShut, IsPutting, IsStaged}
use Rattle.change_journal.specs.Runs.{Run}
use Rattle.change_journal.specs.Puts.{Puts, GivesUp, Stages, StagesText, KeepsClosed}
use Rattle.change_journal.proofs.Runs.{begins, goes_on, fails_on, goes_told, now_maps, then}
use Rattle.change_journal.proofs.Writing.{starts, writes, write_failed, write_stayed, stages}

-- more bytes wait
waits : (records : List Logged) (gate place : ℕ) (text waiting added : List ℕ) (m : Moment) → IsPutting records gate place text waiting m
    → IsPutting records gate place (text ++ added) (waiting ++ added) m
waits records gate place text waiting added m p = record {
  written = p.written;
  whole = ap (λ (l : List ℕ). l ++ added) p.whole ∙ append_assoc p.written waiting added;
  at_place = p.at_place;
  state = p.state;
}

pub holds_back : (place : ℕ) (waiting later added : List ℕ) (ms : List Moment) → later ≡ waiting ++ added → Now (λ m. place ≤ length m.reads) ms
    → Puts place waiting place later added ms ms
holds_back place waiting later added ms is within = record {
  runs = λ records gate before now. subst (λ (l : List ℕ). Run (IsJournal records) (IsPutting records gate place (before ++ added) l) ms ms) (sym is)
      (begins ms (now_maps ms (waits records gate place before waiting added) now));
  within = within;
  counts = omega (arith, ap length is, length-append waiting added);
  told = λ e. e;
}

-- a write reaches as far as it goes
longer : (at : ℕ) (piece : List ℕ) (m next : Moment) → at ≤ length m.reads → HasWritten at piece m next → at + length piece ≤ length next.reads
longer at piece m next le has =
    let rest = drop (at + length piece) m.reads in
    omega (arith, ap length has.reads, length-append (take at m.reads) (piece ++ rest), length-append piece rest, length-take at m.reads)

reaches : (at : ℕ) (piece : List ℕ) (old new : List Moment) → Now (λ m. at ≤ length m.reads) old → Goes (HasWritten at piece) old new
    → Now (λ m. at + length piece ≤ length m.reads) new
reaches at piece [] new within goes = subst (λ (l : List Moment). Now (λ m. at + length piece ≤ length m.reads) l) (sym goes) tt
reaches at piece (m ∷ past) new within goes =
    subst (λ (l : List Moment). Now (λ m. at + length piece ≤ length m.reads) l) (sym goes.2) (longer at piece m goes.0 within goes.1)

-- what waits is written, with what was added to it
put_on : (records : List Logged) (gate place : ℕ) (before waiting added piece : List ℕ) (m next : Moment) → piece ≡ waiting ++ added
    → IsPutting records gate place before waiting m → HasWritten place piece m next
    → IsPutting records gate (place + length piece) (before ++ added) [] next × ((image : List ℕ) → Leaves next image → IsJournal records image)
put_on records gate place before waiting added piece m next is p has =
    let step = writes records gate p.written piece place m next p.at_place p.state has in
    let whole : before ++ added ≡ (p.written ++ piece) ++ [] =
    ap (λ (l : List ℕ). l ++ added) p.whole ∙ append_assoc p.written waiting added ∙ ap (λ (l : List ℕ). p.written ++ l) (sym is)
    ∙ sym (append-nil (p.written ++ piece)) in
    (record { written = p.written ++ piece; whole = whole; at_place = omega (arith, p.at_place, length-append p.written piece); state = step.0 }, step.1)

pub written : (place : ℕ) (waiting added piece : List ℕ) (old new : List Moment) → piece ≡ waiting ++ added → Now (λ m. place ≤ length m.reads) old
    → Goes (HasWritten place piece) old new → Puts place waiting (place + length piece) [] added old new
written place waiting added piece old new is within goes = record {
  runs = λ records gate before now.
      let S = IsPutting records gate place before waiting in
      let T = IsPutting records gate (place + length piece) (before ++ added) [] in
      goes_on (IsJournal records) S T (HasWritten place piece) (begins {P = IsJournal records} {S = S} old now) goes
      (λ m next p has. put_on records gate place before waiting added piece m next is p has);
  within = reaches place piece old new within goes;
  counts = omega (arith, ap length is, length-append waiting added);
  told = goes_told (HasWritten place piece) old new goes;
}

-- a write failed, of whatever piece
pub failed : (place : ℕ) (waiting piece : List ℕ) (old new : List Moment) → GoesOrEnds (MayHaveWritten place piece) old new → GivesUp place waiting old new
failed place waiting piece old new goes = record {
  runs = λ records gate before now.
      let S = IsPutting records gate place before waiting in
      fails_on (IsJournal records) S (IsShut records gate) (MayHaveWritten place piece) (begins {P = IsJournal records} {S = S} old now) goes
      (λ m next p may. write_failed records gate p.written piece place m next p.at_place p.state may);
}

-- a sync failed
pub stayed : (place : ℕ) (waiting : List ℕ) (old new : List Moment) → GoesOrEnds HasStayed old new → GivesUp place waiting old new
stayed place waiting old new goes = record {
  runs = λ records gate before now.
      let S = IsPutting records gate place before waiting in
      fails_on (IsJournal records) S (IsShut records gate) HasStayed (begins {P = IsJournal records} {S = S} old now) goes
      (λ m next p same. write_stayed records gate p.written m next p.state same);
}

-- one after the other
pub joined : (place : ℕ) (waiting : List ℕ) (next : ℕ) (later added : List ℕ) (end : ℕ) (last more : List ℕ) (old mid new : List Moment)
    → Puts place waiting next later added old mid → Puts next later end last more mid new → Puts place waiting end last (added ++ more) old new
joined place waiting next later added end last more old mid new first second = record {
  runs = λ records gate before now.
      let P = IsJournal records in
      let one = first.runs records gate before now in
      let two = second.runs records gate (before ++ added) one.now in
      let S = IsPutting records gate next (before ++ added) later in
      let T = IsPutting records gate end ((before ++ added) ++ more) last in
      subst (λ (l : List ℕ). Run P (IsPutting records gate end l last) old new) (append_assoc before added more)
      (then P P P S T old mid new (λ image p. p) (λ image p. p) one two);
  within = second.within;
  counts = omega (arith, first.counts, second.counts, length-append added more);
  told = λ e. first.told (second.told e);
}

pub given_up : (place : ℕ) (waiting : List ℕ) (next : ℕ) (later added : List ℕ) (old mid new : List Moment)
    → Puts place waiting next later added old mid → GivesUp next later mid new → GivesUp place waiting old new
given_up place waiting next later added old mid new first second = record {
  runs = λ records gate before now.
      let P = IsJournal records in
      let one = first.runs records gate before now in
      let two = second.runs records gate (before ++ added) one.now in
      then P P P (IsPutting records gate next (before ++ added) later) (IsShut records gate) old mid new (λ image p. p) (λ image p. p) one two;
}

-- a sync behind the gate 0
pub synced : (place : ℕ) (waiting : List ℕ) (end : ℕ) (old mid new : List Moment)
    → Puts place waiting end [] (0 ∷ []) old mid → Goes HasSynced mid new → Stages place waiting old new
synced place waiting end old mid new first goes = record {
  runs = λ records gate entry now.
      let P = IsJournal records in
      let text = record_body entry ++ 0 ∷ [] in
      let S = IsPutting records gate end text [] in
      goes_on P S (IsStaged records gate entry) HasSynced (first.runs records gate (record_body entry) now) goes
      (λ m next p same. stages records gate entry p.written m next (sym (append-nil p.written) ∙ sym p.whole) p.state same);
  told = λ e. first.told (goes_told HasSynced mid new goes e);
}

-- the first bytes of a body wait behind the closed gate
opens : (records : List Logged) (gate : ℕ) (waiting : List ℕ) (m : Moment) → IsShut records gate m → IsPutting records gate (gate + 1) waiting waiting m
opens records gate waiting m s = record { written = []; whole = refl; at_place = omega arith; state = starts records gate m s }

pub all_staged : (gate : ℕ) (waiting : List ℕ) (next : ℕ) (later added text : List ℕ) (old mid new : List Moment) → text ≡ waiting ++ added
    → Puts (gate + 1) waiting next later added old mid → Stages next later mid new → StagesText gate text old new
all_staged gate waiting next later added text old mid new is first second = record {
  runs = λ records entry same ready.
      let P = IsJournal records in
      let one = first.runs records gate waiting (now_maps old (opens records gate waiting) ready) in
      let S = IsPutting records gate next (record_body entry) later in
      let here : Run P S old mid = subst (λ (l : List ℕ). Run P (IsPutting records gate next l later) old mid) (sym (same ∙ is)) one in
      then P P P S (IsStaged records gate entry) old mid new (λ image p. p) (λ image p. p) here (second.runs records gate entry here.now);
  told = λ e. first.told (second.told e);
}

pub none_opened : (gate : ℕ) (waiting : List ℕ) (old new : List Moment) → GivesUp (gate + 1) waiting old new → KeepsClosed gate old new
none_opened gate waiting old new gives = record {
  runs = λ records ready. gives.runs records gate waiting (now_maps old (opens records gate waiting) ready);
}

pub both_parts : {a b c d : List ℕ} → a ≡ b → c ≡ d → a ++ c ≡ b ++ d
both_parts {a = a} {b = b} {c = c} {d = d} left right = ap (λ (l : List ℕ). l ++ c) left ∙ ap (λ (l : List ℕ). b ++ l) right

-- how long files within their limit are
slot_short : (slot : Slot) → IsWithinLimit slot → length (slot_text slot) ≤ 33554441
slot_short Absent within = omega arith
slot_short (Held bytes) within = omega (arith, within)

pub slots_short : (slots : List Slot) → All IsWithinLimit slots → length (flat_map slot_text slots) ≤ length slots * 33554441
slots_short [] all = omega arith
slots_short (slot ∷ slots) all =
    let here = slot_short slot (All-head IsWithinLimit slot slots all) in
    let behind = slots_short slots (All-tail IsWithinLimit slot slots all) in
    omega (arith, here, behind, length-append (slot_text slot) (flat_map slot_text slots))
