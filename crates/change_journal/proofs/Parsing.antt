-- What a reader's pieces make of a record, or show that none stands there.
use Rattle.std.proofs.Common.{◌≡◌, ℕ, ◌+◌, ◌-◌, ◌^◌, ◌<◌, ◌≤◌, List, [], ◌∷◌, ◌++◌, length, take, drop, get_or, Bool, true, false, Option, Some, None}
use Rattle.std.proofs.Common.{refl, sym, ◌∙◌, ap, subst, arith, append_assoc, length-append, length-take}
use Rattle.std.specs.Int.{bytes_high_first}
use Rattle.std.specs.List.{All, flat_map}
use Rattle.std.proofs.lemmas.List.{drop_all, length-drop, nil_from_length}
use Rattle.std.proofs.lemmas.List.Elements.{All-nil, All-cons, All-head, All-tail}
use Rattle.venue_ports.specs.Moments.{Moment}
use Rattle.venue_types.specs.declared.files.Slot.{Slot}
use Rattle.venue_types.specs.declared.files.Slot.TheVariants.{Absent, Held}
use Rattle.venue_hall.specs.Records.{Logged, LoggedAct, AreSlots, IsAct, IsWithinLimit, published, closed, reopened}
use Rattle.change_journal.specs.Forms.{AreKeptSlots, HasNoFile, HasNoSlot, HasNoSlots, HasNoBody, IsSlotTo, IsSlotsEnd, AreSlotsTo, IsHeadOf, IsHeadAt, kind_of, act_of}
use Rattle.change_journal.specs.Looks.{Gives, Spans, given}
use Rattle.change_journal.specs.Places.{IsBrokenAt, IsRecordAt}
use Rattle.change_journal.specs.Reading.{SlotRead, number_of, read_slot}
use Rattle.change_journal.specs.Texts.{act_text, slot_text, record_text, IsRecord}
use Rattle.change_journal.specs.declared.heads.Head.{Head}
use Rattle.change_journal.specs.declared.heads.Mark.{Mark}
use Rattle.change_journal.specs.declared.slots.KeptSlot.{KeptSlot}
use Rattle.change_journal.proofs.Damage.{both_read}
use Rattle.change_journal.proofs.Numbers.{span}
use Rattle.change_journal.proofs.ReadBack.{number_back, slot_back}

-- a piece behind a piece
pub joins : (place mid next last : ℕ) (a b bytes : List ℕ) → Spans place mid a bytes → Spans mid next b bytes → next ≡ last → Spans place last (a ++ b) bytes
joins place mid next last a b bytes one two is =
    one ∙ ap (λ (l : List ℕ). a ++ l) two ∙ sym (append_assoc a b (drop next bytes)) ∙ ap (λ n. (a ++ b) ++ drop n bytes) is

-- the second element of a text
abbrev first_of : List ℕ → ℕ
first_of text = get_or text 0 0

abbrev second_of : List ℕ → ℕ
second_of text = get_or text 1 0

-- the number in front of two texts
pub record Counted (count n : ℕ) (a b : List ℕ) : Type 0 where
  pub count_is : count ≡ n
  pub rest_is : a ≡ b

counted : (count n : ℕ) (a b : List ℕ) → count < 2 ^ 64 → n < 2 ^ 64 → bytes_high_first 8 count ++ a ≡ bytes_high_first 8 n ++ b → Counted count n a b
counted count n a b small fits same = record {
  count_is = sym (number_back 8 count (omega (arith, small))) ∙ ap (λ (l : List ℕ). number_of (take 8 l)) same ∙ number_back 8 n (omega (arith, fits));
  rest_is = ap (λ (l : List ℕ). drop 8 l) same;
}

-- files

pub no_short_file : (text : List ℕ) → length text < 8 → HasNoFile text
no_short_file text short = λ file behind small same. omega (arith, short, ap length same)

pub no_long_file : (place count : ℕ) (bytes : List ℕ) → count < 2 ^ 64 → Spans place (place + 8) (bytes_high_first 8 count) bytes
    → (count ≤ 33554432 → length bytes < place + 8 + count) → place + 8 ≤ length bytes → HasNoFile (drop place bytes)
no_long_file place count bytes small spans long fits = λ file behind within same.
    let n = length file in
    let it = counted count n (drop (place + 8) bytes) (file ++ behind) small (omega (arith, within)) (sym spans ∙ same) in
    let is : count ≡ length file = it.count_is in
    let past : length bytes < place + 8 + count = long (omega (arith, is, within)) in
    omega (arith, is, past, fits, ap length it.rest_is, length-append file behind, length-drop (place + 8) bytes)

-- slots

no_empty_slot_at : (text : List ℕ) → length text ≡ 0 → (slot : Slot) (behind : List ℕ) → text ≡ slot_text slot ++ behind → ⊥
no_empty_slot_at text none Absent behind same = omega (arith, none, ap length same)
no_empty_slot_at text none (Held file) behind same = omega (arith, none, ap length same)

pub no_empty_slot : (text : List ℕ) → length text ≡ 0 → HasNoSlot text
no_empty_slot text none = λ slot behind within same. no_empty_slot_at text none slot behind same

no_other_slot_at : (byte : ℕ) (rest : List ℕ) → (byte ≡ 0 → ⊥) → (byte ≡ 1 → ⊥) → (slot : Slot) (behind : List ℕ) → byte ∷ rest ≡ slot_text slot ++ behind → ⊥
no_other_slot_at byte rest zero_ one_ Absent behind same = zero_ (ap first_of same)
no_other_slot_at byte rest zero_ one_ (Held file) behind same = one_ (ap first_of same)

pub no_other_slot : (place byte : ℕ) (bytes : List ℕ) → Spans place (place + 1) (byte ∷ []) bytes → (byte ≡ 0 → ⊥) → (byte ≡ 1 → ⊥) → HasNoSlot (drop place bytes)
no_other_slot place byte bytes spans zero_ one_ = λ slot behind within same. no_other_slot_at byte (drop (place + 1) bytes) zero_ one_ slot behind (sym spans ∙ same)

no_held_slot_at : (rest : List ℕ) → HasNoFile rest → (slot : Slot) (behind : List ℕ) → IsWithinLimit slot → 1 ∷ rest ≡ slot_text slot ++ behind → ⊥
no_held_slot_at rest none Absent behind within same = let e : 1 ≡ 0 = ap first_of same in omega (arith, e)
no_held_slot_at rest none (Held file) behind within same = none file behind within (ap (λ (l : List ℕ). drop 1 l) same)

pub no_held_slot : (place : ℕ) (bytes : List ℕ) → Spans place (place + 1) (1 ∷ []) bytes → HasNoFile (drop (place + 1) bytes) → HasNoSlot (drop place bytes)
no_held_slot place bytes spans none = λ slot behind within same. no_held_slot_at (drop (place + 1) bytes) none slot behind within (sym spans ∙ same)

pub held_text : (place count : ℕ) (file bytes : List ℕ) → length file ≡ count → Spans place (place + 9) (1 ∷ bytes_high_first 8 count) bytes
    → Spans (place + 9) (place + 9 + count) file bytes → Spans place (place + 9 + count) (slot_text (Held file)) bytes
held_text place count file bytes is head behind =
    subst (λ n. Spans place (place + 9 + count) (1 ∷ (bytes_high_first 8 n ++ file)) bytes) (sym is)
    (joins place (place + 9) (place + 9 + count) (place + 9 + count) (1 ∷ bytes_high_first 8 count) file bytes head behind refl)

pub held_slot : (place count : ℕ) (bytes : List ℕ) → count ≤ 33554432 → place + 9 + count ≤ length bytes → Spans place (place + 9) (1 ∷ bytes_high_first 8 count) bytes
    → IsSlotTo place (place + 9 + count) bytes
held_slot place count bytes small fits head =
    let file = take count (drop (place + 9) bytes) in
    let long : length file ≡ count = omega (arith, fits, length-take count (drop (place + 9) bytes), length-drop (place + 9) bytes) in
    record { slot = Held file; within = omega (arith, small, long); text = held_text place count file bytes long head (span (place + 9) count file bytes refl) }

pub absent_slot : (place : ℕ) (bytes : List ℕ) → Spans place (place + 1) (0 ∷ []) bytes → IsSlotTo place (place + 1) bytes
absent_slot place bytes spans = record { slot = Absent; within = tt; text = spans }

pub no_slots : (count place : ℕ) (bytes : List ℕ) → AreSlotsTo 0 place place bytes
no_slots count place bytes = record { slots = []; so_many = refl; within = All-nil IsWithinLimit; text = refl }

pub more_slots : (count place next end : ℕ) (slot : Slot) (slots : List Slot) (bytes : List ℕ) → 0 < count → IsWithinLimit slot → Spans place next (slot_text slot) bytes
    → length slots ≡ count - 1 → All IsWithinLimit slots → Spans next end (flat_map slot_text slots) bytes → AreSlotsTo count place end bytes
more_slots count place next end slot slots bytes some limit first so_many within text = record {
  slots = slot ∷ slots;
  so_many = omega (arith, some, so_many);
  within = All-cons IsWithinLimit slot slots limit within;
  text = joins place next end end (slot_text slot) (flat_map slot_text slots) bytes first text refl;
}

-- one slot of two texts that begin with one
record SlotBehind (a b : List ℕ) : Type 0 where
  rest : a ≡ b

slot_behind : (s t : Slot) (a b : List ℕ) → IsWithinLimit s → IsWithinLimit t → slot_text s ++ a ≡ slot_text t ++ b → SlotBehind a b
slot_behind s t a b small fits same =
    let both : ◌≡◌ {A = SlotRead} (record { slot = s; rest = a }) (record { slot = t; rest = b }) = sym (slot_back s a small) ∙ ap read_slot same ∙ slot_back t b fits in
    record { rest = ap (λ (read : SlotRead). read.rest) both }

no_later_at : (count place next : ℕ) (slot : Slot) (bytes : List ℕ) → 0 < count → IsWithinLimit slot → Spans place next (slot_text slot) bytes
    → HasNoSlots (count - 1) (drop next bytes) → (slots : List Slot) (behind : List ℕ) → length slots ≡ count → All IsWithinLimit slots
    → drop place bytes ≡ flat_map slot_text slots ++ behind → ⊥
no_later_at count place next slot bytes some limit first none [] behind so_many within same = omega (arith, some, so_many)
no_later_at count place next slot bytes some limit first none (s ∷ ss) behind so_many within same =
    let it = slot_behind slot s (drop next bytes) (flat_map slot_text ss ++ behind) limit (All-head IsWithinLimit s ss within)
    (sym first ∙ same ∙ append_assoc (slot_text s) (flat_map slot_text ss) behind) in
    none ss behind (omega (arith, so_many)) (All-tail IsWithinLimit s ss within) it.rest

pub no_later : (count place next : ℕ) (slot : Slot) (bytes : List ℕ) → 0 < count → IsWithinLimit slot → Spans place next (slot_text slot) bytes
    → HasNoSlots (count - 1) (drop next bytes) → HasNoSlots count (drop place bytes)
no_later count place next slot bytes some limit first none = λ slots behind so_many within same.
    no_later_at count place next slot bytes some limit first none slots behind so_many within same

no_first_at : (count : ℕ) (text : List ℕ) → 0 < count → HasNoSlot text → (slots : List Slot) (behind : List ℕ) → length slots ≡ count → All IsWithinLimit slots
    → text ≡ flat_map slot_text slots ++ behind → ⊥
no_first_at count text some none [] behind so_many within same = omega (arith, some, so_many)
no_first_at count text some none (s ∷ ss) behind so_many within same =
    none s (flat_map slot_text ss ++ behind) (All-head IsWithinLimit s ss within) (same ∙ append_assoc (slot_text s) (flat_map slot_text ss) behind)

pub no_first : (count : ℕ) (text : List ℕ) → 0 < count → HasNoSlot text → HasNoSlots count text
no_first count text some none = λ slots behind so_many within same. no_first_at count text some none slots behind so_many within same

pub slots_on : (count place next : ℕ) (bytes : List ℕ) (end : Option ℕ) → 0 < count → IsSlotTo place next bytes → IsSlotsEnd (count - 1) next end bytes
    → IsSlotsEnd count place end bytes
slots_on count place next bytes (Some end) some one more = more_slots count place next end one.slot more.slots bytes some one.within one.text more.so_many more.within more.text
slots_on count place next bytes None some one more = no_later count place next one.slot bytes some one.within one.text more

-- heads

short_body_at : (text : List ℕ) → length text < 2 → (worker : ℕ) (act : LoggedAct) (behind : List ℕ) → text ≡ act_text worker act ++ behind → ⊥
short_body_at text short worker (published slots) behind same = omega (arith, short, ap length same)
short_body_at text short worker (closed feature profiles) behind same = omega (arith, short, ap length same)
short_body_at text short worker (reopened feature profiles) behind same = omega (arith, short, ap length same)

pub no_short_body : (text : List ℕ) → length text < 2 → HasNoBody text
no_short_body text short = λ entry behind is same. short_body_at text short entry.worker entry.act behind same

worker_at : (kind worker : ℕ) (rest : List ℕ) (w : ℕ) (act : LoggedAct) (behind : List ℕ) → kind ∷ (worker ∷ rest) ≡ act_text w act ++ behind → worker ≡ w
worker_at kind worker rest w (published slots) behind same = ap second_of same
worker_at kind worker rest w (closed feature profiles) behind same = ap second_of same
worker_at kind worker rest w (reopened feature profiles) behind same = ap second_of same

pub no_such_worker : (kind worker : ℕ) → 16 < worker → (rest : List ℕ) → HasNoBody (kind ∷ (worker ∷ rest))
no_such_worker kind worker past rest = λ entry behind is same.
    let e = worker_at kind worker rest entry.worker entry.act behind same in
    let small = is.loggable.worker in
    omega (arith, past, e, small)

kind_at : (kind worker : ℕ) (rest : List ℕ) → (kind ≡ 1 → ⊥) → (kind ≡ 2 → ⊥) → (kind ≡ 3 → ⊥) → (w : ℕ) (act : LoggedAct) (behind : List ℕ)
    → kind ∷ (worker ∷ rest) ≡ act_text w act ++ behind → ⊥
kind_at kind worker rest one two three w (published slots) behind same = one (ap first_of same)
kind_at kind worker rest one two three w (closed feature profiles) behind same = two (ap first_of same)
kind_at kind worker rest one two three w (reopened feature profiles) behind same = three (ap first_of same)

pub no_such_kind : (kind worker : ℕ) → (kind ≡ 1 → ⊥) → (kind ≡ 2 → ⊥) → (kind ≡ 3 → ⊥) → (rest : List ℕ) → HasNoBody (kind ∷ (worker ∷ rest))
no_such_kind kind worker one two three rest = λ entry behind is same. kind_at kind worker rest one two three entry.worker entry.act behind same

-- a kind and a worker, read
pub head_is : (place kind worker : ℕ) (bytes : List ℕ) (head : Option Head) → Spans place (place + 1) (kind ∷ []) bytes
    → Spans (place + 1) (place + 1 + 1) (worker ∷ []) bytes → IsHeadOf kind worker head → IsHeadAt place head bytes
head_is place kind worker bytes (Some it) one two is =
    subst (λ (l : List ℕ). Spans place (place + 2) l bytes) is.0 (joins place (place + 1) (place + 1 + 1) (place + 2) (kind ∷ []) (worker ∷ []) bytes one two (omega arith))
head_is place kind worker bytes None one two none = λ entry behind is same.
    none (drop (place + 2) bytes) entry behind is
    (sym (joins place (place + 1) (place + 1 + 1) (place + 2) (kind ∷ []) (worker ∷ []) bytes one two (omega arith)) ∙ same)

-- a gate, a kind and a worker
pub opened_head : (gate kind worker : ℕ) (bytes : List ℕ) → Spans gate (gate + 1) (1 ∷ []) bytes → Spans (gate + 1) (gate + 1 + 2) (kind ∷ (worker ∷ [])) bytes
    → Spans gate (gate + 3) (1 ∷ (kind ∷ (worker ∷ []))) bytes
opened_head gate kind worker bytes one two = joins gate (gate + 1) (gate + 1 + 2) (gate + 3) (1 ∷ []) (kind ∷ (worker ∷ [])) bytes one two (omega arith)

-- what is broken

pub broken_body : (gate : ℕ) (bytes : List ℕ) → Spans gate (gate + 1) (1 ∷ []) bytes → HasNoBody (drop (gate + 1) bytes) → IsBrokenAt gate bytes
broken_body gate bytes spans none = record { rest = drop (gate + 1) bytes; text = spans; broken = λ entry behind is same. absurd (none entry behind is same) }

marked_end : (kind worker : ℕ) (rest : List ℕ) → (kind ≡ 1 → ⊥) → length rest ≤ 18 → (w : ℕ) (act : LoggedAct) (behind : List ℕ)
    → kind ∷ (worker ∷ rest) ≡ act_text w act ++ behind → behind ≡ []
marked_end kind worker rest one short w (published slots) behind same = absurd (one (ap first_of same))
marked_end kind worker rest one short w (closed feature profiles) behind same = nil_from_length behind (omega (arith, short, ap length same))
marked_end kind worker rest one short w (reopened feature profiles) behind same = nil_from_length behind (omega (arith, short, ap length same))

no_published : (is_open : Bool) → kind_of is_open ≡ 1 → ⊥
no_published true e = omega (arith, e)
no_published false e = omega (arith, e)

pub broken_mark : (gate worker : ℕ) (is_open : Bool) (bytes : List ℕ) → Spans gate (gate + 3) (1 ∷ (kind_of is_open ∷ (worker ∷ []))) bytes
    → length bytes ≤ gate + 3 + 18 → IsBrokenAt gate bytes
broken_mark gate worker is_open bytes spans short =
    let rest = drop (gate + 3) bytes in
    let few : length rest ≤ 18 = omega (arith, short, length-drop (gate + 3) bytes) in
    record {
      rest = kind_of is_open ∷ (worker ∷ rest);
      text = spans;
      broken = λ entry behind is same. marked_end (kind_of is_open) worker rest (no_published is_open) few entry.worker entry.act behind same;
    }

no_slots_end : (worker : ℕ) (rest : List ℕ) → HasNoSlots 17 rest → (w : ℕ) (act : LoggedAct) (behind : List ℕ) → IsAct act
    → 1 ∷ (worker ∷ rest) ≡ act_text w act ++ behind → ⊥
no_slots_end worker rest none w (published slots) behind are same = none slots behind are.seventeen are.within (ap (λ (l : List ℕ). drop 2 l) same)
no_slots_end worker rest none w (closed feature profiles) behind are same = let k : 1 ≡ 2 = ap first_of same in omega (arith, k)
no_slots_end worker rest none w (reopened feature profiles) behind are same = let k : 1 ≡ 3 = ap first_of same in omega (arith, k)

pub broken_slots : (gate worker : ℕ) (bytes : List ℕ) → Spans gate (gate + 3) (1 ∷ (1 ∷ (worker ∷ []))) bytes → HasNoSlots 17 (drop (gate + 3) bytes) → IsBrokenAt gate bytes
broken_slots gate worker bytes spans none =
    let rest = drop (gate + 3) bytes in
    record { rest = 1 ∷ (worker ∷ rest); text = spans; broken = λ entry behind is same. absurd (no_slots_end worker rest none entry.worker entry.act behind is.loggable.act same) }

-- records

-- a publication's record, whatever is behind it
publication : (worker : ℕ) (slots : List Slot) → worker ≤ 16 → AreSlots slots → IsRecord (record { worker = worker; act = published slots })
publication worker slots small are = record { loggable = record { worker = small; act = are }; ranges = tt }

publication_text : (gate next worker : ℕ) (slots : List Slot) (bytes : List ℕ) → Spans gate (gate + 3) (1 ∷ (1 ∷ (worker ∷ []))) bytes
    → Spans (gate + 3) next (flat_map slot_text slots) bytes → drop gate bytes ≡ record_text (record { worker = worker; act = published slots }) ++ drop next bytes
publication_text gate next worker slots bytes head text = joins gate (gate + 3) next next (1 ∷ (1 ∷ (worker ∷ []))) (flat_map slot_text slots) bytes head text refl

pub whole_publication : (gate next worker : ℕ) (slots : List Slot) (bytes : List ℕ) → gate + 3 ≤ next → next < length bytes → worker ≤ 16 → AreSlots slots
    → Spans gate (gate + 3) (1 ∷ (1 ∷ (worker ∷ []))) bytes → Spans (gate + 3) next (flat_map slot_text slots) bytes
    → IsRecordAt gate next (record { worker = worker; act = published slots }) bytes
whole_publication gate next worker slots bytes behind fits small are head text = record {
  text = publication_text gate next worker slots bytes head text;
  next_is = omega (arith, behind, fits, ap length text, length-append (flat_map slot_text slots) (drop next bytes), length-drop (gate + 3) bytes, length-drop next bytes);
  followed = λ e. omega (arith, fits, ap length e, length-drop next bytes);
  is_record = publication worker slots small are;
}

pub last_publication : (gate next worker : ℕ) (slots : List Slot) (bytes : List ℕ) → length bytes ≤ next → worker ≤ 16 → AreSlots slots
    → Spans gate (gate + 3) (1 ∷ (1 ∷ (worker ∷ []))) bytes → Spans (gate + 3) next (flat_map slot_text slots) bytes → IsBrokenAt gate bytes
last_publication gate next worker slots bytes ends small are head text =
    let mine : Logged = record { worker = worker; act = published slots } in
    let rest = drop (gate + 3) bytes in
    record {
      rest = 1 ∷ (worker ∷ rest);
      text = head;
      broken = λ entry behind is same.
          let both = both_read mine entry (drop next bytes) behind (publication worker slots small are) is
          (sym (publication_text gate next worker slots bytes head text) ∙ head ∙ ap (λ (l : List ℕ). 1 ∷ l) same) in
          sym both.rest ∙ drop_all next bytes ends;
    }

pub whole_mark : (gate next worker : ℕ) (is_open : Bool) (mark : Mark) (bytes : List ℕ) → next ≡ gate + 21 → next < length bytes → worker ≤ 16
    → mark.feature.0 < 2 ^ 128 → mark.profiles.0 < 2 ^ 16 → Spans gate (gate + 3) (1 ∷ (kind_of is_open ∷ (worker ∷ []))) bytes
    → Spans (gate + 3) next (bytes_high_first 16 mark.feature.0 ++ bytes_high_first 2 mark.profiles.0) bytes
    → IsRecordAt gate next (record { worker = worker; act = act_of is_open mark }) bytes
whole_mark gate next worker true mark bytes is fits small feature profiles head text = record {
  text = joins gate (gate + 3) next next (1 ∷ (3 ∷ (worker ∷ []))) (bytes_high_first 16 mark.feature.0 ++ bytes_high_first 2 mark.profiles.0) bytes head text refl;
  next_is = is;
  followed = λ e. omega (arith, fits, ap length e, length-drop next bytes);
  is_record = record { loggable = record { worker = small; act = tt }; ranges = (feature, profiles) };
}
whole_mark gate next worker false mark bytes is fits small feature profiles head text = record {
  text = joins gate (gate + 3) next next (1 ∷ (2 ∷ (worker ∷ []))) (bytes_high_first 16 mark.feature.0 ++ bytes_high_first 2 mark.profiles.0) bytes head text refl;
  next_is = is;
  followed = λ e. omega (arith, fits, ap length e, length-drop next bytes);
  is_record = record { loggable = record { worker = small; act = tt }; ranges = (feature, profiles) };
}

-- a publication that is skipped

pub skipped_whole : (gate next worker : ℕ) (bytes : List ℕ) → gate + 3 ≤ next → next < length bytes → worker ≤ 16
    → Spans gate (gate + 3) (1 ∷ (1 ∷ (worker ∷ []))) bytes → AreSlotsTo 17 (gate + 3) next bytes → (entry : Logged) × IsRecordAt gate next entry bytes
skipped_whole gate next worker bytes behind fits small head to =
    let mine : Logged = record { worker = worker; act = published to.slots } in
    (mine, whole_publication gate next worker to.slots bytes behind fits small (record { seventeen = to.so_many; within = to.within }) head to.text)

pub skipped_last : (gate next worker : ℕ) (bytes : List ℕ) → length bytes ≤ next → worker ≤ 16 → Spans gate (gate + 3) (1 ∷ (1 ∷ (worker ∷ []))) bytes
    → AreSlotsTo 17 (gate + 3) next bytes → IsBrokenAt gate bytes
skipped_last gate next worker bytes ends small head to =
    last_publication gate next worker to.slots bytes ends small (record { seventeen = to.so_many; within = to.within }) head to.text

-- slots that are read

pub kept_on : (count place : ℕ) (kept : KeptSlot) (earlier between slots : List Slot) (old mid : List Moment) (end : Option ℕ) → 0 < count → IsWithinLimit kept.slot
    → Gives old (Spans place kept.next (slot_text kept.slot)) → between ≡ earlier ++ kept.slot ∷ [] → given mid ≡ given old
    → AreKeptSlots (count - 1) kept.next between slots mid end → AreKeptSlots count place earlier slots old end
kept_on count place kept earlier between slots old mid (Some end) some limit first pushed told more = record {
  added = kept.slot ∷ more.added;
  longer = more.longer ∙ ap (λ (l : List Slot). l ++ more.added) pushed ∙ append_assoc earlier (kept.slot ∷ []) more.added;
  so_many = let many = more.so_many in omega (arith, some, many);
  within = All-cons IsWithinLimit kept.slot more.added limit more.within;
  text = λ bytes is.
      joins place kept.next end end (slot_text kept.slot) (flat_map slot_text more.added) bytes (first bytes is) (more.text bytes (told ∙ is)) refl;
}
kept_on count place kept earlier between slots old mid None some limit first pushed told more = λ bytes is.
    no_later count place kept.next kept.slot bytes some limit (first bytes is) (more bytes (told ∙ is))
