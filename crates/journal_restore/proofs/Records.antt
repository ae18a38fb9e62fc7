-- Records that were read, and what stands behind them.
use Rattle.std.proofs.Common.{◌≡◌, ℕ, ◌+◌, List, [], ◌∷◌, ◌++◌, Option, Some, None, length, refl, sym, ap, subst, append_assoc, inr, arith}
use Rattle.std.proofs.lemmas.List.{append-nil, length_push}
use Rattle.venue_types.specs.declared.settings.Settings.{Settings}
use Rattle.venue_ports.specs.Moments.{Moment, Now}
use Rattle.venue_hall.specs.Entry.{Entry}
use Rattle.venue_hall.specs.Histories.{IsLegal}
use Rattle.venue_hall.specs.Records.{Logged}
use Rattle.venue_hall.specs.Standing.{StandFor}
use Rattle.venue_hall.proofs.Standing.{stand_more, stand_count}
use Rattle.board_copies.specs.declared.resuming.Resuming.{Resuming}
use Rattle.change_journal.specs.Places.{AreRecordsTo, IsBrokenAt, IsClosedAt, IsDamagedAt, IsRecordAt}
use Rattle.change_journal.specs.Readers.{IsNextOf}
use Rattle.change_journal.specs.Texts.{IsClosed}
use Rattle.journal_restore.specs.declared.going_on.SoFar.{SoFar}
use Rattle.journal_restore.specs.declared.restored.RestoreFault.{RestoreFault}
use Rattle.journal_restore.specs.declared.restored.RestoreFault.TheVariants as fault
use Rattle.journal_restore.specs.Going.{IsAt, IsBegun, IsBrokenBy, IsClosedBehind, IsLonger, IsReadTo, IsRestFault}
use Rattle.journal_restore.specs.Judging.{Grows, IsJudged, MayNotFollow, history_entries}
use Rattle.journal_restore.specs.Restores.{IsCause, IsUnfitAt}

-- the laws of what stands at a place
abbrev pub Longer : Type 0
Longer = (place next : ℕ) (records : List Logged) (entry : Logged) (bytes : List ℕ) → AreRecordsTo place records bytes
    → IsRecordAt place next entry bytes → AreRecordsTo next (records ++ entry ∷ []) bytes

abbrev pub ClosedThere : Type 0
ClosedThere = (place : ℕ) (records : List Logged) (bytes : List ℕ) → AreRecordsTo place records bytes → IsClosedAt place bytes → IsClosed records bytes

pub begun_more : Longer → (place next : ℕ) (records : List Logged) (entry : Logged) (bytes : List ℕ) → IsBegun place records bytes
    → IsRecordAt place next entry bytes → IsBegun next (records ++ entry ∷ []) bytes
begun_more law place next records entry bytes begun at = record { more = begun.more; to = law place next records entry bytes begun.to at }

-- one record on
pub read_more : Longer → (settings : Settings) (so_far longer : SoFar) (kept : Logged) (bytes : List ℕ) → IsReadTo settings so_far bytes
    → IsRecordAt so_far.place longer.place kept bytes → Grows settings kept (history_entries so_far.history) (history_entries longer.history)
    → IsReadTo settings longer bytes
read_more law settings so_far longer kept bytes read at grows = record {
  records = read.records ++ kept ∷ [];
  begun = begun_more law so_far.place longer.place read.records kept bytes read.begun at;
  stand = subst (λ (l : List Entry). StandFor settings (read.records ++ kept ∷ []) l) (sym grows.grown)
      (stand_more settings read.records (history_entries so_far.history) kept grows.entry read.stand grows.stands);
}

pub at_more : (settings : Settings) (count : ℕ) (so_far longer : SoFar) (kept : Logged) → IsAt settings count so_far
    → IsNextOf so_far.place count longer.place → longer.count ≡ so_far.count + 1
    → Grows settings kept (history_entries so_far.history) (history_entries longer.history)
    → length (history_entries longer.history) ≡ so_far.count + 1
at_more settings count so_far longer kept at next one grows =
    let counts = length_push (history_entries so_far.history) grows.entry in
    let all = ap length grows.grown in
    let before = at.counted in
    omega arith

-- a skipped record is one more
pub longer_more : Longer → (place next : ℕ) (begun : List Logged) (entry : Logged) (bytes : List ℕ) → IsLonger place begun bytes
    → IsRecordAt place next entry bytes → IsLonger next begun bytes
longer_more law place next begun entry bytes longer at = record {
  behind = longer.behind ++ entry ∷ [];
  is = subst (λ (l : List Logged). IsBegun next l bytes) (append_assoc begun longer.behind (entry ∷ []))
      (begun_more law place next (begun ++ longer.behind) entry bytes longer.is at);
}

pub longer_one : Longer → (place next : ℕ) (begun : List Logged) (entry : Logged) (bytes : List ℕ) → IsBegun place begun bytes
    → IsRecordAt place next entry bytes → IsLonger next begun bytes
longer_one law place next begun entry bytes is at = record { behind = entry ∷ []; is = begun_more law place next begun entry bytes is at }

-- damage where no record is whole
pub damaged : (place : ℕ) (records : List Logged) (bytes : List ℕ) → IsBegun place records bytes → IsBrokenAt place bytes → IsDamagedAt place bytes
damaged place records bytes begun broken = record { more = begun.more; records = records; before = begun.to; broken = broken }

-- the fault of the rest behind more records is that of the rest behind fewer
pub rest_of_longer : (place number : ℕ) (begun behind : List Logged) (why : RestoreFault) (bytes : List ℕ)
    → IsRestFault (begun ++ behind) number why bytes → IsRestFault begun number why bytes
rest_of_longer place number begun behind fault.Failed bytes is = tt
rest_of_longer place number begun behind (fault.Damaged at) bytes is = is
rest_of_longer place number begun behind (fault.Unfit told) bytes is = (
  is.0,
  record {
    behind = behind ++ is.1.behind;
    closed = subst (λ (l : List Logged). IsClosed l bytes) (append_assoc begun behind is.1.behind) is.1.closed;
  },
)
rest_of_longer place number begun behind fault.OutOfMemory bytes is = tt

-- a record that may not follow is the fault, where the rest isn't damaged
unfit_at : (settings : Settings) (so_far : SoFar) (kept : Logged) (bytes : List ℕ) (read : IsReadTo settings so_far bytes)
    → so_far.count ≡ length (history_entries so_far.history) → ((history_entries so_far.history ≡ [] → ⊥) → IsLegal (history_entries so_far.history))
    → MayNotFollow settings kept (history_entries so_far.history) → (rest : IsClosedBehind (read.records ++ kept ∷ []) bytes)
    → IsUnfitAt settings (so_far.count + 1) ((read.records ++ kept ∷ []) ++ rest.behind)
unfit_at settings so_far kept bytes read counted legal unfit rest =
    let same = stand_count settings read.records (history_entries so_far.history) read.stand in
    record {
      front = read.records;
      kept = kept;
      behind = rest.behind;
      is = append_assoc read.records (kept ∷ []) rest.behind;
      number_is = omega arith;
      entries = history_entries so_far.history;
      stand = read.stand;
      legal = legal;
      unfit = unfit;
    }

pub cause_of_rest : (settings : Settings) (so_far : SoFar) (kept : Logged) (why : RestoreFault) (bytes : List ℕ) (read : IsReadTo settings so_far bytes)
    → so_far.count ≡ length (history_entries so_far.history) → ((history_entries so_far.history ≡ [] → ⊥) → IsLegal (history_entries so_far.history))
    → MayNotFollow settings kept (history_entries so_far.history) → IsRestFault (read.records ++ kept ∷ []) (so_far.count + 1) why bytes
    → IsCause settings why bytes
cause_of_rest settings so_far kept fault.Failed bytes read counted legal unfit is = tt
cause_of_rest settings so_far kept (fault.Damaged at) bytes read counted legal unfit is = is
cause_of_rest settings so_far kept (fault.Unfit told) bytes read counted legal unfit is = record {
  records = (read.records ++ kept ∷ []) ++ is.1.behind;
  journal = inr is.1.closed;
  unfit = subst (λ (n : ℕ). IsUnfitAt settings n ((read.records ++ kept ∷ []) ++ is.1.behind)) (sym is.0)
      (unfit_at settings so_far kept bytes read counted legal unfit is.1);
}
cause_of_rest settings so_far kept fault.OutOfMemory bytes read counted legal unfit is = tt

-- the same where a place is broken that was to be read
pub cause_of_broken : (settings : Settings) (so_far : SoFar) (why : RestoreFault) (bytes : List ℕ) → IsReadTo settings so_far bytes
    → IsBrokenBy so_far.place why bytes → IsCause settings why bytes
cause_of_broken settings so_far fault.Failed bytes read is = tt
cause_of_broken settings so_far (fault.Damaged at) bytes read is =
    subst (λ (n : ℕ). IsDamagedAt n bytes) (sym is.0) (damaged so_far.place read.records bytes read.begun is.1)
cause_of_broken settings so_far (fault.Unfit number) bytes read is = absurd is
cause_of_broken settings so_far fault.OutOfMemory bytes read is = tt

-- a history is legal, or none
pub history_legal : (history : Option Resuming) → (history_entries history ≡ [] → ⊥) → IsLegal (history_entries history)
history_legal None some = absurd (some refl)
history_legal (Some resuming) some = resuming.stands.legal

pub longer_none : (place : ℕ) (begun : List Logged) (bytes : List ℕ) → IsBegun place begun bytes → IsLonger place begun bytes
longer_none place begun bytes is = record { behind = []; is = subst (λ (l : List Logged). IsBegun place l bytes) (sym (append-nil begun)) is }

-- a step over a record, of whatever was read in front of it
pub longer_step : (gate next : ℕ) (begun : List Logged) (moments : List Moment)
    → ((all : List Logged) → Now (λ m. IsBegun gate all m.reads) moments → Now (λ m. IsLonger next all m.reads) moments)
    → Now (λ m. IsLonger gate begun m.reads) moments → Now (λ m. IsLonger next begun m.reads) moments
longer_step gate next begun [] step was = tt
longer_step gate next begun (m ∷ past) step was =
    let more = step (begun ++ was.behind) was.is in
    record {
      behind = was.behind ++ more.behind;
      is = subst (λ (l : List Logged). IsBegun next l m.reads) (append_assoc begun was.behind more.behind) more.is;
    }

pub rest_step : (gate number : ℕ) (begun : List Logged) (why : RestoreFault) (moments : List Moment)
    → ((all : List Logged) → Now (λ m. IsBegun gate all m.reads) moments → Now (λ m. IsRestFault all number why m.reads) moments)
    → Now (λ m. IsLonger gate begun m.reads) moments → Now (λ m. IsRestFault begun number why m.reads) moments
rest_step gate number begun why [] step was = tt
rest_step gate number begun why (m ∷ past) step was =
    rest_of_longer gate number begun was.behind why m.reads (step (begun ++ was.behind) was.is)

-- the history with a record more, at the place behind it
pub at_longer : (settings : Settings) (count : ℕ) (so_far : SoFar) (kept : Logged) (next : ℕ) (resuming : Resuming) → IsAt settings count so_far
    → IsNextOf so_far.place count next → IsJudged settings kept (history_entries so_far.history) (Some resuming)
    → IsAt settings count (record { place = next; count = so_far.count + 1; history = Some resuming })
at_longer settings count so_far kept next resuming at is judged =
    let grows = judged.0 in
    let all = ap length grows.grown in
    let counts = length_push (history_entries so_far.history) grows.entry in
    let before = at.counted in
    let room = at.room in
    let few = at.few in
    let short = is.short in
    let behind = is.behind in
    record {
      within = is.within;
      counted = omega arith;
      room = omega arith;
      few = omega arith;
      settings_are = judged.1;
    }

pub read_longer : Longer → (settings : Settings) (so_far longer : SoFar) (kept : Logged) (moments : List Moment)
    → Grows settings kept (history_entries so_far.history) (history_entries longer.history) → Now (λ m. IsReadTo settings so_far m.reads) moments
    → Now (λ m. IsRecordAt so_far.place longer.place kept m.reads) moments → Now (λ m. IsReadTo settings longer m.reads) moments
read_longer law settings so_far longer kept [] grows read at = tt
read_longer law settings so_far longer kept (m ∷ past) grows read at = read_more law settings so_far longer kept m.reads read at grows

-- the fault where a record may not follow
pub cause_behind : Longer → (settings : Settings) (count : ℕ) (so_far : SoFar) (kept : Logged) (next : ℕ) (why : RestoreFault) (moments : List Moment)
    → IsAt settings count so_far → MayNotFollow settings kept (history_entries so_far.history) → Now (λ m. IsReadTo settings so_far m.reads) moments
    → Now (λ m. IsRecordAt so_far.place next kept m.reads) moments
    → ((begun : List Logged) → Now (λ m. IsBegun next begun m.reads) moments → Now (λ m. IsRestFault begun (so_far.count + 1) why m.reads) moments)
    → Now (λ m. IsCause settings why m.reads) moments
cause_behind law settings count so_far kept next why [] at unfit read found rest = tt
cause_behind law settings count so_far kept next why (m ∷ past) at unfit read found rest =
    let begun = begun_more law so_far.place next read.records kept m.reads read.begun found in
    cause_of_rest settings so_far kept why m.reads read at.counted (history_legal so_far.history) unfit (rest (read.records ++ kept ∷ []) begun)
