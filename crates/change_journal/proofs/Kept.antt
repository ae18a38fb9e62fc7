-- What appends one after the other keep of the records of those that answered Ok.
use Rattle.std.proofs.Common.{◌≡◌, inl, inr, ℕ, List, [], ◌∷◌, ◌++◌, Bool, true, false, if◌then◌else◌, refl, sym, subst}
use Rattle.std.proofs.lemmas.List.Elements.{Contains-append_left, Contains-push}
use Rattle.venue_ports.specs.Moments.{Moment, Leaves, AllLeft, LeavesOnly, Now}
use Rattle.venue_hall.specs.Records.{Logged}
use Rattle.change_journal.specs.Texts.{IsJournal}
use Rattle.change_journal.specs.States.{IsBetween}
use Rattle.change_journal.specs.Appends.{Append, IsAppend, AreAppends, IsJournalWith, records_after, kept_records, loose_records, moments_after}

-- whatever a stop at this moment leaves has P
abbrev pub HasAll : (List ℕ → Type 0) → Moment → Type 0
HasAll P m = (image : List ℕ) → Leaves m image → P image

each_weaker : (P Q : List ℕ → Type 0) → ((image : List ℕ) → P image → Q image) → (ms : List Moment) → AllLeft P ms → AllLeft Q ms
each_weaker P Q follows [] all = tt
each_weaker P Q follows (m ∷ ms) all = (λ image left. follows image (all.0 image left), each_weaker P Q follows ms all.1)

now_weaker : (P Q : List ℕ → Type 0) → ((image : List ℕ) → P image → Q image) → (ms : List Moment) → Now (HasAll P) ms → Now (HasAll Q) ms
now_weaker P Q follows [] all = tt
now_weaker P Q follows (m ∷ ms) all = λ image left. follows image (all image left)

only_weaker : (P Q : List ℕ → Type 0) → ((image : List ℕ) → P image → Q image) → (old new : List Moment) → LeavesOnly P old new → LeavesOnly Q old new
only_weaker P Q follows old [] only = tt
only_weaker P Q follows old (now ∷ past) only = record { added = only.added; grows = only.grows; each = each_weaker P Q follows only.added only.each }

-- the newest moment is one that was added, or the one before
now_of : (P : List ℕ → Type 0) (added old : List Moment) → AllLeft P added → Now (HasAll P) old → Now (HasAll P) (added ++ old)
now_of P [] old each all = all
now_of P (m ∷ ms) old each all = each.0

pub newest : (P : List ℕ → Type 0) (old new : List Moment) → LeavesOnly P old new → Now (HasAll P) old → Now (HasAll P) new
newest P old [] only all = tt
newest P old (now ∷ past) only all = subst (Now (HasAll P)) (sym only.grows) (now_of P only.added old only.each all)

-- at the newest moment, a journal of these records, or of these and one of the others
abbrev AreKept : List Logged → List Logged → List Moment → Type 0
AreKept records others moments = Now (HasAll (IsJournalWith records others)) moments

-- with one more among the others
with_more : (records others : List Logged) (entry : Logged) (image : List ℕ) → IsJournalWith records others image
    → IsJournalWith records (others ++ entry ∷ []) image
with_more records others entry image (inl journal) = inl journal
with_more records others entry image (inr more) = inr (more.0, Contains-append_left others (entry ∷ []) more.0 more.1, more.2)

-- what an append leaves, where the disk tells
between_with : (records others : List Logged) (entry : Logged) (now : Moment) (past : List Moment) → HasAll (IsJournalWith records others) now
    → (image : List ℕ) → IsBetween records entry (now ∷ past) image → IsJournalWith records (others ++ entry ∷ []) image
between_with records others entry now past all image (inl before) = with_more records others entry image (all image before)
between_with records others entry now past all image (inr (inl journal)) = inl journal
between_with records others entry now past all image (inr (inr journal)) = inr (entry, Contains-push others entry, journal)

-- in an append
within_one : (records others : List Logged) (old : List Moment) (append : Append) → AreKept records others old → IsAppend records old append
    → LeavesOnly (IsJournalWith records (others ++ append.entry ∷ [])) old append.moments
within_one records others [] append all is =
    let P = IsJournalWith records (others ++ append.entry ∷ []) in
    subst (λ (ms : List Moment). LeavesOnly P [] ms) (sym (is.untold refl)) tt
within_one records others (now ∷ past) append all is =
    let own = between_with records others append.entry now past all in
    only_weaker (IsBetween records append.entry (now ∷ past)) _ own (now ∷ past) append.moments is.only

-- behind an append
behind_one : (records others : List Logged) (old : List Moment) (append : Append) (is_ok : Bool) → append.is_ok ≡ is_ok
    → AreKept records others old → IsAppend records old append
    → AreKept (if is_ok then records ++ append.entry ∷ [] else records) (if is_ok then [] else others ++ append.entry ∷ []) append.moments
behind_one records others old append true ok all is =
    now_weaker (IsJournal (records ++ append.entry ∷ [])) _ (λ image journal. inl journal) append.moments (is.kept ok)
behind_one records others old append false ok all is =
    let before = now_weaker (IsJournalWith records others) _ (with_more records others append.entry) old all in
    newest _ old append.moments (within_one records others old append all is) before

pub between : (records failed : List Logged) (old : List Moment) (appends : List Append) → AreKept records failed old → AreAppends records old appends
    → AreKept (kept_records records appends) (loose_records failed appends) (moments_after old appends)
between records failed old [] all are = all
between records failed old (append ∷ rest) all are =
    let next = behind_one records failed old append append.is_ok refl all are.0 in
    between (records_after records append) (if append.is_ok then [] else failed ++ append.entry ∷ []) append.moments rest next are.1

pub within : (records failed : List Logged) (old : List Moment) (appends : List Append) (last : Append) → AreKept records failed old
    → AreAppends records old appends → IsAppend (kept_records records appends) (moments_after old appends) last
    → LeavesOnly (IsJournalWith (kept_records records appends) (loose_records failed appends ++ last.entry ∷ [])) (moments_after old appends) last.moments
within records failed old appends last all are is =
    let here = between records failed old appends all are in
    within_one (kept_records records appends) (loose_records failed appends) (moments_after old appends) last here is
