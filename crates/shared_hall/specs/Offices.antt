-- What is seen of the office under the lock, and of the passes of a hall.
use Rattle.std.specs.Prelude.{◌≡◌, ℕ, zero, suc, ◌+◌, ◌<◌, List, [], ◌∷◌, ◌++◌, Option, All, length}
use Rattle.std.specs.Option.{option_map}
use Rattle.std.specs.List.{sum_by}
use mathlib.Core.List.{IsPrefix}
use Rattle.venue_types.specs.declared.reply.Reply.{Reply}
use Rattle.venue_types.specs.declared.reply.Reply.TheVariants as reply
use Rattle.venue_hall.specs.Shelves.{Shelf}
use Rattle.venue_ports.specs.Causes.{one_more}
use Rattle.venue_ports.specs.Files.{StoredFile}
use Rattle.venue_hall.specs.Entry.{Entry}
use Rattle.venue_hall.specs.Histories.{IsLegal}
use Rattle.venue_hall.specs.Facts.{Facts}
use Rattle.venue_hall.specs.Records.{Logged, AreKept}
use Rattle.venue_hall.specs.Standing.{AreRecordsOf}
use Rattle.board_copies.specs.Making.{shelf_of}

-- the entries of the published copy, the folders below the base where they are told, and how often they failed; the records of the log where they
-- are told, and how often it failed
pub record OfficeFacts : Type 0 where
  pub entries : List Entry
  pub shelf : Option Shelf
  pub faults : ℕ
  pub records : Option (List Logged)
  pub log_faults : ℕ

-- into how many parts the changes of these passes are shared out
abbrev pub parts_of : List Facts → ℕ
parts_of passes = sum_by (λ pass. pass.parts) passes

-- how many accepted changes these passes have told
abbrev pub made_of : List Facts → ℕ
made_of passes = sum_by (λ pass. pass.made) passes

-- what the pass has seen begins this list
abbrev pub Begins : List Entry → Facts → Type 0
Begins entries pass = IsPrefix pass.seen entries

-- the passes are numbered one after the other, from this number on
abbrev pub AreNumbered : ℕ → List Facts → Type 0
AreNumbered n [] = Unit {0}
AreNumbered n (pass ∷ passes) = (pass.worker ≡ n) × AreNumbered (n + 1) passes

-- a pass that has seen this list, and told no change
pub record IsNew (entries : List Entry) (pass : Facts) : Type 0 where
  pub seen_is : pass.seen ≡ entries
  pub made_none : pass.made ≡ 0
  pub faultless : pass.faults ≡ 0
  pub looked_never : pass.looks ≡ 0
  pub has_part : 0 < pass.parts

-- a pass's count of faults behind a reply: a fault of the folders or of the journal raises it
abbrev pub faulted : Reply → ℕ → ℕ
faulted (reply.FolderFault before after) n = one_more n
faulted (reply.JournalFault before after) n = one_more n
faulted _ n = n

-- what a log tells behind so many accepted changes: behind none what it told before, or no more; behind one its record more
abbrev pub IsRecorded : ℕ → Option (List Logged) → Option (List Logged) → Type 0
IsRecorded zero old new = AreKept old new
IsRecorded (suc n) old new = (kept : Logged) × (new ≡ option_map (λ front. front ++ kept ∷ []) old)

-- what folders tell is this shelf below some base
abbrev pub HasShelf : Option (List StoredFile) → Option Shelf → Type 0
HasShelf stored shelf = (base : List ℕ) × (shelf_of stored base ≡ shelf)

-- one legal history, which every pass has seen a beginning of: it begins with the entries with which it was opened, and has one entry
-- behind them for each accepted change that the passes told. Where the log tells its records, they stand for it
pub record IsOneHistory (opening : List Entry) (passes : List Facts) (records : Option (List Logged)) (number changes : ℕ) : Type 0 where
  pub entries : List Entry
  pub legal : IsLegal entries
  pub opened : IsPrefix opening entries
  pub number_is : number ≡ length entries
  pub begun : All (Begins entries) passes
  pub told : changes ≡ made_of passes
  pub counted : number ≡ length opening + changes
  pub kept : AreRecordsOf records entries
