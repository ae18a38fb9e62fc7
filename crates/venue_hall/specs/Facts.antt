-- What is seen of a hall.
use Rattle.std.specs.Prelude.{◌≡◌, ℕ, List, [], ◌∷◌, ◌++◌, Option}
use mathlib.Core.List.{IsPrefix}
use Rattle.venue_types.specs.declared.query.Change.{Change}
use Rattle.venue_types.specs.declared.query.Query.{Query}
use Rattle.venue_types.specs.declared.reply.Reply.{Reply}
use Rattle.venue_history.specs.Shelves.{Shelf}
use Rattle.venue_history.specs.declared.entry.Entry.{Entry}
use Rattle.venue_history.specs.Answers.{Answers}
use Rattle.venue_history.specs.Changes.{Changes}
use Rattle.venue_history.specs.Closed.{Version}
use Rattle.venue_history.specs.Histories.{Replays}

-- its worker, into how many parts the changes are shared out, the folders where they are told, the entries that it has seen,
-- how many accepted changes it has told, its outside's faults, and how often it looked for later entries
pub record Facts : Type 0 where
  pub worker : ℕ
  pub parts : ℕ
  pub files : Option Shelf
  pub seen : List Entry
  pub made : ℕ
  pub faults : ℕ
  pub looks : ℕ

-- it is the same hall: its worker, its parts and its folders
pub record IsSameHall (old new : Facts) : Type 0 where
  pub worker : new.worker ≡ old.worker
  pub parts : new.parts ≡ old.parts
  pub files : new.files ≡ old.files

-- the reply is right at the version to which the entries lead, which are a legal history
abbrev pub IsAnswered : List Entry → Query → Reply → Type 0
IsAnswered seen query r = (v : Version) × Replays seen v × Answers v query r

-- the change was asked at a history that begins with what was seen before, and the reply and what is seen now are right for it
abbrev pub IsChanged : Facts → Facts → Change → Reply → Type 0
IsChanged old new asked r = (h : List Entry) × IsPrefix old.seen h × Changes old.files old.worker asked h r new.seen

-- the last of the entries is by the worker
abbrev pub IsLastBy : ℕ → List Entry → Type 0
IsLastBy worker entries = (front : List Entry) × (last : Entry) × (entries ≡ front ++ last ∷ []) × (last.worker ≡ worker)
