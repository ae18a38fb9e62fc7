-- What a service comes to, from its first connection to the close of its hall.
use Rattle.std.specs.Prelude.{◌≡◌, ℕ, ◌<◌, ◌≤◌, List, Option, length, false}
use mathlib.Core.List.{IsPrefix}
use Rattle.shared_hall.specs.Copied.{entries_in}
use Rattle.shared_hall.specs.Entry.{Entry}
use Rattle.shared_hall.specs.Facts.{Facts}
use Rattle.shared_hall.specs.Histories.{IsLegal}
use Rattle.shared_hall.specs.Offices.{IsOneHistory}
use Rattle.shared_hall.specs.Records.{Logged}
use Rattle.shared_hall.specs.Standing.{AreRecordsOf}
use Rattle.venue_service.specs.declared.service.Counts.{Counts}
use Rattle.venue_service.specs.declared.service.Plan.{Plan}

-- the counts that are told at the close: one to so many workers, each with a pass; the sessions that were accepted, all of the
-- connections unless an accept has failed; and the versions and changes of the one history that the hall was opened with and its
-- passes have seen and changed, for which the log's records stand where they are told
pub record AreCounts (workers connections : ℕ) (opening : List Entry) (records : Option (List Logged)) (counts : Counts) : Type 0 where
  pub passes : List Facts
  pub workers_are : counts.workers ≡ length passes
  pub some : 1 ≤ counts.workers
  pub few : counts.workers ≤ workers
  pub sessions : counts.sessions ≤ connections
  pub history : IsOneHistory opening passes records counts.versions counts.changes
  pub all : counts.failed ≡ false → counts.sessions ≡ connections

-- the log's records, where they are told, stand for a legal history that begins with the one with which the hall was opened
pub record IsKeptOn (opening : List Entry) (records : Option (List Logged)) : Type 0 where
  pub entries : List Entry
  pub legal : IsLegal entries
  pub opened : IsPrefix opening entries
  pub kept : AreRecordsOf records entries

-- what a hall is opened with: the entries of its history, the base of its folders, and the keys of its staff; and what it is to serve: how
-- many workers at most, and how many connections
pub record HallTerms : Type 0 where
  pub opening : List Entry
  pub base : List ℕ
  pub keys : List (List ℕ)
  pub workers : ℕ
  pub connections : ℕ

-- the terms of a plan
abbrev pub terms_of : Plan → HallTerms
terms_of plan = record { opening = entries_in plan.copies; base = plan.base; keys = plan.front; workers = plan.workers; connections = plan.connections }
