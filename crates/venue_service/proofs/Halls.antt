-- What is the same hall as one that is the same hall, and what a log's records stand for.
use Rattle.std.proofs.Common.{◌∙◌, ℕ, List, [], Option, append-nil}
use Rattle.shared_hall.specs.Entry.{Entry}
use Rattle.shared_hall.specs.Facts.{Facts, IsSameHall}
use Rattle.shared_hall.specs.Histories.{IsLegal}
use Rattle.shared_hall.specs.Offices.{IsOneHistory}
use Rattle.shared_hall.specs.Records.{Logged}
use Rattle.shared_hall.specs.Standing.{AreRecordsOf}
use Rattle.venue_service.specs.Services.{IsKeptOn}

pub same_on : (old mid new : Facts) → IsSameHall old mid → IsSameHall mid new → IsSameHall old new
same_on old mid new first second = record {
  worker = second.worker ∙ first.worker;
  parts = second.parts ∙ first.parts;
  files = second.files ∙ first.files;
}

-- a history for which a log's records stand goes on from the one with which it was opened
pub kept_on : (opening : List Entry) (passes : List Facts) (records : Option (List Logged)) (number changes : ℕ) → IsOneHistory opening passes records number changes → IsKeptOn opening records
kept_on opening passes records number changes history = record { entries = history.entries; legal = history.legal; opened = history.opened; kept = history.kept }

-- and nobody having come, it is that one
pub kept_whole : (opening : List Entry) (records : Option (List Logged)) → IsLegal opening → AreRecordsOf records opening → IsKeptOn opening records
kept_whole opening records legal kept = record { entries = opening; legal = legal; opened = ([], append-nil opening); kept = kept }
