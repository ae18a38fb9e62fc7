-- A record as a log's meaning has it.
use Rattle.venue_hall.specs.Records.{Logged, published, closed, reopened}
use Rattle.venue_hall.specs.declared.records.Record.{Record}
use Rattle.venue_hall.specs.declared.records.Record.TheVariants as entry

abbrev pub logged : Record → Logged
logged (entry.Published worker files) = record { worker = worker; act = published files.now.slots }
logged (entry.Closed worker feature profiles) = record { worker = worker; act = closed feature profiles }
logged (entry.Reopened worker feature profiles) = record { worker = worker; act = reopened feature profiles }
