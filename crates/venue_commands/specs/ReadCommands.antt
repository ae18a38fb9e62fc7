-- What words were read as.
use Rattle.std.specs.Prelude.{◌≡◌, ℕ, List, [], ◌∷◌, Option, Some, None, if◌then◌else◌}
use Rattle.std.specs.Str.{bytes_eq}
use Rattle.venue_types.specs.declared.folder_file.File.{File}
use Rattle.venue_types.specs.FolderFiles.{file_name}
use Rattle.venue_types.specs.Identifier.{identifier_read}
use Rattle.venue_commands.specs.declared.command.Command.{Command}
use Rattle.venue_commands.specs.declared.command.Command.TheVariants as command
use Rattle.venue_commands.specs.declared.command.LocalCommand.{LocalCommand}
use Rattle.venue_commands.specs.declared.command.LocalCommand.TheVariants as local
use Rattle.venue_commands.specs.declared.command.RouteOf.{RouteOf}
use Rattle.venue_commands.specs.declared.command.ServiceOf.{ServiceOf}
use Rattle.venue_commands.specs.declared.command.JournalOf.{JournalOf}
use Rattle.venue_commands.specs.declared.command.KeptServiceOf.{KeptServiceOf}
use Rattle.venue_commands.specs.Commands.{Asked, Price, Verify, Check, Canon, Links, Route, Session, Serve, Gen, Asks, AskForNothing}

-- the first of some files that has this name
abbrev pub named_among : List File → List ℕ → Option File
named_among [] name = None
named_among (f ∷ fs) name = if bytes_eq (file_name f) name then Some f else named_among fs name

-- the words ask for this way, and spell its two places
pub record AskWay (words : List (List ℕ)) (route : RouteOf) : Type 0 where
  pub from : List ℕ
  pub to : List ℕ
  pub from_is : identifier_read from ≡ Some route.from
  pub to_is : identifier_read to ≡ Some route.to
  pub asks : Asks words (Route route.of.base.now route.of.folder.now route.profile.now from to)

-- what a service is asked for by
abbrev pub service_asked : ServiceOf → Asked
service_asked service = Serve service.of.base.now service.of.folder.now service.address.now service.workers service.connections None

-- what a session with a journal is asked for by, and a service with one
abbrev pub kept_session_asked : JournalOf → Asked
kept_session_asked it = Session it.of.base.now it.of.folder.now (Some it.journal.now)

abbrev pub kept_service_asked : KeptServiceOf → Asked
kept_service_asked it = Serve it.service.of.base.now it.service.of.folder.now it.service.address.now it.service.workers it.service.connections (Some it.journal.now)

-- a command that needs no doors is what the words ask for
abbrev pub IsLocal : List (List ℕ) → LocalCommand → Type 0
IsLocal words (local.Price base) = Asks words (Price base.name.now)
IsLocal words (local.Verify base) = Asks words (Verify base.name.now)
IsLocal words (local.Check of) = Asks words (Check of.base.now of.folder.now)
IsLocal words (local.Canon canon) = Asks words (Canon canon.of.base.now canon.of.folder.now canon.file)
IsLocal words (local.Links links) = Asks words (Links links.of.base.now links.of.folder.now links.profile.now)
IsLocal words (local.Route route) = AskWay words route
IsLocal words (local.Gen levels) = Asks words (Gen levels.count)
IsLocal words (local.Session of) = Asks words (Session of.base.now of.folder.now None)
IsLocal words local.Unknown = AskForNothing words

-- this is what the words ask for
abbrev pub IsCommand : List (List ℕ) → Command → Type 0
IsCommand words (command.Local c) = IsLocal words c
IsCommand words (command.Serve service) = Asks words (service_asked service)
IsCommand words (command.KeptSession it) = Asks words (kept_session_asked it)
IsCommand words (command.KeptServe it) = Asks words (kept_service_asked it)
