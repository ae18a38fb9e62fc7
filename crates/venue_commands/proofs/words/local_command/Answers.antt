use Rattle.std.specs.Prelude.{string_bytes, map}
use Rattle.venue_commands.proofs.Ending.{asks_nothing}
use Rattle.venue_commands.proofs.words.local_command.Goals as goal

pub returns : goal.returns
returns c =
    asks_nothing (map string_bytes c.args.words.now) c.in_default.ensures.none c.in_default-base_of.ensures.none c.in_default-folder_of.ensures.none c.in_default-folder_of-2.ensures.none
    c.in_default-canon_of.ensures.none c.in_default-links_of.ensures.none c.in_default-route_of.ensures.none c.in_default-levels_of.ensures.none c.requires.no_service c.requires.no_journal
