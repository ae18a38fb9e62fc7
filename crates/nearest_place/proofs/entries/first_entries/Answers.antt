use Rattle.std.proofs.Common.{List, sym, subst}
use Rattle.route_search.specs.Reaches.{cost_of}
use Rattle.nearest_place.specs.declared.entries.Entry.{Entry}
use Rattle.nearest_place.specs.Entries.{AreFirstEntries}
use Rattle.nearest_place.proofs.EntryLemmas.{cut_entries}
use Rattle.nearest_place.proofs.entries.first_entries.Goals as goal

pub returns : goal.returns
returns c =
    subst (λ (es : List Entry). AreFirstEntries (cost_of c.args.reach.now) c.args.targets.now c.args.limit es) (sym c.truncate.ensures.items)
    (cut_entries (cost_of c.args.reach.now) c.args.targets.now c.args.limit c.in_ok-entries.entries.items c.sort.new.entries.items c.requires c.in_ok-entries.ensures c.sort.ensures.same c.sort.ensures.sorted)
