use Rattle.std.proofs.Common.{ap, sym, subst, List, ℕ, length, false}
use Rattle.venue_types.specs.declared.files.Files.{Files}
use Rattle.version_board.specs.BuiltType.{Built}
use Rattle.version_board.specs.Built.{IsBuilt, IsVenueOf, IsRejected}
use Rattle.gen_text.specs.Texts.{building_files}
use Rattle.venue_commands.specs.BuildingReports.{IsTold, accepted, rejected}
use Rattle.venue_commands.proofs.building.report.tell_building.Goals as goal

pub build-requires : goal.build-requires
unfolding building_files
build-requires c = ap (λ (files : Files). length files.slots) c.in_ok-files.ensures

pub returns-in-Venue : goal.returns-in-Venue
returns-in-Venue c =
    let files = c.in_ok-files.files in
    let settings = c.in_ok-settings.settings in
    let built : IsVenueOf files settings c.in-Venue.venue = subst (λ (b : Built). IsBuilt files settings b) c.in-Venue.is c.in_ok-venue.ensures in
    accepted settings c.in-Venue.venue c.in_ok-settings.ensures (subst (λ (f : Files). IsVenueOf f settings c.in-Venue.venue) c.in_ok-files.ensures built)
    c.in_ok-text-in-Venue.ensures

pub returns : goal.returns
returns c =
    let files = c.in_ok-files.files in
    let settings = c.in_ok-settings.settings in
    let report = c.in-Rejected.report in
    let built : IsRejected files settings report = subst (λ (b : Built). IsBuilt files settings b) c.in-Rejected.is c.in_ok-venue.ensures in
    let told = rejected settings report c.in_ok-settings.ensures (subst (λ (f : Files). IsRejected f settings report) c.in_ok-files.ensures built) in
    subst (λ (text : List ℕ). IsTold c.args.levels text false) (sym c.in_ok-text-in-Rejected.ensures) told
