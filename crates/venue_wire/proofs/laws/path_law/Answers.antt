use Rattle.venue_wire.proofs.PathLemmas.{found_path, whole_path}
use Rattle.venue_wire.proofs.laws.path_law.Goals as goal

pub returns : goal.returns
returns c = record { found = found_path; whole = whole_path }
