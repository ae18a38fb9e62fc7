use Rattle.venue_types.proofs.FileNumbers.{same_number, up_to_16}
use Rattle.venue_types.proofs.folder_file.file_numbers_law.Goals as goal

pub returns-clause-one : goal.returns-clause-one
returns-clause-one c = same_number

pub returns-clause-few : goal.returns-clause-few
returns-clause-few c = up_to_16
