use Rattle.imdf_read.proofs.ReadFolders.{sound}
use Rattle.imdf_read.proofs.laws.sound_reading_law.Goals as goal

-- src/law.rt:13:1
pub returns : goal.returns
returns c files features seventeen none rows = sound files features none rows seventeen
