-- What reading a folder gives.
use Rattle.std.specs.Prelude.{◌≡◌, []}
use Rattle.venue_types.specs.declared.files.Files.{Files}
use Rattle.rule_reports.specs.Reports.{IsReport, IsNoteList}
use Rattle.imdf_rows.specs.Folder.{AreFeatures}
use Rattle.imdf_read.specs.declared.read_out.ReadOut.{ReadOut}
use Rattle.imdf_read.specs.Broken.{IsBroken}
use Rattle.imdf_read.specs.Noted.{IsNoted}

-- the whole first phase, the notes, and, where nothing is wrong, the rows
pub record IsReadOut (files : Files) (out : ReadOut) : Type 0 where
  pub findings : IsReport (IsBroken files) out.findings
  pub notes : IsNoteList (IsNoted files) out.notes
  pub rows : out.findings ≡ [] → AreFeatures files out.features
