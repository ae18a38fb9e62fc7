use Rattle.venue_types.specs.declared.folder_file.File.TheVariants as file
use Rattle.writing_law.specs.Written.{written}
use Rattle.writing_law.proofs.Files.{content_held}
use Rattle.writing_law.proofs.Notes.{noted_again, none_on_restrictions}
use Rattle.writing_law.proofs.laws.notes_law.Goals as goal

-- each way a note goes over to the other folder of the same rows
pub returns : goal.returns
returns c files features x seventeen are none limit =
    let nothing = c.writer_law.ensures.nothing files features seventeen are none limit in
    let same = c.writer_law.ensures.same files features seventeen are none limit in
    let held = content_held c.compact_law.ensures c.same_numbers_law.ensures features (c.fit_law.ensures files features seventeen are none) limit file.Unit (λ e. cc) in (
      (λ noted.
          let other = none_on_restrictions c.one_json_law.ensures features held x noted in
          (noted_again c.one_json_law.ensures (written features) files features same are none x other noted, other)),
      (λ old. noted_again c.one_json_law.ensures files (written features) features are same nothing x old.1 old.0),
    )
