-- Each clause is a lemma of its own.
use Rattle.writing_law.proofs.Ids.{id_back, id_or_none_back, ids_back}
use Rattle.writing_law.proofs.Labels.{name_back}
use Rattle.writing_law.proofs.Figures.{point_back, line_back, shape_back, display_back}
use Rattle.writing_law.proofs.Words.{marked_back, out_back, revolving_back, turnstile_back, passage_back, direction_back, restricted_back}
use Rattle.writing_law.proofs.Ordinals.{ordinal_back}
use Rattle.writing_law.proofs.Refs.{ref_or_none_back, refs_back}
use Rattle.writing_law.proofs.laws.field_law.Goals as goal

pub returns-clause-id : goal.returns-clause-id
returns-clause-id c = id_back

pub returns-clause-id_or_none : goal.returns-clause-id_or_none
returns-clause-id_or_none c = id_or_none_back

pub returns-clause-ids : goal.returns-clause-ids
returns-clause-ids c = ids_back

pub returns-clause-name : goal.returns-clause-name
returns-clause-name c = λ labels fits. name_back labels fits.ascend

pub returns-clause-point : goal.returns-clause-point
returns-clause-point c = point_back

pub returns-clause-line : goal.returns-clause-line
returns-clause-line c = line_back

pub returns-clause-shape : goal.returns-clause-shape
returns-clause-shape c = shape_back

pub returns-clause-display : goal.returns-clause-display
returns-clause-display c = display_back

pub returns-clause-marked : goal.returns-clause-marked
returns-clause-marked c = marked_back

pub returns-clause-out : goal.returns-clause-out
returns-clause-out c = out_back

pub returns-clause-revolving : goal.returns-clause-revolving
returns-clause-revolving c = revolving_back

pub returns-clause-turnstile : goal.returns-clause-turnstile
returns-clause-turnstile c = turnstile_back

pub returns-clause-passage : goal.returns-clause-passage
returns-clause-passage c = passage_back

pub returns-clause-direction : goal.returns-clause-direction
returns-clause-direction c = direction_back

pub returns-clause-restricted : goal.returns-clause-restricted
returns-clause-restricted c = restricted_back

pub returns-clause-ordinal : goal.returns-clause-ordinal
returns-clause-ordinal c = λ row range. ordinal_back row.ordinal range.0 range.1

pub returns-clause-reference : goal.returns-clause-reference
returns-clause-reference c = ref_or_none_back

pub returns-clause-references : goal.returns-clause-references
returns-clause-references c = refs_back
