use Rattle.line_forms.proofs.ListLemmas.{one_front}
use Rattle.line_forms.proofs.laws.front_law.Goals as goal

pub returns : goal.returns
returns g c = one_front g.S.Spelled.spelling g.S.Spelled.fits
