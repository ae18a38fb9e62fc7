-- The laws of pieces that are added, as their lemmas have them.
use Rattle.json_text.proofs.Drafts.{onto_twice, onto_nothing}
use Rattle.json_text.proofs.laws.onto_law.Goals as goal

pub returns-clause-twice : goal.returns-clause-twice
returns-clause-twice c = λ d s t. onto_twice d s t

pub returns-clause-nothing : goal.returns-clause-nothing
returns-clause-nothing c = λ d. onto_nothing d
