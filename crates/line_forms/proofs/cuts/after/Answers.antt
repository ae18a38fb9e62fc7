use Rattle.std.proofs.lemmas.Slice.Eq.{strip_prefix_is}
use Rattle.std.proofs.lemmas.Bool.Decides.{Decides-eqb}
use Rattle.std.specs.Prelude.{MatchOption, IfSome, IfNone, Option, Some, None}
use Rattle.line_forms.proofs.cuts.after.Goals as goal

both_some : {X : Type 0} (o : Option X) (P : Type 0) (Q : X → Type 0) → MatchOption o P Q → IfSome o Q
both_some None P Q h = tt
both_some (Some x) P Q h = h

both_none : {X : Type 0} (o : Option X) (P : Type 0) (Q : X → Type 0) → MatchOption o P Q → IfNone o P
both_none None P Q h = h
both_none (Some x) P Q h = tt

pub returns-clause-found : goal.returns-clause-found
returns-clause-found c = both_some c.strip_prefix.result _ _ (strip_prefix_is Decides-eqb c.args.text.now c.args.front.now c.strip_prefix.result c.strip_prefix.ensures.cases)

pub returns-clause-none : goal.returns-clause-none
returns-clause-none c = both_none c.strip_prefix.result _ _ (strip_prefix_is Decides-eqb c.args.text.now c.args.front.now c.strip_prefix.result c.strip_prefix.ensures.cases)
