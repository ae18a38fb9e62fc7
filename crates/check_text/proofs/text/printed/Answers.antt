use Rattle.std.proofs.Common.{ℕ, ◌∙◌, ap, take}
use Rattle.std.proofs.lemmas.List.{take_min}
use Rattle.check_text.proofs.text.printed.Goals as goal

pub returns : goal.returns
returns g c = ap (λ (n : ℕ). take n c.args.items.now) c.min.ensures ∙ take_min 500 c.args.items.now
