use Rattle.std.proofs.Common.{sym, subst}
use Rattle.exact_json.specs.Grammar.{Padded, Spells}
use Rattle.std.specs.Str.{IsUtf8}
use Rattle.json_text.specs.Compact.{compact}
use Rattle.json_text.proofs.Spelling.{padded, spells}
use Rattle.json_text.proofs.Utf8.{compact_utf8, compact_bare}
use Rattle.json_text.proofs.laws.compact_law.Goals as goal

pub returns : goal.returns
returns c = λ v numbers texts. (
  subst IsUtf8 (sym (compact_bare v numbers)) (compact_utf8 v numbers texts),
  subst (Padded (Spells v)) (sym (compact_bare v numbers)) (padded (Spells v) (compact v) (spells v numbers)),
)
