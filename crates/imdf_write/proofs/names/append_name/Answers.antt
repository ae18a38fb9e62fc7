-- The labels stand between braces, with commas between them.
use Rattle.std.proofs.Common.{[], ◌∷◌, ◌++◌}
use Rattle.json_text.specs.Compact.{quoted, more_pairs}
use Rattle.imdf_write.specs.Values.{label_pairs}
use Rattle.imdf_write.proofs.Pieces.{enclosed}
use Rattle.imdf_write.proofs.names.append_name.Goals as goal

pub returns-in-Some : goal.returns-in-Some
returns-in-Some c =
    let first = c.in-Some.first.now in
    rw (c.in-Some.ensures.cases.0, c.push-in-Some.ensures, c.append_more_labels.ensures, c.append_label.ensures, c.push.ensures)
    (enclosed c.args.out.now 123 (quoted first.tag ++ 58 ∷ quoted first.text) (more_pairs (label_pairs c.in-Some.others.now)) (125 ∷ []))
