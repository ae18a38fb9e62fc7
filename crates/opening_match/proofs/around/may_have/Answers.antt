use Rattle.std.proofs.Common.{◌∙◌, pos, get_or, sym, true≢false}
use Rattle.opening_match.specs.declared.extents.Extent.{Extent}
use Rattle.opening_match.proofs.Gathering.{has_its_level}
use Rattle.opening_match.proofs.Growing.{tree_round}
use Rattle.opening_match.proofs.around.may_have.Goals as goal

pub returns-then-has_level : goal.returns-then-has_level
returns-then-has_level c = λ e edge own level has at.
    let none : Extent = record { least = record { 0 = 0 }; greatest = record { 0 = 0 }; west = pos 0; east = pos 0; south = pos 0; north = pos 0 } in
    let branch = c.args.branch in
    let round = tree_round branch.depth branch.extents.now none branch.entries.now c.in-len1-up.len_at_least c.requires.sound in
    c.some_comes_near.ensures e edge (round e own).box has at

pub returns-else-has_level : goal.returns-else-has_level
returns-else-has_level c = λ e edge own level has at.
    let none : Extent = record { least = record { 0 = 0 }; greatest = record { 0 = 0 }; west = pos 0; east = pos 0; south = pos 0; north = pos 0 } in
    let branch = c.args.branch in
    let extent = get_or branch.extents.now 0 none in
    let round = tree_round branch.depth branch.extents.now none branch.entries.now c.in-len1-up.len_at_least c.requires.sound in
    absurd (true≢false (sym (c.has_level.ensures.1 (has_its_level extent e c.args.sought.now.level level (round e own))) ∙ c.if-has_level.false))
