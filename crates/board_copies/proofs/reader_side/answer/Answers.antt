use Rattle.std.proofs.Common.{◌∙◌}
use Rattle.board_copies.specs.Stamps.{entries_of}
use Rattle.board_copies.proofs.reader_side.answer.Goals as goal

pub returns : goal.returns
returns c =
    let held = c.args.held.now in
    record {
      version = held.board;
      leads = held.stands;
      number_is = c.number.ensures ∙ c.number_law.ensures (entries_of held.stamp) held.board held.stands;
      answers = c.ask.ensures;
    }
