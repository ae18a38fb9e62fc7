use Rattle.std.proofs.Common.{◌≡◌, ◌∙◌, sym, ap, ℕ, ◌++◌, string_bytes, codes, decimal}
use Rattle.version_board.specs.Halls.{facts_of}
use Rattle.venue_commands.proofs.Spelling.{line_before}
use Rattle.venue_commands.proofs.building.summary_text.later_lines.Goals as goal

pub returns : goal.returns
returns c =
    let seen = (facts_of c.args.hall.now).seen in
    let found = c.legal_law.ensures seen c.number-number.ensures.legal in
    let v = found.0 in
    let ways = string_bytes c.in_ok-ways.ways in
    let number : c.number-number.result ≡ v.number = c.number-number.ensures.number ∙ sym (c.number_law.ensures seen v found.1) in (
      v,
      (
        found.1,
        record {
          ways = ways;
          ways_are = c.in_ok-ways.ensures v found.1;
          spelled = c.in_ok-text.ensures.ok ∙ ap (λ (n : ℕ). codes "version " ++ (decimal n ++ (codes "\n" ++ ways))) number ∙ line_before (codes "version ") (decimal v.number) ways;
        },
      ),
    )
