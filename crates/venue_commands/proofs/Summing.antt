-- The lines of a building, put together.
use Rattle.std.proofs.Common.{◌≡◌, ◌∙◌, ap, subst, ℕ, List, ◌++◌, codes, decimal}
use Rattle.line_forms.specs.Lines.{line}
use Rattle.version_board.specs.Venues.{SeenVenue as Venue}
use Rattle.version_board.specs.Closed.{Version}
use Rattle.version_board.specs.Histories.{opening_of}
use Rattle.venue_commands.specs.BuildingReports.{IsWayLine, IsBehindClosing, IsSummary, first_room, last_room, lowest_lift}
use Rattle.venue_commands.specs.Costs.{size_lines, AreLaterLines, AreActLines}
use Rattle.venue_commands.proofs.Spelling.{five_parts}

pub acted : (levels start finish lift : ℕ) (v w : Version) (before behind text : List ℕ) → start ≡ first_room levels → finish ≡ last_room levels → lift ≡ lowest_lift levels
    → IsBehindClosing lift v w → IsWayLine v (codes "wheelchair") start finish before → AreLaterLines w start finish behind → text ≡ before ++ behind
    → AreActLines levels v text
acted levels start finish lift v w before behind text is_start is_finish is_lift closing before_is behind_are spelled =
    let by_start = subst (λ (n : ℕ). IsWayLine v (codes "wheelchair") n finish before) is_start before_is in
    let later_start = subst (λ (n : ℕ). AreLaterLines w n finish behind) is_start behind_are in
    record {
      later = w;
      closing = subst (λ (n : ℕ). IsBehindClosing n v w) is_lift closing;
      before = before;
      before_is = subst (λ (n : ℕ). IsWayLine v (codes "wheelchair") (first_room levels) n before) is_finish by_start;
      behind = behind;
      behind_are = subst (λ (n : ℕ). AreLaterLines w (first_room levels) n behind) is_finish later_start;
      spelled = spelled;
    }

pub summed : (levels : ℕ) (venue : Venue) (size acts text : List ℕ) → size ≡ size_lines venue → AreActLines levels (opening_of venue) acts → text ≡ size ++ acts
    → IsSummary levels venue text
summed levels venue size acts text is_size are spelled =
    let version = line (codes "version " ++ decimal are.later.number) in
    let both = are.behind_are.ways_are in
    let at : acts ≡ are.before ++ (version ++ (both.rolling ++ both.walking)) =
    are.spelled ∙ ap (λ (x : List ℕ). are.before ++ x) (are.behind_are.spelled ∙ ap (λ (x : List ℕ). version ++ x) both.spelled) in
    record {
      later = are.later;
      closing = are.closing;
      before = are.before;
      before_is = are.before_is;
      behind = both.rolling;
      behind_is = both.rolling_is;
      on_foot = both.walking;
      on_foot_is = both.walking_is;
      spelled = spelled ∙ ap (λ (x : List ℕ). x ++ acts) is_size ∙ ap (λ (x : List ℕ). size_lines venue ++ x) at
          ∙ five_parts (size_lines venue) are.before version both.rolling both.walking;
    }
