use Rattle.std.proofs.Common.{◌≡◌, ◌++◌, ℕ, List, take, ap, ◌∙◌}
use Rattle.venue_ports.specs.Begun.{Begun, noted_starts}
use Rattle.venue_ports.specs.Plans.{Held}
use Rattle.venue_ports.proofs.Beginnings.{starts_stay}
use Rattle.venue_ports.proofs.output.Output.append.Goals as goal

pub returns-clause-starts : goal.returns-clause-starts
returns-clause-starts c =
    ap (λ (h : Held). noted_starts c.self.inside.ended c.self.inside.notes.items h.bytes) c.append.ensures.appended
    ∙ starts_stay c.self.inside.ended c.self.inside.notes.items c.self.inside.bytes.bytes _ c.self.invariant.1
    ∙ ap (λ (b : Begun). b.starts) c.self.view_is
