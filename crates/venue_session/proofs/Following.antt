-- What was acted on stays so, whatever bytes follow.
use Rattle.std.proofs.Common.{ℕ, ◌≤◌, Bool, List, [], ◌∷◌, ◌++◌, length, drop, sym, ap, subst}
use Rattle.std.proofs.lemmas.List.{drop-append-le}
use Rattle.venue_hall.specs.Facts.{Facts}
use Rattle.venue_wire.specs.Messages.{At}
use Rattle.venue_wire.specs.declared.messages.Message.{Message}
use Rattle.venue_wire.specs.declared.messages.Taken.{Taken}
use Rattle.venue_session.specs.Acting.{Acted, Acts}

module _
    (stays : (keys : List (List ℕ)) (bytes more : List ℕ) (m : Message) (size : ℕ) (close : Bool)
    → At keys bytes (Taken.Message m size close) → At keys (bytes ++ more) (Taken.Message m size close))
    (within : (keys : List (List ℕ)) (bytes : List ℕ) (m : Message) (size : ℕ) (close : Bool)
    → At keys bytes (Taken.Message m size close) → size ≤ length bytes) where
  pub acts_more : (keys : List (List ℕ)) (old new : Facts) (bytes out rest more : List ℕ) (ms : List Acted)
      → Acts keys old bytes ms out new rest → Acts keys old (bytes ++ more) ms out new (rest ++ more)
  acts_more keys old new bytes out rest more [] (same, none, left) = (same, none, ap (λ (b : List ℕ). b ++ more) left)
  acts_more keys old new bytes out rest more (m ∷ ms) (via, texts, one, goes, text, later) =
      let fits = within keys bytes m.message m.length m.close one.stands in (
        via,
        texts,
        record { stands = stays keys bytes more m.message m.length m.close one.stands; step = one.step },
        goes,
        text,
        subst (λ (b : List ℕ). Acts keys via b ms texts new (rest ++ more)) (sym (drop-append-le m.length bytes more fits))
            (acts_more keys via new (drop m.length bytes) texts rest more ms later),
      )
