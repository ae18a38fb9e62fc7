use Rattle.std.proofs.Common.{◌≡◌, true, false, inl, inr, sym, ◌∙◌, arith}
use Rattle.venue_sockets.proofs.looks.is_ready.Goals as goal

-- fewer than 16,384 bytes behind which more may come are for a worker exactly where they are whole
pub returns : goal.returns
returns c = (
  (λ whole. inl (c.is_whole.ensures.0 whole)),
  (λ ready. elim ready [
    | inl whole ↦ c.is_whole.ensures.1 whole
    | inr rest ↦ elim rest [
      | inl long ↦ absurd (omega (arith, long, c.if-bytes-ge-MOST_SEEN.false))
      | inr ended ↦ absurd (let e : false ≡ true = sym c.if-ended.false ∙ ended in cc)
    ]
  ]),
)
