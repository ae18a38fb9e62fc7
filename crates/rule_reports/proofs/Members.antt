-- What stands in a list of few items, and in one with one item more at its front.
pub use Rattle.venue_types.proofs.Items.{Contains-nil, Contains-only, Contains-first, Contains-later, Contains-cons_cases}
