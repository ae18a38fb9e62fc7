use Rattle.std.proofs.Common.{[], ◌∷◌}
use Rattle.plane_exact.proofs.LookLemmas.{chain_start, chain_look, chain_whole, fits_left, fits_step, fits_later}
use Rattle.plane_exact.proofs.sights.look_at_chain.Goals as goal

pub look_at_point-look-requires : goal.look_at_point-look-requires
look_at_point-look-requires c = fits_left c.args.way (c.args.start ∷ []) c.args.rest.now c.requires

pub look_at_step-requires : goal.look_at_step-requires
look_at_step-requires c = fits_step c.args.way c.loop-b.a c.args.rest.now c.loop-b.b-index _ c.loop-b-test.true c.loop-b.invariant.fits

pub loop-b-init : goal.loop-b-init
loop-b-init c = record { fits = c.requires; told = chain_start c.args.way c.args.start c.args.rest.now _ c.look_at_point-look.ensures }

pub loop-b-preserved : goal.loop-b-preserved
loop-b-preserved c = record {
  fits = fits_later c.args.way c.loop-b.a c.args.rest.now c.loop-b.b-index _ c.loop-b-test.true c.loop-b.invariant.fits;
  told = chain_look c.args.way c.loop-b.a c.args.rest.now c.loop-b.b-index _ c.loop-b.look _ _ _ c.loop-b-test.true c.look_at_step.ensures c.joined-look.ensures c.loop-b.invariant.told;
}

pub returns : goal.returns
returns c = chain_whole c.args.way c.loop-b.a c.args.rest.now c.loop-b.b-index c.loop-b.look _ c.loop-b-test.false c.loop-b.invariant.told
