use Rattle.gen_text.specs.Texts.{collection_front}
use Rattle.gen_text.proofs.files.begun.Goals as goal

pub returns : goal.returns
unfolding collection_front
returns c = simp (c.in_ok-extend_from_slice.ensures.items, c.in_ok-out.ensures.items)
