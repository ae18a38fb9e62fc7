use Rattle.std.proofs.Common.{arith}
use Rattle.std.proofs.lemmas.Option.{slice_get_within}
use Rattle.link_graph.proofs.LeadingReads.{passage_read, passage_is}
use Rattle.link_graph.proofs.leads.passage.Goals as goal

pub index-requires-2 : goal.index-requires-2
index-requires-2 c =
    let core = c.args.core.now in
    let read = passage_read core c.args.n c.args.k c.index.result.now c.as_slice.result.now c.requires.sound c.requires.k c.index.ensures c.as_slice.ensures in
    omega (arith, slice_get_within core.passages.items _ read.link read.there, core.passages.ok.0)

pub returns : goal.returns
returns c =
    let core = c.args.core.now in
    let read = passage_read core c.args.n c.args.k c.index.result.now c.as_slice.result.now c.requires.sound c.requires.k c.index.ensures c.as_slice.ensures in
    passage_is core c.args.n c.args.k _ c.index-2.result.now read c.index-2.ensures
