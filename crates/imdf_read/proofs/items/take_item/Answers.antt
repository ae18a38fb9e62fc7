use Rattle.exact_json.specs.View.{tree_view}
use Rattle.imdf_read.proofs.ItemLists.{sound_feature, sound_figure}
use Rattle.imdf_read.proofs.items.take_item.Goals as goal

pub returns-clause-rows : goal.returns-clause-rows
returns-clause-rows g c = λ items zip texts sound.
    let item = tree_view c.args.item.now in
    c.in_ok-take_row.ensures items zip texts (sound_feature c.args.place.file c.args.place.index item sound)
    (c.requires.serves item c.in_ok-figure.field-0.figure
    (sound_figure c.args.place.file c.args.place.index item c.in_ok-figure.field-0 c.in_ok-figure.ensures.judged sound))
