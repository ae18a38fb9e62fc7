-- The text finds the room that was counted for it.
use Rattle.std.proofs.Common.{◌∙◌, ap, map}
use Rattle.json_text.specs.Compact.{compact}
use Rattle.json_text.specs.Drafts.{onto}
use Rattle.imdf_write.specs.Folder.{collection}
use Rattle.imdf_write.proofs.Pieces.{measured, found_room}
use Rattle.imdf_write.proofs.file.collection_bytes.Goals as goal

pub whole_text-requires : goal.whole_text-requires
whole_text-requires g c =
    let text = compact (collection (map (g.R.Canonical.feature c.args.file) c.args.rows.now)) in
    let counted = c.append_collection.ensures ∙ ap (λ d. onto d text) c.counting-count.ensures in
    let written = c.append_collection-2.ensures ∙ ap (λ d. onto d text) c.in_ok-out.ensures.empty in
    found_room c.append_collection.new.out c.append_collection-2.new.out c.len.result text counted c.len.ensures written

pub returns : goal.returns
returns g c =
    let text = compact (collection (map (g.R.Canonical.feature c.args.file) c.args.rows.now)) in
    let counted = c.append_collection.ensures ∙ ap (λ d. onto d text) c.counting-count.ensures in
    let written = c.append_collection-2.ensures ∙ ap (λ d. onto d text) c.in_ok-out.ensures.empty in
    c.whole_text.ensures ∙ measured c.append_collection.new.out c.append_collection-2.new.out c.len.result text counted c.len.ensures c.in_ok-out.ensures.counted written
