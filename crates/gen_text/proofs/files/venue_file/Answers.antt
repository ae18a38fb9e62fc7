use Rattle.std.proofs.Common.{◌≡◌, [], ◌∷◌, ◌++◌, append-nil, refl, arith}
use Rattle.gen_text.specs.Ended.{ended, with_comma}
use Rattle.gen_text.specs.Texts.{collection_front, venue_item}
use Rattle.gen_text.proofs.FileLemmas.{end_of}
use Rattle.gen_text.proofs.files.venue_file.Goals as goal

pub returns : goal.returns
returns c =
    let whole : c.push_venue.new.out.items ≡ collection_front ++ ended (venue_item c.args.levels ∷ []) = rw (append-nil (with_comma (venue_item c.args.levels)), c.in_ok-push_venue.ensures, c.in_ok-out.ensures) refl in
    end_of c.push_venue.new.out.items (venue_item c.args.levels ∷ []) c.ended_file.result c.ended_file.ensures whole (omega arith)
