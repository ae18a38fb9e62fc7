use Rattle.std.proofs.Common.{◌≡◌, ℕ, List, length, ap, ◌∙◌, arith}
use Rattle.venue_types.specs.declared.files.Slot.TheVariants.{Held}
use Rattle.gen_text.proofs.FileLemmas.{file_ended}
use Rattle.gen_text.proofs.files.ended_file.Goals as goal

pub returns : goal.returns
returns c = λ item items whole.
    let long : c.args.text.len ≡ length c.args.text.items = omega (arith, c.args.text.ok) in
    let bytes = file_ended c.args.text.items c.pop-comma.new.self.items c.extend_from_slice.new.self.items item items c.args.text.len long c.pop-comma.ensures.rest
    c.in_ok-extend_from_slice.ensures.items whole in
    ap (λ (xs : List ℕ). Held xs) (c.from_vec.ensures ∙ bytes)
