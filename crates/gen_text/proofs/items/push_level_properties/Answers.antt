use Rattle.std.proofs.Common.{◌≡◌, ◌++◌, ℤ, subst, codes, to_z, of_z, SFits, w16, ◌∙◌}
use Rattle.std.specs.Fmt.{signed_decimal}
use Rattle.std.proofs.lemmas.Int.{to_z-of_z}
use Rattle.gen_text.specs.Texts.{level_properties, ordinal}
use Rattle.gen_text.proofs.Pieces.{three}
use Rattle.gen_text.proofs.items.push_level_properties.Goals as goal

pub returns : goal.returns
unfolding level_properties
returns c =
    let fits : SFits w16 c.ordinal.result = record { sfits = c.ordinal.type_inv } in
    let same : to_z w16 (of_z w16 c.ordinal.result) ≡ ordinal c.args.level = to_z-of_z w16 c.ordinal.result fits ∙ c.ordinal.ensures in
    let number = subst (λ (z : ℤ). c.push_signed.new.out.items ≡ c.extend_from_slice.new.self.items ++ signed_decimal z) same c.in_ok-push_signed.ensures in
    three c.args.out.now.items (codes "{\"ordinal\":") (signed_decimal (ordinal c.args.level)) (codes "}") c.extend_from_slice.new.self.items c.push_signed.new.out.items
    c.extend_from_slice-2.new.self.items c.in_ok-extend_from_slice.ensures.items number c.in_ok-extend_from_slice-2.ensures.items
