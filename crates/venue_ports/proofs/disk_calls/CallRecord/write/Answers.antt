use Rattle.std.proofs.Common.{◌≡◌, ◌+◌, ◌≤◌, ◌∷◌, ◌++◌, [], ℕ, List, length, take, arith, length-take, length-append, take-append-drop, sym, ap, subst, ◌∙◌}
use Rattle.std.proofs.lemmas.Grind.{common_steps}
use Rattle.venue_ports.specs.DiskCalls.{DiskRecord, IsKept, record_of, bytes_left, is_full, noted_moments, record_moments}
use Rattle.venue_ports.specs.Moments.{Now, with_piece}
use Rattle.venue_ports.specs.Plans.{Held}
use Rattle.venue_ports.proofs.CallLemmas.{all_appended, kept_appended, moments_appended, of_content}
use Rattle.venue_ports.proofs.disk_calls.CallRecord.write.Goals as goal

pub put-requires-clause-within : goal.put-requires-clause-within
put-requires-clause-within c =
    of_content (λ (l : List ℕ). c.args.call.at ≤ length l) _ _ c.self.invariant.3 (ap is_full c.self.view_is ∙ sym c.is_full.ensures.exact ∙ c.if-is_full.false)
    (subst (λ (r : DiskRecord). Now (λ m. c.args.call.at ≤ length m.reads) (record_moments r)) (sym c.self.view_is) c.requires.within)

pub put-requires-clause-fits : goal.put-requires-clause-fits
put-requires-clause-fits c =
    let within : c.args.call.at ≤ length c.self.inside.reads.bytes =
    of_content (λ (l : List ℕ). c.args.call.at ≤ length l) _ _ c.self.invariant.3 (ap is_full c.self.view_is ∙ sym c.is_full.ensures.exact ∙ c.if-is_full.false)
    (subst (λ (r : DiskRecord). Now (λ m. c.args.call.at ≤ length m.reads) (record_moments r)) (sym c.self.view_is) c.requires.within) in
    let fits = subst (λ (r : DiskRecord). c.args.call.put ≤ bytes_left r) (sym c.self.view_is) c.requires.fits in
    let size : length (take c.args.call.put c.args.piece.now) ≤ c.args.call.put = omega (arith, length-take c.args.call.put c.args.piece.now) in
    omega (arith, within, fits, size, c.self.invariant.1, c.self.invariant.3.room, c.self.invariant.3.fits)

pub invariant_of-self-2 : goal.invariant_of-self-2
invariant_of-self-2 c =
    let x = take c.args.call.put c.args.piece.now in
    let within : c.args.call.at ≤ length c.self.inside.reads.bytes =
    of_content (λ (l : List ℕ). c.args.call.at ≤ length l) _ _ c.self.invariant.3 (ap is_full c.self.view_is ∙ sym c.is_full.ensures.exact ∙ c.if-is_full.false)
    (subst (λ (r : DiskRecord). Now (λ m. c.args.call.at ≤ length m.reads) (record_moments r)) (sym c.self.view_is) c.requires.within) in
    let fits = subst (λ (r : DiskRecord). c.args.call.put ≤ bytes_left r) (sym c.self.view_is) c.requires.fits in
    let size : c.args.call.put ≡ length x = omega (arith, length-take c.args.call.put c.args.piece.now, c.requires.put) in
    let pushed : c.push.new.self.items ≡ c.self.inside.calls.items ++ c.args.call ∷ [] = grind (arith, common_steps) in
    let whole = all_appended c.self.inside.first c.self.inside.bytes x c.append.result c.append.ensures.moved (omega (arith, size, fits)) in
    let appended = c.append.ensures.appended ∙ ap (λ (l : List ℕ). record c.self.inside.bytes { bytes = c.self.inside.bytes.bytes ++ l }) whole in
    let longer : length c.append.new.self.bytes ≡ length c.self.inside.bytes.bytes + length x = ap (λ (h : Held). length h.bytes) appended ∙ length-append c.self.inside.bytes.bytes x in
    let rooms = ap (λ (h : Held). h.room) appended in
    let put_room = ap (λ (h : Held). h.room) c.put.ensures in
    let kept = kept_appended c.self.inside.first c.self.inside.most c.self.inside.bytes c.append.new.self c.self.inside.calls.items c.push.new.self.items c.self.inside.ended c.self.inside.reads.bytes c.args.call x
    c.self.invariant.0 appended c.self.invariant.3 pushed size c.requires.write within (omega (arith, size, fits)) in (
      omega (arith, longer, c.self.invariant.0),
      put_room ∙ c.self.invariant.1 ∙ sym rooms,
      omega arith,
      subst (λ (l : List ℕ). IsKept (record_of c.self.inside.first c.append.new.self c.push.new.self.items c.self.inside.most c.self.inside.ended) l) (sym (ap (λ (h : Held). h.bytes) c.put.ensures)) kept,
    )

pub returns-clause-moments : goal.returns-clause-moments
returns-clause-moments c =
    let x = take c.args.call.put c.args.piece.now in
    let fits = subst (λ (r : DiskRecord). c.args.call.put ≤ bytes_left r) (sym c.self.view_is) c.requires.fits in
    let size : c.args.call.put ≡ length x = omega (arith, length-take c.args.call.put c.args.piece.now, c.requires.put) in
    let pushed : c.push.new.self.items ≡ c.self.inside.calls.items ++ c.args.call ∷ [] = grind (arith, common_steps) in
    let whole = all_appended c.self.inside.first c.self.inside.bytes x c.append.result c.append.ensures.moved (omega (arith, size, fits)) in
    let appended = c.append.ensures.appended ∙ ap (λ (l : List ℕ). record c.self.inside.bytes { bytes = c.self.inside.bytes.bytes ++ l }) whole in
    moments_appended c.self.inside.first c.self.inside.most c.self.inside.bytes c.append.new.self c.self.inside.calls.items c.push.new.self.items c.self.inside.ended c.self.inside.reads.bytes c.args.call x
    c.self.invariant.0 appended c.self.invariant.3 pushed size (ap is_full c.self.view_is ∙ sym c.is_full.ensures.exact ∙ c.if-is_full.false)
    ∙ ap (noted_moments c.args.call x) c.self.view_is
