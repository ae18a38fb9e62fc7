use Rattle.std.proofs.Common.{◌≡◌, ◌==◌, ℕ, not, length, sym, ap, ◌∙◌}
use Rattle.std.proofs.lemmas.Result.{IfOk-weaker}
use Rattle.plane_exact.specs.Figure.{vertices}
use Rattle.plane_exact.specs.Scaled.{scaled}
use Rattle.unit_sight.specs.Tables.{table_of}
use Rattle.unit_sight.specs.Rooms.{joined_places, sees_in}
use Rattle.unit_sight.specs.Finding.{all_asked, is_empty_row}
use Rattle.unit_sight.proofs.RoomLemmas.{lengths_fit}
use Rattle.unit_sight.proofs.GuestLemmas.{blind_list, all_blind, some_see, none_sees, rows_of, size_is}
use Rattle.unit_sight.proofs.finding.joined_bits.Goals as goal

pub returns-then-are_all : goal.returns-then-are_all
returns-then-are_all c =
    λ far lengths.
    let n = length c.args.spots.now in
    let sees = sees_in c.args.shape.now c.args.spots.now c.args.t in
    let size : c.size.result ≡ n = c.size.ensures.size ∙ size_is n (all_asked sees) c.in_ok-bits.bits c.in_ok-bits.ensures in
    let list = blind_list sees n c.in_ok-bits.bits c.as_slice.result.now c.in_ok-bits.ensures (c.as_slice.ensures.value ∙ c.in_ok-blind.ensures) in
    let blind = sym (all_blind sees n c.as_slice.result.now c.are_all.result c.are_all.ensures list) ∙ c.if-are_all.true in
    IfOk-weaker c.whole_bits.result (λ bits. bits ≡ table_of c.size.result (λ i j. not (i == j))) (λ bits. bits ≡ joined_places c.args.shape.now c.args.spots.now c.args.t far)
    (λ bits told. told ∙ ap (λ (k : ℕ). table_of k (λ i j. not (i == j))) size ∙ none_sees sees far n blind)
    c.whole_bits.ensures

pub join_guests-requires-clause-fits : goal.join_guests-requires-clause-fits
join_guests-requires-clause-fits c = lengths_fit c.args.spots.now (vertices (scaled 4 c.args.shape.now)) c.args.kx c.args.ky c.requires.near c.requires.few c.requires.kx_range c.requires.ky_range

pub join_guests-requires-clause-blind : goal.join_guests-requires-clause-blind
join_guests-requires-clause-blind c =
    let size = size_is (length c.args.spots.now) (all_asked (sees_in c.args.shape.now c.args.spots.now c.args.t)) c.in_ok-bits.bits c.in_ok-bits.ensures in
    rows_of (is_empty_row c.in_ok-bits.bits) (length c.in_ok-bits.bits) (length c.args.spots.now) c.as_slice-2.result.now (c.as_slice-2.ensures.value ∙ c.in_ok-blind.ensures) size

pub join_guests-requires-clause-size : goal.join_guests-requires-clause-size
join_guests-requires-clause-size c = size_is (length c.args.spots.now) (all_asked (sees_in c.args.shape.now c.args.spots.now c.args.t)) c.in_ok-bits.bits c.in_ok-bits.ensures

pub returns : goal.returns
returns c =
    λ far lengths.
    let n = length c.args.spots.now in
    let sees = sees_in c.args.shape.now c.args.spots.now c.args.t in
    let list = blind_list sees n c.in_ok-bits.bits c.as_slice.result.now c.in_ok-bits.ensures (c.as_slice.ensures.value ∙ c.in_ok-blind.ensures) in
    let lent = blind_list sees n c.in_ok-bits.bits c.as_slice-2.result.now c.in_ok-bits.ensures (c.as_slice-2.ensures.value ∙ c.in_ok-blind.ensures) in
    let blind = sym (all_blind sees n c.as_slice.result.now c.are_all.result c.are_all.ensures list) ∙ c.if-are_all.false in
    c.join_guests.ensures sees (all_asked sees) far lengths lent c.in_ok-bits.ensures ∙ some_see sees far n blind
