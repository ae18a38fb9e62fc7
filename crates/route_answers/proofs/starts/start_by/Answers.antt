use Rattle.std.proofs.Common.{◌≡◌, ◌<◌, ◌≤◌, List, length, get_or, ap, refl, ⊎_elim, arith}
use Rattle.std.proofs.lemmas.Bool.{cases_lt}
use Rattle.std.proofs.lemmas.Option.{slice_get_read, get_or_from_slice_get}
use Rattle.route_answers.specs.declared.starts.AreaStart.{AreaStart}
use Rattle.route_answers.proofs.starts.start_by.Goals as goal

pub returns-else-start-via : goal.returns-else-start-via
returns-else-start-via c = λ k d within same.
    let starts : List AreaStart = c.args.starts.now in
    let at = c.lesser_count.result in
    let start : AreaStart = c.in_ok-start.start.now in
    let lookup = c.in_ok-start.ensures.lookup in
    let here : at < length starts = lookup.3.0 in
    let read : (get_or starts at d).via ≡ start.via = ap (λ (s : AreaStart). s.via) (get_or_from_slice_get starts at start d (slice_get_read starts (length starts) at start refl here lookup.1)) in
    let front = c.lesser_count.ensures in
    ⊎_elim
    (λ (before : k < at). let less = front.less k d before in omega (arith, less, same))
    (λ (behind : at ≤ k).
    let more = front.rest at d (omega arith) here in
    let rest = c.requires at k d behind within in
    c.if-start-via.false (omega (arith, read, more, rest, same)))
    (cases_lt k at)
