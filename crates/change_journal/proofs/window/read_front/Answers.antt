-- The front of a buffer, read.
use Rattle.std.proofs.Common.{◌≡◌, ◌++◌, length, take, drop, ◌∙◌, ap, arith, length-take}
use Rattle.std.proofs.lemmas.List.{take_at}
use Rattle.std.proofs.lemmas.Result.{on_ok_weaker}
use Rattle.venue_ports.specs.Moments.{Now}
use Rattle.change_journal.proofs.Runs.{now_maps}
use Rattle.change_journal.proofs.window.read_front.Goals as goal

pub returns-clause-front : goal.returns-clause-front
returns-clause-front g c =
    let count = c.args.count in
    let buf = c.read.new.buf in
    let bytes = c.args.bytes.now in
    let size : length (take count bytes) ≡ count = omega (arith, c.requires.fits, length-take count bytes) in
    let long : length buf ≡ count = omega (arith, size) in
    let rest = drop count bytes in
    let old = g.K.Disk.moments c.args.disk.now in
    on_ok_weaker {Q = Now (λ m. take count (buf ++ rest) ≡ take count (drop c.args.place m.reads)) old} _
    (λ now. now_maps old (λ m is. take_at buf rest count long ∙ is ∙ ap (λ n. take n (drop c.args.place m.reads)) size) now) c.read.ensures.bytes
