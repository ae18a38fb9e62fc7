use Rattle.std.proofs.Common.{◌≡◌, [], ◌∷◌, ◌++◌, Option, refl, ap, ◌∙◌, inl, inr}
use Rattle.std.specs.Option.{option_to_list}
use Rattle.shared_hall.specs.Facts.{Facts}
use Rattle.venue_program.proofs.Hosting.{wrote_nothing}
use Rattle.venue_program.proofs.Seating.{first_seat, left_begins, log_of, one_alone}
use Rattle.venue_program.proofs.seat.serve_opened.Goals as goal

pub returns-then-is_err-clause-ends : goal.returns-then-is_err-clause-ends
returns-then-is_err-clause-ends g c =
    let closed = c.close_hall-folders in
    let h = closed.ensures.history in
    inr (record {
      memory = refl;
      nothing = (record { wrote = wrote_nothing _; faultless = refl });
      history = h.entries;
      begins = h.opened;
      kept = log_of _ _ _ _ _ (g.J.Log.length closed.result.log) h closed.ensures.length;
    })

pub returns-clause-ends : goal.returns-clause-ends
returns-clause-ends g c =
    let closed = c.close_hall-folders-2 in
    let h = closed.ensures.history in
    let p = c.in-Some.pass in
    let all = c.args.opened.passes.items in
    let taken : all ≡ c.pop.new.self.items ++ p ∷ [] = c.pop.ensures.items ∙ ap (λ (o : Option Facts). c.pop.new.self.items ++ option_to_list o) c.in-Some.is in
    let served = c.serve_session-end in
    inl (record {
      opening = c.sit-seat.result;
      first = first_seat g.N.HallName.folder_files g.N.HallName.opening all p c.sit-seat.result (one_alone all c.pop.new.self.items p taken c.requires.one) c.requires.new c.requires.numbered
          c.sit-seat.ensures c.shelf_law.ensures;
      closing = served.new.hall;
      end = served.result;
      session = served.ensures.session;
      prompt = served.ensures.prompt;
      hall = served.ensures.hall;
      history = h.entries;
      begins = left_begins _ _ _ c.leave.result served.new.hall _ _ _ h c.push_reserved.ensures.items c.leave.ensures;
      kept = log_of _ _ _ _ _ (g.J.Log.length closed.result.log) h closed.ensures.length;
      ended = c.status_of.ensures;
    })
