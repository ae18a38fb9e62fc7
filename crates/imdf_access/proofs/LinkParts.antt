-- What is asked by one of several, and the parts of a link.
use Rattle.std.proofs.Common.{◌≡◌, Bool, true, false, ◌||◌, ◌↔◌, IsTrue, Option, refl, arith}
use Rattle.venue_types.specs.declared.features.UnitRow.{UnitRow}
use Rattle.venue_types.specs.declared.kind.Kind.{Kind}
use Rattle.venue_types.specs.declared.settings.Profile.{Profile}
use Rattle.imdf_access.specs.Access.{End, unit, opening, elsewhere, IsAllowed, facts_of}
use Rattle.imdf_access.specs.Parts.{PassesWay, PassesEnd, PassesFacts, end_facts}

-- what asks in the first place, or in the second
pub first_asks : (a b : Bool) → IsTrue a → IsTrue (a || b)
first_asks true b h = refl
first_asks false b h = absurd (cc)

pub second_asks : (a b : Bool) → IsTrue b → IsTrue (a || b)
second_asks true b h = refl
second_asks false b h = h

pub either_asks : {P : Type 0} (a b : Bool) → (IsTrue a → P) → (IsTrue b → P) → IsTrue (a || b) → P
either_asks true b f g h = f refl
either_asks false b f g h = g h

-- neither holds where one of them doesn't
pub neither : (a b : Bool) → a ≡ false → b ≡ false → (a || b) ≡ false
neither true b e f = e
neither false b e f = f

pub first_neither : (a b : Bool) → (a || b) ≡ false → a ≡ false
first_neither true b e = e
first_neither false b e = refl

pub second_neither : (a b : Bool) → (a || b) ≡ false → b ≡ false
second_neither true b e = absurd (cc)
second_neither false b e = e

-- an end is passed by what holds of it
pub end_by_facts : (profile : Profile) (end : End) → PassesFacts profile (end_facts end) ↔ PassesEnd profile end
end_by_facts profile (unit row) = search (arith)
end_by_facts profile (opening row) = search (arith)
end_by_facts profile elsewhere = search (arith)

pub way_of_link : (profile : Profile) (kind : Kind) (via : Option UnitRow) (from to : End) → IsAllowed profile (facts_of kind via from to) → PassesWay profile kind via
way_of_link profile kind via from to h = record { kind_granted = h.kind; unit_granted = λ asked. h.restricted (first_asks _ _ asked) }

pub start_of_link : (profile : Profile) (kind : Kind) (via : Option UnitRow) (from to : End) → IsAllowed profile (facts_of kind via from to) → PassesFacts profile (end_facts from)
start_of_link profile kind via from to h = record {
  in_service = first_neither _ _ h.in_service;
  restricted = λ asked. h.restricted (second_asks _ _ (first_asks _ _ asked));
  revolving = λ asked. h.revolving (first_asks _ _ asked);
  turnstile = λ asked. h.turnstile (first_asks _ _ asked);
  marked = λ asked. h.marked (first_asks _ _ asked);
}

pub end_of_link : (profile : Profile) (kind : Kind) (via : Option UnitRow) (from to : End) → IsAllowed profile (facts_of kind via from to) → PassesFacts profile (end_facts to)
end_of_link profile kind via from to h = record {
  in_service = second_neither _ _ h.in_service;
  restricted = λ asked. h.restricted (second_asks _ _ (second_asks _ _ asked));
  revolving = λ asked. h.revolving (second_asks _ _ asked);
  turnstile = λ asked. h.turnstile (second_asks _ _ asked);
  marked = λ asked. h.marked (second_asks _ _ asked);
}

pub link_of_parts : (profile : Profile) (kind : Kind) (via : Option UnitRow) (from to : End) → PassesWay profile kind via → PassesFacts profile (end_facts from) → PassesFacts profile (end_facts to) → IsAllowed profile (facts_of kind via from to)
link_of_parts profile kind via from to way start end = record {
  in_service = neither _ _ start.in_service end.in_service;
  kind = way.kind_granted;
  restricted = either_asks _ _ way.unit_granted (either_asks _ _ start.restricted end.restricted);
  revolving = either_asks _ _ start.revolving end.revolving;
  turnstile = either_asks _ _ start.turnstile end.turnstile;
  marked = either_asks _ _ start.marked end.marked;
}

pub parts : (profile : Profile) (kind : Kind) (via : Option UnitRow) (from to : End) → IsAllowed profile (facts_of kind via from to) ↔ PassesWay profile kind via × PassesEnd profile from × PassesEnd profile to
parts profile kind via from to = (
  λ h. (way_of_link profile kind via from to h, (end_by_facts profile from).0 (start_of_link profile kind via from to h), (end_by_facts profile to).0 (end_of_link profile kind via from to h)),
  λ (way, start, end). link_of_parts profile kind via from to way ((end_by_facts profile from).1 start) ((end_by_facts profile to).1 end),
)
