-- A link's facts are those of its way and of both its ends.
use Rattle.std.proofs.Common.{Bool, ◌↔◌}
use Rattle.venue_types.specs.declared.kind.Kind.{Kind}
use Rattle.venue_types.specs.declared.link.Link.{Link}
use Rattle.venue_types.specs.declared.settings.Profile.{Profile}
use Rattle.imdf_access.specs.declared.parts.EndFacts.{EndFacts}
use Rattle.imdf_access.specs.Access.{IsAllowed}
use Rattle.imdf_access.specs.Parts.{MayGo, PassesFacts}
use Rattle.imdf_access.proofs.LinkParts.{first_asks, second_asks, either_asks, neither, first_neither, second_neither}
use Rattle.link_graph.specs.Networks.{Network, joined_facts, link_facts}

way_of : (profile : Profile) (kind : Kind) (barred : Bool) (from to : EndFacts) → IsAllowed profile (joined_facts kind barred from to) → MayGo profile kind barred
way_of profile kind barred from to h = record { kind_granted = h.kind; unit_granted = λ asked. h.restricted (first_asks _ _ asked) }

start_of : (profile : Profile) (kind : Kind) (barred : Bool) (from to : EndFacts) → IsAllowed profile (joined_facts kind barred from to) → PassesFacts profile from
start_of profile kind barred from to h = record {
  in_service = first_neither _ _ h.in_service;
  restricted = λ asked. h.restricted (second_asks _ _ (first_asks _ _ asked));
  revolving = λ asked. h.revolving (first_asks _ _ asked);
  turnstile = λ asked. h.turnstile (first_asks _ _ asked);
  marked = λ asked. h.marked (first_asks _ _ asked);
}

finish_of : (profile : Profile) (kind : Kind) (barred : Bool) (from to : EndFacts) → IsAllowed profile (joined_facts kind barred from to) → PassesFacts profile to
finish_of profile kind barred from to h = record {
  in_service = second_neither _ _ h.in_service;
  restricted = λ asked. h.restricted (second_asks _ _ (second_asks _ _ asked));
  revolving = λ asked. h.revolving (second_asks _ _ asked);
  turnstile = λ asked. h.turnstile (second_asks _ _ asked);
  marked = λ asked. h.marked (second_asks _ _ asked);
}

of_both : (profile : Profile) (kind : Kind) (barred : Bool) (from to : EndFacts) → MayGo profile kind barred → PassesFacts profile from → PassesFacts profile to → IsAllowed profile (joined_facts kind barred from to)
of_both profile kind barred from to way start finish = record {
  in_service = neither _ _ start.in_service finish.in_service;
  kind = way.kind_granted;
  restricted = either_asks _ _ way.unit_granted (either_asks _ _ start.restricted finish.restricted);
  revolving = either_asks _ _ start.revolving finish.revolving;
  turnstile = either_asks _ _ start.turnstile finish.turnstile;
  marked = either_asks _ _ start.marked finish.marked;
}

pub facts_by_parts : (given : Network) (profile : Profile) (link : Link) → IsAllowed profile (link_facts given link)
    ↔ MayGo profile link.kind (given.barred link.via) × PassesFacts profile (given.ends link.from) × PassesFacts profile (given.ends link.to)
unfolding link_facts
facts_by_parts given profile link =
    let kind = link.kind in
    let barred = given.barred link.via in
    let from = given.ends link.from in
    let to = given.ends link.to in (
      λ h. (way_of profile kind barred from to h, start_of profile kind barred from to h, finish_of profile kind barred from to h),
      λ h. of_both profile kind barred from to h.0 h.1 h.2,
    )
