-- The nearest over links that stand for others, and what a reply tells of them.
use Rattle.std.proofs.Common.{◌≡◌, ◌∙◌, ℕ, List, [], ◌∷◌, length, map, Option, Some, None, refl, ap}
use Rattle.std.specs.Prelude.{IfSome}
use Rattle.venue_types.specs.declared.link.Link.{Link}
use Rattle.venue_types.specs.declared.query.Ask.TheVariants as ask
use Rattle.venue_types.specs.declared.reply.NearRow.{NearRow}
use Rattle.venue_types.specs.declared.reply.NearTold.{NearTold}
use Rattle.venue_types.specs.declared.reply.Reply.TheVariants as reply
use Rattle.venue_types.specs.declared.settings.Profile.{Profile}
use Rattle.venue_types.specs.Nearest.{Nearest}
use Rattle.walk_laws.specs.Walks.{IsLeast, HasWalk}
use Rattle.nearest_laws.specs.Nearest.{AreReached}
use Rattle.nearest_place.specs.declared.near.Near.{Near}
use Rattle.nearest_place.specs.declared.near.NearWalk.{NearWalk}
use Rattle.nearest_place.specs.Near.{IsNear, row_of}
use Rattle.route_search.specs.Views.{link_view}
use Rattle.venue_history.specs.Answers.{AnswersAsk}
use Rattle.venue_history.specs.Closed.{Version}
use Rattle.venue_history.specs.Nearest.{AreCandidates, IsNearTrip, near_row_of}
use Rattle.venue_history.specs.Ways.{Usable}
use Rattle.venue_history.specs.Nodes.{nodes}
use Rattle.venue_state.specs.Nearing.{TellsNear, told_row}
use Rattle.venue_state.proofs.Routes.{walk_over}

least_over : (P Q : Link → Type 0) → ((link : Link) → P link → Q link) → ((link : Link) → Q link → P link) → (a b : ℕ) (walk : List Link) (cost : ℕ)
    → IsLeast link_view P a b walk cost → IsLeast link_view Q a b walk cost
least_over P Q there back a b walk cost r = record {
  leads = walk_over P Q there walk a b r.leads;
  costs = r.costs;
  least = λ other w. r.least other (walk_over Q P back other a b w);
}

reached_over : (P Q : Link → Type 0) → ((link : Link) → P link → Q link) → ((link : Link) → Q link → P link) → (a : ℕ) (reached : Option (List ℕ))
    → IfSome reached (AreReached link_view P a) → IfSome reached (AreReached link_view Q a)
reached_over P Q there back a None r = tt
reached_over P Q there back a (Some nodes) r = record {
  exact = λ n. (
    (λ has. let walk = (r.exact n).0 has in (walk.0, walk_over P Q there walk.0 a n walk.1)),
    (λ (has : HasWalk link_view Q a n). (r.exact n).1 (has.0, walk_over Q P back has.0 a n has.1)),
  );
  rising = r.rising;
}

-- the nearest over a family of links are those over a family with the same links
pub near_over : (P Q : Link → Type 0) → ((link : Link) → P link → Q link) → ((link : Link) → Q link → P link) → (count a : ℕ) (candidates : List ℕ) (limit : ℕ) (near : Near)
    → IsNear P count a candidates limit near → IsNear Q count a candidates limit near
near_over P Q there back count a candidates limit near r = record {
  first = record {
    few = r.first.few;
    candidate = r.first.candidate;
    least = λ k d within. least_over P Q there back a _ _ _ (r.first.least k d within);
    ordered = r.first.ordered;
    others = λ n walk is none w. r.first.others n walk is none (walk_over Q P back walk a n w);
  };
  shown = record {
    rising = r.shown.rising;
    nodes_alone = r.shown.nodes_alone;
    below = r.shown.below;
    starts = r.shown.starts;
    ends = r.shown.ends;
    others = r.shown.others;
    links = λ link q. r.shown.links link (back link q);
  };
  told = r.told;
  exact = reached_over P Q there back a near.reached r.exact;
}

told_rows : (v : Version) (rows : List NearWalk) → map (told_row v) rows ≡ map (near_row_of v) (map row_of rows)
told_rows v [] = refl
told_rows v (row ∷ rows) = ap (λ (told : List NearRow). told_row v row ∷ told) (told_rows v rows)

-- what is told of the nearest is right
pub near_answers : (v : Version) (asked : Nearest) (number : ℕ) (profile : Profile) (a : ℕ) (candidates : List ℕ) (near : Near) (it : NearTold)
    → IsNearTrip v asked number profile a → AreCandidates v.features asked.category candidates
    → IsNear (Usable v number profile) (length (nodes v.features v.settings)) a candidates asked.limit near → TellsNear v asked a near it
    → AnswersAsk v (ask.Nearest asked) (reply.Nearest it)
near_answers v asked number profile a candidates near it trip are is told = (
  told.numbered,
  told.repeats,
  record {
    number = number;
    profile = profile;
    a = a;
    trip = trip;
    candidates = candidates;
    are = are;
    rows = map row_of near.rows;
    listed = near.potentials;
    reached = near.reached;
    nearest = is;
    started = told.started;
    rowed = told.rowed ∙ told_rows v near.rows;
    shown = told.shown;
    reaches = told.reaches;
  },
)
