-- What a request gets to which no refusal applies.
use Rattle.std.specs.Prelude.{◌≡◌, ◌⊎◌, ◌<◌, All, Option}
use Rattle.wire_replies.specs.declared.response.Response.{Response}
use Rattle.wire_replies.specs.declared.response.Response.TheVariants.{Of, No, Bare}
use Rattle.venue_types.specs.declared.query.Ask.{Ask}
use Rattle.venue_types.specs.declared.query.Ask.TheVariants as ask
use Rattle.venue_types.specs.declared.query.Change.{Change}
use Rattle.venue_types.specs.declared.query.Change.TheVariants as change
use Rattle.venue_types.specs.declared.profile_set.ProfileSet.{ProfileSet}
use Rattle.venue_hall.specs.Venues.{SeenVenue as Venue}
use Rattle.venue_hall.specs.Shelves.{Shelf}
use Rattle.venue_hall.specs.Answers.{HasProfile, IsPlace}
use Rattle.venue_hall.specs.Changes.{Makes, IsClosureFor}
use Rattle.venue_hall.specs.Closed.{Version}
use Rattle.venue_hall.specs.Replies.{ReplyKind, kind_of, version, places, place, closures, route, no_route, tour, no_tour, nearest, closure_done, published, folder_fault, journal_fault, out_of_memory}

-- what a question names is there: a place; for a route a profile and both places; for a tour its stops too; for the nearest a profile and the start
abbrev pub IsThere : Version → Ask → Type 0
IsThere v ask.Version = Unit {0}
IsThere v ask.Places = Unit {0}
IsThere v (ask.Place id) = IsPlace v id
IsThere v ask.Closures = Unit {0}
IsThere v (ask.Route from to name certificate) = HasProfile v name × IsPlace v from × IsPlace v to
IsThere v (ask.Tour asked) = HasProfile v asked.profile × IsPlace v asked.from × IsPlace v asked.to × All (IsPlace v) asked.stops
IsThere v (ask.Nearest asked) = HasProfile v asked.profile × IsPlace v asked.from

-- the reply is of the kind that the question asks for; a route's or a tour's may say that there is none
abbrev pub IsOfKind : Ask → ReplyKind → Type 0
IsOfKind ask.Version kind = kind ≡ version
IsOfKind ask.Places kind = kind ≡ places
IsOfKind (ask.Place id) kind = kind ≡ place
IsOfKind ask.Closures kind = kind ≡ closures
IsOfKind (ask.Route from to name certificate) kind = (kind ≡ route) ⊎ (kind ≡ no_route)
IsOfKind (ask.Tour asked) kind = (kind ≡ tour) ⊎ (kind ≡ no_tour)
IsOfKind (ask.Nearest asked) kind = kind ≡ nearest

-- there is room for one version more
abbrev pub HasRoom : Version → Type 0
HasRoom v = v.number < v.settings.last_version

-- the change can be made: the settings have each profile that is named and the feature can be closed, or the files of the folder make a venue
abbrev pub CanBeMade : Option Shelf → Version → Change → Type 0
CanBeMade shelf v (change.Closure asked) = (set : ProfileSet) × IsClosureFor v asked set
CanBeMade shelf v (change.Publish folder) = (venue : Venue) × Makes shelf v folder venue

-- the reply tells that the change stands; or that the journal didn't keep it, or, of a publication, that the folder couldn't be read
abbrev pub IsMadeKind : Change → ReplyKind → Type 0
IsMadeKind (change.Closure asked) kind = (kind ≡ closure_done) ⊎ (kind ≡ journal_fault)
IsMadeKind (change.Publish folder) kind = (kind ≡ published) ⊎ (kind ≡ folder_fault) ⊎ (kind ≡ journal_fault)

-- the answer is a reply of such a kind, or that memory ran out
abbrev pub IsReplyOf : (ReplyKind → Type 0) → Response → Type 0
IsReplyOf IsKind (Of r) = IsKind (kind_of r) ⊎ (kind_of r ≡ out_of_memory)
IsReplyOf IsKind (No refusal) = ⊥
IsReplyOf IsKind (Bare refusal) = ⊥
