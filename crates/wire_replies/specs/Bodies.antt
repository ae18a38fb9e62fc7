-- The JSON body of each reply, its members in the order of their names' bytes.
use Rattle.std.specs.Prelude.{ℕ, List, [], ◌∷◌, map, take, fold, codes, Option, Some, None, option_map}
use Rattle.serde_json.specs.Data.{Data, null, boolean, number, unsigned, string, array, object, Members, member, no_members, put}
use Rattle.serde_json.specs.Find.{of_integer}
use Rattle.serde_json.specs.View.{items_of}
use Rattle.check_text.specs.Names.{rule_name, file_name}
use Rattle.venue_types.specs.Identifier.{identifier_text}
use Rattle.venue_types.specs.declared.feature_id.FeatureId.{FeatureId}
use Rattle.venue_types.specs.declared.features.Label.{Label}
use Rattle.venue_types.specs.declared.finding.Finding.{Finding}
use Rattle.venue_types.specs.declared.finding.Report.{Report}
use Rattle.venue_types.specs.declared.reply.ClosedRow.{ClosedRow}
use Rattle.venue_types.specs.declared.reply.ClosureDone.{ClosureDone}
use Rattle.venue_types.specs.declared.reply.ClosuresTold.{ClosuresTold}
use Rattle.venue_types.specs.declared.reply.Leg.{Leg}
use Rattle.venue_types.specs.declared.reply.Mark.{Mark}
use Rattle.venue_types.specs.declared.reply.NearRow.{NearRow}
use Rattle.venue_types.specs.declared.reply.NearTold.{NearTold}
use Rattle.venue_types.specs.declared.reply.NoTourTold.{NoTourTold}
use Rattle.venue_types.specs.declared.reply.NodeName.{NodeName}
use Rattle.venue_types.specs.declared.reply.PlaceRow.{PlaceRow}
use Rattle.venue_types.specs.declared.reply.PlaceTold.{PlaceTold}
use Rattle.venue_types.specs.declared.reply.Reply.{Reply}
use Rattle.venue_types.specs.declared.reply.Reply.TheVariants as reply
use Rattle.venue_types.specs.declared.reply.StepRow.{StepRow}
use Rattle.venue_types.specs.declared.reply.TourTold.{TourTold}
use Rattle.venue_types.specs.declared.reply.Which.{Which}
use Rattle.wire_frames.specs.declared.refusals.Refusal.{Refusal}
use Rattle.wire_replies.specs.Names.{kind_name, class_name, which_name, refusal_name}

-- a whole number from 0
abbrev pub count : ℕ → Data
count n = number (unsigned n)

-- an identifier, by its text
abbrev pub id_data : FeatureId → Data
id_data id = string (identifier_text id)

-- the items of a list, in order
abbrev pub list_data : {A : Type 0} → (A → Data) → List A → Data
list_data item_data items = array (items_of (map item_data items))

-- a member in front of others, where there is a value for it
abbrev pub where_there : List ℕ → Option Data → Members → Members
where_there name None members = members
where_there name (Some value) members = member name value members

-- the texts by their tags, in the order of the tags' bytes
abbrev pub label_members : List Label → Members
label_members labels = fold (λ members label. put label.tag (string label.text) members) no_members labels

-- a name: its texts by their tags, null where there is none
abbrev pub name_data : List Label → Data
name_data [] = null
name_data (label ∷ labels) = object (label_members (label ∷ labels))

-- a step of a walk
abbrev pub step_data : StepRow → Data
step_data step =
    object
    (where_there (codes "corner") (option_map count step.corner)
    (member (codes "cost") (count step.cost)
    (member (codes "kind") (string (kind_name step.kind))
    (member (codes "to") (id_data step.to)
    (member (codes "via") (id_data step.via)
    no_members)))))

-- a node's potential
abbrev pub mark_data : Mark → Data
mark_data mark =
    object
    (where_there (codes "corner") (option_map count mark.corner)
    (member (codes "node") (id_data mark.node)
    (member (codes "value") (count mark.value)
    no_members)))

-- a corner by its number and its unit
abbrev pub corner_data : ℕ → FeatureId → Data
corner_data corner id = object (member (codes "corner") (count corner) (member (codes "node") (id_data id) no_members))

-- a node: its identifier, and a corner with its number
abbrev pub node_data : NodeName → Data
node_data name = elim name.corner [
  | None ↦ id_data name.id
  | Some corner ↦ corner_data corner name.id
]

-- a place, as one of a list
abbrev pub row_data : PlaceRow → Data
row_data row =
    object
    (member (codes "id") (id_data row.id)
    (member (codes "kind") (string (class_name row.class))
    (member (codes "name") (name_data row.name)
    (member (codes "ordinal") (number (of_integer row.ordinal))
    no_members))))

-- where a rule is broken
abbrev pub finding_data : Finding → Data
finding_data found =
    object
    (member (codes "file") (string (file_name found.file))
    (member (codes "index") (count found.index)
    (member (codes "member") (count found.member)
    (member (codes "rule") (string (rule_name found.rule))
    no_members))))

-- a refusal that is told by its name alone
abbrev pub error_data : List ℕ → Data
error_data name = object (member (codes "error") (string name) no_members)

-- how many features are closed, and how many places there are
abbrev pub version_data : ℕ → ℕ → ℕ → Data
version_data version closed places =
    object
    (member (codes "closed") (count closed)
    (member (codes "places") (count places)
    (member (codes "version") (count version)
    no_members)))

-- all places of a version
abbrev pub places_data : ℕ → List PlaceRow → Data
places_data version rows =
    object (member (codes "places") (list_data row_data rows) (member (codes "version") (count version) no_members))

-- names of profiles
abbrev pub names_data : List (List ℕ) → Data
names_data names = list_data string names

-- one place, whether it is closed for all, and for whom where it is closed for some
abbrev pub place_data : PlaceTold → Data
place_data told =
    object
    (member (codes "closed") (boolean told.closed)
    (member (codes "id") (id_data told.row.id)
    (member (codes "kind") (string (class_name told.row.class))
    (member (codes "name") (name_data told.row.name)
    (member (codes "ordinal") (number (of_integer told.row.ordinal))
    (where_there (codes "profiles") (option_map names_data told.profiles)
    (member (codes "version") (count told.number)
    no_members)))))))

-- a feature that is closed for some, with their names
abbrev pub closed_for_data : FeatureId → List (List ℕ) → Data
closed_for_data id names =
    object (member (codes "feature") (id_data id) (member (codes "profiles") (names_data names) no_members))

-- a feature that is closed: its identifier where it is closed for all, else with the names of those for whom it is
abbrev pub closed_data : ClosedRow → Data
closed_data row = elim row.profiles [
  | None ↦ id_data row.id
  | Some names ↦ closed_for_data row.id names
]

-- what is closed
abbrev pub closures_data : ClosuresTold → Data
closures_data told =
    object (member (codes "closures") (list_data closed_data told.closed) (member (codes "version") (count told.number) no_members))

-- a walk
abbrev pub route_data : ℕ → FeatureId → FeatureId → List ℕ → FeatureId → ℕ → List StepRow → Option (List Mark) → Data
route_data version from to profile start cost steps potentials =
    object
    (member (codes "cost") (count cost)
    (member (codes "from") (id_data from)
    (where_there (codes "potentials") (option_map (list_data mark_data) potentials)
    (member (codes "profile") (string profile)
    (member (codes "result") (string (codes "route"))
    (member (codes "start") (id_data start)
    (member (codes "steps") (list_data step_data steps)
    (member (codes "to") (id_data to)
    (member (codes "version") (count version)
    no_members)))))))))

-- that there is no walk
abbrev pub no_route_data : ℕ → FeatureId → FeatureId → List ℕ → Option (List NodeName) → Data
no_route_data version from to profile reached =
    object
    (member (codes "from") (id_data from)
    (member (codes "profile") (string profile)
    (where_there (codes "reached") (option_map (list_data node_data) reached)
    (member (codes "result") (string (codes "none"))
    (member (codes "to") (id_data to)
    (member (codes "version") (count version)
    no_members))))))

-- a part of a tour
abbrev pub leg_data : Leg → Data
leg_data leg = object (member (codes "cost") (count leg.cost) (member (codes "steps") (list_data step_data leg.steps) no_members))

-- a tour
abbrev pub tour_data : TourTold → Data
tour_data told =
    object
    (member (codes "cost") (count told.cost)
    (member (codes "from") (id_data told.from)
    (member (codes "legs") (list_data leg_data told.legs)
    (member (codes "order") (list_data id_data told.order)
    (member (codes "profile") (string told.profile)
    (member (codes "result") (string (codes "tour"))
    (member (codes "to") (id_data told.to)
    (member (codes "version") (count told.number)
    no_members))))))))

-- that there is no tour
abbrev pub no_tour_data : NoTourTold → Data
no_tour_data told =
    object
    (member (codes "from") (id_data told.from)
    (member (codes "profile") (string told.profile)
    (member (codes "result") (string (codes "none"))
    (member (codes "stops") (list_data id_data told.stops)
    (member (codes "to") (id_data told.to)
    (member (codes "version") (count told.number)
    no_members))))))

-- one of the nearest amenities
abbrev pub near_row_data : NearRow → Data
near_row_data row =
    object
    (member (codes "amenity") (id_data row.id)
    (member (codes "cost") (count row.cost)
    (member (codes "steps") (list_data step_data row.steps)
    no_members)))

-- the nearest amenities of a category
abbrev pub nearest_data : NearTold → Data
nearest_data told =
    object
    (member (codes "category") (string told.category)
    (member (codes "from") (id_data told.from)
    (member (codes "places") (list_data near_row_data told.places)
    (where_there (codes "potentials") (option_map (list_data mark_data) told.potentials)
    (member (codes "profile") (string told.profile)
    (where_there (codes "reached") (option_map (list_data node_data) told.reached)
    (member (codes "start") (id_data told.start)
    (member (codes "version") (count told.number)
    no_members))))))))

-- a feature that was closed or opened, and for whom where that was named
abbrev pub closure_data : ClosureDone → Data
closure_data done =
    object
    (member (codes "changed") (boolean done.changed)
    (member (codes "closed") (boolean done.closed)
    (member (codes "feature") (id_data done.feature)
    (where_there (codes "profiles") (option_map names_data done.profiles)
    (member (codes "version") (count done.number)
    no_members)))))

-- a folder that was published
abbrev pub published_data : ℕ → List FeatureId → Data
published_data version dropped =
    object (member (codes "dropped") (list_data id_data dropped) (member (codes "version") (count version) no_members))

-- a version that isn't there yet
abbrev pub ahead_data : ℕ → ℕ → Data
ahead_data since version =
    object
    (member (codes "error") (string (codes "version_ahead"))
    (member (codes "since") (count since)
    (member (codes "version") (count version)
    no_members)))

-- an identifier that names no place
abbrev pub no_place_data : Which → Data
no_place_data which =
    object (member (codes "error") (string (codes "no_such_place")) (member (codes "which") (string (which_name which)) no_members))

-- a folder that breaks rules: the first 500 places, and how many there are in all
abbrev pub rejected_data : Report → Data
rejected_data report =
    object
    (member (codes "error") (string (codes "rejected"))
    (member (codes "findings") (list_data finding_data (take 500 report.first))
    (member (codes "total") (count report.total)
    no_members)))

-- that no further version fits
abbrev pub full_data : ℕ → Data
full_data version =
    object (member (codes "error") (string (codes "history_full")) (member (codes "version") (count version) no_members))

-- the body of a reply
abbrev pub body_of : Reply → Data
body_of (reply.Version version closed places) = version_data version closed places
body_of (reply.Places version rows) = places_data version rows
body_of (reply.Place told) = place_data told
body_of (reply.Closures told) = closures_data told
body_of (reply.Route version from to profile start cost steps potentials) =
    route_data version from to profile start cost steps potentials
body_of (reply.NoRoute version from to profile reached) = no_route_data version from to profile reached
body_of (reply.Tour told) = tour_data told
body_of (reply.NoTour told) = no_tour_data told
body_of (reply.Nearest told) = nearest_data told
body_of (reply.ClosureDone done) = closure_data done
body_of (reply.Published version dropped) = published_data version dropped
body_of (reply.Ahead since version) = ahead_data since version
body_of reply.NoProfile = error_data (codes "no_such_profile")
body_of (reply.NoPlace which) = no_place_data which
body_of reply.NoFeature = error_data (codes "no_such_feature")
body_of (reply.FolderFault before after) = error_data (codes "folder_fault")
body_of (reply.Rejected report) = rejected_data report
body_of (reply.HistoryFull version) = full_data version
body_of (reply.JournalFault before after) = error_data (codes "journal_fault")
body_of reply.OutOfMemory = error_data (codes "want_of_memory")

-- the body of a refusal
abbrev pub refusal_body : Refusal → Data
refusal_body refusal = error_data (refusal_name refusal)
