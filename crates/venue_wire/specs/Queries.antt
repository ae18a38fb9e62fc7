-- What a query asks of a path (the URL Standard, section 5).
use Rattle.std.specs.Prelude.{ℕ, ◌^◌, Bool, true, false, ◌&&◌, ◌==◌, nat_lt, nat_le, List, [], ◌∷◌, map, flat_map, length, codes, if◌then◌else◌, Option, Some, None, option_map, option_and_then, bytes_eq, decimal}
use Rattle.std.specs.List.{slice_split}
use Rattle.std.specs.Str.Lossy.{utf8_lossy}
use Rattle.std.specs.Str.Parse.{digits_value}
use Rattle.form_urlencoded.specs.Form.{raw_pairs, decode}
use Rattle.venue_types.specs.Identifier.{identifier_read}
use Rattle.venue_types.specs.declared.query.Ask.{Ask}
use Rattle.venue_types.specs.declared.feature_id.FeatureId.{FeatureId}
use Rattle.venue_types.specs.declared.query.Query.{Query}
use Rattle.venue_wire.specs.declared.paths.Path.{Path}
use Rattle.venue_wire.specs.declared.paths.Path.TheVariants.{Version, Places, Closures, Place, Route, Tour, Nearest, Publish}
use Rattle.venue_wire.specs.Paths.{place_in}

-- the text that a name or a value stands for: decoded, with U+FFFD for what is no UTF-8
abbrev pub text_of : List ℕ → List ℕ
text_of raw = utf8_lossy (decode raw)

-- the names and the values of a query, in order
abbrev pub pairs_of : List ℕ → List (List ℕ × List ℕ)
pairs_of query = map (λ pair. (text_of pair.0, text_of pair.1)) (raw_pairs query)

-- the values of a key
abbrev pub values_of : List ℕ → List ℕ → List (List ℕ)
values_of key query = flat_map (λ pair. if bytes_eq pair.0 key then pair.1 ∷ [] else []) (pairs_of query)

-- the value of a key that has to stand there once
abbrev pub only_value : List (List ℕ) → Option (List ℕ)
only_value [] = None
only_value (value ∷ []) = Some value
only_value (value ∷ other ∷ values) = None

-- what a key that may stand there once is read as: the first where it doesn't stand there
abbrev pub value_or : {A : Type 0} → A → (List ℕ → Option A) → List (List ℕ) → Option A
value_or absent form [] = Some absent
value_or absent form (value ∷ []) = form value
value_or absent form (value ∷ other ∷ values) = None

-- a number below 2 ^ 32 in decimal: the text is the one that is written for it, without a sign and without a zero in front
unfoldable pub number_read : List ℕ → Option ℕ
number_read text =
    if bytes_eq text (decimal (digits_value 10 text)) && nat_lt (digits_value 10 text) (2 ^ 32)
    then Some (digits_value 10 text) else None

-- `yes` or `no`
abbrev pub answer_read : List ℕ → Option Bool
answer_read text =
    if bytes_eq text (codes "yes") then Some true else if bytes_eq text (codes "no") then Some false else None

-- the version that is asked for at least, if any
abbrev pub since_of : List ℕ → Option (Option ℕ)
since_of query = value_or None (λ text. option_map (λ version. Some version) (number_read text)) (values_of (codes "since") query)

-- the place at one end of a route
abbrev pub end_of : List ℕ → List ℕ → Option FeatureId
end_of key query = option_and_then identifier_read (only_value (values_of key query))

-- the route that is asked for: both ends, the profile, and whether with its certificate, which isn't where nothing is said
abbrev pub route_asked : List ℕ → Option Ask
route_asked query =
    option_and_then (λ from. option_and_then (λ to. option_and_then (λ profile. option_map (λ certificate. Ask.Route from to profile certificate)
    (value_or false answer_read (values_of (codes "certificate") query)))
    (only_value (values_of (codes "profile") query)))
    (end_of (codes "to") query))
    (end_of (codes "from") query)

-- the identifiers of these texts, where each is one
abbrev pub identifiers_read : List (List ℕ) → Option (List FeatureId)
identifiers_read [] = Some []
identifiers_read (text ∷ texts) = option_and_then (λ id. option_map (λ ids. id ∷ ids) (identifiers_read texts)) (identifier_read text)

-- the parts of a text between its commas
abbrev pub comma_parts : List ℕ → List (List ℕ)
comma_parts text = slice_split (λ byte. byte == 44) text

-- the stops of a tour: one to eight identifiers with a comma between each two
abbrev pub stops_read : List ℕ → Option (List FeatureId)
stops_read text = if nat_lt 8 (length (comma_parts text)) then None else identifiers_read (comma_parts text)

-- the tour that is asked for: both ends, the stops and the profile
abbrev pub tour_asked : List ℕ → Option Ask
tour_asked query =
    option_and_then (λ from. option_and_then (λ to. option_and_then (λ stops. option_map (λ profile. Ask.Tour (record { from = from; to = to; stops = stops; profile = profile }))
    (only_value (values_of (codes "profile") query)))
    (option_and_then stops_read (only_value (values_of (codes "stops") query))))
    (end_of (codes "to") query))
    (end_of (codes "from") query)

-- whether a text is as long as a category may be: 1 to 64 bytes
abbrev pub is_category : List ℕ → Bool
is_category text = nat_lt 0 (length text) && nat_le (length text) 64

-- the category of an amenity
abbrev pub category_read : List ℕ → Option (List ℕ)
category_read text = if is_category text then Some text else None

-- how many are asked for at most: 1 to 10
abbrev pub limit_read : List ℕ → Option ℕ
limit_read text = option_and_then (λ limit. if nat_le 1 limit && nat_le limit 10 then Some limit else None) (number_read text)

-- the nearest that are asked for: from where, of which category, the profile, how many at most, which is one where nothing is said, and whether with the
-- certificate, which isn't where nothing is said
abbrev pub nearest_asked : List ℕ → Option Ask
nearest_asked query =
    option_and_then (λ from. option_and_then (λ category. option_and_then (λ profile. option_and_then (λ limit. option_map (λ certificate.
    Ask.Nearest (record { from = from; category = category; profile = profile; limit = limit; certificate = certificate }))
    (value_or false answer_read (values_of (codes "certificate") query)))
    (value_or 1 limit_read (values_of (codes "limit") query)))
    (only_value (values_of (codes "profile") query)))
    (option_and_then category_read (only_value (values_of (codes "category") query))))
    (end_of (codes "from") query)

-- what is asked by GET of a path, in whose text a place's identifier stands, with a query
abbrev pub ask_of : Path → List ℕ → List ℕ → Option Ask
ask_of Version text query = Some Ask.Version
ask_of Places text query = Some Ask.Places
ask_of Closures text query = Some Ask.Closures
ask_of Place text query = option_map (λ id. Ask.Place id) (identifier_read (place_in text))
ask_of Route text query = route_asked query
ask_of Tour text query = tour_asked query
ask_of Nearest text query = nearest_asked query
ask_of Publish text query = None

-- the same, with the version that is asked for at least
abbrev pub query_of : Path → List ℕ → List ℕ → Option Query
query_of path text query =
    option_and_then (λ what. option_map (λ since. record { since = since; what = what }) (since_of query)) (ask_of path text query)
