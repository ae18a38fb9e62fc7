-- The paths that there are, and the methods of each.
use Rattle.std.specs.Prelude.{◌≡◌, ℕ, ◌<◌, Bool, false, ◌||◌, ◌==◌, List, [], ◌∷◌, ◌++◌, drop, length, codes, Option, option_map, bytes_eq}
use Rattle.std.specs.List.{before_first, after_first}
use Rattle.matchit.specs.Rows.{RowsOf, param_token}
use Rattle.matchit.specs.Router.{RouteOf}
use Rattle.matchit.specs.Seek.{first, has_slash}
use Rattle.wire_frames.specs.declared.refusals.Methods.{Methods}
use Rattle.wire_frames.specs.declared.refusals.Methods.TheVariants.{Get, Post, Both}
use Rattle.venue_wire.specs.declared.paths.Path.{Path}
use Rattle.venue_wire.specs.declared.paths.Path.TheVariants.{Version, Places, Closures, Place, Route, Tour, Nearest, Publish}

-- a route without a parameter
abbrev pub fixed : List ℕ → Path → List ℕ × RouteOf Path
fixed text path = (text, record { pattern = text; text = text; names = []; value = path })

-- the routes, in the order of their patterns
abbrev pub routes : RowsOf (RouteOf Path)
routes =
    fixed (codes "/v1/closures") Closures
    ∷ fixed (codes "/v1/nearest") Nearest
    ∷ (codes "/v1/place/" ++ param_token ∷ [], record { pattern = codes "/v1/place/" ++ param_token ∷ []; text = codes "/v1/place/{id}"; names = (11, 13) ∷ []; value = Place })
    ∷ fixed (codes "/v1/places") Places
    ∷ fixed (codes "/v1/publish") Publish
    ∷ fixed (codes "/v1/route") Route
    ∷ fixed (codes "/v1/tour") Tour
    ∷ fixed (codes "/v1/version") Version
    ∷ []

-- the path of a text, which isn't decoded
unfoldable pub route_of : List ℕ → Option Path
route_of text = option_map (λ route. route.value) (first routes text)

-- the text is that of a path: one of seven, or that of a place, whose identifier has a byte or more and no slash
abbrev pub IsTextOf : List ℕ → Path → Type 0
IsTextOf text Version = text ≡ codes "/v1/version"
IsTextOf text Places = text ≡ codes "/v1/places"
IsTextOf text Closures = text ≡ codes "/v1/closures"
IsTextOf text Place = (id : List ℕ) × (text ≡ codes "/v1/place/" ++ id) × (0 < length id) × (has_slash id ≡ false)
IsTextOf text Route = text ≡ codes "/v1/route"
IsTextOf text Tour = text ≡ codes "/v1/tour"
IsTextOf text Nearest = text ≡ codes "/v1/nearest"
IsTextOf text Publish = text ≡ codes "/v1/publish"

-- the methods of each path
abbrev pub methods_of : Path → Methods
methods_of Version = Get
methods_of Places = Get
methods_of Closures = Both
methods_of Place = Get
methods_of Route = Get
methods_of Tour = Get
methods_of Nearest = Get
methods_of Publish = Post

-- the method is GET; it is POST
abbrev pub is_get : List ℕ → Bool
is_get method = bytes_eq method (codes "GET")

abbrev pub is_post : List ℕ → Bool
is_post method = bytes_eq method (codes "POST")

-- the method is one of these
abbrev pub has_method : Methods → List ℕ → Bool
has_method Get method = is_get method
has_method Post method = is_post method
has_method Both method = is_get method || is_post method

-- what stands before the first `?` of a target, and all of it where there is none
abbrev pub path_in : List ℕ → List ℕ
path_in target = before_first (λ byte. byte == 63) target

-- what stands behind the first `?` of a target, and nothing where there is none
abbrev pub query_in : List ℕ → List ℕ
query_in target = after_first (λ byte. byte == 63) target

-- the identifier in the text of a place's path: what stands behind `/v1/place/`
abbrev pub place_in : List ℕ → List ℕ
place_in text = drop 10 text
