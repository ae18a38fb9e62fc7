-- The paths by their texts.
use Rattle.std.proofs.Common.{◌≡◌, ℕ, ◌<◌, inl, inr, false, List, [], ◌∷◌, ◌++◌, length, Option, Some, None, refl, ap, subst, ◌∙◌, arith}
use Rattle.std.specs.Prelude.{codes, option_map}
use Rattle.matchit.specs.Router.{RouteOf}
use Rattle.matchit.specs.Rows.{param_token}
use Rattle.matchit.specs.Seek.{first, has_slash}
use Rattle.matchit.proofs.OnLiterals.{matchit_on_literals}
use Rattle.venue_wire.specs.Paths.{routes, route_of, IsTextOf}
use Rattle.venue_wire.specs.declared.paths.Path.{Path}
use Rattle.venue_wire.specs.declared.paths.Path.TheVariants.{Version, Places, Closures, Place, Route, Tour, Nearest, Publish}
use Rattle.venue_wire.proofs.RouteLemmas.{HasFit, are_simple_of, fits_plain, fits_param, seek_fits, param_found, steps_found}

text_of_fit : (text : List ℕ) (route : RouteOf Path) → HasFit routes text route → IsTextOf text route.value
text_of_fit text route (inl x) = subst (λ (r : RouteOf Path). IsTextOf text r.value) x.1 (fits_plain (codes "/v1/closures") text refl x.0)
text_of_fit text route (inr (inl x)) = subst (λ (r : RouteOf Path). IsTextOf text r.value) x.1 (fits_plain (codes "/v1/nearest") text refl x.0)
text_of_fit text route (inr (inr (inl x))) =
    let behind = fits_param (codes "/v1/place/") text refl x.0 in
    subst (λ (r : RouteOf Path). IsTextOf text r.value) x.1 (behind.id, behind.text, behind.some, behind.plain)
text_of_fit text route (inr (inr (inr (inl x)))) = subst (λ (r : RouteOf Path). IsTextOf text r.value) x.1 (fits_plain (codes "/v1/places") text refl x.0)
text_of_fit text route (inr (inr (inr (inr (inl x))))) = subst (λ (r : RouteOf Path). IsTextOf text r.value) x.1 (fits_plain (codes "/v1/publish") text refl x.0)
text_of_fit text route (inr (inr (inr (inr (inr (inl x)))))) = subst (λ (r : RouteOf Path). IsTextOf text r.value) x.1 (fits_plain (codes "/v1/route") text refl x.0)
text_of_fit text route (inr (inr (inr (inr (inr (inr (inl x))))))) = subst (λ (r : RouteOf Path). IsTextOf text r.value) x.1 (fits_plain (codes "/v1/tour") text refl x.0)
text_of_fit text route (inr (inr (inr (inr (inr (inr (inr (inl x)))))))) = subst (λ (r : RouteOf Path). IsTextOf text r.value) x.1 (fits_plain (codes "/v1/version") text refl x.0)
text_of_fit text route (inr (inr (inr (inr (inr (inr (inr (inr x)))))))) = absurd x

pub found_path : (text : List ℕ) (path : Path) → route_of text ≡ Some path → IsTextOf text path
unfolding route_of
found_path text path is = by_route (first routes text) refl
  where
    by_route : (found : Option (RouteOf Path)) → first routes text ≡ found → IsTextOf text path
    by_route None e = let no : None ≡ Some path = rw e at is in absurd (cc)
    by_route (Some route) e =
        let same : Some route.value ≡ Some path = rw e at is in
        let value : route.value ≡ path = cc in
        subst (IsTextOf text) value (text_of_fit text route (seek_fits routes text route (are_simple_of routes refl) e))

-- the route of a place
abbrev place_route : RouteOf Path
place_route = record { pattern = codes "/v1/place/" ++ param_token ∷ []; text = codes "/v1/place/{id}"; names = (11, 13) ∷ []; value = Place }

place_found : (id : List ℕ) → 0 < length id → has_slash id ≡ false → route_of (codes "/v1/place/" ++ id) ≡ Some Place
unfolding route_of
place_found [] some plain = absurd (omega arith)
place_found (b ∷ id) some plain =
    ap (λ (found : Option (RouteOf Path)). option_map (λ route. route.value) found)
    (steps_found (codes "/v1/place/") routes (b ∷ id) place_route (param_found place_route b id plain))

pub whole_path : (text : List ℕ) (path : Path) → IsTextOf text path → route_of text ≡ Some path
unfolding route_of matchit_on_literals
whole_path text Version is = rw is refl
whole_path text Places is = rw is refl
whole_path text Closures is = rw is refl
whole_path text Place is = ap route_of is.1 ∙ place_found is.0 is.2 is.3
whole_path text Route is = rw is refl
whole_path text Tour is = rw is refl
whole_path text Nearest is = rw is refl
whole_path text Publish is = rw is refl
