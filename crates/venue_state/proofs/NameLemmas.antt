-- Names by numbers, and a list that is copied by number.
use Rattle.std.proofs.Common.{◌≡◌, ◌∙◌, ℕ, ◌+◌, ◌<◌, ◌≤◌, List, [], ◌∷◌, ◌++◌, length, take, drop, add-one, refl, sym, ap, Some, None, subst}
use Rattle.std.specs.Prelude.{slice_get, slice_index_or}
use Rattle.std.proofs.Math.Seq.{drop-cons}
use Rattle.std.proofs.lemmas.List.{take_more}
use Rattle.std.proofs.lemmas.Option.{slice_get_past, get_or_from_slice_get}
use Rattle.venue_types.specs.declared.feature_id.FeatureId.{FeatureId}
use Rattle.venue_types.specs.declared.link.Node.{Node}
use Rattle.route_search.specs.Nodes.{nodes, closables}
use Rattle.venue_history.specs.Closed.{Version}
use Rattle.venue_history.specs.Ways.{no_name, node_name, name_of, way_name}

pub named : (v : Version) (list : List Node) (n : ℕ) (node : Node) → list ≡ nodes v.features v.settings → slice_get list n ≡ Some node → node_name node ≡ name_of v n
unfolding name_of
named v list n node same at =
    let there : slice_get (nodes v.features v.settings) n ≡ Some node = subst (λ (ns : List Node). slice_get ns n ≡ Some node) same at in
    rw (there, name_of) refl

pub nameless : (v : Version) (list : List Node) (n : ℕ) → list ≡ nodes v.features v.settings → length list ≤ n → record { id = no_name; corner = None } ≡ name_of v n
unfolding name_of
nameless v list n same past =
    let none : slice_get (nodes v.features v.settings) n ≡ None = subst (λ (ns : List Node). slice_get ns n ≡ None) same (slice_get_past list n past) in
    rw (none, name_of) refl

pub way_named : (v : Version) (ids : List FeatureId) (k : ℕ) (id : FeatureId) → ids ≡ closables v.features → slice_get ids k ≡ Some id → id ≡ way_name v k
unfolding way_name
way_named v ids k id same at =
    let there : slice_get (closables v.features) k ≡ Some id = subst (λ (xs : List FeatureId). slice_get xs k ≡ Some id) same at in
    rw (there, way_name) refl

pub way_nameless : (v : Version) (ids : List FeatureId) (k : ℕ) → ids ≡ closables v.features → length ids ≤ k → no_name ≡ way_name v k
unfolding way_name
way_nameless v ids k same past =
    let none : slice_get (closables v.features) k ≡ None = subst (λ (xs : List FeatureId). slice_get xs k ≡ None) same (slice_get_past ids k past) in
    rw (none, way_name) refl

-- what is left from a place on
pub rest_at : {X : Type 0} (xs : List X) (i : ℕ) (d : X) → i < length xs → drop i xs ≡ slice_index_or xs i d ∷ drop (i + 1) xs
rest_at xs i d within = rw add-one (drop-cons xs i d within)

-- one item more of a list that is copied by number
pub copied_more : {X : Type 0} (xs : List X) (i : ℕ) (x : X) (done : List X) → i < length xs → done ≡ take i xs → slice_get xs i ≡ Some x
    → done ++ x ∷ [] ≡ take (i + 1) xs
copied_more {X} xs i x done within so at =
    ap (λ (ys : List X). ys ++ x ∷ []) so
    ∙ ap (λ (y : X). take i xs ++ y ∷ []) (sym (get_or_from_slice_get xs i x x at))
    ∙ sym (take_more xs i x within)
