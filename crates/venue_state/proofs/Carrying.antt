-- Lists of what is closed, step by step.
use Rattle.std.proofs.Common.{◌≡◌, ◌∙◌, ℕ, zero, suc, ◌+◌, ◌<◌, List, [], ◌∷◌, ◌++◌, map, length, refl, sym, ap, Bool, true, false, inl, inr, Some, arith, take, drop, append_assoc}
use Rattle.std.specs.Prelude.{◌||◌, if◌then◌else◌, slice_index_or, slice_get}
use Rattle.std.specs.List.{Contains}
use Rattle.std.proofs.lemmas.List.{length-map, take_more}
use Rattle.std.proofs.lemmas.Option.{get_or_from_slice_get, slice_get-get_or, slice_get-map}
use Rattle.std.specs.Option.{option_map}
use Rattle.venue_types.specs.declared.feature_id.FeatureId.{FeatureId}
use Rattle.venue_types.specs.declared.profile_set.ProfileSet.{ProfileSet}
use Rattle.venue_types.specs.ProfileSets.{nobody, is_empty}
use Rattle.route_search.specs.Identity.{is_same}
use Rattle.route_search.proofs.Identifiers.{same_id, id_same}
use Rattle.venue_history.specs.declared.entry.Closing.{Closing}
use Rattle.venue_history.specs.Closed.{is_one_of, feature_of, set_in}
use Rattle.venue_history.specs.Versions.{closings}
use Rattle.venue_history.proofs.Closings.{closings_agree, set_in_of}
use Rattle.venue_state.specs.Boards.{closed_by}
use Rattle.venue_state.specs.Tallies.{remarked, gone_from}
use Rattle.venue_state.proofs.Marking.{AreApart, apart_first, apart_rest, tested, differs, if_so, if_not, set_first, set_later, by_none, by_some}
use Rattle.venue_state.proofs.NameLemmas.{rest_at}

-- ---- one that is closed more at the end

one_of_skip : (x : FeatureId) (xs : List FeatureId) (y : FeatureId) → is_same x y ≡ false → is_one_of (x ∷ xs) y ≡ is_one_of xs y
unfolding is_one_of
one_of_skip x xs y e = rw e refl

or_neither : (a b : Bool) → (a || b) ≡ false → (a ≡ false) × (b ≡ false)
or_neither true b e = absurd (cc e)
or_neither false b e = (refl, e)

first_other : (x : FeatureId) (xs : List FeatureId) (y : FeatureId) → is_one_of (x ∷ xs) y ≡ false → (is_same x y ≡ false) × (is_one_of xs y ≡ false)
unfolding is_one_of
first_other x xs y e = or_neither (is_same x y) (is_one_of xs y) e

end_same : (front : List Closing) (it : Closing) (id : FeatureId) → is_one_of (map feature_of front) id ≡ false → is_same it.feature id ≡ true
    → set_in (front ++ it ∷ []) id ≡ it.profiles
end_same [] it id none same = set_first it [] id same
end_same (x ∷ front) it id none same =
    let other = first_other x.feature (map feature_of front) id none in
    set_later x (front ++ it ∷ []) id other.0 ∙ end_same front it id other.1 same

end_other : (front : List Closing) (it : Closing) (id : FeatureId) → is_same it.feature id ≡ false → set_in (front ++ it ∷ []) id ≡ set_in front id
end_other [] it id other = set_later it [] id other
end_other (x ∷ front) it id other = ap (λ (set : ProfileSet). if is_same x.feature id then x.profiles else set) (end_other front it id other)

end_set : (front : List Closing) (it : Closing) (id : FeatureId) → is_one_of (map feature_of front) it.feature ≡ false
    → (if is_same id it.feature then it.profiles else set_in front id) ≡ set_in (front ++ it ∷ []) id
end_set front it id none = elim (tested (is_same id it.feature)) [
  | inl same ↦
      let e : it.feature ≡ id = sym (same_id id it.feature same) in
      if_so (is_same id it.feature) it.profiles (set_in front id) same
      ∙ sym (end_same front it id (ap (is_one_of (map feature_of front)) (sym e) ∙ none) (id_same it.feature id e))
  | inr apart ↦
      if_not (is_same id it.feature) it.profiles (set_in front id) apart
      ∙ sym (end_other front it id (differs it.feature id (λ e. absurd (cc (apart, id_same id it.feature (sym e))))))
]

-- ---- what is closed carried over

listed_there : (xs : List Closing) (i : ℕ) (d : Closing) → i < length xs → Contains (map feature_of xs) (slice_index_or xs i d).feature
listed_there xs i d within =
    let x = (slice_index_or xs i d).feature in
    let at : slice_get (map feature_of xs) i ≡ Some x = slice_get-map feature_of xs i ∙ ap (option_map feature_of) (slice_get-get_or xs i d within) in
    let many = length-map xs feature_of in
    (i, omega arith, get_or_from_slice_get (map feature_of xs) i x x at)

-- where each feature stands once, one isn't among those before it
apart_before : (xs : List Closing) (i : ℕ) (d : Closing) → AreApart (map feature_of xs) → i < length xs
    → is_one_of (map feature_of (take i xs)) (slice_index_or xs i d).feature ≡ false
unfolding is_one_of
apart_before [] i d apart within = absurd (omega arith)
apart_before (x ∷ xs) zero d apart within = refl
apart_before (x ∷ xs) (suc i) d apart within =
    let y = (slice_index_or xs i d).feature in
    let other : is_same x.feature y ≡ false = differs x.feature y (apart_first x.feature (map feature_of xs) y apart (listed_there xs i d (omega arith))) in
    one_of_skip x.feature (map feature_of (take i xs)) y other ∙ apart_before xs i d (apart_rest x.feature (map feature_of xs) apart) (omega arith)

-- one more that is marked
pub carried_mark : (ids : List FeatureId) (closed : List Closing) (i : ℕ) (d : Closing) (before after : List Closing) → AreApart (map feature_of closed) → i < length closed
    → before ≡ closings (set_in (take i closed)) ids → after ≡ remarked ids before (slice_index_or closed i d).feature (slice_index_or closed i d).profiles
    → after ≡ closings (set_in (take (i + 1) closed)) ids
carried_mark ids closed i d before after apart within was is =
    let it : Closing = slice_index_or closed i d in
    let front : List Closing = take i closed in
    is ∙ ap (λ (cs : List Closing). remarked ids cs it.feature it.profiles) was
    ∙ closings_agree (λ other. if is_same other it.feature then it.profiles else set_in (closings (set_in front) ids) other) (set_in (take (i + 1) closed)) ids
    (λ other c.
    ap (λ (set : ProfileSet). if is_same other it.feature then it.profiles else set) (set_in_of (set_in front) ids other c)
    ∙ end_set front it other (apart_before closed i d apart within)
    ∙ ap (λ (cs : List Closing). set_in cs other) (sym (take_more closed i d within)))

-- one more that can be closed
pub gone_not : (ids : List FeatureId) (closed : List Closing) (i : ℕ) (d : Closing) (front whole : List FeatureId) → i < length closed
    → is_one_of ids (slice_index_or closed i d).feature ≡ true → front ++ gone_from ids (map feature_of (drop i closed)) ≡ whole
    → front ++ gone_from ids (map feature_of (drop (i + 1) closed)) ≡ whole
gone_not ids closed i d front whole within there e =
    let x : FeatureId = (slice_index_or closed i d).feature in
    let rest : List FeatureId = map feature_of (drop (i + 1) closed) in
    let same : gone_from ids (x ∷ rest) ≡ gone_from ids rest = rw there refl in
    ap (λ (ys : List FeatureId). front ++ ys) (sym same) ∙ ap (λ (ys : List Closing). front ++ gone_from ids (map feature_of ys)) (sym (rest_at closed i d within)) ∙ e

-- one more that can't
pub gone_one : (ids : List FeatureId) (closed : List Closing) (i : ℕ) (d : Closing) (front whole : List FeatureId) → i < length closed
    → is_one_of ids (slice_index_or closed i d).feature ≡ false → front ++ gone_from ids (map feature_of (drop i closed)) ≡ whole
    → (front ++ (slice_index_or closed i d).feature ∷ []) ++ gone_from ids (map feature_of (drop (i + 1) closed)) ≡ whole
gone_one ids closed i d front whole within none e =
    let x : FeatureId = (slice_index_or closed i d).feature in
    let rest : List FeatureId = map feature_of (drop (i + 1) closed) in
    let same : gone_from ids (x ∷ rest) ≡ x ∷ gone_from ids rest = rw none refl in
    append_assoc front (x ∷ []) (gone_from ids rest)
    ∙ ap (λ (ys : List FeatureId). front ++ ys) (sym same) ∙ ap (λ (ys : List Closing). front ++ gone_from ids (map feature_of ys)) (sym (rest_at closed i d within)) ∙ e

-- ---- what is marked listed

rests : (marks : List ProfileSet) (ids : List FeatureId) (k : ℕ) (id : FeatureId) → k < length marks → k < length ids → slice_get ids k ≡ Some id
    → closed_by (drop k marks) (drop k ids) ≡ closed_by (slice_index_or marks k nobody ∷ drop (k + 1) marks) (id ∷ drop (k + 1) ids)
rests marks ids k id marked within at =
    let set : ProfileSet = slice_index_or marks k nobody in
    ap (λ (ms : List ProfileSet). closed_by ms (drop k ids)) (rest_at marks k nobody marked)
    ∙ ap (λ (xs : List FeatureId). closed_by (set ∷ drop (k + 1) marks) xs) (rest_at ids k id within)
    ∙ ap (λ (x : FeatureId). closed_by (set ∷ drop (k + 1) marks) (x ∷ drop (k + 1) ids)) (get_or_from_slice_get ids k id id at)

pub listed_one : (marks : List ProfileSet) (ids : List FeatureId) (k : ℕ) (id : FeatureId) (set : ProfileSet) (front whole : List Closing) → k < length marks → k < length ids
    → slice_get ids k ≡ Some id → set ≡ slice_index_or marks k nobody → is_empty set ≡ false → front ++ closed_by (drop k marks) (drop k ids) ≡ whole
    → (front ++ record { feature = id; profiles = set } ∷ []) ++ closed_by (drop (k + 1) marks) (drop (k + 1) ids) ≡ whole
listed_one marks ids k id set front whole marked within at here some e =
    let rest : List Closing = closed_by (drop (k + 1) marks) (drop (k + 1) ids) in
    append_assoc front (record { feature = id; profiles = set } ∷ []) rest
    ∙ ap (λ (cs : List Closing). front ++ cs) (sym (by_some set (drop (k + 1) marks) id (drop (k + 1) ids) some))
    ∙ ap (λ (s : ProfileSet). front ++ closed_by (s ∷ drop (k + 1) marks) (id ∷ drop (k + 1) ids)) here
    ∙ ap (λ (cs : List Closing). front ++ cs) (sym (rests marks ids k id marked within at)) ∙ e

pub listed_not : (marks : List ProfileSet) (ids : List FeatureId) (k : ℕ) (d : FeatureId) (set : ProfileSet) (front whole : List Closing) → k < length marks → k < length ids
    → set ≡ slice_index_or marks k nobody → is_empty set ≡ true → front ++ closed_by (drop k marks) (drop k ids) ≡ whole
    → front ++ closed_by (drop (k + 1) marks) (drop (k + 1) ids) ≡ whole
listed_not marks ids k d set front whole marked within here empty e =
    let id : FeatureId = slice_index_or ids k d in
    ap (λ (cs : List Closing). front ++ cs) (sym (by_none set (drop (k + 1) marks) id (drop (k + 1) ids) empty))
    ∙ ap (λ (s : ProfileSet). front ++ closed_by (s ∷ drop (k + 1) marks) (id ∷ drop (k + 1) ids)) here
    ∙ ap (λ (cs : List Closing). front ++ cs) (sym (rests marks ids k id marked within (slice_get-get_or ids k d within))) ∙ e
