-- A file whose items each have a comma, and that is then ended.
use Rattle.std.proofs.Common.{◌≡◌, ℕ, ◌+◌, ◌-◌, ◌<◌, zero, suc, List, [], ◌∷◌, ◌++◌, map, length, take, sym, ap, refl, ◌∙◌, append_assoc, codes, arith}
use Rattle.std.specs.Prelude.{IfOk, Result, Ok, Err}
use Rattle.std.specs.List.{flat_map, range_with_len, join_with_byte}
use Rattle.std.proofs.lemmas.List.{length-append, take-append-le, take_all}
use Rattle.std.proofs.lemmas.List.FromFn.{length-map-range_with_len}
use Rattle.venue_types.specs.declared.files.Slot.{Slot}
use Rattle.venue_types.specs.declared.files.Slot.TheVariants.{Absent, Held}
use Rattle.gen_text.specs.Ended.{ended, IsEndOf}
use Rattle.gen_text.specs.Texts.{collection, collection_front, feature_file, level_item, opening_items, relationship_items, unit_items, venue_item, manifest_text, levels_from_0, building_files}
use Rattle.gen_text.proofs.EndedLemmas.{ended_joined}

without_last : (xs : List ℕ) (last n : ℕ) → n ≡ length xs → take n (xs ++ last ∷ []) ≡ xs
without_last xs last n e = take-append-le n xs (last ∷ []) (omega (arith, e)) ∙ take_all n xs (omega (arith, e))

pub file_ended : (text popped end item : List ℕ) (items : List (List ℕ)) (n : ℕ) → n ≡ length text → popped ≡ take (n - 1) text → end ≡ popped ++ codes "]}"
    → text ≡ collection_front ++ ended (item ∷ items) → end ≡ collection (item ∷ items)
unfolding collection
file_ended text popped end item items n long rest closed whole =
    let parts : text ≡ (collection_front ++ join_with_byte 44 (item ∷ items)) ++ 44 ∷ [] =
    whole ∙ ap (λ (xs : List ℕ). collection_front ++ xs) (ended_joined item items) ∙ sym (append_assoc collection_front (join_with_byte 44 (item ∷ items)) (44 ∷ [])) in
    let one : n - 1 ≡ length (collection_front ++ join_with_byte 44 (item ∷ items)) =
    omega (arith, long, ap length parts, length-append (collection_front ++ join_with_byte 44 (item ∷ items)) (44 ∷ [])) in
    let front : popped ≡ collection_front ++ join_with_byte 44 (item ∷ items) =
    rest ∙ ap (take (n - 1)) parts ∙ without_last (collection_front ++ join_with_byte 44 (item ∷ items)) 44 (n - 1) one in
    closed ∙ ap (λ (xs : List ℕ). xs ++ codes "]}") front

-- what is ended is the file of its items, of which there are some
pub end_of : {E : Type 0} (text : List ℕ) (items : List (List ℕ)) (r : Result Slot E) → IfOk r (IsEndOf text) → text ≡ collection_front ++ ended items → 0 < length items
    → IfOk r (λ slot. slot ≡ feature_file items)
end_of text [] r h e some = absurd (omega (arith, some))
end_of text (item ∷ items) (Ok slot) h e some = h item items e
end_of text (item ∷ items) (Err e) h _ some = tt

some_lists : (f : ℕ → List (List ℕ)) → ((k : ℕ) → 0 < length (f k)) → (n : ℕ) → 0 < n → 0 < length (flat_map f (range_with_len 0 n))
some_lists f some zero none = absurd (omega (arith, none))
some_lists f some (suc n) h = omega (arith, some 0, length-append (f 0) (flat_map f (range_with_len (0 + 1) n)))

pub some_levels : (n : ℕ) → 0 < n → 0 < length (map level_item (range_with_len 0 n))
some_levels n some = omega (arith, some, length-map-range_with_len level_item 0 n)

at_end : (xs : List (List ℕ)) (x y : List ℕ) → 0 < length (xs ++ x ∷ y ∷ [])
at_end xs x y = omega (arith, length-append xs (x ∷ y ∷ []))

level_openings : (levels level : ℕ) → 0 < length (opening_items levels level)
unfolding opening_items
level_openings levels level = search (arith, at_end)

level_relationships : (levels level : ℕ) → 0 < length (relationship_items levels level)
unfolding relationship_items
level_relationships levels level = omega arith

level_units : (levels level : ℕ) → 0 < length (unit_items levels level)
unfolding unit_items
level_units levels level = search (arith, at_end)

pub some_openings : (levels n : ℕ) → 0 < n → 0 < length (flat_map (opening_items levels) (range_with_len 0 n))
some_openings levels n some = some_lists (opening_items levels) (level_openings levels) n some

pub some_relationships : (levels n : ℕ) → 0 < n → 0 < length (flat_map (relationship_items levels) (range_with_len 0 n))
some_relationships levels n some = some_lists (relationship_items levels) (level_relationships levels) n some

pub some_units : (levels n : ℕ) → 0 < n → 0 < length (flat_map (unit_items levels) (range_with_len 0 n))
some_units levels n some = some_lists (unit_items levels) (level_units levels) n some

-- the seventeen files in their order
pub all_slots : (levels : ℕ) (manifest level opening relationship unit venue : Slot) → manifest ≡ Held manifest_text → level ≡ feature_file (map level_item (levels_from_0 levels))
    → opening ≡ feature_file (flat_map (opening_items levels) (levels_from_0 levels)) → relationship ≡ feature_file (flat_map (relationship_items levels) (levels_from_0 (levels - 1)))
    → unit ≡ feature_file (flat_map (unit_items levels) (levels_from_0 levels)) → venue ≡ feature_file (venue_item levels ∷ [])
    → manifest ∷ Absent ∷ Absent ∷ Absent ∷ Absent ∷ Absent ∷ Absent ∷ Absent ∷ Absent ∷ Absent ∷ level ∷ Absent ∷ opening ∷ relationship ∷ Absent ∷ unit ∷ venue ∷ []
    ≡ (building_files levels).slots
unfolding building_files
all_slots levels manifest level opening relationship unit venue m l o r u v = rw (m, l, o, r, u, v) refl
