-- What torn bytes keep, and what a piece written over bytes is.
use Rattle.std.proofs.Common.{◌≡◌, ◌⊎◌, inl, inr, ⊎_elim, ℕ, ◌+◌, ◌-◌, ◌≤◌, ◌<◌, min, max, List, [], ◌∷◌, ◌++◌, length, get_or, take, drop, refl, sym, ◌∙◌, ap, subst, arith, length-append, length-take, length-drop}
use Rattle.std.proofs.lemmas.List.{take-append-le, drop-append-le, take_at, drop_at, take_all, drop_all, take-take, drop-drop, get_or-take, get_or-drop, append-nil}
use Rattle.venue_ports.specs.Moments.{Range, Moment, IsTorn, IsLeft, Leaves, IsStep, has_stayed, has_written, may_have_written, has_synced, HasStayed, HasWritten, MayHaveWritten, HasSynced, ReadIsLeft, Now, Goes, GoesOrEnds, IsOutside, greatest_end, with_piece}

-- how long the bytes are then
pub length-with_piece : (old : List ℕ) (at : ℕ) (piece : List ℕ) → at ≤ length old → length (with_piece old at piece) ≡ max (length old) (at + length piece)
length-with_piece old at piece le =
    let whole : length (with_piece old at piece) ≡ length (take at old) + (length piece + length (drop (at + length piece) old)) =
    length-append (take at old) (piece ++ drop (at + length piece) old) ∙ ap (λ n. length (take at old) + n) (length-append piece (drop (at + length piece) old)) in
    let front : length (take at old) ≡ min at (length old) = length-take at old in
    let back : length (drop (at + length piece) old) ≡ length old - (at + length piece) = length-drop (at + length piece) old in
    omega (arith, whole, front, back, le)

-- a piece that lies in a range, written over bytes, tears them in the range
pub torn_by_piece : (old : List ℕ) (at count : ℕ) (piece : List ℕ) → at ≤ length old → length piece ≤ count → IsTorn (record { at = at; count = count }) old (with_piece old at piece)
torn_by_piece old at count piece le fits =
    let n = length piece in
    let long : length (with_piece old at piece) ≡ max (length old) (at + n) = length-with_piece old at piece le in
    let taken : length (take at old) ≡ at = length-take at old ∙ omega (arith, le) in
    let reach : min at (length old) ≡ at = omega (arith, le) in
    let rest : drop at (with_piece old at piece) ≡ piece ++ drop (at + n) old = drop_at (take at old) (piece ++ drop (at + n) old) at taken in
    let later : drop (at + n) (with_piece old at piece) ≡ drop (at + n) old =
    sym (drop-drop n at (with_piece old at piece)) ∙ ap (drop n) rest ∙ drop_at piece (drop (at + n) old) n refl in
    let more : (at + n) + (count - n) ≡ at + count = omega (arith, fits) in
    let behind : drop (at + count) (with_piece old at piece) ≡ drop (at + count) old =
    ap (λ k. drop k (with_piece old at piece)) (sym more) ∙ sym (drop-drop (count - n) (at + n) (with_piece old at piece)) ∙ ap (drop (count - n)) later
    ∙ drop-drop (count - n) (at + n) old ∙ ap (λ k. drop k old) more in
    record {
      front = ap (λ k. take k (with_piece old at piece)) reach ∙ take_at (take at old) (piece ++ drop (at + n) old) at taken;
      behind = ap (take (length old - (at + count))) behind ∙ take_all (length old - (at + count)) (drop (at + count) old) (omega (arith, length-drop (at + count) old));
      no_shorter = omega (arith, long);
      no_longer = omega (arith, long, fits);
    }

-- a place outside the range keeps its byte
tear_keeps : (range : Range) (old new : List ℕ) (place : ℕ) → place < length old → (place < range.at) ⊎ (range.at + range.count ≤ place) → IsTorn range old new → get_or new place 0 ≡ get_or old place 0
tear_keeps range old new place within (inl before) torn =
    let k = min range.at (length old) in
    let below : place < k = omega (arith, within, before) in
    sym (get_or-take k new place 0 below) ∙ ap (λ (l : List ℕ). get_or l place 0) torn.front ∙ get_or-take range.at old place 0 before
tear_keeps range old new place within (inr behind) torn =
    let e = range.at + range.count in
    let more : e + (place - e) ≡ place = omega (arith, behind) in
    let below : place - e < length old - e = omega (arith, within, behind) in
    ap (λ k. get_or new k 0) (sym more) ∙ sym (get_or-drop e new (place - e) 0) ∙ sym (get_or-take (length old - e) (drop e new) (place - e) 0 below)
    ∙ ap (λ (l : List ℕ). get_or l (place - e) 0) torn.behind ∙ get_or-drop e old (place - e) 0 ∙ ap (λ k. get_or old k 0) more

left_no_shorter : (synced : List ℕ) (loose : List Range) (image : List ℕ) → IsLeft synced loose image → length synced ≤ length image
left_no_shorter synced [] image left = omega (arith, ap length left)
left_no_shorter synced (range ∷ earlier) image left = omega (arith, left_no_shorter synced earlier left.0 left.1, left.2.no_shorter)

left_no_longer : (synced : List ℕ) (loose : List Range) (image : List ℕ) → IsLeft synced loose image → length image ≤ greatest_end synced loose
left_no_longer synced [] image left = omega (arith, ap length left)
left_no_longer synced (range ∷ earlier) image left = omega (arith, left_no_longer synced earlier left.0 left.1, left.2.no_longer)

left_keeps : (synced : List ℕ) (loose : List Range) (image : List ℕ) (place : ℕ) → IsLeft synced loose image → place < length synced → IsOutside loose place → get_or image place 0 ≡ get_or synced place 0
left_keeps synced [] image place left within outside = ap (λ (l : List ℕ). get_or l place 0) left
left_keeps synced (range ∷ earlier) image place left within outside =
    tear_keeps range left.0 image place (omega (arith, within, left_no_shorter synced earlier left.0 left.1)) outside.0 left.2 ∙ left_keeps synced earlier left.0 place left.1 within outside.1

-- the law of what is left
pub kept : (m : Moment) (image : List ℕ) (place : ℕ) → Leaves m image → place < length m.synced → IsOutside m.loose place → get_or image place 0 ≡ get_or m.synced place 0
kept m image place left within outside = left_keeps m.synced m.loose image place left within outside

pub no_shorter : (m : Moment) (image : List ℕ) → Leaves m image → length m.synced ≤ length image
no_shorter m image left = left_no_shorter m.synced m.loose image left

pub no_longer : (m : Moment) (image : List ℕ) → Leaves m image → length image ≤ greatest_end m.synced m.loose
no_longer m image left = left_no_longer m.synced m.loose image left

pub left_synced : (m : Moment) (image : List ℕ) → m.loose ≡ [] → Leaves m image → image ≡ m.synced
left_synced m image none left = subst (λ (l : List Range). IsLeft m.synced l image) none left

-- one range more
left_once_more : (now next : Moment) (range : Range) → next.synced ≡ now.synced → next.loose ≡ range ∷ now.loose → Leaves now now.reads → IsTorn range now.reads next.reads → ReadIsLeft next
left_once_more now next range synced loose left torn =
    subst (λ (l : List Range). IsLeft next.synced l next.reads) (sym loose) (subst (λ (s : List ℕ). IsLeft s (range ∷ now.loose) next.reads) (sym synced) (now.reads, left, torn))

step_keeps : (now next : Moment) → ReadIsLeft now → IsStep now next → ReadIsLeft next
step_keeps now next left (has_stayed s) =
    subst (λ (l : List Range). IsLeft next.synced l next.reads) (sym s.loose) (subst (λ (x : List ℕ). IsLeft x now.loose next.reads) (sym s.synced) (subst (λ (x : List ℕ). IsLeft now.synced now.loose x) (sym s.reads) left))
step_keeps now next left (has_written at piece within w) =
    left_once_more now next (record { at = at; count = length piece }) w.synced w.loose left
    (subst (λ (x : List ℕ). IsTorn (record { at = at; count = length piece }) now.reads x) (sym w.reads) (torn_by_piece now.reads at (length piece) piece within (omega arith)))
step_keeps now next left (may_have_written at piece w) = left_once_more now next (record { at = at; count = length piece }) w.synced w.loose left w.reads
step_keeps now next left (has_synced s) = subst (λ (l : List Range). IsLeft next.synced l next.reads) (sym s.loose) (s.reads ∙ sym s.synced)

-- what a read gives stays among what a stop may leave
pub read_stays_left : (old new : List Moment) → Now ReadIsLeft old → GoesOrEnds IsStep old new → Now ReadIsLeft new
read_stays_left old new left (inl ended) = subst (λ (l : List Moment). Now ReadIsLeft l) (sym ended) tt
read_stays_left [] new left (inr goes) = subst (λ (l : List Moment). Now ReadIsLeft l) (sym goes) tt
read_stays_left (now ∷ past) new left (inr goes) = subst (λ (l : List Moment). Now ReadIsLeft l) (sym goes.2) (step_keeps now goes.0 left goes.1)
