-- Moments between which a disk was only read.
use Rattle.std.proofs.Common.{◌≡◌, ℕ, List, [], ◌∷◌, ◌++◌, Result, Ok, Err, OnErr, refl, sym, ◌∙◌, ap, subst, append_assoc}
use Rattle.venue_ports.specs.Moments.{Moment, Leaves, IsLeft, LeavesOnly, Now, AllLeft, ReadIsLeft}
use Rattle.change_journal.specs.Readers.{HasOnlyRead, IsSettled}
use Rattle.journal_restore.specs.Going.{HasTold}

-- a fact of the newest moment for another, and of two for a third
pub now_maps : (S T : Moment → Type 0) (moments : List Moment) → ((m : Moment) → S m → T m) → Now S moments → Now T moments
now_maps S T [] f now = tt
now_maps S T (m ∷ past) f now = f m now

pub now_joins : (R S T : Moment → Type 0) (moments : List Moment) → ((m : Moment) → R m → S m → T m) → Now R moments → Now S moments → Now T moments
now_joins R S T [] f one two = tt
now_joins R S T (m ∷ past) f one two = f m one two

-- a fact of the bytes before is one of the bytes now, and the other way round where the disk still tells
pub forward : (P : List ℕ → Type 0) (old new : List Moment) → HasOnlyRead old new → Now (λ m. P m.reads) old → Now (λ m. P m.reads) new
forward P [] new only was = let P' : Moment → Type 0 = λ m. P m.reads in subst (λ (l : List Moment). Now P' l) (sym (only.untold refl)) tt
forward P (m ∷ ms) [] only was = tt
forward P (m ∷ ms) (n ∷ ns) only was = subst P (sym only.reads) was

pub backward : (P : List ℕ → Type 0) (old new : List Moment) → HasOnlyRead old new → (new ≡ [] → old ≡ []) → Now (λ m. P m.reads) new → Now (λ m. P m.reads) old
backward P [] new only told is = tt
backward P (m ∷ ms) [] only told is = let none = told refl in cc
backward P (m ∷ ms) (n ∷ ns) only told is = subst P only.reads is

-- what a stop leaves of what is kept
pub settled_image : (m : Moment) → IsSettled m → (image : List ℕ) → Leaves m image → image ≡ m.reads
settled_image m settled image left =
    let at : image ≡ m.synced = subst (λ l. IsLeft m.synced l image) settled.loose left in
    at ∙ settled.synced

settled_read : (m : Moment) → IsSettled m → ReadIsLeft m
settled_read m settled = subst (λ l. IsLeft m.synced l m.reads) (sym settled.loose) (sym settled.synced)

-- a disk that wasn't called
pub read_nothing : (moments : List Moment) → HasOnlyRead moments moments
read_nothing [] = record { reads = tt; only = λ _. tt; untold = λ e. e }
read_nothing (m ∷ past) = record { reads = refl; only = λ _. record { added = []; grows = refl; each = tt }; untold = λ e. e }

pub told_nothing : (moments : List Moment) → Now IsSettled moments → HasTold moments moments
told_nothing moments settled = record { only = read_nothing moments; told = λ e. e; settled = settled }

-- whatever a stop at this moment leaves has P
abbrev HasAll : (List ℕ → Type 0) → Moment → Type 0
HasAll P m = (image : List ℕ) → Leaves m image → P image

-- what a stop may have left at first
abbrev LeftBy : List Moment → List ℕ → Type 0
LeftBy old image = Now (λ m. Leaves m image) old

left_first : (old : List Moment) → Now (HasAll (LeftBy old)) old
left_first [] = tt
left_first (m ∷ past) = λ image left. left

newest_of : (P : List ℕ → Type 0) (added old : List Moment) → AllLeft P added → Now (HasAll P) old → Now (HasAll P) (added ++ old)
newest_of P [] old each all = all
newest_of P (m ∷ ms) old each all = each.0

newest : (P : List ℕ → Type 0) (old new : List Moment) → LeavesOnly P old new → Now (HasAll P) old → Now (HasAll P) new
newest P old [] only all = tt
newest P old (now ∷ past) only all = subst (Now (HasAll P)) (sym only.grows) (newest_of P only.added old only.each all)

all_maps : (P Q : List ℕ → Type 0) (ms : List Moment) → ((image : List ℕ) → P image → Q image) → AllLeft P ms → AllLeft Q ms
all_maps P Q [] f all = tt
all_maps P Q (m ∷ ms) f all = ((λ image left. f image (all.0 image left)), all_maps P Q ms f all.1)

pub only_maps : (P Q : List ℕ → Type 0) (old new : List Moment) → ((image : List ℕ) → P image → Q image) → LeavesOnly P old new → LeavesOnly Q old new
only_maps P Q old [] f only = tt
only_maps P Q old (now ∷ past) f only = record { added = only.added; grows = only.grows; each = all_maps P Q only.added f only.each }

all_joins : (P : List ℕ → Type 0) (ms ns : List Moment) → AllLeft P ms → AllLeft P ns → AllLeft P (ms ++ ns)
all_joins P [] ns one two = two
all_joins P (m ∷ ms) ns one two = (one.0, all_joins P ms ns one.1 two)

only_joins : (P Q : List ℕ → Type 0) (old mid new : List Moment) → ((image : List ℕ) → Q image → P image) → LeavesOnly P old mid → LeavesOnly Q mid new
    → (mid ≡ [] → new ≡ []) → LeavesOnly P old new
only_joins P Q old mid [] f one two untold = tt
only_joins P Q old [] (n ∷ ns) f one two untold = let none = untold refl in cc
only_joins P Q old (m ∷ ms) (n ∷ ns) f one two untold = record {
  added = two.added ++ one.added;
  grows = two.grows ∙ ap (λ (l : List Moment). two.added ++ l) one.grows ∙ sym (append_assoc two.added one.added old);
  each = all_joins P two.added one.added (all_maps Q P two.added f two.each) one.each;
}

-- one after the other
only_then : (old mid new : List Moment) → HasOnlyRead old mid → Now IsSettled mid → HasOnlyRead mid new → Now ReadIsLeft old → LeavesOnly (LeftBy old) old new
only_then old [] new one settled two left = subst (LeavesOnly (LeftBy old) old) (sym (two.untold refl)) tt
only_then old (m ∷ ms) new one settled two left =
    let first = one.only left in
    let f = newest (LeftBy old) old (m ∷ ms) first (left_first old) in
    only_joins (LeftBy old) (LeftBy (m ∷ ms)) old (m ∷ ms) new f first (two.only (settled_read m settled)) two.untold

same_reads : (old mid new : List Moment) → HasOnlyRead old mid → HasOnlyRead mid new → Now (λ m. Now (λ n. n.reads ≡ m.reads) new) old
same_reads [] mid new one two = tt
same_reads (m ∷ ms) mid [] one two = tt
same_reads (m ∷ ms) [] (n ∷ ns) one two = let none = two.untold refl in cc
same_reads (m ∷ ms) (k ∷ ks) (n ∷ ns) one two = two.reads ∙ one.reads

pub read_then : (old mid new : List Moment) → HasOnlyRead old mid → Now IsSettled mid → HasOnlyRead mid new → HasOnlyRead old new
read_then old mid new one settled two = record {
  reads = same_reads old mid new one two;
  only = only_then old mid new one settled two;
  untold = λ e. two.untold (one.untold e);
}

pub told_then : (old mid new : List Moment) → HasTold old mid → HasTold mid new → HasTold old new
told_then old mid new one two = record {
  only = read_then old mid new one.only one.settled two.only;
  told = λ e. one.told (two.told e);
  settled = two.settled;
}

-- what is so whatever the result is, is so at a fault
pub on_any_err : {T E P : Type 0} (r : Result T E) → P → OnErr r P
on_any_err (Ok x) p = tt
on_any_err (Err e) p = p
