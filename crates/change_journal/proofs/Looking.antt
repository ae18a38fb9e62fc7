-- What looks at a disk keep, one after the other.
use Rattle.std.proofs.Common.{◌≡◌, inl, inr, ℕ, List, [], ◌∷◌, Option, Some, None, refl, sym, ◌∙◌, ap, subst}
use Rattle.std.specs.Prelude.{Result, Ok, Err, OnOk, OnErr}
use Rattle.venue_ports.specs.Moments.{Moment, Range, Leaves, LeavesOnly, IsLeft, Now, Goes, GoesOrEnds, HasStayed, HasSynced, ReadIsLeft}
use Rattle.change_journal.specs.Looks.{Gives, Looks, given}
use Rattle.change_journal.specs.Readers.{HasOnlyRead, IsSettled}
use Rattle.change_journal.proofs.Kept.{HasAll, newest}
use Rattle.change_journal.proofs.Runs.{added_joins}
use Rattle.change_journal.proofs.Steps.{left_synced, left_stayed}

-- a disk that tells nothing from now on
pub ended_only : (old new : List Moment) → new ≡ [] → HasOnlyRead old new
ended_only [] new ended = record { reads = tt; only = λ left. subst (LeavesOnly _ []) (sym ended) tt; untold = λ e. ended }
ended_only (m ∷ past) new ended = record {
  reads = subst (Now (λ n. n.reads ≡ m.reads)) (sym ended) tt;
  only = λ left. subst (LeavesOnly _ (m ∷ past)) (sym ended) tt;
  untold = λ e. ended;
}

-- no call at all
pub same_only : (old : List Moment) → HasOnlyRead old old
same_only [] = record { reads = tt; only = λ left. tt; untold = λ e. e }
same_only (m ∷ past) = record { reads = refl; only = λ left. record { added = []; grows = refl; each = tt }; untold = λ e. e }

-- one moment more, at which a stop leaves what it might have left before
one_only : (m next : Moment) (past : List Moment) → next.reads ≡ m.reads → (ReadIsLeft m → (image : List ℕ) → Leaves next image → Leaves m image)
    → HasOnlyRead (m ∷ past) (next ∷ m ∷ past)
one_only m next past reads here = record {
  reads = reads;
  only = λ left. record { added = next ∷ []; grows = refl; each = (here left, tt) };
  untold = λ e. absurd cc;
}

pub stayed_only : (old new : List Moment) → GoesOrEnds HasStayed old new → HasOnlyRead old new
stayed_only old new (inl ended) = ended_only old new ended
stayed_only [] new (inr goes) = ended_only [] new goes
stayed_only (m ∷ past) new (inr goes) =
    subst (HasOnlyRead (m ∷ past)) (sym goes.2) (one_only m goes.0 past goes.1.reads (λ left image leaves. left_stayed m goes.0 goes.1 image leaves))

pub synced_only : (old new : List Moment) → Goes HasSynced old new → HasOnlyRead old new
synced_only [] new goes = ended_only [] new goes
synced_only (m ∷ past) new goes =
    subst (HasOnlyRead (m ∷ past)) (sym goes.2) (one_only m goes.0 past goes.1.reads (λ left image leaves.
    subst (Leaves m) (sym (left_synced m goes.0 goes.1 image leaves ∙ goes.1.reads)) left))

settled_left : (m : Moment) → IsSettled m → ReadIsLeft m
settled_left m settled = subst (λ (l : List Range). IsLeft m.synced l m.reads) (sym settled.loose) (sym settled.synced)

-- what a stop at the newest moment leaves, it might have left before
abbrev WasLeft : List Moment → List ℕ → Type 0
WasLeft old image = Now (λ m. Leaves m image) old

was_left : (old : List Moment) → Now (HasAll (WasLeft old)) old
was_left [] = tt
was_left (m ∷ past) = λ image left. left

-- one look after the other
then_reads : (old mid new : List Moment) → HasOnlyRead old mid → HasOnlyRead mid new → Now (λ m. Now (λ n. n.reads ≡ m.reads) new) old
then_reads [] mid new one two = tt
then_reads (m ∷ past) mid [] one two = tt
then_reads (m ∷ past) [] (n ∷ ns) one two = let none = two.untold refl in absurd cc
then_reads (m ∷ past) (k ∷ ks) (n ∷ ns) one two = let first = one.reads in let second = two.reads in second ∙ first

then_only : (old mid new : List Moment) → HasOnlyRead old mid → Now IsSettled mid → HasOnlyRead mid new → Now ReadIsLeft old → LeavesOnly (WasLeft old) old new
then_only old [] new one settled two left = subst (LeavesOnly (WasLeft old) old) (sym (two.untold refl)) tt
then_only old (k ∷ ks) new one settled two left =
    let first = one.only left in
    let here = newest (WasLeft old) old (k ∷ ks) first (was_left old) in
    added_joins (WasLeft old) (WasLeft (k ∷ ks)) (WasLeft old) old (k ∷ ks) new (λ image is. is) (λ image is. here image is) first (two.only (settled_left k settled))
    two.untold

pub then_read : (old mid new : List Moment) → HasOnlyRead old mid → Now IsSettled mid → HasOnlyRead mid new → HasOnlyRead old new
then_read old mid new one settled two = record {
  reads = then_reads old mid new one two;
  only = λ left. then_only old mid new one settled two left;
  untold = λ e. two.untold (one.untold e);
}

pub then_looks : {old mid new : List Moment} → Looks old mid → Looks mid new → Looks old new
then_looks {old = old} {mid = mid} {new = new} one two = record {
  only = λ kept. then_read old mid new (one.only kept) (one.settled kept) (two.only (one.settled kept));
  settled = λ kept. two.settled (one.settled kept);
}

-- what is kept is still kept
pub stays_settled : (old new : List Moment) → GoesOrEnds HasStayed old new → Now IsSettled old → Now IsSettled new
stays_settled old new (inl ended) settled = subst (Now IsSettled) (sym ended) tt
stays_settled [] new (inr goes) settled = subst (Now IsSettled) (sym goes) tt
stays_settled (m ∷ past) new (inr goes) settled =
    subst (Now IsSettled) (sym goes.2)
    (record { synced = goes.1.synced ∙ settled.synced ∙ sym goes.1.reads; loose = goes.1.loose ∙ settled.loose })

pub synced_settled : (old new : List Moment) → Goes HasSynced old new → Now IsSettled new
synced_settled [] new goes = subst (Now IsSettled) (sym goes) tt
synced_settled (m ∷ past) new goes =
    subst (Now IsSettled) (sym goes.2) (record { synced = goes.1.synced ∙ sym goes.1.reads; loose = goes.1.loose })

pub looks_of : (old new : List Moment) → GoesOrEnds HasStayed old new → Looks old new
looks_of old new goes = record { only = λ kept. stayed_only old new goes; settled = λ kept. stays_settled old new goes kept }

pub looks_same : (old : List Moment) → Looks old old
looks_same old = record { only = λ kept. same_only old; settled = λ kept. kept }

-- what a read gives is told as before
pub stayed_given : (old new : List Moment) → Goes HasStayed old new → given new ≡ given old
stayed_given [] new goes = ap given goes
stayed_given (m ∷ past) new goes = ap given goes.2 ∙ ap Some goes.1.reads

some_is : {a b : List ℕ} → ◌≡◌ {A = Option (List ℕ)} (Some a) (Some b) → a ≡ b
some_is e = cc

none_is : {a : List ℕ} → ◌≡◌ {A = Option (List ℕ)} None (Some a) → ⊥
none_is e = cc

-- what a read gave has P, and still has it
pub still_gives : (P : List ℕ → Type 0) (old new : List Moment) → HasOnlyRead old new → Gives old P → Gives new P
still_gives P old [] only gives = λ bytes is. absurd (none_is is)
still_gives P [] (n ∷ ns) only gives = λ bytes is. let none = only.untold refl in absurd cc
still_gives P (m ∷ past) (n ∷ ns) only gives = λ bytes is. gives bytes (ap Some (sym only.reads) ∙ is)

-- before too, where it is told as before
pub gave : (P : List ℕ → Type 0) (old new : List Moment) → given new ≡ given old → Gives new P → Gives old P
gave P old new same gives = λ bytes is. gives bytes (same ∙ is)

-- both ways of saying it
pub gives_now : (P : List ℕ → Type 0) (moments : List Moment) → Now (λ m. P m.reads) moments → Gives moments P
gives_now P [] now = λ bytes is. absurd (none_is is)
gives_now P (m ∷ past) now = λ bytes is. subst P (some_is is) now

pub now_gives : (P : List ℕ → Type 0) (moments : List Moment) → Gives moments P → Now (λ m. P m.reads) moments
now_gives P [] gives = tt
now_gives P (m ∷ past) gives = gives m.reads refl

pub gives_maps : (P Q : List ℕ → Type 0) (moments : List Moment) → ((bytes : List ℕ) → P bytes → Q bytes) → Gives moments P → Gives moments Q
gives_maps P Q moments f gives = λ bytes is. f bytes (gives bytes is)

-- who tells nothing told nothing
pub given_told : (old new : List Moment) → given new ≡ given old → new ≡ [] → old ≡ []
given_told [] new same none = refl
given_told (m ∷ past) new same none = absurd (none_is (sym (ap given none) ∙ same))

-- a call that leaves all as it was, whatever it answered
pub stays_either : {T E : Type 0} (old new : List Moment) (r : Result T E) → OnOk r (Goes HasStayed old new) → OnErr r (GoesOrEnds HasStayed old new)
    → GoesOrEnds HasStayed old new
stays_either old new (Ok x) ok err = inr ok
stays_either old new (Err e) ok err = err
