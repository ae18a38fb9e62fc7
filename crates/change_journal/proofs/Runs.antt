-- A run of calls, each from the newest moment to one more, or to a disk that has ceased to tell.
use Rattle.std.specs.Prelude.{Result, Ok, Err, OnErr}
use Rattle.std.proofs.Common.{◌≡◌, inl, inr, ℕ, List, [], ◌∷◌, ◌++◌, refl, sym, ◌∙◌, ap, subst, append_assoc}
use Rattle.venue_ports.specs.Moments.{Moment, Leaves, LeavesOnly, Goes, GoesOrEnds, Now, AllLeft, HasAdded}
use Rattle.change_journal.specs.Runs.{Run}

pub begins : {P : List ℕ → Type 0} {S : Moment → Type 0} (old : List Moment) → Now S old → Run P S old old
begins [] now = record { only = tt; now = tt; untold = λ e. e }
begins (m ∷ past) now = record { only = record { added = []; grows = refl; each = tt }; now = now; untold = λ e. e }

-- a disk that tells nothing from now on
ended_run : (P : List ℕ → Type 0) (T : Moment → Type 0) (old new : List Moment) → new ≡ [] → Run P T old new
ended_run P T old new ended = record { only = subst (LeavesOnly P old) (sym ended) tt; now = subst (Now T) (sym ended) tt; untold = λ e. ended }

goes_at : (P : List ℕ → Type 0) (S T : Moment → Type 0) (step : Moment → Moment → Type 0) (old mid new : List Moment) → Run P S old mid → Goes step mid new
    → ((m next : Moment) → S m → step m next → T next × ((image : List ℕ) → Leaves next image → P image)) → Run P T old new
goes_at P S T step old [] new run goes here = ended_run P T old new goes
goes_at P S T step old (m ∷ past) new run goes here =
    let next = goes.0 in
    let facts = here m next run.now goes.1 in
    let added : HasAdded P old (next ∷ m ∷ past) =
    record { added = next ∷ run.only.added; grows = ap (λ (l : List Moment). next ∷ l) run.only.grows; each = (facts.1, run.only.each) } in
    record {
      only = subst (LeavesOnly P old) (sym goes.2) added;
      now = subst (Now T) (sym goes.2) facts.0;
      untold = λ e. let none = run.untold e in cc;
    }

-- one call more
pub goes_on : (P : List ℕ → Type 0) (S T : Moment → Type 0) (step : Moment → Moment → Type 0) {old mid new : List Moment} → Run P S old mid → Goes step mid new
    → ((m next : Moment) → S m → step m next → T next × ((image : List ℕ) → Leaves next image → P image)) → Run P T old new
goes_on P S T step {old = old} {mid = mid} {new = new} run goes here = goes_at P S T step old mid new run goes here

-- one call more, that failed
pub fails_on : (P : List ℕ → Type 0) (S T : Moment → Type 0) (step : Moment → Moment → Type 0) {old mid new : List Moment} → Run P S old mid → GoesOrEnds step mid new
    → ((m next : Moment) → S m → step m next → T next × ((image : List ℕ) → Leaves next image → P image)) → Run P T old new
fails_on P S T step {old = old} {mid = mid} {new = new} run (inl ended) here = ended_run P T old new ended
fails_on P S T step {old = old} {mid = mid} {new = new} run (inr goes) here = goes_at P S T step old mid new run goes here

-- a disk that tells nothing behind a call that went on told nothing before
pub goes_told : (step : Moment → Moment → Type 0) (old new : List Moment) → Goes step old new → new ≡ [] → old ≡ []
goes_told step [] new goes none = refl
goes_told step (m ∷ past) new goes none = let is = goes.2 in cc

-- a fact of the newest moment for another
pub now_maps : {S T : Moment → Type 0} (moments : List Moment) → ((m : Moment) → S m → T m) → Now S moments → Now T moments
now_maps [] f now = tt
now_maps (m ∷ past) f now = f m now

all_maps : (P Q : List ℕ → Type 0) (ms : List Moment) → ((image : List ℕ) → P image → Q image) → AllLeft P ms → AllLeft Q ms
all_maps P Q [] f all = tt
all_maps P Q (m ∷ ms) f all = ((λ image left. f image (all.0 image left)), all_maps P Q ms f all.1)

all_joins : (P : List ℕ → Type 0) (ms ns : List Moment) → AllLeft P ms → AllLeft P ns → AllLeft P (ms ++ ns)
all_joins P [] ns one two = two
all_joins P (m ∷ ms) ns one two = (one.0, all_joins P ms ns one.1 two)

added_maps : (P R : List ℕ → Type 0) (old new : List Moment) → ((image : List ℕ) → P image → R image) → LeavesOnly P old new → LeavesOnly R old new
added_maps P R old [] f only = tt
added_maps P R old (n ∷ ns) f only = record { added = only.added; grows = only.grows; each = all_maps P R only.added f only.each }

pub added_joins : (P Q R : List ℕ → Type 0) (old mid new : List Moment) → ((image : List ℕ) → P image → R image) → ((image : List ℕ) → Q image → R image)
    → LeavesOnly P old mid → LeavesOnly Q mid new → (mid ≡ [] → new ≡ []) → LeavesOnly R old new
added_joins P Q R old mid [] f g one two untold = tt
added_joins P Q R old [] (n ∷ ns) f g one two untold = let none = untold refl in cc
added_joins P Q R old (m ∷ ms) (n ∷ ns) f g one two untold = record {
  added = two.added ++ one.added;
  grows = two.grows ∙ ap (λ (l : List Moment). two.added ++ l) one.grows ∙ sym (append_assoc two.added one.added old);
  each = all_joins R two.added one.added (all_maps Q R two.added g two.each) (all_maps P R one.added f one.each);
}

-- one run after another
pub then : (P Q R : List ℕ → Type 0) (S T : Moment → Type 0) (old mid new : List Moment) → ((image : List ℕ) → P image → R image) → ((image : List ℕ) → Q image → R image)
    → Run P S old mid → Run Q T mid new → Run R T old new
then P Q R S T old mid new f g one two = record {
  only = added_joins P Q R old mid new f g one.only two.only two.untold;
  now = two.now;
  untold = λ e. two.untold (one.untold e);
}

-- a run said more weakly
pub weaker : (P R : List ℕ → Type 0) (S T : Moment → Type 0) (old new : List Moment) → ((image : List ℕ) → P image → R image)
    → ((m : Moment) → S m → T m) → Run P S old new → Run R T old new
weaker P R S T old new f h run = record { only = added_maps P R old new f run.only; now = now_maps new h run.now; untold = run.untold }

pub on_err : {T E P : Type 0} (r : Result T E) → P → OnErr r P
on_err (Ok x) p = tt
on_err (Err e) p = p
