-- Each step over the two copies keeps the rule.
use Rattle.std.proofs.Common.{◌≡◌, ◌≢◌, ℕ, List, [], ◌∷◌, set, refl, sym, ◌∙◌, subst, ⊎_elim}
use mathlib.Core.Option.{some}
use mathlib.Core.List.{IsPrefix}
use lib.ListN.{get_elem?}
use Rattle.crossbeam_utils.specs.Register.{Admits, Turns, TurnsAt, Forks, Merges}
use Rattle.atomic_table.proofs.Lists.{at_set, at_snoc}
use Rattle.logbook.specs.Pages.{Book}
use Rattle.venue_state.specs.Entry.{Entry}
use Rattle.board_copies.specs.declared.view.View.{View}
use Rattle.board_copies.specs.declared.held.Side.{Side}
use Rattle.board_copies.specs.Rules.{Kept, Fits, list_of, book_of, nobody, whole, informed, Sees, Publishes}
use Rattle.board_copies.proofs.Fronts.{prefix_self, prefix_trans}

fits_nobody : (h : List Entry) (b : Book) → Fits h b nobody
fits_nobody h b = ((h, refl), λ e. absurd (cc e))

fits_whole : (h : List Entry) (b : Book) → Fits h b (whole h b)
fits_whole h b = (prefix_self h, λ e. refl)

fits_longer : (h k : List Entry) (a b : Book) (v : View) → IsPrefix h k → b ≡ a → Fits h a v → Fits k b v
fits_longer h k a b v p e f = (prefix_trans v.seen h k f.0 p, λ t. f.1 t ∙ sym e)

kept_set : (h : List Entry) (b : Book) (views : List View) (seat : ℕ) (w : View)
    → ((j : ℕ) (u : View) → j ≢ seat → get_elem? views j ≡ some u → Fits h b u)
    → Fits h b w → (j : ℕ) (u : View) → get_elem? (set views seat w) j ≡ some u → Fits h b u
kept_set h b views seat w others mine j u e = ⊎_elim
    (λ (t : (j ≡ seat) × (w ≡ u)). subst (Fits h b) t.1 mine)
    (λ (t : (j ≢ seat) × (get_elem? views j ≡ some u)). others j u t.0 t.1)
    (at_set views seat j w u e)

-- a reader is made
pub admits : Admits Kept nobody
admits x views h seat v at = ⊎_elim (h seat v) (λ (e : nobody ≡ v). subst (Fits (list_of x) (book_of x)) e (fits_nobody (list_of x) (book_of x))) (at_snoc views nobody v seat at)

-- the copies are made
pub starts : (x : Side) → Kept x (nobody ∷ [])
starts x seat v at = ⊎_elim (λ (e : get_elem? [] seat ≡ some v). absurd (cc e)) (λ (e : nobody ≡ v). subst (Fits (list_of x) (book_of x)) e (fits_nobody (list_of x) (book_of x))) (at_snoc [] nobody v seat at)

-- a reader enters
pub sees : (seat : ℕ) (v : View) → Turns Kept seat v (λ x. x) Sees
sees seat v x views h at =
    let all = list_of x in
    let w = whole all (book_of x) in
    (w, kept_set all (book_of x) views seat w (λ j u _ e. h j u e) (fits_whole all (book_of x)), (h seat v at, refl))

-- the writer publishes
pub publishes : (seat : ℕ) (v : View) (x y : Side) → IsPrefix (list_of x) (list_of y) → book_of y ≡ book_of x → TurnsAt Kept seat v x y Publishes
publishes seat v x y longer same views h at =
    let all = list_of y in
    let w = whole all (book_of y) in
    (w, kept_set all (book_of y) views seat w (λ j u _ e. fits_longer (list_of x) all (book_of x) (book_of y) u longer same (h j u e)) (fits_whole all (book_of y)), refl)

-- the writer tells
pub forks : (seat : ℕ) (v : View) → Forks Kept seat v v v
forks seat v x views h at j u e = ⊎_elim (kept_set (list_of x) (book_of x) views seat v (λ i y _ f. h i y f) (h seat v at) j u) (λ (same : v ≡ u). subst (Fits (list_of x) (book_of x)) same (h seat v at)) (at_snoc (set views seat v) v u j e)

-- a reader learns
pub merges : (seat : ℕ) (v : View) (other : ℕ) (w : View) → Merges Kept seat v other w (informed v w) nobody
merges seat v other w x views h at apart there =
    let all = list_of x in
    let b = book_of x in
    let mine = h seat v at in
    let theirs : Fits all b w = ⊎_elim (λ (t : (other ≡ seat) × (informed v w ≡ w)). absurd (apart t.0)) (λ (t : (other ≢ seat) × (get_elem? views other ≡ some w)). h other w t.1) (at_set views seat other (informed v w) w there) in
    kept_set all b (set views seat (informed v w)) other nobody
    (λ i y _ f. kept_set all b views seat (informed v w) (λ k z _ g. h k z g) (mine.0, theirs.1) i y f)
    (fits_nobody all b)
