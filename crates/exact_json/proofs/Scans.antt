-- The steps of the scan without recursion.
use Rattle.std.proofs.Common.{◌≡◌, ◌≢◌, ℕ, zero, suc, ◌+◌, ◌-◌, ◌<◌, ◌≤◌, Bool, true, false, cond, ◌==◌, ◌∙◌, List, [], ◌∷◌, drop, length, Option, Some, None, is_some, option_and_then, option_map, IfSome, slice_get, refl, sym, ap, ap₂, subst, arith}
use Rattle.std.proofs.lemmas.Bool.{false≢true}
use Rattle.exact_json.specs.Json.{Json, null}
use Rattle.exact_json.specs.Number.{head}
use Rattle.exact_json.specs.Kinds.{opening, closing, KindAt}
use Rattle.exact_json.specs.declared.kinds.Kind.{Kind}
use Rattle.exact_json.specs.declared.kinds.Kind.TheVariants.{List as of_list, Object as of_object}
use Rattle.exact_json.specs.Reading.{Parse, parse_map, skip, more_step, more_elements, name_at, pair_at, scalar_at, list_of, object_of, value}
use Rattle.exact_json.specs.Scanning.{rest_of, past, element_value, past_open, past_all, AllAbove, Ends, Scanning, Enters}
use Rattle.exact_json.specs.declared.fault.JsonFault.TheVariants.{Text}
use Rattle.std.specs.Borrow.{Bor}
use Rattle.std.specs.Option.{ok_or}
use Rattle.std.proofs.lemmas.Option.{same_Some}
use Rattle.exact_json.proofs.Lists.{step, at_comma, at_close, at_neither, no_elements, some_elements, value_list, value_object, value_scalar}

none_some : {A : Type 0} {x : A} → None ≡ Some x → ⊥
none_some h = false≢true (ap is_some h)

-- ---- elements

rest_map : {A B : Type 0} (f : A → B) (r : Option (A × List ℕ)) → rest_of (parse_map f r) ≡ rest_of r
rest_map f None = refl
rest_map f (Some p) = refl

-- which element it was doesn't matter
any_element : {E : Type 0} (close : ℕ) (more : Parse (List E)) (e f : E) (m : List ℕ) → rest_of (more_step close more e m) ≡ rest_of (more_step close more f m)
any_element {E} close more e f m = by_mark (head m == 44) (head m == close)
  where
    by_mark : (q w : Bool) → rest_of (cond q (parse_map (λ (es : List E). e ∷ es) (more (drop 1 m))) (cond w (Some (e ∷ [], drop 1 m)) None)) ≡ rest_of (cond q (parse_map (λ (es : List E). f ∷ es) (more (drop 1 m))) (cond w (Some (f ∷ [], drop 1 m)) None))
    by_mark true w = rest_map (λ es. e ∷ es) (more (drop 1 m)) ∙ sym (rest_map (λ es. f ∷ es) (more (drop 1 m)))
    by_mark false true = refl
    by_mark false false = refl

chained : {E : Type 0} (close : ℕ) (more : Parse (List E)) (f : E) (r : Option (E × List ℕ)) → rest_of (option_and_then (λ q. more_step close more q.0 (skip q.1)) r) ≡ option_and_then (λ z. rest_of (more_step close more f (skip z))) (rest_of r)
chained close more f None = refl
chained close more f (Some q) = any_element close more q.0 f (skip q.1)

-- one turn
past_more : {E : Type 0} (close : ℕ) (p : Parse E) (f : E) (n : ℕ) (b : List ℕ) → 0 < n → rest_of (more_elements close p n b) ≡ option_and_then (λ z. rest_of (more_step close (more_elements close p (n - 1)) f (skip z))) (rest_of (p (skip b)))
past_more close p f n b h = ap rest_of (step close p n b h) ∙ chained close (more_elements close p (n - 1)) f (p (skip b))

past_comma : {E : Type 0} (close : ℕ) (p : Parse E) (f : E) (n : ℕ) (m : List ℕ) → head m ≡ 44 → rest_of (more_step close (more_elements close p n) f m) ≡ rest_of (more_elements close p n (drop 1 m))
past_comma close p f n m comma = ap rest_of (at_comma close (more_elements close p n) f m comma) ∙ rest_map (λ es. f ∷ es) (more_elements close p n (drop 1 m))

-- ---- by kinds

more_past : ℕ → Kind → ℕ → List ℕ → Option (List ℕ)
more_past d of_list n b = rest_of (more_elements 93 (value d) n b)
more_past d of_object n b = rest_of (more_elements 125 (pair_at (value d)) n b)

pair_past : (d : ℕ) (o : Option (List ℕ × List ℕ)) → rest_of {A = List ℕ × Json} (option_and_then (λ k. parse_map (λ j. (k.0, j)) (value d (skip k.1))) o) ≡ option_and_then (past d) (option_map skip (rest_of o))
pair_past d None = refl
pair_past d (Some q) = rest_map (λ j. (q.0, j)) (value d (skip q.1))

turn : (d : ℕ) (k : Kind) (n : ℕ) (b : List ℕ) → 0 < n → more_past d k n b ≡ option_and_then (past_open d k (n - 1)) (option_and_then (past d) (element_value k b))
unfolding more_past
turn d of_list n b h = past_more 93 (value d) null n b h
turn d of_object n b h = past_more 125 (pair_at (value d)) ([], null) n b h ∙ ap (option_and_then (past_open d of_object (n - 1))) (pair_past d (name_at (skip b)))

-- a comma, and what follows it
on_comma : (d : ℕ) (k : Kind) (n : ℕ) (b m tail : List ℕ) → m ≡ skip b → head m ≡ 44 → tail ≡ drop 1 m → 0 < n → past_open d k n b ≡ option_and_then (past_open d k (n - 1)) (option_and_then (past d) (element_value k tail))
unfolding more_past
on_comma d of_list n b m tail from comma left h =
    ap (λ z. rest_of (more_step 93 (more_elements 93 (value d) n) null z)) (sym from) ∙ past_comma 93 (value d) null n m comma ∙ ap (more_past d of_list n) (sym left) ∙ turn d of_list n tail h
on_comma d of_object n b m tail from comma left h =
    ap (λ z. rest_of (more_step 125 (more_elements 125 (pair_at (value d)) n) ([], null) z)) (sym from) ∙ past_comma 125 (pair_at (value d)) ([], null) n m comma ∙ ap (more_past d of_object n) (sym left) ∙ turn d of_object n tail h

on_close : (d : ℕ) (k : Kind) (n : ℕ) (b m rest : List ℕ) → m ≡ skip b → head m ≡ closing k → rest ≡ drop 1 m → past_open d k n b ≡ Some rest
on_close d of_list n b m rest from closed left =
    ap (λ z. rest_of (more_step 93 (more_elements 93 (value d) n) null z)) (sym from) ∙ ap rest_of (at_close 93 (more_elements 93 (value d) n) null m (λ e. omega (arith, e)) closed) ∙ ap Some (sym left)
on_close d of_object n b m rest from closed left =
    ap (λ z. rest_of (more_step 125 (more_elements 125 (pair_at (value d)) n) ([], null) z)) (sym from) ∙ ap rest_of (at_close 125 (more_elements 125 (pair_at (value d)) n) ([], null) m (λ e. omega (arith, e)) closed) ∙ ap Some (sym left)

on_neither : (d : ℕ) (k : Kind) (n : ℕ) (b m : List ℕ) → m ≡ skip b → head m ≢ 44 → head m ≢ closing k → past_open d k n b ≡ None
on_neither d of_list n b m from nc nb =
    ap (λ z. rest_of (more_step 93 (more_elements 93 (value d) n) null z)) (sym from) ∙ ap rest_of (at_neither 93 (more_elements 93 (value d) n) null m nc nb)
on_neither d of_object n b m from nc nb =
    ap (λ z. rest_of (more_step 125 (more_elements 125 (pair_at (value d)) n) ([], null) z)) (sym from) ∙ ap rest_of (at_neither 125 (more_elements 125 (pair_at (value d)) n) ([], null) m nc nb)

on_opening : (d : ℕ) (k : Kind) (b tail s : List ℕ) → head b ≡ opening k → tail ≡ drop 1 b → s ≡ skip tail → head s ≢ closing k → past (suc d) b ≡ more_past d k (suc (length s)) s
unfolding more_past
on_opening d of_list b tail s h at from ne = ap rest_of (value_list d b tail h at) ∙ rest_map list_of _ ∙ ap rest_of (some_elements 93 (value d) tail s from ne)
on_opening d of_object b tail s h at from ne = ap rest_of (value_object d b tail h at) ∙ rest_map object_of _ ∙ ap rest_of (some_elements 125 (pair_at (value d)) tail s from ne)

on_empty : (d : ℕ) (k : Kind) (b tail s rest : List ℕ) → head b ≡ opening k → tail ≡ drop 1 b → s ≡ skip tail → head s ≡ closing k → rest ≡ drop 1 s → past (suc d) b ≡ Some rest
on_empty d of_list b tail s rest h at from closed left = ap rest_of (value_list d b tail h at ∙ ap (parse_map list_of) (no_elements 93 (value d) tail s rest from closed left))
on_empty d of_object b tail s rest h at from closed left = ap rest_of (value_object d b tail h at ∙ ap (parse_map object_of) (no_elements 125 (pair_at (value d)) tail s rest from closed left))

-- the first element of a list or object that isn't empty
on_first : (d : ℕ) (k : Kind) (b tail s : List ℕ) (o : Option (List ℕ)) → head b ≡ opening k → tail ≡ drop 1 b → s ≡ skip tail → head s ≢ closing k → o ≡ element_value k s → past (suc d) b ≡ option_and_then (past_open d k (length s)) (option_and_then (past d) o)
on_first d k b tail s o h at from ne is =
    let less : suc (length s) - 1 ≡ length s = omega arith in
    on_opening d k b tail s h at from ne ∙ turn d k (suc (length s)) s (omega arith) ∙ ap₂ (λ n q. option_and_then (past_open d k n) (option_and_then (past d) q)) less (sym is)

-- ---- the state of the scan

twice : {A B C : Type 0} (g : B → Option C) (f : A → Option B) (x : Option A) → option_and_then g (option_and_then f x) ≡ option_and_then (λ a. option_and_then g (f a)) x
twice g f None = refl
twice g f (Some a) = refl

lower : (k m : ℕ) (ns : List ℕ) → m ≤ k → AllAbove k ns → AllAbove m ns
lower k m [] h a = tt
lower k m (n ∷ ns) h a = (omega (arith, a.0), lower k m ns h a.1)

from_next : (P : ℕ → Type 0) (m : ℕ) → ((d : ℕ) → m ≤ d → P (suc d)) → (d : ℕ) → suc m ≤ d → P d
from_next P m f zero h = absurd (omega arith)
from_next P m f (suc d) h = f d (omega arith)

-- nothing can be read at the value that is to come
pub stuck : (text b : List ℕ) (ks : List Kind) → Scanning text ks true b → ((d : ℕ) → past (suc d) b ≡ None) → Ends text None
stuck text b ks i f = (
  suc i.least + length ks,
  λ d le.
      let n : ℕ = d - length ks - 1 in
      let index : d ≡ suc (d - length ks - 1) + length ks = omega (arith, le) in
      ap (λ e. past e text) index ∙ i.same (suc (d - length ks - 1)) (omega (arith, le)) ∙ ap (option_and_then (past_all (suc (d - length ks - 1)) ks i.turns)) (f (d - length ks - 1)),
)

pub begun : (text b tail s start : List ℕ) (k : Kind) (ks : List Kind) → Scanning text ks true b → head b ≡ opening k → tail ≡ drop 1 b → length tail + 1 ≡ length b → s ≡ skip tail → length s ≤ length tail → head s ≢ closing k
    → Some start ≡ element_value k s → length start ≤ length s → Scanning text (k ∷ ks) true start
begun text b tail s start k ks i h at shorter from less ne is within = record {
  turns = length s ∷ i.turns;
  count = omega (arith, i.count);
  enough = (within, lower (length b) (length start) i.turns (omega (arith, shorter, less, within)) i.enough);
  least = i.least;
  same = λ d le.
      let index : d + length (k ∷ ks) ≡ suc d + length ks = omega arith in
      ap (λ e. past e text) index ∙ i.same (suc d) (omega (arith, le)) ∙ ap (option_and_then (past_all (suc d) ks i.turns)) (on_first d k b tail s (Some start) h at from ne is)
      ∙ twice (past_all (suc d) ks i.turns) (past_open d k (length s)) (past d start);
}

pub not_begun : (text b tail s : List ℕ) (k : Kind) (ks : List Kind) → Scanning text ks true b → head b ≡ opening k → tail ≡ drop 1 b → s ≡ skip tail → head s ≢ closing k → None ≡ element_value k s → Ends text None
not_begun text b tail s k ks i h at from ne is = stuck text b ks i (λ d. on_first d k b tail s None h at from ne is)

pub passed_empty : (text b tail s rest : List ℕ) (k : Kind) (ks : List Kind) → Scanning text ks true b → head b ≡ opening k → tail ≡ drop 1 b → length tail + 1 ≡ length b → s ≡ skip tail → length s ≤ length tail → head s ≡ closing k → rest ≡ drop 1 s → length rest + 1 ≡ length s
    → Scanning text ks false rest
passed_empty text b tail s rest k ks i h at shorter from less closed left within = record {
  turns = i.turns;
  count = i.count;
  enough = lower (length b) (length rest) i.turns (omega (arith, shorter, less, within)) i.enough;
  least = suc i.least;
  same = from_next (λ d. past (d + length ks) text ≡ option_and_then (past_all d ks i.turns) (Some rest)) i.least (λ d le. i.same (suc d) (omega (arith, le)) ∙ ap (option_and_then (past_all (suc d) ks i.turns)) (on_empty d k b tail s rest h at from closed left));
}

pub passed_scalar : (text b rest : List ℕ) (ks : List Kind) → Scanning text ks true b → KindAt (head b) None → Some rest ≡ rest_of (scalar_at b) → length rest ≤ length b → Scanning text ks false rest
passed_scalar text b rest ks i h some within = record {
  turns = i.turns;
  count = i.count;
  enough = lower (length b) (length rest) i.turns within i.enough;
  least = i.least;
  same = λ d le. i.same d le ∙ ap (option_and_then (past_all d ks i.turns)) (ap rest_of (value_scalar d b h.0 h.1) ∙ sym some);
}

pub no_scalar : (text b : List ℕ) (ks : List Kind) → Scanning text ks true b → KindAt (head b) None → None ≡ rest_of (scalar_at b) → Ends text None
no_scalar text b ks i h none = stuck text b ks i (λ d. ap rest_of (value_scalar (suc d) b h.0 h.1) ∙ sym none)

all_passed_by : (text b : List ℕ) (ks : List Kind) → None ≡ slice_get ks 0 → (ns : List ℕ) (m : ℕ) → ((d : ℕ) → m ≤ d → past (d + length ks) text ≡ past_all d ks ns b) → Ends text (Some b)
all_passed_by text b [] none ns m f = (m, λ d le. let index : d ≡ d + 0 = omega arith in ap (λ e. past e text) index ∙ f d le)
all_passed_by text b (k ∷ ks) none ns m f = absurd (none_some none)

pub all_passed : (text b : List ℕ) (ks : List Kind) → None ≡ slice_get ks 0 → Scanning text ks false b → Ends text (Some b)
all_passed text b ks none i = all_passed_by text b ks none i.turns i.least i.same

-- what holds of each state with that kind innermost
pub with_kind : (P : List Kind → Type 0) (k : Kind) → ((ks : List Kind) → P (k ∷ ks)) → (ks : List Kind) → Some k ≡ slice_get ks 0 → P ks
with_kind P k f [] e = absurd (none_some (sym e))
with_kind P k f (j ∷ ks) e = subst (λ i. P (i ∷ ks)) (same_Some k j e) (f ks)

-- the state behind an element, with the bounds taken apart
module _ (text b : List ℕ) (k : Kind) (ks : List Kind) (m : ℕ) where
  comma_by : (ns : List ℕ) → length ns ≡ suc (length ks) → AllAbove (length b) ns → ((d : ℕ) → m ≤ d → past (d + suc (length ks)) text ≡ past_all d (k ∷ ks) ns b) → (mark tail start : List ℕ) → mark ≡ skip b → length mark ≤ length b → head mark ≡ 44 → tail ≡ drop 1 mark → length tail + 1 ≡ length mark
      → Some start ≡ element_value k tail → length start ≤ length tail → Scanning text (k ∷ ks) true start
  comma_by [] c a f mark tail start from w1 comma left w2 is w3 = absurd (omega (arith, c))
  comma_by (n ∷ ns) c a f mark tail start from w1 comma left w2 is w3 = record {
    turns = (n - 1) ∷ ns;
    count = c;
    enough = (omega (arith, a.0, w1, w2, w3), lower (length b) (length start) ns (omega (arith, w1, w2, w3)) a.1);
    least = m;
    same = λ d le. f d le ∙ ap (option_and_then (past_all (suc d) ks ns)) (on_comma d k n b mark tail from comma left (omega (arith, a.0, w1, w2)) ∙ ap (λ o. option_and_then (past_open d k (n - 1)) (option_and_then (past d) o)) (sym is)) ∙ twice (past_all (suc d) ks ns) (past_open d k (n - 1)) (past d start);
  }

  no_element_by : (ns : List ℕ) → length ns ≡ suc (length ks) → AllAbove (length b) ns → ((d : ℕ) → m ≤ d → past (d + suc (length ks)) text ≡ past_all d (k ∷ ks) ns b) → (mark tail : List ℕ) → mark ≡ skip b → length mark ≤ length b → head mark ≡ 44 → tail ≡ drop 1 mark → length tail + 1 ≡ length mark
      → None ≡ element_value k tail → Ends text None
  no_element_by [] c a f mark tail from w1 comma left w2 is = absurd (omega (arith, c))
  no_element_by (n ∷ ns) c a f mark tail from w1 comma left w2 is = (
    m + suc (length ks),
    λ d le.
        let index : d ≡ (d - suc (length ks)) + suc (length ks) = omega (arith, le) in
        ap (λ e. past e text) index ∙ f (d - suc (length ks)) (omega (arith, le))
        ∙ ap (option_and_then (past_all (suc (d - suc (length ks))) ks ns)) (on_comma (d - suc (length ks)) k n b mark tail from comma left (omega (arith, a.0, w1, w2)) ∙ ap (λ o. option_and_then (past_open (d - suc (length ks)) k (n - 1)) (option_and_then (past (d - suc (length ks))) o)) (sym is)),
  )

  close_by : (ns : List ℕ) → length ns ≡ suc (length ks) → AllAbove (length b) ns → ((d : ℕ) → m ≤ d → past (d + suc (length ks)) text ≡ past_all d (k ∷ ks) ns b) → (mark rest : List ℕ) → mark ≡ skip b → length mark ≤ length b → head mark ≡ closing k → rest ≡ drop 1 mark → length rest + 1 ≡ length mark
      → Scanning text ks false rest
  close_by [] c a f mark rest from w1 closed left w2 = absurd (omega (arith, c))
  close_by (n ∷ ns) c a f mark rest from w1 closed left w2 = record {
    turns = ns;
    count = omega (arith, c);
    enough = lower (length b) (length rest) ns (omega (arith, w1, w2)) a.1;
    least = suc m;
    same = from_next (λ d. past (d + length ks) text ≡ past_all d ks ns rest) m (λ d le.
        let index : suc d + length ks ≡ d + suc (length ks) = omega arith in
        ap (λ e. past e text) index ∙ f d le ∙ ap (option_and_then (past_all (suc d) ks ns)) (on_close d k n b mark rest from closed left));
  }

  neither_by : (ns : List ℕ) → length ns ≡ suc (length ks) → ((d : ℕ) → m ≤ d → past (d + suc (length ks)) text ≡ past_all d (k ∷ ks) ns b) → (mark : List ℕ) → mark ≡ skip b → head mark ≢ 44 → head mark ≢ closing k → Ends text None
  neither_by [] c f mark from nc nb = absurd (omega (arith, c))
  neither_by (n ∷ ns) c f mark from nc nb = (
    m + suc (length ks),
    λ d le.
        let index : d ≡ (d - suc (length ks)) + suc (length ks) = omega (arith, le) in
        ap (λ e. past e text) index ∙ f (d - suc (length ks)) (omega (arith, le)) ∙ ap (option_and_then (past_all (suc (d - suc (length ks))) ks ns)) (on_neither (d - suc (length ks)) k n b mark from nc nb),
  )

pub passed_comma : (text b mark tail start : List ℕ) (k : Kind) (ks : List Kind) → Some k ≡ slice_get ks 0 → Scanning text ks false b → mark ≡ skip b → length mark ≤ length b → head mark ≡ 44 → tail ≡ drop 1 mark → length tail + 1 ≡ length mark → Some start ≡ element_value k tail → length start ≤ length tail
    → Scanning text ks true start
passed_comma text b mark tail start k ks e i from w1 comma left w2 is w3 =
    with_kind (λ l. Scanning text l false b → Scanning text l true start) k (λ l s. comma_by text b k l s.least s.turns s.count s.enough s.same mark tail start from w1 comma left w2 is w3) ks e i

pub no_element_behind : (text b mark tail : List ℕ) (k : Kind) (ks : List Kind) → Some k ≡ slice_get ks 0 → Scanning text ks false b → mark ≡ skip b → length mark ≤ length b → head mark ≡ 44 → tail ≡ drop 1 mark → length tail + 1 ≡ length mark → None ≡ element_value k tail → Ends text None
no_element_behind text b mark tail k ks e i from w1 comma left w2 is =
    with_kind (λ l. Scanning text l false b → Ends text None) k (λ l s. no_element_by text b k l s.least s.turns s.count s.enough s.same mark tail from w1 comma left w2 is) ks e i

pub passed_close : (text b mark rest : List ℕ) (k : Kind) (ks : List Kind) → Some k ≡ slice_get ks 0 → Scanning text ks false b → mark ≡ skip b → length mark ≤ length b → head mark ≡ closing k → rest ≡ drop 1 mark → length rest + 1 ≡ length mark → Scanning text (drop 1 ks) false rest
passed_close text b mark rest k ks e i from w1 closed left w2 =
    with_kind (λ l. Scanning text l false b → Scanning text (drop 1 l) false rest) k (λ l s. close_by text b k l s.least s.turns s.count s.enough s.same mark rest from w1 closed left w2) ks e i

pub passed_neither : (text b mark : List ℕ) (k : Kind) (ks : List Kind) → Some k ≡ slice_get ks 0 → Scanning text ks false b → mark ≡ skip b → head mark ≢ 44 → head mark ≢ closing k → Ends text None
passed_neither text b mark k ks e i from nc nb =
    with_kind (λ l. Scanning text l false b → Ends text None) k (λ l s. neither_by text b k l s.least s.turns s.count s.same mark from nc nb) ks e i

-- a scalar, or none
pub scalar_entered : (text b : List ℕ) (ks : List Kind) (o : Option (Bor (List ℕ))) → Scanning text ks true b → KindAt (head b) None → option_map (λ r. r.now) o ≡ rest_of (scalar_at b) → IfSome o (λ r. length r.now ≤ length b) → Enters text ks (ok_or o Text)
scalar_entered text b ks None i h is within = no_scalar text b ks i h is
scalar_entered text b ks (Some r) i h is within = passed_scalar text b r.now ks i h is within
