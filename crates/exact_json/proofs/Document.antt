-- A whole text: a value, with white space on both sides.
use Rattle.std.proofs.Common.{◌≡◌, ℕ, ◌+◌, ◌<◌, ◌≤◌, List, [], ◌∷◌, ◌++◌, Option, Some, None, is_some, length, Result, Ok, Err, IfOk, Bool, true, false, nat_lt, refl, sym, ap, ◌∙◌, arith, append_assoc, subst}
use Rattle.std.proofs.lemmas.Bool.{false≢true, and_parts}
use Rattle.std.proofs.lemmas.List.{append-nil}
use Rattle.exact_json.specs.Json.{Json, null, depth}
use Rattle.exact_json.specs.Number.{head, ends_value}
use Rattle.exact_json.specs.Grammar.{IsSpace, IsJson, Starts, Misread, bare}
use Rattle.exact_json.specs.Reading.{skip, value, Fails}
use Rattle.exact_json.specs.declared.fault.JsonFault.{JsonFault}
use Rattle.exact_json.specs.declared.fault.JsonFault.TheVariants.{Text, Deep, OutOfMemory}
use Rattle.exact_json.specs.Scanning.{Reads, Ends, rest_of}
use Rattle.exact_json.proofs.Fronts.{skipped, spelled}
use Rattle.std.specs.Str.{IsUtf8}
use Rattle.exact_json.proofs.Agreement.{skip_over, skip_value, begins, space_ends, again}

first_or : Option (Json × List ℕ) → Json
first_or None = null
first_or (Some p) = p.0

second_or : Option (Json × List ℕ) → List ℕ
second_or None = []
second_or (Some p) = p.1

rest_or : Option (List ℕ) → List ℕ
rest_or None = []
rest_or (Some p) = p

pub same_value : (b : List ℕ) (j k : Json) (z w : List ℕ) → Reads b j z → ((d : ℕ) → 64 ≤ d → value d b ≡ Some (k, w)) → (k ≡ j) × (w ≡ z)
unfolding first_or second_or
same_value b j k z w r f =
    let e = sym (f (64 + depth j) (omega arith)) ∙ r (64 + depth j) (omega arith) in
    (ap (λ o. first_or o) e, ap (λ o. second_or o) e)

pub same_rest : (b : List ℕ) (j : Json) (z w : List ℕ) → Reads b j z → Ends b (Some w) → w ≡ z
unfolding rest_or
same_rest b j z w r f = ap (λ o. rest_or o) (sym (f.1 (f.0 + depth j) (omega arith)) ∙ ap rest_of (r (f.0 + depth j) (omega arith)))

pub blank : (z : List ℕ) → IsSpace z → skip z ≡ []
blank z h = ap skip (sym (append-nil z)) ∙ skip_over z [] h

blank_ends : (z : List ℕ) → IsSpace z → ends_value (head z) ≡ true
blank_ends [] h = refl
blank_ends (x ∷ z) h = space_ends x (and_parts _ _ h).0

pub whole : (b start : List ℕ) (j : Json) → IsJson b j → start ≡ skip (bare b) → (z : List ℕ) × IsSpace z × Reads start j z
whole b start j h at =
    let pad = h.1 in
    let a = pad.0 in
    let s = pad.1 in
    let z = pad.2 in
    let here : start ≡ s ++ z = at ∙ ap skip (pad.3 ∙ append_assoc a s z) ∙ skip_over a (s ++ z) pad.4 ∙ skip_value s z (begins j s pad.5) in
    (z, pad.6, λ d le. ap (value d) here ∙ again j s pad.5 d le z (blank_ends z pad.6))

not_none : {A : Type 0} {x : A} → Some x ≡ None → ⊥
not_none h = false≢true (ap is_some (sym h))

deeper : (n : ℕ) (b : Bool) → nat_lt 64 n ≡ b → (n ≤ 64 → ⊥) → 64 < n
deeper n true h f = grind (arith, h)
deeper n false h f = let le : n ≤ 64 = grind (arith, h) in absurd (f le)

pub misread : (b : List ℕ) (j : Json) (z : List ℕ) → Reads b j z → (e : JsonFault) → Fails 64 (λ d. value d b) e → Misread j e
misread b j z r Text f = not_none (sym (r (64 + depth j) (omega arith)) ∙ f (64 + depth j) (omega arith))
misread b j z r Deep f = deeper (depth j) (nat_lt 64 (depth j)) refl (λ le. not_none (sym (r 64 le) ∙ f))
misread b j z r OutOfMemory f = tt

nothing_but_space : (b : List ℕ) → skip b ≡ [] → IsSpace b
nothing_but_space b h = let sp = skipped b in subst IsSpace (sym (sp.1 ∙ ap (λ l. sp.0 ++ l) h ∙ append-nil sp.0)) sp.2

pub starts_with_value : (b : List ℕ) (j : Json) (w : List ℕ) → ((d : ℕ) → 64 ≤ d → value d b ≡ Some (j, w)) → skip w ≡ [] → Starts b j × (depth j ≤ 64)
starts_with_value b j w f h = let s = spelled 64 b j w (f 64 (omega arith)) in ((s.0, w, s.1, s.2, nothing_but_space w h), s.3)

passed : (o : Option (Json × List ℕ)) (w : List ℕ) → rest_of o ≡ Some w → (j : Json) × (o ≡ Some (j, w))
unfolding rest_or
passed None w h = absurd (not_none (sym h))
passed (Some p) w h = (p.0, ap (λ l. Some (p.0, l)) (ap (λ o. rest_or o) h))

pub starts_deep : (b w : List ℕ) → value 64 b ≡ None → Ends b (Some w) → skip w ≡ [] → (j : Json) × Starts b j × (64 < depth j)
starts_deep b w none ends h =
    let p = passed (value ends.0 b) w (ends.1 ends.0 (omega arith)) in
    let j = p.0 in
    let s = spelled ends.0 b j w p.1 in
    let space = nothing_but_space w h in
    let reads : Reads b j w = λ d le. ap (value d) s.1 ∙ again j s.0 s.2 d le w (blank_ends w space) in
    (j, (s.0, w, s.1, s.2, space), misread b j w reads Deep none)

-- with the white space in front
pub is_json : (b start : List ℕ) (j : Json) → IsUtf8 (bare b) → start ≡ skip (bare b) → Starts start j → IsJson b j
is_json b start j u at h =
    let sp = skipped (bare b) in
    (u, (sp.0, h.0, h.1, sp.1 ∙ ap (λ l. sp.0 ++ l) (sym at ∙ h.2) ∙ sym (append_assoc sp.0 h.0 h.1), sp.2, h.3, h.4))

pub if_ok : {X E : Type 0} {P Q : X → Type 0} (r : Result X E) → ((x : X) → P x → Q x) → IfOk r P → IfOk r Q
if_ok (Ok x) f h = f x h
if_ok (Err e) f h = h

pub no_bytes : (b : List ℕ) → length b ≡ 0 → b ≡ []
no_bytes [] h = refl
no_bytes (x ∷ b) h = absurd (omega (arith, h))

pub one_value : (b : List ℕ) (j k : Json) → IsJson b j → IsJson b k → j ≡ k
unfolding first_or
one_value b j k h g =
    let u = whole b (skip (bare b)) j h refl in
    let v = whole b (skip (bare b)) k g refl in
    ap (λ o. first_or o) (sym (u.2 (depth j + depth k) (omega arith)) ∙ v.2 (depth j + depth k) (omega arith))
