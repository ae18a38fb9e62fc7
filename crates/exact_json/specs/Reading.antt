-- The code's own way, and no promise: reading from the start, a value and the bytes after it.
use Rattle.std.specs.Prelude.{◌≡◌, ℕ, zero, suc, ◌-◌, ◌≤◌, List, [], ◌∷◌, length, take, drop, nat_eq, true, false, cond, ◌==◌, Option, Some, None, option_map, option_and_then, Result, Ok, Err}
use Rattle.std.specs.List.{prefix_len, starts_with}
use Rattle.exact_json.specs.Json.{Json, null, boolean, number, text, items, object}
use Rattle.exact_json.specs.View.{items_of, members_of}
use Rattle.exact_json.specs.Number.{head, after_number, is_space, ends_value}
use Rattle.exact_json.specs.StringReading.{text_at}
use Rattle.exact_json.specs.declared.fault.JsonFault.{JsonFault}
use Rattle.exact_json.specs.declared.fault.JsonFault.TheVariants.{Text, Deep, OutOfMemory}

abbrev pub Parse : Type 0 → Type 0
Parse A = List ℕ → Option (A × List ℕ)

abbrev pub parse_map : {A B : Type 0} → (A → B) → Option (A × List ℕ) → Option (B × List ℕ)
parse_map f r = option_map (λ p. (f p.0, p.1)) r

-- what follows white space
abbrev pub skip : List ℕ → List ℕ
skip b = drop (prefix_len is_space b) b

abbrev pub literal : List ℕ → Json → Parse Json
literal name j b = cond (starts_with nat_eq b name) (Some (j, drop (length name) b)) None

unfoldable pub number_at : Parse (List ℕ)
number_at b = option_and_then (λ rest. cond (ends_value (head rest)) (Some (take (length b - length rest) b, rest)) None) (after_number b)

-- what stands behind an element: a comma and more, or the closing bracket
abbrev pub more_step : {E : Type 0} → ℕ → Parse (List E) → E → Parse (List E)
more_step close more e b = cond (head b == 44) (parse_map (λ es. e ∷ es) (more (drop 1 b))) (cond (head b == close) (Some (e ∷ [], drop 1 b)) None)

-- One element or more. The number bounds the turns: one more than the count of the bytes is always enough.
unfoldable pub more_elements : {E : Type 0} → ℕ → Parse E → ℕ → Parse (List E)
more_elements close one zero b = None
more_elements close one (suc n) b = option_and_then (λ p. more_step close (more_elements close one n) p.0 (skip p.1)) (one (skip b))

-- the elements behind an opening bracket
unfoldable pub elements_at : {E : Type 0} → ℕ → Parse E → Parse (List E)
elements_at close one b = cond (head (skip b) == close) (Some ([], drop 1 (skip b))) (more_elements close one (suc (length (skip b))) (skip b))

-- a name and its colon
unfoldable pub name_at : Parse (List ℕ)
name_at b = cond (head b == 34) (option_and_then (λ p. cond (head (skip p.1) == 58) (Some (p.0, drop 1 (skip p.1))) None) (text_at 0 (drop 1 b))) None

-- a name, its colon and a value
abbrev pub pair_at : Parse Json → Parse (List ℕ × Json)
pair_at value b = option_and_then (λ k. parse_map (λ j. (k.0, j)) (value (skip k.1))) (name_at b)

-- a literal or a number
abbrev pub token_at : Parse Json
token_at b =
    cond (head b == 110) (literal (110 ∷ 117 ∷ 108 ∷ 108 ∷ []) null b)
    (cond (head b == 116) (literal (116 ∷ 114 ∷ 117 ∷ 101 ∷ []) (boolean true) b)
    (cond (head b == 102) (literal (102 ∷ 97 ∷ 108 ∷ 115 ∷ 101 ∷ []) (boolean false) b) (parse_map number (number_at b))))

abbrev pub scalar_at : Parse Json
scalar_at b = cond (head b == 34) (parse_map text (text_at 0 (drop 1 b))) (token_at b)

-- a list of the elements
abbrev pub list_of : List Json → Json
list_of js = items (items_of js)

-- an object of the pairs
abbrev pub object_of : List (List ℕ × Json) → Json
object_of ps = object (members_of ps)

abbrev pub value_with : Parse (List Json) → Parse (List (List ℕ × Json)) → Parse Json
value_with a o b = cond (head b == 91) (parse_map list_of (a (drop 1 b))) (cond (head b == 123) (parse_map object_of (o (drop 1 b))) (scalar_at b))

-- one value, with lists and objects nested no deeper than the number
unfoldable pub value : ℕ → Parse Json
value zero = value_with (λ b. None) (λ b. None)
value (suc depth) = value_with (elements_at 93 (value depth)) (elements_at 125 (pair_at (value depth)))

-- What a function found at a limit of depth is what reading gives at each higher one, and so is that there is nothing.
abbrev pub Fails : {Y : Type 0} → ℕ → (ℕ → Option Y) → JsonFault → Type 0
Fails depth read Text = (d : ℕ) → depth ≤ d → read d ≡ None
Fails depth read Deep = read depth ≡ None
Fails depth read OutOfMemory = Unit {0}

abbrev pub Gives : {X Y : Type 0} → (X → Y) → ℕ → (ℕ → Option Y) → Result X JsonFault → Type 0
Gives view depth read (Ok x) = (d : ℕ) → depth ≤ d → read d ≡ Some (view x)
Gives view depth read (Err e) = Fails depth read e

-- the same, of what no depth bears on
abbrev pub Misses : {Y : Type 0} → Option Y → JsonFault → Type 0
Misses read Text = read ≡ None
Misses read Deep = ⊥
Misses read OutOfMemory = Unit {0}

abbrev pub Finds : {X Y : Type 0} → (X → Y) → Option Y → Result X JsonFault → Type 0
Finds view read (Ok x) = read ≡ Some (view x)
Finds view read (Err e) = Misses read e
