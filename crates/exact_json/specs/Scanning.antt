-- The code's own way, and no promise: what the scan without recursion keeps, the brackets that are open and what stands for the rest of them.
use Rattle.std.specs.Prelude.{◌≡◌, ℕ, suc, ◌+◌, ◌<◌, ◌≤◌, List, [], ◌∷◌, length, true, false, Bool, Option, Some, None, option_map, option_and_then, Result, Ok, Err}
use Rattle.std.specs.Borrow.{Bor}
use Rattle.exact_json.specs.Json.{Json, null, depth}
use Rattle.exact_json.specs.Reading.{skip, more_step, more_elements, name_at, pair_at, value}
use Rattle.exact_json.specs.declared.kinds.Kind.{Kind}
use Rattle.exact_json.specs.declared.kinds.Kind.TheVariants.{List as of_list, Object as of_object}
use Rattle.exact_json.specs.declared.scan.Behind.{Behind}
use Rattle.exact_json.specs.declared.scan.Behind.TheVariants.{Element, End}
use Rattle.exact_json.specs.declared.fault.JsonFault.{JsonFault}
use Rattle.exact_json.specs.declared.fault.JsonFault.TheVariants.{Text, Deep, OutOfMemory}

-- what is left behind what was read
abbrev pub rest_of : {A : Type 0} → Option (A × List ℕ) → Option (List ℕ)
rest_of r = option_map (λ p. p.1) r

-- what follows one value
abbrev pub past : ℕ → List ℕ → Option (List ℕ)
past d b = rest_of (value d b)

-- the value of an element: of a list behind white space, of an object behind its name and colon too
abbrev pub element_value : Kind → List ℕ → Option (List ℕ)
element_value of_list b = Some (skip b)
element_value of_object b = option_map skip (rest_of (name_at (skip b)))

-- what follows the list or object in which an element has just ended
abbrev pub past_open : ℕ → Kind → ℕ → List ℕ → Option (List ℕ)
past_open d of_list n b = rest_of (more_step 93 (more_elements 93 (value d) n) null (skip b))
past_open d of_object n b = rest_of (more_step 125 (more_elements 125 (pair_at (value d)) n) ([], null) (skip b))

-- What follows all that is open. Each has a bound on its turns.
abbrev pub past_all : ℕ → List Kind → List ℕ → List ℕ → Option (List ℕ)
past_all d [] ns b = Some b
past_all d (k ∷ ks) [] b = None
past_all d (k ∷ ks) (n ∷ ns) b = option_and_then (past_all (suc d) ks ns) (past_open d k n b)

-- a value is to come, or has ended
abbrev pub now : Bool → ℕ → List ℕ → Option (List ℕ)
now true d b = past d b
now false d b = Some b

abbrev pub AllAbove : ℕ → List ℕ → Type 0
AllAbove k [] = Unit {0}
AllAbove k (n ∷ ns) = (k ≤ n) × AllAbove k ns

-- at each high enough depth
abbrev pub Ends : List ℕ → Option (List ℕ) → Type 0
Ends text r = (m : ℕ) × ((d : ℕ) → m ≤ d → past d text ≡ r)

-- the state: what is open, whether a value is to come, and the text that is left
pub record Scanning (text : List ℕ) (kinds : List Kind) (expects : Bool) (rest : List ℕ) : Type 0 where
  pub turns : List ℕ
  pub count : length turns ≡ length kinds
  pub enough : AllAbove (length rest) turns
  pub least : ℕ
  pub same : (d : ℕ) → least ≤ d → past (d + length kinds) text ≡ option_and_then (past_all d kinds turns) (now expects d rest)

-- why the scan of a text stops
abbrev pub Stops : List ℕ → JsonFault → Type 0
Stops text Text = Ends text None
Stops text Deep = ⊥
Stops text OutOfMemory = Unit {0}

-- a value has ended where one was to come
abbrev pub Enters : List ℕ → List Kind → Result (Bor (List ℕ)) JsonFault → Type 0
Enters text kinds (Ok r) = Scanning text kinds false r.now
Enters text kinds (Err e) = Stops text e

-- a value is to come where one had ended, or nothing is
abbrev pub Leaves : List ℕ → List Kind → Result Behind JsonFault → Type 0
Leaves text kinds (Ok (Element r)) = Scanning text kinds true r.now
Leaves text kinds (Ok (End r)) = Ends text (Some r.now)
Leaves text kinds (Err e) = Stops text e

abbrev pub IsShorter : List ℕ → Behind → Type 0
IsShorter text (Element r) = length r.now < length text
IsShorter text (End r) = Unit {0}

abbrev pub Scans : List ℕ → Result (Bor (List ℕ)) JsonFault → Type 0
Scans text (Ok r) = Ends text (Some r.now)
Scans text (Err e) = Stops text e

-- the value in front is j, at each depth that is enough, and z follows it
abbrev pub Reads : List ℕ → Json → List ℕ → Type 0
Reads b j z = (d : ℕ) → depth j ≤ d → value d b ≡ Some (j, z)
