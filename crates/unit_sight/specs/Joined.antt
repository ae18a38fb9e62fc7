-- Which members of a room are joined: those that see each other; a member that sees nobody is joined to its host alone.
use Rattle.std.specs.Prelude.{ℕ, Bool, not, ◌&&◌, ◌||◌, ◌==◌, false, nat_lt, List, [], ◌∷◌, Option, Some, None, filter, if◌then◌else◌}
use Rattle.std.specs.List.{list_all}
use Rattle.std.specs.Option.{option_map_or}

-- a sees no other member
abbrev pub is_blind : (ℕ → ℕ → Bool) → List ℕ → ℕ → Bool
is_blind sees members a = list_all (λ b. (a == b) || not (sees a b)) members

-- each member sees no other
abbrev pub are_blind : (ℕ → ℕ → Bool) → List ℕ → Bool
are_blind sees members = list_all (is_blind sees members) members

-- the members that see some other
abbrev pub seeing : (ℕ → ℕ → Bool) → List ℕ → List ℕ
seeing sees members = filter (λ b. not (is_blind sees members b)) members

-- b is less far than c, or as far and the lesser of the two
abbrev pub is_nearer : (ℕ → ℕ) → ℕ → ℕ → Bool
is_nearer far b c = nat_lt (far b) (far c) || ((far b == far c) && nat_lt b c)

-- the nearer of b and another member, if there is another
abbrev pub nearer : (ℕ → ℕ) → ℕ → Option ℕ → ℕ
nearer far b None = b
nearer far b (Some c) = if is_nearer far c b then c else b

-- the nearest of some members
abbrev pub nearest : (ℕ → ℕ) → List ℕ → Option ℕ
nearest far [] = None
nearest far (b ∷ rest) = Some (nearer far b (nearest far rest))

-- the host of a: of the members that see some other the nearest to a, where there is one
abbrev pub host_of : (ℕ → ℕ → Bool) → (ℕ → ℕ → ℕ) → List ℕ → ℕ → Option ℕ
host_of sees far members a = nearest (far a) (seeing sees members)

-- a sees no other member, and b is its host
abbrev pub is_guest_of : (ℕ → ℕ → Bool) → (ℕ → ℕ → ℕ) → List ℕ → ℕ → ℕ → Bool
is_guest_of sees far members a b = is_blind sees members a && option_map_or (λ host. host == b) (host_of sees far members a) false

-- a and b are two, and they see each other, or one is the other's host, or nobody in the room sees another
unfoldable pub is_joined : (ℕ → ℕ → Bool) → (ℕ → ℕ → ℕ) → List ℕ → ℕ → ℕ → Bool
is_joined sees far members a b =
    not (a == b)
    && (sees a b || ((is_guest_of sees far members a b || is_guest_of sees far members b a) || are_blind sees members))
