-- Sets of profiles, each profile by its number in the settings: bit k of a set's number stands for profile number k.
use Rattle.std.specs.Prelude.{ℕ, ◌-◌, ◌^◌, Bool, not, nat_eq, nat_lt}
use Rattle.std.specs.Int.{bit_at}
use Rattle.std.specs.Int.RustNames.{bit_and, bit_or, bit_xor}
use Rattle.venue_types.specs.declared.profile_set.ProfileSet.{ProfileSet}

-- whether the set has the profile of this number
unfoldable pub has : ℕ → ProfileSet → Bool
has k set = nat_eq (bit_at set.0 k) 1

-- no profile
abbrev pub nobody : ProfileSet
nobody = record { 0 = 0 }

-- the profiles of settings that have so many
abbrev pub all_of : ℕ → ProfileSet
all_of count = record { 0 = 2 ^ count - 1 }

-- the profile of this number alone
abbrev pub just : ℕ → ProfileSet
just k = record { 0 = 2 ^ k }

-- the profiles of both sets
unfoldable pub joined : ProfileSet → ProfileSet → ProfileSet
joined set other = record { 0 = bit_or set.0 other.0 }

-- those of the first set that the other lacks
unfoldable pub without : ProfileSet → ProfileSet → ProfileSet
without set other = record { 0 = bit_xor set.0 (bit_and set.0 other.0) }

-- whether nobody is in the set
unfoldable pub is_empty : ProfileSet → Bool
is_empty set = nat_eq set.0 0

-- whether the set has each profile of the other
unfoldable pub has_all_of : ProfileSet → ProfileSet → Bool
has_all_of set other = nat_eq (bit_and set.0 other.0) other.0

-- whether the set has a profile of the other
unfoldable pub has_any_of : ProfileSet → ProfileSet → Bool
has_any_of set other = not (nat_eq (bit_and set.0 other.0) 0)

-- whether settings that have so many profiles have each of the set
unfoldable pub is_within : ℕ → ProfileSet → Bool
is_within count set = nat_lt set.0 (2 ^ count)
