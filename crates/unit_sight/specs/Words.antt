-- How the code keeps a table: in words of 64 bits. Named by no public clause.
use Rattle.std.specs.Prelude.{map, false, ◌≡◌, filter, ℕ, ◌+◌, ◌*◌, ◌/◌, ◌%◌, ◌<◌, ◌≤◌, ◌^◌, Bool, ◌==◌, ◌&&◌, nat_le, not, Option, Some, None, IfSome, List, All, length, get_or}
use Rattle.std.specs.Int.{bit_at}
use Rattle.unit_sight.specs.Tables.{IsWhole, is_new, joins, places, table_of}

-- how many words a row has
abbrev pub words_in : ℕ → ℕ
words_in size = (size + 63) / 64

-- the word in which a row has the bit of a place
abbrev pub word_at : ℕ → List ℕ → ℕ → ℕ → ℕ
word_at size words i j = get_or words (i * words_in size + j / 64) 0

-- the bit
abbrev pub bit_in : ℕ → List ℕ → ℕ → ℕ → Bool
bit_in size words i j = bit_at (word_at size words i j) (j % 64) == 1

-- the table that the words are
abbrev pub bits_of : ℕ → List ℕ → List (List Bool)
bits_of size words = table_of size (bit_in size words)

-- there are as many words as the rows have, of 64 bits each, and no bit behind the last place
pub record AreBits (size : ℕ) (words : List ℕ) : Type 0 where
  pub range : size ≤ 4096
  pub count : length words ≡ size * words_in size
  pub fits : All (λ (word : ℕ). word < 2 ^ 64) words
  pub nothing_behind : (i j : ℕ) → i < size → size ≤ j → j < 64 * words_in size → bit_at (word_at size words i j) (j % 64) ≡ 0

-- how many numbers below n pass a test
abbrev pub count_to : (ℕ → Bool) → ℕ → ℕ
count_to test n = length (filter test (places n))

-- the bits of a word
abbrev pub bits_in : ℕ → ℕ → Bool
bits_in word k = bit_at word k == 1

-- beside each of the first m words of a table stands how many places of its row in front of it are joined
pub record AreFronts (table : List (List Bool)) (fronts : List ℕ) (m : ℕ) : Type 0 where
  pub count : length fronts ≡ length table * words_in (length table)
  pub counts : (i w : ℕ) → i < length table → w < words_in (length table) → i * words_in (length table) + w < m
      → get_or fronts (i * words_in (length table) + w) 0 ≡ count_to (joins table i) (64 * w)

-- a neighbour of i at `from` or behind that is new
abbrev pub is_next : List (List Bool) → ℕ → Option ℕ → ℕ → ℕ → Bool
is_next table i known from j = joins table i j && (nat_le from j && is_new table known j)

-- any two places are joined
abbrev pub whole_of : ℕ → List (List Bool)
whole_of n = table_of n (λ i j. not (i == j))

-- the table of a room, which is whole where nothing is kept
abbrev pub table_or : ℕ → Option (List (List Bool)) → List (List Bool)
table_or n None = whole_of n
table_or n (Some table) = table

-- a table that is kept has so many rows, and isn't whole
pub record AreSights (n : ℕ) (rows : Option (List (List Bool))) : Type 0 where
  pub range : n ≤ 4096
  pub size : IfSome rows (λ (table : List (List Bool)). length table ≡ n)
  pub parts : IfSome rows (λ (table : List (List Bool)). IsWhole table → ⊥)

-- the bit of a place in a set of places
abbrev pub mask_bit : List ℕ → ℕ → ℕ
mask_bit words j = bit_at (get_or words (j / 64) 0) (j % 64)

-- the set that the words are
abbrev pub mask_of : ℕ → List ℕ → List Bool
mask_of size words = map (λ j. mask_bit words j == 1) (places size)

-- there are as many words as a row has, and no bit behind the last place
pub record AreMaskBits (size : ℕ) (words : List ℕ) : Type 0 where
  pub range : size ≤ 4096
  pub count : length words ≡ words_in size
  pub nothing_behind : (j : ℕ) → size ≤ j → j < 64 * words_in size → mask_bit words j ≡ 0

-- a neighbour of i that is in a set
abbrev pub is_both : List (List Bool) → ℕ → List Bool → ℕ → Bool
is_both table i mask j = joins table i j && get_or mask j false
