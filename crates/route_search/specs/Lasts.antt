-- How known walks end, kept by places. The code's own machinery.
use Rattle.std.specs.Prelude.{◌≡◌, ℕ, zero, suc, ◌<◌, ◌≤◌, List, [], ◌∷◌, All, map, length, slice_index_or}
use Rattle.route_search.specs.declared.labels.Last.{Last}
use Rattle.route_search.specs.Labels.{last_at, no_last}

-- of each node what stands at its place
unfoldable pub lasts_of : List Last → List ℕ → List Last
lasts_of found places = map (last_at found) places

-- how many places aren't the first
abbrev pub used : List ℕ → ℕ
used [] = 0
used (zero ∷ places) = used places
used (suc place ∷ places) = suc (used places)

-- nothing stands at the first place, every other place is one node's, and nodes are few
pub record AreApart (found : List Last) (places : List ℕ) : Type 0 where
  pub first : last_at found 0 ≡ no_last
  pub within : All (λ place. place < length found) places
  pub apart : (i j : ℕ) → slice_index_or places i 0 ≡ slice_index_or places j 0 → 0 < slice_index_or places i 0 → i ≡ j
  pub counted : length found ≡ suc (used places)
  pub few : length places ≤ 400000
