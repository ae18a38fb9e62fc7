-- What is seen of a connection that waits without a worker.
use Rattle.std.specs.Prelude.{◌≡◌, ℕ, ◌≤◌, ◌⊎◌, Bool, true, List, length}
use Rattle.wire_frames.specs.Frames.{IsShort}

-- a whole message or a refusal at the front
abbrev pub IsWhole : List ℕ → Type 0
IsWhole bytes = ¬ IsShort bytes

-- a worker has something to do with these bytes: a whole message or a refusal, 16,384 bytes, or no more come
abbrev pub IsReady : List ℕ → Bool → Type 0
IsReady bytes ended = IsWhole bytes ⊎ (16384 ≤ length bytes) ⊎ (ended ≡ true)
