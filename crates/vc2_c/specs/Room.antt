-- What a room of the caller's tells of itself.
use Rattle.std.specs.Prelude.{◌≡◌, ◌<◌, ◌≤◌, ℕ, List, ◌∷◌, length, take}

-- The name of the loan and how many bytes the room takes, which no call changes, and the bytes that were written.
abbrev pub room_seen : ℕ → List ℕ → ℕ → List ℕ
room_seen name cells len = name ∷ length cells ∷ take len cells

-- A write failed only where the room is full.
abbrev pub FailsFull : ℕ → List ℕ → ℕ → Type 0
FailsFull failures cells len = 0 < failures → len ≡ length cells
