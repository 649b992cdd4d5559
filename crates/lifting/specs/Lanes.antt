-- Blocks of numbers, lane by lane.
use Rattle.std.specs.Prelude.{◌≡◌, ℕ, ℤ, ◌+◌, ◌<◌, List, length}
use Rattle.planes.specs.Numbers.{Within}
use Rattle.planes.specs.Valued.{valued}
use Rattle.lifting.specs.Places.{place}

-- a block: 8 lanes, each of a magnitude of at most m
pub record AreLanes (m : ℕ) (xs : List ℤ) : Type 0 where
  pub count : length xs ≡ 8
  pub each : (i : ℕ) → i < 8 → Within m (place xs i)

-- each of the 8 numbers of a row from a place on has a magnitude of at most m
abbrev pub BlockWithin : {X : Type 0} → (X → ℤ) → X → ℕ → List X → ℕ → Type 0
BlockWithin value none m row at = (i : ℕ) → i < 8 → Within m (valued value none row (at + i))
