-- The edge over a reader or a writer of std.
use Rattle.std.specs.Prelude.{ℕ}

-- the stream, and how many calls on it failed
pub record Counted (X : Type 0) : Type 0 where
  pub inner : X
  pub failures : ℕ
