-- Units in a row, as far as the head of the next one looks back.
use Rattle.std.specs.Prelude.{ℕ}

-- where the next unit begins, and the length of the unit before it
pub record ChainSeen : Type 0 where
  pub place : ℕ
  pub previous : ℕ
