-- The limits of pictures.
use Rattle.std.specs.Prelude.{ℕ, ◌*◌, ◌^◌, ◌≤◌}

-- a component of w by h samples
pub record IsSize (w h : ℕ) : Type 0 where
  pub some_columns : 1 ≤ w
  pub width : w ≤ 8192
  pub some_rows : 1 ≤ h
  pub height : h ≤ 8192
  pub product : w * h ≤ 2 ^ 24

-- samples of so many bits
pub record IsDepth (depth : ℕ) : Type 0 where
  pub some : 1 ≤ depth
  pub most : depth ≤ 16
