-- How a picture is cut into slices, and how many bytes each slice has (SMPTE ST 2042-1:2017, 13.5.3.2 slice_bytes).
use Rattle.std.specs.Prelude.{ℕ, ◌+◌, ◌-◌, ◌*◌, ◌/◌, ◌^◌, ◌<◌, ◌≤◌}
use Rattle.slice_geometry.specs.declared.slice_layout.LayoutFault.{LayoutFault}
use Rattle.slice_geometry.specs.declared.slice_layout.LayoutFault.TheVariants.{Depth, Slices, Share}
use Rattle.bit_codes.specs.Codes.{intlog2}

-- the depth of the transform, the slices across and down, and the bytes of a slice as the fraction a / b
pub record Slicing : Type 0 where
  pub depth : ℕ
  pub slices_x : ℕ
  pub slices_y : ℕ
  pub a : ℕ
  pub b : ℕ

-- how many slices a picture has
abbrev pub slice_count : Slicing → ℕ
slice_count s = s.slices_x * s.slices_y

-- the number of the slice in column sx and row sy
abbrev pub slice_number : Slicing → ℕ → ℕ → ℕ
slice_number s sx sy = sy * s.slices_x + sx

-- the bytes of the first n slices
abbrev pub bytes_before : ℕ → ℕ → ℕ → ℕ
bytes_before a b n = n * a / b

-- the bytes of slice n
abbrev pub slice_bytes : ℕ → ℕ → ℕ → ℕ
slice_bytes a b n = bytes_before a b (n + 1) - bytes_before a b n

-- the bytes of all slices
abbrev pub total_bytes : Slicing → ℕ
total_bytes s = bytes_before s.a s.b (slice_count s)

-- how many bits give the length of the luma block in a slice of so many bytes (13.5.3.1 ld_slice, length_bits)
abbrev pub length_bits : ℕ → ℕ
length_bits bytes = intlog2 (8 * bytes - 7)

-- the limits of slices across, down and in all
pub record AreSlicesAllowed (s : Slicing) : Type 0 where
  pub some_across : 1 ≤ s.slices_x
  pub across : s.slices_x ≤ 8192
  pub some_down : 1 ≤ s.slices_y
  pub down : s.slices_y ≤ 8192
  pub count : slice_count s ≤ 2 ^ 20

-- the limits of their bytes: each slice has a byte, and all of them together have at most 2 ^ 28
pub record IsShareAllowed (s : Slicing) : Type 0 where
  pub some : 1 ≤ s.b
  pub byte : s.b ≤ s.a
  pub total : total_bytes s ≤ 2 ^ 28

-- all limits, in the order in which they are asked
pub record IsAllowed (s : Slicing) : Type 0 where
  pub depth : s.depth ≤ 4
  pub slices : AreSlicesAllowed s
  pub share : IsShareAllowed s

-- this rule is the first that is broken
abbrev pub IsBroken : Slicing → LayoutFault → Type 0
IsBroken s Depth = 4 < s.depth
IsBroken s Slices = (s.depth ≤ 4) × (AreSlicesAllowed s → ⊥)
IsBroken s Share = (s.depth ≤ 4) × AreSlicesAllowed s × (IsShareAllowed s → ⊥)
