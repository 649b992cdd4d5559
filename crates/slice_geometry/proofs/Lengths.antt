-- How long padded sides and those of subbands can be.
use Rattle.std.proofs.Common.{◌≡◌, ℕ, ◌+◌, ◌-◌, ◌/◌, ◌%◌, ◌^◌, ◌≤◌, arith, zero, suc}
use Rattle.std.proofs.Math.Nat.{mul-mod_right}
use Rattle.slice_geometry.specs.Geometry.{padded_length}

pub padded_most : (depth length : ℕ) → depth ≤ 4 → length ≤ 8192 → padded_length depth length ≤ 8192
padded_most zero length low most = omega arith
padded_most (suc zero) length low most = omega arith
padded_most (suc (suc zero)) length low most = omega arith
padded_most (suc (suc (suc zero))) length low most = omega arith
padded_most (suc (suc (suc (suc zero)))) length low most = omega arith
padded_most (suc (suc (suc (suc (suc depth))))) length low most = absurd (omega arith)

pub padded_whole : (depth length : ℕ) → padded_length depth length % 2 ^ depth ≡ 0
padded_whole depth length = mul-mod_right (2 ^ depth) ((length + 2 ^ depth - 1) / 2 ^ depth)
