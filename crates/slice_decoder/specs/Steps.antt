-- How an index restores magnitudes in 16 bits.
use Rattle.std.specs.Prelude.{◌≡◌, ℕ, ◌+◌, ◌-◌, ◌*◌, ◌/◌, ◌^◌, ◌<◌, ◌≤◌, ◌==◌, if◌then◌else◌}
use Rattle.quant_factors.specs.Factors.{restored_of}
use Rattle.slice_decoder.specs.declared.short_restoring.Step.{Step}

-- a magnitude by a factor and what is added to the product
abbrev pub restored_by : ℕ → ℕ → ℕ → ℕ
restored_by factor add m = if m == 0 then 0 else (m * factor + add) / 4

-- The step restores magnitudes up to its limit as the index does, and those past it the index restores to 2 ^ 14 at least.
pub record IsStep (index : ℕ) (s : Step) : Type 0 where
  pub room : s.limit * s.factor + s.add < 2 ^ 16
  pub same : (m : ℕ) → m ≤ s.limit → restored_by s.factor s.add m ≡ restored_of m index
  pub low : (m : ℕ) → m ≤ s.limit → restored_of m index ≤ 2 ^ 14 - 1
  pub past : (m : ℕ) → s.limit < m → 2 ^ 14 ≤ restored_of m index
