-- Values of a block as they are restored, place by place.
use Rattle.std.specs.Prelude.{◌≡◌, ℕ, ◌+◌, ◌*◌, ◌^◌, ◌<◌, ◌≤◌, Bool, true, false, List, slice_index_or, ℤ, pos, unsigned_abs}
use Rattle.quant_factors.specs.Factors.{factor_of, inverse_of}

-- a value by the quantiser of its place
abbrev pub restored_at : List ℤ → List ℕ → ℕ → ℤ
restored_at values quantisers k = inverse_of (slice_index_or values k (pos 0)) (slice_index_or quantisers k 0)

-- no magnitude from one place to another passes a bound
abbrev pub AllWithin : ℕ → (ℕ → ℤ) → ℕ → ℕ → Type 0
AllWithin most f from to = (k : ℕ) → from ≤ k → k < to → unsigned_abs (f k) ≤ most

-- whether no magnitude from one place to another passes a bound
pub record StayWithin (most : ℕ) (answer : Bool) (f : ℕ → ℤ) (from to : ℕ) : Type 0 where
  pub yes : answer ≡ true → AllWithin most f from to
  pub no : answer ≡ false → AllWithin most f from to → ⊥

-- From a place on all values are so low that none is restored to a magnitude above 2 ^ 18, nor does it take more than 32
-- bits on the way.
abbrev pub AreLow : ℕ → List ℤ → ℕ → Type 0
AreLow from values index = (k : ℕ) → from ≤ k → (unsigned_abs (slice_index_or values k (pos 0)) + 1) * factor_of index ≤ 2 ^ 20
