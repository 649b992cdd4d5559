-- A quotient that rises by steps of one size.
use Rattle.std.specs.Prelude.{◌≡◌, ℕ, ◌+◌, ◌*◌, ◌<◌, ◌≤◌, ◌^◌}
use Rattle.channel_schedule.specs.declared.schedule.Rate.{Rate}
use Rattle.channel_schedule.specs.declared.stepped_quotient.SteppedQuotient.{SteppedQuotient}

-- these are the quotient of a number by `den` and what is left, and those of a step of num / den
pub record IsAt (s : SteppedQuotient) (num den number : ℕ) : Type 0 where
  pub den_is : s.den ≡ den
  pub number_is : s.quotient * den + s.remainder ≡ number
  pub remainder_low : s.remainder < den
  pub step_is : s.step_quotient * den + s.step_remainder ≡ num
  pub step_remainder_low : s.step_remainder < den

-- The quotient is that of the bytes that have arrived after so many slots, or both are the stream's length or more.
pub record Arrives (s : SteppedQuotient) (total : ℕ) (rate : Rate) (slots : ℕ) : Type 0 where
  pub at : IsAt s rate.num rate.den (s.quotient * rate.den + s.remainder)
  pub low : s.quotient * rate.den + s.remainder ≤ slots * rate.num
  pub same : s.quotient * rate.den + s.remainder < total * rate.den → s.quotient * rate.den + s.remainder ≡ slots * rate.num

-- the next step fits
pub record CanStep (s : SteppedQuotient) : Type 0 where
  pub remainder_low : s.remainder < s.den
  pub step_remainder_low : s.step_remainder < s.den
  pub narrow : s.den < 2 ^ 32
  pub room : s.quotient + s.step_quotient + 1 < 2 ^ 64
