-- Quotients that rise step by step.
use Rattle.std.proofs.Common.{◌≡◌, ℕ, ◌+◌, ◌-◌, ◌*◌, ◌/◌, ◌^◌, ◌<◌, ◌≤◌, min, arith, ap, sym, ◌∙◌, subst, inl, inr}
use Rattle.std.proofs.Math.Nat.{mul-le-mul_left, mul-le-mul_right, add-mul}
use Rattle.std.proofs.lemmas.Nat.{div-mul-add}
use Rattle.std.proofs.lemmas.Bool.{cases_lt}
use Rattle.slice_geometry.specs.Slicing.{bytes_before}
use Rattle.slice_geometry.specs.UnitLengths.{IsUnitAllowed}
use Rattle.slice_geometry.specs.declared.unit_list.UnitShape.{UnitShape}
use Rattle.slice_geometry.proofs.Shares.{bytes_before-rises}
use Rattle.slice_geometry.proofs.Quotients.{le-div_of_le}
use Rattle.channel_schedule.specs.declared.schedule.Rate.{Rate}
use Rattle.channel_schedule.specs.declared.stepped_quotient.SteppedQuotient.{SteppedQuotient}
use Rattle.channel_schedule.specs.Slices.{arrived}
use Rattle.channel_schedule.specs.Stepping.{IsAt, Arrives, CanStep}

pub quotient_is : (s : SteppedQuotient) (num den number : ℕ) → IsAt s num den number → s.quotient ≡ number / den
quotient_is s num den number at = sym (div-mul-add s.quotient den s.remainder at.remainder_low) ∙ ap (λ n. n / den) at.number_is

pub step_low : (s : SteppedQuotient) (num den number : ℕ) → IsAt s num den number → s.step_quotient ≤ num
step_low s num den number at =
    let one : 1 ≤ den = omega (arith, at.step_remainder_low) in
    let more : s.step_quotient * 1 ≤ s.step_quotient * den = mul-le-mul_left s.step_quotient one in
    omega (arith, at.step_is, more)

-- ---- the ends of a unit's slices

-- where the next slices end
pub record EndsAt (s : SteppedQuotient) (unit : UnitShape) (j : ℕ) : Type 0 where
  pub at : IsAt s unit.a unit.b ((j + 1) * unit.a)

pub ends-first : (s : SteppedQuotient) (unit : UnitShape) → IsAt s unit.a unit.b unit.a → EndsAt s unit 0
ends-first s unit at = record { at = subst (λ (n : ℕ). IsAt s unit.a unit.b n) (omega arith) at }

pub ends-next : (s t : SteppedQuotient) (unit : UnitShape) (j : ℕ) → ((num den number : ℕ) → IsAt s num den number → IsAt t num den (number + num)) → EndsAt s unit j → EndsAt t unit (j + 1)
ends-next s t unit j next ends = record { at = subst (λ (n : ℕ). IsAt t unit.a unit.b n) (omega arith) (next unit.a unit.b ((j + 1) * unit.a) ends.at) }

pub ends_is : (s : SteppedQuotient) (unit : UnitShape) (j : ℕ) → EndsAt s unit j → s.quotient ≡ bytes_before unit.a unit.b (j + 1)
ends_is s unit j ends = quotient_is s unit.a unit.b ((j + 1) * unit.a) ends.at

-- a slice ends within its unit
pub ends_low : (s : SteppedQuotient) (unit : UnitShape) (j : ℕ) → EndsAt s unit j → IsUnitAllowed unit → j < unit.slices → s.quotient ≤ bytes_before unit.a unit.b unit.slices
ends_low s unit j ends allowed low = omega (arith, ends_is s unit j ends, bytes_before-rises unit.a unit.b (j + 1) unit.slices allowed.some (omega arith))

pub ends_step : (s : SteppedQuotient) (unit : UnitShape) (j : ℕ) → EndsAt s unit j → IsUnitAllowed unit → j < unit.slices → unit.a < 2 ^ 32 → unit.b < 2 ^ 32 → CanStep s
ends_step s unit j ends allowed low wide narrow = record {
  remainder_low = omega (arith, ends.at.den_is, ends.at.remainder_low);
  step_remainder_low = omega (arith, ends.at.den_is, ends.at.step_remainder_low);
  narrow = omega (arith, ends.at.den_is);
  room = omega (arith, ends_low s unit j ends allowed low, step_low s unit.a unit.b ((j + 1) * unit.a) ends.at, allowed.share);
}

-- ---- the bytes that have arrived

pub arrives_is : (s : SteppedQuotient) (total : ℕ) (rate : Rate) (slots : ℕ) → Arrives s total rate slots → min s.quotient total ≡ arrived total rate slots
arrives_is s total rate slots arrives =
    let one : 1 ≤ rate.den = omega (arith, arrives.at.remainder_low) in
    elim (cases_lt s.quotient total) [
      | inl below ↦
          let next : s.quotient + 1 ≤ total = omega arith in
          let wide : (s.quotient + 1) * rate.den ≤ total * rate.den = mul-le-mul_right rate.den next in
          let same = arrives.same (omega (arith, wide, arrives.at.remainder_low)) in
          let is : s.quotient ≡ slots * rate.num / rate.den = quotient_is s rate.num rate.den (s.quotient * rate.den + s.remainder) arrives.at ∙ ap (λ n. n / rate.den) same in
          omega (arith, is)
      | inr above ↦
          let wide : total * rate.den ≤ s.quotient * rate.den = mul-le-mul_right rate.den above in
          let past : total ≤ slots * rate.num / rate.den = le-div_of_le (slots * rate.num) rate.den total one (omega (arith, wide, arrives.low)) in
          omega (arith, past)
    ]

pub arrives-next : (s t : SteppedQuotient) (total : ℕ) (rate : Rate) (slots : ℕ) → ((num den number : ℕ) → IsAt s num den number → IsAt t num den (number + num)) → Arrives s total rate slots → Arrives t total rate (slots + 1)
arrives-next s t total rate slots next arrives =
    let at : IsAt t rate.num rate.den (s.quotient * rate.den + s.remainder + rate.num) = next rate.num rate.den (s.quotient * rate.den + s.remainder) arrives.at in
    record {
      at = subst (λ (n : ℕ). IsAt t rate.num rate.den n) (sym at.number_is) at;
      low = omega (arith, at.number_is, arrives.low);
      same = λ below. let same = arrives.same (omega (arith, at.number_is)) in omega (arith, at.number_is, same);
    }

pub arrives_step : (s : SteppedQuotient) (total : ℕ) (rate : Rate) (slots : ℕ) → Arrives s total rate slots → rate.num < 2 ^ 32 → rate.den < 2 ^ 32 → s.quotient ≤ 2 ^ 62 → CanStep s
arrives_step s total rate slots arrives wide narrow low = record {
  remainder_low = omega (arith, arrives.at.den_is, arrives.at.remainder_low);
  step_remainder_low = omega (arith, arrives.at.den_is, arrives.at.step_remainder_low);
  narrow = omega (arith, arrives.at.den_is);
  room = omega (arith, step_low s rate.num rate.den (s.quotient * rate.den + s.remainder) arrives.at);
}

-- ---- what a unit's slices ask for

-- asked for by slice j, of so many
pub asked_low : (unit : UnitShape) (num den j quotient : ℕ) → IsUnitAllowed unit → quotient ≤ bytes_before unit.a unit.b unit.slices → num < 2 ^ 32 → den < 2 ^ 32 → quotient * den + (unit.slices - j) * num ≤ 2 ^ 61
asked_low unit num den j quotient allowed low wide narrow =
    let first : quotient * den ≤ 2 ^ 28 * den = mul-le-mul_right den (omega (arith, allowed.share)) in
    let second : (unit.slices - j) * num ≤ 2 ^ 20 * num = mul-le-mul_right num (omega (arith, allowed.count)) in
    omega (arith, first, second)

-- what slice j asks for, and its lead
pub lead_of_asked : (start bytes num den slot slices j : ℕ) → j < slices → (start + bytes) * den - (slot + j) * num ≡ start * den + (bytes * den + (slices - j) * num) - (slot + slices) * num
lead_of_asked start bytes num den slot slices j low =
    let whole : (j + (slices - j)) * num ≡ slices * num = ap (λ n. n * num) (omega arith) in
    let parts : (j + (slices - j)) * num ≡ j * num + (slices - j) * num = add-mul j (slices - j) num in
    omega (arith, whole, parts)
