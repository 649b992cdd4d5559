-- Leads and delays.
use Rattle.std.proofs.Common.{◌≡◌, ℕ, ◌+◌, ◌*◌, ◌/◌, ◌%◌, ◌^◌, ◌<◌, ◌≤◌, min, arith, inl, inr}
use Rattle.std.proofs.Math.Nat.{mul-le-mul_left, mul-le-mul_right, add-mul}
use Rattle.std.proofs.lemmas.Bool.{cases_lt}
use Rattle.std.proofs.lemmas.Grind.{div_ceil_times}
use Rattle.slice_geometry.specs.UnitLengths.{UnitShapesSeen, ShapesInTurn}
use Rattle.slice_geometry.proofs.Quotients.{le-div_of_le, le_of_le-div}
use Rattle.channel_schedule.specs.declared.schedule.Rate.{Rate}
use Rattle.channel_schedule.specs.Rates.{IsRate}
use Rattle.channel_schedule.specs.Slices.{slot_end, slots_to, arrived}
use Rattle.channel_schedule.specs.Courses.{course_of, count_in, AreInTime}
use Rattle.channel_schedule.specs.Plans.{IsGreatest, lead_of}
use Rattle.channel_schedule.proofs.Units.{end_of-most}

pub lead_low : (shapes : UnitShapesSeen) (rate : Rate) (idle : ℕ) (k : ℕ) → ShapesInTurn 0 shapes.units shapes.total → shapes.total ≤ 2 ^ 40 → rate.den < 2 ^ 32 → lead_of shapes rate idle k ≤ 2 ^ 72
lead_low shapes rate idle k in_turn most narrow =
    let most_end : slot_end shapes.units shapes.total k ≤ 2 ^ 40 = omega (arith, end_of-most shapes.units 0 shapes.total k in_turn) in
    let most : slot_end shapes.units shapes.total k * rate.den ≤ 2 ^ 40 * rate.den = mul-le-mul_right rate.den most_end in
    omega (arith, most)

-- a slice is in time where the delay makes up for its lead
pub in_time-lead : (shapes : UnitShapesSeen) (rate : Rate) (idle : ℕ) (delay k : ℕ) → IsRate rate → ShapesInTurn 0 shapes.units shapes.total → lead_of shapes rate idle k ≤ delay * rate.num
    → slot_end shapes.units shapes.total k ≤ arrived shapes.total rate (delay + slots_to idle shapes.units k)
in_time-lead shapes rate idle delay k some in_turn low =
    let end = slot_end shapes.units shapes.total k in
    let all : (delay + slots_to idle shapes.units k) * rate.num ≡ delay * rate.num + slots_to idle shapes.units k * rate.num = add-mul delay (slots_to idle shapes.units k) rate.num in
    let part : slot_end shapes.units shapes.total k ≤ (delay + slots_to idle shapes.units k) * rate.num / rate.den =
    le-div_of_le ((delay + slots_to idle shapes.units k) * rate.num) rate.den (slot_end shapes.units shapes.total k) some.some_slots (omega (arith, low, all)) in
    omega (arith, part, end_of-most shapes.units 0 shapes.total k in_turn)

pub lead-in_time : (shapes : UnitShapesSeen) (rate : Rate) (idle : ℕ) (delay k : ℕ) → IsRate rate → slot_end shapes.units shapes.total k ≤ arrived shapes.total rate (delay + slots_to idle shapes.units k) → lead_of shapes rate idle k ≤ delay * rate.num
lead-in_time shapes rate idle delay k some low =
    let all : (delay + slots_to idle shapes.units k) * rate.num ≡ delay * rate.num + slots_to idle shapes.units k * rate.num = add-mul delay (slots_to idle shapes.units k) rate.num in
    let part : slot_end shapes.units shapes.total k * rate.den ≤ (delay + slots_to idle shapes.units k) * rate.num =
    le_of_le-div ((delay + slots_to idle shapes.units k) * rate.num) rate.den (slot_end shapes.units shapes.total k) some.some_slots (omega (arith, low)) in
    omega (arith, part, all)

-- a quotient that is rounded up is the least that reaches the number
pub ceil_least : (lead num d : ℕ) → 1 ≤ num → lead ≤ d * num → lead / num + min 1 (lead % num) ≤ d
ceil_least lead num d one low = elim (cases_lt d (lead / num + min 1 (lead % num))) [
  | inl below ↦
      let next : d + 1 ≤ lead / num + min 1 (lead % num) = omega arith in
      let more : (d + 1) * num ≤ (lead / num + min 1 (lead % num)) * num = mul-le-mul_right num next in
      absurd (omega (arith, more, (div_ceil_times lead num one).1))
  | inr above ↦ above
]

pub ceil_low : (lead num : ℕ) → 1 ≤ num → lead / num + min 1 (lead % num) ≤ lead
ceil_low lead num one =
    let more : lead * 1 ≤ lead * num = mul-le-mul_left lead one in
    ceil_least lead num lead one (omega (arith, more))

-- ---- the delay of a plan

module _ (shapes : UnitShapesSeen) (rate : Rate) (idle : ℕ) (lead delay : ℕ) (some : IsRate rate) (is : delay ≡ lead / rate.num + min 1 (lead % rate.num)) (most : IsGreatest (lead_of shapes rate idle) (count_in shapes) lead) where
  pub plan_in_time : ShapesInTurn 0 shapes.units shapes.total → AreInTime (course_of shapes rate idle delay) (count_in shapes)
  plan_in_time in_turn k low =
      in_time-lead shapes rate idle delay k some in_turn (rw is (omega (arith, most.above k low, (div_ceil_times lead rate.num some.some_bytes).0)))

  pub plan_least : (d : ℕ) → AreInTime (course_of shapes rate idle d) (count_in shapes) → delay ≤ d
  plan_least d in_time =
      rw is (ceil_least lead rate.num d some.some_bytes (most.least (d * rate.num) (λ k low. lead-in_time shapes rate idle d k some (in_time k low))))
