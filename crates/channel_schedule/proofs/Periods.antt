-- Streams that repeat a part, by their numbers: what their schedules share.
use Rattle.std.proofs.Common.{◌≡◌, ℕ, zero, suc, ◌+◌, ◌-◌, ◌*◌, ◌/◌, ◌%◌, ◌<◌, ◌≤◌, min, arith, ap, sym, subst, refl, ◌∙◌, mul_comm, ◌⊎◌, inl, inr}
use Rattle.std.proofs.Math.Nat.{mul-le-mul_right, add-mul, suc-mul, mul_right_comm, add-mul-div_right, div-lt_iff_lt-mul, mod-lt}
use Rattle.std.proofs.lemmas.Nat.{div-add-mod'}
use Rattle.std.proofs.lemmas.Bool.{cases_lt}
use Rattle.slice_geometry.specs.UnitLengths.{UnitShapesSeen, ShapesInTurn}
use Rattle.slice_geometry.proofs.Quotients.{le-div_of_le, div-le_of_lt}
use Rattle.channel_schedule.specs.declared.schedule.Rate.{Rate}
use Rattle.channel_schedule.specs.Slices.{slices_in, slot_end, gone_by, slots_to, arrived}
use Rattle.channel_schedule.specs.Courses.{course_of, count_in, bytes_held, AreInTime}
use Rattle.channel_schedule.specs.Plans.{IsPlan, plan_delay, plan_size, plan_of}
use Rattle.channel_schedule.specs.Repeats.{SlotsAreKnown, AreKnown}
use Rattle.channel_schedule.proofs.Unique.{plan_found}

-- A part that repeats: its slices, bytes and slots, the bytes before the first part and behind the last, and by the number
-- of a slice in the part where it ends in it and in which of its slots it is taken.
pub record Part : Type 0 where
  pub slices : ℕ
  pub bytes : ℕ
  pub slots : ℕ
  pub before : ℕ
  pub behind : ℕ
  pub end : ℕ → ℕ
  pub slot : ℕ → ℕ

pub record IsPart (p : Part) : Type 0 where
  pub some_slices : 1 ≤ p.slices
  pub some_bytes : 1 ≤ p.bytes
  pub some_slots : 1 ≤ p.slots
  pub inside : (i : ℕ) → i < p.slices → p.end i ≤ p.bytes
  pub first : p.slot 0 ≡ 0
  pub early : (i : ℕ) → i < p.slices → p.slot i < p.slots

-- a stream has n of them
pub record Repeats (p : Part) (shapes : UnitShapesSeen) (idle n : ℕ) : Type 0 where
  pub total : shapes.total ≡ p.before + n * p.bytes + p.behind
  pub count : slices_in shapes.units ≡ n * p.slices
  pub ends : (g i k : ℕ) → k ≡ g * p.slices + i → g < n → i < p.slices → slot_end shapes.units shapes.total k ≡ p.before + g * p.bytes + p.end i
  pub last : slot_end shapes.units shapes.total (n * p.slices) ≡ shapes.total
  pub slots : (g i k : ℕ) → k ≡ g * p.slices + i → g < n → i < p.slices → slots_to idle shapes.units k ≡ g * p.slots + p.slot i
  pub last_slot : slots_to idle shapes.units (n * p.slices) ≡ n * p.slots

-- the rate that carries a part in its slots
abbrev pub rate_for : Part → Rate
rate_for p = record { num = p.bytes; den = p.slots }

-- what has come of a part by slice i of it, counted from the stream's beginning
abbrev pub come : Part → ℕ → ℕ → ℕ
come p delay i = (delay + p.slot i) * p.bytes / p.slots

-- the first part is in time, and so is what stands before and behind the parts
pub record IsEnough (p : Part) (delay : ℕ) : Type 0 where
  pub each : (i : ℕ) → i < p.slices → p.before + p.end i ≤ come p delay i
  pub rest : p.before + p.behind ≤ delay * p.bytes / p.slots

-- ---- what has come

-- a part's slots later a part's bytes more have come
come-later : (p : Part) → IsPart p → (delay g slot : ℕ) → (delay + (g * p.slots + slot)) * p.bytes / p.slots ≡ g * p.bytes + (delay + slot) * p.bytes / p.slots
come-later p is delay g slot =
    let regroup : delay + (g * p.slots + slot) ≡ (delay + slot) + g * p.slots = omega arith in
    let all : (delay + (g * p.slots + slot)) * p.bytes ≡ (delay + slot) * p.bytes + g * p.bytes * p.slots =
    ap (λ (x : ℕ). x * p.bytes) regroup
    ∙ (add-mul (delay + slot) (g * p.slots) p.bytes ∙ ap (λ (x : ℕ). (delay + slot) * p.bytes + x) (mul_right_comm g p.slots p.bytes)) in
    ap (λ (x : ℕ). x / p.slots) all ∙ (add-mul-div_right ((delay + slot) * p.bytes) (g * p.bytes) is.some_slots ∙ omega arith)

have-in : (p : Part) (shapes : UnitShapesSeen) (idle n delay g i k : ℕ) → IsPart p → Repeats p shapes idle n → k ≡ g * p.slices + i → g < n → i < p.slices
    → arrived shapes.total (rate_for p) (delay + slots_to idle shapes.units k) ≡ min (p.before + n * p.bytes + p.behind) (g * p.bytes + come p delay i)
have-in p shapes idle n delay g i k is r at low inside =
    ap (λ (s : ℕ). arrived shapes.total (rate_for p) (delay + s)) (r.slots g i k at low inside)
    ∙ (ap (λ (x : ℕ). min shapes.total x) (come-later p is delay g (p.slot i)) ∙ ap (λ (t : ℕ). min t (g * p.bytes + come p delay i)) r.total)

have-last : (p : Part) (shapes : UnitShapesSeen) (idle n delay : ℕ) → IsPart p → Repeats p shapes idle n
    → arrived shapes.total (rate_for p) (delay + slots_to idle shapes.units (n * p.slices)) ≡ min (p.before + n * p.bytes + p.behind) (n * p.bytes + delay * p.bytes / p.slots)
have-last p shapes idle n delay is r =
    let e : delay + slots_to idle shapes.units (n * p.slices) ≡ delay + (n * p.slots + 0) = omega (arith, r.last_slot) in
    let none : delay + 0 ≡ delay = omega arith in
    ap (λ (s : ℕ). arrived shapes.total (rate_for p) s) e
    ∙ (ap (λ (x : ℕ). min shapes.total x) (come-later p is delay n 0)
    ∙ (ap (λ (t : ℕ). min t (n * p.bytes + (delay + 0) * p.bytes / p.slots)) r.total
    ∙ ap (λ (d : ℕ). min (p.before + n * p.bytes + p.behind) (n * p.bytes + d * p.bytes / p.slots)) none))

-- ---- a slice by its part

pub record Split (p : Part) (n k : ℕ) : Type 0 where
  pub g : ℕ
  pub i : ℕ
  pub at : k ≡ g * p.slices + i
  pub low : g < n
  pub inside : i < p.slices

split : (p : Part) (n k : ℕ) → IsPart p → k < n * p.slices → Split p n k
split p n k is low = record {
  g = k / p.slices;
  i = k % p.slices;
  at = sym (div-add-mod' k p.slices);
  low = (div-lt_iff_lt-mul {k = p.slices} {x = k} {y = n} is.some_slices).1 low;
  inside = mod-lt k is.some_slices;
}

-- ---- the delay

-- what is asked of the whole stream is what is asked of its first part
pub enough_of : (p : Part) (shapes : UnitShapesSeen) (idle n delay : ℕ) → IsPart p → Repeats p shapes idle n → 1 ≤ n
    → AreInTime (course_of shapes (rate_for p) idle delay) (count_in shapes) → IsEnough p delay
enough_of p shapes idle n delay is r some in_time = record {
  each = λ i inside.
      let at : i ≡ 0 * p.slices + i = omega arith in
      let few : 1 * p.slices ≤ n * p.slices = mul-le-mul_right p.slices some in
      omega (arith, in_time i (omega (arith, r.count)), r.ends 0 i i at some inside, have-in p shapes idle n delay 0 i i is r at some inside);
  rest = omega (arith, in_time (n * p.slices) (omega (arith, r.count)), r.last, r.total, have-last p shapes idle n delay is r);
}

pub in_time_of : (p : Part) (shapes : UnitShapesSeen) (idle n delay : ℕ) → IsPart p → Repeats p shapes idle n
    → IsEnough p delay → AreInTime (course_of shapes (rate_for p) idle delay) (count_in shapes)
in_time_of p shapes idle n delay is r enough k low = elim (cases_lt k (n * p.slices)) [
  | inl below ↦
      let s = split p n k is below in
      let more : (s.g + 1) * p.bytes ≤ n * p.bytes = mul-le-mul_right p.bytes (omega (arith, s.low)) in
      let next : (s.g + 1) * p.bytes ≡ s.g * p.bytes + 1 * p.bytes = add-mul s.g 1 p.bytes in
      omega (arith, more, next, enough.each s.i s.inside, is.inside s.i s.inside, r.ends s.g s.i k s.at s.low s.inside, have-in p shapes idle n delay s.g s.i k is r s.at s.low s.inside)
  | inr from ↦
      let e : n * p.slices ≡ k = omega (arith, r.count) in
      subst (λ (j : ℕ). slot_end shapes.units shapes.total j ≤ arrived shapes.total (rate_for p) (delay + slots_to idle shapes.units j)) e
      (omega (arith, r.last, r.total, enough.rest, have-last p shapes idle n delay is r))
]

-- so it has one delay, however many parts there are
pub same_delay : (p : Part) (one two : UnitShapesSeen) (idle m n delay size delay2 size2 : ℕ) → IsPart p → Repeats p one idle m → Repeats p two idle n → 1 ≤ m → 1 ≤ n
    → IsPlan one (rate_for p) idle delay size → IsPlan two (rate_for p) idle delay2 size2 → delay ≡ delay2
same_delay p one two idle m n delay size delay2 size2 is r r2 some some2 plan plan2 =
    let up : delay ≤ delay2 = plan.least delay2 (in_time_of p one idle m delay2 is r (enough_of p two idle n delay2 is r2 some2 plan2.in_time)) in
    let down : delay2 ≤ delay = plan2.least delay (in_time_of p two idle n delay is r2 (enough_of p one idle m delay is r some plan.in_time)) in
    omega arith

-- ---- how far the channel is ahead

-- no less delay is enough
abbrev pub IsLeastEnough : Part → ℕ → Type 0
IsLeastEnough p delay = (less : ℕ) → IsEnough p less → delay ≤ less

pub least_enough : (p : Part) (shapes : UnitShapesSeen) (idle n delay size : ℕ) → IsPart p → Repeats p shapes idle n → IsPlan shapes (rate_for p) idle delay size → IsLeastEnough p delay
least_enough p shapes idle n delay size is r plan less enough = plan.least less (in_time_of p shapes idle n less is r enough)

-- where so much more than a number has come, the number had come a slot and a part's slots before
come-before : (bytes slots x target later earlier : ℕ) → 1 ≤ slots → target + bytes ≤ x + 1 → later ≤ earlier + slots → (x + 1) * slots ≤ later * bytes → target ≤ earlier * bytes / slots
come-before bytes slots x target later earlier some high near have =
    let wide : (target + bytes) * slots ≤ (x + 1) * slots = mul-le-mul_right slots high in
    let wide_is : (target + bytes) * slots ≡ target * slots + bytes * slots = add-mul target bytes slots in
    let long : later * bytes ≤ (earlier + slots) * bytes = mul-le-mul_right bytes near in
    let long_is : (earlier + slots) * bytes ≡ earlier * bytes + slots * bytes = add-mul earlier slots bytes in
    let same : slots * bytes ≡ bytes * slots = mul_comm slots bytes in
    le-div_of_le (earlier * bytes) slots target some (omega arith)

-- with the least delay no more than what stands before and behind and two parts have come by a slice of the first part
pub come_low : (p : Part) (delay i : ℕ) → IsPart p → IsLeastEnough p delay → i < p.slices → come p delay i ≤ p.before + 2 * p.bytes + p.behind
come_low p zero i is least inside =
    let few : (0 + p.slot i) * p.bytes ≤ p.slots * p.bytes = mul-le-mul_right p.bytes (omega (arith, is.early i inside)) in
    let same : p.slots * p.bytes ≡ p.bytes * p.slots = mul_comm p.slots p.bytes in
    let wide : (p.bytes + 1) * p.slots ≤ (p.before + 2 * p.bytes + p.behind + 1) * p.slots = mul-le-mul_right p.slots (omega arith) in
    let wide_is : (p.bytes + 1) * p.slots ≡ p.bytes * p.slots + 1 * p.slots = add-mul p.bytes 1 p.slots in
    div-le_of_lt ((0 + p.slot i) * p.bytes) p.slots (p.before + 2 * p.bytes + p.behind) is.some_slots (omega (arith, is.some_slots))
come_low p (suc d) i is least inside = elim (cases_lt ((suc d + p.slot i) * p.bytes) ((p.before + 2 * p.bytes + p.behind + 1) * p.slots)) [
  | inl below ↦ div-le_of_lt ((suc d + p.slot i) * p.bytes) p.slots (p.before + 2 * p.bytes + p.behind) is.some_slots below
  | inr have ↦
      let none : d + 0 ≡ d = omega arith in
      let enough : IsEnough p d = record {
        each = λ j low. come-before p.bytes p.slots (p.before + 2 * p.bytes + p.behind) (p.before + p.end j) (suc d + p.slot i) (d + p.slot j) is.some_slots (omega (arith, is.inside j low)) (omega (arith, is.early i inside)) have;
        rest = come-before p.bytes p.slots (p.before + 2 * p.bytes + p.behind) (p.before + p.behind) (suc d + p.slot i) d is.some_slots (omega arith) (omega (arith, is.early i inside)) have;
      } in
      absurd (omega (arith, least d enough))
]

-- ---- the bytes that are held

-- The parts end with their last slice, or the stream is nothing but its parts.
pub record EndsInside (p : Part) : Type 0 where
  pub last : (i : ℕ) → i + 1 ≡ p.slices → p.end i ≡ p.bytes

pub record StandsAlone (p : Part) : Type 0 where
  pub before : p.before ≡ 0
  pub behind : p.behind ≡ 0

-- the place where the slice before ends
gone-first : (shapes : UnitShapesSeen) (k : ℕ) → k ≡ 0 → gone_by shapes.units shapes.total k ≡ 0
gone-first shapes k e = ap (gone_by shapes.units shapes.total) e

gone-next : (shapes : UnitShapesSeen) (k j : ℕ) → k ≡ suc j → gone_by shapes.units shapes.total k ≡ slot_end shapes.units shapes.total j
gone-next shapes k j e = ap (gone_by shapes.units shapes.total) e

gone-part : (p : Part) (shapes : UnitShapesSeen) (idle n g k : ℕ) → IsPart p → Repeats p shapes idle n → k ≡ suc g * p.slices → g < n
    → gone_by shapes.units shapes.total k ≡ p.before + g * p.bytes + p.end (p.slices - 1)
gone-part p shapes idle n g k is r at low =
    let whole : suc g * p.slices ≡ g * p.slices + p.slices = suc-mul g p.slices in
    let last : k ≡ suc (g * p.slices + (p.slices - 1)) = omega (arith, is.some_slices) in
    gone-next shapes k (g * p.slices + (p.slices - 1)) last ∙ r.ends g (p.slices - 1) (g * p.slices + (p.slices - 1)) refl low (omega (arith, is.some_slices))

come-first : (p : Part) (delay : ℕ) → IsPart p → come p delay 0 ≡ delay * p.bytes / p.slots
come-first p delay is = let e : delay + p.slot 0 ≡ delay = omega (arith, is.first) in ap (λ (d : ℕ). d * p.bytes / p.slots) e

-- where the stream is nothing but its parts, a part has come at most before the first slice is taken
alone-low : (p : Part) (delay : ℕ) → IsPart p → StandsAlone p → IsLeastEnough p delay → delay * p.bytes / p.slots ≤ p.bytes
alone-low p delay is alone least =
    let same : p.slots * p.bytes ≡ p.bytes * p.slots = mul_comm p.slots p.bytes in
    let enough : IsEnough p p.slots = record {
      each = λ i inside.
          let end : (p.before + p.end i) * p.slots ≤ p.bytes * p.slots = mul-le-mul_right p.slots (omega (arith, alone.before, is.inside i inside)) in
          let all : (p.slots + p.slot i) * p.bytes ≡ p.slots * p.bytes + p.slot i * p.bytes = add-mul p.slots (p.slot i) p.bytes in
          le-div_of_le ((p.slots + p.slot i) * p.bytes) p.slots (p.before + p.end i) is.some_slots (omega arith);
      rest = omega (arith, alone.before, alone.behind);
    } in
    let early : delay ≤ p.slots = least p.slots enough in
    let few : delay * p.bytes ≤ p.slots * p.bytes = mul-le-mul_right p.bytes early in
    let next : (p.bytes + 1) * p.slots ≡ p.bytes * p.slots + 1 * p.slots = add-mul p.bytes 1 p.slots in
    div-le_of_lt (delay * p.bytes) p.slots p.bytes is.some_slots (omega (arith, is.some_slots))

module _ (p : Part) (one two : UnitShapesSeen) (idle m n delay size : ℕ) (is : IsPart p) (r : Repeats p one idle m) (r2 : Repeats p two idle n) (some : 1 ≤ m) (more : 2 ≤ n)
    (enough : IsEnough p delay) (least : IsLeastEnough p delay) (known : (k : ℕ) → k < count_in two → bytes_held (course_of two (rate_for p) idle delay) k ≤ size) where
  -- the first part of the second stream
  first-held : (i : ℕ) → i < p.slices → come p delay i - gone_by two.units two.total i ≤ size
  first-held i inside =
      let at : i ≡ 0 * p.slices + i = omega arith in
      let few : 2 * p.slices ≤ n * p.slices = mul-le-mul_right p.slices more in
      let wide : 2 * p.bytes ≤ n * p.bytes = mul-le-mul_right p.bytes more in
      omega (arith, known i (omega (arith, r2.count)), have-in p two idle n delay 0 i i is r2 at (omega arith) inside, come_low p delay i is least inside)

  -- a slice behind another one of its part
  inner-held : (g i k : ℕ) → k ≡ g * p.slices + suc i → g < m → suc i < p.slices → bytes_held (course_of one (rate_for p) idle delay) k ≤ size
  inner-held g i k at low inside =
      let up : 1 ≤ n = omega arith in
      let at2 : i ≡ 0 * p.slices + i = omega arith in
      let before : k ≡ suc (g * p.slices + i) = omega arith in
      omega (
        arith,
        first-held (suc i) inside,
        gone-next two (suc i) i refl,
        r2.ends 0 i i at2 up (omega arith),
        gone-next one k (g * p.slices + i) before,
        r.ends g i (g * p.slices + i) refl low (omega arith),
        have-in p one idle m delay g (suc i) k is r at low inside,
      )

  -- the first slice of the stream
  front-held : (k : ℕ) → k ≡ 0 * p.slices + 0 → 0 < m → bytes_held (course_of one (rate_for p) idle delay) k ≤ size
  front-held k at some_parts =
      omega (arith, first-held 0 is.some_slices, gone-first two 0 refl, gone-first one k (omega arith), have-in p one idle m delay 0 0 k is r at some_parts is.some_slices)

  -- the first slice of a later part, and the tail, where parts end with their last slice
  module _ (ends : EndsInside p) where
    part-held : (g k : ℕ) → k ≡ suc g * p.slices + 0 → suc g < m → bytes_held (course_of one (rate_for p) idle delay) k ≤ size
    part-held g k at low =
        let next : suc g * p.bytes ≡ g * p.bytes + p.bytes = suc-mul g p.bytes in
        omega (arith, first-held 0 is.some_slices, gone-first two 0 refl, gone-part p one idle m g k is r (omega arith) (omega arith), ends.last (p.slices - 1) (omega (arith, is.some_slices)), have-in p one idle m delay (suc g) 0 k is r at low is.some_slices)

    tail-held : bytes_held (course_of one (rate_for p) idle delay) (m * p.slices) ≤ size
    tail-held =
        let parts : m ≡ suc (m - 1) = omega arith in
        let slices : m * p.slices ≡ suc (m - 1) * p.slices = ap (λ (x : ℕ). x * p.slices) parts in
        let bytes : m * p.bytes ≡ suc (m - 1) * p.bytes = ap (λ (x : ℕ). x * p.bytes) parts in
        let next : suc (m - 1) * p.bytes ≡ (m - 1) * p.bytes + p.bytes = suc-mul (m - 1) p.bytes in
        omega (arith, first-held 0 is.some_slices, gone-first two 0 refl, gone-part p one idle m (m - 1) (m * p.slices) is r slices (omega arith), ends.last (p.slices - 1) (omega (arith, is.some_slices)), have-last p one idle m delay is r, enough.rest, come-first p delay is)

  -- and where the stream is nothing but its parts
  module _ (alone : StandsAlone p) where
    part-held-alone : (g k : ℕ) → k ≡ suc g * p.slices + 0 → suc g < m → bytes_held (course_of one (rate_for p) idle delay) k ≤ size
    part-held-alone g k at low =
        let next : suc g * p.bytes ≡ g * p.bytes + p.bytes = suc-mul g p.bytes in
        let at2 : p.slices ≡ 1 * p.slices + 0 = omega arith in
        let few : 2 * p.slices ≤ n * p.slices = mul-le-mul_right p.slices more in
        let wide : 2 * p.bytes ≤ n * p.bytes = mul-le-mul_right p.bytes more in
        let inside2 : p.slices < count_in two = omega (arith, r2.count) in
        omega (
          arith,
          known p.slices inside2,
          have-in p two idle n delay 1 0 p.slices is r2 at2 more is.some_slices,
          gone-part p two idle n 0 p.slices is r2 (omega arith) (omega arith),
          alone.before,
          alone.behind,
          alone-low p delay is alone least,
          come-first p delay is,
          gone-part p one idle m g k is r (omega arith) (omega arith),
          have-in p one idle m delay (suc g) 0 k is r at low is.some_slices,
        )

    tail-held-alone : bytes_held (course_of one (rate_for p) idle delay) (m * p.slices) ≤ size
    tail-held-alone =
        let parts : m ≡ suc (m - 1) = omega arith in
        let slices : m * p.slices ≡ suc (m - 1) * p.slices = ap (λ (x : ℕ). x * p.slices) parts in
        let bytes : m * p.bytes ≡ suc (m - 1) * p.bytes = ap (λ (x : ℕ). x * p.bytes) parts in
        let next : suc (m - 1) * p.bytes ≡ (m - 1) * p.bytes + p.bytes = suc-mul (m - 1) p.bytes in
        let parts2 : n ≡ suc (n - 1) = omega arith in
        let slices2 : n * p.slices ≡ suc (n - 1) * p.slices = ap (λ (x : ℕ). x * p.slices) parts2 in
        let bytes2 : n * p.bytes ≡ suc (n - 1) * p.bytes = ap (λ (x : ℕ). x * p.bytes) parts2 in
        let next2 : suc (n - 1) * p.bytes ≡ (n - 1) * p.bytes + p.bytes = suc-mul (n - 1) p.bytes in
        omega (
          arith,
          known (n * p.slices) (omega (arith, r2.count)),
          have-last p two idle n delay is r2,
          gone-part p two idle n (n - 1) (n * p.slices) is r2 slices2 (omega arith),
          have-last p one idle m delay is r,
          gone-part p one idle m (m - 1) (m * p.slices) is r slices (omega arith),
          alone.before,
          alone.behind,
        )

  -- all slices and the tail, by the first slice of a later part and the tail
  module _ (part : (g k : ℕ) → k ≡ suc g * p.slices + 0 → suc g < m → bytes_held (course_of one (rate_for p) idle delay) k ≤ size) (tail : bytes_held (course_of one (rate_for p) idle delay) (m * p.slices) ≤ size) where
    slice-held : (g i k : ℕ) → k ≡ g * p.slices + i → g < m → i < p.slices → bytes_held (course_of one (rate_for p) idle delay) k ≤ size
    slice-held zero zero k at low inside = front-held k at low
    slice-held (suc g) zero k at low inside = part g k at low
    slice-held g (suc i) k at low inside = inner-held g i k at low inside

    all-held : (k : ℕ) → k < count_in one → bytes_held (course_of one (rate_for p) idle delay) k ≤ size
    all-held k low = elim (cases_lt k (m * p.slices)) [
      | inl below ↦ let s = split p m k is below in slice-held s.g s.i k s.at s.low s.inside
      | inr from ↦
          let e : m * p.slices ≡ k = omega (arith, r.count) in
          subst (λ (j : ℕ). bytes_held (course_of one (rate_for p) idle delay) j ≤ size) e tail
    ]

  held-inside : EndsInside p → (k : ℕ) → k < count_in one → bytes_held (course_of one (rate_for p) idle delay) k ≤ size
  held-inside ends = all-held (part-held ends) (tail-held ends)

  held-alone : StandsAlone p → (k : ℕ) → k < count_in one → bytes_held (course_of one (rate_for p) idle delay) k ≤ size
  held-alone alone = all-held (part-held-alone alone) (tail-held-alone alone)

-- one of the two is the case
abbrev pub IsPlanned : Part → Type 0
IsPlanned p = EndsInside p ⊎ StandsAlone p

low-size : (p : Part) (one two : UnitShapesSeen) (idle m n delay size size2 : ℕ) → IsPart p → IsPlanned p → Repeats p one idle m → Repeats p two idle n → 1 ≤ m → 2 ≤ n
    → IsPlan one (rate_for p) idle delay size → IsPlan two (rate_for p) idle delay size2 → size ≤ size2
low-size p one two idle m n delay size size2 is kind r r2 some more plan plan2 =
    let enough = enough_of p one idle m delay is r some plan.in_time in
    let least = least_enough p one idle m delay size is r plan in
    elim kind [
      | inl ends ↦ plan.most.least size2 (held-inside p one two idle m n delay size2 is r r2 some more enough least plan2.most.above ends)
      | inr alone ↦ plan.most.least size2 (held-alone p one two idle m n delay size2 is r r2 some more enough least plan2.most.above alone)
    ]

-- from two parts on all streams have one plan
pub same_plan : (p : Part) (one two : UnitShapesSeen) (idle m n delay size delay2 size2 : ℕ) → IsPart p → IsPlanned p → Repeats p one idle m → Repeats p two idle n → 2 ≤ m → 2 ≤ n
    → IsPlan one (rate_for p) idle delay size → IsPlan two (rate_for p) idle delay2 size2 → (delay ≡ delay2) × (size ≡ size2)
same_plan p one two idle m n delay size delay2 size2 is kind r r2 some some2 plan plan2 =
    let e : delay2 ≡ delay = same_delay p two one idle n m delay2 size2 delay size is r2 r (omega arith) (omega arith) plan2 plan in
    let moved : IsPlan two (rate_for p) idle delay size2 = subst (λ (d : ℕ). IsPlan two (rate_for p) idle d size2) e plan2 in
    let up : size ≤ size2 = low-size p one two idle m n delay size size2 is kind r r2 (omega arith) some2 plan moved in
    let down : size2 ≤ size = low-size p two one idle n m delay size2 size is kind r2 r (omega arith) some moved plan in
    (sym e, omega arith)

-- ---- what is known of streams that repeat a part

module _ (p : Part) (stream : ℕ → UnitShapesSeen) (idle : ℕ) (is : IsPart p) (kind : IsPlanned p) (r : (n : ℕ) → Repeats p (stream n) idle n) (in_turn : (n : ℕ) → ShapesInTurn 0 (stream n).units (stream n).total) where
  found : (n : ℕ) → IsPlan (stream n) (rate_for p) idle (plan_delay (stream n) (rate_for p) idle) (plan_size (stream n) (rate_for p) idle)
  found n = plan_found (stream n) (rate_for p) idle (record { some_bytes = is.some_bytes; some_slots = is.some_slots }) (in_turn n)

  known-delay : (n : ℕ) → 1 ≤ n → plan_delay (stream n) (rate_for p) idle ≡ plan_delay (stream 1) (rate_for p) idle
  known-delay n some = same_delay p (stream n) (stream 1) idle n 1 (plan_delay (stream n) (rate_for p) idle) (plan_size (stream n) (rate_for p) idle)
      (plan_delay (stream 1) (rate_for p) idle) (plan_size (stream 1) (rate_for p) idle) is (r n) (r 1) some (omega arith) (found n) (found 1)

  known-plan : (n : ℕ) → 2 ≤ n → plan_of (stream n) (rate_for p) idle ≡ plan_of (stream 2) (rate_for p) idle
  known-plan n some =
      let e = same_plan p (stream n) (stream 2) idle n 2 (plan_delay (stream n) (rate_for p) idle) (plan_size (stream n) (rate_for p) idle)
      (plan_delay (stream 2) (rate_for p) idle) (plan_size (stream 2) (rate_for p) idle) is kind (r n) (r 2) some (omega arith) (found n) (found 2) in
      cc

  known-slots : SlotsAreKnown stream idle p.slices p.slots
  known-slots n g j low inside =
      omega (arith, (r n).slots g j (g * p.slices + j) refl low inside, (r n).slots 0 j j (omega arith) (omega arith) inside)

  pub are_known : AreKnown stream (rate_for p) idle p.slices p.slots
  are_known = record { in_turn = in_turn; plans = record { plan = known-plan; delay = known-delay }; taken = known-slots }
