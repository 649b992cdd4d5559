-- One outcome, and one plan.
use Rattle.std.proofs.Common.{◌≡◌, ℕ, zero, suc, ◌+◌, ◌<◌, ◌≤◌, max, arith, ap, sym, subst, refl, ◌∙◌, add-one, inl, inr}
use Rattle.std.proofs.lemmas.Bool.{cases_lt, lt-ltb, le-ltb}
use Rattle.slice_geometry.specs.UnitLengths.{UnitShapesSeen, ShapesInTurn}
use Rattle.channel_schedule.specs.declared.schedule.Rate.{Rate}
use Rattle.channel_schedule.specs.declared.schedule.Outcome.{Outcome}
use Rattle.channel_schedule.specs.declared.schedule.Outcome.TheVariants.{Runs, Late, Overfull}
use Rattle.channel_schedule.specs.Rates.{IsRate}
use Rattle.channel_schedule.specs.Courses.{Course, course_of, count_in, bytes_held, Run, IsLate, IsOverfull, IsOutcome, outcome_from, OneOutcome}
use Rattle.channel_schedule.specs.Plans.{IsGreatest, IsPlan, greatest, plan_delay, plan_size, lead_of, OnePlan}
use Rattle.channel_schedule.proofs.Greatest.{greatest_of_none, greatest_more}
use Rattle.channel_schedule.proofs.Runs.{run_of_none, run_more}
use Rattle.channel_schedule.proofs.Leads.{plan_in_time, plan_least}

-- ---- outcomes

pub outcome_from-is : (course : Course) (size k n : ℕ) → Run course size k → IsOutcome course size (k + n) (outcome_from course size k n)
outcome_from-is course size k zero run = let e : k ≡ k + 0 = omega arith in subst (λ (i : ℕ). Run course size i) e run
outcome_from-is course size k (suc n) run = elim (cases_lt (course.have k) (course.need k)) [
  | inl late ↦ rw (lt-ltb (course.have k) (course.need k) late) (record {
    k = k;
    first = record { inside = omega arith; before = run };
    slot_is = refl;
    have_is = refl;
    need_is = refl;
    late = late;
  })
  | inr there ↦ elim (cases_lt size (bytes_held course k)) [
    | inl over ↦ rw (le-ltb (course.have k) (course.need k) there, lt-ltb size (bytes_held course k) over) (
      refl,
      record {
        k = k;
        first = record { inside = omega arith; before = run };
        slot_is = refl;
        arrived = there;
        fill_is = refl;
        over = over;
      },
    )
    | inr fits ↦
        let e : k + 1 + n ≡ k + suc n = omega arith in
        rw (le-ltb (course.have k) (course.need k) there, le-ltb size (bytes_held course k) fits)
        (subst (λ (i : ℕ). IsOutcome course size i (outcome_from course size (k + 1) n)) e (outcome_from-is course size (k + 1) n (run_more course size k run there fits)))
  ]
]

-- slice k is no fault among slices that run
late_no : (course : Course) (size m k : ℕ) → Run course size m → k < m → course.have k < course.need k → ⊥
late_no course size m k run low late = omega (arith, run.in_time k low)

over_no : (course : Course) (size m k : ℕ) → Run course size m → k < m → size < bytes_held course k → ⊥
over_no course size m k run low over = omega (arith, run.within k low)

same_slice : (k m : ℕ) → (k < m → ⊥) → (m < k → ⊥) → k ≡ m
same_slice k m no_k no_m = elim (cases_lt k m) [
  | inl below ↦ absurd (no_k below)
  | inr from ↦ elim (cases_lt m k) [
    | inl above ↦ absurd (no_m above)
    | inr other ↦ omega arith
  ]
]

late_here : (course : Course) (size n slot have need : ℕ) (is : IsLate course size n slot have need) → course.have is.k < course.need is.k
late_here course size n slot have need is = omega (arith, is.have_is, is.need_is, is.late)

over_here : (course : Course) (size n slot fill : ℕ) (is : IsOverfull course size n slot fill) → size < bytes_held course is.k
over_here course size n slot fill is = omega (arith, is.fill_is, is.over)

late_alone : (course : Course) (size n slot have need slot2 have2 need2 : ℕ) → IsLate course size n slot have need → IsLate course size n slot2 have2 need2 → (slot ≡ slot2) × (have ≡ have2) × (need ≡ need2)
late_alone course size n slot have need slot2 have2 need2 one two =
    let e : one.k ≡ two.k = same_slice one.k two.k
    (λ below. late_no course size two.k one.k two.first.before below (late_here course size n slot have need one))
    (λ below. late_no course size one.k two.k one.first.before below (late_here course size n slot2 have2 need2 two)) in
    (one.slot_is ∙ ap course.slot e ∙ sym two.slot_is, one.have_is ∙ ap course.have e ∙ sym two.have_is, one.need_is ∙ ap course.need e ∙ sym two.need_is)

over_alone : (course : Course) (size n slot fill slot2 fill2 : ℕ) → IsOverfull course size n slot fill → IsOverfull course size n slot2 fill2 → (slot ≡ slot2) × (fill ≡ fill2)
over_alone course size n slot fill slot2 fill2 one two =
    let e : one.k ≡ two.k = same_slice one.k two.k
    (λ below. over_no course size two.k one.k two.first.before below (over_here course size n slot fill one))
    (λ below. over_no course size one.k two.k one.first.before below (over_here course size n slot2 fill2 two)) in
    (one.slot_is ∙ ap course.slot e ∙ sym two.slot_is, one.fill_is ∙ ap (bytes_held course) e ∙ sym two.fill_is)

late_or_over : (course : Course) (size n slot have need slot2 fill : ℕ) → IsLate course size n slot have need → IsOverfull course size n slot2 fill → ⊥
late_or_over course size n slot have need slot2 fill late over =
    let here = late_here course size n slot have need late in
    let e : late.k ≡ over.k = same_slice late.k over.k
    (λ below. late_no course size over.k late.k over.first.before below here)
    (λ below. over_no course size late.k over.k late.first.before below (over_here course size n slot2 fill over)) in
    omega (arith, here, over.arrived, ap course.have e, ap course.need e)

pub only_outcome : (course : Course) (size n : ℕ) (one two : Outcome) → IsOutcome course size n one → IsOutcome course size n two → one ≡ two
only_outcome course size n Runs Runs first second = refl
only_outcome course size n Runs (Late slot have need) first second = absurd (late_no course size n second.k first second.first.inside (late_here course size n slot have need second))
only_outcome course size n Runs (Overfull slot fill room) first second = absurd (over_no course size n second.1.k first second.1.first.inside (over_here course size n slot fill second.1))
only_outcome course size n (Late slot have need) Runs first second = absurd (late_no course size n first.k second first.first.inside (late_here course size n slot have need first))
only_outcome course size n (Late slot have need) (Late slot2 have2 need2) first second =
    let e = late_alone course size n slot have need slot2 have2 need2 first second in cc
only_outcome course size n (Late slot have need) (Overfull slot2 fill room) first second = absurd (late_or_over course size n slot have need slot2 fill first second.1)
only_outcome course size n (Overfull slot fill room) Runs first second = absurd (over_no course size n first.1.k second first.1.first.inside (over_here course size n slot fill first.1))
only_outcome course size n (Overfull slot fill room) (Late slot2 have need) first second = absurd (late_or_over course size n slot2 have need slot fill second first.1)
only_outcome course size n (Overfull slot fill room) (Overfull slot2 fill2 room2) first second =
    let e = over_alone course size n slot fill slot2 fill2 first.1 second.1 in
    let rooms : room ≡ room2 = first.0 ∙ sym second.0 in cc

pub one_outcome : (course : Course) (size n : ℕ) → OneOutcome course size n
one_outcome course size n =
    let none : 0 + n ≡ n = omega arith in
    let found : IsOutcome course size n (outcome_from course size 0 n) = subst (λ (i : ℕ). IsOutcome course size i (outcome_from course size 0 n)) none (outcome_from-is course size 0 n (run_of_none course size)) in
    record { found = found; only = λ outcome is. only_outcome course size n outcome (outcome_from course size 0 n) is found }

-- ---- plans

pub greatest-is : (f : ℕ → ℕ) (n : ℕ) → IsGreatest f n (greatest f n)
greatest-is f zero = greatest_of_none f
greatest-is f (suc n) = let e : n + 1 ≡ suc n = add-one n in subst (λ (i : ℕ). IsGreatest f i (max (greatest f n) (f n))) e (greatest_more f n (greatest f n) (f n) (greatest-is f n) refl)

pub greatest_alone : (f : ℕ → ℕ) (n a b : ℕ) → IsGreatest f n a → IsGreatest f n b → a ≡ b
greatest_alone f n a b one two =
    let up : a ≤ b = one.least b two.above in
    let down : b ≤ a = two.least a one.above in
    omega arith

pub plan_found : (shapes : UnitShapesSeen) (rate : Rate) (idle : ℕ) → IsRate rate → ShapesInTurn 0 shapes.units shapes.total → IsPlan shapes rate idle (plan_delay shapes rate idle) (plan_size shapes rate idle)
plan_found shapes rate idle some in_turn =
    let lead = greatest (lead_of shapes rate idle) (count_in shapes) in
    let most : IsGreatest (lead_of shapes rate idle) (count_in shapes) lead = greatest-is (lead_of shapes rate idle) (count_in shapes) in
    record {
      in_time = plan_in_time shapes rate idle lead (plan_delay shapes rate idle) some refl most in_turn;
      least = plan_least shapes rate idle lead (plan_delay shapes rate idle) some refl most;
      most = greatest-is (bytes_held (course_of shapes rate idle (plan_delay shapes rate idle))) (count_in shapes);
    }

pub plan_alone : (shapes : UnitShapesSeen) (rate : Rate) (idle : ℕ) (delay size delay2 size2 : ℕ) → IsPlan shapes rate idle delay size → IsPlan shapes rate idle delay2 size2 → (delay ≡ delay2) × (size ≡ size2)
plan_alone shapes rate idle delay size delay2 size2 one two =
    let up : delay ≤ delay2 = one.least delay2 two.in_time in
    let down : delay2 ≤ delay = two.least delay one.in_time in
    let e : delay ≡ delay2 = omega arith in
    let most : IsGreatest (bytes_held (course_of shapes rate idle delay2)) (count_in shapes) size = subst (λ (d : ℕ). IsGreatest (bytes_held (course_of shapes rate idle d)) (count_in shapes) size) e one.most in
    (e, greatest_alone (bytes_held (course_of shapes rate idle delay2)) (count_in shapes) size size2 most two.most)

pub one_plan : (shapes : UnitShapesSeen) (rate : Rate) (idle : ℕ) → IsRate rate → ShapesInTurn 0 shapes.units shapes.total → OnePlan shapes rate idle
one_plan shapes rate idle some in_turn =
    let found = plan_found shapes rate idle some in_turn in
    record { found = found; only = λ delay size is. plan_alone shapes rate idle delay size (plan_delay shapes rate idle) (plan_size shapes rate idle) is found }

pub plan_replays : (shapes : UnitShapesSeen) (rate : Rate) (idle delay size : ℕ) (outcome : Outcome) → IsPlan shapes rate idle delay size → IsOutcome (course_of shapes rate idle delay) size (count_in shapes) outcome → outcome ≡ Runs
plan_replays shapes rate idle delay size outcome plan is =
    only_outcome (course_of shapes rate idle delay) size (count_in shapes) outcome Runs is (record { in_time = plan.in_time; within = plan.most.above })
