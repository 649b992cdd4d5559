-- A line of synthesis depends on each row that it asks for: what has not come is 1 in LL and -4 in HL, and all else 0. Then the first
-- column of no level is below 0, and in a row that asks for what has not come it is 1 or more.
use Rattle.std.proofs.Common.{◌≡◌, ◌⊎◌, ◌∙◌, refl, sym, ap, subst, ℕ, zero, suc, ℤ, pos, negsuc, ◌+ℤ◌, neg_ℤ, ◌≤ℤ◌, ◌+◌, ◌-◌, ◌*◌, ◌/◌, ◌%◌, ◌^◌, ◌<◌, ◌≤◌, ◌==◌, if◌then◌else◌, Bool, true, false, arith, inl, inr}
use Rattle.std.specs.Prelude.{nat_lt}
use Rattle.std.specs.Int.{int_shr}
use Rattle.std.proofs.Math.Path.{fun_ext}
use Rattle.std.proofs.lemmas.Bool.{cases_eq, cases_lt}
use Rattle.std.proofs.lemmas.Bool.Decides.{nat_tests}
use Rattle.std.proofs.lemmas.Int.{ints}
use Rattle.planes.specs.Numbers.{Within}
use Rattle.planes.proofs.Floors.{IsFloor, floor_half, floor_quarter}
use Rattle.lifting.specs.declared.Wavelet.{Wavelet}
use Rattle.lifting.specs.declared.Wavelet.TheVariants.{LeGall, HaarFlat, HaarShift}
use Rattle.lifting.specs.declared.PairStep.TheVariants.{EvenDown, OddUp}
use Rattle.lifting.specs.Steps.{step, halved, pair_step, haar_step, one_step}
use Rattle.lifting.specs.Lines.{Line, after, lift, synthesis_line}
use Rattle.lifting.specs.Transform.{Grid, Coefficients, interleaved, synthesis_level, synthesis}
use Rattle.lifting.specs.Ranges.{BandsWithin}
use Rattle.lifting.specs.LevelPairs.{pairs_for, CameFor, AgreeInCame, NoRowSooner}
use Rattle.lifting.proofs.Inside.{twice_size}
use Rattle.lifting.proofs.Sooner.{zero_within}
use Rattle.lifting.proofs.TwoSides.{same_step}
use Rattle.lifting.proofs.Undone.{before_even, after_even, before_odd, lift_at, lift_other, interleaved_parts}

-- ---- steps

even_alone : (k : Wavelet) (v : ℤ) → step k EvenDown v (pos 0) (pos 0) ≡ v
unfolding step pair_step haar_step one_step
even_alone LeGall v = omega (arith, ints)
even_alone HaarFlat v = omega (arith, ints)
even_alone HaarShift v = omega (arith, ints)

odd_none : (k : Wavelet) → step k OddUp (pos 0) (pos 0) (pos 0) ≡ pos 0
unfolding step pair_step haar_step one_step
odd_none LeGall = refl
odd_none HaarFlat = refl
odd_none HaarShift = refl

-- an odd place that is 0 becomes this, between p and the last even place q that it asks for
between : Wavelet → ℤ → ℤ → ℤ
between LeGall p q = int_shr (p +ℤ q +ℤ pos 1) 1
between HaarFlat p q = q
between HaarShift p q = q

-- ---- lines of synthesis

zero_lift : (p n i : ℕ) (f : ℤ → ℤ → ℤ → ℤ) → f (pos 0) (pos 0) (pos 0) ≡ pos 0 → lift p n f (λ j. pos 0) i ≡ pos 0
zero_lift p n i f e = elim (cases_eq (i % 2) p) [
  | inl here ↦ lift_at p n f (λ j. pos 0) i here ∙ e
  | inr ne ↦ lift_other p n f (λ j. pos 0) i ne
]

zero_line : (k : Wavelet) (n i : ℕ) → synthesis_line k n (λ j. pos 0) i ≡ pos 0
unfolding synthesis_line
zero_line k n i =
    ap (λ (a : Line). lift 1 n (step k OddUp) a i) (fun_ext (λ j. zero_lift 0 n j (step k EvenDown) (even_alone k (pos 0)))) ∙ zero_lift 1 n i (step k OddUp) (odd_none k)

module _ (k : Wavelet) (n : ℕ) (a : Line) where
  evened_at : (y : ℕ) → lift 0 (2 * n) (step k EvenDown) a (2 * y) ≡ step k EvenDown (a (2 * y)) (a (2 * (y - 1) + 1)) (a (2 * y + 1))
  evened_at y = lift_at 0 (2 * n) (step k EvenDown) a (2 * y) (omega arith) ∙ same_step (step k EvenDown) _ _ _ _ _ _ refl (ap a (before_even y)) (ap a (after_even (2 * n) y (omega arith)))

  at_even : (y : ℕ) → synthesis_line k (2 * n) a (2 * y) ≡ step k EvenDown (a (2 * y)) (a (2 * (y - 1) + 1)) (a (2 * y + 1))
  unfolding synthesis_line
  at_even y = lift_other 1 (2 * n) (step k OddUp) (lift 0 (2 * n) (step k EvenDown) a) (2 * y) (omega arith) ∙ evened_at y

  at_odd : (y : ℕ) → synthesis_line k (2 * n) a (2 * y + 1) ≡ step k OddUp (a (2 * y + 1)) (lift 0 (2 * n) (step k EvenDown) a (2 * y)) (lift 0 (2 * n) (step k EvenDown) a (after (2 * n) (2 * y + 1)))
  unfolding synthesis_line
  at_odd y =
      let e = lift 0 (2 * n) (step k EvenDown) a in
      lift_at 1 (2 * n) (step k OddUp) e (2 * y + 1) (omega arith)
      ∙ same_step (step k OddUp) _ _ _ _ _ _ (lift_other 0 (2 * n) (step k EvenDown) a (2 * y + 1) (omega arith)) (ap e (before_odd y)) refl

-- the pair of that last even place
latter : Wavelet → ℕ → ℕ → ℕ
latter LeGall n z = if z + 1 == n then z else z + 1
latter HaarFlat n z = z
latter HaarShift n z = z

after_odd : (n z : ℕ) → after (2 * n) (2 * z + 1) ≡ 2 * latter LeGall n z
unfolding latter
after_odd n z = grind arith

-- a line of even places alone
module _ (k : Wavelet) (n : ℕ) (a : Line) (odds : (z : ℕ) → a (2 * z + 1) ≡ pos 0) where
  evened : (z : ℕ) → lift 0 (2 * n) (step k EvenDown) a (2 * z) ≡ a (2 * z)
  evened z = evened_at k n a z ∙ rw (odds (z - 1), odds z) (even_alone k (a (2 * z)))

  up_even : (z : ℕ) → synthesis_line k (2 * n) a (2 * z) ≡ a (2 * z)
  up_even z = at_even k n a z ∙ rw (odds (z - 1), odds z) (even_alone k (a (2 * z)))

up_odd : (k : Wavelet) (n : ℕ) (a : Line) → ((z : ℕ) → a (2 * z + 1) ≡ pos 0) → (z : ℕ) → synthesis_line k (2 * n) a (2 * z + 1) ≡ between k (a (2 * z)) (a (2 * latter k n z))
unfolding step pair_step haar_step one_step between latter
up_odd LeGall n a odds z = at_odd LeGall n a z ∙ rw (odds z, evened LeGall n a odds z, after_odd n z, evened LeGall n a odds (latter LeGall n z)) (omega (arith, ints))
up_odd HaarFlat n a odds z = at_odd HaarFlat n a z ∙ rw (odds z, evened HaarFlat n a odds z) (omega (arith, ints))
up_odd HaarShift n a odds z = at_odd HaarShift n a z ∙ rw (odds z, evened HaarShift n a odds z) (omega (arith, ints))

-- the pair that place y asks for, as `pairs_for` counts
place : Wavelet → ℕ → ℕ → ℕ
place k n y = if y % 2 == 0 then y / 2 else latter k n (y / 2)

place_is : (k : Wavelet) (n y : ℕ) → y < 2 * n → (pairs_for k n (y + 1) ≡ place k n y + 1) × (place k n y < n)
unfolding place latter
place_is LeGall n y lt = (grind arith, grind arith)
place_is HaarFlat n y lt = (grind arith, grind arith)
place_is HaarShift n y lt = (grind arith, grind arith)

-- what holds of that pair, beside what holds of all
up_by : (P Q R : ℤ → Type 0) (k : Wavelet) (n : ℕ) (a : Line) → ((z : ℕ) → a (2 * z + 1) ≡ pos 0) → ((v : ℤ) → Q v → R v) → ((p q : ℤ) → P p → Q q → R (between k p q))
    → ((z : ℕ) → P (a (2 * z))) → (y : ℕ) → Q (a (2 * place k n y)) → R (synthesis_line k (2 * n) a y)
unfolding place
up_by P Q R k n a odds own mixed all y asked = elim (cases_eq (y % 2) 0) [
  | inl e ↦
      let whole : 2 * (y / 2) ≡ y = omega arith in
      let here : place k n y ≡ y / 2 = rw e refl in
      subst (λ (m : ℕ). R (synthesis_line k (2 * n) a m)) whole (subst R (sym (up_even k n a odds (y / 2))) (own _ (subst (λ (m : ℕ). Q (a (2 * m))) here asked)))
  | inr ne ↦
      let whole : 2 * (y / 2) + 1 ≡ y = omega arith in
      let odd : (y % 2 == 0) ≡ false = grind arith in
      let here : place k n y ≡ latter k n (y / 2) = rw odd refl in
      subst (λ (m : ℕ). R (synthesis_line k (2 * n) a m)) whole (subst R (sym (up_odd k n a odds (y / 2))) (mixed _ _ (all (y / 2)) (subst (λ (m : ℕ). Q (a (2 * m))) here asked)))
]

-- ---- a level of synthesis, whose LL is not below 0 and whose HL is not above it, and whose LH and HH are 0

-- from m up, and from -m down; m is 1 of what is asked for, and 0 of all
IsUp : ℕ → ℤ → Type 0
IsUp m v = pos m ≤ℤ v

IsDown : ℕ → ℤ → Type 0
IsDown m v = v ≤ℤ neg_ℤ (pos m)

up_between : (m : ℕ) → m ≤ 1 → (k : Wavelet) (p q : ℤ) → IsUp 0 p → IsUp m q → IsUp m (between k p q)
unfolding between IsUp
up_between m one LeGall p q pp pq = let f : IsFloor (p +ℤ q +ℤ pos 1) 2 (int_shr (p +ℤ q +ℤ pos 1) 1) = floor_half (p +ℤ q +ℤ pos 1) in omega (arith, ints)
up_between m one HaarFlat p q pp pq = pq
up_between m one HaarShift p q pp pq = pq

down_between : (m : ℕ) (k : Wavelet) (p q : ℤ) → IsDown 0 p → IsDown (4 * m) q → IsDown (2 * m) (between k p q)
unfolding between IsDown
down_between m LeGall p q pp pq = let f : IsFloor (p +ℤ q +ℤ pos 1) 2 (int_shr (p +ℤ q +ℤ pos 1) 1) = floor_half (p +ℤ q +ℤ pos 1) in omega (arith, ints)
down_between m HaarFlat p q pp pq = omega (arith, ints)
down_between m HaarShift p q pp pq = omega (arith, ints)

less_down : (m : ℕ) (v : ℤ) → IsDown (4 * m) v → IsDown (2 * m) v
unfolding IsDown
less_down m v down = omega (arith, ints)

-- the first place of a row, whose second is b
half_up : (m : ℕ) (v : ℤ) → IsUp m v → m ≤ 1 → IsUp m (int_shr (v +ℤ pos 1) 1)
unfolding IsUp
half_up m v up one = let f : IsFloor (v +ℤ pos 1) 2 (int_shr (v +ℤ pos 1) 1) = floor_half (v +ℤ pos 1) in omega (arith, ints)

halved_up : (k : Wavelet) (m : ℕ) (v : ℤ) → IsUp m v → m ≤ 1 → IsUp m (halved k v)
halved_up LeGall m v up one = half_up m v up one
halved_up HaarFlat m v up one = up
halved_up HaarShift m v up one = half_up m v up one

first_up : (k : Wavelet) (m : ℕ) (v b : ℤ) → m ≤ 1 → IsUp 0 v → IsDown 0 b → IsUp m v ⊎ IsDown (2 * m) b → IsUp m (step k EvenDown v b b)
unfolding step pair_step haar_step one_step IsUp IsDown
first_up LeGall m v b one up down asked =
    let f : IsFloor (b +ℤ b +ℤ pos 2) 4 (int_shr (b +ℤ b +ℤ pos 2) 2) = floor_quarter (b +ℤ b +ℤ pos 2) in
    elim asked [ inl own ↦ omega (arith, ints) | inr other ↦ omega (arith, ints) ]
first_up HaarFlat m v b one up down asked =
    let f : IsFloor (b +ℤ pos 1) 2 (int_shr (b +ℤ pos 1) 1) = floor_half (b +ℤ pos 1) in
    elim asked [ inl own ↦ omega (arith, ints) | inr other ↦ omega (arith, ints) ]
first_up HaarShift m v b one up down asked =
    let f : IsFloor (b +ℤ pos 1) 2 (int_shr (b +ℤ pos 1) 1) = floor_half (b +ℤ pos 1) in
    elim asked [ inl own ↦ omega (arith, ints) | inr other ↦ omega (arith, ints) ]

-- the first two columns
module _ (a b c d : Grid) (z : ℕ) where
  half : 2 * z / 2 ≡ z
  half = omega arith

  half_odd : (2 * z + 1) / 2 ≡ z
  half_odd = omega arith

  even : 2 * z % 2 ≡ 0
  even = omega arith

  odd : (2 * z + 1) % 2 ≡ 1
  odd = omega arith

  ll_at : interleaved a b c d (2 * z) 0 ≡ a z 0
  unfolding interleaved
  ll_at = rw (even, half) refl

  hl_at : interleaved a b c d (2 * z) 1 ≡ b z 0
  unfolding interleaved
  hl_at = rw (even, half) refl

  lh_at : interleaved a b c d (2 * z + 1) 0 ≡ c z 0
  unfolding interleaved
  lh_at = rw (odd, half_odd) refl

  hh_at : interleaved a b c d (2 * z + 1) 1 ≡ d z 0
  unfolding interleaved
  hh_at = rw (odd, half_odd) refl

-- a band of 0
no_band : Grid
no_band y x = pos 0

module _ (k : Wavelet) (h w : ℕ) (ll hl : Grid) (up : (z : ℕ) → IsUp 0 (ll z 0)) (down : (z : ℕ) → IsDown 0 (hl z 0)) where
  abbrev bands : Grid
  bands = interleaved ll hl no_band no_band

  first_column : (m y : ℕ) → m ≤ 1 → IsUp m (ll (place k h y) 0) → IsUp m (synthesis_line k (2 * h) (λ j. bands j 0) y)
  unfolding no_band
  first_column m y one asked =
      up_by (IsUp 0) (IsUp m) (IsUp m) k h (λ j. bands j 0) (lh_at ll hl no_band no_band) (λ v own. own) (up_between m one k) (λ z. subst (IsUp 0) (sym (ll_at ll hl no_band no_band z)) (up z))
      y (subst (IsUp m) (sym (ll_at ll hl no_band no_band (place k h y))) asked)

  second_column : (m y : ℕ) → IsDown (4 * m) (hl (place k h y) 0) → IsDown (2 * m) (synthesis_line k (2 * h) (λ j. bands j 1) y)
  unfolding no_band
  second_column m y asked =
      up_by (IsDown 0) (IsDown (4 * m)) (IsDown (2 * m)) k h (λ j. bands j 1) (hh_at ll hl no_band no_band) (less_down m) (down_between m k) (λ z. subst (IsDown 0) (sym (hl_at ll hl no_band no_band z)) (down z))
      y (subst (IsDown (4 * m)) (sym (hl_at ll hl no_band no_band (place k h y))) asked)

  made_up : (m y : ℕ) → m ≤ 1 → IsUp m (ll (place k h y) 0) ⊎ IsDown (4 * m) (hl (place k h y) 0) → IsUp m (synthesis_level k (2 * h) (2 * w) bands y 0)
  unfolding synthesis_level
  made_up m y one asked =
      let columns : Line = λ i. synthesis_line k (2 * h) (λ j. bands j i) y in
      let v : ℤ = columns 0 in
      let b : ℤ = columns 1 in
      let first : synthesis_line k (2 * w) columns 0 ≡ step k EvenDown v b b = at_even k w columns 0 in
      let either : IsUp m v ⊎ IsDown (2 * m) b = elim asked [ inl own ↦ inl (first_column m y one own) | inr other ↦ inr (second_column m y other) ] in
      halved_up k m _ (subst (IsUp m) (sym first) (first_up k m v b one (first_column 0 y (omega arith) (up (place k h y))) (second_column 0 y (down (place k h y))) either)) one

-- ---- all levels

-- what has not come is 1 in LL and -4 in HL
not_come : (ℕ → ℕ) → Coefficients
not_come came = record {
  ll = λ y x. if nat_lt y (came 0) then pos 0 else pos 1;
  hl = λ n y x. if nat_lt y (came n) then pos 0 else negsuc 3;
  lh = λ n. no_band;
  hh = λ n. no_band;
}

-- and coefficients of 0
nothing : Coefficients
nothing = record { ll = no_band; hl = λ n. no_band; lh = λ n. no_band; hh = λ n. no_band }

agree : (came : ℕ → ℕ) → AgreeInCame came nothing (not_come came)
unfolding nothing not_come no_band
agree came = record {
  ll = λ y x lt. let is : nat_lt y (came 0) ≡ true = grind (arith, nat_tests) in rw is refl;
  hl = λ n y x lt. let is : nat_lt y (came n) ≡ true = grind (arith, nat_tests) in rw is refl;
  lh = λ n y x lt. refl;
  hh = λ n y x lt. refl;
}

bands_none : interleaved no_band no_band no_band no_band ≡ no_band
unfolding no_band
bands_none = interleaved_parts no_band

nothing_within : (h w depth : ℕ) → BandsWithin h w depth 4 4 nothing
unfolding nothing no_band
nothing_within h w depth = record {
  ll = λ y x ly lx. zero_within 4;
  hl = λ n lt y x ly lx. zero_within 4;
  lh = λ n lt y x ly lx. zero_within 4;
  hh = λ n lt y x ly lx. zero_within 4;
}

-- what holds of 0 and of v
of_both : (P : ℤ → Type 0) (b : Bool) (v : ℤ) → P (pos 0) → P v → P (if b then pos 0 else v)
of_both P true v none some = none
of_both P false v none some = some

not_come_within : (came : ℕ → ℕ) (h w depth : ℕ) → BandsWithin h w depth 4 4 (not_come came)
unfolding not_come no_band
not_come_within came h w depth = record {
  ll = λ y x ly lx. of_both (Within 4) (nat_lt y (came 0)) (pos 1) (zero_within 4) (record { low = omega (arith, ints); high = omega (arith, ints) });
  hl = λ n lt y x ly lx. of_both (Within 4) (nat_lt y (came (suc n))) (negsuc 3) (zero_within 4) (record { low = omega (arith, ints); high = omega (arith, ints) });
  lh = λ n lt y x ly lx. zero_within 4;
  hh = λ n lt y x ly lx. zero_within 4;
}

halved_none : (k : Wavelet) → halved k (pos 0) ≡ pos 0
halved_none LeGall = refl
halved_none HaarFlat = refl
halved_none HaarShift = refl

not_yet : (y n : ℕ) → ¬ (y < n) → nat_lt y n ≡ false
not_yet y n late = grind (arith, nat_tests)

module _ (k : Wavelet) (h w : ℕ) where
  level_none : (h' w' : ℕ) → synthesis_level k h' w' no_band ≡ no_band
  unfolding synthesis_level no_band
  level_none h' w' = fun_ext λ y. fun_ext λ x.
      ap (λ (a : Line). halved k (synthesis_line k w' a x)) (fun_ext (λ i. zero_line k h' y)) ∙ ap (halved k) (zero_line k w' x) ∙ halved_none k

  none_made : (n : ℕ) → synthesis k h w nothing n ≡ no_band
  unfolding synthesis nothing
  none_made zero = refl
  none_made (suc n) =
      ap (λ (ll : Grid). synthesis_level k (h * 2 ^ suc n) (w * 2 ^ suc n) (interleaved ll no_band no_band no_band)) (none_made n)
      ∙ ap (synthesis_level k (h * 2 ^ suc n) (w * 2 ^ suc n)) bands_none ∙ level_none (h * 2 ^ suc n) (w * 2 ^ suc n)

  module _ (came : ℕ → ℕ) where
    level_is : (n : ℕ) → synthesis k h w (not_come came) (suc n) ≡ synthesis_level k (2 * (h * 2 ^ n)) (2 * (w * 2 ^ n)) (interleaved (synthesis k h w (not_come came) n) ((not_come came).hl (suc n)) no_band no_band)
    unfolding synthesis not_come
    level_is n =
        let made : ℕ → ℕ → Grid = λ a b. synthesis_level k a b (interleaved (synthesis k h w (not_come came) n) ((not_come came).hl (suc n)) no_band no_band) in
        ap (λ (m : ℕ). made m (w * 2 ^ suc n)) (twice_size h n) ∙ ap (made (2 * (h * 2 ^ n))) (twice_size w n)

    ll_up : (y : ℕ) → IsUp 0 ((not_come came).ll y 0)
    unfolding not_come IsUp
    ll_up y = of_both (IsUp 0) (nat_lt y (came 0)) (pos 1) (omega (arith, ints)) (omega (arith, ints))

    hl_down : (n y : ℕ) → IsDown 0 ((not_come came).hl n y 0)
    unfolding not_come IsDown
    hl_down n y = of_both (IsDown 0) (nat_lt y (came n)) (negsuc 3) (omega (arith, ints)) (omega (arith, ints))

    ll_one : (y : ℕ) → ¬ (y < came 0) → IsUp 1 ((not_come came).ll y 0)
    unfolding not_come IsUp
    ll_one y late = let is : nat_lt y (came 0) ≡ false = not_yet y (came 0) late in rw is (omega (arith, ints))

    hl_four : (n y : ℕ) → ¬ (y < came n) → IsDown 4 ((not_come came).hl n y 0)
    unfolding not_come IsDown
    hl_four n y late = let is : nat_lt y (came n) ≡ false = not_yet y (came n) late in rw is (omega (arith, ints))

    made : (n y m : ℕ) → m ≤ 1 → ((z : ℕ) → IsUp 0 (synthesis k h w (not_come came) n z 0)) → IsUp m (synthesis k h w (not_come came) n (place k (h * 2 ^ n) y) 0) ⊎ IsDown (4 * m) ((not_come came).hl (suc n) (place k (h * 2 ^ n) y) 0)
        → IsUp m (synthesis k h w (not_come came) (suc n) y 0)
    made n y m one up asked =
        subst (λ (g : Grid). IsUp m (g y 0)) (sym (level_is n))
        (made_up k (h * 2 ^ n) (w * 2 ^ n) (synthesis k h w (not_come came) n) ((not_come came).hl (suc n)) up (hl_down (suc n)) m y one asked)

    all_up : (n y : ℕ) → IsUp 0 (synthesis k h w (not_come came) n y 0)
    unfolding synthesis
    all_up zero y = ll_up y
    all_up (suc n) y = made n y 0 (omega arith) (all_up n) (inl (all_up n (place k (h * 2 ^ n) y)))

    one_up : (n y : ℕ) → y < h * 2 ^ n → ¬ CameFor k (λ m. h * 2 ^ m) came (y + 1) n → IsUp 1 (synthesis k h w (not_come came) n y 0)
    unfolding CameFor synthesis
    one_up zero y lt missing = ll_one y (λ here. missing (omega arith))
    one_up (suc n) y lt missing =
        let q : ℕ = place k (h * 2 ^ n) y in
        let is = place_is k (h * 2 ^ n) y (omega (arith, lt, twice_size h n)) in
        elim (cases_lt q (came (suc n))) [
          | inl here ↦
              let below : ¬ CameFor k (λ m. h * 2 ^ m) came (q + 1) n = λ all. missing (subst (λ (e : ℕ). CameFor k (λ m. h * 2 ^ m) came e n) (sym is.0) all, omega (arith, is.0, here)) in
              made n y 1 (omega arith) (all_up n) (inl (one_up n q is.1 below))
          | inr gone ↦ made n y 1 (omega arith) (all_up n) (inr (hl_four (suc n) q (λ here. absurd omega (arith, gone, here))))
        ]

above : {v : ℤ} → pos 0 ≡ v → IsUp 1 v → ⊥
unfolding IsUp
above is up = absurd omega (arith, ints, is, up)

pub no_row_sooner : NoRowSooner
unfolding no_band
no_row_sooner k h w depth y came lt missing = (
  nothing,
  not_come came,
  nothing_within h w depth,
  not_come_within came h w depth,
  agree came,
  λ same. above (sym (ap (λ (g : Grid). g y 0) (none_made k h w depth)) ∙ same) (one_up k h w came depth y lt missing),
)
