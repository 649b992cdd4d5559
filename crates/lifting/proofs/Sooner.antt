-- A row of a level's bands depends on the last of the lines that it waits for: a picture that is 0 down to that line, and there the
-- same number all along, leaves such a picture in LL of each level.
use Rattle.std.proofs.Common.{◌≡◌, ◌≢◌, ◌⊎◌, ◌∙◌, refl, sym, ap, subst, ℕ, zero, suc, ℤ, pos, ◌+ℤ◌, ◌-ℤ◌, ◌+◌, ◌-◌, ◌*◌, ◌^◌, ◌<◌, ◌≤◌, ◌==◌, if◌then◌else◌, false, arith, eq-eqb, inl, inr}
use Rattle.std.proofs.Math.Path.{fun_ext}
use Rattle.std.proofs.lemmas.Bool.{cases_eq}
use Rattle.std.proofs.lemmas.Int.{ints}
use Rattle.std.proofs.Math.Nat.{pow-suc}
use Rattle.planes.specs.Numbers.{Within}
use Rattle.lifting.specs.declared.Wavelet.{Wavelet}
use Rattle.lifting.specs.declared.Wavelet.TheVariants.{LeGall, HaarFlat, HaarShift}
use Rattle.lifting.specs.declared.PairStep.TheVariants.{OddDown, EvenUp}
use Rattle.lifting.specs.Steps.{step, doubled, pair_step, haar_step, one_step}
use Rattle.lifting.specs.Lines.{Line, after, lift, analysis_line}
use Rattle.lifting.specs.Transform.{Grid, analysis_level, every_other, remaining, analysed, analysis}
use Rattle.lifting.specs.LevelRows.{rows_for, lines_for, lifted_row, rows_of_level, SameButLast, NoneSooner}
use Rattle.lifting.proofs.Inside.{twice_size}
use Rattle.lifting.proofs.LevelSteps.{after_inner, after_last}
use Rattle.lifting.proofs.TwoSides.{same_step}
use Rattle.lifting.proofs.Undone.{before_even, after_even, before_odd, lift_at, lift_other}

-- ---- numbers that can be quartered m times, and are not 0

HasQuarters : ℕ → ℤ → Type 0
HasQuarters zero c = c ≢ pos 0
HasQuarters (suc m) c = (d : ℤ) × (c ≡ d +ℤ d +ℤ d +ℤ d) × HasQuarters m d

-- as the other way round
less : (m : ℕ) (c : ℤ) → HasQuarters m c → HasQuarters m (pos 0 -ℤ c)
unfolding HasQuarters
less zero c some = λ is. some (omega (arith, ints, is))
less (suc m) c (d, is, some) = (pos 0 -ℤ d, rw is (omega (arith, ints)), less m d some)

-- and twice
twice : (m : ℕ) (c : ℤ) → HasQuarters m c → HasQuarters m (c +ℤ c)
unfolding HasQuarters
twice zero c some = λ is. some (omega (arith, ints, is))
twice (suc m) c (d, is, some) = (d +ℤ d, rw is (omega (arith, ints)), twice m d some)

not_zero : (m : ℕ) (c : ℤ) → HasQuarters m c → c ≢ pos 0
unfolding HasQuarters
not_zero zero c some = some
not_zero (suc m) c (d, is, some) = λ none. not_zero m d some (omega (arith, ints, is, none))

-- ---- steps

odd_same : (k : Wavelet) (v : ℤ) → step k OddDown v v v ≡ pos 0
unfolding step pair_step haar_step one_step
odd_same LeGall v = grind (arith, ints)
odd_same HaarFlat v = omega (arith, ints)
odd_same HaarShift v = omega (arith, ints)

even_alone : (k : Wavelet) (v : ℤ) → step k EvenUp v (pos 0) (pos 0) ≡ v
unfolding step pair_step haar_step one_step
even_alone LeGall v = omega (arith, ints)
even_alone HaarFlat v = omega (arith, ints)
even_alone HaarShift v = omega (arith, ints)

doubled_none : (k : Wavelet) → doubled k (pos 0) ≡ pos 0
doubled_none LeGall = refl
doubled_none HaarFlat = refl
doubled_none HaarShift = refl

-- ---- lines of analysis

module _ (k : Wavelet) (n : ℕ) (a : Line) where
  odd_at : (y : ℕ) → analysis_line k (2 * n) a (2 * y + 1) ≡ step k OddDown (a (2 * y + 1)) (a (2 * y)) (a (after (2 * n) (2 * y + 1)))
  unfolding analysis_line
  odd_at y =
      lift_other 0 (2 * n) (step k EvenUp) (lift 1 (2 * n) (step k OddDown) a) (2 * y + 1) (omega arith)
      ∙ lift_at 1 (2 * n) (step k OddDown) a (2 * y + 1) (omega arith)
      ∙ ap (λ (m : ℕ). step k OddDown (a (2 * y + 1)) (a m) (a (after (2 * n) (2 * y + 1)))) (before_odd y)

  even_at : (y : ℕ) → analysis_line k (2 * n) a (2 * y) ≡ step k EvenUp (a (2 * y)) (analysis_line k (2 * n) a (2 * (y - 1) + 1)) (analysis_line k (2 * n) a (2 * y + 1))
  unfolding analysis_line
  even_at y =
      let odds = lift 1 (2 * n) (step k OddDown) a in
      let other = lift_other 0 (2 * n) (step k EvenUp) odds in
      lift_at 0 (2 * n) (step k EvenUp) odds (2 * y) (omega arith)
      ∙ same_step (step k EvenUp) _ _ _ _ _ _ (lift_other 1 (2 * n) (step k OddDown) a (2 * y) (omega arith)) (ap odds (before_even y) ∙ sym (other (2 * (y - 1) + 1) (omega arith)))
      (ap odds (after_even (2 * n) y (omega arith)) ∙ sym (other (2 * y + 1) (omega arith)))

-- the even places of a line whose numbers are the same
module _ (k : Wavelet) (n : ℕ) (v : ℤ) where
  flat_odd : (x : ℕ) → analysis_line k (2 * n) (λ i. v) (2 * x + 1) ≡ pos 0
  flat_odd x = odd_at k n (λ i. v) x ∙ odd_same k v

  flat_even : (x : ℕ) → analysis_line k (2 * n) (λ i. v) (2 * x) ≡ v
  flat_even x = even_at k n (λ i. v) x ∙ rw (flat_odd (x - 1), flat_odd x) (even_alone k v)

-- ---- a column that is 0 down to row r, where it has twice c: what a level makes of the last pair that needs no row behind

last_odd : Wavelet → ℕ → ℕ → ℤ → ℤ
last_odd LeGall h y c = if y + 1 == h then c +ℤ c else pos 0 -ℤ c
last_odd HaarFlat h y c = c
last_odd HaarShift h y c = c +ℤ c

last_even : Wavelet → ℕ → ℕ → ℤ → ℤ
last_even k h y c = step k EvenUp (pos 0) (if y == 0 then last_odd k h y c else pos 0) (last_odd k h y c)

-- that pair's row
asked_rows : (k : Wavelet) (h y r : ℕ) → y < h → r + 1 ≡ rows_for k h (y + 1) → (2 * y < r) × (r < 2 * h)
asked_rows LeGall h y r lt last = (grind arith, grind arith)
asked_rows HaarFlat h y r lt last = (omega arith, omega arith)
asked_rows HaarShift h y r lt last = (omega arith, omega arith)

module _ (k : Wavelet) (h y r : ℕ) (lt : y < h) (last : r + 1 ≡ rows_for k h (y + 1)) (c : ℤ) (a : Line) (none : (j : ℕ) → j < r → a j ≡ pos 0) (own : a r ≡ doubled k c) where
  after_pair : (z : ℕ) → z < y → after (2 * h) (2 * z + 1) < r
  after_pair z early = let rows = asked_rows k h y r lt last in rw (after_inner h z (omega arith)) (omega (arith, rows.0))

  odd_early : (z : ℕ) → z < y → analysis_line k (2 * h) a (2 * z + 1) ≡ pos 0
  odd_early z early =
      let rows = asked_rows k h y r lt last in
      odd_at k h a z ∙ rw (none (2 * z + 1) (omega (arith, rows.0)), none (2 * z) (omega (arith, rows.0)), none (after (2 * h) (2 * z + 1)) (after_pair z early)) (odd_same k (pos 0))

  even_early : (z : ℕ) → z < y → analysis_line k (2 * h) a (2 * z) ≡ pos 0
  even_early z early =
      let rows = asked_rows k h y r lt last in
      even_at k h a z ∙ rw (none (2 * z) (omega (arith, rows.0)), odd_early (z - 1) (omega arith), odd_early z early) (even_alone k (pos 0))

odd_last : (k : Wavelet) (h y r : ℕ) → y < h → r + 1 ≡ rows_for k h (y + 1) → (c : ℤ) (a : Line) → ((j : ℕ) → j < r → a j ≡ pos 0) → a r ≡ doubled k c
    → analysis_line k (2 * h) a (2 * y + 1) ≡ last_odd k h y c
unfolding step pair_step haar_step one_step last_odd
odd_last LeGall h y r lt last c a none own = elim (cases_eq (y + 1) h) [
  | inl e ↦
      let is : 2 * y + 1 ≡ r = grind arith in
      odd_at LeGall h a y ∙ rw (after_last h y e, is, own, none (2 * y) (omega arith)) (grind (arith, ints))
  | inr ne ↦
      let is : 2 * y + 2 ≡ r = grind arith in
      odd_at LeGall h a y ∙ rw (after_inner h y (omega arith), is, own, none (2 * y) (omega arith), none (2 * y + 1) (omega arith)) (grind (arith, ints))
]
odd_last HaarFlat h y r lt last c a none own =
    let is : 2 * y + 1 ≡ r = omega arith in
    odd_at HaarFlat h a y ∙ rw (is, own, none (2 * y) (omega arith)) (omega (arith, ints))
odd_last HaarShift h y r lt last c a none own =
    let is : 2 * y + 1 ≡ r = omega arith in
    odd_at HaarShift h a y ∙ rw (is, own, none (2 * y) (omega arith)) (omega (arith, ints))

even_last : (k : Wavelet) (h y r : ℕ) → y < h → r + 1 ≡ rows_for k h (y + 1) → (c : ℤ) (a : Line) → ((j : ℕ) → j < r → a j ≡ pos 0) → a r ≡ doubled k c
    → analysis_line k (2 * h) a (2 * y) ≡ last_even k h y c
unfolding last_even
even_last k h y r lt last c a none own =
    let rows = asked_rows k h y r lt last in
    let here = odd_last k h y r lt last c a none own in
    even_at k h a y ∙ elim (cases_eq y 0) [
      | inl e ↦ let first : y - 1 ≡ y = omega arith in rw (first, none (2 * y) (omega (arith, rows.0)), here, e) refl
      | inr ne ↦
          let later : (y == 0) ≡ false = grind arith in
          rw (later, none (2 * y) (omega (arith, rows.0)), here, odd_early k h y r lt last c a none own (y - 1) (omega arith)) refl
    ]

-- these are no less far from 0
odd_quarters : (k : Wavelet) (h y m : ℕ) (c : ℤ) → HasQuarters m c → HasQuarters m (last_odd k h y c)
unfolding last_odd
odd_quarters LeGall h y m c some = elim (cases_eq (y + 1) h) [
  | inl e ↦ rw (e, eq-eqb h h refl) (twice m c some)
  | inr ne ↦ let is : (y + 1 == h) ≡ false = grind arith in rw is (less m c some)
]
odd_quarters HaarFlat h y m c some = some
odd_quarters HaarShift h y m c some = twice m c some

-- and LL's row can be quartered once less
even_steps : (k : Wavelet) (d : ℤ) → (step k EvenUp (pos 0) (pos 0) (d +ℤ d +ℤ d +ℤ d) ≡ d) ⊎ (step k EvenUp (pos 0) (pos 0) (d +ℤ d +ℤ d +ℤ d) ≡ d +ℤ d)
unfolding step pair_step haar_step one_step
even_steps LeGall d = inl (grind (arith, ints))
even_steps HaarFlat d = inr (grind (arith, ints))
even_steps HaarShift d = inr (grind (arith, ints))

first_steps : (k : Wavelet) (d : ℤ) → step k EvenUp (pos 0) (d +ℤ d +ℤ d +ℤ d) (d +ℤ d +ℤ d +ℤ d) ≡ d +ℤ d
unfolding step pair_step haar_step one_step
first_steps LeGall d = grind (arith, ints)
first_steps HaarFlat d = grind (arith, ints)
first_steps HaarShift d = grind (arith, ints)

quartered : (k : Wavelet) (y m : ℕ) (o : ℤ) → HasQuarters (suc m) o → HasQuarters m (step k EvenUp (pos 0) (if y == 0 then o else pos 0) o)
unfolding HasQuarters
quartered k y m o (d, is, some) = elim (cases_eq y 0) [
  | inl e ↦ rw (e, is, first_steps k d) (twice m d some)
  | inr ne ↦
      let later : (y == 0) ≡ false = grind arith in
      rw (later, is) (elim (even_steps k d) [ inl once ↦ rw once some | inr two ↦ rw two (twice m d some) ])
]

even_quarters : (k : Wavelet) (h y m : ℕ) (c : ℤ) → HasQuarters (suc m) c → HasQuarters m (last_even k h y c)
unfolding last_even
even_quarters k h y m c some = quartered k y m (last_odd k h y c) (odd_quarters k h y (suc m) c some)

-- of 0 they are 0
odd_none : (k : Wavelet) (h y : ℕ) → last_odd k h y (pos 0) ≡ pos 0
unfolding last_odd
odd_none LeGall h y = elim (cases_eq (y + 1) h) [
  | inl e ↦ rw (e, eq-eqb h h refl) refl
  | inr ne ↦ let is : (y + 1 == h) ≡ false = grind arith in rw is refl
]
odd_none HaarFlat h y = refl
odd_none HaarShift h y = refl

even_none : (k : Wavelet) (h y : ℕ) → last_even k h y (pos 0) ≡ pos 0
unfolding last_even
even_none k h y = elim (cases_eq y 0) [
  | inl e ↦ rw (odd_none k h y, e) (even_alone k (pos 0))
  | inr ne ↦ let later : (y == 0) ≡ false = grind arith in rw (odd_none k h y, later) (even_alone k (pos 0))
]

-- ---- levels of analysis

-- of the first n rows of a grid all are 0 but the last, which is c all along
record Begins (n : ℕ) (c : ℤ) (g : Grid) : Type 0 where
  above : (j i : ℕ) → j + 1 < n → g j i ≡ pos 0
  last : (j i : ℕ) → j + 1 ≡ n → g j i ≡ c

module _ (k : Wavelet) (h w y r : ℕ) (lt : y < h) (asked : r + 1 ≡ rows_for k h (y + 1)) (c : ℤ) (g : Grid) (begins : Begins (r + 1) c g) where
  -- an even column, of rows that are lifted
  abbrev column : ℕ → Line
  column x j = lifted_row k w g j (2 * x)

  column_above : (x j : ℕ) → j < r → column x j ≡ pos 0
  column_above x j early =
      ap (λ (a : Line). analysis_line k (2 * w) a (2 * x)) (fun_ext (λ i. ap (doubled k) (begins.above j i (omega arith)) ∙ doubled_none k)) ∙ flat_even k w (pos 0) x

  column_last : (x : ℕ) → column x r ≡ doubled k c
  column_last x = ap (λ (a : Line). analysis_line k (2 * w) a (2 * x)) (fun_ext (λ i. ap (doubled k) (begins.last r i refl))) ∙ flat_even k w (doubled k c) x

  odd_row : (x : ℕ) → analysis_level k (2 * h) (2 * w) g (2 * y + 1) (2 * x) ≡ last_odd k h y c
  unfolding analysis_level
  odd_row x = odd_last k h y r lt asked c (column x) (column_above x) (column_last x)

  low_begins : Begins (y + 1) (last_even k h y c) (every_other 0 0 (analysis_level k (2 * h) (2 * w) g))
  unfolding analysis_level
  low_begins = record {
    above = λ z x early.
        let row : 2 * z + 0 ≡ 2 * z = omega arith in
        let place : 2 * x + 0 ≡ 2 * x = omega arith in
        rw (row, place) (even_early k h y r lt asked c (column x) (column_above x) (column_last x) z (omega arith));
    last = λ z x own.
        let row : 2 * z + 0 ≡ 2 * y = omega (arith, own) in
        let place : 2 * x + 0 ≡ 2 * x = omega arith in
        rw (row, place) (even_last k h y r lt asked c (column x) (column_above x) (column_last x));
  }

-- ---- all levels

some_row : (k : Wavelet) (h y : ℕ) → y < h → rows_for k h (y + 1) - 1 + 1 ≡ rows_for k h (y + 1)
some_row LeGall h y lt = grind arith
some_row HaarFlat h y lt = omega arith
some_row HaarShift h y lt = omega arith

module _ (k : Wavelet) (h w depth : ℕ) (g : Grid) where
  size_is : (s j : ℕ) → j < depth → s * 2 ^ (depth - j) ≡ 2 * (s * 2 ^ (depth - suc j))
  size_is s j lt = let level : depth - j ≡ suc (depth - suc j) = omega arith in ap (λ (n : ℕ). s * 2 ^ n) level ∙ twice_size s (depth - suc j)

  level_is : (j : ℕ) → j < depth → analysis_level k (h * 2 ^ (depth - j)) (w * 2 ^ (depth - j)) (remaining k h w depth g j)
      ≡ analysis_level k (2 * (h * 2 ^ (depth - suc j))) (2 * (w * 2 ^ (depth - suc j))) (remaining k h w depth g j)
  level_is j lt =
      ap (λ (n : ℕ). analysis_level k n (w * 2 ^ (depth - j)) (remaining k h w depth g j)) (size_is h j lt)
      ∙ ap (λ (n : ℕ). analysis_level k (2 * (h * 2 ^ (depth - suc j))) n (remaining k h w depth g j)) (size_is w j lt)

  -- What is left of a picture begins with y rows of 0 and another row, where the picture begins with the lines that these rows need,
  -- all 0 but the last.
  left_begins : (j y m n : ℕ) (c : ℤ) → j ≤ depth → y < rows_of_level h depth j → j + m ≡ n → Begins (lines_for k (rows_of_level h depth) (y + 1) j) c g
      → (v : ℤ) × Begins (y + 1) v (remaining k h w depth g j) × (HasQuarters n c → HasQuarters m v) × (c ≡ pos 0 → v ≡ pos 0)
  unfolding remaining lines_for
  left_begins zero y m n c le lt all begins =
      let same : n ≡ m = omega (arith, all) in
      (c, begins, λ some. subst (λ (q : ℕ). HasQuarters q c) same some, λ none. none)
  left_begins (suc j) y m n c le lt all begins =
      let h' : ℕ = rows_of_level h depth (suc j) in
      let w' : ℕ = w * 2 ^ (depth - suc j) in
      let r : ℕ = rows_for k h' (y + 1) - 1 in
      let asked : r + 1 ≡ rows_for k h' (y + 1) = some_row k h' y lt in
      let rows = asked_rows k h' y r lt asked in
      let (v, is, some, none) = left_begins j r (suc m) n c (omega arith) (omega (arith, rows.1, size_is h j (omega arith))) (omega (arith, all)) (subst (λ (e : ℕ). Begins (lines_for k (rows_of_level h depth) e j) c g) (sym asked) begins) in (
        last_even k h' y v,
        subst (λ (p : Grid). Begins (y + 1) (last_even k h' y v) (every_other 0 0 p)) (sym (level_is j (omega arith))) (low_begins k h' w' y r lt asked v (remaining k h w depth g j) is),
        λ deep. even_quarters k h' y m v (some deep),
        λ zeros. ap (last_even k h' y) (none zeros) ∙ even_none k h' y,
      )

  -- and so does LH of the next level
  high_row : (j y : ℕ) (c : ℤ) → j < depth → y < rows_of_level h depth (suc j) → Begins (lines_for k (rows_of_level h depth) (y + 1) (suc j)) c g
      → (v : ℤ) × ((analysis k h w depth g).lh (depth - j) y 0 ≡ v) × (HasQuarters j c → v ≢ pos 0) × (c ≡ pos 0 → v ≡ pos 0)
  unfolding analysis analysed lines_for
  high_row j y c lt inside begins =
      let h' : ℕ = rows_of_level h depth (suc j) in
      let w' : ℕ = w * 2 ^ (depth - suc j) in
      let r : ℕ = rows_for k h' (y + 1) - 1 in
      let asked : r + 1 ≡ rows_for k h' (y + 1) = some_row k h' y inside in
      let rows = asked_rows k h' y r inside asked in
      let (v, is, some, none) = left_begins j r 0 j c (omega arith) (omega (arith, rows.1, size_is h j lt)) (omega arith) (subst (λ (e : ℕ). Begins (lines_for k (rows_of_level h depth) e j) c g) (sym asked) begins) in
      let back : depth - (depth - j) ≡ j = omega arith in (
        last_odd k h' y v,
        rw back (ap (λ (p : Grid). p (2 * y + 1) (2 * 0 + 0)) (level_is j lt) ∙ odd_row k h' w' y r inside asked v (remaining k h w depth g j) is 0),
        λ deep. not_zero 0 (last_odd k h' y v) (odd_quarters k h' y 0 v (some deep)),
        λ zeros. ap (last_odd k h' y) (none zeros) ∙ odd_none k h' y,
      )

-- a picture that is 0 but for line n - 1
pulse : ℕ → ℤ → Grid
pulse n c j i = if j + 1 == n then c else pos 0

pulse_off : (n : ℕ) (c : ℤ) (j i : ℕ) → j + 1 ≢ n → pulse n c j i ≡ pos 0
unfolding pulse
pulse_off n c j i ne = grind arith

pulse_on : (n : ℕ) (c : ℤ) (j i : ℕ) → j + 1 ≡ n → pulse n c j i ≡ c
unfolding pulse
pulse_on n c j i e = grind arith

pulse_begins : (n : ℕ) (c : ℤ) → Begins n c (pulse n c)
pulse_begins n c = record { above = λ j i lt. pulse_off n c j i (omega arith); last = pulse_on n c }

pub zero_within : (m : ℕ) → Within m (pos 0)
zero_within m = record { low = omega (arith, ints); high = omega (arith, ints) }

own_within : (m : ℕ) → Within m (pos m)
own_within m = record { low = omega (arith, ints); high = omega (arith, ints) }

four_to : (m : ℕ) → HasQuarters m (pos (4 ^ m))
unfolding HasQuarters
four_to zero = λ is. absurd cc
four_to (suc m) = (pos (4 ^ m), ap pos (pow-suc 4 m ∙ omega arith), four_to m)

-- a picture of 0, and the pulse
two_pictures : (m n : ℕ) → SameButLast m n (pulse n (pos 0)) (pulse n (pos m))
two_pictures m n = record {
  same = λ i x ne. pulse_off n (pos 0) i x ne ∙ sym (pulse_off n (pos m) i x ne);
  small = λ i x. elim (cases_eq (i + 1) n) [
    | inl e ↦ (rw (pulse_on n (pos 0) i x e) (zero_within m), rw (pulse_on n (pos m) i x e) (own_within m))
    | inr ne ↦ (rw (pulse_off n (pos 0) i x ne) (zero_within m), rw (pulse_off n (pos m) i x ne) (zero_within m))
  ];
}

pub none_sooner : NoneSooner
none_sooner k h w depth zero y some le lt = absurd omega arith
none_sooner k h w depth (suc j) y some le lt =
    let n : ℕ = lines_for k (rows_of_level h depth) (y + 1) (suc j) in
    let level : depth + 1 - suc j ≡ depth - j = omega arith in
    let four : suc j - 1 ≡ j = omega arith in
    let f = high_row k h w depth (pulse n (pos 0)) j y (pos 0) (omega arith) lt (pulse_begins n (pos 0)) in
    let g = high_row k h w depth (pulse n (pos (4 ^ j))) j y (pos (4 ^ j)) (omega arith) lt (pulse_begins n (pos (4 ^ j))) in (
      pulse n (pos 0),
      pulse n (pos (4 ^ j)),
      rw four (two_pictures (4 ^ j) n),
      rw level (λ same. g.2 (four_to j) (sym g.1 ∙ sym same ∙ f.1 ∙ f.3 refl)),
    )
