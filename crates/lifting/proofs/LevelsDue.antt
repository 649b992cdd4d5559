-- How many lines a row of a level asks for.
use Rattle.std.proofs.Common.{◌≡◌, ◌∙◌, refl, ap, subst, ℕ, zero, suc, ◌*◌, ◌<◌, ◌≤◌, arith}
use Rattle.lifting.specs.declared.Wavelet.{Wavelet}
use Rattle.lifting.specs.declared.level_down.LevelDown.{LevelDown}
use Rattle.lifting.specs.declared.Wavelet.TheVariants.{LeGall, HaarFlat, HaarShift}
use Rattle.lifting.specs.LevelRows.{rows_for, pairs_whole, AreHalves, rows_whole, lines_for, RowsAreDue, TakeInTurn}

-- of a level
to_rows : (k : Wavelet) (h n e : ℕ) → 1 ≤ e → e ≤ h → n ≤ 2 * h → e ≤ pairs_whole k h n → rows_for k h e ≤ n
to_rows LeGall h n e some few most due = grind arith
to_rows HaarFlat h n e some few most due = grind arith
to_rows HaarShift h n e some few most due = grind arith

from_rows : (k : Wavelet) (h n e : ℕ) → 1 ≤ e → e ≤ h → n ≤ 2 * h → rows_for k h e ≤ n → e ≤ pairs_whole k h n
from_rows LeGall h n e some few most came = grind arith
from_rows HaarFlat h n e some few most came = grind arith
from_rows HaarShift h n e some few most came = grind arith

few_pairs : (k : Wavelet) (h n : ℕ) → n ≤ 2 * h → pairs_whole k h n ≤ h
few_pairs LeGall h n most = grind arith
few_pairs HaarFlat h n most = grind arith
few_pairs HaarShift h n most = grind arith

few_needed : (k : Wavelet) (h e : ℕ) → 1 ≤ e → e ≤ h → (1 ≤ rows_for k h e) × (rows_for k h e ≤ 2 * h)
few_needed LeGall h e some few = (grind arith, grind arith)
few_needed HaarFlat h e some few = (grind arith, grind arith)
few_needed HaarShift h e some few = (grind arith, grind arith)

module _ (k : Wavelet) (depth : ℕ) (size : ℕ → ℕ) (halves : AreHalves depth size) (n : ℕ) (most : n ≤ size 0) where
  come_few : (j : ℕ) → j ≤ depth → rows_whole k size n j ≤ size j
  unfolding rows_whole
  come_few zero le = most
  come_few (suc j) le = few_pairs k (size (suc j)) (rows_whole k size n j) (let half : size j ≡ 2 * size (suc j) = halves j (omega arith) in subst (λ (m : ℕ). rows_whole k size n j ≤ m) half (come_few j (omega arith)))

  come_twice : (j : ℕ) → suc j ≤ depth → rows_whole k size n j ≤ 2 * size (suc j)
  come_twice j le = subst (λ (m : ℕ). rows_whole k size n j ≤ m) (halves j (omega arith)) (come_few j (omega arith))

  rows_to_lines : (j e : ℕ) → j ≤ depth → 1 ≤ e → e ≤ size j → e ≤ rows_whole k size n j → lines_for k size e j ≤ n
  unfolding rows_whole lines_for
  rows_to_lines zero e le some few due = due
  rows_to_lines (suc j) e le some few due =
      let half : size j ≡ 2 * size (suc j) = halves j (omega arith) in
      let asked = few_needed k (size (suc j)) e some few in
      rows_to_lines j (rows_for k (size (suc j)) e) (omega arith) asked.0 (omega (arith, asked.1, half)) (to_rows k (size (suc j)) (rows_whole k size n j) e some few (come_twice j le) due)

  lines_to_rows : (j e : ℕ) → j ≤ depth → 1 ≤ e → e ≤ size j → lines_for k size e j ≤ n → e ≤ rows_whole k size n j
  unfolding rows_whole lines_for
  lines_to_rows zero e le some few came = came
  lines_to_rows (suc j) e le some few came =
      let half : size j ≡ 2 * size (suc j) = halves j (omega arith) in
      let asked = few_needed k (size (suc j)) e some few in
      from_rows k (size (suc j)) (rows_whole k size n j) e some few (come_twice j le) (lines_to_rows j (rows_for k (size (suc j)) e) (omega arith) asked.0 (omega (arith, asked.1, half)) came)

pub rows_due : RowsAreDue
rows_due k depth size halves j n e le most some few = (rows_to_lines k depth size halves n most j e le some few, lines_to_rows k depth size halves n most j e le some few)

-- ---- levels in turn

pub whole_in_turn : {X : Type 0} (k : Wavelet) (size : ℕ → ℕ) (lines depth : ℕ) (level : ℕ → LevelDown X) → TakeInTurn k size lines depth level → (j : ℕ) → j < depth → (level j).made ≡ rows_whole k size lines (suc j)
unfolding rows_whole
whole_in_turn k size lines depth level turn zero lt = (turn.ready 0 lt).made ∙ rw (turn.wavelet 0 lt, turn.rows 0 lt, turn.first) refl
whole_in_turn k size lines depth level turn (suc j) lt =
    (turn.ready (suc j) lt).made
    ∙ rw (turn.wavelet (suc j) lt, turn.rows (suc j) lt, turn.next j lt) (ap (pairs_whole k (size (suc (suc j)))) (whole_in_turn k size lines depth level turn j (omega arith)))
