-- How many rows of the bands a row of a level asks for.
use Rattle.std.proofs.Common.{◌≡◌, ◌∙◌, refl, ap, ℕ, zero, suc, min, ◌*◌, ◌<◌, ◌≤◌, arith}
use Rattle.lifting.specs.declared.Wavelet.{Wavelet}
use Rattle.lifting.specs.declared.level_up.LevelUp.{LevelUp}
use Rattle.lifting.specs.declared.Wavelet.TheVariants.{LeGall, HaarFlat, HaarShift}
use Rattle.lifting.specs.LevelPairs.{rows_final, pairs_for, rows_made, CameFor, RowsAreFinal, GiveInTurn}

-- of a level
to_pairs : (k : Wavelet) (h n e : ℕ) → 1 ≤ e → e ≤ 2 * h → n ≤ h → e ≤ rows_final k h n → pairs_for k h e ≤ n
to_pairs LeGall h n e some few most final = grind arith
to_pairs HaarFlat h n e some few most final = grind arith
to_pairs HaarShift h n e some few most final = grind arith

from_pairs : (k : Wavelet) (h n e : ℕ) → 1 ≤ e → e ≤ 2 * h → n ≤ h → pairs_for k h e ≤ n → e ≤ rows_final k h n
from_pairs LeGall h n e some few most came = grind arith
from_pairs HaarFlat h n e some few most came = grind arith
from_pairs HaarShift h n e some few most came = grind arith

asked : (k : Wavelet) (h e : ℕ) → 1 ≤ e → e ≤ 2 * h → (1 ≤ pairs_for k h e) × (pairs_for k h e ≤ h)
asked LeGall h e some few = (grind arith, grind arith)
asked HaarFlat h e some few = (grind arith, grind arith)
asked HaarShift h e some few = (grind arith, grind arith)

module _ (k : Wavelet) (depth : ℕ) (size came : ℕ → ℕ) (twice : (n : ℕ) → n < depth → size (suc n) ≡ 2 * size n) (few : (n : ℕ) → n < depth → came (suc n) ≤ size n) where
  final_came : (n e : ℕ) → n ≤ depth → 1 ≤ e → e ≤ size n → e ≤ rows_made k size came n → CameFor k size came e n
  unfolding rows_made CameFor
  final_came zero e le some inside final = final
  final_came (suc n) e le some inside final =
      let double : size (suc n) ≡ 2 * size n = twice n (omega arith) in
      let least = few n (omega arith) in
      let p = asked k (size n) e some (omega (arith, inside, double)) in
      let both : pairs_for k (size n) e ≤ min (rows_made k size came n) (came (suc n)) = to_pairs k (size n) (min (rows_made k size came n) (came (suc n))) e some (omega (arith, inside, double)) (omega (arith, least)) final in
      (final_came n (pairs_for k (size n) e) (omega arith) p.0 p.1 (omega (arith, both)), omega (arith, both))

  came_final : (n e : ℕ) → n ≤ depth → 1 ≤ e → e ≤ size n → CameFor k size came e n → e ≤ rows_made k size came n
  unfolding rows_made CameFor
  came_final zero e le some inside all = all
  came_final (suc n) e le some inside all =
      let double : size (suc n) ≡ 2 * size n = twice n (omega arith) in
      let least = few n (omega arith) in
      let p = asked k (size n) e some (omega (arith, inside, double)) in
      let below : pairs_for k (size n) e ≤ rows_made k size came n = came_final n (pairs_for k (size n) e) (omega arith) p.0 p.1 all.0 in
      from_pairs k (size n) (min (rows_made k size came n) (came (suc n))) e some (omega (arith, inside, double)) (omega (arith, least)) (omega (arith, below, all.1))

pub rows_final_are : RowsAreFinal
rows_final_are k depth size came twice few n e le some inside = (final_came k depth size came twice few n e le some inside, came_final k depth size came twice few n e le some inside)

-- ---- levels in turn

pub made_in_turn : {X : Type 0} (k : Wavelet) (size came : ℕ → ℕ) (depth : ℕ) (level : ℕ → LevelUp X) → GiveInTurn k size came depth level → (n : ℕ) → n < depth → (level n).given ≡ rows_made k size came (suc n)
unfolding rows_made
made_in_turn k size came depth level turn zero lt = turn.given 0 lt ∙ rw (turn.wavelet 0 lt, turn.rows 0 lt, turn.first) refl
made_in_turn k size came depth level turn (suc n) lt =
    turn.given (suc n) lt
    ∙ rw (turn.wavelet (suc n) lt, turn.rows (suc n) lt, turn.next n lt)
    (ap (λ (m : ℕ). rows_final k (size (suc n)) (min m (came (suc (suc n))))) (made_in_turn k size came depth level turn n (omega arith)))
