-- Rows through levels, by evaluation.
use Rattle.std.proofs.Common.{◌≡◌, zero, suc, ℕ, [], ◌∷◌, List, refl, ℤ, pos}
use Rattle.lifting.specs.declared.Wavelet.TheVariants.{LeGall, HaarFlat}
use Rattle.lifting.specs.LevelRows.{pairs_whole}
use Rattle.lifting.specs.Lines.{analysis_line, lift}
use Rattle.lifting.specs.RowAnalysis.{LevelSeen, Coming, coming_at, rows_behind}
use Rattle.lifting.specs.Steps.{step, haar_step, one_step}
use Rattle.lifting.specs.Transform.{Grid, remaining, analysis_level}

-- Of a component of eight rows five have come: two pairs of the first level are whole, and none of the second, which waits for
-- the third of its four rows.
abbrev level : ℕ → ℕ → ℕ → LevelSeen ℤ
level h came made = record { ring = []; w = 1; h = h; came = came; made = made }

abbrev levels : List (LevelSeen ℤ)
levels = level 4 5 2 ∷ level 2 2 0 ∷ []

in_front : rows_behind 5 levels 0 ≡ 5
in_front = refl

behind_first : rows_behind 5 levels 1 ≡ pairs_whole LeGall 4 5
behind_first = refl

behind_last : rows_behind 5 levels 2 ≡ pairs_whole LeGall 2 2
behind_last = refl

-- the rows 1, 2 and 3, 4: one level of Haar leaves 3 of them
abbrev four : Grid
four zero zero = pos 1
four zero (suc x) = pos 2
four (suc y) zero = pos 3
four (suc y) (suc x) = pos 4

abbrev picture : Coming
picture = record { depth = 1; w = 2; h = 2; grid = four }

left : coming_at HaarFlat picture 1 0 0 ≡ pos 3
unfolding remaining analysis_level analysis_line lift step haar_step one_step
left = refl
