-- A level of analysis whose rows come one after another, and a level of synthesis whose pairs of rows do.
use Rattle.std.specs.Prelude.{◌≡◌, ◌≢◌, ◌↔◌, zero, suc, ℕ, ℤ, min, ◌+◌, ◌-◌, ◌*◌, ◌/◌, ◌%◌, ◌^◌, ◌<◌, ◌≤◌, ◌==◌, if◌then◌else◌, length}
use Rattle.planes.specs.Numbers.{Within}
use Rattle.lifting.specs.declared.Wavelet.{Wavelet}
use Rattle.lifting.specs.declared.Wavelet.TheVariants.{LeGall, HaarFlat, HaarShift}
use Rattle.lifting.specs.declared.level_down.LevelDown.{LevelDown}
use Rattle.lifting.specs.Steps.{doubled}
use Rattle.lifting.specs.Lines.{Line, before, analysis_line}
use Rattle.lifting.specs.Places.{side_place, row_grid}
use Rattle.lifting.specs.Transform.{Grid, analysis_level, every_other, analysis}

-- how many rows of a level of 2h rows have to come until so many pairs of its bands' rows are whole
abbrev pub rows_for : Wavelet → ℕ → ℕ → ℕ
rows_for LeGall h pairs = min (2 * h) (2 * pairs + 1)
rows_for HaarFlat h pairs = 2 * pairs
rows_for HaarShift h pairs = 2 * pairs

-- how many pairs are whole when n rows have come
abbrev pub pairs_whole : Wavelet → ℕ → ℕ → ℕ
pairs_whole LeGall h n = if n == 2 * h then h else (n - 1) / 2
pairs_whole HaarFlat h n = n / 2
pairs_whole HaarShift h n = n / 2

-- row j of a level, doubled and lifted as a row
abbrev pub lifted_row : Wavelet → ℕ → Grid → ℕ → Line
lifted_row k w g j = analysis_line k (2 * w) (λ i. doubled k (g j i))

-- The first n rows of a level have come, and y pairs were made. The rows that wait lie in a ring, row j in row j % 4 of it, their
-- halves side by side, and so does the last pair until the row comes that takes its place.
pub record HoldsRows (k : Wavelet) (h w n y : ℕ) (g ring : Grid) : Type 0 where
  pub even : 2 * y < n → y < h → (x : ℕ) → x < 2 * w → ring (2 * y % 4) x ≡ lifted_row k w g (2 * y) (side_place w x)
  pub odd : 2 * y + 1 < n → y < h → (x : ℕ) → x < 2 * w → ring ((2 * y + 1) % 4) x ≡ lifted_row k w g (2 * y + 1) (side_place w x)
  pub next : 2 * y + 2 < n → y + 1 < h → (x : ℕ) → x < 2 * w → ring ((2 * y + 2) % 4) x ≡ lifted_row k w g (2 * y + 2) (side_place w x)
  pub made_odd : 1 ≤ y → (x : ℕ) → x < 2 * w
      → ring (before (2 * y) % 4) x ≡ analysis_level k (2 * h) (2 * w) g (before (2 * y)) (side_place w x)
  pub made_even : 1 ≤ y → n ≤ 2 * y + 2 → (x : ℕ) → x < 2 * w
      → ring ((2 * y - 2) % 4) x ≡ analysis_level k (2 * h) (2 * w) g (2 * y - 2) (side_place w x)

-- the same of a level as it stands, whose rows are those of a grid
abbrev pub HasRows : {X : Type 0} → (X → ℤ) → X → Grid → LevelDown X → Type 0
HasRows value none g l = HoldsRows l.wavelet l.h l.w l.came l.made g (row_grid value none (2 * l.w) l.ring.now)

-- the row that a level made last of the band of these parities
abbrev pub made_row : {X : Type 0} → ℕ → ℕ → Grid → LevelDown X → Line
made_row py px g l = every_other py px (analysis_level l.wavelet (2 * l.h) (2 * l.w) g) (l.made - 1)

-- A level has some columns, and few enough columns and rows for a plane, and there is room for them in its ring.
pub record IsReady {X : Type 0} (l : LevelDown X) : Type 0 where
  pub some : 1 ≤ l.w
  pub short : l.w ≤ 4104
  pub low : l.h ≤ 4104
  pub ring : min 4 (2 * l.h) * (2 * l.w) ≤ length l.ring.now
  pub few : l.came ≤ 2 * l.h
  pub made : l.made ≡ pairs_whole l.wavelet l.h l.came

-- a level keeps its wavelet, its size, and its ring with its places
pub record IsSameLevel {X : Type 0} (old new : LevelDown X) : Type 0 where
  pub wavelet : new.wavelet ≡ old.wavelet
  pub w : new.w ≡ old.w
  pub h : new.h ≡ old.h
  pub ring : length new.ring.now ≡ length old.ring.now
  pub same_ring : new.ring.ghost_name ≡ old.ring.ghost_name

-- ---- levels in turn, counted from the samples: level j has so many rows of a band as `size` says, level 0 the lines

-- each level has half of the one before
abbrev pub AreHalves : ℕ → (ℕ → ℕ) → Type 0
AreHalves depth size = (j : ℕ) → j < depth → size j ≡ 2 * size (suc j)

-- how many rows of level j are whole where n lines have come
unfoldable pub rows_whole : Wavelet → (ℕ → ℕ) → ℕ → ℕ → ℕ
rows_whole k size n zero = n
rows_whole k size n (suc j) = pairs_whole k (size (suc j)) (rows_whole k size n j)

-- how many lines have to come so that e rows of level j are whole
unfoldable pub lines_for : Wavelet → (ℕ → ℕ) → ℕ → ℕ → ℕ
lines_for k size e zero = e
lines_for k size e (suc j) = lines_for k size (rows_for k (size (suc j)) e) j

-- these are so many, and no fewer
abbrev pub RowsAreDue : Type 0
RowsAreDue = (k : Wavelet) (depth : ℕ) (size : ℕ → ℕ) → AreHalves depth size → (j n e : ℕ) → j ≤ depth → n ≤ size 0 → 1 ≤ e → e ≤ size j
    → (e ≤ rows_whole k size n j) ↔ (lines_for k size e j ≤ n)

-- Levels in turn, the finest one first: that has taken so many lines, and each other one the rows of LL that the one before it made.
pub record TakeInTurn {X : Type 0} (k : Wavelet) (size : ℕ → ℕ) (lines depth : ℕ) (level : ℕ → LevelDown X) : Type 0 where
  pub ready : (j : ℕ) → j < depth → IsReady (level j)
  pub wavelet : (j : ℕ) → j < depth → (level j).wavelet ≡ k
  pub rows : (j : ℕ) → j < depth → (level j).h ≡ size (suc j)
  pub first : (level 0).came ≡ lines
  pub next : (j : ℕ) → suc j < depth → (level (suc j)).came ≡ (level j).made

-- how many rows a band of level j has, where the lowest band has h
abbrev pub rows_of_level : ℕ → ℕ → ℕ → ℕ
rows_of_level h depth j = h * 2 ^ (depth - j)

-- two pictures of samples within m, whose lines are the same but for the last of the first n
pub record SameButLast (m n : ℕ) (f g : Grid) : Type 0 where
  pub same : (i x : ℕ) → i + 1 ≢ n → f i x ≡ g i x
  pub small : (i x : ℕ) → Within m (f i x) × Within m (g i x)

-- No analysis has row y of the bands of level j before: there are two pictures, of 2 j bits, whose lines are the same but for the last
-- of those that the row needs, and in the row they differ.
abbrev pub NoneSooner : Type 0
NoneSooner = (k : Wavelet) (h w depth j y : ℕ) → 1 ≤ j → j ≤ depth → y < rows_of_level h depth j
    → (f : Grid) × (g : Grid) × SameButLast (4 ^ (j - 1)) (lines_for k (rows_of_level h depth) (y + 1) j) f g
    × ((analysis k h w depth f).lh (depth + 1 - j) y 0 ≢ (analysis k h w depth g).lh (depth + 1 - j) y 0)
