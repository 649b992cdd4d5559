-- All levels of analysis, through which the rows of a component go one after another.
use Rattle.std.specs.Prelude.{◌≡◌, ℕ, zero, suc, ℤ, pos, min, ◌+◌, ◌-◌, ◌*◌, ◌%◌, ◌^◌, ◌<◌, ◌≤◌, List, [], length, slice_index_or, Bool, true, false}
use Rattle.planes.specs.Raster.{Grid, at}
use Rattle.planes.specs.Subbands.{BandStack, band_of}
use Rattle.planes.specs.Valued.{valued}
use Rattle.lifting.specs.declared.Wavelet.{Wavelet}
use Rattle.lifting.specs.Transform.{analysis_level, every_other, remaining, analysis}
use Rattle.lifting.specs.Ranges.{SameInside, SameBands}
use Rattle.lifting.specs.Places.{row_grid}
use Rattle.lifting.specs.LevelRows.{pairs_whole, HoldsRows}
use Rattle.lifting.specs.Bands.{lowest, coefficients_of, HoldLevel}

-- A level: the ring where its rows wait, the columns and rows of its bands, how many of its rows have come, and how many rows of
-- its bands are whole.
pub record LevelSeen (X : Type 0) : Type 0 where
  pub ring : List X
  pub w : ℕ
  pub h : ℕ
  pub came : ℕ
  pub made : ℕ

-- what stands past the last level
abbrev pub no_level : {X : Type 0} → LevelSeen X
no_level = record { ring = []; w = 0; h = 0; came = 0; made = 0 }

-- level j of some, counted from the finest one
abbrev pub level_at : {X : Type 0} → List (LevelSeen X) → ℕ → LevelSeen X
level_at levels j = slice_index_or levels j no_level

-- All levels of a component of w by h, of which so many rows have come.
pub record RowAnalysisSeen (X : Type 0) : Type 0 where
  pub wavelet : Wavelet
  pub w : ℕ
  pub h : ℕ
  pub came : ℕ
  pub levels : List (LevelSeen X)

-- ---- one level

-- It has some columns, few enough columns and rows for a plane, and room in its ring. Of two rows that came at most wait.
pub record IsReadyRing {X : Type 0} (l : LevelSeen X) : Type 0 where
  pub some : 1 ≤ l.w
  pub short : l.w ≤ 4104
  pub low : l.h ≤ 4104
  pub ring : min 4 (2 * l.h) * (2 * l.w) ≤ length l.ring
  pub few : l.came ≤ 2 * l.h
  pub early : 2 * l.made ≤ l.came
  pub late : l.came ≤ 2 * l.made + 2

-- of bands of w by h, where no row has come
pub record IsUnused {X : Type 0} (w h : ℕ) (l : LevelSeen X) : Type 0 where
  pub columns : l.w ≡ w
  pub rows : l.h ≡ h
  pub ready : IsReadyRing l
  pub none_came : l.came ≡ 0
  pub none_made : l.made ≡ 0

-- it holds what waits of the rows of a grid
abbrev pub RowsWait : {X : Type 0} → (X → ℤ) → X → Wavelet → Grid → LevelSeen X → Type 0
RowsWait value none k g l = HoldsRows k l.h l.w l.came l.made g (row_grid value none (2 * l.w) l.ring)

-- The next row of a grid was taken; with it a pair of rows of the bands is whole, or not.
pub record HasTaken {X : Type 0} (value : X → ℤ) (none : X) (k : Wavelet) (g : Grid) (is_whole : Bool) (old new : LevelSeen X) : Type 0 where
  pub w : new.w ≡ old.w
  pub h : new.h ≡ old.h
  pub ready : IsReadyRing new
  pub made : new.made ≡ pairs_whole k new.h new.came
  pub came : new.came ≡ old.came + 1
  pub whole : is_whole ≡ true → new.made ≡ old.made + 1
  pub waits : is_whole ≡ false → new.made ≡ old.made
  pub after : RowsWait value none k g new

-- what it makes of a grid, still interleaved
abbrev pub lifted_at : {X : Type 0} → Wavelet → Grid → LevelSeen X → Grid
lifted_at k g l = analysis_level k (2 * l.h) (2 * l.w) g

-- a row is the one that it made last of the bands of these parities
abbrev pub IsMadeRow : {X : Type 0} → (X → ℤ) → X → ℕ → ℕ → LevelSeen X → List X → Type 0
IsMadeRow value none py px l row =
    (k : Wavelet) (g : Grid) → RowsWait value none k g l
    → (x : ℕ) → x < l.w → valued value none row x ≡ every_other py px (lifted_at k g l) (l.made - 1) x

-- ---- all levels

-- what comes: the rows of a grid of w by h, for so many levels
pub record Coming : Type 0 where
  pub depth : ℕ
  pub w : ℕ
  pub h : ℕ
  pub grid : Grid

-- to the first of some levels
abbrev pub coming_in : {X : Type 0} → Grid → List (LevelSeen X) → Coming
coming_in g levels = record { depth = length levels; w = 2 * (level_at levels 0).w; h = 2 * (level_at levels 0).h; grid = g }

-- and what of it comes to level j, and to LL behind the last level
abbrev pub coming_at : Wavelet → Coming → ℕ → Grid
coming_at k c j = remaining k (lowest c.depth c.h) (lowest c.depth c.w) c.depth c.grid j

-- A level has made a pair of rows of some grid, whose row of LL is the next one that comes to the level behind it, and has its
-- columns.
pub record IsAbove {X : Type 0} (value : X → ℤ) (none : X) (k : Wavelet) (g : Grid) (above l : LevelSeen X) : Type 0 where
  pub grid : Grid
  pub waits : RowsWait value none k grid above
  pub some : 1 ≤ above.made
  pub next : l.came ≡ above.made - 1
  pub columns : above.w ≡ 2 * l.w
  pub row : (x : ℕ) → x < above.w → every_other 0 0 (lifted_at k grid above) (above.made - 1) x ≡ g (above.made - 1) x

-- how many rows have come behind j levels, where so many came in front of them
abbrev pub rows_behind : {X : Type 0} → ℕ → List (LevelSeen X) → ℕ → ℕ
rows_behind came levels zero = came
rows_behind came levels (suc j) = (level_at levels j).made

-- Levels in turn, where so many rows of a component of w by h have come: each level has half the columns and rows of the one
-- before it, and has taken all the rows that it made of LL.
pub record AreInTurn {X : Type 0} (k : Wavelet) (w h came : ℕ) (levels : List (LevelSeen X)) : Type 0 where
  pub few : length levels ≤ 4
  pub whole_columns : w % 2 ^ length levels ≡ 0
  pub whole_rows : h % 2 ^ length levels ≡ 0
  pub some : 1 ≤ w
  pub short : w ≤ 8208
  pub low : h ≤ 8208
  pub inside : came ≤ h
  pub columns : (j : ℕ) → j < length levels → (level_at levels j).w ≡ lowest (length levels) w * 2 ^ (length levels - suc j)
  pub rows : (j : ℕ) → j < length levels → (level_at levels j).h ≡ lowest (length levels) h * 2 ^ (length levels - suc j)
  pub ready : (j : ℕ) → j < length levels → IsReadyRing (level_at levels j)
  pub made : (j : ℕ) → j < length levels → (level_at levels j).made ≡ pairs_whole k (level_at levels j).h (level_at levels j).came
  pub next : (j : ℕ) → j < length levels → (level_at levels j).came ≡ rows_behind came levels j

-- each level holds what waits of the rows that come to it
abbrev pub RowsHaveCome : {X : Type 0} → (X → ℤ) → X → Wavelet → Coming → List (LevelSeen X) → Type 0
RowsHaveCome value none k c levels = (j : ℕ) → j < length levels → RowsWait value none k (coming_at k c j) (level_at levels j)

-- of each level's bands the rows that are whole stand in the bands of a stack
abbrev pub ShowsLevels : {X : Type 0} → Wavelet → Coming → List (LevelSeen X) → BandStack → Type 0
ShowsLevels k c levels b =
    (j : ℕ) → j < c.depth
    → HoldLevel (λ v. v) (pos 0) (level_at levels j).made (level_at levels j).w (lifted_at k (coming_at k c j) (level_at levels j)) (c.depth - j) b

-- and so many rows of LL do
abbrev pub ShowsLowest : Wavelet → Coming → ℕ → BandStack → Type 0
ShowsLowest k c n b = SameInside n (lowest c.depth c.w) (at (band_of b 0 0)) (coming_at k c c.depth)

-- ---- what contracts say

abbrev pub coming_of : {X : Type 0} → Grid → RowAnalysisSeen X → Coming
coming_of g a = record { depth = length a.levels; w = a.w; h = a.h; grid = g }

-- The rows that have come are those of a grid: each level holds what waits of them.
abbrev pub HasCome : {X : Type 0} → (X → ℤ) → X → Grid → RowAnalysisSeen X → Type 0
HasCome value none g a = RowsHaveCome value none a.wavelet (coming_of g a) a.levels

-- What is finished of the rows of a grid stands in the bands of a stack.
pub record ShowsFinished {X : Type 0} (g : Grid) (a : RowAnalysisSeen X) (b : BandStack) : Type 0 where
  pub levels : ShowsLevels a.wavelet (coming_of g a) a.levels b
  pub lowest : ShowsLowest a.wavelet (coming_of g a) (rows_behind a.came a.levels (length a.levels)) b

-- The bands hold the coefficients of a grid of w by h.
abbrev pub HoldAnalysisIn : Wavelet → BandStack → ℕ → ℕ → Grid → Type 0
HoldAnalysisIn k b w h g =
    SameBands (lowest b.depth h) (lowest b.depth w) b.depth (coefficients_of b) (analysis k (lowest b.depth h) (lowest b.depth w) b.depth g)

-- all levels of a component of w by h
pub record IsAnalysisOf {X : Type 0} (k : Wavelet) (depth w h : ℕ) (a : RowAnalysisSeen X) : Type 0 where
  pub wavelet : a.wavelet ≡ k
  pub count : length a.levels ≡ depth
  pub columns : a.w ≡ w
  pub rows : a.h ≡ h

abbrev pub IsSameAnalysis : {X : Type 0} → RowAnalysisSeen X → RowAnalysisSeen X → Type 0
IsSameAnalysis old new = IsAnalysisOf old.wavelet (length old.levels) old.w old.h new

-- No row has come, so that the rows of each grid have, and each stack shows what is finished.
pub record HasNoRow {X : Type 0} (value : X → ℤ) (none : X) (a : RowAnalysisSeen X) : Type 0 where
  pub none_came : a.came ≡ 0
  pub come : (g : Grid) → HasCome value none g a
  pub shown : (g : Grid) (b : BandStack) → ShowsFinished g a b
