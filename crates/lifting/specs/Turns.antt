-- A level of synthesis row by row. In a row the even places come first, and the odd ones behind them.
use Rattle.std.specs.Prelude.{◌≡◌, ◌≢◌, ℕ, ℤ, ◌<◌, ◌≤◌, List, length}
use Rattle.planes.specs.Raster.{Raster, height}
use Rattle.planes.specs.Subbands.{BandsOf, band_of}
use Rattle.planes.specs.Valued.{valued, EachValued, grid_of}
use Rattle.lifting.specs.declared.Wavelet.{Wavelet}
use Rattle.lifting.specs.declared.PairStep.{PairStep}
use Rattle.lifting.specs.declared.roll.Level.{Level}
use Rattle.lifting.specs.declared.roll.Between.{Between}
use Rattle.lifting.specs.Steps.{step}
use Rattle.lifting.specs.Lines.{Line}
use Rattle.lifting.specs.Transform.{Grid, every_other, interleaved}
use Rattle.lifting.specs.Ranges.{LineWithin, SameInside}

-- a plane keeps its size
abbrev pub SameSize : {X : Type 0} → Raster X → Raster X → Type 0
SameSize old new = (new.w ≡ old.w) × (height new ≡ height old)

-- the three bands have the level's columns and rows
abbrev pub HasBands : {X : Type 0} → Level X → Type 0
HasBands l = (l.w ≤ l.hl.now.w) × (l.w ≤ l.lh.now.w) × (l.w ≤ l.hh.now.w) × (l.h ≤ height l.hl.now) × (l.h ≤ height l.lh.now) × (l.h ≤ height l.hh.now)

-- LL, and the three bands, in one grid
abbrev pub level_grid : {X : Type 0} → (X → ℤ) → X → Grid → Level X → Grid
level_grid value none ll l = interleaved ll (grid_of value none l.hl.now) (grid_of value none l.lh.now) (grid_of value none l.hh.now)

-- the bands lie interleaved in a grid
pub record HasGrid {X : Type 0} (value : X → ℤ) (none : X) (g : Grid) (l : Level X) : Type 0 where
  pub hl : SameInside l.h l.w (grid_of value none l.hl.now) (every_other 0 1 g)
  pub lh : SameInside l.h l.w (grid_of value none l.lh.now) (every_other 1 0 g)
  pub hh : SameInside l.h l.w (grid_of value none l.hh.now) (every_other 1 1 g)

-- three rows of one length, whose numbers a step has room for
abbrev pub HaveStepRoom : {X : Type 0} → (X → ℤ) → X → ℕ → List X → List X → List X → Type 0
HaveStepRoom value none m v a b = (length a ≡ length v) × (length b ≡ length v) × EachValued value none m v × EachValued value none m a × EachValued value none m b

-- a step on each place of a row between two others
abbrev pub between : {X : Type 0} → (X → ℤ) → X → Wavelet → PairStep → Between X → Line
between value none k kind row i = step k kind (valued value none row.v.now i) (valued value none row.a.now i) (valued value none row.b.now i)

-- the first w places of the three rows are there, and small
abbrev pub HasPlaces : {X : Type 0} → (X → ℤ) → X → ℕ → ℕ → Between X → Type 0
HasPlaces value none m w row =
    (w ≤ length row.v.now) × (w ≤ length row.a.now) × (w ≤ length row.b.now)
    × LineWithin w m (valued value none row.v.now) × LineWithin w m (valued value none row.a.now) × LineWithin w m (valued value none row.b.now)

-- the bands of a level, for LL below it
abbrev pub IsLevelOf : {X : Type 0} → Wavelet → BandsOf X → ℕ → Level X → Type 0
IsLevelOf k b n l =
    (l.hl.now ≡ band_of b n 1) × (l.lh.now ≡ band_of b n 2) × (l.hh.now ≡ band_of b n 3) × (l.w ≡ l.hl.now.w) × (l.h ≡ height l.hl.now) × (l.wavelet ≡ k)

-- Row y of a plane has become a row's first w places, and its other rows have stayed.
pub record IsRowPut {X : Type 0} (value : X → ℤ) (none : X) (w y : ℕ) (row : Line) (old new : Raster X) : Type 0 where
  pub here : (x : ℕ) → x < w → grid_of value none new y x ≡ row x
  pub others : (j x : ℕ) → j ≢ y → grid_of value none new j x ≡ grid_of value none old j x
