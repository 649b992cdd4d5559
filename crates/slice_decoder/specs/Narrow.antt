-- A slice in bands of 32 bits, whose magnitudes are at most 2 ^ 18.
use Rattle.std.specs.Prelude.{◌≡◌, ℕ, ◌+◌, ◌*◌, ◌^◌, ◌<◌, ◌≤◌, ◌⊎◌, Bool, true, false, List, length, slice_index_or, ℤ, pos, ◌+ℤ◌}
use Rattle.planes.specs.Raster.{at, height}
use Rattle.planes.specs.declared.Rect.{Rect}
use Rattle.planes.specs.Rect.{IsInRect}
use Rattle.planes.specs.Bounded.{IsWithin, AreBandsWithin}
use Rattle.planes.specs.Subbands.{BandStack, band_of}
use Rattle.planes.specs.declared.Trio.{Trio}
use Rattle.planes.specs.declared.NarrowTrio.{NarrowTrio}
use Rattle.bounded_blocks.specs.declared.TheConstants.{SPARE}
use Rattle.dc_prediction.specs.Prediction.{prediction}
use Rattle.dc_prediction.specs.Restoring.{RestoresRect, IsNarrow, IsBefore, IsStopped}
use Rattle.slice_geometry.specs.declared.Size.{Size}
use Rattle.slice_geometry.specs.declared.PictureShape.{PictureShape}
use Rattle.slice_geometry.specs.Slicing.{Slicing}
use Rattle.slice_geometry.specs.SliceOrder.{level_rect, place_number, numbered}
use Rattle.quant_factors.specs.Weights.{Weights}
use Rattle.slice_decoder.specs.Slice.{Slice, are_small, luma_values, colour_values}
use Rattle.slice_decoder.specs.Dealing.{dealt, KeepsOutside}
use Rattle.slice_decoder.specs.Components.{Part, quantisers_before, BandsHold, BandsKeep}

-- the same bands, as all contracts see them
abbrev pub trio_of : NarrowTrio → Trio
trio_of b = record { luma = b.luma; c1 = b.c1; c2 = b.c2 }

-- three components, each as its bands are seen
abbrev pub trio_by : {B : Type 0} → (B → BandStack) → B → B → B → Trio
trio_by seen luma c1 c2 = record { luma = seen luma; c1 = seen c1; c2 = seen c2 }

-- no magnitude in the bands of any component passes 2 ^ 18
pub record AreNarrowBands (b : NarrowTrio) : Type 0 where
  pub luma : AreBandsWithin (pos (2 ^ 18)) b.luma
  pub c1 : AreBandsWithin (pos (2 ^ 18)) b.c1
  pub c2 : AreBandsWithin (pos (2 ^ 18)) b.c2

-- more values than there is room for, with the places behind them that reading takes, or one whose magnitude passes `most`
abbrev pub NeedMore : ℤ → ℕ → List ℤ → Type 0
NeedMore most room values = (room < length values + SPARE) ⊎ (((k : ℕ) → IsWithin most (slice_index_or values k (pos 0))) → ⊥)

-- the values of a block, of which each place has so many
abbrev pub block_values : ℕ → Part → List Bool → List ℤ
block_values each p block = dealt block (quantisers_before each p (3 * p.slicing.depth + 1))

-- what an answer says of the values of a block, where what they leave is Stands
abbrev pub Answers : ℤ → ℕ → List ℤ → Type 0 → Bool → Type 0
Answers most room values Stands true = (are_small values ≡ true) × Stands
Answers most room values Stands false = NeedMore most room values

-- Restoring stops at a place whose value would not be narrow: those before it hold what they restore.
pub record StopsAtPlace (each from : ℕ) (s : Slicing) (size : Size) (sx sy : ℕ) (values : List ℤ) (b : BandStack)
    (y x : ℕ) : Type 0 where
  pub here : IsInRect (level_rect s size sx sy 0) y x
  pub before : (j i : ℕ) → IsInRect (level_rect s size sx sy 0) j i → IsBefore j i y x
      → at (band_of b 0 0) j i ≡ slice_index_or values (each * place_number s size sx sy 0 0 j i + from) (pos 0)
      +ℤ prediction (at (band_of b 0 0)) j i
  pub passes : IsNarrow (slice_index_or values (each * place_number s size sx sy 0 0 y x + from) (pos 0)
      +ℤ prediction (at (band_of b 0 0)) y x) → ⊥

-- restoring stops at some place
abbrev pub StopsSlice : (each from : ℕ) → Slicing → Size → ℕ → ℕ → List ℤ → BandStack → Type 0
StopsSlice each from s size sx sy values b = (y : ℕ) × (x : ℕ) × StopsAtPlace each from s size sx sy values b y x

-- Bands whose dequantised magnitudes are at most `most` don't serve for a slice, where there is room for so many values of
-- a block. Restored magnitudes of the lowest band are at most 2 ^ 18.
abbrev pub NeedsWide : ℤ → ℕ → Slicing → PictureShape → ℕ → ℕ → Weights → Slice → Trio → Type 0
NeedsWide most room s shape sx sy matrix slice new =
    let lumas = luma_values s shape.luma sx sy matrix slice in
    let colours = colour_values s shape.colour sx sy matrix slice in
    NeedMore most room lumas ⊎ NeedMore most room colours ⊎ StopsSlice 1 0 s shape.luma sx sy lumas new.luma
    ⊎ StopsSlice 2 0 s shape.colour sx sy colours new.c1 ⊎ StopsSlice 2 1 s shape.colour sx sy colours new.c2

-- what an answer says of both blocks of a slice
abbrev pub BothAnswer : ℤ → ℕ → Part → Part → List Bool → List Bool → Trio → Trio → Bool → Type 0
BothAnswer most room luma colour luma_block colour_block old new true =
    (are_small (block_values 1 luma luma_block) ≡ true) × (are_small (block_values 2 colour colour_block) ≡ true)
    × BandsHold 1 0 luma (3 * luma.slicing.depth + 1) luma_block old.luma new.luma
    × BandsHold 2 0 colour (3 * colour.slicing.depth + 1) colour_block old.c1 new.c1
    × BandsHold 2 1 colour (3 * colour.slicing.depth + 1) colour_block old.c2 new.c2
BothAnswer most room luma colour luma_block colour_block old new false =
    NeedMore most room (block_values 1 luma luma_block) ⊎ NeedMore most room (block_values 2 colour colour_block)

-- What reading both blocks leaves, before the lowest subbands are restored, where no magnitude may pass `most`.
pub record AreRead (most : ℤ) (room : ℕ) (luma colour : Part) (luma_block colour_block : List Bool) (old new : Trio)
    (fit : Bool) : Type 0 where
  pub answer : BothAnswer most room luma colour luma_block colour_block old new fit
  pub luma_keeps : BandsKeep luma old.luma new.luma
  pub c1_keeps : BandsKeep colour old.c1 new.c1
  pub c2_keeps : BandsKeep colour old.c2 new.c2

-- all that stays where the lowest of a component's subbands is restored in a rectangle
pub record LowestKeeps (rect : Rect) (old new : BandStack) : Type 0 where
  pub depth : new.depth ≡ old.depth
  pub keeps : KeepsOutside rect (numbered old 0) (numbered new 0)
  pub others : (k : ℕ) → 1 ≤ k → numbered new k ≡ numbered old k

-- the rectangles lie in the lowest subbands of the three components
pub record LieInLowest (luma_rect colour_rect : Rect) (b : Trio) : Type 0 where
  pub luma_x : luma_rect.x1 ≤ (numbered b.luma 0).w
  pub luma_y : luma_rect.y1 ≤ height (numbered b.luma 0)
  pub c1_x : colour_rect.x1 ≤ (numbered b.c1 0).w
  pub c1_y : colour_rect.y1 ≤ height (numbered b.c1 0)
  pub c2_x : colour_rect.x1 ≤ (numbered b.c2 0).w
  pub c2_y : colour_rect.y1 ≤ height (numbered b.c2 0)

-- the rectangles of all three components are restored
pub record AreRestored (luma_rect colour_rect : Rect) (old new : Trio) : Type 0 where
  pub luma : RestoresRect luma_rect (numbered old.luma 0) (numbered new.luma 0)
  pub c1 : RestoresRect colour_rect (numbered old.c1 0) (numbered new.c1 0)
  pub c2 : RestoresRect colour_rect (numbered old.c2 0) (numbered new.c2 0)

-- restoring one of the three stops at a place
abbrev pub OneStops : Rect → Rect → Trio → Trio → Type 0
OneStops luma colour old new =
    IsStopped luma (numbered old.luma 0) (numbered new.luma 0) ⊎ IsStopped colour (numbered old.c1 0) (numbered new.c1 0)
    ⊎ IsStopped colour (numbered old.c2 0) (numbered new.c2 0)

-- all that stays in the three components
pub record AllKeepLowest (luma_rect colour_rect : Rect) (old new : Trio) : Type 0 where
  pub luma : LowestKeeps luma_rect old.luma new.luma
  pub c1 : LowestKeeps colour_rect old.c1 new.c1
  pub c2 : LowestKeeps colour_rect old.c2 new.c2
