-- A slice that was restored at an index, and what is listed of it.
use Rattle.std.specs.Prelude.{◌≡◌, ℕ, ◌*◌, List, take, ℤ}
use Rattle.planes.specs.declared.ThreePlanes.{ThreePlanes}
use Rattle.slice_geometry.specs.SliceOrder.{level_rect, area}
use Rattle.slice_encoder.specs.declared.search.Trying.{Trying}
use Rattle.slice_encoder.specs.declared.trying.LowRects.{LowRects}
use Rattle.slice_encoder.specs.Trials.{CodedPicture, luma_of, c1_of, c2_of}
use Rattle.slice_encoder.specs.Listing.{band_part, pair_part}
use Rattle.slice_encoder.specs.Tries.{AreTried}
use Rattle.slice_encoder.specs.Buffers.{HoldsTrial}
use Rattle.slice_encoder.specs.Ready.{AreReadyToWrite}

-- these are the places of a slice in the lowest subbands
pub record AreLowRects (j : CodedPicture) (sx sy : ℕ) (rects : LowRects) : Type 0 where
  pub luma : rects.luma ≡ level_rect j.slicing j.frame.luma sx sy 0
  pub colour : rects.colour ≡ level_rect j.slicing j.frame.colour sx sy 0

-- The front of two buffers holds the values of the lowest subbands, by the values that are restored there.
pub record ListsLowest (j : CodedPicture) (sx sy index : ℕ) (kept : ThreePlanes) (rects : LowRects) (lumas colours : List ℤ) : Type 0 where
  pub luma : take (area rects.luma) lumas ≡ band_part (luma_of j) kept.luma index sx sy 0
  pub colour : take (2 * area rects.colour) colours ≡ pair_part (c1_of j) (c2_of j) kept.c1 kept.c2 index sx sy 0

-- the planes are those after a trial of the slice
abbrev pub WasTried : CodedPicture → ℕ → ℕ → ℕ → ThreePlanes → Type 0
WasTried j sx sy index kept = (old : ThreePlanes) × AreReadyToWrite j sx sy old × AreTried j sx sy index old kept

-- Two buffers hold what a trial finds, whichever planes there were before it.
abbrev pub HoldsWhatWasTried : CodedPicture → ℕ → ℕ → ℕ → ThreePlanes → ℕ → Trying → List ℤ → List ℤ → Type 0
HoldsWhatWasTried j sx sy index kept bytes t lumas colours =
    (old : ThreePlanes) → AreReadyToWrite j sx sy old → AreTried j sx sy index old kept
    → HoldsTrial j old sx sy index bytes t lumas colours
