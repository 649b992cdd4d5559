-- What trying an index at one slice does, whatever values were kept in the slices before it.
use Rattle.std.specs.Prelude.{◌≡◌, ℕ, ◌<◌, ◌&&◌, Bool, if◌then◌else◌, nat_le, nat_lt, List, ◌++◌, ◌∷◌, [], length, ℤ}
use Rattle.planes.specs.Raster.{Raster, Grid, height, at}
use Rattle.planes.specs.declared.Rect.{Rect}
use Rattle.planes.specs.declared.ThreePlanes.{ThreePlanes}
use Rattle.slice_geometry.specs.Slicing.{AreSlicesAllowed, slice_number}
use Rattle.slice_geometry.specs.Geometry.{band_size}
use Rattle.quant_factors.specs.Weights.{band_quantiser}
use Rattle.slice_geometry.specs.SliceOrder.{level_rect}
use Rattle.slice_encoder.specs.Loop.{restored_value, made}
use Rattle.slice_encoder.specs.Trials.{CodedComponent, coefficient, CodedPicture, luma_of, c1_of, c2_of, Lists, lists, last_lists, AreKept}

-- whether a place lies in a rectangle
abbrev pub in_rect : Rect → ℕ → ℕ → Bool
in_rect r y x = nat_le r.x0 x && (nat_lt x r.x1 && (nat_le r.y0 y && nat_lt y r.y1))

-- The slice's places of the lowest subband are restored at this index, in their order, from the values that were kept
-- outside; these stay.
unfoldable pub tried : CodedComponent → ℕ → ℕ → ℕ → Grid → Grid
tried c sx sy index kept =
    made (λ y x p. if in_rect (level_rect c.slicing c.size sx sy 0) y x
    then restored_value (coefficient c 0 0 y x) (band_quantiser c.matrix index 0 0) p else kept y x)

-- the plane after a trial
pub record IsTried (c : CodedComponent) (sx sy index : ℕ) (old new : Raster ℤ) : Type 0 where
  pub same_width : new.w ≡ old.w
  pub same_height : height new ≡ height old
  pub places : (y x : ℕ) → at new y x ≡ tried c sx sy index (at old) y x

-- The planes of all three components after a trial.
pub record AreTried (j : CodedPicture) (sx sy index : ℕ) (old new : ThreePlanes) : Type 0 where
  pub luma : IsTried (luma_of j) sx sy index old.luma new.luma
  pub c1 : IsTried (c1_of j) sx sy index old.c1 new.c1
  pub c2 : IsTried (c2_of j) sx sy index old.c2 new.c2

-- the lists of a slice at an index
abbrev pub tried_lists : CodedPicture → ThreePlanes → ℕ → ℕ → ℕ → Lists
tried_lists j kept sx sy index =
    lists j (tried (luma_of j) sx sy index (at kept.luma)) (tried (c1_of j) sx sy index (at kept.c1))
    (tried (c2_of j) sx sy index (at kept.c2)) index sx sy

-- ---- where the values that were kept are those of earlier trials

-- A kept plane is as large as the component's lowest subband.
abbrev pub KeptHasSize : CodedComponent → Raster ℤ → Type 0
KeptHasSize c p = let band = band_size c.slicing.depth 0 c.size in (p.w ≡ band.w) × (height p ≡ band.h)

-- All three kept planes have their sizes.
pub record KeptHaveSizes (j : CodedPicture) (kept : ThreePlanes) : Type 0 where
  pub luma : KeptHasSize (luma_of j) kept.luma
  pub c1 : KeptHasSize (c1_of j) kept.c1
  pub c2 : KeptHasSize (c2_of j) kept.c2

-- slice (sx, sy) is the next one after those that have indices
pub record IsNext (j : CodedPicture) (indices : List ℕ) (sx sy : ℕ) : Type 0 where
  pub allowed : AreSlicesAllowed j.slicing
  pub across : sx < j.slicing.slices_x
  pub down : sy < j.slicing.slices_y
  pub number : length indices ≡ slice_number j.slicing sx sy

-- A trial goes on from them: its lists are those of the longer list of indices, and what it leaves are that list's values.
abbrev pub TrialsGoOn : Type 0
TrialsGoOn =
    (j : CodedPicture) (indices : List ℕ) (sx sy index : ℕ) (old new : ThreePlanes) → IsNext j indices sx sy → KeptHaveSizes j old
    → AreKept j indices old → AreTried j sx sy index old new
    → (tried_lists j old sx sy index ≡ last_lists j (indices ++ index ∷ []) sx sy) × AreKept j (indices ++ index ∷ []) new
