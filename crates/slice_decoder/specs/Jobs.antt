-- A slice and the part of it that belongs to a component, as they are handed on.
use Rattle.std.specs.Prelude.{◌≡◌, ℕ, ◌+◌, ◌*◌, ◌<◌, ◌≤◌, Bool, List, slice_index_or, ℤ}
use Rattle.planes.specs.Subbands.{BandStack, HaveSizes}
use Rattle.slice_geometry.specs.Geometry.{padded_length}
use Rattle.slice_decoder.specs.declared.jobs.PartJob.{PartJob}
use Rattle.slice_decoder.specs.declared.jobs.ShortJob.{ShortJob}
use Rattle.slice_decoder.specs.declared.jobs.SliceJob.{SliceJob}
use Rattle.slice_geometry.specs.SliceOrder.{level_rect, area, place_count, numbered}
use Rattle.slice_decoder.specs.Components.{Part, part_of, BandsHold}
use Rattle.slice_decoder.specs.StepRows.{AreFew}
use Rattle.slice_decoder.specs.Levels.{AreRects, IsLowRect, BandsTake}

-- the part that is read
abbrev pub part_in : PartJob → Part
part_in job = part_of job.layout.now job.size job.place.sx job.place.sy job.matrix.now job.place.qindex

-- what is asked of it
pub record IsPartJob (job : PartJob) : Type 0 where
  pub rects : AreRects job.layout.now job.size job.place.sx job.place.sy job.rects.now
  pub across : job.place.sx < job.layout.now.slices_x
  pub down : job.place.sy < job.layout.now.slices_y
  pub qindex : job.place.qindex ≤ 127
  pub entries : job.matrix.now.depth ≡ job.layout.now.depth

-- the part that is read into a store of slices
abbrev pub short_part : ShortJob → Part
short_part job = part_of job.layout.now job.size job.place.sx job.place.sy job.matrix.now job.place.qindex

-- what is asked of it
pub record IsShortJob (job : ShortJob) : Type 0 where
  pub lowest : job.lowest ≡ level_rect job.layout.now job.size job.place.sx job.place.sy 0
  pub low : IsLowRect job.lowest
  pub areas : (level : ℕ) → level ≤ job.layout.now.depth
      → slice_index_or job.areas.now level 0 ≡ area (level_rect job.layout.now job.size job.place.sx job.place.sy level)
  pub few : AreFew job.areas.now
  pub across : job.place.sx < job.layout.now.slices_x
  pub down : job.place.sy < job.layout.now.slices_y
  pub qindex : job.place.qindex ≤ 127
  pub entries : job.matrix.now.depth ≡ job.layout.now.depth

-- the part of a slice that belongs to luma
abbrev pub luma_part : SliceJob → Part
luma_part job = part_of job.layout.now job.shape.now.luma job.place.sx job.place.sy job.matrix.now job.place.qindex

-- and the part that belongs to either colour component
abbrev pub colour_part : SliceJob → Part
colour_part job = part_of job.layout.now job.shape.now.colour job.place.sx job.place.sy job.matrix.now job.place.qindex

-- what is asked of a slice
pub record IsSliceJob (job : SliceJob) : Type 0 where
  pub luma_rects : AreRects job.layout.now job.shape.now.luma job.place.sx job.place.sy job.luma_rects.now
  pub colour_rects : AreRects job.layout.now job.shape.now.colour job.place.sx job.place.sy job.colour_rects.now
  pub across : job.place.sx < job.layout.now.slices_x
  pub down : job.place.sy < job.layout.now.slices_y
  pub qindex : job.place.qindex ≤ 127
  pub entries : job.matrix.now.depth ≡ job.layout.now.depth

-- bands of the sizes that its component has
pub record AreSizedBands (p : Part) (b : BandStack) : Type 0 where
  pub depth : b.depth ≡ p.slicing.depth
  pub sizes : HaveSizes b (padded_length p.slicing.depth p.size.w) (padded_length p.slicing.depth p.size.h)

-- how many places it has
abbrev pub places_of : Part → ℕ
places_of p = place_count p.slicing p.size p.sx p.sy

-- all its bands hold the values of a block
abbrev pub AllHold : (each from : ℕ) → Part → List Bool → BandStack → BandStack → Type 0
AllHold each from p block old new = BandsHold each from p (3 * p.slicing.depth + 1) block old new

-- they hold those of a list
abbrev pub AllTake : (each from : ℕ) → Part → List ℤ → BandStack → BandStack → Type 0
AllTake each from p values old new = BandsTake each from p.slicing p.size p.sx p.sy (3 * p.slicing.depth + 1) values old new

-- what is numbered past its bands stays
abbrev pub RestStays : Part → BandStack → BandStack → Type 0
RestStays p old new = (k : ℕ) → 3 * p.slicing.depth + 1 ≤ k → numbered new k ≡ numbered old k
