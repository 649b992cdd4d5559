-- A slice in bands of 16 bits.
use Rattle.std.specs.Prelude.{◌≡◌}
use Rattle.planes.specs.declared.Trio.{Trio}
use Rattle.slice_store.specs.declared.short_bands.ShortBands.{ShortBands}
use Rattle.slice_store.specs.declared.short_bands.ShortTrio.{ShortTrio}
use Rattle.slice_store.specs.ShortBands.{short_stack, IsShortSound}
use Rattle.slice_decoder.specs.declared.jobs.ShortJob.{ShortJob}
use Rattle.slice_geometry.specs.declared.Size.{Size}
use Rattle.slice_geometry.specs.declared.PictureShape.{PictureShape}
use Rattle.slice_geometry.specs.Slicing.{Slicing}

-- the same bands, as all contracts see them
abbrev pub shown_trio : ShortTrio → Trio
shown_trio b = record { luma = short_stack b.luma; c1 = short_stack b.c1; c2 = short_stack b.c2 }

-- The slices are cut as a layout cuts a component of this size.
pub record IsCut (s : Slicing) (component : Size) (b : ShortBands) : Type 0 where
  pub slicing : b.slices.slicing ≡ s
  pub size : b.slices.size ≡ component
  pub sound : IsShortSound b

-- the slices of all three components lie so
pub record AreCut (s : Slicing) (shape : PictureShape) (b : ShortTrio) : Type 0 where
  pub luma : IsCut s shape.luma b.luma
  pub c1 : IsCut s shape.colour b.c1
  pub c2 : IsCut s shape.colour b.c2

-- the slices of luma lie as the layout of one job cuts its component, and those of both colour components as that of another
pub record AreCutFor (luma_job colour_job : ShortJob) (b : ShortTrio) : Type 0 where
  pub luma : IsCut luma_job.layout.now luma_job.size b.luma
  pub c1 : IsCut colour_job.layout.now colour_job.size b.c1
  pub c2 : IsCut colour_job.layout.now colour_job.size b.c2
