-- The bands of a component in 16 bits.
use Rattle.std.specs.Prelude.{◌^◌, ◌≤◌, pos, ℤ}
use Rattle.planes.specs.Bounded.{IsPlaneWithin}
use Rattle.planes.specs.Subbands.{BandStack, with_band, HaveSizes}
use Rattle.slice_geometry.specs.Geometry.{padded_length}
use Rattle.slice_store.specs.declared.short_bands.ShortBands.{ShortBands}
use Rattle.slice_store.specs.Store.{Store}
use Rattle.slice_store.specs.Stack.{stack_of}

-- the bands of slices whose numbers are integers
abbrev pub shorts_of : Store ℤ → BandStack
shorts_of s = stack_of (λ z. z) (pos 0) s

-- the plane is the lowest band, and the slices show the others
abbrev pub short_stack : ShortBands → BandStack
short_stack b = with_band (shorts_of b.slices) 0 0 b.lowest

-- all have the sizes of the bands of the component that the slices cut, no magnitude in the lowest passes 2 ^ 18, and there is room for
-- all rows of slices
pub record IsShortSound (b : ShortBands) : Type 0 where
  pub sizes : HaveSizes (short_stack b) (padded_length b.slices.slicing.depth b.slices.size.w)
      (padded_length b.slices.slicing.depth b.slices.size.h)
  pub narrow : IsPlaneWithin (pos (2 ^ 18)) b.lowest
  pub whole : b.slices.slicing.slices_y ≤ b.slices.strips
