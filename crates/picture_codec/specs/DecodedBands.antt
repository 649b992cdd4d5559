-- Bands of 32 bits, and those of 64 bits that take their place.
use Rattle.std.specs.Prelude.{◌≡◌, ◌^◌, Bool, true, false, if◌then◌else◌, ℤ, pos}
use Rattle.planes.specs.Bounded.{AreBandsWithin}
use Rattle.planes.specs.Subbands.{BandStack, AgreeInSizes, AreZeroBands}
use Rattle.planes.specs.declared.LateTrio.{LateTrio}
use Rattle.planes.specs.declared.Trio.{Trio}
use Rattle.planes.specs.declared.NarrowTrio.{NarrowTrio}
use Rattle.slice_store.specs.ShortBands.{short_stack, IsShortSound}
use Rattle.slice_decoder.specs.Narrow.{trio_of, AreNarrowBands}
use Rattle.picture_codec.specs.declared.decoded_bands.ShownBands.{ShownBands}
use Rattle.picture_codec.specs.declared.decoded_bands.ShownBands.TheVariants.{Short, Wide, Narrow}

-- the bands of each component have the same sizes in both
pub record AllAgree (narrow : NarrowTrio) (wide : Trio) : Type 0 where
  pub luma : AgreeInSizes narrow.luma wide.luma
  pub c1 : AgreeInSizes narrow.c1 wide.c1
  pub c2 : AgreeInSizes narrow.c2 wide.c2

-- the same bands, where those of 32 bits may hold them
abbrev pub narrow_of : Trio → NarrowTrio
narrow_of b = record { luma = b.luma; c1 = b.c1; c2 = b.c2 }

-- what is seen of bands that are made once a slice needs them: the bands, and whether they are made
pub record LateSeen (B : Type 0) : Type 0 where
  pub bands : B
  pub is_made : Bool

-- the bands that a memory is for
abbrev pub late_of : LateTrio ℤ → Trio
late_of b = record { luma = b.luma; c1 = b.c1; c2 = b.c2 }

-- in whose place they are made: as many bands, of no rows and no columns
pub record AreRowless (late : LateTrio ℤ) (made : Trio) : Type 0 where
  pub luma : AreZeroBands made.luma late.luma.depth 0 0
  pub c1 : AreZeroBands made.c1 late.c1.depth 0 0
  pub c2 : AreZeroBands made.c2 late.c2.depth 0 0

-- what those of 32 bits keep: memory and no rows, until they are made, and no magnitude above 2 ^ 18
pub record IsLateNarrow (late : LateTrio ℤ) (made : NarrowTrio) (is_made : Bool) : Type 0 where
  pub rowless : is_made ≡ false → AreRowless late (trio_of made)
  pub small : AreNarrowBands (if is_made then made else narrow_of (late_of late))

-- what rows keep: those of 64 bits have the sizes of those of 32, and where they serve, both are made
pub record AreRowsKept (narrow : LateSeen NarrowTrio) (wide : LateSeen Trio) (is_wide : Bool) : Type 0 where
  pub sizes : AllAgree narrow.bands wide.bands
  pub made : is_wide ≡ true → wide.is_made ≡ true
  pub both : is_wide ≡ true → narrow.is_made ≡ true

-- bands of a component, as they are shown in one width or another
abbrev pub IsShownAs : BandStack → ShownBands → Type 0
IsShownAs b (Short shown) = (short_stack shown.now ≡ b) × IsShortSound shown.now
IsShownAs b (Wide shown) = shown.now ≡ b
IsShownAs b (Narrow shown) = (shown.now ≡ b) × AreBandsWithin (pos (2 ^ 18)) shown.now
