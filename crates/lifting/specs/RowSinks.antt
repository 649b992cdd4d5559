-- What takes rows of subbands.
use Rattle.std.specs.Prelude.{◌≡◌, ◌≢◌, ◌⊎◌, ℕ, ◌<◌, ◌≤◌}
use Rattle.planes.specs.Raster.{height, at}
use Rattle.planes.specs.Subbands.{BandStack, BandExists, band_of, AgreeInSizes}
use Rattle.lifting.specs.Lines.{Line}
use Rattle.lifting.specs.Transform.{Grid, every_other}

-- Row y of a band has become a row's first places, and each other place of each band has stayed.
pub record IsBandRowPut (level orient y : ℕ) (row : Line) (old new : BandStack) : Type 0 where
  pub sizes : AgreeInSizes old new
  pub here : (x : ℕ) → x < (band_of old level orient).w → at (band_of new level orient) y x ≡ row x
  pub others : (l o j x : ℕ) → BandExists old.depth l o → j < height (band_of old l o) → x < (band_of old l o).w
      → (l ≢ level) ⊎ (o ≢ orient) ⊎ (j ≢ y) → at (band_of new l o) j x ≡ at (band_of old l o) j x

-- HL, LH and HH of a level have so many columns and rows
abbrev pub AreBandsOf : ℕ → ℕ → ℕ → BandStack → Type 0
AreBandsOf level w h b = (o : ℕ) → 1 ≤ o → o ≤ 3 → ((band_of b level o).w ≡ w) × (height (band_of b level o) ≡ h)

-- their rows y are those of a grid, by its parities
pub record HoldPair (level y w : ℕ) (g : Grid) (b : BandStack) : Type 0 where
  pub hl : (x : ℕ) → x < w → at (band_of b level 1) y x ≡ every_other 0 1 g y x
  pub lh : (x : ℕ) → x < w → at (band_of b level 2) y x ≡ every_other 1 0 g y x
  pub hh : (x : ℕ) → x < w → at (band_of b level 3) y x ≡ every_other 1 1 g y x

-- all places but those of row y of a level's bands have stayed
abbrev pub OtherRowsStay : ℕ → ℕ → BandStack → BandStack → Type 0
OtherRowsStay level y old new =
    (l o j x : ℕ) → BandExists old.depth l o → j < height (band_of old l o) → x < (band_of old l o).w
    → (l ≢ level) ⊎ (j ≢ y) → at (band_of new l o) j x ≡ at (band_of old l o) j x
