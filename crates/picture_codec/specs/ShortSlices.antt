-- Bands of 16 bits slice by slice, and rows that show the same.
use Rattle.std.specs.Prelude.{◌≡◌, Bool, true, false, List, length, ℤ}
use Rattle.planes.specs.declared.Trio.{Trio}
use Rattle.slice_store.specs.declared.short_bands.ShortTrio.{ShortTrio}
use Rattle.slice_store.specs.Gathered.{ShowTheSame}
use Rattle.slice_store.specs.ShortBands.{IsShortSound}
use Rattle.slice_decoder.specs.Short.{shown_trio}
use Rattle.picture_codec.specs.DecodedBands.{AllAgree, LateSeen, narrow_of}

-- the slices of each component show its bands
pub record AreShortSound (b : ShortTrio) : Type 0 where
  pub luma : IsShortSound b.luma
  pub c1 : IsShortSound b.c1
  pub c2 : IsShortSound b.c2

-- the bands of each component are the same, place by place
pub record AllShowTheSame (a b : Trio) : Type 0 where
  pub luma : ShowTheSame a.luma b.luma
  pub c1 : ShowTheSame a.c1 b.c1
  pub c2 : ShowTheSame a.c2 b.c2

-- bands of 16 bits have the sizes of rows
abbrev pub AreBeside : ShortTrio → Trio → Type 0
AreBeside short rows = AllAgree (narrow_of (shown_trio short)) rows

-- what decoded bands keep, with room for a row: rows stand beside bands of 16 bits that serve, else they are made
pub record AreBandsKept (short : ShortTrio) (rows : LateSeen Trio) (row : List ℤ) (is_short : Bool) : Type 0 where
  pub room : length row ≡ 8208
  pub beside : is_short ≡ true → AreBeside short rows.bands
  pub made : is_short ≡ false → rows.is_made ≡ true
