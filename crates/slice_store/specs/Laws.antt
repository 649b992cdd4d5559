-- Laws of places: each is inside its slice's run, and no two are one.
use Rattle.std.specs.Prelude.{◌≡◌, ℕ, ◌+◌, ◌<◌, ◌≤◌, length, ℤ, pos}
use Rattle.planes.specs.Raster.{at}
use Rattle.planes.specs.Subbands.{BandStack, BandExists, band_of}
use Rattle.slice_store.specs.Store.{Store}
use Rattle.slice_store.specs.Places.{IsPlace, IsStoreSound, AreTogether, place_of, run_start, row_with, column_with, band, number_at, Shows}
use Rattle.slice_store.specs.Writing.{with_numbers, OthersStay}

-- a place lies in the run of its slice
pub record IsInRun {X : Type 0} (s : Store X) (level orient y x : ℕ) : Type 0 where
  pub from : run_start s (column_with s level x) (row_with s level y) ≤ place_of s level orient y x
  pub to : place_of s level orient y x < run_start s (column_with s level x + 1) (row_with s level y)
  pub inside : place_of s level orient y x < length s.numbers

abbrev pub EachPlaceIsInside : Type 0
EachPlaceIsInside = (s : Store ℕ) (level orient y x : ℕ) → IsStoreSound s → IsPlace s level orient y x → IsInRun s level orient y x

pub record AreSame (l o y x m p j i : ℕ) : Type 0 where
  pub level : l ≡ m
  pub orient : o ≡ p
  pub row : y ≡ j
  pub column : x ≡ i

-- of rows of slices that are in the ring at once no two places are one
abbrev pub PlacesAreApart : Type 0
PlacesAreApart = (s : Store ℕ) (l o y x m p j i : ℕ) → IsStoreSound s → IsPlace s l o y x → IsPlace s m p j i
    → AreTogether s (row_with s l y) (row_with s m j) → place_of s l o y x ≡ place_of s m p j i → AreSame l o y x m p j i

-- a row of a band holds the stack's numbers
abbrev pub ShowsRow : Store ℤ → BandStack → ℕ → ℕ → ℕ → Type 0
ShowsRow s b level orient y = (x : ℕ) → x < (band s level).w → number_at (λ z. z) (pos 0) s level orient y x ≡ at (band_of b level orient) y x

-- What `put_row` leaves keeps each other row of as many rows of slices as there are strips, and rows of slices are shown once
-- each of their bands' rows is.
pub record RowsInTurn (s t : Store ℤ) (b : BandStack) (level orient y from : ℕ) : Type 0 where
  pub kept : (l o j : ℕ) → BandExists s.slicing.depth l o → j < (band s l).h → from ≤ row_with s l j → row_with s l j < from + s.strips
      → (l ≡ level → o ≡ orient → j ≡ y → ⊥) → ShowsRow s b l o j → ShowsRow t b l o j
  pub whole : (to : ℕ) → ((l o j : ℕ) → BandExists s.slicing.depth l o → j < (band s l).h → from ≤ row_with s l j → row_with s l j < to → ShowsRow t b l o j)
      → Shows (λ z. z) (pos 0) t b from to

abbrev pub RowsComeInTurn : Type 0
RowsComeInTurn = (s t : Store ℤ) (b : BandStack) (level orient y from : ℕ) → IsStoreSound s → t ≡ with_numbers s t.numbers → OthersStay (λ z. z) (pos 0) s t level orient y
    → from ≤ row_with s level y → row_with s level y < from + s.strips → RowsInTurn s t b level orient y from
