-- What writing leaves.
use Rattle.std.specs.Prelude.{◌≡◌, ℕ, ℤ, List}
use Rattle.slice_geometry.specs.SliceOrder.{place_number}
use Rattle.slice_store.specs.Store.{Store}
use Rattle.slice_store.specs.Places.{IsPlace, AreTogether, number_at, row_with, column_with}

-- a store that lies the same, with other numbers
abbrev pub with_numbers : {X : Type 0} → Store X → List X → Store X
with_numbers s numbers = record s { numbers = numbers }

-- one store lies as another: each number at the same place
pub record LiesLike {X Y : Type 0} (s : Store X) (t : Store Y) : Type 0 where
  pub slicing : t.slicing ≡ s.slicing
  pub size : t.size ≡ s.size
  pub strips : t.strips ≡ s.strips
  pub starts : t.starts ≡ s.starts

-- all places but those of one row of a band have what they had, of the rows of slices that can be in the ring beside it
abbrev pub OthersStay : {X : Type 0} → (X → ℤ) → X → (s t : Store X) → ℕ → ℕ → ℕ → Type 0
OthersStay value none s t level orient y = (l o j x : ℕ) → IsPlace s l o j x → AreTogether s (row_with s l j) (row_with s level y)
    → (l ≡ level → o ≡ orient → j ≡ y → ⊥) → number_at value none t l o j x ≡ number_at value none s l o j x

-- a slice has these numbers, which are counted from 0 in the order of the stream
abbrev pub ShowsRun : {X : Type 0} → (X → ℤ) → X → Store X → ℕ → ℕ → (ℕ → X) → Type 0
ShowsRun value none s sx sy run = (level orient y x : ℕ) → IsPlace s level orient y x → column_with s level x ≡ sx → row_with s level y ≡ sy
    → number_at value none s level orient y x ≡ value (run (place_number s.slicing s.size sx sy level orient y x))

-- all places but those of one slice have what they had, of the rows of slices that can be in the ring beside it
abbrev pub OtherRunsStay : {X : Type 0} → (X → ℤ) → X → (s t : Store X) → ℕ → ℕ → Type 0
OtherRunsStay value none s t sx sy = (level orient y x : ℕ) → IsPlace s level orient y x → AreTogether s (row_with s level y) sy
    → (column_with s level x ≡ sx → row_with s level y ≡ sy → ⊥) → number_at value none t level orient y x ≡ number_at value none s level orient y x
