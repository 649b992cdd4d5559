-- The values of a block as they are dealt out to places, each by its quantiser.
use Rattle.std.specs.Prelude.{◌≡◌, ℕ, ◌+◌, ◌*◌, ◌<◌, ◌≤◌, ◌⊎◌, Bool, List, [], ◌∷◌, replicate, slice_index_or, ℤ, pos}
use Rattle.planes.specs.declared.Rect.{Rect}
use Rattle.planes.specs.Raster.{Raster, height, at}
use Rattle.planes.specs.Valued.{grid_of}
use Rattle.planes.specs.Rect.{IsInRect}
use Rattle.bounded_blocks.specs.Reading.{value_at}
use Rattle.quant_factors.specs.Factors.{inverse_of}
use Rattle.slice_geometry.specs.SliceOrder.{number_in}

-- a value for each quantiser
abbrev pub dealt : List Bool → List ℕ → List ℤ
dealt block [] = []
dealt block (q ∷ quantisers) = inverse_of (value_at block).0 q ∷ dealt (value_at block).1 quantisers

-- and what is left of the block
abbrev pub behind : List Bool → List ℕ → List Bool
behind block [] = block
behind block (q ∷ quantisers) = behind (value_at block).1 quantisers

-- the next n values, all by one quantiser, and what is left behind them
abbrev pub next_values : List Bool → ℕ → ℕ → List ℤ
next_values block n q = dealt block (replicate n q)

-- what is left of the block behind them
abbrev pub behind_next : List Bool → ℕ → ℕ → List Bool
behind_next block n q = behind block (replicate n q)

-- all places of a row but x0..x1 stay
abbrev pub StaysBeside : ℕ → ℕ → List ℤ → List ℤ → Type 0
StaysBeside x0 x1 old new = (x : ℕ) → (x < x0) ⊎ (x1 ≤ x) → slice_index_or new x (pos 0) ≡ slice_index_or old x (pos 0)

-- The places of a rectangle hold values that are counted from 0. Each place, row by row, has so many of these, of which
-- it holds the one that is counted by `from`; and all other places stay.
pub record HoldsRectOf {X : Type 0} (value : X → ℤ) (none : X) (each from : ℕ) (r : Rect) (values : ℕ → ℤ) (old new : Raster X) : Type 0 where
  pub same_width : new.w ≡ old.w
  pub same_height : height new ≡ height old
  pub inside : (y x : ℕ) → IsInRect r y x → grid_of value none new y x ≡ values (each * number_in r y x + from)
  pub outside : (y x : ℕ) → (IsInRect r y x → ⊥) → grid_of value none new y x ≡ grid_of value none old y x

-- the same of integers, from a list
abbrev pub HoldsRect : ℕ → ℕ → Rect → List ℤ → Raster ℤ → Raster ℤ → Type 0
HoldsRect each from r values old new = HoldsRectOf (λ v. v) (pos 0) each from r (λ k. slice_index_or values k (pos 0)) old new

-- the same where nothing is known of the places inside
pub record KeepsOutside (r : Rect) (old new : Raster ℤ) : Type 0 where
  pub same_width : new.w ≡ old.w
  pub same_height : height new ≡ height old
  pub outside : (y x : ℕ) → (IsInRect r y x → ⊥) → at new y x ≡ at old y x
