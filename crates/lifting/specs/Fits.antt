-- What synthesis asks of a width: that it has room for each number that enters a step.
use Rattle.std.specs.Prelude.{ℕ, ℤ, suc, ◌*◌, ◌^◌, ◌<◌}
use Rattle.planes.specs.Subbands.{BandsOf}
use Rattle.lifting.specs.declared.Wavelet.{Wavelet}
use Rattle.lifting.specs.declared.PairStep.TheVariants.{EvenDown}
use Rattle.lifting.specs.Steps.{step}
use Rattle.lifting.specs.Lines.{Line, lift, synthesis_line}
use Rattle.lifting.specs.Transform.{Grid, on_columns, interleaved, Coefficients, synthesis}
use Rattle.lifting.specs.Ranges.{LineWithin, GridWithin}
use Rattle.lifting.specs.Bands.{coefficients_in, lowest}

-- What enters the steps on a line has magnitudes of at most m: its numbers, and then those with the even places lifted.
pub record LineFits (k : Wavelet) (n m : ℕ) (a : Line) : Type 0 where
  pub own : LineWithin n m a
  pub even : LineWithin n m (lift 0 n (step k EvenDown) a)

-- on a level: on each column, and then on each row
pub record LevelFits (k : Wavelet) (h w m : ℕ) (g : Grid) : Type 0 where
  pub columns : (x : ℕ) → x < w → LineFits k h m (λ j. g j x)
  pub rows : (y : ℕ) → y < h → LineFits k w m (on_columns (synthesis_line k h) g y)

-- on all levels, where the lowest band has h rows and w columns
pub record SynthesisFits (k : Wavelet) (h w depth m : ℕ) (c : Coefficients) : Type 0 where
  pub ll : GridWithin h w m c.ll
  pub levels : (n : ℕ) → n < depth
      → LevelFits k (h * 2 ^ suc n) (w * 2 ^ suc n) m (interleaved (synthesis k h w c n) (c.hl (suc n)) (c.lh (suc n)) (c.hh (suc n)))

-- of the bands of a component of w by h
abbrev pub FitIn : {X : Type 0} → (X → ℤ) → X → Wavelet → ℕ → BandsOf X → ℕ → ℕ → Type 0
FitIn value none k m b w h = SynthesisFits k (lowest b.depth h) (lowest b.depth w) b.depth m (coefficients_in value none b)

-- and of one of their levels, which is made of what n levels make
abbrev pub LevelFitsIn : {X : Type 0} → (X → ℤ) → X → Wavelet → ℕ → BandsOf X → ℕ → ℕ → ℕ → Type 0
LevelFitsIn value none k m b w h n =
    let c = coefficients_in value none b in
    LevelFits k (lowest b.depth h * 2 ^ suc n) (lowest b.depth w * 2 ^ suc n) m
    (interleaved (synthesis k (lowest b.depth h) (lowest b.depth w) c n) (c.hl (suc n)) (c.lh (suc n)) (c.hh (suc n)))
