-- How far a level of synthesis carries the magnitudes of its bands, and where 16 bits have room for it.
use Rattle.std.specs.Prelude.{ℕ, suc, ◌+◌, ◌-◌, ◌*◌, ◌/◌, ◌^◌, ◌<◌, ◌≤◌}
use Rattle.lifting.specs.declared.Wavelet.{Wavelet}
use Rattle.lifting.specs.declared.Wavelet.TheVariants.{LeGall, HaarFlat, HaarShift}
use Rattle.planes.specs.Subbands.{BandStack}
use Rattle.lifting.specs.Transform.{Grid, synthesis}
use Rattle.lifting.specs.Ranges.{GridWithin}
use Rattle.lifting.specs.Bands.{lowest, coefficients_of}

-- From even places within e and odd ones within o an even place comes within this,
abbrev pub even_carried : ℕ → ℕ → ℕ
even_carried e o = e + (o + 1) / 2

-- and an odd one, and so each place of the line, within this.
abbrev pub line_carried : ℕ → ℕ → ℕ
line_carried e o = o + even_carried e o

-- a level's last step
abbrev pub halved_carried : Wavelet → ℕ → ℕ
halved_carried LeGall m = (m + 1) / 2
halved_carried HaarFlat m = m
halved_carried HaarShift m = (m + 1) / 2

-- A level, from LL within `low` and the other bands within `high`. Of the columns the even ones are LL over LH, the odd ones
-- HL over HH. The greatest number that enters a step is an even place of a row that was lifted,
abbrev pub level_entered : ℕ → ℕ → ℕ
level_entered low high = even_carried (line_carried low high) (line_carried high high)

-- and what the level makes is within this.
abbrev pub level_carried : Wavelet → ℕ → ℕ → ℕ
level_carried k low high = halved_carried k (line_carried (line_carried low high) (line_carried high high))

-- There are bounds of LL and of the other bands of a level, each of h rows and w columns, from which each number that enters
-- a step is within 2 ^ 14 - 2, so that sums of two, and 2 more, have 16 bits. This suffices; steps may fit without it.
pub record IsShortLevel (h w : ℕ) (ll hl lh hh : Grid) : Type 0 where
  pub low : ℕ
  pub high : ℕ
  pub within_ll : GridWithin h w low ll
  pub within_hl : GridWithin h w high hl
  pub within_lh : GridWithin h w high lh
  pub within_hh : GridWithin h w high hh
  pub few : level_entered low high ≤ 2 ^ 14 - 2

-- of a component of w by h, where LL is what n levels make, and the bands are those of the level above these
abbrev pub IsShortAt : Wavelet → BandStack → ℕ → ℕ → ℕ → Type 0
IsShortAt k b w h n =
    IsShortLevel (lowest b.depth h * 2 ^ n) (lowest b.depth w * 2 ^ n)
    (synthesis k (lowest b.depth h) (lowest b.depth w) (coefficients_of b) n)
    ((coefficients_of b).hl (suc n)) ((coefficients_of b).lh (suc n)) ((coefficients_of b).hh (suc n))

-- the first levels are so
abbrev pub AreShortTo : Wavelet → BandStack → ℕ → ℕ → ℕ → Type 0
AreShortTo k b w h levels = (n : ℕ) → n < levels → IsShortAt k b w h n

-- 16 bits have room for the synthesis of these bands: all levels are so.
abbrev pub AreShortIn : Wavelet → BandStack → ℕ → ℕ → Type 0
AreShortIn k b w h = AreShortTo k b w h b.depth
