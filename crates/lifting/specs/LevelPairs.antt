-- A level of synthesis whose pairs of rows come one after another.
use Rattle.std.specs.Prelude.{◌≡◌, ◌≢◌, ◌↔◌, ℕ, zero, suc, ℤ, min, ◌+◌, ◌-◌, ◌*◌, ◌/◌, ◌%◌, ◌^◌, ◌<◌, ◌≤◌, ◌==◌, if◌then◌else◌, length}
use Rattle.planes.specs.Valued.{valued}
use Rattle.lifting.specs.declared.Wavelet.{Wavelet}
use Rattle.lifting.specs.declared.Wavelet.TheVariants.{LeGall, HaarFlat, HaarShift}
use Rattle.lifting.specs.declared.PairStep.TheVariants.{EvenDown}
use Rattle.lifting.specs.declared.level_up.LevelUp.{LevelUp}
use Rattle.lifting.specs.declared.level_up.Pair.{Pair}
use Rattle.lifting.specs.Steps.{step}
use Rattle.lifting.specs.Lines.{Line, lift, synthesis_line}
use Rattle.lifting.specs.Places.{side_place, row_grid}
use Rattle.lifting.specs.Transform.{Grid, Coefficients, every_other, synthesis}
use Rattle.lifting.specs.Ranges.{BandsWithin}

-- how many rows of a level of 2h rows are final when so many pairs have come
abbrev pub rows_final : Wavelet → ℕ → ℕ → ℕ
rows_final LeGall h pairs = if pairs == h then 2 * h else 2 * pairs - 1
rows_final HaarFlat h pairs = 2 * pairs
rows_final HaarShift h pairs = 2 * pairs

-- a column of a level, by the place where it stands in a row whose even places come first
abbrev pub column_of : Grid → ℕ → ℕ → Line
column_of g w x j = g j (side_place w x)

-- row j of a level, with the even places of the columns lifted,
abbrev pub evened_row : Wavelet → ℕ → ℕ → Grid → ℕ → Line
evened_row k h w g j x = lift 0 (2 * h) (step k EvenDown) (column_of g w x) j

-- and with the columns lifted whole
abbrev pub raised_row : Wavelet → ℕ → ℕ → Grid → ℕ → Line
raised_row k h w g j x = synthesis_line k (2 * h) (column_of g w x) j

-- four rows of w places are row y of the bands that lie interleaved in a grid
pub record HoldsPair {X : Type 0} (value : X → ℤ) (none : X) (w y : ℕ) (g : Grid) (p : Pair X) : Type 0 where
  pub ll_long : w ≤ length p.ll.now
  pub hl_long : w ≤ length p.hl.now
  pub lh_long : w ≤ length p.lh.now
  pub hh_long : w ≤ length p.hh.now
  pub ll : (x : ℕ) → x < w → valued value none p.ll.now x ≡ every_other 0 0 g y x
  pub hl : (x : ℕ) → x < w → valued value none p.hl.now x ≡ every_other 0 1 g y x
  pub lh : (x : ℕ) → x < w → valued value none p.lh.now x ≡ every_other 1 0 g y x
  pub hh : (x : ℕ) → x < w → valued value none p.hh.now x ≡ every_other 1 1 g y x

-- The first n pairs of a level have come, and m rows were given. The last even row waits in a ring of two, until it was given and
-- no odd row waits for it, and behind the last pair the last odd row beside it; the odd row above stands in a third row until it is
-- given.
pub record HoldsPairs (k : Wavelet) (h w n m : ℕ) (g ring : Grid) : Type 0 where
  pub even : 1 ≤ n → (rows_final k h n ≡ 2 * n → m + 1 < 2 * n) → (x : ℕ) → x < 2 * w → ring ((n - 1) % 2) x ≡ evened_row k h w g (2 * (n - 1)) x
  pub last : 1 ≤ n → rows_final k h n ≡ 2 * n → m < 2 * n → (x : ℕ) → x < 2 * w → ring (n % 2) x ≡ raised_row k h w g (2 * (n - 1) + 1) x
  pub above : 2 ≤ n → m + 2 < 2 * n → (x : ℕ) → x < 2 * w → ring 2 x ≡ raised_row k h w g (2 * (n - 2) + 1) x

-- the same of a level as it stands, whose bands lie interleaved in a grid
abbrev pub HasPairs : {X : Type 0} → (X → ℤ) → X → Grid → LevelUp X → Type 0
HasPairs value none g l = HoldsPairs l.wavelet l.h l.w l.came l.given g (row_grid value none (2 * l.w) l.ring.now)

-- A level has some columns and rows, and few enough for a plane, and there is room for them in its ring.
pub record IsOpen {X : Type 0} (l : LevelUp X) : Type 0 where
  pub some : 1 ≤ l.w
  pub some_rows : 1 ≤ l.h
  pub short : l.w ≤ 4104
  pub low : l.h ≤ 4104
  pub ring : min 3 (2 * l.h) * (2 * l.w) ≤ length l.ring.now
  pub few : l.came ≤ l.h
  pub given : l.given ≤ rows_final l.wavelet l.h l.came
  pub near : 2 * l.came ≤ l.given + 3

-- a level keeps its wavelet, its size, and its ring with its places
pub record IsSameUp {X : Type 0} (old new : LevelUp X) : Type 0 where
  pub wavelet : new.wavelet ≡ old.wavelet
  pub w : new.w ≡ old.w
  pub h : new.h ≡ old.h
  pub ring : length new.ring.now ≡ length old.ring.now
  pub same_ring : new.ring.ghost_name ≡ old.ring.ghost_name

-- how many pairs have to come so that e rows of a level of 2h rows are final
abbrev pub pairs_for : Wavelet → ℕ → ℕ → ℕ
pairs_for LeGall h e = min h (e / 2 + 1)
pairs_for HaarFlat h e = (e + 1) / 2
pairs_for HaarShift h e = (e + 1) / 2

-- ---- levels in turn, counted from the lowest band up: the bands of level n + 1 have `size n` rows

-- how many rows of level n are final where so many rows of LL and of each level's other bands have come
unfoldable pub rows_made : Wavelet → (ℕ → ℕ) → (ℕ → ℕ) → ℕ → ℕ
rows_made k size came zero = came zero
rows_made k size came (suc n) = rows_final k (size n) (min (rows_made k size came n) (came (suc n)))

-- as many have come as e rows of level n ask for
unfoldable pub CameFor : Wavelet → (ℕ → ℕ) → (ℕ → ℕ) → ℕ → ℕ → Type 0
CameFor k size came e zero = e ≤ came zero
CameFor k size came e (suc n) = CameFor k size came (pairs_for k (size n) e) n × (pairs_for k (size n) e ≤ came (suc n))

-- then these are final, and before they are not
abbrev pub RowsAreFinal : Type 0
RowsAreFinal = (k : Wavelet) (depth : ℕ) (size came : ℕ → ℕ) → ((n : ℕ) → n < depth → size (suc n) ≡ 2 * size n)
    → ((n : ℕ) → n < depth → came (suc n) ≤ size n) → (n e : ℕ) → n ≤ depth → 1 ≤ e → e ≤ size n
    → (e ≤ rows_made k size came n) ↔ CameFor k size came e n

-- Levels in turn, the lowest one first: each has taken as many pairs as LL below it and its own bands have rows of, and given all rows
-- that are final.
pub record GiveInTurn {X : Type 0} (k : Wavelet) (size came : ℕ → ℕ) (depth : ℕ) (level : ℕ → LevelUp X) : Type 0 where
  pub wavelet : (n : ℕ) → n < depth → (level n).wavelet ≡ k
  pub rows : (n : ℕ) → n < depth → (level n).h ≡ size n
  pub given : (n : ℕ) → n < depth → (level n).given ≡ rows_final (level n).wavelet (level n).h (level n).came
  pub first : (level 0).came ≡ min (came 0) (came 1)
  pub next : (n : ℕ) → suc n < depth → (level (suc n)).came ≡ min (level n).given (came (suc (suc n)))

-- two sets of coefficients agree in what has come: so many rows of LL and of each level's other bands
pub record AgreeInCame (came : ℕ → ℕ) (c d : Coefficients) : Type 0 where
  pub ll : (y x : ℕ) → y < came 0 → c.ll y x ≡ d.ll y x
  pub hl : (n y x : ℕ) → y < came n → c.hl n y x ≡ d.hl n y x
  pub lh : (n y x : ℕ) → y < came n → c.lh n y x ≡ d.lh n y x
  pub hh : (n y x : ℕ) → y < came n → c.hh n y x ≡ d.hh n y x

-- No synthesis has line y before: where a row has not come that it asks for, of LL or of any level's other bands, there are two sets of
-- coefficients within 4 that agree in all that has come, and in the line their pictures differ.
abbrev pub NoRowSooner : Type 0
NoRowSooner = (k : Wavelet) (h w depth y : ℕ) (came : ℕ → ℕ) → y < h * 2 ^ depth → ¬ CameFor k (λ n. h * 2 ^ n) came (y + 1) depth
    → (c : Coefficients) × (d : Coefficients) × BandsWithin h w depth 4 4 c × BandsWithin h w depth 4 4 d × AgreeInCame came c d
    × (synthesis k h w c depth y 0 ≢ synthesis k h w d depth y 0)
