-- How many bytes a reader holds.
use Rattle.std.specs.Prelude.{◌≡◌, ◌≤◌, ℕ, zero, suc, ◌+◌, List, [], length, max, Option, Some, None, Result, Ok, Err}
use Rattle.field_rows.specs.Rows.{Rows, done, ◌>>=◌}
use Rattle.slice_geometry.specs.Slicing.{Slicing, slice_bytes, slice_count}
use Rattle.sequence_header.specs.declared.parts.HeaderParts.{HeaderParts}
use Rattle.transform_params.specs.Params.{Params}
use Rattle.picture_codec.specs.Decoding.{PictureDecoderSeen}
use Rattle.run_theory.specs.Begun.{Begun}
use Rattle.stream_rows.specs.declared.reason.Reason.{Reason}
use Rattle.stream_reader.specs.ReadStops.{ReadStop}
use Rattle.unit_reader.specs.declared.stop.ReadStop.TheVariants as stops
use Rattle.stream_reader.specs.declared.parts.Found.{Found}
use Rattle.stream_reader.specs.declared.parts.Found.TheVariants as founds
use Rattle.stream_rows.specs.Units.{Past, DataUnit, Picture, units, next_checked, slice_rows}

-- ---- the bound

-- the greatest of the first n shares
abbrev pub greatest_of : ℕ → ℕ → ℕ → ℕ
greatest_of a b zero = 0
greatest_of a b (suc n) = max (greatest_of a b n) (slice_bytes a b n)

-- the greatest share of a picture's slices
abbrev pub greatest_share : Slicing → ℕ
greatest_share s = greatest_of s.a s.b (slice_count s)

-- At most so many bytes are held, by the greatest share of the last picture unit whose parameters were read, or none.
abbrev pub held_most : Option ℕ → ℕ
held_most None = 8192
held_most (Some greatest) = 8192 + greatest

-- the greatest share of the pictures that a decoder makes
abbrev pub greatest_in : Option PictureDecoderSeen → Option ℕ
greatest_in None = None
greatest_in (Some d) = Some (greatest_share d.params.slicing)

-- ---- the picture that it is of

-- the slices of a picture with this number and these parameters, and what is behind them
unfoldable pub slices_under : Past → ℕ → HeaderParts → ℕ → Params → Rows Reason DataUnit
slices_under z next parts number p = do
  slices ← slice_rows parts p (slice_count p.slicing) []
  length ← next_checked z next
  done (Picture parts number p slices)

-- These transform parameters stand in the unit in front: whatever follows, what is left of it are the slices of a picture
-- under them.
pub record ReadsParams (z : Past) (held0 : List ℕ) (rest0 : Option (List ℕ)) (p : Params) : Type 0 where
  pub next : ℕ
  pub parts : HeaderParts
  pub number : ℕ
  pub at : ℕ
  pub held1 : List ℕ
  pub rest1 : Option (List ℕ)
  pub begun : Begun units z held0 rest0 rest1 at held1 (slices_under z next parts number p)

-- The greatest share behind a call that stops: that of the picture in which it stops, as before where few bytes are held,
-- or none where there is no memory for a decoder.
pub data IsGreatestHeld (z : Past) (held0 : List ℕ) (rest0 : Option (List ℕ)) (old new : Option ℕ) (held : List ℕ)
    (stop : ReadStop) : Type 0 where
  AsBefore : new ≡ old → length held ≤ 8192 → IsGreatestHeld z held0 rest0 old new held stop
  OfStopped : (p : Params) → ReadsParams z held0 rest0 p → new ≡ Some (greatest_share p.slicing)
      → IsGreatestHeld z held0 rest0 old new held stop
  OfNone : stop ≡ stops.NoMemory → new ≡ None → IsGreatestHeld z held0 rest0 old new held stop

-- ---- inside a call

-- What is held where a unit stops, by the decoder that was kept and the one that is: it stops before its slices, or in them
-- or behind them, or there is no memory for a decoder.
pub data StopsHeld (z : Past) (held0 : List ℕ) (rest0 : Option (List ℕ)) (old new : Option PictureDecoderSeen) (held : List ℕ)
    (stop : ReadStop) : Type 0 where
  BeforeSlices : new ≡ old → length held ≤ 8192 → StopsHeld z held0 rest0 old new held stop
  InSlices : (p : Params) → ReadsParams z held0 rest0 p → (d : PictureDecoderSeen) → new ≡ Some d → d.params ≡ p
      → length held ≤ 8192 + greatest_share p.slicing → StopsHeld z held0 rest0 old new held stop
  NoDecoder : stop ≡ stops.NoMemory → new ≡ None → length held ≤ 8192 → StopsHeld z held0 rest0 old new held stop

-- a decoder is kept but where a picture was found
abbrev pub KeptBy : Found → Option PictureDecoderSeen → Option PictureDecoderSeen → Type 0
KeptBy (founds.Picture shown) old new = Unit {0}
KeptBy found old new = new ≡ old

-- of a unit that was found or stops
abbrev pub HeldOver : Past → List ℕ → Option (List ℕ) → Option PictureDecoderSeen → Option PictureDecoderSeen → List ℕ
    → Result Found ReadStop → Type 0
HeldOver z held0 rest0 old new held (Ok found) = KeptBy found old new
HeldOver z held0 rest0 old new held (Err stop) = StopsHeld z held0 rest0 old new held stop
