-- Raw video as it is read (own): picture after picture of one shape, with no header. The bytes decide one after another:
-- what stands in front is a picture, or the input's end, or the first fault with its place.
use Rattle.std.specs.Prelude.{◌≡◌, ◌<◌, All, ℕ, zero, suc, ◌+◌, ◌-◌, ◌*◌, ◌^◌, ◌==◌, Bool, true, false, nat_lt, if◌then◌else◌, List, [], ◌∷◌, ◌++◌, length, take, drop, replicate, Option, Some, None}
use Rattle.vc2_io.specs.declared.TheConstants.{INPUT_LIMIT}
use Rattle.slice_geometry.specs.Frames.{Frame}
use Rattle.slice_geometry.specs.declared.Size.{Size}
use Rattle.picture_codec.specs.Samples.{SamplesSeen, PictureSamples}
use Rattle.raw_video.specs.RawText.{is_wide, raw_text}

-- how many bytes a sample takes
abbrev pub sample_size : Bool → ℕ
sample_size wide = if wide then 2 else 1

-- how many samples luma has
abbrev pub luma_count : Frame → ℕ
luma_count f = f.luma.h * f.luma.w

-- how many samples a colour component has
abbrev pub colour_count : Frame → ℕ
colour_count f = f.colour.h * f.colour.w

-- how many bytes a picture takes
abbrev pub raw_length : Frame → ℕ
raw_length f = sample_size (is_wide f) * (luma_count f + 2 * colour_count f)

-- the samples that are whole in the bytes
abbrev pub samples_in : Bool → List ℕ → List ℕ
samples_in false bytes = bytes
samples_in true (low ∷ high ∷ bytes) = (low + 256 * high) ∷ samples_in true bytes
samples_in true other = []

-- what the samples of a picture are below, in their order
abbrev pub sample_bounds : Frame → List ℕ
sample_bounds f = replicate (luma_count f) (2 ^ f.luma_depth)
    ++ (replicate (colour_count f) (2 ^ f.colour_depth) ++ replicate (colour_count f) (2 ^ f.colour_depth))

-- the number of a sample, counted with one more before it
abbrev pub later : Option ℕ → Option ℕ
later None = None
later (Some k) = Some (k + 1)

-- the number of the first sample that isn't below its bound
abbrev pub first_large : List ℕ → List ℕ → Option ℕ
first_large [] samples = None
first_large (bound ∷ bounds) [] = None
first_large (bound ∷ bounds) (v ∷ samples) = if nat_lt v bound then later (first_large bounds samples) else Some 0

-- the picture of so many samples
abbrev pub picture_from : Frame → List ℕ → PictureSamples
picture_from f samples = record {
  luma = record { w = f.luma.w; h = f.luma.h; cells = take (luma_count f) samples };
  c1 = record { w = f.colour.w; h = f.colour.h; cells = take (colour_count f) (drop (luma_count f) samples) };
  c2 = record { w = f.colour.w; h = f.colour.h; cells = drop (colour_count f) (drop (luma_count f) samples) };
}

-- the samples of a component of this size, each of so many bits
pub record AreRows (size : Size) (depth : ℕ) (s : SamplesSeen) : Type 0 where
  pub width : s.w ≡ size.w
  pub height : s.h ≡ size.h
  pub count : length s.cells ≡ size.h * size.w
  pub below : All (λ v. v < 2 ^ depth) s.cells

-- the samples of a picture have the frame's sizes and bits
pub record IsOfFrame (f : Frame) (s : PictureSamples) : Type 0 where
  pub luma : AreRows f.luma f.luma_depth s.luma
  pub c1 : AreRows f.colour f.colour_depth s.c1
  pub c2 : AreRows f.colour f.colour_depth s.c2

-- What stands in front of the bytes that are left.
pub data RawFront : Type 0 where
  -- a picture
  Shown : PictureSamples → RawFront
  -- nothing: the input's end
  Over : RawFront
  -- a sample that is too large, at this place
  LargeAt : ℕ → RawFront
  -- a part of a picture, with which the input ends at this place
  CutAt : ℕ → RawFront
  -- no whole picture before the limit, and the input goes on past it
  TooLong : RawFront

-- by the bytes of the picture that are there, and its first sample that is too large; all is counted behind so many bytes
abbrev pub front_of : Frame → ℕ → List ℕ → List ℕ → Option ℕ → RawFront
front_of f place bytes there (Some k) = LargeAt (place + sample_size (is_wide f) * k)
front_of f place bytes there None =
    if length there == raw_length f then Shown (picture_from f (samples_in (is_wide f) there))
    else if nat_lt (INPUT_LIMIT - place) (length bytes) then TooLong
    else if length bytes == 0 then Over
    else CutAt (place + length bytes)

-- An input counts up to 2 ^ 40 bytes.
abbrev pub raw_front : Frame → ℕ → List ℕ → RawFront
raw_front f place bytes =
    let there = take (raw_length f) (take (INPUT_LIMIT - place) bytes) in
    front_of f place bytes there (first_large (sample_bounds f) (samples_in (is_wide f) there))

-- ---- all of an input

-- pictures one after another
abbrev pub raw_texts : Frame → List PictureSamples → List ℕ
raw_texts f [] = []
raw_texts f (s ∷ pictures) = raw_text f s ++ raw_texts f pictures

-- the pictures in front, and what stands behind them
pub record RawParse : Type 0 where
  pub pictures : List PictureSamples
  pub ending : RawFront

-- a picture in front of what stands behind it
abbrev pub ahead : RawFront → RawParse → RawParse
ahead (Shown p) behind = record { pictures = p ∷ behind.pictures; ending = behind.ending }
ahead ending behind = record { pictures = []; ending = ending }

-- so many turns at most
abbrev pub parse_from : Frame → ℕ → ℕ → List ℕ → RawParse
parse_from f zero place bytes = record { pictures = []; ending = Over }
parse_from f (suc turns) place bytes =
    ahead (raw_front f place bytes) (parse_from f turns (place + raw_length f) (drop (raw_length f) bytes))

-- what bytes of raw video hold: their pictures, and how they end
abbrev pub raw_parse : Frame → List ℕ → RawParse
raw_parse f bytes = parse_from f (length bytes + 1) 0 bytes
