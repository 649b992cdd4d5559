-- What reading raw video leaves: some samples of a picture, and the next picture.
use Rattle.std.specs.Prelude.{◌≡◌, ◌≤◌, ◌<◌, ◌⊎◌, ℕ, ◌+◌, ◌*◌, Bool, false, true, if◌then◌else◌, ◌/◌, List, [], ◌∷◌, ◌++◌, length, Option, Some, None, Result, Ok, Err}
use Rattle.vc2_io.specs.declared.TheConstants.{INPUT_LIMIT, READ_SIZE}
use Rattle.std.specs.Io.KnownBytes.{Consumes, IsAtEnd}
use Rattle.vc2_io.specs.Outside.{Rose}
use Rattle.slice_geometry.specs.declared.PictureShape.{PictureShape}
use Rattle.slice_geometry.specs.Frames.{Frame, frame_of}
use Rattle.picture_codec.specs.Samples.{PictureSamples}
use Rattle.raw_video.specs.RawText.{is_wide}
use Rattle.raw_video.specs.RawParse.{sample_size, raw_length, samples_in, first_large, raw_front, sample_bounds, Shown, Over, LargeAt, CutAt, TooLong}
use Rattle.raw_video.specs.declared.reading.Halt.{Halt}
use Rattle.raw_video.specs.declared.reading.Halt.TheVariants as halts
use Rattle.raw_video.specs.declared.reader.RawStep.{RawStep}
use Rattle.raw_video.specs.declared.reader.RawStep.TheVariants as steps
use Rattle.raw_video.specs.declared.reader.RawFault.{RawFault}
use Rattle.raw_video.specs.declared.reader.RawFault.TheVariants as faults

-- ---- some samples of a picture

-- how many samples are whole in so many bytes
abbrev pub whole_samples : Bool → ℕ → ℕ
whole_samples wide bytes = if wide then bytes / 2 else bytes

-- by how it came out: the bytes that were taken, behind so many samples of the picture, for samples with these bounds
abbrev pub SamplesAre : Bool → ℕ → ℕ → List ℕ → Option (List ℕ) → List ℕ → List ℕ → Result (Unit {0}) Halt → Type 0
SamplesAre wide start room bounds rest taken samples (Ok x) =
    (length taken ≡ sample_size wide * length bounds) × (samples_in wide taken ≡ samples)
    × (first_large bounds (samples_in wide taken) ≡ None)
SamplesAre wide start room bounds rest taken samples (Err (halts.Ended total)) =
    (total ≡ sample_size wide * start + length taken) × (length taken < sample_size wide * length bounds)
    × ((total ≡ room) ⊎ IsAtEnd rest)
    × (first_large bounds (samples_in wide taken) ≡ None)
SamplesAre wide start room bounds rest taken samples (Err (halts.Large number)) =
    (k : ℕ) × (number ≡ start + k) × (first_large bounds (samples_in wide taken) ≡ Some k)
SamplesAre wide start room bounds rest taken samples (Err halts.ReadFault) = length taken < sample_size wide * length bounds

-- Without its last bytes, of which there are at most so many as a read asks for, what was taken has no sample that is too
-- large.
pub record IsSoon (wide : Bool) (bounds taken : List ℕ) : Type 0 where
  pub sure : List ℕ
  pub last : List ℕ
  pub parts : taken ≡ sure ++ last
  pub few : length last ≤ READ_SIZE
  pub none : first_large bounds (samples_in wide sure) ≡ None

-- The samples were read, or what halted it is told; all bytes of the picture are at most so many as there is room for.
pub record ReadsSamples (wide : Bool) (start room : ℕ) (bounds : List ℕ) (rest0 rest1 : Option (List ℕ))
    (samples : List ℕ) (result : Result (Unit {0}) Halt) : Type 0 where
  pub taken : List ℕ
  pub took : Consumes rest0 rest1 taken
  pub few : length taken ≤ sample_size wide * length bounds
  pub most : sample_size wide * start + length taken ≤ room
  pub are : SamplesAre wide start room bounds rest1 taken samples result
  pub soon : IsSoon wide bounds taken

-- a failed read has its cause, and without one the count stands still
abbrev pub SamplesCause : {X : Type 0} → ℕ → ℕ → Result X Halt → Type 0
SamplesCause before now (Ok x) = now ≡ before
SamplesCause before now (Err halts.ReadFault) = (before ≤ now) × Rose before now
SamplesCause before now (Err other) = now ≡ before

-- ---- the next picture

-- The bytes that were taken, by how it came out. What follows on them changes nothing, where the answer says so.
abbrev pub FrontIs : Frame → ℕ → List ℕ → Option (List ℕ) → PictureSamples → Result RawStep RawFault → Type 0
FrontIs f place taken rest samples (Ok steps.Picture) = (length taken ≡ raw_length f) × (place + raw_length f ≤ INPUT_LIMIT)
    × ((more : List ℕ) → raw_front f place (taken ++ more) ≡ Shown samples)
FrontIs f place taken rest samples (Ok steps.End) = (taken ≡ []) × IsAtEnd rest × (raw_front f place taken ≡ Over)
FrontIs f place taken rest samples (Err (faults.SampleTooLarge at)) =
    (more : List ℕ) → raw_front f place (taken ++ more) ≡ LargeAt at
FrontIs f place taken rest samples (Err (faults.RawTruncated at)) = IsAtEnd rest × (raw_front f place taken ≡ CutAt at)
FrontIs f place taken rest samples (Err faults.TooLong) = (more : List ℕ) → raw_front f place (taken ++ more) ≡ TooLong
FrontIs f place taken rest samples (Err faults.ReadFault) = length taken < raw_length f

-- What stands in front was read, behind so many bytes: at most a picture's bytes were taken, of which at most one lies
-- past the limit, and fewer than a read may ask for behind a sample that is too large.
pub record ReadsFront (f : Frame) (place : ℕ) (rest0 rest1 : Option (List ℕ)) (samples : PictureSamples)
    (result : Result RawStep RawFault) : Type 0 where
  pub taken : List ℕ
  pub took : Consumes rest0 rest1 taken
  pub most : length taken ≤ raw_length f
  pub limit : place + length taken ≤ INPUT_LIMIT + 1
  pub front : FrontIs f place taken rest1 samples result
  pub soon : IsSoon (is_wide f) (sample_bounds f) taken

-- whether a byte more was found, and taken
abbrev pub FoundByte : Option (List ℕ) → Option (List ℕ) → Bool → Type 0
FoundByte rest0 rest1 true = (byte : ℕ) × Consumes rest0 rest1 (byte ∷ [])
FoundByte rest0 rest1 false = Consumes rest0 rest1 [] × IsAtEnd rest1

-- A failed read made the failures of this source rise; nothing else did.
abbrev pub RawCause : {X : Type 0} → ℕ → ℕ → Result X RawFault → Type 0
RawCause before now (Ok x) = now ≡ before
RawCause before now (Err faults.ReadFault) = (before ≤ now) × Rose before now
RawCause before now (Err other) = now ≡ before

-- What is seen of a reader: the shape of its pictures, how many bytes those take that it read, and whether it refused.
pub record RawReaderSeen : Type 0 where
  pub shape : PictureShape
  pub place : ℕ
  pub refused : Bool

-- what a call leaves of it
abbrev pub reader_after : RawReaderSeen → Result RawStep RawFault → RawReaderSeen
reader_after old (Ok steps.Picture) = record old { place = old.place + raw_length (frame_of old.shape) }
reader_after old (Ok steps.End) = old
reader_after old (Err fault) = record old { refused = true }
