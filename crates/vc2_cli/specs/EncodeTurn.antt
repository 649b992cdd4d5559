-- The loop of `encode` between two turns, and what a run of it leaves.
use Rattle.std.specs.Prelude.{◌≡◌, ℕ, false, List, Option, None, Result}
use Rattle.slice_geometry.specs.Frames.{frame_of}
use Rattle.raw_video.specs.Reading.{RawReaderSeen}
use Rattle.raw_video.specs.PictureRuns as pictures
use Rattle.raw_video.specs.PictureSoon.{PicturesSoon}
use Rattle.run_theory.specs.Runs.{Change, Runs}
use Rattle.run_theory.specs.declared.Halt.{Halt}
use Rattle.stream_rows.specs.Streams.{frame_under}
use Rattle.vc2_words.specs.Settings.{Asked}
use Rattle.stream_writer.specs.Writer.{StreamWriterSeen}
use Rattle.vc2_cli.specs.Encode.{written_under, shapes_at, encoding, encode_machine}
use Rattle.vc2_cli.specs.Endings.{IsDone, MayEndLater}
use Rattle.vc2_cli.specs.declared.status.Ending.{Ending}

-- the writer behind n pictures
abbrev pub turn_behind : Asked → ℕ → StreamWriterSeen
turn_behind s n = record { settings = written_under s; shapes = shapes_at s n; ended = false; stop = None }

-- the writer stands behind n pictures
abbrev pub IsBehind : Asked → ℕ → StreamWriterSeen → Type 0
IsBehind s n w = w ≡ turn_behind s n

-- n pictures are read and written
pub record WritesPictures (s : Asked) (n : ℕ) (rest0 rest1 out0 out1 : Option (List ℕ)) (r : RawReaderSeen) (w : StreamWriterSeen) : Type 0 where
  pub frame : frame_of r.shape ≡ frame_under s.parts
  pub unrefused : r.refused ≡ false
  pub writer : IsBehind s n w
  pub run : pictures.Goes (frame_under s.parts) (encoding s) (record { place = r.place; own = n }) rest0 rest1 out0 out1

-- what a run of `encode` leaves, and how soon it is over behind a refusal
pub record EncodeRuns (s : Asked) (src out : Change) (result : Result Ending Halt) : Type 0 where
  pub runs : Runs (encode_machine s) IsDone src out result
  pub soon : PicturesSoon MayEndLater (encode_machine s) src.was src.is
