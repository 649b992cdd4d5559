-- The command `encode`, over raw pictures: a picture's text is its unit, behind an end and a header where a new sequence begins
-- with it.
use Rattle.std.specs.Prelude.{ℕ, zero, suc, ◌+◌, ◌%◌, ◌^◌, ◌==◌, ◌&&◌, nat_le, Bool, List, [], ◌∷◌, ◌++◌, Some, None, Result, Ok, Err, if◌then◌else◌}
use Rattle.parse_info.specs.declared.TheConstants.{HEAD_SIZE}
use Rattle.transform_params.specs.ParameterFields.{unit_length}
use Rattle.picture_codec.specs.Encoding.{slices_of}
use Rattle.raw_video.specs.RawParse.{raw_length, RawFront, LargeAt, CutAt}
use Rattle.raw_video.specs.PictureRuns.{PictureCommand, BehindPictures, picture_machine}
use Rattle.raw_video.specs.declared.reader.RawFault.{RawFault}
use Rattle.raw_video.specs.declared.reader.RawFault.TheVariants as faults
use Rattle.run_theory.specs.Walk.{Machine}
use Rattle.run_theory.specs.declared.Halt.{Halt}
use Rattle.run_theory.specs.declared.Halt.TheVariants as halts
use Rattle.stream_rows.specs.declared.reason.Reason.{Reason}
use Rattle.stream_rows.specs.declared.reason.Reason.TheVariants.{HalfFrame, StreamTooLong, SampleTooLarge, RawTruncated}
use Rattle.stream_rows.specs.Streams.{limit, frame_under}
use Rattle.stream_writer.specs.EncodedStream.{Settings, begins_at, header_length, header_unit, end_unit, units_with}
use Rattle.stream_writer.specs.Writer.{total_length, last_length, head_bytes_before, due_shapes, plain_shape}
use Rattle.slice_geometry.specs.declared.unit_list.UnitShape.{UnitShape}
use Rattle.channel_schedule.specs.declared.schedule.Schedule.{Schedule}
use Rattle.channel_schedule.specs.Plans.{plan_of}
use Rattle.vc2_words.specs.Settings.{Asked}
use Rattle.stream_writer.specs.declared.write_stop.WriteStop.{WriteStop}
use Rattle.stream_writer.specs.declared.write_stop.WriteStop.TheVariants as stops
use Rattle.vc2_cli.specs.declared.status.Ending.{Ending}
use Rattle.vc2_cli.specs.declared.status.Ending.TheVariants.{Done, Refused}
use Rattle.vc2_cli.specs.declared.status.Note.TheVariants.{Nothing, Encoded}
use Rattle.vc2_cli.specs.Scheduled.{shapes_in}

-- what the stream is written under
abbrev pub written_under : Asked → Settings
written_under s = record { parts = s.parts; params = s.params; first = s.first; group = s.group }

-- the bytes of a raw picture
abbrev pub raw_size : Asked → ℕ
raw_size s = raw_length (frame_under s.parts)

-- ---- behind n pictures

-- the units of the stream, by their lengths
abbrev pub shapes_at : Asked → ℕ → List UnitShape
shapes_at s zero = plain_shape 0 (header_length s.parts) ∷ []
shapes_at s (suc n) =
    shapes_at s n ++ due_shapes s.parts s.params (begins_at s.group n) (total_length (shapes_at s n))

-- the bytes of the stream
abbrev pub stream_place : Asked → ℕ → ℕ
stream_place s n = total_length (shapes_at s n)

-- the length of the last unit
abbrev pub previous_at : Asked → ℕ → ℕ
previous_at s n = last_length 0 (shapes_at s n)

-- the next picture's number
abbrev pub number_of_next : Asked → ℕ → ℕ
number_of_next s n = (s.first + n) % 2 ^ 32

-- the units that are due with the next picture, whose slices are these
abbrev pub units_at : Asked → ℕ → List (List ℕ) → List ℕ
units_at s n slices = units_with s.parts s.params (begins_at s.group n) (previous_at s n) (number_of_next s n) slices

-- the bytes of the stream behind these units
abbrev pub place_due : Asked → ℕ → ℕ
place_due s n = stream_place s n + head_bytes_before s.parts (begins_at s.group n) + unit_length s.params

-- they and the last end fit before the limit
abbrev pub has_room : Asked → ℕ → Bool
has_room s n = nat_le (place_due s n + HEAD_SIZE) limit

-- the least schedule of units that end at this place and the end unit behind them
abbrev pub ended_plan : Asked → List UnitShape → ℕ → Schedule
ended_plan s units place = plan_of (shapes_in (units ++ plain_shape place HEAD_SIZE ∷ []) (place + HEAD_SIZE)) s.rate s.idle

-- the pictures are fields, and the last frame has only one
abbrev pub is_half : ℕ → ℕ → Bool
is_half coding n = coding == 1 && n % 2 == 1

-- ---- the machine

-- a refusal at a place of the raw video
abbrev pub refused_at : ℕ → Reason → Ending
refused_at place reason = Refused (record { place = place; reason = reason })

-- the end of the input at this place: half a frame is refused there
abbrev pub ended_at : (half : Bool) (place : ℕ) → Schedule → Ending
ended_at half place schedule = if half then refused_at place HalfFrame else Done (Encoded schedule)

-- and what is written last, behind a unit of so many bytes
abbrev pub last_text : (half : Bool) (previous : ℕ) → List ℕ
last_text half previous = if half then [] else end_unit previous

-- there is no next picture
abbrev pub told_of_front : RawFront → Ending
told_of_front (LargeAt place) = refused_at place SampleTooLarge
told_of_front (CutAt place) = refused_at place RawTruncated
told_of_front other = refused_at limit StreamTooLong

-- The first unit is written before anything is read; the command's own is the number of pictures. A picture is read whole
-- before the stream's length is asked.
abbrev pub encoding : Asked → PictureCommand ℕ Ending
encoding s = record {
  opening = header_unit s.parts;
  start = 0;
  next = λ n p. n + 1;
  text = λ n p. units_at s n (slices_of (frame_under s.parts) s.params p);
  stops = λ place n. if has_room s n then None else Some (refused_at place StreamTooLong);
  finished = λ place n. ended_at (is_half s.parts.coding n) place (ended_plan s (shapes_at s n) (stream_place s n));
  last = λ place n. last_text (is_half s.parts.coding n) (previous_at s n);
  refused = told_of_front;
  endless = Done Nothing;
}

-- encode over raw pictures
abbrev pub encode_machine : Asked → Machine (BehindPictures ℕ) Ending
encode_machine s = picture_machine (frame_under s.parts) (encoding s)

-- ---- for the code

-- what is told where there is no next picture
abbrev pub told_of_fault : RawFault → Result Ending Halt
told_of_fault (faults.SampleTooLarge place) = Ok (refused_at place SampleTooLarge)
told_of_fault (faults.RawTruncated place) = Ok (refused_at place RawTruncated)
told_of_fault faults.TooLong = Ok (refused_at limit StreamTooLong)
told_of_fault faults.ReadFault = Err halts.ReadFault

-- what is told where the unit of the picture at this place isn't written
abbrev pub told_of_stop : ℕ → WriteStop → Result Ending Halt
told_of_stop place stops.StreamTooLong = Ok (refused_at place StreamTooLong)
told_of_stop place stops.OutFault = Err halts.OutFault
told_of_stop place stops.MatrixTooSteep = Err halts.NoMemory
told_of_stop place stops.NoMemory = Err halts.NoMemory
