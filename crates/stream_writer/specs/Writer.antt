-- A writer of a stream to any sink.
use Rattle.std.specs.Prelude.{◌≡◌, ◌≤◌, ℕ, ◌+◌, ◌%◌, ◌^◌, Bool, true, false, nat_lt, if◌then◌else◌, List, [], ◌∷◌, ◌++◌, max, Option, Some, None, Result, Ok, Err}
use Rattle.parse_info.specs.declared.TheConstants.{HEAD_SIZE}
use Rattle.std.specs.Io.KnownBytes.{Appends}
use Rattle.vc2_io.specs.Outside.{Rose, GrewShort}
use Rattle.sequence_header.specs.declared.parts.HeaderParts.{HeaderParts}
use Rattle.sequence_header.specs.Coding.{luma_depth, colour_depth}
use Rattle.slice_encoder.specs.TrialLaws.{IsSteepOk}
use Rattle.slice_geometry.specs.declared.unit_list.UnitShape.{UnitShape}
use Rattle.slice_geometry.specs.UnitLengths as shapes
use Rattle.slice_geometry.specs.Slicing.{slice_count}
use Rattle.transform_params.specs.Params.{Params}
use Rattle.transform_params.specs.ParameterFields.{byte_length, unit_length}
use Rattle.stream_writer.specs.declared.write_stop.WriteStop.{WriteStop}
use Rattle.stream_writer.specs.declared.write_stop.WriteStop.TheVariants as stops
use Rattle.stream_rows.specs.Streams.{limit}
use Rattle.stream_writer.specs.EncodedStream.{Settings, begins_at, header_length, header_unit, end_unit, units_with}

-- What is seen of a writer: what it writes under, the units so far by their lengths, whether the stream was ended, and
-- the stop that it keeps.
pub record StreamWriterSeen : Type 0 where
  pub settings : Settings
  pub shapes : List UnitShape
  pub ended : Bool
  pub stop : Option WriteStop

-- ---- the units so far

-- their bytes
abbrev pub total_length : List UnitShape → ℕ
total_length [] = 0
total_length (u ∷ units) = shapes.shape_length u + total_length units

-- how many of them have slices
abbrev pub pictures_among : List UnitShape → ℕ
pictures_among [] = 0
pictures_among (u ∷ units) = (if nat_lt 0 u.slices then 1 else 0) + pictures_among units

-- the length of the last one, and 0 before the first
abbrev pub last_length : ℕ → List UnitShape → ℕ
last_length before [] = before
last_length before (u ∷ units) = last_length (shapes.shape_length u) units

-- the number of the next picture
abbrev pub next_number : StreamWriterSeen → ℕ
next_number w = (w.settings.first + pictures_among w.shapes) % 2 ^ 32

-- the place of the next unit
abbrev pub next_place : StreamWriterSeen → ℕ
next_place w = total_length w.shapes

-- the length of the last unit, 0 where none is
abbrev pub next_previous : StreamWriterSeen → ℕ
next_previous w = last_length 0 w.shapes

-- the position of the next picture
abbrev pub next_position : StreamWriterSeen → ℕ
next_position w = pictures_among w.shapes

-- a new sequence begins with the next picture
abbrev pub begins_next : StreamWriterSeen → Bool
begins_next w = begins_at w.settings.group (next_position w)

-- ---- the shapes of units

-- a unit without slices
abbrev pub plain_shape : ℕ → ℕ → UnitShape
plain_shape start size = record { start = start; head = size; slices = 0; a = 1; b = 1 }

-- a picture's unit: 13 bytes of head, 4 of number, the parameters, and the slices
abbrev pub picture_shape : Params → ℕ → UnitShape
picture_shape p start =
    record { start = start; head = 17 + byte_length p; slices = slice_count p.slicing; a = p.slicing.a; b = p.slicing.b }

-- ---- what the calls leave

-- a writer that wrote the sequence header
abbrev pub writer_begun : Settings → StreamWriterSeen
writer_begun s = record { settings = s; shapes = plain_shape 0 (header_length s.parts) ∷ []; ended = false; stop = None }

-- before a picture's unit, by whether a new sequence begins with it, from a place on: an end and a header
abbrev pub shapes_before : HeaderParts → Bool → ℕ → List UnitShape
shapes_before parts begins place = if begins
    then plain_shape place HEAD_SIZE ∷ plain_shape (place + HEAD_SIZE) (header_length parts) ∷ [] else []

-- their bytes
abbrev pub head_bytes_before : HeaderParts → Bool → ℕ
head_bytes_before parts begins = if begins then HEAD_SIZE + header_length parts else 0

-- the shapes of the units that are due with a picture
abbrev pub due_shapes : HeaderParts → Params → Bool → ℕ → List UnitShape
due_shapes parts p begins place = shapes_before parts begins place ++ picture_shape p (place + head_bytes_before parts begins) ∷ []

-- the writer behind a picture
abbrev pub after_picture : StreamWriterSeen → StreamWriterSeen
after_picture w = record w {
  shapes = w.shapes ++ due_shapes w.settings.parts w.settings.params (begins_next w) (next_place w);
}

-- the units that are due with the next picture, whose slices are these
abbrev pub due_units : StreamWriterSeen → List (List ℕ) → List ℕ
due_units w slices =
    units_with w.settings.parts w.settings.params (begins_next w) (next_previous w) (next_number w) slices

-- the writer behind the end
abbrev pub after_end : StreamWriterSeen → StreamWriterSeen
after_end w = record w { shapes = w.shapes ++ plain_shape (next_place w) HEAD_SIZE ∷ []; ended = true }

-- the writer behind a stop
abbrev pub writer_stopped : StreamWriterSeen → WriteStop → StreamWriterSeen
writer_stopped w stop = record w { stop = Some stop }

-- units were written whole, or a proper front of them went out, or nothing
abbrev pub Wrote : List ℕ → Option (List ℕ) → Option (List ℕ) → Result (Unit {0}) WriteStop → Type 0
Wrote unit out0 out1 (Ok x) = Appends out0 out1 unit
Wrote unit out0 out1 (Err stops.OutFault) = GrewShort out0 out1 unit
Wrote unit out0 out1 (Err other) = out1 ≡ out0

-- what is left of a writer that keeps no stop
abbrev pub leaves : StreamWriterSeen → StreamWriterSeen → Result (Unit {0}) WriteStop → StreamWriterSeen
leaves old next (Ok x) = next
leaves old next (Err stop) = writer_stopped old stop

-- the units that are due with the next picture, and the last end, fit before the limit
abbrev pub HasRoom : StreamWriterSeen → Type 0
HasRoom w =
    next_place w + head_bytes_before w.settings.parts (begins_next w) + unit_length w.settings.params + HEAD_SIZE ≤ limit

-- why a picture isn't written: without room for it and the end it never is, and with room only a write or memory fails
abbrev pub PictureStops : StreamWriterSeen → Result (Unit {0}) WriteStop → Type 0
PictureStops w (Err stops.StreamTooLong) = HasRoom w → ⊥
PictureStops w (Err stops.MatrixTooSteep) = ⊥
PictureStops w other = HasRoom w

-- the end always fits
abbrev pub EndStops : Result (Unit {0}) WriteStop → Type 0
EndStops (Err stops.StreamTooLong) = ⊥
EndStops (Err stops.MatrixTooSteep) = ⊥
EndStops other = Unit {0}

-- How a picture whose slices are these came out, of a writer that keeps no stop.
pub record WritesPicture (old new : StreamWriterSeen) (slices : List (List ℕ)) (out0 out1 : Option (List ℕ))
    (result : Result (Unit {0}) WriteStop) : Type 0 where
  pub wrote : Wrote (due_units old slices) out0 out1 result
  pub after : new ≡ leaves old (after_picture old) result
  pub why : PictureStops old result

-- How the end came out.
pub record WritesEnd (old new : StreamWriterSeen) (out0 out1 : Option (List ℕ)) (result : Result (Unit {0}) WriteStop) : Type 0 where
  pub wrote : Wrote (end_unit (next_previous old)) out0 out1 result
  pub after : new ≡ leaves old (after_end old) result
  pub why : EndStops result

-- the matrix leaves index 127 coarse enough for every picture of the header's shape
abbrev pub IsSteepOkUnder : Settings → Type 0
IsSteepOkUnder s = IsSteepOk s.params.slicing.depth (max (luma_depth s.parts) (colour_depth s.parts)) s.params.matrix

-- How a start came out: too steep exactly where the matrix is, and else want of memory alone is free.
abbrev pub Starts : Settings → Option (List ℕ) → Option (List ℕ) → Result StreamWriterSeen WriteStop → Type 0
Starts s out0 out1 (Ok w) = (w ≡ writer_begun s) × IsSteepOkUnder s × Appends out0 out1 (header_unit s.parts)
Starts s out0 out1 (Err stops.OutFault) = IsSteepOkUnder s × GrewShort out0 out1 (header_unit s.parts)
Starts s out0 out1 (Err stops.MatrixTooSteep) = (IsSteepOkUnder s → ⊥) × (out1 ≡ out0)
Starts s out0 out1 (Err stops.NoMemory) = IsSteepOkUnder s × (out1 ≡ out0)
Starts s out0 out1 (Err stops.StreamTooLong) = ⊥

-- a failed write has its cause, and without one the count stands still
abbrev pub WriteCause : {X : Type 0} → ℕ → ℕ → Result X WriteStop → Type 0
WriteCause before now (Ok x) = now ≡ before
WriteCause before now (Err stops.OutFault) = (before ≤ now) × Rose before now
WriteCause before now (Err other) = now ≡ before

-- ---- all calls of a writer

-- what is written by a call for each of these pictures and then the end
abbrev pub texts_from : StreamWriterSeen → List (List (List ℕ)) → List ℕ
texts_from w [] = end_unit (next_previous w)
texts_from w (slices ∷ pictures) = due_units w slices ++ texts_from (after_picture w) pictures

-- each of them has room when its turn comes, as it has where its call answers Ok
abbrev pub HaveRoomInTurn : StreamWriterSeen → List (List (List ℕ)) → Type 0
HaveRoomInTurn w [] = Unit {0}
HaveRoomInTurn w (slices ∷ pictures) = HasRoom w × HaveRoomInTurn (after_picture w) pictures
