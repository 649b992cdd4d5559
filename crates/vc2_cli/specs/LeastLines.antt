-- The line that `encode` tells is the least schedule of its stream, and that of every longer film.
use Rattle.std.specs.Prelude.{◌≡◌, ◌≢◌, ◌≤◌, ◌<◌, ◌+◌, ℕ, List, length, None, Some, Ok}
use Rattle.slice_geometry.specs.Slicing.{slice_count}
use Rattle.transform_params.specs.ParameterFields.{unit_length}
use Rattle.picture_codec.specs.Samples.{PictureSamples}
use Rattle.channel_schedule.specs.declared.schedule.Schedule.{Schedule}
use Rattle.vc2_words.specs.Settings.{Asked}
use Rattle.vc2_words.specs.Commands.{check}
use Rattle.vc2_cli.specs.declared.status.Status.TheVariants as status
use Rattle.vc2_cli.specs.Reply.{command_reply}
use Rattle.vc2_cli.specs.WholePictures.{stream_of, plan_for}
use Rattle.vc2_cli.specs.EncodeReply.{AreSettings, MayBeWritten}

-- `check` of the stream with a schedule at the same rate doesn't say that it runs
abbrev pub RunsNot : Asked → List PictureSamples → (delay size : ℕ) → Type 0
RunsNot s pictures delay size =
    let schedule : Schedule = record { rate = s.rate; delay = delay; size = size; idle = s.idle } in
    (command_reply (Ok (check (Some schedule))) (stream_of s pictures)).status ≢ status.Done

-- No smaller delay runs with any buffer, and with the delay that is told no smaller buffer does.
pub record IsLeastLine (s : Asked) (pictures : List PictureSamples) : Type 0 where
  pub no_delay : (delay size : ℕ) → delay < (plan_for s pictures).delay → RunsNot s pictures delay size
  pub no_size : (size : ℕ) → size < (plan_for s pictures).size → RunsNot s pictures (plan_for s pictures).delay size

-- Of whole pictures `encode` tells such a line.
abbrev pub TheLineIsLeast : Asked → List PictureSamples → Type 0
TheLineIsLeast s pictures = AreSettings s → MayBeWritten s pictures → IsLeastLine s pictures

-- no rate and no group was given
pub record IsUsual (s : Asked) : Type 0 where
  pub one : s.group ≡ None
  pub rate : s.rate ≡ record { num = unit_length s.params; den = slice_count s.params.slicing + s.idle }

-- Of any two films of at least two pictures `encode` tells the same schedule.
abbrev pub TheLineIsKnown : Asked → Type 0
TheLineIsKnown s = AreSettings s → IsUsual s → (pictures others : List PictureSamples) → 2 ≤ length pictures → 2 ≤ length others
    → plan_for s pictures ≡ plan_for s others
