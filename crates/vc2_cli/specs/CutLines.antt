-- The line that `cut` tells is the least schedule of the units that it writes.
use Rattle.std.specs.Prelude.{◌≡◌, ℕ, List, length, Ok}
use Rattle.slice_geometry.specs.UnitLengths.{UnitShapesSeen}
use Rattle.channel_schedule.specs.Rates.{IsRate}
use Rattle.channel_schedule.specs.Plans.{IsPlan, plan_delay, plan_size}
use Rattle.stream_rows.specs.Streams.{Entry}
use Rattle.stream_cut.specs.Skim.{IsSkimStream}
use Rattle.stream_cut.specs.Cut.{Piece, cut_of}
use Rattle.stream_cut.specs.CutLaws.{HasPieces, shapes_of_cut}
use Rattle.vc2_words.specs.declared.settings.CutSettings.{CutSettings}
use Rattle.vc2_words.specs.Commands.{cut}
use Rattle.vc2_cli.specs.Scheduled.{shapes_in}
use Rattle.vc2_cli.specs.Cut.{frames_asked}
use Rattle.vc2_cli.specs.Reply.{command_reply}
use Rattle.vc2_cli.specs.CutReplies.{cut_reply}
use Rattle.vc2_cli.specs.StreamReplies.{AreBytes}

-- the units of a cut by their lengths
abbrev pub shapes_cut : CutSettings → List Piece → UnitShapesSeen
shapes_cut c pieces = shapes_in (shapes_of_cut (frames_asked c) pieces) (length (cut_of (frames_asked c) pieces))

-- The cut of these units is written, and the line with it is the least with which they run.
pub record CutsByLeast (c : CutSettings) (bytes : List ℕ) (es : List Entry) (last : Entry) : Type 0 where
  pub units : HasPieces bytes es last
  pub reply : command_reply (Ok (cut c)) bytes ≡ cut_reply c units.pieces
  pub plan : (let seen = shapes_cut c units.pieces in IsPlan seen c.rate c.idle (plan_delay seen c.rate c.idle) (plan_size seen c.rate c.idle))

abbrev pub CutLinesAreLeast : CutSettings → List ℕ → Type 0
CutLinesAreLeast c bytes = (es : List Entry) (last : Entry) → AreBytes bytes → IsRate c.rate → IsSkimStream bytes es last → CutsByLeast c bytes es last
