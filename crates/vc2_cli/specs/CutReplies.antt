-- What `cut` replies to a skimmed stream, and to an input that is refused. A skimmed stream is one whose slices are bytes alone.
use Rattle.std.specs.Prelude.{◌≡◌, ℕ, List, [], ◌++◌, length, Ok}
use Rattle.field_rows.specs.Rows.{Fault}
use Rattle.run_theory.specs.Fronts.{Finishes, Refuses, front_within}
use Rattle.channel_schedule.specs.Plans.{plan_of}
use Rattle.stream_rows.specs.declared.reason.Reason.{Reason}
use Rattle.stream_rows.specs.Refusals.{Refusal}
use Rattle.stream_rows.specs.Units.{Past, DataUnit}
use Rattle.stream_rows.specs.Streams.{Entry, limit, past_limit, refusal_of}
use Rattle.stream_cut.specs.Skim.{skim_grammar, IsSkimStream, IsSkimRefusal}
use Rattle.stream_cut.specs.Cut.{Piece, cut_front, cut_of}
use Rattle.stream_cut.specs.CutLaws.{HasPieces, HasPiecesBefore, piece_bytes, shapes_of_cut}
use Rattle.vc2_words.specs.declared.settings.CutSettings.{CutSettings}
use Rattle.vc2_words.specs.Commands.{cut}
use Rattle.vc2_cli.specs.declared.status.Status.TheVariants as status
use Rattle.vc2_cli.specs.Texts.{schedule_line}
use Rattle.vc2_cli.specs.Scheduled.{shapes_in}
use Rattle.vc2_cli.specs.Cut.{frames_asked}
use Rattle.vc2_cli.specs.Reply.{Reply, command_reply}
use Rattle.vc2_cli.specs.StreamReplies.{refused_reply}

-- the line of the least schedule with which the cut of these units runs
abbrev pub cut_line : CutSettings → List Piece → List ℕ
cut_line c pieces = schedule_line (plan_of (shapes_in (shapes_of_cut (frames_asked c) pieces)
    (length (cut_of (frames_asked c) pieces))) c.rate c.idle)

-- a stream of these units and an end: its cut, and that line
abbrev pub cut_reply : CutSettings → List Piece → Reply
cut_reply c pieces = record { status = status.Done; rest = []; out = cut_of (frames_asked c) pieces; note = cut_line c pieces }

-- These units stand in front of the tail, and leave this. Where the tail is a unit that ends the stream, the cut is written;
-- where it is refused, what is settled by the units before it.
pub record HasCutReply (c : CutSettings) (pieces : List Piece) (tail : List ℕ) (left : Past) : Type 0 where
  pub stream : (unit : DataUnit) → front_within limit past_limit skim_grammar left tail ≡ Finishes (length tail) unit
      → command_reply (Ok (cut c)) (piece_bytes pieces ++ tail) ≡ cut_reply c pieces
  pub refusal : (fault : Fault Reason) → front_within limit past_limit skim_grammar left tail ≡ Refuses fault
      → command_reply (Ok (cut c)) (piece_bytes pieces ++ tail) ≡ refused_reply (cut_front (frames_asked c) pieces) (refusal_of fault)

-- A skimmed stream has units with their bytes, and their cut is written.
abbrev pub IsCutWhole : CutSettings → List ℕ → Type 0
IsCutWhole c bytes = (es : List Entry) (last : Entry) → IsSkimStream bytes es last → (units : HasPieces bytes es last)
    → command_reply (Ok (cut c)) bytes ≡ cut_reply c units.pieces

-- A refusal has units with their bytes before it, and what these settle is written.
abbrev pub IsCutRefused : CutSettings → List ℕ → Type 0
IsCutRefused c bytes = (refusal : Refusal) → (r : IsSkimRefusal bytes refusal) → (units : HasPiecesBefore bytes r.units r.fault)
    × (command_reply (Ok (cut c)) bytes ≡ refused_reply (cut_front (frames_asked c) units.pieces) refusal)
