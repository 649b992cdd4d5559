-- The command `proxy`: each picture's proxy, and at the end the note of `decode`.
use Rattle.std.specs.Prelude.{◌≡◌, ◌≤◌, ℕ, ◌+◌, List, [], length}
use Rattle.slice_geometry.specs.declared.PictureShape.{PictureShape}
use Rattle.slice_geometry.specs.Frames.{frame_of}
use Rattle.transform_params.specs.Params.{Params}
use Rattle.raw_video.specs.RawText.{raw_text}
use Rattle.run_theory.specs.Walk.{Machine}
use Rattle.run_theory.specs.Fronts.{Between, Command, machine_of}
use Rattle.stream_rows.specs.declared.reason.Reason.{Reason}
use Rattle.stream_rows.specs.Units.{Past, nothing_yet, DataUnit, Sequence, Repeated, Picture, Skipped, End, units}
use Rattle.stream_rows.specs.Streams.{limit, past_limit, refusal_of, frame_under}
use Rattle.stream_reader.specs.StreamTable.{StreamTableSeen}
use Rattle.proxy_picture.specs.Proxy.{proxy_frame, proxy_picture}
use Rattle.proxy_picture.specs.Making.{ProxyDecoderSeen}
use Rattle.vc2_cli.specs.Decode.{unit_pictures, KeepsPictures}
use Rattle.vc2_cli.specs.Endings.{plain_close}
use Rattle.vc2_cli.specs.declared.status.Ending.{Ending}
use Rattle.vc2_cli.specs.declared.status.Ending.TheVariants.{Done, Refused}
use Rattle.vc2_cli.specs.declared.status.Note.TheVariants.{Nothing, Decoded}

-- the level that is asked for, and the pictures so far
pub record Proxied : Type 0 where
  pub level : ℕ
  pub pictures : ℕ

-- no picture so far
abbrev pub nothing_proxied : ℕ → Proxied
nothing_proxied level = record { level = level; pictures = 0 }

-- the raw text of the proxy of a unit's picture, if it has one
abbrev pub proxy_text : ℕ → DataUnit → List ℕ
proxy_text level (Sequence parts) = []
proxy_text level Repeated = []
proxy_text level (Picture parts number params slices) =
    raw_text (proxy_frame (frame_under parts) params level) (proxy_picture (frame_under parts) params level slices)
proxy_text level Skipped = []
proxy_text level End = []

-- `decode` with the proxies of its pictures
abbrev pub proxying : ℕ → Command Past Reason DataUnit Proxied Ending
proxying level = record {
  opening = [];
  start = nothing_proxied level;
  next = λ z own unit bytes. record { level = own.level; pictures = own.pictures + unit_pictures unit };
  text = λ z own unit bytes. proxy_text own.level unit;
  finished = λ z own unit bytes. plain_close (Done (Decoded own.pictures (z.place + length bytes)));
  rested = λ z own. plain_close (Done Nothing);
  refused = λ z own fault. plain_close (Refused (refusal_of fault));
  endless = Done Nothing;
}

-- proxy over the units of a stream
abbrev pub proxy_machine : ℕ → Machine (Between Past Proxied) Ending
proxy_machine level = machine_of limit past_limit units nothing_yet (proxying level)

-- ---- for the code

-- the levels of a unit's picture, if it has one
abbrev pub levels_in : DataUnit → ℕ
levels_in (Picture parts number params slices) = params.slicing.depth
levels_in (Sequence parts) = 0
levels_in Repeated = 0
levels_in Skipped = 0
levels_in End = 0

-- the command but for its level, which what it begins with has
abbrev pub proxying_any : Command Past Reason DataUnit Proxied Ending
proxying_any = proxying 0

-- a maker of the proxies of pictures of this shape and with these parameters
pub record MakesProxiesOf (shape : PictureShape) (params : Params) (level : ℕ) (d : ProxyDecoderSeen) : Type 0 where
  pub frame : frame_of d.shape ≡ frame_of shape
  pub params_are : d.params ≡ params
  pub level_is : d.level ≡ level

-- where all levels are asked for: no more pictures than bytes
pub record KeepsWhole (level pictures : ℕ) (table : StreamTableSeen) : Type 0 where
  pub all : 4 ≤ level
  pub keeps : KeepsPictures pictures table
