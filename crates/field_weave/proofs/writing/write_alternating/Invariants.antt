use Rattle.std.proofs.Common.{◌≡◌, ◌*◌, take}
use Rattle.slice_geometry.specs.Frames.{frame_of}
use Rattle.picture_codec.specs.Pictures.{size_of}
use Rattle.picture_codec.specs.Samples.{component_shown}
use Rattle.raw_video.specs.RawText.{text_of}
use Rattle.raw_video.specs.Waiting.{PassesOn}
use Rattle.field_weave.specs.declared.Order.TheVariants.{Bottom}
use Rattle.field_weave.specs.Weaving.{woven_lines}
use Rattle.field_weave.proofs.writing.write_alternating.Given as goal

abbrev pub invariant-loop-y : goal.invariant-loop-y
invariant-loop-y g l =
    let written = g.K.Sink.written in
    let size = size_of (frame_of l.upper.shape) l.fn.c in
    record {
      wide : l.writer.wide ≡ l.fn.writer.wide;
      passed : PassesOn (written l.fn.out) (written l.out) l.fn.writer.waiting l.writer.waiting (text_of l.fn.writer.wide (take (2 * l.y * size.w) (woven_lines Bottom size (component_shown l.lower l.fn.c) (component_shown l.upper l.fn.c)).cells));
      steady : g.K.Sink.faults l.out ≡ g.K.Sink.faults l.fn.out;
    }
