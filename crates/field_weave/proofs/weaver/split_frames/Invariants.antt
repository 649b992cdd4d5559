use Rattle.std.proofs.Common.{◌≡◌, ◌≤◌, ◌-◌, ◌^◌, false}
use Rattle.slice_geometry.specs.Frames.{frame_of}
use Rattle.field_weave.specs.Weaving.{frame_of_two}
use Rattle.raw_video.specs.PictureRuns.{Goes}
use Rattle.field_weave.specs.WeaveRuns.{splitting}
use Rattle.field_weave.proofs.weaver.split_frames.Given as goal

abbrev pub invariant-frames : goal.invariant-frames
invariant-frames g l =
    let rest = g.S.Source.rest in
    let written = g.K.Sink.written in
    let f = frame_of l.field in
    record {
      unrefused : l.reader.refused ≡ false;
      shape : l.reader.shape ≡ l.frame.shape;
      frame_shape : l.frame.shape ≡ l.fn.frame.shape;
      few : l.frames ≤ l.reader.place;
      goes : Goes (frame_of_two f) (splitting l.order f) (record { place = l.reader.place; own = l.frames }) (rest l.fn.src) (rest l.src) (written l.fn.out) (written l.out);
      steady : g.S.Source.faults l.src ≡ g.S.Source.faults l.fn.src;
      steady_out : g.K.Sink.faults l.out ≡ g.K.Sink.faults l.fn.out;
    }

abbrev pub decreases-frames : goal.decreases-frames
decreases-frames g l = 2 ^ 40 - l.reader.place
