use Rattle.std.proofs.Common.{◌≡◌, ◌≤◌, ◌-◌, ◌^◌, false}
use Rattle.slice_geometry.specs.Frames.{frame_of}
use Rattle.raw_video.specs.PictureRuns.{Goes}
use Rattle.field_weave.specs.WeaveRuns.{weaving, kept_first}
use Rattle.field_weave.proofs.weaver.weave_fields.Given as goal

abbrev pub invariant-fields : goal.invariant-fields
invariant-fields g l =
    let rest = g.S.Source.rest in
    let written = g.K.Sink.written in
    let f = frame_of l.fn.field.shape in
    record {
      unrefused : l.reader.refused ≡ false;
      shape : l.reader.shape ≡ l.field.shape;
      field_shape : l.field.shape ≡ l.fn.field.shape;
      first_shape : l.first.shape ≡ l.fn.first.shape;
      few : l.frames ≤ l.reader.place;
      goes : Goes f (weaving l.order f) (record { place = l.reader.place; own = record { frames = l.frames; first = kept_first l.begun l.first.samples } }) (rest l.fn.src) (rest l.src) (written l.fn.out) (written l.out);
      steady : g.S.Source.faults l.src ≡ g.S.Source.faults l.fn.src;
      steady_out : g.K.Sink.faults l.out ≡ g.K.Sink.faults l.fn.out;
    }

abbrev pub decreases-fields : goal.decreases-fields
decreases-fields g l = 2 ^ 40 - l.reader.place
