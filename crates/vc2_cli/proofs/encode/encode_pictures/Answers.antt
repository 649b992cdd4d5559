use Rattle.std.proofs.Common.{◌≡◌, Ok, Err, Result, refl, sym, ap, subst, ◌∙◌}
use Rattle.slice_geometry.specs.declared.PictureShape.{PictureShape}
use Rattle.slice_geometry.specs.Frames.{frame_of}
use Rattle.sequence_header.specs.Coding.{IsShapeOf}
use Rattle.raw_video.specs.Reading.{RawReaderSeen, ReadsFront, reader_after}
use Rattle.raw_video.specs.declared.reader.RawStep.{RawStep}
use Rattle.raw_video.specs.declared.reader.RawStep.TheVariants.{Picture, End}
use Rattle.run_theory.specs.declared.Halt.{Halt}
use Rattle.stream_writer.specs.Writer.{StreamWriterSeen}
use Rattle.vc2_words.specs.Shown.{shown}
use Rattle.vc2_cli.specs.declared.status.Ending.{Ending}
use Rattle.run_theory.specs.Runs.{Runs}
use Rattle.vc2_cli.specs.Endings.{IsDone}
use Rattle.vc2_cli.specs.Encode.{encode_machine}
use Rattle.vc2_cli.proofs.EncodeTurns.{at_place, goes_more, soon_read, soon_on, runs_closed, runs_refused, runs_stopped, runs_on}
use Rattle.vc2_cli.proofs.encode.encode_pictures.Goals as goal

pub returns-in-Ok-End : goal.returns-in-Ok-End
returns-in-Ok-End g c = λ rest out0 some slices first.
    let l = c.loop-turn in
    let i = l.invariant in
    let e = shown c.args.settings.now in
    let faults = g.S.Source.faults in
    let out_faults = g.K.Sink.faults in
    let r1 = g.S.Source.rest l.src in
    let r2 = g.S.Source.rest c.next.new.src in
    let o1 = g.K.Sink.written l.out in
    let p = c.next.new.picture.samples in
    let go = i.goes rest out0 some slices first in
    let front = at_place e l.turn rest r1 out0 o1 l.reader l.writer some go r2 p (Ok End) (subst (λ (s : RawStep). ReadsFront (frame_of l.reader.shape) l.reader.place r1 r2 p (Ok s)) c.in-Ok-End.field-0-is c.in-Ok-End.ensures.front) in
    record {
      runs = runs_closed e l.turn rest r1 out0 o1 l.reader l.writer some go r2 p front (g.K.Sink.written c.finish.new.out) l.turn c.place-place.result (faults c.args.src.now) (faults l.src) (faults c.next.new.src)
          (out_faults c.args.out.now) (out_faults l.out) (out_faults c.finish.new.out) c.finish.result refl c.place-place.ensures.value i.steady c.in-Ok-End.ensures.cause i.steady_out c.finish.ensures.closes c.finish.ensures.cause;
      soon = soon_read e l.turn rest r1 out0 o1 l.reader l.writer some go r2 p (Ok End) front;
    }

pub returns-in-Err : goal.returns-in-Err
returns-in-Err g c = λ rest out0 some slices first.
    let l = c.loop-turn in
    let i = l.invariant in
    let e = shown c.args.settings.now in
    let faults = g.S.Source.faults in
    let out_faults = g.K.Sink.faults in
    let r1 = g.S.Source.rest l.src in
    let r2 = g.S.Source.rest c.next.new.src in
    let o1 = g.K.Sink.written l.out in
    let p = c.next.new.picture.samples in
    let go = i.goes rest out0 some slices first in
    let front = at_place e l.turn rest r1 out0 o1 l.reader l.writer some go r2 p (Err c.in-Err.fault) c.in-Err.ensures.front in
    record {
      runs = subst (λ (x : Result Ending Halt). Runs (encode_machine e) IsDone (record { was = rest; is = r2; faults_were = faults c.args.src.now; faults_are = faults c.next.new.src })
          (record { was = out0; is = o1; faults_were = out_faults c.args.out.now; faults_are = out_faults l.out }) x) (sym c.without_picture.ensures)
          (runs_refused e l.turn rest r1 out0 o1 l.reader l.writer some go r2 p (faults c.args.src.now) (faults l.src) (faults c.next.new.src) (out_faults c.args.out.now) (out_faults l.out) c.in-Err.fault i.steady i.steady_out front c.in-Err.ensures.cause);
      soon = soon_read e l.turn rest r1 out0 o1 l.reader l.writer some go r2 p (Err c.in-Err.fault) front;
    }

pub returns-in-Err-picture : goal.returns-in-Err-picture
returns-in-Err-picture g c = λ rest out0 some slices first.
    let l = c.loop-turn in
    let i = l.invariant in
    let e = shown c.args.settings.now in
    let faults = g.S.Source.faults in
    let out_faults = g.K.Sink.faults in
    let r1 = g.S.Source.rest l.src in
    let r2 = g.S.Source.rest c.next.new.src in
    let o1 = g.K.Sink.written l.out in
    let o2 = g.K.Sink.written c.picture.new.sink in
    let p = c.next.new.picture.samples in
    let go = i.goes rest out0 some slices first in
    let front = at_place e l.turn rest r1 out0 o1 l.reader l.writer some go r2 p (Ok Picture) (subst (λ (s : RawStep). ReadsFront (frame_of l.reader.shape) l.reader.place r1 r2 p (Ok s)) c.in-Ok-Picture.field-0-is c.in-Ok-Picture.ensures.front) in
    record {
      runs = subst (λ (x : Result Ending Halt). Runs (encode_machine e) IsDone (record { was = rest; is = r2; faults_were = faults c.args.src.now; faults_are = faults c.next.new.src })
          (record { was = out0; is = o2; faults_were = out_faults c.args.out.now; faults_are = out_faults c.picture.new.sink }) x) (sym c.without_unit.ensures)
          (runs_stopped e l.turn rest r1 out0 o1 l.reader l.writer some go r2 p front o2 c.picture.new.self c.place-place.result (faults c.args.src.now) (faults l.src) (faults c.next.new.src)
          (out_faults c.args.out.now) (out_faults l.out) (out_faults c.picture.new.sink) c.in-Err-picture.stop slices c.place-place.ensures.value i.steady c.in-Ok-Picture.ensures.cause i.steady_out (c.in-Err-picture.ensures.picture i.going) (c.in-Err-picture.ensures.cause i.going));
      soon = soon_read e l.turn rest r1 out0 o1 l.reader l.writer some go r2 p (Ok Picture) front;
    }

pub loop-turn-preserved : goal.loop-turn-preserved
loop-turn-preserved g c =
    let l = c.loop-turn in
    let i = l.invariant in
    let e = shown c.args.settings.now in
    let r1 = g.S.Source.rest l.src in
    let r2 = g.S.Source.rest c.next.new.src in
    let o1 = g.K.Sink.written l.out in
    let o2 = g.K.Sink.written c.picture.new.sink in
    let p = c.next.new.picture.samples in
    let after : c.next.new.self ≡ reader_after l.reader (Ok Picture) = subst (λ (s : RawStep). c.next.new.self ≡ reader_after l.reader (Ok s)) c.in-Ok-Picture.field-0-is c.in-Ok-Picture.ensures.after in
    let wrote = c.in-Ok.ensures.picture i.going in
    record {
      unrefused = ap (λ (r : RawReaderSeen). r.refused) after ∙ i.unrefused;
      shape = ap (λ (r : RawReaderSeen). r.shape) after ∙ i.shape ∙ sym c.in-Ok-Picture.ensures.same_shape;
      pictures = subst (λ (w : StreamWriterSeen). IsShapeOf c.next.new.picture.shape w.settings.parts) (sym wrote.after) (subst (λ (s : PictureShape). IsShapeOf s l.writer.settings.parts) (sym c.in-Ok-Picture.ensures.same_shape) i.pictures);
      unended = ap (λ (w : StreamWriterSeen). w.ended) wrote.after ∙ i.unended;
      going = ap (λ (w : StreamWriterSeen). w.stop) wrote.after ∙ i.going;
      goes = λ rest out0 some slices first.
          let go = i.goes rest out0 some slices first in
          let front = at_place e l.turn rest r1 out0 o1 l.reader l.writer some go r2 p (Ok Picture) (subst (λ (s : RawStep). ReadsFront (frame_of l.reader.shape) l.reader.place r1 r2 p (Ok s)) c.in-Ok-Picture.field-0-is c.in-Ok-Picture.ensures.front) in
          goes_more e l.turn rest r1 out0 o1 l.reader l.writer some go r2 p front o2 c.next.new.self c.picture.new.self slices after wrote;
      steady = c.in-Ok-Picture.ensures.cause ∙ i.steady;
      steady_out = c.in-Ok.ensures.cause i.going ∙ i.steady_out;
    }

pub returns : goal.returns
returns g c = λ rest out0 some slices first.
    let l = c.loop-turn in
    let i = l.invariant in
    let go = i.goes rest out0 some slices first in
    record {
      runs = runs_on (shown c.args.settings.now) l.turn rest (g.S.Source.rest l.src) out0 (g.K.Sink.written l.out) l.reader l.writer some go (g.S.Source.faults c.args.src.now) (g.S.Source.faults l.src) (g.K.Sink.faults c.args.out.now) (g.K.Sink.faults l.out) i.steady i.steady_out;
      soon = soon_on (shown c.args.settings.now) l.turn rest (g.S.Source.rest l.src) out0 (g.K.Sink.written l.out) l.reader l.writer some go;
    }
