use Rattle.std.proofs.Common.{ℕ, Result, sym, ap, subst, ◌∙◌}
use Rattle.slice_geometry.specs.Frames.{frame_of}
use Rattle.raw_video.specs.Reading.{RawReaderSeen}
use Rattle.run_theory.specs.declared.Halt.{Halt}
use Rattle.stream_rows.proofs.Frames.{frame_is}
use Rattle.vc2_words.specs.Shown.{shown}
use Rattle.vc2_cli.specs.declared.status.Ending.{Ending}
use Rattle.run_theory.specs.Runs.{Runs}
use Rattle.vc2_cli.specs.Endings.{IsDone}
use Rattle.vc2_cli.specs.Encode.{encode_machine}
use Rattle.vc2_cli.specs.EncodeTurn.{EncodeRuns}
use Rattle.run_theory.proofs.Closing.{runs_unbegun}
use Rattle.vc2_cli.proofs.EncodeReplies.{some_size, some_slices}
use Rattle.vc2_cli.proofs.EncodeTurns.{soon_unread, goes_first, runs_unopened}
use Rattle.vc2_cli.proofs.encode.encode.Goals as goal

pub returns-in-Err : goal.returns-in-Err
returns-in-Err g c =
    let e = shown c.args.settings.now in
    let rest = g.S.Source.rest c.args.src.now in
    record {
      runs = runs_unbegun (encode_machine e) IsDone rest (g.K.Sink.written c.args.out.now) (g.S.Source.faults c.args.src.now) (g.K.Sink.faults c.args.out.now);
      soon = soon_unread e (some_size e c.requires.lawful.header.passes) rest;
    }

pub returns-in-Ok-started : goal.returns-in-Ok-started
returns-in-Ok-started g c =
    let e = shown c.args.settings.now in
    let rest = g.S.Source.rest c.args.src.now in
    let out0 = g.K.Sink.written c.args.out.now in
    let new = c.encode_pictures-result.new in
    let some = some_size e c.requires.lawful.header.passes in
    let slices = some_slices e c.requires.lawful.params in
    let starts = c.in-Ok-started.ensures.starts in
    let shape = ap (λ (r : RawReaderSeen). frame_of r.shape) c.new-reader.ensures ∙ frame_is e.parts c.picture_shape-shape.result c.picture_shape-shape.ensures in
    let first = goes_first e rest out0 (g.K.Sink.written c.start-started.new.sink) c.new-reader.result c.in-Ok-started.writer some shape (ap (λ (r : RawReaderSeen). r.place) c.new-reader.ensures) (ap (λ (r : RawReaderSeen). r.refused) c.new-reader.ensures) starts.0 starts.2 in
    subst (λ (k : ℕ). EncodeRuns e (record { was = rest; is = g.S.Source.rest new.src; faults_were = g.S.Source.faults c.args.src.now; faults_are = g.S.Source.faults new.src })
    (record { was = out0; is = g.K.Sink.written new.out; faults_were = k; faults_are = g.K.Sink.faults new.out }) c.encode_pictures-result.result) c.in-Ok-started.ensures.cause
    (c.encode_pictures-result.ensures rest out0 some slices first)

pub returns : goal.returns
returns g c =
    let e = shown c.args.settings.now in
    let rest = g.S.Source.rest c.args.src.now in
    let out0 = g.K.Sink.written c.args.out.now in
    let out1 = g.K.Sink.written c.start-started.new.sink in
    let faults = g.S.Source.faults c.args.src.now in
    let to0 = g.K.Sink.faults c.args.out.now in
    let to1 = g.K.Sink.faults c.start-started.new.sink in
    record {
      runs = subst (λ (x : Result Ending Halt). Runs (encode_machine e) IsDone (record { was = rest; is = rest; faults_were = faults; faults_are = faults }) (record { was = out0; is = out1; faults_were = to0; faults_are = to1 }) x) (sym c.without_unit.ensures)
          (runs_unopened e rest out0 out1 faults to0 to1 c.in-Err-started.stop c.requires.steep c.in-Err-started.ensures.starts c.in-Err-started.ensures.cause);
      soon = soon_unread e (some_size e c.requires.lawful.header.passes) rest;
    }
