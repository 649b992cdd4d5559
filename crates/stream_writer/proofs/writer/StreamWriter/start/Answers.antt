use Rattle.std.proofs.Common.{◌∷◌, [], Err, ap, subst, ◌∙◌}
use Rattle.std.specs.Io.KnownBytes.{Appends}
use Rattle.transform_params.specs.Views.{params_of}
use Rattle.stream_writer.specs.EncodedStream.{Settings, header_unit, header_length}
use Rattle.stream_writer.specs.Writer.{StreamWriterSeen, Wrote, plain_shape}
use Rattle.stream_writer.proofs.StartOfWriter.{stopped_starts, stopped_cause}
use Rattle.stream_writer.proofs.writer.StreamWriter.start.Goals as goal

pub returns-in-Ok-clause-starts : goal.returns-in-Ok-clause-starts
returns-in-Ok-clause-starts g c =
    let out0 = g.K.Sink.written c.args.sink.now in
    let out1 = g.K.Sink.written c.begin.new.sink in
    let ready = c.in_ok-writer.ensures in (
      c.in-Ok.ensures.after ∙ ap (λ (w : StreamWriterSeen). record w { shapes = plain_shape 0 (header_length w.settings.parts) ∷ [] }) ready.0,
      ready.1,
      subst (λ (w : StreamWriterSeen). Appends out0 out1 (header_unit w.settings.parts)) ready.0 c.in-Ok.ensures.wrote,
    )

pub returns-in-Err-clause-starts : goal.returns-in-Err-clause-starts
returns-in-Err-clause-starts g c =
    let s : Settings = record { parts = c.args.header.now; params = params_of c.args.params.now; first = c.args.first; group = c.args.group } in
    let out0 = g.K.Sink.written c.args.sink.now in
    let out1 = g.K.Sink.written c.begin.new.sink in
    let ready = c.in_ok-writer.ensures in
    stopped_starts s out0 out1 c.in-Err.stop ready.1 (subst (λ (w : StreamWriterSeen). Wrote (header_unit w.settings.parts) out0 out1 (Err c.in-Err.stop)) ready.0 c.in-Err.ensures.wrote) c.in-Err.ensures.why

pub returns-in-Err-clause-cause : goal.returns-in-Err-clause-cause
returns-in-Err-clause-cause g c = stopped_cause (g.K.Sink.faults c.args.sink.now) (g.K.Sink.faults c.begin.new.sink) c.in-Err.stop c.in-Err.ensures.cause
