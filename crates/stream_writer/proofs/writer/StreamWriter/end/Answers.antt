use Rattle.std.proofs.Common.{◌≡◌, [], ◌∷◌, ◌++◌, true, Some, Ok, Err, ap, subst, ◌∙◌, arith}
use Rattle.std.specs.Io.KnownBytes.{Appends}
use Rattle.std.proofs.lemmas.Grind.{common_steps}
use Rattle.slice_geometry.specs.UnitLengths as shapes
use Rattle.vc2_io.specs.Outside.{GrewShort}
use Rattle.stream_writer.specs.declared.write_stop.WriteStop.TheVariants.{OutFault}
use Rattle.stream_writer.specs.EncodedStream.{end_unit}
use Rattle.stream_writer.specs.Writer.{StreamWriterSeen, WritesEnd, plain_shape, total_length}
use Rattle.stream_writer.proofs.WrittenShapes.{sound_plain}
use Rattle.stream_writer.proofs.writer.StreamWriter.end.Goals as goal

pub invariant_of-self-2 : goal.invariant_of-self-2
invariant_of-self-2 g c =
    sound_plain c.self.inside.first c.self.inside.number c.self.inside.position 13 c.self.inside.chain c.step.new.self c.self.inside.shapes c.push.new.self c.self.inside.stop c.self.inside.ended true c.self.invariant
    (c.push.ensures.units ∙ ap (λ l. l ++ c.plain_shape.result ∷ []) c.reserve.ensures.units ∙ ap (λ u. c.self.inside.shapes.units ++ u ∷ []) c.plain_shape.ensures ∙ ap (λ n. c.self.inside.shapes.units ++ plain_shape n 13 ∷ []) (c.place.ensures.value ∙ c.self.invariant.place))
    (omega (arith, c.push.ensures.total, c.reserve.ensures.total, ap (λ u. shapes.shape_length u) c.plain_shape.ensures))
    c.step.ensures
    (λ e. absurd cc)

pub returns-clause-end : goal.returns-clause-end
returns-clause-end g c no_stop =
    let out0 = g.K.Sink.written c.args.sink.now in
    let out1 = g.K.Sink.written c.write_whole.new.sink in
    let old : StreamWriterSeen = record { settings = record { parts = c.self.inside.due.parts; params = c.self.inside.due.params; first = c.self.inside.first; group = c.self.inside.group }; shapes = c.self.inside.shapes.units; ended = c.self.inside.ended; stop = c.self.inside.stop } in
    let new : StreamWriterSeen = record { settings = record { parts = c.self.inside.due.parts; params = c.self.inside.due.params; first = c.self.inside.first; group = c.self.inside.group }; shapes = c.push.new.self.units; ended = true; stop = c.self.inside.stop } in
    let list : c.push.new.self.units ≡ c.self.inside.shapes.units ++ plain_shape (total_length c.self.inside.shapes.units) 13 ∷ [] =
    c.push.ensures.units ∙ ap (λ l. l ++ c.plain_shape.result ∷ []) c.reserve.ensures.units ∙ ap (λ u. c.self.inside.shapes.units ++ u ∷ []) c.plain_shape.ensures
    ∙ ap (λ n. c.self.inside.shapes.units ++ plain_shape n 13 ∷ []) (c.place.ensures.value ∙ c.self.invariant.place ∙ c.self.invariant.total) in
    let unit : c.end_unit-unit.result ≡ end_unit c.self.inside.chain.previous = c.end_unit-unit.ensures ∙ ap end_unit c.previous.ensures in
    let here : WritesEnd old new out0 out1 (Ok tt) = record {
      wrote = subst (λ l. Appends out0 out1 l) (unit ∙ ap end_unit c.self.invariant.previous) c.in-Ok.ensures.ok;
      after = ap (λ l. record new { shapes = l }) list;
      why = tt;
    } in
    subst (λ w. WritesEnd w new out0 out1 (Ok tt)) c.self.view_is here

pub returns-in-Err-clause-end : goal.returns-in-Err-clause-end
returns-in-Err-clause-end g c no_stop =
    let out0 = g.K.Sink.written c.args.sink.now in
    let out1 = g.K.Sink.written c.write_whole.new.sink in
    let old : StreamWriterSeen = record { settings = record { parts = c.self.inside.due.parts; params = c.self.inside.due.params; first = c.self.inside.first; group = c.self.inside.group }; shapes = c.self.inside.shapes.units; ended = c.self.inside.ended; stop = c.self.inside.stop } in
    let new : StreamWriterSeen = record old { shapes = c.reserve.new.self.units; stop = Some OutFault } in
    let unit : c.end_unit-unit.result ≡ end_unit c.self.inside.chain.previous = c.end_unit-unit.ensures ∙ ap end_unit c.previous.ensures in
    let here : WritesEnd old new out0 out1 (Err OutFault) = record {
      wrote = subst (λ l. GrewShort out0 out1 l) (unit ∙ ap end_unit c.self.invariant.previous) (c.in-Err.ensures.err);
      after = ap (λ l. record new { shapes = l }) c.reserve.ensures.units;
      why = tt;
    } in
    subst (λ w. WritesEnd w new out0 out1 (Err OutFault)) c.self.view_is here

pub step-requires : goal.step-requires
step-requires g c = grind (arith, common_steps)
