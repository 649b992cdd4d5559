use Rattle.std.proofs.Common.{◌≡◌, ℕ, ◌+◌, ◌%◌, ◌^◌, ◌≤◌, List, ◌++◌, Option, Some, Ok, Err, refl, ap, subst, ◌∙◌, arith}
use Rattle.std.proofs.lemmas.Grind.{common_steps}
use Rattle.std.specs.Io.KnownBytes.{Appends}
use Rattle.vc2_io.specs.Outside.{GrewShort}
use Rattle.slice_geometry.specs.declared.unit_list.UnitShape.{UnitShape}
use Rattle.slice_geometry.specs.Slicing.{slice_count}
use Rattle.transform_params.specs.ParameterFields.{unit_length}
use Rattle.parse_info.specs.Chain.{ChainSeen}
use Rattle.picture_codec.specs.Encoding.{slices_of}
use Rattle.stream_rows.specs.Streams.{frame_under}
use Rattle.stream_writer.specs.declared.write_stop.WriteStop.{WriteStop}
use Rattle.stream_writer.specs.declared.write_stop.WriteStop.TheVariants.{OutFault}
use Rattle.stream_writer.specs.EncodedStream.{begins_at, units_with}
use Rattle.stream_writer.specs.WriterInside.{DueSeen}
use Rattle.stream_writer.specs.Writer.{StreamWriterSeen, WritesPicture, head_bytes_before, due_shapes, due_units, begins_next, next_place, next_previous}
use Rattle.stream_writer.proofs.WrittenShapes.{sound_picture, sound_kept}
use Rattle.stream_writer.proofs.writer.StreamWriter.picture.Goals as goal

pub invariant_of-self-2 : goal.invariant_of-self-2
invariant_of-self-2 g c =
    let due = c.self.inside.due in
    let begins = c.begins_at-begins.result in
    let units = c.self.inside.shapes.units in
    let place = c.self.inside.shapes.total in
    let list : c.step.new.shapes.units ≡ units ++ due_shapes due.parts due.params begins place =
    c.step.ensures.units ∙ ap (λ (q : DueSeen). c.reserve.new.self.units ++ due_shapes q.parts q.params begins c.reserve.new.self.total) c.put.ensures
    ∙ ap (λ l. l ++ due_shapes due.parts due.params begins c.reserve.new.self.total) c.reserve.ensures.units ∙ ap (λ n. units ++ due_shapes due.parts due.params begins n) c.reserve.ensures.total in
    let total : c.step.new.shapes.total ≡ place + head_bytes_before due.parts begins + unit_length due.params =
    c.step.ensures.total ∙ ap (λ (q : DueSeen). c.reserve.new.self.total + head_bytes_before q.parts begins + unit_length q.params) c.put.ensures ∙ ap (λ n. n + head_bytes_before due.parts begins + unit_length due.params) c.reserve.ensures.total in
    let behind : ℕ → ChainSeen = λ n. record { place = c.step.new.shapes.total; previous = n } in
    let links : c.step.new.chain ≡ behind (unit_length due.params) = c.step.ensures.chain ∙ ap (λ (q : DueSeen). behind (unit_length q.params)) c.put.ensures in
    let some : 1 ≤ slice_count due.params.slicing = subst (λ (q : DueSeen). 1 ≤ slice_count q.params.slicing) c.put.ensures c.step.ensures.some in
    let room : c.step.new.shapes.total + 13 ≤ 2 ^ 40 = omega (arith, total, c.if-place-room-gt-INPUT_LIMIT.false, c.place.ensures.value, c.self.invariant.place, c.len_before.ensures.value, c.picture_len.ensures, c.from.ensures) in
    sound_picture due.parts due.params begins c.self.inside.first c.self.inside.number ((c.self.inside.number + 1) % 4294967296) c.self.inside.position c.self.inside.chain c.step.new.chain c.self.inside.shapes c.step.new.shapes c.self.inside.stop c.self.inside.ended c.self.invariant
    list total links refl some room

pub invariant_of-self-in-Err : goal.invariant_of-self-in-Err
invariant_of-self-in-Err g c =
    sound_kept c.self.inside.first c.self.inside.number c.self.inside.position c.self.inside.chain c.self.inside.shapes c.reserve.new.self c.self.inside.stop (Some OutFault) c.self.inside.ended c.self.invariant c.reserve.ensures.units c.reserve.ensures.total

pub returns-clause-picture : goal.returns-clause-picture
returns-clause-picture g c no_stop =
    let out0 = g.K.Sink.written c.args.sink.now in
    let out1 = g.K.Sink.written c.write_whole.new.sink in
    let due = c.self.inside.due in
    let begins = c.begins_at-begins.result in
    let units = c.self.inside.shapes.units in
    let place = c.self.inside.shapes.total in
    let slices = slices_of (frame_under due.parts) due.params c.args.picture.now.samples in
    let made : DueSeen → List UnitShape → StreamWriterSeen = λ q l. record { settings = record { parts = q.parts; params = q.params; first = c.self.inside.first; group = c.self.inside.group }; shapes = l; ended = c.self.inside.ended; stop = c.self.inside.stop } in
    let old = made due units in
    let begins_is : begins ≡ begins_next old = c.begins_at-begins.ensures ∙ ap (begins_at c.self.inside.group) c.self.invariant.position_is in
    let list : c.step.new.shapes.units ≡ units ++ due_shapes due.parts due.params (begins_next old) (next_place old) =
    c.step.ensures.units ∙ ap (λ (q : DueSeen). c.reserve.new.self.units ++ due_shapes q.parts q.params begins c.reserve.new.self.total) c.put.ensures
    ∙ ap (λ l. l ++ due_shapes due.parts due.params begins c.reserve.new.self.total) c.reserve.ensures.units ∙ ap (λ n. units ++ due_shapes due.parts due.params begins n) (c.reserve.ensures.total ∙ c.self.invariant.total)
    ∙ ap (λ b. units ++ due_shapes due.parts due.params b (next_place old)) begins_is in
    let bytes : c.due.result.now ≡ due_units old slices =
    c.due.ensures ∙ ap (λ (q : DueSeen). q.due) c.put.ensures ∙ ap (λ b. units_with due.parts due.params b c.previous.result c.self.inside.number slices) begins_is
    ∙ ap (λ n. units_with due.parts due.params (begins_next old) n c.self.inside.number slices) (c.previous.ensures ∙ c.self.invariant.previous) ∙ ap (λ n. units_with due.parts due.params (begins_next old) (next_previous old) n slices) c.self.invariant.number_is in
    let here : WritesPicture old (made c.put.new.self c.step.new.shapes.units) slices out0 out1 (Ok tt) = record {
      wrote = subst (λ l. Appends out0 out1 l) bytes c.in-Ok.ensures.ok;
      after = ap (λ (q : DueSeen). made q c.step.new.shapes.units) c.put.ensures ∙ ap (made due) list;
      why = omega (arith, ap (head_bytes_before due.parts) begins_is, c.if-place-room-gt-INPUT_LIMIT.false, c.place.ensures.value, c.self.invariant.place, c.self.invariant.total, c.len_before.ensures.value, c.picture_len.ensures, c.from.ensures);
    } in
    subst (λ (w : StreamWriterSeen). WritesPicture w (made c.put.new.self c.step.new.shapes.units) (slices_of (frame_under w.settings.parts) w.settings.params c.args.picture.now.samples) out0 out1 (Ok tt)) c.self.view_is here

pub returns-in-Err-clause-picture : goal.returns-in-Err-clause-picture
returns-in-Err-clause-picture g c no_stop =
    let out0 = g.K.Sink.written c.args.sink.now in
    let out1 = g.K.Sink.written c.write_whole.new.sink in
    let due = c.self.inside.due in
    let begins = c.begins_at-begins.result in
    let units = c.self.inside.shapes.units in
    let slices = slices_of (frame_under due.parts) due.params c.args.picture.now.samples in
    let made : DueSeen → List UnitShape → Option WriteStop → StreamWriterSeen = λ q l s. record { settings = record { parts = q.parts; params = q.params; first = c.self.inside.first; group = c.self.inside.group }; shapes = l; ended = c.self.inside.ended; stop = s } in
    let old = made due units c.self.inside.stop in
    let new = made c.put.new.self c.reserve.new.self.units (Some OutFault) in
    let begins_is : begins ≡ begins_next old = c.begins_at-begins.ensures ∙ ap (begins_at c.self.inside.group) c.self.invariant.position_is in
    let bytes : c.due.result.now ≡ due_units old slices =
    c.due.ensures ∙ ap (λ (q : DueSeen). q.due) c.put.ensures ∙ ap (λ b. units_with due.parts due.params b c.previous.result c.self.inside.number slices) begins_is
    ∙ ap (λ n. units_with due.parts due.params (begins_next old) n c.self.inside.number slices) (c.previous.ensures ∙ c.self.invariant.previous) ∙ ap (λ n. units_with due.parts due.params (begins_next old) (next_previous old) n slices) c.self.invariant.number_is in
    let here : WritesPicture old new slices out0 out1 (Err OutFault) = record {
      wrote = subst (λ l. GrewShort out0 out1 l) bytes c.in-Err.ensures.err;
      after = ap (λ (q : DueSeen). made q c.reserve.new.self.units (Some OutFault)) c.put.ensures ∙ ap (λ l. made due l (Some OutFault)) c.reserve.ensures.units;
      why = omega (arith, ap (head_bytes_before due.parts) begins_is, c.if-place-room-gt-INPUT_LIMIT.false, c.place.ensures.value, c.self.invariant.place, c.self.invariant.total, c.len_before.ensures.value, c.picture_len.ensures, c.from.ensures);
    } in
    subst (λ (w : StreamWriterSeen). WritesPicture w new (slices_of (frame_under w.settings.parts) w.settings.params c.args.picture.now.samples) out0 out1 (Err OutFault)) c.self.view_is here

pub returns-clause-cause : goal.returns-clause-cause
returns-clause-cause c = grind (arith, common_steps)

pub step-requires-clause-most : goal.step-requires-clause-most
step-requires-clause-most c = grind (arith, common_steps)

pub returns-in-Some-clause-picture : goal.returns-in-Some-clause-picture
returns-in-Some-clause-picture g c = grind (arith, common_steps)

pub invariant_of-self : goal.invariant_of-self
invariant_of-self g c = grind (arith, common_steps)

pub returns-then-is_err-clause-kept : goal.returns-then-is_err-clause-kept
returns-then-is_err-clause-kept g c = grind (arith, common_steps)

pub returns-clause-kept : goal.returns-clause-kept
returns-clause-kept g c = grind (arith, common_steps)
