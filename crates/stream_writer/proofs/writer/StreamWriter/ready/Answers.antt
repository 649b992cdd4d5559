use Rattle.std.proofs.Common.{List, false, None, Err, ap, sym, ◌∙◌, rules}
use Rattle.sequence_header.specs.declared.parts.HeaderParts.{HeaderParts}
use Rattle.slice_geometry.specs.declared.unit_list.UnitShape.{UnitShape}
use Rattle.transform_params.specs.Params.{Params}
use Rattle.transform_params.specs.Views.{params_of}
use Rattle.stream_writer.specs.EncodedStream.{Settings}
use Rattle.stream_writer.specs.Writer.{StreamWriterSeen, total_length, pictures_among, last_length}
use Rattle.stream_writer.proofs.SameShapes.{steep_under}
use Rattle.stream_writer.proofs.writer.StreamWriter.ready.Goals as goal

pub returns-in-Ok-new : goal.returns-in-Ok-new
returns-in-Ok-new c =
    let s : Settings = record { parts = c.args.header.now; params = params_of c.args.params.now; first = c.args.first; group = c.args.group } in
    let made : HeaderParts → Params → List UnitShape → StreamWriterSeen = λ parts p units. record { settings = record { parts = parts; params = p; first = c.args.first; group = c.args.group }; shapes = units; ended = false; stop = None } in
    let units = c.new-in-Ok-new-2.result.units in (
      ap (λ q. made q c.in-Ok-new.due.params units) c.in-Ok-new.ensures.parts ∙ ap (λ q. made s.parts q units) c.in-Ok-new.ensures.params ∙ ap (made s.parts s.params) c.new-in-Ok-new-2.ensures.units,
      steep_under s c.picture_shape.result c.picture_shape.ensures c.in-Ok.ensures.new.1,
    )

pub returns-in-Err-NoMemory : goal.returns-in-Err-NoMemory
returns-in-Err-NoMemory c =
    let s : Settings = record { parts = c.args.header.now; params = params_of c.args.params.now; first = c.args.first; group = c.args.group } in
    steep_under s c.picture_shape.result c.picture_shape.ensures (c.in-Err-NoMemory.ensures.memory (ap (λ fault. Err fault) c.in-Err-NoMemory.field-0-is))

pub invariant_of-result : goal.invariant_of-result
invariant_of-result c =
    let made = c.new-in-Ok-new-2.ensures in
    let chain = c.new-in-Ok-new.ensures in record {
      total = made.total ∙ ap total_length (sym made.units);
      place = ap (λ ch. ch.place) chain ∙ sym made.total;
      previous = ap (λ ch. ch.previous) chain ∙ ap (last_length 0) (sym made.units);
      number_is = search rules;
      position_is = ap pictures_among (sym made.units);
      few = search rules;
      room = search rules;
    }
