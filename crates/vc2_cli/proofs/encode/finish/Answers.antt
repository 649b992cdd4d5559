use Rattle.std.proofs.Common.{◌∙◌, sym, ap}
use Rattle.sequence_header.specs.declared.parts.HeaderParts.{HeaderParts}
use Rattle.vc2_words.specs.Shown.{shown}
use Rattle.stream_writer.specs.Writer.{StreamWriterSeen, total_length, next_place, next_previous}
use Rattle.vc2_cli.specs.Encode.{is_half, ended_plan}
use Rattle.vc2_cli.proofs.EncodeTurns.{planned, with_end, closes_ended}
use Rattle.vc2_cli.proofs.encode.finish.Goals as goal

pub returns-in-Ok-clause-closes : goal.returns-in-Ok-clause-closes
returns-in-Ok-clause-closes g c =
    let settings = c.args.settings.now in
    let w = c.args.writer.now in
    let written = g.K.Sink.written in
    let end = c.in-Ok.ensures.end c.requires.going in
    let units = c.shapes.ensures.units ∙ ap (λ (x : StreamWriterSeen). x.shapes) end.after in
    let total = c.shapes.ensures.total ∙ ap (λ (x : StreamWriterSeen). total_length x.shapes) end.after ∙ with_end w in
    closes_ended (is_half settings.header.coding c.args.pictures) c.args.place (next_previous w) (ended_plan (shown settings) w.shapes (next_place w)) c.plan-schedule.result
    (written c.args.out.now) (written c.end.new.sink) (ap (λ (p : HeaderParts). is_half p.coding c.args.pictures) (sym c.parts.ensures.value) ∙ sym c.is_half.ensures ∙ c.if-is_half.false)
    (c.plan-schedule.ensures.value ∙ planned c.shapes.result.now settings.rate settings.idle _ _ units total) end.wrote
