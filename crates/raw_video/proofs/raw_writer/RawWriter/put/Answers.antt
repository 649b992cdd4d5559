use Rattle.std.proofs.Common.{ℕ, Bool, List, ◌++◌, take, ap, ◌∙◌}
use Rattle.vc2_io.proofs.Short.{GrewShort-first}
use Rattle.raw_video.specs.RawText.{text_of}
use Rattle.raw_video.specs.Waiting.{RawWriterSeen}
use Rattle.raw_video.proofs.Pieces.{OnErr-always}
use Rattle.raw_video.proofs.Waits.{passes_row, waits_behind}
use Rattle.raw_video.proofs.raw_writer.RawWriter.put.Goals as goal

pub returns-in_err-make_room-clause-err : goal.returns-in_err-make_room-clause-err
returns-in_err-make_room-clause-err g c =
    OnErr-always c.from_residual.result (GrewShort-first _ _ c.args.self.now.waiting (text_of c.args.self.now.wide c.args.row.now) c.in_err-make_room.ensures.err)

pub returns-clause-ok : goal.returns-clause-ok
returns-clause-ok g c =
    let row = text_of c.args.self.now.wide c.args.row.now in
    let waited = ap (λ (w : RawWriterSeen). w.waiting) c.self.view_is in
    let wide = ap (λ (w : RawWriterSeen). w.wide) c.self.view_is ∙ c.in_ok-make_room.ensures.wide in
    passes_row _ _ c.args.self.now.waiting c.make_room.new.self.waiting row _ c.in_ok-make_room.ensures.ok
    (waits_behind c.self.inside.buffer c.spell-more.new.bytes _ c.self.inside.len c.spell-more.result c.self.invariant c.spell-more.ensures.fits
    ∙ ap (λ (l : List ℕ). l ++ take c.spell-more.result c.spell-more.new.bytes) waited ∙ ap (λ (l : List ℕ). c.make_room.new.self.waiting ++ l) (c.spell-more.ensures.text ∙ ap (λ (b : Bool). text_of b c.args.row.now) wide))
