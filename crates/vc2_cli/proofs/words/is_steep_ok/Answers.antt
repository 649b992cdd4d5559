use Rattle.std.proofs.Common.{ap, ◌∙◌}
use Rattle.std.specs.Prelude.{max}
use Rattle.sequence_header.specs.Coding.{luma_depth}
use Rattle.vc2_words.specs.Shown.{shown}
use Rattle.vc2_cli.proofs.SteepOk.{steep_ok_answer}
use Rattle.vc2_cli.proofs.words.is_steep_ok.Goals as goal

pub returns : goal.returns
returns c =
    let shape = c.picture_shape-shape.ensures in
    steep_ok_answer (shown c.args.settings.now) c.unit_len.ensures.lawful c.depth.result c.max.result c.steep_ok.result c.depth.ensures.value
    (c.max.ensures ∙ ap (λ k. max k c.picture_shape-shape.result.colour_depth) shape.luma_depth ∙ ap (λ k. max (luma_depth c.args.settings.now.header) k) shape.colour_depth)
    c.steep_ok.ensures.0 c.steep_ok.ensures.1
