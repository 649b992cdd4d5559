use Rattle.slice_encoder.specs.Gathering.{gathered_values, gathered_pairs}
use Rattle.slice_encoder.proofs.FewCodes.{few_values, few_pairs}
use Rattle.slice_encoder.proofs.gathered.GatheredSlice.looks.Goals as goal

pub returns : goal.returns
returns c =
    let a = c.args in
    let g = a.self.now in
    let luma = c.look.ensures (gathered_values g.luma a.matrix.now a.index) (c.requires.sizes.luma a.index c.requires.index) in
    let colour = c.look-2.ensures (gathered_pairs g.c1 g.c2 a.matrix.now a.index) (c.requires.sizes.colour a.index c.requires.index) in
    record {
      luma = luma;
      colour = colour;
      few_luma = few_values a.matrix.now a.index c.requires.index _ g.luma c.depth.ensures.sound luma;
      few_colour = few_pairs a.matrix.now a.index c.requires.index _ g.c1 c.depth-2.ensures.sound g.c2 c.depth-3.ensures.sound colour;
    }
