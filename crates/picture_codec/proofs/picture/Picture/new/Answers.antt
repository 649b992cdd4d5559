use Rattle.std.proofs.Common.{subst, sym}
use Rattle.picture_codec.specs.Samples.{AreSamples}
use Rattle.picture_codec.proofs.Tables.{blank_fits}
use Rattle.picture_codec.proofs.picture.Picture.new.Goals as goal

pub invariant_of-result : goal.invariant_of-result
invariant_of-result c =
    let shape = c.args.shape.now in
    record {
      luma = subst (AreSamples shape.luma shape.luma_depth) (sym c.in_ok-new.ensures) (blank_fits shape.luma shape.luma_depth);
      c1 = subst (AreSamples shape.colour shape.colour_depth) (sym c.in_ok-new-2.ensures) (blank_fits shape.colour shape.colour_depth);
      c2 = subst (AreSamples shape.colour shape.colour_depth) (sym c.in_ok-new-3.ensures) (blank_fits shape.colour shape.colour_depth);
    }
