use Rattle.std.proofs.Common.{◌≡◌, ap, sym, subst, arith}
use Rattle.slice_geometry.specs.declared.PictureShape.{PictureShape}
use Rattle.picture_codec.specs.Decoding.{IsDecoderSound}
use Rattle.picture_codec.proofs.Steps.{taken_none}
use Rattle.picture_codec.proofs.decoder.PictureDecoder.new.Goals as goal

pub invariant_of-result : goal.invariant_of-result
invariant_of-result c =
    let s = c.args.params.now.layout in
    let shape = c.args.shape.now in
    let bands = c.in_ok-bands.bands in
    let same_shape : c.in_ok-picture.picture.shape ≡ shape = ap (λ p. p.shape) c.in_ok-picture.ensures in
    subst (λ (sh : PictureShape). IsDecoderSound s sh 0 bands c.in-Ok.rooms) (sym same_shape)
    (record {
      taken = record {
        luma = taken_none s shape.luma bands.luma c.in_ok-bands.ensures.0;
        c1 = taken_none s shape.colour bands.c1 c.in_ok-bands.ensures.1;
        c2 = taken_none s shape.colour bands.c2 c.in_ok-bands.ensures.2;
        few = omega arith;
      };
      luma = c.in-Ok.ensures.0;
      colour = c.in-Ok.ensures.1;
    })
