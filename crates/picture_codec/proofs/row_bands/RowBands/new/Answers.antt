use Rattle.slice_geometry.specs.Geometry.{padded_length}
use Rattle.picture_codec.proofs.BothWidths.{zeros_agree}
use Rattle.picture_codec.proofs.row_bands.RowBands.new.Goals as goal

pub invariant_of-result : goal.invariant_of-result
invariant_of-result c =
    let s = c.args.layout.now in
    let shape = c.args.shape.now in
    let luma_w = padded_length s.depth shape.luma.w in
    let luma_h = padded_length s.depth shape.luma.h in
    let colour_w = padded_length s.depth shape.colour.w in
    let colour_h = padded_length s.depth shape.colour.h in
    let narrow = c.in-Ok.narrow.bands in
    let wide = c.in_ok-wide.wide.bands in
    let narrow_zero = c.in-Ok.ensures.zero in
    let wide_zero = c.in_ok-wide.ensures.zero in
    record {
      sizes = record {
        luma = zeros_agree narrow.luma wide.luma s.depth luma_w luma_h narrow_zero.0 wide_zero.0;
        c1 = zeros_agree narrow.c1 wide.c1 s.depth colour_w colour_h narrow_zero.1 wide_zero.1;
        c2 = zeros_agree narrow.c2 wide.c2 s.depth colour_w colour_h narrow_zero.2 wide_zero.2;
      };
      made = λ serve. absurd cc;
      both = λ serve. absurd cc;
    }
