use Rattle.std.proofs.Common.{◌≡◌, ◌∙◌, ℕ, sym, subst}
use Rattle.planes.specs.Subbands.{BandStack, AreZeroBands}
use Rattle.slice_geometry.specs.Geometry.{padded_length}
use Rattle.picture_codec.proofs.BothWidths.{zeros_within}
use Rattle.picture_codec.proofs.late_narrow.LateNarrow.new.Goals as goal

pub invariant_of-result : goal.invariant_of-result
invariant_of-result c =
    let s = c.args.layout.now in
    let shape = c.args.shape.now in
    let luma_w = padded_length s.depth shape.luma.w in
    let luma_h = padded_length s.depth shape.luma.h in
    let colour_w = padded_length s.depth shape.colour.w in
    let colour_h = padded_length s.depth shape.colour.h in
    let late = c.in_ok-late.late in
    let zero = c.in_ok-late.ensures in
    let rowless = c.in_ok-made.ensures in
    let moved : (b : BandStack) (d : ℕ) → d ≡ s.depth → AreZeroBands b c.depth.result 0 0 → AreZeroBands b d 0 0 =
    λ b d is none. subst (λ (n : ℕ). AreZeroBands b n 0 0) (c.depth.ensures.value ∙ sym is) none in
    record {
      rowless = λ none. record {
        luma = moved _ late.luma.depth zero.0.same_depth rowless.0;
        c1 = moved _ late.c1.depth zero.1.same_depth rowless.1;
        c2 = moved _ late.c2.depth zero.2.same_depth rowless.2;
      };
      small = record {
        luma = zeros_within late.luma s.depth luma_w luma_h zero.0;
        c1 = zeros_within late.c1 s.depth colour_w colour_h zero.1;
        c2 = zeros_within late.c2 s.depth colour_w colour_h zero.2;
      };
    }
