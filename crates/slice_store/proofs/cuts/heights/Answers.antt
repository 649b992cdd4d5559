use Rattle.std.proofs.Common.{◌≡◌, ap, ◌∙◌, ℕ, ◌<◌, ◌≤◌, length, arith}
use Rattle.std.proofs.lemmas.List.{length-set}
use Rattle.slice_geometry.specs.Geometry.{band_size}
use Rattle.slice_store.proofs.Tables.{put_next}
use Rattle.slice_store.proofs.Sizes.{band_most}
use Rattle.slice_store.proofs.cuts.heights.Goals as goal

pub loop-level-preserved : goal.loop-level-preserved
loop-level-preserved c =
    let depth : ℕ = c.args.layout.depth in
    let few = c.depth-level-end.ensures.allowed.depth in
    let most : (band_size depth c.loop-level.level c.args.size).h ≤ 8192 = band_most depth c.loop-level.level c.args.size.h few c.requires.height in
    let is : c.band_size.result.h ≡ (band_size depth c.loop-level.level c.args.size).h = ap (λ b. b.h) c.band_size.ensures in
    let inside : c.loop-level.level < length c.loop-level.heights = omega (arith, c.loop-level-test.true, c.depth-level-end.ensures.value, few, c.loop-level.invariant.size) in
    record {
      size = length-set c.loop-level.heights c.loop-level.level c.band_size.result.h ∙ c.loop-level.invariant.size;
      value = put_next (λ k n. n ≡ (band_size depth k c.args.size).h) c.loop-level.heights c.loop-level.level c.band_size.result.h inside is c.loop-level.invariant.value;
      most = put_next (λ k n. n ≤ 8192) c.loop-level.heights c.loop-level.level c.band_size.result.h inside (omega (arith, most, is)) c.loop-level.invariant.most;
    }
