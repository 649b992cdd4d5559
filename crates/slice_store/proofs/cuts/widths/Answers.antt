use Rattle.std.proofs.Common.{◌≡◌, ap, ◌∙◌, ℕ, ◌<◌, ◌≤◌, length, arith}
use Rattle.std.proofs.lemmas.List.{length-set}
use Rattle.slice_geometry.specs.Geometry.{band_size}
use Rattle.slice_store.proofs.Tables.{put_next}
use Rattle.slice_store.proofs.Sizes.{band_most}
use Rattle.slice_store.proofs.cuts.widths.Goals as goal

pub loop-level-preserved : goal.loop-level-preserved
loop-level-preserved c =
    let depth : ℕ = c.args.layout.depth in
    let few = c.depth-level-end.ensures.allowed.depth in
    let most : (band_size depth c.loop-level.level c.args.size).w ≤ 8192 = band_most depth c.loop-level.level c.args.size.w few c.requires.width in
    let is : c.band_size.result.w ≡ (band_size depth c.loop-level.level c.args.size).w = ap (λ b. b.w) c.band_size.ensures in
    let inside : c.loop-level.level < length c.loop-level.widths = omega (arith, c.loop-level-test.true, c.depth-level-end.ensures.value, few, c.loop-level.invariant.size) in
    record {
      size = length-set c.loop-level.widths c.loop-level.level c.band_size.result.w ∙ c.loop-level.invariant.size;
      value = put_next (λ k n. n ≡ (band_size depth k c.args.size).w) c.loop-level.widths c.loop-level.level c.band_size.result.w inside is c.loop-level.invariant.value;
      most = put_next (λ k n. n ≤ 8192) c.loop-level.widths c.loop-level.level c.band_size.result.w inside (omega (arith, most, is)) c.loop-level.invariant.most;
    }
