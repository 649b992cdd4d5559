use Rattle.std.proofs.Common.{◌≡◌, ℕ, ◌+◌, ◌/◌, ap, ◌∙◌, length, get_or, ◌++◌, ◌∷◌, [], arith}
use Rattle.std.proofs.lemmas.List.{length_push}
use Rattle.std.proofs.lemmas.Grind.{common_steps}
use Rattle.planes.specs.Raster.{Raster, filled_with}
use Rattle.planes.specs.Subbands.{no_band, subband_length}
use Rattle.planes.proofs.BandLemmas.{get_or_one_more}
use Rattle.planes.proofs.late.late_planes.Goals as goal

pub loop-k-preserved : goal.loop-k-preserved
loop-k-preserved g c =
    let x = g.T.Number.none in
    let zero_band : ℕ → Raster g.row.T.Denot = λ k. filled_with x (subband_length c.args.depth ((k + 2) / 3) c.args.w) (subband_length c.args.depth ((k + 2) / 3) c.args.h) in
    let items : c.push.new.self.items ≡ c.loop-k.planes.items ++ c.in_ok-plane.plane ∷ [] = c.in_ok-push.ensures.items in
    let last : c.in_ok-plane.plane ≡ zero_band c.loop-k.k =
    c.in_ok-plane.ensures
    ∙ ap (λ w. filled_with x w c.band_length-in-loop-k.result) c.band_length.ensures
    ∙ ap (filled_with x (subband_length c.args.depth ((c.loop-k.k + 2) / 3) c.args.w)) c.band_length-in-loop-k.ensures
    in
    record {
      count = ap length items ∙ length_push c.loop-k.planes.items c.in_ok-plane.plane ∙ ap (λ n. n + 1) c.loop-k.invariant.count;
      zero = λ k lt. ap (λ planes. get_or planes k no_band) items ∙ get_or_one_more c.loop-k.planes.items c.in_ok-plane.plane no_band zero_band c.loop-k.k c.loop-k.invariant.count c.loop-k.invariant.zero last k lt;
    }

pub returns-in_err-plane-clause-count : goal.returns-in_err-plane-clause-count
returns-in_err-plane-clause-count c = grind (arith, common_steps)

pub returns-in_err-push-clause-count : goal.returns-in_err-push-clause-count
returns-in_err-push-clause-count c = grind (arith, common_steps)

pub returns-in_err-push-clause-zero : goal.returns-in_err-push-clause-zero
returns-in_err-push-clause-zero c = grind (arith, common_steps)
