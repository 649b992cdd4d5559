use Rattle.std.proofs.Common.{◌≡◌, ◌∙◌, ap, ◌^◌, arith, ℤ, to_z, of_z, w64}
use Rattle.std.proofs.lemmas.Int.{to_z-of_z}
use Rattle.planes.specs.Raster.{at}
use Rattle.dc_prediction.proofs.PredictionLemmas.{fits}
use Rattle.quant_factors.specs.Factors.{forward_of}
use Rattle.slice_encoder.specs.LowNeeds.{counted_bits}
use Rattle.slice_encoder.proofs.Near.{within_abs}
use Rattle.slice_encoder.proofs.PlaceByPlace.{forward_small}
use Rattle.slice_encoder.proofs.bounding.counted_at.Goals as goal

pub counted-requires : goal.counted-requires
counted-requires c =
    let r : ℤ = at c.args.coefficients.now c.args.y c.args.x in
    let got : to_z w64 (of_z w64 c.get.result) ≡ r = ap (λ t. to_z w64 (of_z w64 t)) c.get.ensures ∙ fits (2 ^ 27) r (omega arith) c.requires.small in
    let value : c.forward.result ≡ forward_of r c.args.index = c.forward.ensures ∙ ap (λ v. forward_of v c.args.index) got in
    let kept : to_z w64 (of_z w64 c.forward.result) ≡ c.forward.result = to_z-of_z w64 c.forward.result (record { sfits = c.forward.type_inv }) in
    let size = within_abs (2 ^ 27) r c.requires.small in
    rw (kept, value) (omega (arith, forward_small r c.args.index c.requires.index, size))

pub returns-clause-value : goal.returns-clause-value
returns-clause-value c =
    let r : ℤ = at c.args.coefficients.now c.args.y c.args.x in
    let got : to_z w64 (of_z w64 c.get.result) ≡ r = ap (λ t. to_z w64 (of_z w64 t)) c.get.ensures ∙ fits (2 ^ 27) r (omega arith) c.requires.small in
    let value : c.forward.result ≡ forward_of r c.args.index = c.forward.ensures ∙ ap (λ v. forward_of v c.args.index) got in
    let kept : to_z w64 (of_z w64 c.forward.result) ≡ c.forward.result = to_z-of_z w64 c.forward.result (record { sfits = c.forward.type_inv }) in
    c.counted.ensures.value ∙ ap counted_bits (kept ∙ value)
