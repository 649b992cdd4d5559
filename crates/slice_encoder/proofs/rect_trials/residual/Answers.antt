use Rattle.std.proofs.Common.{◌≡◌, ◌∙◌, ap, ◌+◌, ◌*◌, ◌^◌, arith, ◌-ℤ◌, to_z, of_z, w64}
use Rattle.std.proofs.lemmas.Int.{to_z-of_z, ints}
use Rattle.quant_factors.specs.Factors.{forward_of}
use Rattle.slice_encoder.proofs.Near.{within_abs}
use Rattle.slice_encoder.proofs.PlaceByPlace.{forward_small}
use Rattle.slice_encoder.proofs.rect_trials.residual.Goals as goal

pub returns-clause-small : goal.returns-clause-small
returns-clause-small c =
    let r = c.args.coefficient -ℤ c.args.prediction in
    let difference : to_z w64 (of_z w64 (to_z w64 (of_z w64 c.args.coefficient) -ℤ to_z w64 (of_z w64 c.args.prediction))) ≡ r = omega (arith, ints) in
    let value : c.forward.result ≡ forward_of r c.args.index = c.forward.ensures ∙ ap (λ v. forward_of v c.args.index) difference in
    let kept : to_z w64 (of_z w64 c.forward.result) ≡ c.forward.result = to_z-of_z w64 c.forward.result (record { sfits = c.forward.type_inv }) in
    let size = within_abs (4 * 2 ^ 27 + 2) r (record { low = omega (arith, ints); high = omega (arith, ints) }) in
    rw (kept, value) (omega (arith, forward_small r c.args.index c.requires.index, size))
