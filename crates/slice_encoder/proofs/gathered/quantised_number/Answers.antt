use Rattle.std.proofs.Common.{◌≡◌, ◌∙◌, ◌^◌, ap, arith, ℤ, of_z, to_z, w32, w64}
use Rattle.std.proofs.lemmas.Int.{ints, to_z-of_z}
use Rattle.planes.specs.Numbers.{Within}
use Rattle.quant_factors.specs.Factors.{forward_of}
use Rattle.slice_encoder.proofs.Near.{within_abs, abs_within, fits_narrow}
use Rattle.slice_encoder.proofs.PlaceByPlace.{forward_small}
use Rattle.slice_encoder.proofs.gathered.quantised_number.Goals as goal

pub overflow_cast-result : goal.overflow_cast-result
overflow_cast-result c =
    let v : ℤ = c.args.coefficient in
    let q : ℤ = forward_of v c.args.index in
    let told : to_z w64 (of_z w64 c.quantised_value.result) ≡ c.quantised_value.result = to_z-of_z w64 c.quantised_value.result (record { sfits = c.quantised_value.type_inv }) in
    let is : c.quantised_value.result ≡ q = c.quantised_value.ensures ∙ ap (λ (z : ℤ). forward_of z c.args.index) (fits_narrow v c.requires.small) in
    let near : Within (2 ^ 27) q = abs_within (2 ^ 27) q (omega (arith, forward_small v c.args.index c.requires.index, within_abs (2 ^ 27) v c.requires.small)) in
    omega (arith, ints, told, is, near.low, near.high)

pub returns : goal.returns
returns c =
    let v : ℤ = c.args.coefficient in
    let q : ℤ = forward_of v c.args.index in
    let told : to_z w64 (of_z w64 c.quantised_value.result) ≡ c.quantised_value.result = to_z-of_z w64 c.quantised_value.result (record { sfits = c.quantised_value.type_inv }) in
    let is : c.quantised_value.result ≡ q = c.quantised_value.ensures ∙ ap (λ (z : ℤ). forward_of z c.args.index) (fits_narrow v c.requires.small) in
    let near : Within (2 ^ 27) q = abs_within (2 ^ 27) q (omega (arith, forward_small v c.args.index c.requires.index, within_abs (2 ^ 27) v c.requires.small)) in
    ap (λ (z : ℤ). to_z w32 (of_z w32 z)) (told ∙ is) ∙ fits_narrow q near
