use Rattle.std.proofs.Common.{◌≡◌, ◌∙◌, pos, to_z, of_z, w32, ap, ℤ}
use Rattle.std.specs.Prelude.{unsigned_abs}
use Rattle.quant_factors.specs.Factors.{forward_of, signed}
use Rattle.slice_encoder.proofs.Near.{fits_narrow}
use Rattle.slice_encoder.proofs.Signs.{product_fits, quantised_is}
use Rattle.slice_encoder.proofs.gathered.quantised_value.Goals as goal

pub overflow_mul-result : goal.overflow_mul-result
overflow_mul-result c =
    let v = c.args.coefficient in
    let same : to_z w32 (of_z w32 v) ≡ v = fits_narrow v c.requires.small in
    let sign = c.sign_of-sign in
    let magnitude = c.quantised_magnitude-magnitude in
    let sign_is : sign.result ≡ signed v 1 = sign.ensures ∙ ap (λ (z : ℤ). signed z 1) same in
    let magnitude_is : magnitude.result ≡ forward_of (pos (unsigned_abs v)) c.args.index = magnitude.ensures ∙ ap (λ (z : ℤ). forward_of (pos (unsigned_abs z)) c.args.index) same in
    product_fits v sign.result magnitude.result c.args.index c.requires.index c.requires.small sign_is magnitude_is

pub returns : goal.returns
returns c =
    let v = c.args.coefficient in
    let same : to_z w32 (of_z w32 v) ≡ v = fits_narrow v c.requires.small in
    let sign = c.sign_of-sign in
    let magnitude = c.quantised_magnitude-magnitude in
    let sign_is : sign.result ≡ signed v 1 = sign.ensures ∙ ap (λ (z : ℤ). signed z 1) same in
    let magnitude_is : magnitude.result ≡ forward_of (pos (unsigned_abs v)) c.args.index = magnitude.ensures ∙ ap (λ (z : ℤ). forward_of (pos (unsigned_abs z)) c.args.index) same in
    quantised_is v sign.result magnitude.result c.args.index c.requires.index c.requires.small sign_is magnitude_is
