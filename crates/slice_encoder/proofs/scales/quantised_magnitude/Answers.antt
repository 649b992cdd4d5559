use Rattle.std.proofs.Common.{◌≡◌, ◌∙◌, ℕ, ◌*◌, ◌/◌, ◌^◌, ◌≤◌, pos, to_z, of_z, w32, w64, ap, arith}
use Rattle.std.specs.Prelude.{unsigned_abs}
use Rattle.std.proofs.lemmas.Int.{to_z_pos}
use Rattle.quant_factors.specs.Factors.{factor_of, forward_of}
use Rattle.slice_encoder.proofs.Gathers.{value_small}
use Rattle.slice_encoder.proofs.Near.{within_abs, abs_within, fits_narrow}
use Rattle.slice_encoder.proofs.scales.quantised_magnitude.Goals as goal

pub returns : goal.returns
unfolding forward_of
returns c =
    let v = c.args.coefficient in
    let i = c.args.index in
    let n = unsigned_abs v in
    let same : to_z w32 (of_z w32 v) ≡ v = fits_narrow v c.requires.small in
    let magnitude : c.unsigned_abs.result ≡ n = c.unsigned_abs.ensures.value ∙ ap unsigned_abs same in
    let value : c.scaled.result ≡ 4 * n / factor_of i = c.scaled.ensures ∙ ap (λ (k : ℕ). 4 * k / factor_of i) magnitude in
    let small : 4 * n / factor_of i ≤ 2 ^ 36 = value_small (pos n) i c.requires.index (abs_within (2 ^ 27) (pos n) (within_abs (2 ^ 27) v c.requires.small)) in
    to_z_pos w64 c.scaled.result (omega (arith, value, small)) ∙ ap pos value
