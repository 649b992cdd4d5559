use Rattle.std.proofs.Common.{ℕ, ◌+◌, ◌-◌, ◌*◌, ◌/◌, ◌%◌, ◌^◌, subst, arith}
use Rattle.slice_encoder.specs.ScaleRows.{Divides}
use Rattle.slice_encoder.proofs.ShortScales.{divides}
use Rattle.slice_encoder.proofs.scale_rows.short_scale.Goals as goal

pub returns : goal.returns
returns c =
    let f : ℕ = c.factor-factor.result in
    let d : ℕ = c.ilog2.result in
    subst (Divides ((65536 * (1 * 2 ^ d % 18446744073709551616) + f - 1) / f) (65536 / (1 * 2 ^ d % 18446744073709551616))) c.factor-factor.ensures.value
    (divides f d (omega (arith, c.if-factor-gt32768.false)) c.factor-factor.ensures.least c.ilog2.ensures.power_le c.ilog2.ensures.next_power_gt)
