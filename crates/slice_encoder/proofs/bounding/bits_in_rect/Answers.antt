use Rattle.std.proofs.Common.{◌≡◌, ◌∙◌, ℕ, ◌+◌, ◌-◌, ap, arith}
use Rattle.std.specs.List.{sum_by, range_with_len}
use Rattle.planes.specs.Raster.{at}
use Rattle.slice_encoder.specs.LowNeeds.{row_bits}
use Rattle.slice_encoder.proofs.CountedBits.{sum_more}
use Rattle.slice_encoder.proofs.bounding.bits_in_rect.Goals as goal

pub overflow_add-bits : goal.overflow_add-bits
overflow_add-bits c = omega (arith, c.loop-y.invariant.few, c.bits_in_row-bits.ensures.few, c.requires.can.short, c.loop-y-test.true)

pub loop-y-preserved : goal.loop-y-preserved
loop-y-preserved c =
    let r = c.args.rect in
    let l = c.loop-y in
    let f : ℕ → ℕ = row_bits (at c.args.coefficients.now) c.args.index c.args.rect in
    let next : l.y + 1 - r.y0 ≡ l.y - r.y0 + 1 = omega arith in
    record {
      so_far = omega (arith, l.invariant.so_far, c.bits_in_row-bits.ensures.value, sum_more f r.y0 (l.y - r.y0) l.y (omega arith), ap (λ (n : ℕ). sum_by f (range_with_len r.y0 n)) next);
      few = omega (arith, l.invariant.few, c.bits_in_row-bits.ensures.few, next);
    }

pub returns-clause-value : goal.returns-clause-value
returns-clause-value c =
    let r = c.args.rect in
    let l = c.loop-y in
    let f : ℕ → ℕ = row_bits (at c.args.coefficients.now) c.args.index c.args.rect in
    let whole : l.y - r.y0 ≡ r.y1 - r.y0 = omega (arith, c.requires.can.down) in
    l.invariant.so_far ∙ ap (λ (n : ℕ). sum_by f (range_with_len r.y0 n)) whole

pub returns-clause-few : goal.returns-clause-few
returns-clause-few c = omega (arith, c.loop-y.invariant.few, c.requires.can.down, c.requires.can.short)
