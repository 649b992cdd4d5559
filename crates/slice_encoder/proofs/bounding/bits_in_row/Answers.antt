use Rattle.std.proofs.Common.{◌≡◌, ◌∙◌, ℕ, ◌+◌, ◌-◌, ap, arith}
use Rattle.std.specs.List.{sum_by, range_with_len}
use Rattle.planes.specs.Raster.{at}
use Rattle.quant_factors.specs.Factors.{forward_of}
use Rattle.slice_encoder.specs.LowNeeds.{counted_bits}
use Rattle.slice_encoder.proofs.CountedBits.{sum_more}
use Rattle.slice_encoder.proofs.bounding.bits_in_row.Goals as goal

pub overflow_add-bits : goal.overflow_add-bits
overflow_add-bits c = omega (arith, c.loop-x.invariant.few, c.counted_at-bits.ensures.few, c.requires.can.narrow, c.loop-x-test.true)

pub loop-x-preserved : goal.loop-x-preserved
loop-x-preserved c =
    let r = c.args.rect in
    let l = c.loop-x in
    let f : ℕ → ℕ = λ x. counted_bits (forward_of (at c.args.coefficients.now c.args.y x) c.args.index) in
    let next : l.x + 1 - r.x0 ≡ l.x - r.x0 + 1 = omega arith in
    record {
      so_far = omega (arith, l.invariant.so_far, c.counted_at-bits.ensures.value, sum_more f r.x0 (l.x - r.x0) l.x (omega arith), ap (λ (n : ℕ). sum_by f (range_with_len r.x0 n)) next);
      few = omega (arith, l.invariant.few, c.counted_at-bits.ensures.few, next);
    }

pub returns-clause-value : goal.returns-clause-value
returns-clause-value c =
    let r = c.args.rect in
    let l = c.loop-x in
    let f : ℕ → ℕ = λ x. counted_bits (forward_of (at c.args.coefficients.now c.args.y x) c.args.index) in
    let whole : l.x - r.x0 ≡ r.x1 - r.x0 = omega (arith, c.requires.can.across) in
    l.invariant.so_far ∙ ap (λ (n : ℕ). sum_by f (range_with_len r.x0 n)) whole

pub returns-clause-few : goal.returns-clause-few
returns-clause-few c = omega (arith, c.loop-x.invariant.few, c.requires.can.across, c.requires.can.narrow)
