use Rattle.std.proofs.Common.{◌+◌, refl, ap, arith}
use Rattle.slice_decoder.proofs.Steps.{low-step, high-step, low_factor16, low_offset16}
use Rattle.slice_decoder.proofs.short_restoring.step_of.Goals as goal

pub returns-then-index-ge54 : goal.returns-then-index-ge54
returns-then-index-ge54 c = high-step c.args.index _ (omega (arith, c.if-index-ge54.true)) c.requires refl refl refl

pub overflow_cast-result : goal.overflow_cast-result
overflow_cast-result c = record { fits = omega (arith, c.factor.ensures.value, low_factor16 c.args.index (omega (arith, c.if-index-ge54.false))) }

pub overflow_cast-result-2 : goal.overflow_cast-result-2
overflow_cast-result-2 c = record { fits = omega (arith, c.offset.ensures.value, low_offset16 c.args.index (omega (arith, c.if-index-ge54.false))) }

pub overflow_add-result : goal.overflow_add-result
overflow_add-result c = record { fits = omega (arith, c.offset.ensures.value, low_offset16 c.args.index (omega (arith, c.if-index-ge54.false))) }

pub returns : goal.returns
returns c =
    low-step c.args.index _ (omega (arith, c.if-index-ge54.false)) c.factor.ensures.value (ap (λ n. n + 2) c.offset.ensures.value) refl
