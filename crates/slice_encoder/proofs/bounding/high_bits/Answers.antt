use Rattle.std.proofs.Common.{◌≡◌, ◌∙◌, ℕ, suc, ◌+◌, ap, arith}
use Rattle.slice_encoder.specs.Trials.{CodedComponent}
use Rattle.slice_encoder.specs.Counted.{component_of}
use Rattle.slice_encoder.specs.LowNeeds.{level_bits, bits_to}
use Rattle.slice_encoder.proofs.bounding.high_bits.Goals as goal

pub overflow_add-bits : goal.overflow_add-bits
overflow_add-bits c = omega (arith, c.loop-below.invariant.few, c.bits_in_level-bits.ensures.few, c.loop-below-test.true, c.depth-below-end.ensures.value, c.depth-below-end.ensures.allowed.depth)

pub loop-below-preserved : goal.loop-below-preserved
loop-below-preserved c =
    let a = c.args in
    let l = c.loop-below in
    let coded : CodedComponent = component_of a.component in
    let next : l.below + 1 ≡ suc l.below = omega arith in
    record {
      so_far = omega (arith, l.invariant.so_far, c.bits_in_level-bits.ensures.value, ap (λ (n : ℕ). bits_to coded a.index a.sx a.sy n) next, ap (λ (n : ℕ). level_bits coded a.index a.sx a.sy n) next);
      few = omega (arith, l.invariant.few, c.bits_in_level-bits.ensures.few);
    }

pub returns-clause-value : goal.returns-clause-value
returns-clause-value c =
    let a = c.args in
    let coded : CodedComponent = component_of a.component in
    let whole : c.loop-below.below ≡ a.component.layout.now.depth = omega (arith, c.depth-below-end.ensures.value) in
    c.loop-below.invariant.so_far ∙ ap (λ (n : ℕ). bits_to coded a.index a.sx a.sy n) whole

pub returns-clause-few : goal.returns-clause-few
returns-clause-few c = omega (arith, c.loop-below.invariant.few, c.depth-below-end.ensures.value, c.depth-below-end.ensures.allowed.depth)
