use Rattle.std.proofs.Common.{sym, ap, ◌∙◌, arith}
use Rattle.quant_factors.specs.Factors.{factor_of, offset_of, restored_of}
use Rattle.quant_factors.proofs.QuantLemmas.{restored-zero, restored-some, restored-by, too_large}
use Rattle.quant_factors.proofs.restored.Goals as goal

pub returns-then-magnitude-eq0 : goal.returns-then-magnitude-eq0
returns-then-magnitude-eq0 c = (sym (ap (λ m. restored_of m c.args.i) c.if-magnitude-eq0.true ∙ restored-zero c.args.i), omega arith)

pub returns-then-step : goal.returns-then-step
returns-then-step c =
    omega (arith, restored-some c.args.magnitude c.args.i (omega arith), too_large c.args.magnitude (factor_of c.args.i) (offset_of c.args.i) c.if-magnitude.true (omega (arith, c.if-step.true, c.factor-step.ensures.value)))

pub returns-then-whole-gt-MAX_MAGNITUDE : goal.returns-then-whole-gt-MAX_MAGNITUDE
returns-then-whole-gt-MAX_MAGNITUDE c =
    omega (arith, c.if-whole-gt-MAX_MAGNITUDE.true, restored-by c.args.magnitude c.args.i c.factor-step.result c.offset.result (omega arith) c.factor-step.ensures.value c.offset.ensures.value)

pub returns-else-whole-gt-MAX_MAGNITUDE : goal.returns-else-whole-gt-MAX_MAGNITUDE
returns-else-whole-gt-MAX_MAGNITUDE c =
    (sym (restored-by c.args.magnitude c.args.i c.factor-step.result c.offset.result (omega arith) c.factor-step.ensures.value c.offset.ensures.value), c.if-whole-gt-MAX_MAGNITUDE.false)
