use Rattle.std.proofs.Common.{ℕ, ◌*◌, ap, arith}
use Rattle.quant_factors.specs.Factors.{restored_of}
use Rattle.quant_factors.proofs.QuantLemmas.{restored-zero, restored-by}
use Rattle.slice_decoder.proofs.narrow_restoring.restored.Goals.{then-magnitude-eq0, else-magnitude-eq0}
use Rattle.slice_decoder.proofs.narrow_restoring.restored.Goals as goal

pub returns-clause-value : goal.returns-clause-value
returns-clause-value c =
    let m = c.args.magnitude in
    let i = c.args.index in
    elim c.if-magnitude-eq0.branch [
      | then-magnitude-eq0 w ↦ omega (
        arith,
        w.add-is,
        ap (λ (x : ℕ). x * c.args.factor) w.if-magnitude-eq0.true,
        ap
            (λ (x : ℕ). restored_of x i) w.if-magnitude-eq0.true,
        restored-zero i,
      )
      | else-magnitude-eq0 w ↦ omega (
        arith,
        w.add-is,
        restored-by m i c.args.factor c.args.offset
            (omega (arith, w.if-magnitude-eq0.false)) c.requires.factor c.requires.offset,
      )
    ]
