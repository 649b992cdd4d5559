use Rattle.std.proofs.Common.{ℕ, ◌^◌, length, get_or, pos, arith}
use Rattle.quant_factors.specs.Factors.{inverse_of}
use Rattle.slice_decoder.proofs.Restores.{low_restored, all-stay}
use Rattle.slice_decoder.proofs.narrow_restoring.restore_run.Goals as goal

pub returns-clause-within : goal.returns-clause-within
returns-clause-within c =
    all-stay (2 ^ 18) (λ (k : ℕ). inverse_of (get_or c.args.values.now k (pos 0)) c.args.index) 0 (length c.args.values.now)
    (λ k low lt. low_restored (get_or c.args.values.now k (pos 0)) c.args.index c.requires.index (c.requires.low c.if-not-is_low.false k (omega arith)))
