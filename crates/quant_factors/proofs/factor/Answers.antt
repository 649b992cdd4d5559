use Rattle.std.proofs.Common.{ℕ, ◌^◌, ◌≤◌, sym, subst, arith}
use Rattle.quant_factors.proofs.Tables.{table_is, factor_least, factor_most}
use Rattle.quant_factors.proofs.factor.Goals as goal

pub returns : goal.returns
returns c =
    let is = table_is c.args.i (omega arith) in
    let Least : ℕ → Type 0 = λ n. 4 ≤ n in
    let Most : ℕ → Type 0 = λ n. n ≤ 2 ^ 34 in
    record {
      value = is;
      least = subst Least (sym is) (factor_least c.args.i (omega arith));
      most = subst Most (sym is) (factor_most c.args.i (omega arith));
    }
