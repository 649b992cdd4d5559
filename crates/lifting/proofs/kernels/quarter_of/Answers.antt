use Rattle.std.proofs.Common.{◌≡◌, ◌∙◌, arith, ap, pos, ◌+ℤ◌}
use Rattle.std.specs.Int.{int_shr}
use Rattle.lifting.proofs.Growth.{few_more_within, quarter_within}
use Rattle.lifting.proofs.kernels.quarter_of.Goals as goal

pub returns : goal.returns
returns g c =
    let t = g.met.T.Number in
    let v = g.T.Number.value c.args.v in
    let added : g.T.Number.value c.add.result ≡ v +ℤ pos 2 = t.add_law c.args.v c.two.result c.add.result c.add.ensures (t.fits_law _ (few_more_within g.T.Number.reach v _ 2 c.requires c.two.ensures (omega arith))) ∙ ap (λ z. v +ℤ z) c.two.ensures in
    let is : g.T.Number.value c.shr.result ≡ int_shr (v +ℤ pos 2) 2 = t.shr_law c.add.result 2 c.shr.result (omega arith) c.shr.ensures ∙ ap (λ z. int_shr z 2) added in
    record { value = is; small = quarter_within g.T.Number.reach v _ c.requires is }
