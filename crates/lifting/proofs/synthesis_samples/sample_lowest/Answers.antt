use Rattle.std.proofs.Common.{◌∙◌, ℕ, suc, ◌+◌, ◌*◌, ◌<◌, arith, inl, inr}
use Rattle.std.proofs.Math.Nat.{mul-le-mul_right, suc-mul}
use Rattle.std.proofs.lemmas.Bool.{cases_eq}
use Rattle.lifting.proofs.synthesis_samples.sample_lowest.Goals as goal

pub loop-y-preserved : goal.loop-y-preserved
loop-y-preserved G c =
    let here : ℕ = c.loop-y.y in
    let w : ℕ = c.args.area.w in
    let row = c.sample_row_of.ensures in
    record {
      count = row.count ∙ c.loop-y.invariant.count;
      done = λ y x lt lx. elim (cases_eq y here) [
        | inl is ↦ rw is (row.row x lx)
        | inr ne ↦
            let above : y < here = omega arith in
            row.before (y * w + x) (omega (arith, lx, suc-mul y w, mul-le-mul_right {m = suc y} {n = here} w (omega arith))) ∙ c.loop-y.invariant.done y x above lx
      ];
    }
