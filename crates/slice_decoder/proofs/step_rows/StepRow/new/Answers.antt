use Rattle.std.proofs.Common.{◌+◌, ◌*◌, ◌∷◌, [], refl, rules, arith}
use Rattle.slice_decoder.specs.declared.step_rows.StepKey.{StepKey}
use Rattle.slice_decoder.proofs.StepRows.{no-values}
use Rattle.slice_decoder.proofs.step_rows.StepRow.new.Goals as goal

pub invariant_of-result : goal.invariant_of-result
invariant_of-result c =
    let key : StepKey = record { each = 0; qindex = 0; areas = 0 ∷ 0 ∷ 0 ∷ 0 ∷ 0 ∷ []; matrix = c.new.result } in
    record {
      adds_count = search rules;
      limits_count = search rules;
      steps = λ k lt. absurd (omega (arith, lt, no-values key (3 * c.new.result.depth + 1) refl));
    }
