use Rattle.std.proofs.Common.{arith, ap, ◌∙◌, pos}
use Rattle.std.proofs.lemmas.Int.{ints, to_z-of_z}
use Rattle.std.specs.Int.{int_div_euclid}
use mir.Syntax.{w64}
use Rattle.dc_prediction.proofs.predicted.I64Predicted.mean_of.Goals as goal

pub returns : goal.returns
returns c =
    to_z-of_z w64 c.div_euclid.result (record { sfits = c.div_euclid.type_inv })
    ∙ c.div_euclid.ensures
    ∙ ap (λ z. int_div_euclid z (pos 3)) (omega (arith, ints))
