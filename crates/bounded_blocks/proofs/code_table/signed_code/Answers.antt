use Rattle.std.proofs.Common.{w8, refl, ◌∙◌, arith}
use Rattle.std.proofs.lemmas.Int.{to_z-of_z}
use Rattle.bounded_blocks.proofs.TableCodes.{signed-next}
use Rattle.bounded_blocks.proofs.code_table.signed_code.Goals as goal

pub returns-clause-code : goal.returns-clause-code
returns-clause-code c some =
    let kept = to_z-of_z w8 c.signed.result (record { sfits = c.signed.type_inv }) in
    let a = c.args in
    (omega arith, λ rest. signed-next a.magnitude a.left a.bits a.word _ _ rest (omega arith) (omega arith) c.requires.order refl (kept ∙ c.signed.ensures.value))
