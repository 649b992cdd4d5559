use Rattle.std.proofs.Common.{◌≡◌, ◌∙◌, ℕ, Bool, List, ◌+◌, ◌*◌, ◌%◌, ◌^◌, ◌++◌, ap, subst, arith, pos}
use Rattle.std.specs.Prelude.{◌-ℤ◌}
use Rattle.bit_codes.specs.Bits.{digits_below}
use Rattle.bit_codes.specs.Codes.{signed_code_of}
use Rattle.slice_encoder.specs.CodeTables.{IsEntry}
use Rattle.slice_encoder.proofs.QueueBits.{unit_is, joined_fits, digits_join}
use Rattle.slice_encoder.proofs.CodeTables.{pair_is}
use Rattle.slice_encoder.proofs.code_tables.pair_at.Goals as goal

pub entry_of-requires-clause-small : goal.entry_of-requires-clause-small
entry_of-requires-clause-small c =
    let one = c.text_at-front in
    let two = c.text_at-back in
    let x = one.result.number in
    let unit = unit_is two.result.length (omega (arith, two.ensures.few)) in
    omega (arith, ap (λ (u : ℕ). x * u) unit, joined_fits one.result.length two.result.length x two.result.number one.ensures.number two.ensures.number)

pub returns : goal.returns
returns c =
    let one = c.text_at-front in
    let two = c.text_at-back in
    let m = one.result.length in
    let n = two.result.length in
    let x = one.result.number in
    let y = two.result.number in
    let a = c.args in
    let unit = unit_is n (omega (arith, two.ensures.few)) in
    let text : digits_below (m + n) (x * (1 * 2 ^ n % 18446744073709551616) + y) ≡ signed_code_of (pos a.first -ℤ pos 32) ++ signed_code_of (pos a.second -ℤ pos 32) =
    ap (λ (u : ℕ). digits_below (m + n) (x * u + y)) unit
    ∙ digits_join m n x y two.ensures.number
    ∙ ap (λ (t : List Bool). t ++ digits_below n y) one.ensures.text
    ∙ ap (λ (t : List Bool). signed_code_of (pos a.first -ℤ pos 32) ++ t) two.ensures.text
    in
    pair_is c.entry_of.result a.first a.second (omega (arith, c.if-first-eq0.false)) (omega (arith, c.if-second-eq0.false)) (subst (λ (t : List Bool). IsEntry c.entry_of.result t) text c.entry_of.ensures)
