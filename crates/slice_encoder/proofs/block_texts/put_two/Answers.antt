use Rattle.std.proofs.Common.{◌∙◌, ◌+◌, ◌*◌, ◌/◌, ◌%◌, ◌^◌, ℕ, Bool, List, ap, subst, arith}
use Rattle.bit_codes.specs.Bits.{digits_below}
use Rattle.slice_encoder.specs.BitQueues.{IsSent}
use Rattle.slice_encoder.proofs.QueueBits.{unit_is, joined_fits, digits_join}
use Rattle.slice_encoder.proofs.block_texts.put_two.Goals as goal

pub put_bits-requires-clause-small : goal.put_bits-requires-clause-small
put_bits-requires-clause-small c =
    let x : ℕ = c.args.front / 256 in
    let y : ℕ = c.args.back / 256 in
    let n : ℕ = c.args.back % 256 in
    omega (arith, c.from.ensures, c.from-2.ensures, ap (λ (u : ℕ). c.from.result * u) (unit_is n (omega (arith, c.requires.back_few))), ap (λ (u : ℕ). u * 2 ^ n) c.from.ensures, joined_fits (c.args.front % 256) n x y c.requires.front_number c.requires.back_number)

pub returns : goal.returns
returns c =
    let a = c.args in
    let m : ℕ = a.front % 256 in
    let n : ℕ = a.back % 256 in
    let x : ℕ = a.front / 256 in
    let y : ℕ = a.back / 256 in
    let put = c.put_bits in
    subst (λ (t : List Bool). IsSent a.room.now a.queue put.new.room put.result t)
    (ap (λ (u : ℕ). digits_below (m + n) (c.from.result * u + c.from-2.result)) (unit_is n (omega (arith, c.requires.back_few)))
    ∙ ap (λ (u : ℕ). digits_below (m + n) (u * 2 ^ n + c.from-2.result)) c.from.ensures
    ∙ ap (λ (u : ℕ). digits_below (m + n) (x * 2 ^ n + u)) c.from-2.ensures
    ∙ digits_join m n x y c.requires.back_number)
    put.ensures
