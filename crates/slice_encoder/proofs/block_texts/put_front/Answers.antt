use Rattle.std.proofs.Common.{◌≡◌, ◌-◌, ◌+◌, ◌<◌, ◌^◌, ℕ, Bool, List, subst, arith}
use Rattle.slice_encoder.specs.BitQueues.{IsSent}
use Rattle.slice_encoder.proofs.QueueBits.{unit_is, high_part_fits, digits_cut}
use Rattle.slice_encoder.proofs.block_texts.put_front.Goals as goal

pub put_bits-requires-clause-small : goal.put_bits-requires-clause-small
put_bits-requires-clause-small c =
    let n = c.args.text.length in
    let fit = c.min-fit.result in
    let all : n ≡ fit + (n - fit) = omega arith in
    let small : c.args.text.number < 2 ^ (fit + (n - fit)) = subst (λ (k : ℕ). c.args.text.number < 2 ^ k) all c.requires.small in
    rw (unit_is (n - fit) (omega (arith, c.requires.few))) (high_part_fits fit (n - fit) c.args.text.number small)

pub returns : goal.returns
returns c =
    let a = c.args in
    let n = a.text.length in
    let fit = c.min-fit.result in
    let put = c.put_bits in
    subst (λ (t : List Bool). IsSent a.room.now a.queue put.new.room put.result t) (digits_cut n fit a.left a.text.number _ (omega arith) (unit_is (n - fit) (omega (arith, c.requires.few)))) put.ensures
