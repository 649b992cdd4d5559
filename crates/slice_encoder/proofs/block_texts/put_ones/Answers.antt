use Rattle.std.proofs.Common.{◌≡◌, ◌∙◌, ◌+◌, ◌-◌, ℕ, List, Bool, true, replicate, refl, ap, sym, subst, arith}
use Rattle.std.proofs.lemmas.List.{replicate-append-replicate, length-replicate}
use Rattle.bit_codes.specs.Bits.{digits_below}
use Rattle.slice_encoder.specs.BitQueues.{IsSent}
use Rattle.slice_encoder.proofs.QueueBits.{unit_is, digits_ones}
use Rattle.slice_encoder.proofs.BlockTexts.{room_behind, sent_nothing, sent_join}
use Rattle.slice_encoder.proofs.block_texts.put_ones.Goals as goal

pub loop-left-init : goal.loop-left-init
loop-left-init c =
    let a = c.args in
    let none : a.count - a.count ≡ 0 = omega arith in
    record {
      same_length = refl;
      most = omega arith;
      sent = subst (λ (k : ℕ). IsSent a.room.now a.queue a.room.now a.queue (replicate k true)) (sym none) (sent_nothing a.room.now a.queue c.requires.waits);
    }

pub put_bits-queue-requires-clause-room : goal.put_bits-queue-requires-clause-room
put_bits-queue-requires-clause-room c =
    let a = c.args in
    let l = c.loop-left in
    room_behind a.room.now a.queue l.room l.queue (replicate (a.count - l.left) true) a.count c.min-n.result c.requires l.invariant.sent (omega (arith, length-replicate (a.count - l.left) true, l.invariant.most))

pub loop-left-preserved : goal.loop-left-preserved
loop-left-preserved c =
    let a = c.args in
    let l = c.loop-left in
    let n = c.min-n.result in
    let put = c.put_bits-queue in
    let ones : digits_below n _ ≡ replicate n true = ap (λ (u : ℕ). digits_below n (u - 1)) (unit_is n (omega arith)) ∙ digits_ones n in
    let here : IsSent l.room l.queue put.new.room put.result (replicate n true) = subst (λ (t : List Bool). IsSent l.room l.queue put.new.room put.result t) ones put.ensures in
    let all : a.count - l.left + n ≡ a.count - (l.left - c.from-left.result) = omega (arith, l.invariant.most, c.from-left.ensures) in
    record {
      same_length = put.ensures.same_length ∙ l.invariant.same_length;
      most = omega (arith, l.invariant.most);
      sent =
          subst (λ (t : List Bool). IsSent a.room.now a.queue put.new.room put.result t) (replicate-append-replicate (a.count - l.left) n true ∙ ap (λ (k : ℕ). replicate k true) all)
          (sent_join a.room.now a.queue l.room l.queue put.new.room put.result (replicate (a.count - l.left) true) (replicate n true) l.invariant.sent here);
    }
