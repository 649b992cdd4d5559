use Rattle.std.proofs.Common.{◌≡◌, ◌∙◌, ℕ, ◌+◌, ◌-◌, ◌*◌, ◌/◌, ◌%◌, ◌<◌, length, take, subst, arith}
use Rattle.bit_codes.specs.Bits.{digits_below}
use Rattle.bit_codes.proofs.CodeOf.{length-digits_below}
use Rattle.bounded_blocks.specs.Writing.{codes_of}
use Rattle.slice_encoder.specs.BitQueues.{IsSent}
use Rattle.slice_encoder.proofs.BlockTexts.{room_for, room_next, room_four, sent_next, sent_four, sent_as}
use Rattle.slice_encoder.proofs.CodeTables.{places_below, pair_entry_is}
use Rattle.slice_encoder.proofs.block_texts.put_fours.Goals.{then-front-back-lt255, else-front-back-lt255}
use Rattle.slice_encoder.proofs.block_texts.put_fours.Goals as goal

pub pair_entry-front-requires-clause-first : goal.pair_entry-front-requires-clause-first
pair_entry-front-requires-clause-first c = places_below c.args.values.now c.args.places.now c.requires.places (4 * c.loop-four.four) (omega (arith, c.loop-four-test.true))

pub pair_entry-front-requires-clause-second : goal.pair_entry-front-requires-clause-second
pair_entry-front-requires-clause-second c = places_below c.args.values.now c.args.places.now c.requires.places (4 * c.loop-four.four + 1) (omega (arith, c.loop-four-test.true))

pub pair_entry-back-requires-clause-first : goal.pair_entry-back-requires-clause-first
pair_entry-back-requires-clause-first c = places_below c.args.values.now c.args.places.now c.requires.places (4 * c.loop-four.four + 2) (omega (arith, c.loop-four-test.true))

pub pair_entry-back-requires-clause-second : goal.pair_entry-back-requires-clause-second
pair_entry-back-requires-clause-second c = places_below c.args.values.now c.args.places.now c.requires.places (4 * c.loop-four.four + 3) (omega (arith, c.loop-four-test.true))

pub put_two-queue-requires-clause-room : goal.put_two-queue-requires-clause-room
put_two-queue-requires-clause-room c =
    let a = c.args in
    let l = c.loop-four in
    let vs = a.values.now in
    let k : ℕ = 4 * l.four in
    let q = l.queue in
    let x = c.pair_entry-front.result in
    let y = c.pair_entry-back.result in
    let inside : k + 3 < length vs = omega (arith, c.loop-four-test.true) in
    let front = pair_entry_is vs a.places.now x k (k + 1) c.requires.places (omega (arith, inside)) (omega (arith, inside)) c.pair_entry-front.ensures (omega (arith, c.if-front-back-lt255.true)) in
    let back = pair_entry_is vs a.places.now y (k + 2) (k + 3) c.requires.places (omega (arith, inside)) inside c.pair_entry-back.ensures (omega (arith, c.if-front-back-lt255.true)) in
    room_for (length l.room) q _ (x % 256 + y % 256)
    (room_four vs k a.room.now a.queue l.room q l.invariant.sent (digits_below (x % 256) (x / 256)) (digits_below (y % 256) (y / 256)) inside front.digits back.digits c.requires.room)
    (omega (arith, length-digits_below (x % 256) (x / 256), length-digits_below (y % 256) (y / 256)))

pub put_apart-next-requires-clause-room : goal.put_apart-next-requires-clause-room
put_apart-next-requires-clause-room c =
    let a = c.args in
    let l = c.loop-four in
    let k : ℕ = 4 * l.four in
    room_next a.values.now k a.room.now a.queue l.room l.queue l.invariant.sent (k + 4 - k) c.requires.room

pub loop-four-preserved : goal.loop-four-preserved
loop-four-preserved c =
    let a = c.args in
    let l = c.loop-four in
    let join = c.if-front-back-lt255 in
    let vs = a.values.now in
    let k : ℕ = 4 * l.four in
    let q = l.queue in
    let q' = join.queue in
    record {
      same_length = join.auto.room ∙ l.invariant.same_length;
      sent = elim join.branch as (λ _. IsSent a.room.now a.queue join.room q' (codes_of (take (4 * (l.four + 1)) vs))) [
        | then-front-back-lt255 w ↦
            let x = c.pair_entry-front.result in
            let y = c.pair_entry-back.result in
            let inside : k + 3 < length vs = omega (arith, c.loop-four-test.true) in
            let next : k + 4 ≡ 4 * (l.four + 1) = omega arith in
            let front = pair_entry_is vs a.places.now x k (k + 1) c.requires.places (omega (arith, inside)) (omega (arith, inside)) c.pair_entry-front.ensures (omega (arith, w.if-front-back-lt255.true)) in
            let back = pair_entry_is vs a.places.now y (k + 2) (k + 3) c.requires.places (omega (arith, inside)) inside c.pair_entry-back.ensures (omega (arith, w.if-front-back-lt255.true)) in
            let put = w.put_two-queue in
            subst (λ (n : ℕ). IsSent a.room.now a.queue join.room q' (codes_of (take n vs))) next
            (sent_as a.room.now a.queue put.new.room put.result join.room q' (codes_of (take (k + 4) vs))
            (sent_four vs k a.room.now a.queue l.room q l.invariant.sent (digits_below (x % 256) (x / 256)) (digits_below (y % 256) (y / 256)) inside front.digits back.digits put.new.room put.result put.ensures)
            w.room-is w.queue-is)
        | else-front-back-lt255 w ↦
            let next : k + (k + 4 - k) ≡ 4 * (l.four + 1) = omega arith in
            let put = w.put_apart-next in
            subst (λ (n : ℕ). IsSent a.room.now a.queue join.room q' (codes_of (take n vs))) next
            (sent_as a.room.now a.queue put.new.room put.result join.room q' (codes_of (take (k + (k + 4 - k)) vs))
            (sent_next vs k a.room.now a.queue l.room q l.invariant.sent (k + 4 - k) put.new.room put.result put.ensures)
            w.room-is w.queue-is)
      ];
    }

pub returns : goal.returns
returns c =
    let a = c.args in
    let l = c.loop-four in
    let all : 4 * l.four ≡ length a.values.now / 4 * 4 = omega (arith, c.loop-four-test.false, l.auto.four-end) in
    subst (λ (n : ℕ). IsSent a.room.now a.queue l.room l.queue (codes_of (take n a.values.now))) all l.invariant.sent
