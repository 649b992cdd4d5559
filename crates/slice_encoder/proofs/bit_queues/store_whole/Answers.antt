use Rattle.std.proofs.Common.{◌≡◌, ◌∙◌, ◌-◌, ◌+◌, ◌/◌, ◌%◌, ◌≤◌, ◌++◌, length, ℕ, List, [], drop, take, refl, sym, ap, arith}
use Rattle.std.specs.Int.{bytes_high_first}
use Rattle.std.proofs.lemmas.List.{append-nil}
use Rattle.slice_encoder.specs.BitQueues.{bits_so_far}
use Rattle.slice_encoder.proofs.QueueBits.{word_of, whole_stored}
use Rattle.slice_encoder.proofs.bit_queues.store_whole.Goals as goal
use Rattle.slice_encoder.proofs.bit_queues.store_whole.Goals.{then-room-queue-ge8, else-room-queue-ge8}

pub returns-clause-text : goal.returns-clause-text
returns-clause-text c =
    let f = c.args.queue in
    let bytes : List ℕ = c.args.room.now in
    let inside : f.whole ≤ length bytes = omega (arith, c.requires.room) in
    let unit : List ℕ = bytes_high_first 8 (word_of f.count f.number) in
    elim c.if-room-queue-ge8.branch as (λ _. bits_so_far c.if-room-queue-ge8.room (record { whole = f.whole + f.count / 8; count = f.count % 8; number = f.number }) ≡ bits_so_far bytes f) [
      | then-room-queue-ge8 w ↦
          ap (λ (r : List ℕ). bits_so_far r (record { whole = f.whole + f.count / 8; count = f.count % 8; number = f.number })) w.room-is
          ∙ whole_stored bytes w.copy_from_slice.new.self (drop (f.whole + 8 - f.whole) (drop f.whole bytes)) f.whole f.count f.number 8 inside c.requires.few (omega (arith, c.requires.few)) (omega arith) (w.copy_from_slice.ensures.after ∙ w.to_be_bytes.ensures)
      | else-room-queue-ge8 w ↦
          let few : ℕ = length bytes - f.whole in
          let fits : f.count / 8 ≤ few = omega (arith, c.requires.room, inside) in
          ap (λ (r : List ℕ). bits_so_far r (record { whole = f.whole + f.count / 8; count = f.count % 8; number = f.number }))
          (w.room-is ∙ w.store_tail.ensures ∙ ap (λ (t : List ℕ). take f.whole bytes ++ t) (sym (append-nil (take few unit))))
          ∙ whole_stored bytes (take few unit) [] f.whole f.count f.number few inside c.requires.few fits (omega (arith, w.if-room-queue-ge8.false)) refl
    ]
