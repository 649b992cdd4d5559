use Rattle.std.proofs.Common.{◌∙◌, ℕ, Bool, List, ◌++◌, take, sym, ap, append_assoc, arith}
use Rattle.bit_codes.specs.Bits.{bits_of, digits_below}
use Rattle.bit_codes.proofs.CodeOf.{length-digits_below}
use Rattle.slice_encoder.proofs.bit_queues.put_bits.Goals as goal

pub returns : goal.returns
returns c =
    let a = c.args in
    let q = a.queue in
    let more = c.waiting in
    let stored = c.store_whole in
    let room = a.room.now in
    let own = digits_below q.count q.number in
    let text = digits_below a.n a.number in
    record {
      same_length = stored.auto.room;
      waits = stored.ensures.waits;
      place = omega (arith, stored.ensures.place, more.ensures.whole, more.ensures.count, length-digits_below a.n a.number);
      written =
          stored.ensures.text
          ∙ ap (λ (w : ℕ). bits_of (take w room) ++ digits_below more.result.count more.result.number) more.ensures.whole
          ∙ ap (λ (t : List Bool). bits_of (take q.whole room) ++ t) more.ensures.text
          ∙ sym (append_assoc (bits_of (take q.whole room)) own text);
    }
