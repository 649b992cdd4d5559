use Rattle.std.proofs.Common.{◌≡◌, ◌∙◌, ℕ, ◌+◌, ◌-◌, ◌*◌, ◌++◌, length, sym, ap, arith}
use Rattle.std.proofs.lemmas.List.{length-append, take_all}
use Rattle.bit_codes.specs.Bits.{bits_of, digits_below}
use Rattle.bit_codes.proofs.CodeOf.{length-digits_below}
use Rattle.bounded_blocks.specs.Writing.{codes_of, need, filled}
use Rattle.slice_geometry.specs.Slicing.{length_bits}
use Rattle.slice_geometry.proofs.LengthBits.{length_bits-most, length_bits-fit}
use Rattle.slice_encoder.specs.declared.packing.TheConstants.{START}
use Rattle.slice_encoder.specs.Trials.{Lists}
use Rattle.slice_encoder.specs.BlockValues.{block_list}
use Rattle.slice_encoder.proofs.BlockTexts.{sent_join, room_read}
use Rattle.slice_encoder.proofs.Filled.{length-filled}
use Rattle.slice_encoder.proofs.SliceBits.{fit_from, whole_text}
use Rattle.slice_encoder.proofs.packing.put_slice.Goals as goal

-- how long the head is
length-head : (m index need : ℕ) → length (digits_below 7 index ++ digits_below m need) ≡ 7 + m
length-head m index need = omega (arith, length-append (digits_below 7 index) (digits_below m need), length-digits_below 7 index, length-digits_below m need)

pub put_head-head-requires-clause-few : goal.put_head-head-requires-clause-few
put_head-head-requires-clause-few c = omega (arith, c.length_bits-m.ensures, length_bits-most (length c.args.bytes.now) c.requires.most)

pub put_head-head-requires-clause-room : goal.put_head-head-requires-clause-room
put_head-head-requires-clause-room c = record {
  waits = omega arith;
  inside = omega (arith, c.length_bits-m.ensures, length_bits-fit (length c.args.bytes.now) c.requires.some);
}

pub put_block-queue-requires-clause-most : goal.put_block-queue-requires-clause-most
put_block-queue-requires-clause-most c =
    let bytes = length c.args.bytes.now in
    let fit = fit_from bytes (record { luma = block_list c.args.luma; colour = block_list c.args.colour }) c.requires.fits in
    omega (arith, c.put_head-head.ensures.place, length-head c.length_bits-m.result c.args.index c.args.luma_need, c.length_bits-m.ensures, length_bits-most bytes c.requires.most, c.requires.need, fit.both, c.requires.most)

pub put_block-queue-requires-clause-room : goal.put_block-queue-requires-clause-room
put_block-queue-requires-clause-room c =
    let bytes = length c.args.bytes.now in
    let fit = fit_from bytes (record { luma = block_list c.args.luma; colour = block_list c.args.colour }) c.requires.fits in
    record {
      waits = c.put_head-head.ensures.waits;
      inside = omega (arith, c.put_head-head.ensures.place, c.put_head-head.ensures.same_length, length-head c.length_bits-m.result c.args.index c.args.luma_need, c.length_bits-m.ensures, length_bits-fit bytes c.requires.some, c.requires.need, fit.both);
    }

pub overflow_sub-end : goal.overflow_sub-end
overflow_sub-end c =
    let bytes = length c.args.bytes.now in
    let fit = fit_from bytes (record { luma = block_list c.args.luma; colour = block_list c.args.colour }) c.requires.fits in
    omega (arith, c.from.ensures, c.length_bits-m.ensures, length_bits-fit bytes c.requires.some, c.requires.need, fit.both)

pub put_block-requires-clause-most : goal.put_block-requires-clause-most
put_block-requires-clause-most c =
    let bytes = length c.args.bytes.now in
    let fit = fit_from bytes (record { luma = block_list c.args.luma; colour = block_list c.args.colour }) c.requires.fits in
    omega (
      arith,
      c.put_head-head.ensures.place,
      c.put_block-queue.ensures.place,
      length-head c.length_bits-m.result c.args.index c.args.luma_need,
      length-filled c.args.luma_need (codes_of (block_list c.args.luma)),
      c.from.ensures,
      c.length_bits-m.ensures,
      length_bits-fit bytes c.requires.some,
      c.requires.need,
      fit.both,
      c.requires.most,
    )

pub put_block-requires-clause-room : goal.put_block-requires-clause-room
put_block-requires-clause-room c =
    let bytes = length c.args.bytes.now in
    let fit = fit_from bytes (record { luma = block_list c.args.luma; colour = block_list c.args.colour }) c.requires.fits in
    record {
      waits = c.put_block-queue.ensures.waits;
      inside = omega (
        arith,
        c.put_head-head.ensures.place,
        c.put_head-head.ensures.same_length,
        c.put_block-queue.ensures.place,
        c.put_block-queue.ensures.same_length,
        length-head c.length_bits-m.result c.args.index c.args.luma_need,
        length-filled c.args.luma_need (codes_of (block_list c.args.luma)),
        c.from.ensures,
        c.length_bits-m.ensures,
        length_bits-fit bytes c.requires.some,
        c.requires.need,
        fit.both,
      );
    }

pub returns : goal.returns
returns c =
    let a = c.args in
    let bytes = length a.bytes.now in
    let l : Lists = record { luma = block_list a.luma; colour = block_list a.colour } in
    let fit = fit_from bytes l c.requires.fits in
    let m : ℕ = length_bits bytes in
    let m_is : c.length_bits-m.result ≡ m = c.length_bits-m.ensures in
    let n_is : a.luma_need ≡ need l.luma = c.requires.need in
    let one = c.put_head-head in
    let two = c.put_block-queue in
    let three = c.put_block in
    let left : ℕ = 8 * bytes - (7 + c.from.result + a.luma_need) in
    let head = digits_below 7 a.index ++ digits_below c.length_bits-m.result a.luma_need in
    let luma = filled a.luma_need (codes_of l.luma) in
    let colour = filled left (codes_of l.colour) in
    let sent =
    sent_join a.bytes.now START two.new.room two.result three.new.room three.result (head ++ luma) colour
    (sent_join a.bytes.now START one.new.room one.result two.new.room two.result head luma one.ensures two.ensures) three.ensures
    in
    let place : 8 * three.result.whole + three.result.count ≡ 8 * bytes =
    omega (
      arith,
      sent.place,
      length-append (head ++ luma) colour,
      length-append head luma,
      length-head c.length_bits-m.result a.index a.luma_need,
      length-filled a.luma_need (codes_of l.luma),
      length-filled left (codes_of l.colour),
      c.from.ensures,
      m_is,
      length_bits-fit bytes c.requires.some,
      n_is,
      fit.both,
    )
    in
    let left_is : left ≡ 8 * bytes - (7 + m + need l.luma) = omega (arith, c.from.ensures, m_is, n_is) in
    sym (ap bits_of (take_all bytes three.new.room (omega (arith, sent.same_length))))
    ∙ room_read three.new.room three.result bytes sent.waits place
    ∙ sent.written
    ∙ ap (λ (k : ℕ). (head ++ luma) ++ filled k (codes_of l.colour)) left_is
    ∙ ap (λ (k : ℕ). ((digits_below 7 a.index ++ digits_below k a.luma_need) ++ luma) ++ filled (8 * bytes - (7 + m + need l.luma)) (codes_of l.colour)) m_is
    ∙ ap (λ (k : ℕ). ((digits_below 7 a.index ++ digits_below m k) ++ filled k (codes_of l.luma)) ++ filled (8 * bytes - (7 + m + need l.luma)) (codes_of l.colour)) n_is
    ∙ whole_text bytes m a.index l fit.both
