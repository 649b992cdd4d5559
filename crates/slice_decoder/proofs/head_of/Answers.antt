use Rattle.std.proofs.Common.{length, ap, arith}
use Rattle.std.proofs.lemmas.List.{length-drop}
use Rattle.bit_codes.proofs.BitLemmas.{length-rest}
use Rattle.slice_geometry.proofs.LengthBits.{length_bits-most, length_bits-fit}
use Rattle.slice_decoder.proofs.head_of.Goals as goal

pub next_bits-qindex-requires-clause-there : goal.next_bits-qindex-requires-clause-there
next_bits-qindex-requires-clause-there c =
    omega (arith, ap (λ r. length r.rest) c.new-reader.ensures, length-rest c.args.bytes.now 0, c.requires.some)

pub next_bits-luma_bits-requires-clause-few : goal.next_bits-luma_bits-requires-clause-few
next_bits-luma_bits-requires-clause-few c = omega (arith, c.length_bits.ensures, length_bits-most (length c.args.bytes.now) c.requires.most)

pub next_bits-luma_bits-requires-clause-there : goal.next_bits-luma_bits-requires-clause-there
next_bits-luma_bits-requires-clause-there c =
    omega (arith, c.length_bits.ensures, length_bits-fit (length c.args.bytes.now) c.requires.some, ap length c.next_bits-qindex.ensures.left, length-drop 7 c.new-reader.result.rest, ap (λ r. length r.rest) c.new-reader.ensures, length-rest c.args.bytes.now 0)
