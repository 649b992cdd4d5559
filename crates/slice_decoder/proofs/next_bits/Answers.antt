use Rattle.std.proofs.Common.{◌^◌, ◌<◌, arith}
use Rattle.slice_decoder.proofs.Heads.{bits-number, number-small, fits_32}
use Rattle.slice_decoder.proofs.next_bits.Goals as goal

pub overflow_cast-result : goal.overflow_cast-result
overflow_cast-result c =
    let small : c.in-Ok.number < 2 ^ c.args.n = omega (arith, bits-number c.args.reader.now c.bits.new.self c.args.n c.in-Ok.number c.in-Ok.ensures, number-small c.args.reader.now.rest c.args.n c.requires.there) in
    omega (arith, fits_32 c.in-Ok.number c.args.n c.requires.few small)

pub returns-in-Ok-clause-small : goal.returns-in-Ok-clause-small
returns-in-Ok-clause-small c =
    omega (arith, bits-number c.args.reader.now c.bits.new.self c.args.n c.in-Ok.number c.in-Ok.ensures, number-small c.args.reader.now.rest c.args.n c.requires.there)
