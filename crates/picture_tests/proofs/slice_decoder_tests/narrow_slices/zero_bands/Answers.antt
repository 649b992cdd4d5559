use Rattle.std.proofs.Common.{ap}
use Rattle.slice_decoder.proofs.NarrowBands.{narrow-zero}
use Rattle.slice_decoder.proofs.Ready.{ready-zero}
use Rattle.picture_tests.proofs.slice_decoder_tests.narrow_slices.zero_bands.Goals as goal

pub returns-clause-ready : goal.returns-clause-ready
returns-clause-ready g c = λ sx sy.
    ready-zero c.args.layout.now c.args.size sx sy c.depth.result c.padded_size-padded.result.w c.padded_size-padded.result.h c.expect.result c.depth.ensures.value (ap (λ s. s.w) c.padded_size-padded.ensures.value) (ap (λ s. s.h) c.padded_size-padded.ensures.value)
    (rw c.expect.ensures at c.new.ensures)

pub returns-clause-narrow : goal.returns-clause-narrow
returns-clause-narrow g c =
    narrow-zero c.depth.result c.padded_size-padded.result.w c.padded_size-padded.result.h c.expect.result
    (rw c.expect.ensures at c.new.ensures)
