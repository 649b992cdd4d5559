use Rattle.std.proofs.Common.{◌≡◌, ℕ, ◌+◌, ◌*◌, ◌^◌, pos, List, Bool, length, refl, sym, subst, arith}
use Rattle.planes.specs.declared.Trio.{Trio}
use Rattle.bounded_blocks.specs.Parts.{block_of}
use Rattle.slice_geometry.specs.Slicing.{length_bits}
use Rattle.slice_decoder.specs.Components.{Part}
use Rattle.slice_decoder.specs.Jobs.{part_in, luma_part, colour_part, AreSizedBands}
use Rattle.slice_decoder.specs.Narrow.{trio_of}
use Rattle.slice_decoder.proofs.NarrowBands.{nothing-read}
use Rattle.slice_decoder.proofs.SliceSteps.{same_block, both-read, luma-not-read}
use Rattle.slice_decoder.proofs.narrow_slice.read_blocks.Goals as goal

pub returns-clause-read : goal.returns-clause-read
returns-clause-read c =
    let start : ℕ = 7 + length_bits (length c.args.bytes.now) in
    let middle : ℕ = start + c.args.luma_bits in
    let luma_block : List Bool = block_of c.args.bytes.now start middle in
    let colour_block : List Bool = block_of c.args.bytes.now middle (8 * length c.args.bytes.now) in
    let luma_is : c.new-luma.result ≡ luma_block = same_block c.args.bytes.now c.new-luma.result _ _ start middle c.new-luma.ensures (omega (arith, c.length_bits.ensures, c.from-start.ensures)) (omega (arith, c.length_bits.ensures, c.from-start.ensures, c.from.ensures, c.from-2.ensures)) in
    let colour_is : c.new-colour.result ≡ colour_block = same_block c.args.bytes.now c.new-colour.result _ _ middle (8 * length c.args.bytes.now) c.new-colour.ensures (omega (arith, c.length_bits.ensures, c.from-start.ensures, c.from.ensures, c.from-2.ensures)) (omega (arith, c.length_bits.ensures, c.from-start.ensures, c.from.ensures, c.from-2.ensures, c.requires.fits)) in
    let new : Trio = record { luma = c.read_luma.new.bands; c1 = c.read_colour.new.first; c2 = c.read_colour.new.second } in
    both-read (pos (2 ^ 18)) (length c.args.buffer.now) (part_in c.luma-luma_job.result) (luma_part c.args.job) (part_in c.colour-colour_job.result) (colour_part c.args.job) c.new-luma.result luma_block c.new-colour.result colour_block
    c.luma-luma_job.ensures.part c.colour-colour_job.ensures.part luma_is colour_is (trio_of c.args.bands.now) new
    (length c.read_luma.new.buffer) c.read_colour.result c.read_luma.auto.buffer c.if-not-read_luma.ensures.answer c.if-not-read_luma.ensures.keeps c.read_colour.ensures.answer c.read_colour.ensures.first_keeps c.read_colour.ensures.second_keeps

pub returns-then-not-read_luma-clause-read : goal.returns-then-not-read_luma-clause-read
returns-then-not-read_luma-clause-read c =
    let start : ℕ = 7 + length_bits (length c.args.bytes.now) in
    let middle : ℕ = start + c.args.luma_bits in
    let luma_block : List Bool = block_of c.args.bytes.now start middle in
    let colour_block : List Bool = block_of c.args.bytes.now middle (8 * length c.args.bytes.now) in
    let luma_is : c.new-luma.result ≡ luma_block = same_block c.args.bytes.now c.new-luma.result _ _ start middle c.new-luma.ensures (omega (arith, c.length_bits.ensures, c.from-start.ensures)) (omega (arith, c.length_bits.ensures, c.from-start.ensures, c.from.ensures, c.from-2.ensures)) in
    let new : Trio = record { luma = c.read_luma.new.bands; c1 = c.args.bands.now.c1; c2 = c.args.bands.now.c2 } in
    let colour : Part = colour_part c.args.job in
    luma-not-read (pos (2 ^ 18)) (length c.args.buffer.now) (part_in c.luma-luma_job.result) (luma_part c.args.job) colour colour c.new-luma.result luma_block colour_block colour_block
    c.luma-luma_job.ensures.part refl luma_is refl (trio_of c.args.bands.now) new
    c.if-not-read_luma.ensures.answer c.if-not-read_luma.ensures.keeps (nothing-read colour c.args.bands.now.c1) (nothing-read colour c.args.bands.now.c2)

pub read_luma-requires-clause-sizes : goal.read_luma-requires-clause-sizes
read_luma-requires-clause-sizes c = subst (λ (p : Part). AreSizedBands p c.args.bands.now.luma) (sym c.luma-luma_job.ensures.part) c.requires.luma_sizes

pub read_colour-requires-clause-first_sizes : goal.read_colour-requires-clause-first_sizes
read_colour-requires-clause-first_sizes c = subst (λ (p : Part). AreSizedBands p c.args.bands.now.c1) (sym c.colour-colour_job.ensures.part) c.requires.c1_sizes

pub read_colour-requires-clause-second_sizes : goal.read_colour-requires-clause-second_sizes
read_colour-requires-clause-second_sizes c = subst (λ (p : Part). AreSizedBands p c.args.bands.now.c2) (sym c.colour-colour_job.ensures.part) c.requires.c2_sizes

pub returns-clause-narrow : goal.returns-clause-narrow
returns-clause-narrow c = record {
  luma = c.if-not-read_luma.ensures.narrow;
  c1 = c.read_colour.ensures.first_narrow;
  c2 = c.read_colour.ensures.second_narrow;
}

pub returns-then-not-read_luma-clause-narrow : goal.returns-then-not-read_luma-clause-narrow
returns-then-not-read_luma-clause-narrow c = record {
  luma = c.if-not-read_luma.ensures.narrow;
  c1 = c.requires.narrow.c1;
  c2 = c.requires.narrow.c2;
}
