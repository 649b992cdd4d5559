use Rattle.std.proofs.Common.{◌≡◌, ℕ, ◌+◌, ◌*◌, List, Bool, length, refl, arith}
use Rattle.planes.specs.declared.Trio.{Trio}
use Rattle.bounded_blocks.specs.Parts.{block_of}
use Rattle.slice_store.specs.declared.short_bands.TheConstants.{MAX_SHORT}
use Rattle.slice_store.specs.ShortBands.{short_stack}
use Rattle.slice_geometry.specs.Slicing.{length_bits}
use Rattle.slice_decoder.specs.Components.{Part}
use Rattle.slice_decoder.specs.Jobs.{short_part}
use Rattle.slice_decoder.specs.Short.{shown_trio}
use Rattle.slice_decoder.proofs.NarrowBands.{nothing-read}
use Rattle.slice_decoder.proofs.SliceSteps.{same_block, both-read, luma-not-read}
use Rattle.slice_decoder.proofs.short_slice.read_blocks.Goals as goal

pub returns-clause-read : goal.returns-clause-read
returns-clause-read c =
    let start : ℕ = 7 + length_bits (length c.args.bytes.now) in
    let middle : ℕ = start + c.args.luma_bits in
    let luma_block : List Bool = block_of c.args.bytes.now start middle in
    let colour_block : List Bool = block_of c.args.bytes.now middle (8 * length c.args.bytes.now) in
    let luma_is : c.new-luma.result ≡ luma_block = same_block c.args.bytes.now c.new-luma.result _ _ start middle c.new-luma.ensures (omega (arith, c.length_bits.ensures, c.from-start.ensures)) (omega (arith, c.length_bits.ensures, c.from-start.ensures, c.from.ensures, c.from-2.ensures)) in
    let colour_is : c.new-colour.result ≡ colour_block = same_block c.args.bytes.now c.new-colour.result _ _ middle (8 * length c.args.bytes.now) c.new-colour.ensures (omega (arith, c.length_bits.ensures, c.from-start.ensures, c.from.ensures, c.from-2.ensures)) (omega (arith, c.length_bits.ensures, c.from-start.ensures, c.from.ensures, c.from-2.ensures, c.requires.fits)) in
    let new : Trio = record { luma = short_stack c.read_luma.new.bands; c1 = short_stack c.read_colour.new.first; c2 = short_stack c.read_colour.new.second } in
    both-read MAX_SHORT c.args.room.now (short_part c.args.luma_job) (short_part c.args.luma_job) (short_part c.args.colour_job) (short_part c.args.colour_job) c.new-luma.result luma_block c.new-colour.result colour_block
    refl refl luma_is colour_is (shown_trio c.args.bands.now) new
    c.read_luma.new.self c.read_colour.result c.if-not-read_luma.ensures.room c.if-not-read_luma.ensures.answer c.if-not-read_luma.ensures.keeps c.read_colour.ensures.answer c.read_colour.ensures.first_keeps c.read_colour.ensures.second_keeps

pub returns-then-not-read_luma-clause-read : goal.returns-then-not-read_luma-clause-read
returns-then-not-read_luma-clause-read c =
    let start : ℕ = 7 + length_bits (length c.args.bytes.now) in
    let middle : ℕ = start + c.args.luma_bits in
    let luma_block : List Bool = block_of c.args.bytes.now start middle in
    let colour_block : List Bool = block_of c.args.bytes.now middle (8 * length c.args.bytes.now) in
    let luma_is : c.new-luma.result ≡ luma_block = same_block c.args.bytes.now c.new-luma.result _ _ start middle c.new-luma.ensures (omega (arith, c.length_bits.ensures, c.from-start.ensures)) (omega (arith, c.length_bits.ensures, c.from-start.ensures, c.from.ensures, c.from-2.ensures)) in
    let new : Trio = record { luma = short_stack c.read_luma.new.bands; c1 = short_stack c.args.bands.now.c1; c2 = short_stack c.args.bands.now.c2 } in
    let colour : Part = short_part c.args.colour_job in
    luma-not-read MAX_SHORT c.args.room.now (short_part c.args.luma_job) (short_part c.args.luma_job) colour colour c.new-luma.result luma_block colour_block colour_block
    refl refl luma_is refl (shown_trio c.args.bands.now) new
    c.if-not-read_luma.ensures.answer c.if-not-read_luma.ensures.keeps (nothing-read colour (short_stack c.args.bands.now.c1)) (nothing-read colour (short_stack c.args.bands.now.c2))

pub returns-clause-cut : goal.returns-clause-cut
returns-clause-cut c = record {
  luma = c.if-not-read_luma.ensures.cut;
  c1 = c.read_colour.ensures.first_cut;
  c2 = c.read_colour.ensures.second_cut;
}

pub returns-then-not-read_luma-clause-cut : goal.returns-then-not-read_luma-clause-cut
returns-then-not-read_luma-clause-cut c = record {
  luma = c.if-not-read_luma.ensures.cut;
  c1 = c.requires.cut.c1;
  c2 = c.requires.cut.c2;
}
