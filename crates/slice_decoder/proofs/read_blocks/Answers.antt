use Rattle.std.proofs.Common.{◌≡◌, ℕ, ◌+◌, ◌*◌, List, Bool, length, refl, sym, ap, subst, ◌∙◌, arith}
use Rattle.std.specs.Prelude.{◌&&◌}
use Rattle.planes.specs.declared.Trio.{Trio}
use Rattle.bounded_blocks.specs.Parts.{block_of}
use Rattle.slice_geometry.specs.Shape.{IsSize}
use Rattle.slice_geometry.specs.Slicing.{length_bits}
use Rattle.slice_decoder.specs.Slice.{are_small}
use Rattle.slice_decoder.specs.Jobs.{part_in, luma_part, colour_part, AreSizedBands}
use Rattle.slice_decoder.specs.Components.{Part}
use Rattle.slice_decoder.specs.Narrow.{block_values}
use Rattle.slice_decoder.proofs.SliceSteps.{same_block, is-read-alike}
use Rattle.slice_decoder.proofs.read_blocks.Goals as goal

pub returns-then-read_luma : goal.returns-then-read_luma
returns-then-read_luma c =
    let start : ℕ = 7 + length_bits (length c.args.bytes.now) in
    let middle : ℕ = start + c.args.luma_bits in
    let luma_block : List Bool = block_of c.args.bytes.now start middle in
    let colour_block : List Bool = block_of c.args.bytes.now middle (8 * length c.args.bytes.now) in
    let luma_is : c.new-luma.result ≡ luma_block = same_block c.args.bytes.now c.new-luma.result _ _ start middle c.new-luma.ensures (omega (arith, c.length_bits.ensures, c.from-start.ensures)) (omega (arith, c.length_bits.ensures, c.from-start.ensures, c.from.ensures, c.from-2.ensures)) in
    let colour_is : c.new-colour.result ≡ colour_block = same_block c.args.bytes.now c.new-colour.result _ _ middle (8 * length c.args.bytes.now) c.new-colour.ensures (omega (arith, c.length_bits.ensures, c.from-start.ensures, c.from.ensures, c.from-2.ensures)) (omega (arith, c.length_bits.ensures, c.from-start.ensures, c.from.ensures, c.from-2.ensures, c.requires.fits)) in
    let new : Trio = record { luma = c.read_luma.new.bands; c1 = c.read_colour.new.first; c2 = c.read_colour.new.second } in
    is-read-alike (part_in c.luma-luma_job.result) (luma_part c.args.job) (part_in c.colour-colour_job.result) (colour_part c.args.job) c.new-luma.result luma_block c.new-colour.result colour_block
    c.luma-luma_job.ensures.part c.colour-colour_job.ensures.part luma_is colour_is c.args.bands.now new c.read_colour.result
    (record {
      small = c.read_colour.ensures.small ∙ ap (λ (first : Bool). first && are_small (block_values 2 (part_in c.colour-colour_job.result) c.new-colour.result)) c.if-read_luma.ensures.small;
      luma_holds = λ e. c.if-read_luma.ensures.holds refl;
      c1_holds = c.read_colour.ensures.first;
      c2_holds = c.read_colour.ensures.second;
      luma_keeps = c.if-read_luma.ensures.keeps;
      c1_keeps = c.read_colour.ensures.first_keeps;
      c2_keeps = c.read_colour.ensures.second_keeps;
    })

pub read_luma-requires-clause-sizes : goal.read_luma-requires-clause-sizes
read_luma-requires-clause-sizes c = subst (λ (p : Part). AreSizedBands p c.args.bands.now.luma) (sym c.luma-luma_job.ensures.part) c.requires.luma_sizes

pub read_colour-requires-clause-first_sizes : goal.read_colour-requires-clause-first_sizes
read_colour-requires-clause-first_sizes c = subst (λ (p : Part). AreSizedBands p c.args.bands.now.c1) (sym c.colour-colour_job.ensures.part) c.requires.c1_sizes

pub read_colour-requires-clause-second_sizes : goal.read_colour-requires-clause-second_sizes
read_colour-requires-clause-second_sizes c = subst (λ (p : Part). AreSizedBands p c.args.bands.now.c2) (sym c.colour-colour_job.ensures.part) c.requires.c2_sizes

pub read_luma-requires-clause-size : goal.read_luma-requires-clause-size
read_luma-requires-clause-size c = subst (λ (p : Part). IsSize p.size.w p.size.h) (sym c.luma-luma_job.ensures.part) c.args.job.shape.now.luma_fits

pub read_colour-requires-clause-size : goal.read_colour-requires-clause-size
read_colour-requires-clause-size c = subst (λ (p : Part). IsSize p.size.w p.size.h) (sym c.colour-colour_job.ensures.part) c.args.job.shape.now.colour_fits
