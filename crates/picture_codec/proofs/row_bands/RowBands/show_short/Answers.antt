use Rattle.std.proofs.Common.{◌≡◌, ◌∙◌, sym, ap, subst, arith}
use Rattle.planes.specs.Subbands.{BandStack}
use Rattle.planes.specs.declared.NarrowTrio.{NarrowTrio}
use Rattle.slice_geometry.specs.Slicing.{slice_count}
use Rattle.slice_geometry.specs.Frames.{frame_of}
use Rattle.planes.specs.declared.Trio.{Trio}
use Rattle.slice_decoder.specs.Narrow.{trio_of}
use Rattle.slice_decoder.specs.Short.{shown_trio}
use Rattle.picture_codec.specs.Pictures.{size_of}
use Rattle.picture_codec.specs.Samples.{SamplesSeen, PictureSeen, sample_bits, with_component}
use Rattle.picture_codec.specs.Decoding.{AreTaken, stack_of, with_synthesised}
use Rattle.picture_codec.specs.DecodedBands.{AllAgree, narrow_of, LateSeen}
use Rattle.picture_codec.proofs.SameShown.{same_taken, same_synthesised}
use Rattle.picture_codec.proofs.TakenRows.{narrow-beside, beside-kept}
use Rattle.picture_codec.proofs.row_bands.RowBands.show_short.Goals as goal

pub take_component-requires-clause-beside : goal.take_component-requires-clause-beside
take_component-requires-clause-beside c =
    let short = narrow_of (shown_trio c.args.short.now) in
    narrow-beside short c.self.inside.narrow.bands c.self.inside.wide.bands c.self.inside.is_wide c.self.invariant.sizes
    (subst (λ (b : LateSeen Trio). AllAgree short b.bands) (sym c.self.view_is) c.requires.beside)

pub show_in_32_bits-requires-clause-taken : goal.show_in_32_bits-requires-clause-taken
show_in_32_bits-requires-clause-taken c =
    let s = c.args.params.now.layout in
    let size = size_of (frame_of c.args.picture.now.shape) c.args.c in
    let a : BandStack = stack_of (shown_trio c.args.short.now) c.args.c in
    let b : BandStack = stack_of (trio_of c.take_component.new.self.bands) c.args.c in
    let shown : c.narrow_stack-bands.result.now ≡ b =
    c.narrow_stack-bands.ensures.value ∙ ap (λ (n : NarrowTrio). stack_of (trio_of n) c.args.c) c.bands.ensures.value in
    subst (λ (z : BandStack). AreTaken s size (slice_count s) z) (sym shown)
    (same_taken s size (slice_count s) a b c.requires.taken c.take_component.ensures.same)

pub invariant_of-self : goal.invariant_of-self
invariant_of-self c =
    let short = narrow_of (shown_trio c.args.short.now) in
    let before =
    narrow-beside short c.self.inside.narrow.bands c.self.inside.wide.bands c.self.inside.is_wide c.self.invariant.sizes
    (subst (λ (b : LateSeen Trio). AllAgree short b.bands) (sym c.self.view_is) c.requires.beside) in
    beside-kept short c.self.inside.narrow c.take_component.new.self c.self.inside.wide before c.take_component.ensures.beside c.self.invariant.sizes

pub returns-clause-picture : goal.returns-clause-picture
returns-clause-picture c =
    let s = c.args.params.now.layout in
    let p = c.args.picture.now in
    let size = size_of (frame_of p.shape) c.args.c in
    let a : BandStack = stack_of (shown_trio c.args.short.now) c.args.c in
    let b : BandStack = stack_of (trio_of c.take_component.new.self.bands) c.args.c in
    let shown : c.narrow_stack-bands.result.now ≡ b =
    c.narrow_stack-bands.ensures.value ∙ ap (λ (n : NarrowTrio). stack_of (trio_of n) c.args.c) c.bands.ensures.value in
    let with_rows : SamplesSeen → PictureSeen = λ rows. record p { samples = with_component p.samples c.args.c rows } in
    c.show_in_32_bits.ensures.picture
    ∙ ap (λ (z : BandStack). with_synthesised c.args.params.now.wavelet p c.args.c z) shown
    ∙ ap with_rows (same_synthesised c.args.params.now.wavelet size (sample_bits p c.args.c) a b
    (omega (arith, c.requires.taken.depth, c.show_in_32_bits.ensures.allowed.depth)) c.take_component.ensures.same)
