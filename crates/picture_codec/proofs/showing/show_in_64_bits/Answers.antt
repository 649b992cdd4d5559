use Rattle.std.proofs.Common.{refl, ap, ◌∙◌}
use Rattle.slice_geometry.specs.declared.Size.{Size}
use Rattle.slice_geometry.specs.Slicing.{slice_count}
use Rattle.slice_geometry.specs.Frames.{frame_of}
use Rattle.picture_codec.specs.Pictures.{size_of}
use Rattle.picture_codec.specs.Samples.{SamplesSeen, PictureSeen, sample_bits, with_component}
use Rattle.picture_codec.proofs.Sizes as sizes
use Rattle.picture_codec.proofs.showing.show_in_64_bits.Goals as goal

pub show_rows-requires-clause-serve : goal.show_rows-requires-clause-serve
show_rows-requires-clause-serve c =
    let s = c.args.params.now.layout in
    let p = c.args.picture.now in
    let size : Size = size_of (frame_of p.shape) c.args.c in
    sizes.small_in s size c.args.bands.now (slice_count s) c.requires.taken c.depth.ensures.allowed.depth (sizes.is_size_of p.shape c.args.c) refl c.depth.ensures.allowed.slices

pub returns-clause-picture : goal.returns-clause-picture
returns-clause-picture c =
    let s = c.args.params.now.layout in
    let p = c.args.picture.now in
    let size : Size = size_of (frame_of p.shape) c.args.c in
    let with_rows : SamplesSeen → PictureSeen = λ rows. record p { samples = with_component p.samples c.args.c rows } in
    c.show_rows.ensures.samples (c.show_rows.ensures.roomy refl)
    ∙ ap with_rows (sizes.synthesised_is s size c.args.bands.now (slice_count s) c.requires.taken c.depth.ensures.allowed.depth (sizes.is_size_of p.shape c.args.c) c.args.params.now.wavelet (sample_bits p c.args.c))
