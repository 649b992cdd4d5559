use Rattle.std.proofs.Common.{refl, sym, ap, subst, ◌∙◌, arith}
use Rattle.planes.specs.Subbands.{BandStack}
use Rattle.slice_geometry.specs.declared.Size.{Size}
use Rattle.slice_geometry.specs.Slicing.{slice_count}
use Rattle.slice_geometry.specs.Frames.{frame_of}
use Rattle.slice_geometry.specs.Geometry.{padded_length}
use Rattle.slice_geometry.proofs.Lengths.{padded_most}
use Rattle.slice_store.specs.ShortBands.{short_stack}
use Rattle.picture_codec.specs.Pictures.{size_of}
use Rattle.picture_codec.specs.Samples.{SamplesSeen, PictureSeen, sample_bits, with_component}
use Rattle.picture_codec.specs.Decoding.{HasGatherRoom}
use Rattle.picture_codec.proofs.Sizes as sizes
use Rattle.picture_codec.proofs.SameShown.{same_taken, same_synthesised}
use Rattle.picture_codec.proofs.ShortShown.{gathered_room, sizes_agree}
use Rattle.picture_codec.proofs.decoded_bands.show_in_16_bits.Goals as goal

pub returns-then-not-gather-clause-room : goal.returns-then-not-gather-clause-room
returns-then-not-gather-clause-room c =
    let s = c.args.params.now.layout in
    let size : Size = size_of (frame_of c.args.picture.now.shape) c.args.c in
    let made = c.make.ensures s size c.requires.room.3 in
    let r = c.make.new.self in (
      c.requires.room.0,
      c.requires.room.1,
      c.requires.room.2,
      subst (λ (b : BandStack). HasGatherRoom s size (record r { bands = b })) (sym (c.gather.ensures.left c.if-not-gather.true)) made.0,
    )

pub show_rows-requires-clause-depth : goal.show_rows-requires-clause-depth
show_rows-requires-clause-depth c =
    let shown = c.gather.ensures.same c.if-not-gather.false in
    shown.same_depth ∙ c.requires.taken.depth

pub show_rows-requires-clause-sizes : goal.show_rows-requires-clause-sizes
show_rows-requires-clause-sizes c =
    let s = c.args.params.now.layout in
    let size : Size = size_of (frame_of c.args.picture.now.shape) c.args.c in
    let shown = c.gather.ensures.same c.if-not-gather.false in
    (same_taken s size (slice_count s) (short_stack c.args.bands.now) c.gather.new.bands c.requires.taken shown).sizes

pub returns-clause-picture : goal.returns-clause-picture
returns-clause-picture c =
    let s = c.args.params.now.layout in
    let p = c.args.picture.now in
    let size : Size = size_of (frame_of p.shape) c.args.c in
    let short : BandStack = short_stack c.args.bands.now in
    let low = c.depth.ensures.allowed.depth in
    let rows : BandStack = c.gather.new.bands in
    let shown = c.gather.ensures.same c.if-not-gather.false in
    let taken = same_taken s size (slice_count s) short rows c.requires.taken shown in
    let k = c.args.params.now.wavelet in
    let with_rows : SamplesSeen → PictureSeen = λ samples. record p { samples = with_component p.samples c.args.c samples } in
    λ yes.
    c.show_rows.ensures.samples yes
    ∙ ap with_rows (sizes.synthesised_is s size rows (slice_count s) taken low (sizes.is_size_of p.shape c.args.c) k (sample_bits p c.args.c))
    ∙ ap with_rows (same_synthesised k size (sample_bits p c.args.c) short rows (omega (arith, low, c.requires.taken.depth)) shown)

pub returns-clause-room : goal.returns-clause-room
returns-clause-room c =
    let s = c.args.params.now.layout in
    let size : Size = size_of (frame_of c.args.picture.now.shape) c.args.c in
    let rows : BandStack = c.gather.new.bands in
    let shown = c.gather.ensures.same c.if-not-gather.false in
    let taken = same_taken s size (slice_count s) (short_stack c.args.bands.now) rows c.requires.taken shown in
    let made = c.make.ensures s size c.requires.room.3 in (
      c.requires.room.0,
      c.requires.room.1,
      c.show_rows.ensures.room,
      gathered_room s size (slice_count s) rows c.make.new.self _ made.0 taken refl refl made.1,
    )

pub gather-requires-clause-sizes : goal.gather-requires-clause-sizes
gather-requires-clause-sizes c =
    let s = c.args.params.now.layout in
    let size : Size = size_of (frame_of c.args.picture.now.shape) c.args.c in
    let made = c.make.ensures s size c.requires.room.3 in
    sizes_agree (short_stack c.args.bands.now) c.make.new.self.bands (padded_length s.depth size.w) (padded_length s.depth size.h)
    (c.requires.taken.depth ∙ sym (made.0.made_depth made.1)) c.requires.taken.sizes (made.0.made made.1)

pub gather-requires-clause-room : goal.gather-requires-clause-room
gather-requires-clause-room c =
    let slices = c.args.bands.now.slices in
    let cut = c.shows.ensures.sound.cut in
    omega (arith, padded_most slices.slicing.depth slices.size.w cut.depth cut.size.width, c.requires.row)
