use Rattle.std.proofs.Common.{◌≡◌, ◌≤◌, sym, ap, subst, ◌∙◌}
use Rattle.slice_geometry.specs.declared.Size.{Size}
use Rattle.slice_geometry.specs.declared.PictureShape.{PictureShape}
use Rattle.slice_geometry.specs.Geometry.{padded_size}
use Rattle.slice_geometry.specs.Frames.{frame_of}
use Rattle.lifting.specs.SampleRoom.{HaveRoom, synthesis_in}
use Rattle.picture_codec.specs.Pictures.{size_of}
use Rattle.picture_codec.specs.Samples.{sample_bits, with_shown}
use Rattle.picture_codec.proofs.Sizes.{padded_covers, half_room, is_size_of}
use Rattle.picture_codec.proofs.ShortShown.{made_room}
use Rattle.picture_codec.proofs.showing.show_rows.Goals as goal

pub synthesise-requires-clause-fits : goal.synthesise-requires-clause-fits
synthesise-requires-clause-fits g c =
    let s = c.args.params.now.layout in
    let p = c.args.picture.now in
    let size : Size = size_of (frame_of p.shape) c.args.c in
    let same : c.size_of.result ≡ size = c.size_of.ensures.value ∙ ap (λ (sh : PictureShape). size_of (frame_of sh) c.args.c) c.shape.ensures in
    let padded : c.padded_size-padded.result ≡ padded_size s.depth size = c.padded_size-padded.ensures.value ∙ ap (λ (z : Size). padded_size s.depth z) same in
    let low = c.depth.ensures.allowed.depth in
    subst (λ (z : Size). size.w ≤ z.w) (sym padded) (padded_covers s.depth size.w low)

pub synthesise-requires-clause-high : goal.synthesise-requires-clause-high
synthesise-requires-clause-high g c =
    let s = c.args.params.now.layout in
    let p = c.args.picture.now in
    let size : Size = size_of (frame_of p.shape) c.args.c in
    let same : c.size_of.result ≡ size = c.size_of.ensures.value ∙ ap (λ (sh : PictureShape). size_of (frame_of sh) c.args.c) c.shape.ensures in
    let padded : c.padded_size-padded.result ≡ padded_size s.depth size = c.padded_size-padded.ensures.value ∙ ap (λ (z : Size). padded_size s.depth z) same in
    let low = c.depth.ensures.allowed.depth in
    subst (λ (z : Size). size.h ≤ z.h) (sym padded) (padded_covers s.depth size.h low)

pub synthesise-requires-clause-room : goal.synthesise-requires-clause-room
synthesise-requires-clause-room g c =
    let s = c.args.params.now.layout in
    let p = c.args.picture.now in
    let size : Size = size_of (frame_of p.shape) c.args.c in
    let same : c.size_of.result ≡ size = c.size_of.ensures.value ∙ ap (λ (sh : PictureShape). size_of (frame_of sh) c.args.c) c.shape.ensures in
    let padded : c.padded_size-padded.result ≡ padded_size s.depth size = c.padded_size-padded.ensures.value ∙ ap (λ (z : Size). padded_size s.depth z) same in
    let low = c.depth.ensures.allowed.depth in
    let plane = c.make.new.self.room.plane in
    let scratch = c.make.new.self.room.scratch in
    subst (λ (z : Size). HaveRoom c.args.bands.now z.w z.h plane scratch) (sym padded)
    (half_room s size c.args.bands.now c.requires.depth c.requires.sizes low (is_size_of p.shape c.args.c) plane scratch (c.make.ensures s size c.requires.room).0)

pub synthesise-requires-clause-serve : goal.synthesise-requires-clause-serve
synthesise-requires-clause-serve g c =
    let s = c.args.params.now.layout in
    let p = c.args.picture.now in
    let size : Size = size_of (frame_of p.shape) c.args.c in
    let same : c.size_of.result ≡ size = c.size_of.ensures.value ∙ ap (λ (sh : PictureShape). size_of (frame_of sh) c.args.c) c.shape.ensures in
    let padded : c.padded_size-padded.result ≡ padded_size s.depth size = c.padded_size-padded.ensures.value ∙ ap (λ (z : Size). padded_size s.depth z) same in
    subst (λ (z : Size). g.T.Synthesised.serve (sample_bits p c.args.c) c.args.bands.now z.w z.h) (sym padded) c.requires.serve

pub returns-clause-samples : goal.returns-clause-samples
returns-clause-samples g c = λ yes.
    let s = c.args.params.now.layout in
    let p = c.args.picture.now in
    let size : Size = size_of (frame_of p.shape) c.args.c in
    let same : c.size_of.result ≡ size = c.size_of.ensures.value ∙ ap (λ (sh : PictureShape). size_of (frame_of sh) c.args.c) c.shape.ensures in
    let padded : c.padded_size-padded.result ≡ padded_size s.depth size = c.padded_size-padded.ensures.value ∙ ap (λ (z : Size). padded_size s.depth z) same in
    c.synthesise.ensures.samples yes
    ∙ ap (λ (z : Size). with_shown p c.args.c (synthesis_in g.T.Number.value g.T.Number.none c.args.params.now.wavelet c.args.bands.now z.w z.h)) padded

pub returns-clause-room : goal.returns-clause-room
returns-clause-room g c =
    let s = c.args.params.now.layout in
    let size : Size = size_of (frame_of c.args.picture.now.shape) c.args.c in
    let half = c.make.ensures s size c.requires.room in
    made_room s size _ c.make.new.self.room.plane c.make.new.self.room.scratch half.0 half.1 c.synthesise.ensures.same_width c.synthesise.ensures.same_height c.synthesise.ensures.same_width_scratch c.synthesise.ensures.same_height_scratch
