use Rattle.std.proofs.Common.{◌≡◌, ℕ, sym, ap, subst, ◌∙◌, arith, List}
use Rattle.planes.specs.declared.Trio.{Trio}
use Rattle.slice_geometry.specs.declared.PictureShape.{PictureShape}
use Rattle.slice_geometry.specs.Slicing.{slice_count, slice_bytes}
use Rattle.slice_geometry.specs.Frames.{frame_of}
use Rattle.picture_codec.specs.Samples.{picture_of}
use Rattle.picture_codec.specs.Decoding.{PictureDecoderSeen, AreTaken, HasTaken, HasSynthesisRoom, IsDecoderSound, wanted_of, synthesised_picture}
use Rattle.picture_codec.specs.declared.workspace.SynthesisRooms.{SynthesisRooms}
use Rattle.picture_codec.proofs.Whole.{unit_is, wanted_none}
use Rattle.picture_codec.proofs.decoder.PictureDecoder.synthesise.Goals as goal

pub show-requires-clause-taken : goal.show-requires-clause-taken
show-requires-clause-taken c =
    let s = c.self.inside.params.layout in
    let n = c.self.inside.next in
    let taken = c.self.invariant.taken in
    let none = ap wanted_of c.self.view_is ∙ c.requires.whole in
    let all : n ≡ slice_count s = omega (arith, taken.few, wanted_none n (slice_count s) (slice_bytes s.a s.b n) none) in
    subst (λ m. AreTaken s c.self.inside.picture.shape.luma m c.self.inside.bands.luma) all taken.luma

pub show-requires-2-clause-taken : goal.show-requires-2-clause-taken
show-requires-2-clause-taken c =
    let s = c.self.inside.params.layout in
    let n = c.self.inside.next in
    let taken = c.self.invariant.taken in
    let none = ap wanted_of c.self.view_is ∙ c.requires.whole in
    let all : n ≡ slice_count s = omega (arith, taken.few, wanted_none n (slice_count s) (slice_bytes s.a s.b n) none) in
    let same = ap (λ p. p.shape) c.show.ensures.picture in
    let kept : c.show.new.self ≡ c.self.inside.bands = c.show.ensures.same in
    subst (λ (b : Trio). AreTaken s c.show.new.picture.shape.colour (slice_count s) b.c1) (sym kept)
    (subst (λ (sh : PictureShape). AreTaken s sh.colour (slice_count s) c.self.inside.bands.c1) (sym same)
    (subst (λ m. AreTaken s c.self.inside.picture.shape.colour m c.self.inside.bands.c1) all taken.c1))

pub show-requires-3-clause-taken : goal.show-requires-3-clause-taken
show-requires-3-clause-taken c =
    let s = c.self.inside.params.layout in
    let n = c.self.inside.next in
    let taken = c.self.invariant.taken in
    let none = ap wanted_of c.self.view_is ∙ c.requires.whole in
    let all : n ≡ slice_count s = omega (arith, taken.few, wanted_none n (slice_count s) (slice_bytes s.a s.b n) none) in
    let same = ap (λ p. p.shape) c.show-2.ensures.picture ∙ ap (λ p. p.shape) c.show.ensures.picture in
    let kept : c.show-2.new.self ≡ c.self.inside.bands = c.show-2.ensures.same ∙ c.show.ensures.same in
    subst (λ (b : Trio). AreTaken s c.show-2.new.picture.shape.colour (slice_count s) b.c2) (sym kept)
    (subst (λ (sh : PictureShape). AreTaken s sh.colour (slice_count s) c.self.inside.bands.c2) (sym same)
    (subst (λ m. AreTaken s c.self.inside.picture.shape.colour m c.self.inside.bands.c2) all taken.c2))

pub returns-clause-unit : goal.returns-clause-unit
returns-clause-unit c =
    let s = c.self.inside.params.layout in
    let n = c.self.inside.next in
    let taken = c.self.invariant.taken in
    let none = ap wanted_of c.self.view_is ∙ c.requires.whole in
    let all : n ≡ slice_count s = omega (arith, taken.few, wanted_none n (slice_count s) (slice_bytes s.a s.b n) none) in
    subst (λ (d : PictureDecoderSeen). (slices : List (List ℕ)) → HasTaken slices d → synthesised_picture d ≡ picture_of (frame_of d.shape) d.params slices) c.self.view_is
    (λ slices has. unit_is _ slices n c.show.ensures.allowed taken has (sym has.number ∙ all))

pub invariant_of-self : goal.invariant_of-self
invariant_of-self c =
    let s = c.self.inside.params.layout in
    let n = c.self.inside.next in
    let shape = c.self.inside.picture.shape in
    let second : c.show-2.new.picture.shape ≡ shape = ap (λ p. p.shape) c.show-2.ensures.picture ∙ ap (λ p. p.shape) c.show.ensures.picture in
    let last : c.show-3.new.picture.shape ≡ shape = ap (λ p. p.shape) c.show-3.ensures.picture ∙ second in
    let kept : c.show-3.new.self ≡ c.self.inside.bands = c.show-3.ensures.same ∙ c.show-2.ensures.same ∙ c.show.ensures.same in
    let rooms : SynthesisRooms = record { luma = c.show.new.room; colour = c.show-3.new.room } in
    subst (λ (sh : PictureShape). IsDecoderSound s sh n c.show-3.new.self rooms) (sym last)
    (subst (λ (b : Trio). IsDecoderSound s shape n b rooms) (sym kept)
    (record {
      taken = c.self.invariant.taken;
      luma = c.show.ensures.room;
      colour = subst (λ (sh : PictureShape). HasSynthesisRoom s sh.colour c.show-3.new.room) second c.show-3.ensures.room;
    }))
