use Rattle.std.proofs.Common.{◌≡◌, ◌∙◌, ℕ, ap, sym, subst, arith, List}
use Rattle.slice_geometry.specs.Slicing.{slice_count, slice_bytes}
use Rattle.slice_geometry.specs.Frames.{frame_of}
use Rattle.picture_codec.specs.Decoding.{PictureDecoderSeen, HasTaken, AllCanSynthesise, HoldUnit, wanted_of}
use Rattle.picture_codec.proofs.Whole.{unit_held, all_can, wanted_none}
use Rattle.picture_codec.proofs.decoder.PictureDecoder.bands.Goals as goal

pub returns-clause-ready : goal.returns-clause-ready
returns-clause-ready c =
    let s = c.self.inside.params.layout in
    let n = c.self.inside.next in
    let taken = c.self.invariant.taken in
    let none = ap wanted_of c.self.view_is ∙ c.requires.whole in
    let all : n ≡ slice_count s = omega (arith, taken.few, wanted_none n (slice_count s) (slice_bytes s.a s.b n) none) in
    subst (λ (d : PictureDecoderSeen). AllCanSynthesise d.params.slicing d.shape c.self.inside.bands) c.self.view_is
    (all_can s c.self.inside.picture.shape n c.self.inside.bands c.depth.ensures.allowed taken all)

pub returns-clause-unit : goal.returns-clause-unit
returns-clause-unit c =
    let s = c.self.inside.params.layout in
    let n = c.self.inside.next in
    let taken = c.self.invariant.taken in
    let none = ap wanted_of c.self.view_is ∙ c.requires.whole in
    let all : n ≡ slice_count s = omega (arith, taken.few, wanted_none n (slice_count s) (slice_bytes s.a s.b n) none) in
    subst (λ (d : PictureDecoderSeen). (slices : List (List ℕ)) → HasTaken slices d → HoldUnit (frame_of d.shape) d.params slices c.self.inside.bands) c.self.view_is
    (λ slices has. unit_held _ slices n c.depth.ensures.allowed taken has (sym has.number ∙ all))
