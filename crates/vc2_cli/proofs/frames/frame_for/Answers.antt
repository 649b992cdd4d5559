use Rattle.std.proofs.Common.{◌≡◌, ◌*◌, refl, sym, ap, subst, ◌∙◌, arith}
use Rattle.slice_geometry.specs.declared.Size.{Size}
use Rattle.slice_geometry.specs.Shape.{IsSize}
use Rattle.slice_geometry.specs.Frames.{frame_of}
use Rattle.sequence_header.specs.declared.parts.HeaderParts.{HeaderParts}
use Rattle.picture_codec.specs.Samples.{PictureSeen}
use Rattle.stream_rows.specs.Streams.{frame_under}
use Rattle.stream_rows.proofs.Frames.{frame_is}
use Rattle.vc2_words.proofs.Plainness.{some_same}
use Rattle.field_weave.specs.Weaving.{frame_of_two}
use Rattle.vc2_cli.proofs.FieldSizes.{luma_doubled, colour_doubled}
use Rattle.vc2_cli.proofs.frames.frame_for.Goals as goal

pub frame_shape-shape-requires-clause-luma : goal.frame_shape-shape-requires-clause-luma
frame_shape-shape-requires-clause-luma c =
    let header = c.in-Some.header.now in
    let here : c.parts.result.now.coding ≡ 1 = omega (arith, c.if-parts-ne1.false) in
    let one : header.coding ≡ 1 = ap (λ (p : HeaderParts). p.coding) (sym c.parts.ensures.value) ∙ here in
    subst (λ (s : Size). IsSize s.w (2 * s.h)) (sym c.picture_shape.ensures.luma) (luma_doubled header c.parts.ensures.lawful.passes one)

pub frame_shape-shape-requires-clause-colour : goal.frame_shape-shape-requires-clause-colour
frame_shape-shape-requires-clause-colour c =
    let header = c.in-Some.header.now in
    let here : c.parts.result.now.coding ≡ 1 = omega (arith, c.if-parts-ne1.false) in
    let one : header.coding ≡ 1 = ap (λ (p : HeaderParts). p.coding) (sym c.parts.ensures.value) ∙ here in
    subst (λ (s : Size). IsSize s.w (2 * s.h)) (sym c.picture_shape.ensures.colour) (colour_doubled header c.parts.ensures.lawful.passes one)

pub returns-in-Ok : goal.returns-in-Ok
returns-in-Ok c = λ parts is fields.
    let header = c.in-Some.header.now in
    let same : header ≡ parts = some_same (sym c.in-Some.ensures.some ∙ is) in (
      c.in-Ok.frame,
      refl,
      ap (λ (p : PictureSeen). frame_of p.shape) c.in-Ok.ensures ∙ c.frame_shape-shape.ensures
          ∙ ap frame_of_two (frame_is header c.picture_shape.result c.picture_shape.ensures ∙ ap (λ (p : HeaderParts). frame_under p) same),
    )
