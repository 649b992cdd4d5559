-- A picture by its shape and its components.
use Rattle.std.proofs.Common.{◌≡◌, ap, ◌∙◌}
use Rattle.slice_geometry.specs.declared.Component.TheVariants.{Luma, C1, C2}
use Rattle.slice_geometry.specs.declared.PictureShape.{PictureShape}
use Rattle.picture_codec.specs.Samples.{SamplesSeen, PictureSamples, PictureSeen, component_shown}

abbrev of : PictureShape → SamplesSeen → SamplesSeen → SamplesSeen → PictureSeen
of shape luma c1 c2 = record { shape = shape; samples = record { luma = luma; c1 = c1; c2 = c2 } }

pub picture_is : (q : PictureSeen) (shape : PictureShape) (p : PictureSamples) → q.shape ≡ shape → component_shown q Luma ≡ p.luma → component_shown q C1 ≡ p.c1 → component_shown q C2 ≡ p.c2 → q ≡ record { shape = shape; samples = p }
picture_is q shape p e luma c1 c2 =
    ap (λ (x : PictureShape). of x q.samples.luma q.samples.c1 q.samples.c2) e
    ∙ ap (λ (x : SamplesSeen). of shape x q.samples.c1 q.samples.c2) luma
    ∙ ap (λ (x : SamplesSeen). of shape p.luma x q.samples.c2) c1
    ∙ ap (λ (x : SamplesSeen). of shape p.luma p.c1 x) c2
