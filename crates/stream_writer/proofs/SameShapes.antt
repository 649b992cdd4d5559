-- A header has one shape of pictures.
use Rattle.std.proofs.Common.{◌≡◌, ◌∙◌, sym, ap, subst, ℕ}
use Rattle.std.specs.Prelude.{max}
use Rattle.std.proofs.Props.{props}
use Rattle.sequence_header.specs.declared.parts.HeaderParts.{HeaderParts}
use Rattle.sequence_header.specs.Coding.{IsShapeOf, luma_size, colour_size, luma_depth, colour_depth}
use Rattle.slice_geometry.specs.declared.Size.{Size}
use Rattle.slice_geometry.specs.declared.PictureShape.{PictureShape}
use Rattle.slice_geometry.specs.Shape.{IsSize, IsDepth}
use Rattle.slice_geometry.specs.Frames.{Frame, frame_of}
use Rattle.slice_encoder.specs.TrialLaws.{IsSteepOk}
use Rattle.picture_codec.specs.Encoding.{IsSteepOkFor}
use Rattle.stream_rows.specs.Streams.{frame_under}
use Rattle.stream_writer.specs.EncodedStream.{Settings}
use Rattle.stream_writer.specs.Writer.{IsSteepOkUnder}

one_size : (w h : ℕ) (a b : IsSize w h) → a ≡ b
one_size w h = hlevel props

one_depth : (d : ℕ) (a b : IsDepth d) → a ≡ b
one_depth d = hlevel props

abbrev shape_of : (luma colour : Size) (m n : ℕ) → IsSize luma.w luma.h → IsSize colour.w colour.h → IsDepth m → IsDepth n → PictureShape
shape_of luma colour m n a b c d = record { luma = luma; colour = colour; luma_depth = m; colour_depth = n; luma_fits = a; colour_fits = b; luma_depth_fits = c; colour_depth_fits = d }

same_parts : (luma colour : Size) (m n : ℕ) (a a' : IsSize luma.w luma.h) (b b' : IsSize colour.w colour.h) (c c' : IsDepth m) (d d' : IsDepth n) → shape_of luma colour m n a b c d ≡ shape_of luma colour m n a' b' c' d'
same_parts luma colour m n a a' b b' c c' d d' =
    ap (λ x. shape_of luma colour m n x b c d) (one_size luma.w luma.h a a')
    ∙ ap (λ x. shape_of luma colour m n a' x c d) (one_size colour.w colour.h b b')
    ∙ ap (λ x. shape_of luma colour m n a' b' x d) (one_depth m c c')
    ∙ ap (λ x. shape_of luma colour m n a' b' c' x) (one_depth n d d')

same : (luma luma' colour colour' : Size) (m m' n n' : ℕ) → luma ≡ luma' → colour ≡ colour' → m ≡ m' → n ≡ n'
    → (a : IsSize luma.w luma.h) (b : IsSize colour.w colour.h) (c : IsDepth m) (d : IsDepth n) (a' : IsSize luma'.w luma'.h) (b' : IsSize colour'.w colour'.h) (c' : IsDepth m') (d' : IsDepth n')
    → shape_of luma colour m n a b c d ≡ shape_of luma' colour' m' n' a' b' c' d'
same luma luma' colour colour' m m' n n' e f g h a b c d =
    subst (λ (l : Size). (a' : IsSize l.w l.h) (b' : IsSize colour'.w colour'.h) (c' : IsDepth m') (d' : IsDepth n') → shape_of luma colour m n a b c d ≡ shape_of l colour' m' n' a' b' c' d') e
    (subst (λ (k : Size). (a' : IsSize luma.w luma.h) (b' : IsSize k.w k.h) (c' : IsDepth m') (d' : IsDepth n') → shape_of luma colour m n a b c d ≡ shape_of luma k m' n' a' b' c' d') f
    (subst (λ (i : ℕ). (a' : IsSize luma.w luma.h) (b' : IsSize colour.w colour.h) (c' : IsDepth i) (d' : IsDepth n') → shape_of luma colour m n a b c d ≡ shape_of luma colour i n' a' b' c' d') g
    (subst (λ (i : ℕ). (a' : IsSize luma.w luma.h) (b' : IsSize colour.w colour.h) (c' : IsDepth m) (d' : IsDepth i) → shape_of luma colour m n a b c d ≡ shape_of luma colour m i a' b' c' d') h
    (λ a' b' c' d'. same_parts luma colour m n a a' b b' c c' d d'))))

pub one_shape : (parts : HeaderParts) (a b : PictureShape) → IsShapeOf a parts → IsShapeOf b parts → a ≡ b
one_shape parts a b x y =
    same a.luma b.luma a.colour b.colour a.luma_depth b.luma_depth a.colour_depth b.colour_depth (x.luma ∙ sym y.luma) (x.colour ∙ sym y.colour) (x.luma_depth ∙ sym y.luma_depth) (x.colour_depth ∙ sym y.colour_depth)
    a.luma_fits a.colour_fits a.luma_depth_fits a.colour_depth_fits b.luma_fits b.colour_fits b.luma_depth_fits b.colour_depth_fits

-- the matrix is asked of the header's depths
pub steep_for : (s : Settings) (shape : PictureShape) → IsShapeOf shape s.parts → IsSteepOkUnder s → IsSteepOkFor shape s.params
steep_for s shape is steep =
    let steep_at : ℕ → ℕ → Type 0 = λ m n. IsSteepOk s.params.slicing.depth (max m n) s.params.matrix in
    subst (λ n. steep_at shape.luma_depth n) (sym is.colour_depth) (subst (λ m. steep_at m (colour_depth s.parts)) (sym is.luma_depth) steep)

pub steep_under : (s : Settings) (shape : PictureShape) → IsShapeOf shape s.parts → IsSteepOkFor shape s.params → IsSteepOkUnder s
steep_under s shape is steep =
    let steep_at : ℕ → ℕ → Type 0 = λ m n. IsSteepOk s.params.slicing.depth (max m n) s.params.matrix in
    subst (λ m. steep_at m (colour_depth s.parts)) is.luma_depth (subst (λ n. steep_at shape.luma_depth n) is.colour_depth steep)
