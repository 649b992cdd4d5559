-- A decoder that is kept serves where it made pictures of the same shape and parameters.
use Rattle.std.proofs.Common.{◌≡◌, ℕ, ◌-◌, ◌*◌, Bool, true, false, List, ◌++◌, replicate, None, sym, ap, ◌∙◌}
use Rattle.std.specs.Prelude.{◌&&◌}
use Rattle.std.proofs.Math.Dec.{eqb}
use Rattle.std.proofs.lemmas.Bool.{eqb-true}
use Rattle.std.proofs.lemmas.List.{append_cancel_right}
use lib.Pointwise.{pointwise, bytes_decides}
use Rattle.slice_geometry.specs.declared.Size.{Size}
use Rattle.slice_geometry.specs.declared.PictureShape.{PictureShape}
use Rattle.slice_geometry.specs.Slicing.{Slicing}
use Rattle.quant_factors.specs.Weights.{Weights}
use Rattle.lifting.specs.contracts.Wavelet.{the_type}
use denote.Enum.Bare.{sameb, same_true}
use Rattle.transform_params.specs.declared.TransformParams.{TransformParams}
use Rattle.transform_params.specs.Params.{Params}
use Rattle.transform_params.specs.Views.{params_of}
use Rattle.slice_geometry.specs.Frames.{Frame, frame_of}
use Rattle.picture_codec.specs.Decoding.{PictureDecoderSeen}
use Rattle.stream_reader.specs.UnitParts.{IsAtFirstSlice}
use Rattle.sequence_header.proofs.Shapes.{and_both}

abbrev is_size : Size → Size → Bool
is_size a b = eqb a.w b.w && eqb a.h b.h

size_same : (a b : Size) → is_size a b ≡ true → a ≡ b
size_same a b e =
    let f = and_both (eqb a.w b.w) (eqb a.h b.h) e in
    ap (λ (n : ℕ). let s : Size = record { w = n; h = a.h } in s) (eqb-true a.w b.w f.0) ∙ ap (λ (n : ℕ). let s : Size = record { w = b.w; h = n } in s) (eqb-true a.h b.h f.1)

pub frame_same : (a b : PictureShape) (t : Bool) → t ≡ true → t ≡ (is_size a.luma b.luma && (is_size a.colour b.colour && (eqb a.luma_depth b.luma_depth && eqb a.colour_depth b.colour_depth))) → frame_of a ≡ frame_of b
frame_same a b t so e =
    let f = and_both (is_size a.luma b.luma) (is_size a.colour b.colour && (eqb a.luma_depth b.luma_depth && eqb a.colour_depth b.colour_depth)) (sym e ∙ so) in
    let g = and_both (is_size a.colour b.colour) (eqb a.luma_depth b.luma_depth && eqb a.colour_depth b.colour_depth) f.1 in
    let h = and_both (eqb a.luma_depth b.luma_depth) (eqb a.colour_depth b.colour_depth) g.1 in
    ap (λ s. let f : Frame = record { luma = s; colour = a.colour; luma_depth = a.luma_depth; colour_depth = a.colour_depth } in f) (size_same a.luma b.luma f.0)
    ∙ ap (λ s. let f : Frame = record { luma = b.luma; colour = s; luma_depth = a.luma_depth; colour_depth = a.colour_depth } in f) (size_same a.colour b.colour g.0)
    ∙ ap (λ n. let f : Frame = record { luma = b.luma; colour = b.colour; luma_depth = n; colour_depth = a.colour_depth } in f) (eqb-true a.luma_depth b.luma_depth h.0)
    ∙ ap (λ n. let f : Frame = record { luma = b.luma; colour = b.colour; luma_depth = b.luma_depth; colour_depth = n } in f) (eqb-true a.colour_depth b.colour_depth h.1)

abbrev is_slicing : Slicing → Slicing → Bool
is_slicing a b = eqb a.depth b.depth && (eqb a.slices_x b.slices_x && (eqb a.slices_y b.slices_y && (eqb a.a b.a && eqb a.b b.b)))

pub slicing_same : (a b : Slicing) → is_slicing a b ≡ true → a ≡ b
slicing_same a b e =
    let f = and_both (eqb a.depth b.depth) (eqb a.slices_x b.slices_x && (eqb a.slices_y b.slices_y && (eqb a.a b.a && eqb a.b b.b))) e in
    let g = and_both (eqb a.slices_x b.slices_x) (eqb a.slices_y b.slices_y && (eqb a.a b.a && eqb a.b b.b)) f.1 in
    let h = and_both (eqb a.slices_y b.slices_y) (eqb a.a b.a && eqb a.b b.b) g.1 in
    let k = and_both (eqb a.a b.a) (eqb a.b b.b) h.1 in
    ap (λ n. let s : Slicing = record { depth = n; slices_x = a.slices_x; slices_y = a.slices_y; a = a.a; b = a.b } in s) (eqb-true a.depth b.depth f.0)
    ∙ ap (λ n. let s : Slicing = record { depth = b.depth; slices_x = n; slices_y = a.slices_y; a = a.a; b = a.b } in s) (eqb-true a.slices_x b.slices_x g.0)
    ∙ ap (λ n. let s : Slicing = record { depth = b.depth; slices_x = b.slices_x; slices_y = n; a = a.a; b = a.b } in s) (eqb-true a.slices_y b.slices_y h.0)
    ∙ ap (λ n. let s : Slicing = record { depth = b.depth; slices_x = b.slices_x; slices_y = b.slices_y; a = n; b = a.b } in s) (eqb-true a.a b.a k.0)
    ∙ ap (λ n. let s : Slicing = record { depth = b.depth; slices_x = b.slices_x; slices_y = b.slices_y; a = b.a; b = n } in s) (eqb-true a.b b.b k.1)

abbrev padded : Weights → List ℕ
padded m = m.entries ++ replicate (12 - 3 * m.depth) 0

abbrev is_matrix : Weights → Weights → Bool
is_matrix a b = eqb a.depth b.depth && pointwise eqb (padded a) (padded b)

pub matrix_same : (a b : Weights) → is_matrix a b ≡ true → a ≡ b
matrix_same a b e =
    let f = and_both (eqb a.depth b.depth) (pointwise eqb (padded a) (padded b)) e in
    let deep = eqb-true a.depth b.depth f.0 in
    let entries : a.entries ≡ b.entries = append_cancel_right a.entries b.entries (replicate (12 - 3 * b.depth) 0) (ap (λ n. a.entries ++ replicate (12 - 3 * n) 0) (sym deep) ∙ (bytes_decides (padded a) (padded b)).0 f.1) in
    ap (λ n. let m : Weights = record { depth = n; entries = a.entries } in m) deep ∙ ap (λ l. let m : Weights = record { depth = b.depth; entries = l } in m) entries

pub params_same : (a b : TransformParams) (t : Bool) → t ≡ true → t ≡ (sameb the_type a.wavelet b.wavelet && (is_slicing a.layout b.layout && is_matrix a.matrix b.matrix)) → params_of a ≡ params_of b
params_same a b t so e =
    let f = and_both (sameb the_type a.wavelet b.wavelet) (is_slicing a.layout b.layout && is_matrix a.matrix b.matrix) (sym e ∙ so) in
    let g = and_both (is_slicing a.layout b.layout) (is_matrix a.matrix b.matrix) f.1 in
    ap (λ w. let p : Params = record { wavelet = w; slicing = a.layout; matrix = a.matrix } in p) (same_true the_type tt a.wavelet b.wavelet f.0)
    ∙ ap (λ s. let p : Params = record { wavelet = b.wavelet; slicing = s; matrix = a.matrix } in p) (slicing_same a.layout b.layout g.0)
    ∙ ap (λ m. let p : Params = record { wavelet = b.wavelet; slicing = b.layout; matrix = m } in p) (matrix_same a.matrix b.matrix g.1)

-- the decoder that is kept, from its first slice on
pub ready_again : (old new : PictureDecoderSeen) (own shape : PictureShape) (theirs ours : TransformParams) → new ≡ record old { next = 0; refused = false; picture = None } → own ≡ old.shape → params_of theirs ≡ old.params
    → frame_of own ≡ frame_of shape → params_of theirs ≡ params_of ours → IsAtFirstSlice shape (params_of ours) new
ready_again old new own shape theirs ours is s p frame params = record {
  frame = ap (λ d. frame_of d.shape) is ∙ ap frame_of (sym s) ∙ frame;
  params_are = ap (λ d. d.params) is ∙ sym p ∙ params;
  first = ap (λ d. d.next) is;
  waits_refused = ap (λ d. d.refused) is;
}
