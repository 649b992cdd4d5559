-- In which order `encode_slices` asks: layout, steep, lines, coefficients, given, kept, room.
use Rattle.std.proofs.Common.{◌≡◌, ◌++◌, sym, ap, subst, ◌∙◌, refl, List, ℕ, arith}
use Rattle.std.proofs.lemmas.Grind.{common_steps}
use Rattle.std.specs.List.{concat}
use Rattle.std.specs.Int.{w32, to_be_bytes}
use Rattle.planes.specs.declared.Trio.{Trio}
use Rattle.planes.specs.Numbers.{Within}
use Rattle.planes.specs.Raster.{at}
use Rattle.planes.specs.Subbands.{band_of}
use Rattle.slice_geometry.specs.declared.PictureShape.{PictureShape}
use Rattle.slice_geometry.specs.Frames.{frame_of}
use Rattle.slice_encoder.specs.Chosen.{written_slices}
use Rattle.slice_encoder.specs.Encoded.{SliceEncoderSeen}
use Rattle.slice_encoder.specs.TrialLaws.{most_coefficient}
use Rattle.slice_encoder.specs.Ready.{coded_picture, AreGiven}
use Rattle.slice_encoder.specs.Tries.{KeptHaveSizes}
use Rattle.transform_params.specs.Params.{Params}
use Rattle.transform_params.specs.Views.{params_of}
use Rattle.transform_params.specs.ParameterFields.{params_bytes}
use Rattle.picture_codec.specs.Encoding.{PictureEncoderSeen, coded_from, slices_of, picture_bytes, IsSteepOkFor}
use Rattle.picture_codec.specs.EncoderInside.{AllLinesOf, IsLowest, bands_of}
use Rattle.picture_codec.specs.declared.encoder.PictureLines.{PictureLines}
use Rattle.picture_codec.proofs.ChosenSlices.{slices_same}
use Rattle.picture_codec.proofs.encoder.PictureEncoder.encode.Goals as goal

pub returns-clause-payload : goal.returns-clause-payload
returns-clause-payload c =
    let inside = c.self.inside in
    let p : Params = params_of inside.params in
    let samples = c.args.picture.now.samples in
    let bands : Trio = record { luma = bands_of c.take.new.self; c1 = bands_of c.take-2.new.self; c2 = bands_of c.take-3.new.self } in
    let shape : c.args.picture.now.shape ≡ inside.shape = c.requires.shape ∙ sym (ap (λ (v : PictureEncoderSeen). v.shape) c.self.view_is) in
    let there : written_slices (coded_picture p.slicing c.args.picture.now.shape p.matrix bands) ≡ slices_of (frame_of c.args.picture.now.shape) p samples =
    slices_same p.slicing c.args.picture.now.shape p.matrix bands (coded_from (frame_of c.args.picture.now.shape) p samples).coefficients (record {
      luma = c.take.ensures.analysed.values;
      c1 = c.take-2.ensures.analysed.values;
      c2 = c.take-3.ensures.analysed.values;
    }) in
    let here : written_slices (coded_picture p.slicing inside.shape p.matrix bands) ≡ slices_of (frame_of inside.shape) p samples =
    subst (λ (sh : PictureShape). written_slices (coded_picture p.slicing sh p.matrix bands) ≡ slices_of (frame_of sh) p samples) shape there in
    let encoder_shape : inside.slices.shape ≡ inside.shape = ap (λ (e : SliceEncoderSeen). e.shape) c.self.invariant.1 in
    let slices : c.encode_slices.new.bytes ≡ concat (slices_of (frame_of inside.shape) p samples) =
    c.encode_slices.ensures.slices ∙ ap (λ (sh : PictureShape). concat (written_slices (coded_picture p.slicing sh p.matrix bands))) encoder_shape ∙ ap concat here in
    ap (λ (l : List ℕ). l ++ c.encode_slices.new.bytes) c.put_front.ensures
    ∙ ap (λ (l : List ℕ). (to_be_bytes w32 c.args.number ++ params_bytes p) ++ l) slices
    ∙ ap (λ (v : PictureEncoderSeen). picture_bytes v.params c.args.number (slices_of (frame_of v.shape) v.params samples)) c.self.view_is

pub encode_slices-requires : goal.encode_slices-requires
encode_slices-requires c =
    let inside = c.self.inside in
    let p : Params = params_of inside.params in
    let own = c.self.invariant.0 in
    let slicing : inside.slices.slicing ≡ inside.params.layout = ap (λ (e : SliceEncoderSeen). e.slicing) c.self.invariant.1 in
    let shape : inside.slices.shape ≡ inside.shape = ap (λ (e : SliceEncoderSeen). e.shape) c.self.invariant.1 in
    let same : c.args.picture.now.shape ≡ inside.slices.shape =
    c.requires.shape ∙ sym (ap (λ (v : PictureEncoderSeen). v.shape) c.self.view_is) ∙ sym (ap (λ (e : SliceEncoderSeen). e.shape) c.self.invariant.1) in
    let all : PictureLines = record { luma = c.take.new.self; c1 = c.take-2.new.self; c2 = c.take-3.new.self } in
    let there : AllLinesOf p c.args.picture.now.shape all = record { luma = c.take.ensures.lines; c1 = c.take-2.ensures.lines; c2 = c.take-3.ensures.lines } in
    let lines : AllLinesOf p inside.slices.shape all = subst (λ (s : PictureShape). AllLinesOf p s all) same there in
    let t : Trio = record { luma = bands_of c.take.new.self; c1 = bands_of c.take-2.new.self; c2 = bands_of c.take-3.new.self } in
    let given : AreGiven (coded_picture p.slicing inside.slices.shape p.matrix t) = record {
      entries = grind (arith, common_steps);
      luma_bits = grind (arith, common_steps);
      colour_bits = grind (arith, common_steps);
      luma = record {
        depth = c.take.ensures.analysed.sizes.depth;
        sizes = grind (arith, common_steps);
        small = λ level orient y x exists. subst (λ (s : PictureShape). Within (most_coefficient inside.params.layout.depth s.luma_depth) (at (band_of (bands_of c.take.new.self) level orient) y x)) same (c.take.ensures.analysed.small level orient y x exists);
      };
      c1 = record {
        depth = c.take-2.ensures.analysed.sizes.depth;
        sizes = grind (arith, common_steps);
        small = λ level orient y x exists. subst (λ (s : PictureShape). Within (most_coefficient inside.params.layout.depth s.colour_depth) (at (band_of (bands_of c.take-2.new.self) level orient) y x)) same (c.take-2.ensures.analysed.small level orient y x exists);
      };
      c2 = record {
        depth = c.take-3.ensures.analysed.sizes.depth;
        sizes = grind (arith, common_steps);
        small = λ level orient y x exists. subst (λ (s : PictureShape). Within (most_coefficient inside.params.layout.depth s.colour_depth) (at (band_of (bands_of c.take-3.new.self) level orient) y x)) same (c.take-3.ensures.analysed.small level orient y x exists);
      };
    }
    in
    let kept : KeptHaveSizes (coded_picture p.slicing inside.slices.shape p.matrix t) inside.kept = record {
      luma = subst (λ (s : PictureShape). IsLowest p.slicing s.luma inside.kept.luma) (sym shape) own.kept_luma;
      c1 = subst (λ (s : PictureShape). IsLowest p.slicing s.colour inside.kept.c1) (sym shape) own.kept_c1;
      c2 = subst (λ (s : PictureShape). IsLowest p.slicing s.colour inside.kept.c2) (sym shape) own.kept_c2;
    }
    in
    (slicing, (subst (λ (s : PictureShape). IsSteepOkFor s p) (sym shape) c.self.invariant.2, (lines, (refl, (given, (kept, grind (arith, common_steps)))))))
