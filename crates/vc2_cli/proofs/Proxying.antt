-- What `proxy` writes of a unit.
use Rattle.std.proofs.Common.{◌≡◌, ◌≤◌, ◌∙◌, sym, ap, subst, ℕ, List, Option, Some}
use Rattle.planes.specs.declared.Trio.{Trio}
use Rattle.slice_geometry.specs.declared.PictureShape.{PictureShape}
use Rattle.slice_geometry.specs.Frames.{Frame, frame_of}
use Rattle.transform_params.specs.Params.{Params}
use Rattle.picture_codec.specs.Decoding.{PictureDecoderSeen, CanSynthesise, AllCanSynthesise, HoldUnit}
use Rattle.picture_codec.specs.Samples.{PictureSeen, picture_of}
use Rattle.raw_video.specs.RawText.{raw_text}
use Rattle.run_theory.specs.Walk.{IsMachine}
use Rattle.stream_rows.specs.Units.{DataUnit, Sequence, Repeated, Picture, Skipped, End}
use Rattle.stream_rows.specs.Streams.{frame_under}
use Rattle.stream_reader.specs.Turns.{IsTaker}
use Rattle.stream_reader.specs.Reader.{IsPictureOf, IsTakerOf, AreBandsOf}
use Rattle.proxy_picture.specs.Proxy.{proxy_frame, proxy_picture}
use Rattle.proxy_picture.specs.Making.{ProxyDecoderSeen, reduced_picture}
use Rattle.proxy_picture.proofs.Full.{full_is}
use Rattle.vc2_cli.specs.Decode.{shown_text}
use Rattle.vc2_cli.specs.Proxy.{proxy_text, levels_in, proxying, proxy_machine, MakesProxiesOf}
use Rattle.vc2_cli.specs.Endings.{MayEndOtherwise}
use Rattle.vc2_cli.proofs.Decoding.{stream_laws, stream_opens}
use Rattle.unit_reader.proofs.Opens.{IsOpenMachine}

some_same : {A : Type 0} {a b : A} → Some a ≡ Some b → a ≡ b
some_same e = cc

abbrev text_at : Frame → Params → ℕ → List (List ℕ) → List ℕ
text_at f p level slices = raw_text (proxy_frame f p level) (proxy_picture f p level slices)

-- the bands of a decoder, as a maker for its pictures asks for them
module _ (d : PictureDecoderSeen) (m : ProxyDecoderSeen) (level : ℕ) (bands : Trio) (of : AreBandsOf d bands) (makes : MakesProxiesOf d.shape d.params level m) where
  pub ready_for : AllCanSynthesise m.params.slicing m.shape bands
  ready_for =
      let now = subst (λ (p : Params). AllCanSynthesise p.slicing d.shape bands) (sym makes.params_are) of.ready in
      let luma = ap (λ (f : Frame). f.luma) (sym makes.frame) in
      let colour = ap (λ (f : Frame). f.colour) (sym makes.frame) in
      record {
        luma = subst (λ z. CanSynthesise m.params.slicing z bands.luma) luma now.luma;
        c1 = subst (λ z. CanSynthesise m.params.slicing z bands.c1) colour now.c1;
        c2 = subst (λ z. CanSynthesise m.params.slicing z bands.c2) colour now.c2;
      }

  -- and what is written of them
  pub picture_told : ((slices : List (List ℕ)) → HoldUnit (frame_of m.shape) m.params slices bands → reduced_picture m bands ≡ proxy_picture (frame_of m.shape) m.params m.level slices)
      → (unit : DataUnit) → IsTakerOf unit (Some d) → raw_text (proxy_frame (frame_of m.shape) m.params m.level) (reduced_picture m bands) ≡ proxy_text level unit
  picture_told made (Sequence parts) t = absurd cc
  picture_told made Repeated t = absurd cc
  picture_told made Skipped t = absurd cc
  picture_told made End t = absurd cc
  picture_told made (Picture parts number params slices) t =
      let same : t.0 ≡ d = some_same (sym t.1) in
      let taker = subst (IsTaker parts params slices) same t.2 in
      let held = subst (λ (f : Frame). HoldUnit f m.params slices bands) (sym makes.frame) (subst (λ (p : Params). HoldUnit (frame_of d.shape) p slices bands) (sym makes.params_are) (of.unit slices taker.taken)) in
      ap (raw_text (proxy_frame (frame_of m.shape) m.params m.level)) (made slices held)
      ∙ ap (λ (f : Frame). text_at f m.params m.level slices) (makes.frame ∙ taker.frame)
      ∙ ap (λ (p : Params). text_at (frame_under parts) p m.level slices) (makes.params_are ∙ taker.params_are)
      ∙ ap (λ (l : ℕ). text_at (frame_under parts) params l slices) makes.level_is

-- a maker for what a decoder lends serves its pictures
pub makes_for : (d : PictureDecoderSeen) (shape : PictureShape) (params : Params) (level : ℕ) (m : ProxyDecoderSeen) → shape ≡ d.shape → params ≡ d.params → MakesProxiesOf shape params level m → MakesProxiesOf d.shape d.params level m
makes_for d shape params level m shape_is params_are makes =
    subst (λ (z : PictureShape). MakesProxiesOf z d.params level m) shape_is (subst (λ (q : Params). MakesProxiesOf shape q level m) params_are makes)

-- the machine of `proxy`
pub proxy_laws : (level : ℕ) → IsMachine (proxy_machine level)
proxy_laws level = stream_laws (proxying level)

pub proxy_opens : (level : ℕ) → IsOpenMachine MayEndOtherwise (proxy_machine level)
proxy_opens level = stream_opens (proxying level) (record { finished = λ z w unit bytes. tt; rested = λ z w. tt; refused = λ z w fault short. short })

-- ---- where all levels are asked for

-- the proxy of a picture with no more levels is the picture
pub full_text : (f : Frame) (p : Params) (level : ℕ) (slices : List (List ℕ)) → p.slicing.depth ≤ level → text_at f p level slices ≡ raw_text f (picture_of f p slices)
full_text f p level slices few =
    let whole = full_is f p level slices few in
    ap (λ (x : Frame). raw_text x (proxy_picture f p level slices)) whole.frame ∙ ap (raw_text f) whole.picture

-- and so what is written is the picture that is shown
pub whole_told : (level : ℕ) (unit : DataUnit) (shown : Option PictureSeen) → levels_in unit ≤ level → IsPictureOf unit shown → shown_text shown ≡ proxy_text level unit
whole_told level (Sequence parts) shown few is = ap shown_text is
whole_told level Repeated shown few is = ap shown_text is
whole_told level Skipped shown few is = ap shown_text is
whole_told level End shown few is = ap shown_text is
whole_told level (Picture parts number params slices) shown few is =
    ap shown_text is.1 ∙ ap (λ (x : Frame). raw_text x (is.0).samples) is.2 ∙ ap (raw_text (frame_under parts)) is.3
    ∙ sym (full_text (frame_under parts) params level slices few)
