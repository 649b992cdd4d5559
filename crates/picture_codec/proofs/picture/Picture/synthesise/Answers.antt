use Rattle.std.proofs.Common.{◌≡◌, ◌∙◌, ℕ, ap, sym, arith}
use Rattle.std.proofs.lemmas.Grind.{common_steps}
use Rattle.slice_geometry.specs.declared.Size.{Size}
use Rattle.slice_geometry.specs.declared.Component.{Component}
use Rattle.slice_geometry.specs.declared.Component.TheVariants.{Luma, C1, C2}
use Rattle.lifting.specs.SampleRoom.{synthesis_in}
use Rattle.picture_codec.specs.Pictures.{sample_of}
use Rattle.picture_codec.specs.Samples.{AreSamples, SamplesSeen, PictureSeen, samples_by, with_shown}
use Rattle.picture_codec.proofs.Whole.{shown_fits}
use Rattle.picture_codec.proofs.MadeOrLeft.{made_or_left}
use Rattle.picture_codec.proofs.picture.Picture.synthesise.Goals as goal

pub invariant_of-self : goal.invariant_of-self
invariant_of-self G c =
    let shape = c.self.inside.shape in
    let was = c.self.invariant in
    let g = synthesis_in G.T.Number.value G.T.Number.none c.args.wavelet c.args.bands.now c.args.padded.w c.args.padded.h in
    record {
      luma = made_or_left (AreSamples shape.luma shape.luma_depth) _ _ _ c.synthesise.result c.synthesise.ensures.samples c.synthesise.ensures.left
          (shown_fits shape.luma shape.luma_depth c.self.inside.luma.w c.self.inside.luma.h g was.luma.width was.luma.height shape.luma_depth_fits) was.luma;
      c1 = was.c1;
      c2 = was.c2;
    }

pub invariant_of-self-in-C1 : goal.invariant_of-self-in-C1
invariant_of-self-in-C1 G c =
    let shape = c.self.inside.shape in
    let was = c.self.invariant in
    let g = synthesis_in G.T.Number.value G.T.Number.none c.args.wavelet c.args.bands.now c.args.padded.w c.args.padded.h in
    record {
      luma = was.luma;
      c1 = made_or_left (AreSamples shape.colour shape.colour_depth) _ _ _ c.synthesise-in-C1.result c.synthesise-in-C1.ensures.samples c.synthesise-in-C1.ensures.left
          (shown_fits shape.colour shape.colour_depth c.self.inside.c1.w c.self.inside.c1.h g was.c1.width was.c1.height shape.colour_depth_fits) was.c1;
      c2 = was.c2;
    }

pub invariant_of-self-in-C2 : goal.invariant_of-self-in-C2
invariant_of-self-in-C2 G c =
    let shape = c.self.inside.shape in
    let was = c.self.invariant in
    let g = synthesis_in G.T.Number.value G.T.Number.none c.args.wavelet c.args.bands.now c.args.padded.w c.args.padded.h in
    record {
      luma = was.luma;
      c1 = was.c1;
      c2 = made_or_left (AreSamples shape.colour shape.colour_depth) _ _ _ c.synthesise-in-C2.result c.synthesise-in-C2.ensures.samples c.synthesise-in-C2.ensures.left
          (shown_fits shape.colour shape.colour_depth c.self.inside.c2.w c.self.inside.c2.h g was.c2.width was.c2.height shape.colour_depth_fits) was.c2;
    }

pub returns-in-Luma-clause-samples : goal.returns-in-Luma-clause-samples
returns-in-Luma-clause-samples G c = λ yes.
    let shape = c.self.inside.shape in
    let was = c.self.invariant in
    let g = synthesis_in G.T.Number.value G.T.Number.none c.args.wavelet c.args.bands.now c.args.padded.w c.args.padded.h in
    let size : (record { w = c.self.inside.luma.w; h = c.self.inside.luma.h }) ≡ shape.luma = ap (λ (w : ℕ). record { w = w; h = c.self.inside.luma.h }) was.luma.width ∙ ap (λ (h : ℕ). record { w = shape.luma.w; h = h }) was.luma.height in
    let with_rows : SamplesSeen → PictureSeen = λ rows. record { shape = shape; samples = record { luma = rows; c1 = c.self.inside.c1; c2 = c.self.inside.c2 } } in
    ap with_rows (c.synthesise.ensures.samples yes ∙ ap (λ (z : Size). samples_by z (λ y x. sample_of shape.luma_depth (g y x))) size)
    ∙ ap (λ (p : PictureSeen). with_shown p Luma g) c.self.view_is
    ∙ ap (λ (k : Component). with_shown c.args.self.now k g) (sym c.in-Luma.is)

pub returns-in-C1-clause-samples : goal.returns-in-C1-clause-samples
returns-in-C1-clause-samples G c = λ yes.
    let shape = c.self.inside.shape in
    let was = c.self.invariant in
    let g = synthesis_in G.T.Number.value G.T.Number.none c.args.wavelet c.args.bands.now c.args.padded.w c.args.padded.h in
    let size : (record { w = c.self.inside.c1.w; h = c.self.inside.c1.h }) ≡ shape.colour = ap (λ (w : ℕ). record { w = w; h = c.self.inside.c1.h }) was.c1.width ∙ ap (λ (h : ℕ). record { w = shape.colour.w; h = h }) was.c1.height in
    let with_rows : SamplesSeen → PictureSeen = λ rows. record { shape = shape; samples = record { luma = c.self.inside.luma; c1 = rows; c2 = c.self.inside.c2 } } in
    ap with_rows (c.synthesise-in-C1.ensures.samples yes ∙ ap (λ (z : Size). samples_by z (λ y x. sample_of shape.colour_depth (g y x))) size)
    ∙ ap (λ (p : PictureSeen). with_shown p C1 g) c.self.view_is
    ∙ ap (λ (k : Component). with_shown c.args.self.now k g) (sym c.in-C1.is)

pub returns-in-C2-clause-samples : goal.returns-in-C2-clause-samples
returns-in-C2-clause-samples G c = λ yes.
    let shape = c.self.inside.shape in
    let was = c.self.invariant in
    let g = synthesis_in G.T.Number.value G.T.Number.none c.args.wavelet c.args.bands.now c.args.padded.w c.args.padded.h in
    let size : (record { w = c.self.inside.c2.w; h = c.self.inside.c2.h }) ≡ shape.colour = ap (λ (w : ℕ). record { w = w; h = c.self.inside.c2.h }) was.c2.width ∙ ap (λ (h : ℕ). record { w = shape.colour.w; h = h }) was.c2.height in
    let with_rows : SamplesSeen → PictureSeen = λ rows. record { shape = shape; samples = record { luma = c.self.inside.luma; c1 = c.self.inside.c1; c2 = rows } } in
    ap with_rows (c.synthesise-in-C2.ensures.samples yes ∙ ap (λ (z : Size). samples_by z (λ y x. sample_of shape.colour_depth (g y x))) size)
    ∙ ap (λ (p : PictureSeen). with_shown p C2 g) c.self.view_is
    ∙ ap (λ (k : Component). with_shown c.args.self.now k g) (sym c.in-C2.is)

pub synthesise-requires-in-C1-clause-room : goal.synthesise-requires-in-C1-clause-room
synthesise-requires-in-C1-clause-room g c = grind (arith, common_steps)

pub synthesise-requires-in-C2-clause-room : goal.synthesise-requires-in-C2-clause-room
synthesise-requires-in-C2-clause-room g c = grind (arith, common_steps)
