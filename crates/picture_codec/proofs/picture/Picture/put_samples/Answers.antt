use Rattle.std.proofs.Common.{◌≡◌, ◌<◌, ◌^◌, ap, sym, subst}
use Rattle.std.specs.List.{All}
use Rattle.slice_geometry.specs.declared.Component.{Component}
use Rattle.slice_geometry.specs.declared.PictureShape.{PictureShape}
use Rattle.picture_codec.specs.Pictures.{depth_of}
use Rattle.slice_geometry.specs.Frames.{frame_of}
use Rattle.picture_codec.specs.Samples.{AreSamples, PictureSeen}
use Rattle.picture_codec.proofs.Runs.{run_fits}
use Rattle.picture_codec.proofs.picture.Picture.put_samples.Goals as goal

pub invariant_of-self : goal.invariant_of-self
invariant_of-self c =
    let shape = c.self.inside.shape in
    let was = c.self.invariant in
    let same : shape ≡ c.args.self.now.shape = ap (λ (p : PictureSeen). p.shape) c.self.view_is in
    let of_shape = subst (λ (s : PictureShape). All (λ v. v < 2 ^ depth_of (frame_of s) c.args.c) c.args.samples.now) (sym same) c.requires.small in
    let small = subst (λ (k : Component). All (λ v. v < 2 ^ depth_of (frame_of shape) k) c.args.samples.now) c.in-Luma.is of_shape in
    record {
      luma = subst (AreSamples shape.luma shape.luma_depth) (sym c.put.ensures) (run_fits shape.luma shape.luma_depth c.args.from c.self.inside.luma c.args.samples.now was.luma small);
      c1 = was.c1;
      c2 = was.c2;
    }

pub invariant_of-self-in-C1 : goal.invariant_of-self-in-C1
invariant_of-self-in-C1 c =
    let shape = c.self.inside.shape in
    let was = c.self.invariant in
    let same : shape ≡ c.args.self.now.shape = ap (λ (p : PictureSeen). p.shape) c.self.view_is in
    let of_shape = subst (λ (s : PictureShape). All (λ v. v < 2 ^ depth_of (frame_of s) c.args.c) c.args.samples.now) (sym same) c.requires.small in
    let small = subst (λ (k : Component). All (λ v. v < 2 ^ depth_of (frame_of shape) k) c.args.samples.now) c.in-C1.is of_shape in
    record {
      luma = was.luma;
      c1 = subst (AreSamples shape.colour shape.colour_depth) (sym c.put-in-C1.ensures) (run_fits shape.colour shape.colour_depth c.args.from c.self.inside.c1 c.args.samples.now was.c1 small);
      c2 = was.c2;
    }

pub invariant_of-self-in-C2 : goal.invariant_of-self-in-C2
invariant_of-self-in-C2 c =
    let shape = c.self.inside.shape in
    let was = c.self.invariant in
    let same : shape ≡ c.args.self.now.shape = ap (λ (p : PictureSeen). p.shape) c.self.view_is in
    let of_shape = subst (λ (s : PictureShape). All (λ v. v < 2 ^ depth_of (frame_of s) c.args.c) c.args.samples.now) (sym same) c.requires.small in
    let small = subst (λ (k : Component). All (λ v. v < 2 ^ depth_of (frame_of shape) k) c.args.samples.now) c.in-C2.is of_shape in
    record {
      luma = was.luma;
      c1 = was.c1;
      c2 = subst (AreSamples shape.colour shape.colour_depth) (sym c.put-in-C2.ensures) (run_fits shape.colour shape.colour_depth c.args.from c.self.inside.c2 c.args.samples.now was.c2 small);
    }
