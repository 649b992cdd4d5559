use Rattle.std.proofs.Common.{◌≡◌, ◌+◌, ◌*◌, sym, ap, subst, ◌∙◌}
use Rattle.slice_geometry.specs.declared.PictureShape.{PictureShape}
use Rattle.slice_geometry.specs.declared.Component.TheVariants.{Luma, C1, C2}
use Rattle.slice_geometry.specs.Frames.{frame_of}
use Rattle.picture_codec.specs.Samples.{component_shown}
use Rattle.raw_video.specs.RawParse.{luma_count, colour_count}
use Rattle.trial_video.specs.Video.{TrialVideoSeen, state_at, video_rows, picture_count, video_picture}
use Rattle.trial_video.proofs.States.{picture_steps}
use Rattle.trial_video.proofs.Whole.{picture_is}
use Rattle.trial_video.proofs.generating.TrialVideo.next.Goals as goal

pub invariant_of-self : goal.invariant_of-self
invariant_of-self c =
    let v = c.self.inside in
    let one = c.fill_component-luma in
    let two = c.fill_component-c1 in
    let three = c.fill_component-self-inside in
    let same : c.args.picture.now.shape ≡ v.shape = c.requires.shape ∙ sym (ap (λ (x : TrialVideoSeen). x.shape) c.self.view_is) in
    let s1 = one.ensures.state ∙ ap (λ (x : PictureShape). state_at v.state (luma_count (frame_of x))) same in
    let s2 = two.ensures.state ∙ ap (λ (x : PictureShape). state_at one.result (colour_count (frame_of x))) (one.ensures.same_shape ∙ same) in
    let s3 = three.ensures.state ∙ ap (λ (x : PictureShape). state_at two.result (colour_count (frame_of x))) (two.ensures.same_shape ∙ one.ensures.same_shape ∙ same) in
    ((picture_steps (frame_of v.shape) v.seed v.pictures v.state one.result two.result three.result c.self.invariant.0 s1 s2 s3).2, three.ensures.small)

pub returns-clause-picture : goal.returns-clause-picture
returns-clause-picture c =
    let v = c.self.inside in
    let f = frame_of v.shape in
    let one = c.fill_component-luma in
    let two = c.fill_component-c1 in
    let three = c.fill_component-self-inside in
    let p3 = three.new.picture in
    let first = v.pictures * picture_count f in
    let same : c.args.picture.now.shape ≡ v.shape = c.requires.shape ∙ sym (ap (λ (x : TrialVideoSeen). x.shape) c.self.view_is) in
    let same1 : one.new.picture.shape ≡ v.shape = one.ensures.same_shape ∙ same in
    let same2 : two.new.picture.shape ≡ v.shape = two.ensures.same_shape ∙ same1 in
    let s1 = one.ensures.state ∙ ap (λ (x : PictureShape). state_at v.state (luma_count (frame_of x))) same in
    let s2 = two.ensures.state ∙ ap (λ (x : PictureShape). state_at one.result (colour_count (frame_of x))) same1 in
    let s3 = three.ensures.state ∙ ap (λ (x : PictureShape). state_at two.result (colour_count (frame_of x))) same2 in
    let steps = picture_steps f v.seed v.pictures v.state one.result two.result three.result c.self.invariant.0 s1 s2 s3 in
    let luma : component_shown p3 Luma ≡ (video_picture f v.seed v.pictures).luma =
    three.ensures.others Luma (λ e. cc) ∙ two.ensures.others Luma (λ e. cc) ∙ one.ensures.rows v.seed first c.self.invariant.0
    ∙ ap (λ (x : PictureShape). video_rows v.seed v.pictures first x.luma_depth x.luma) same in
    let c1 : component_shown p3 C1 ≡ (video_picture f v.seed v.pictures).c1 =
    three.ensures.others C1 (λ e. cc) ∙ two.ensures.rows v.seed (first + luma_count f) steps.0
    ∙ ap (λ (x : PictureShape). video_rows v.seed v.pictures (first + luma_count f) x.colour_depth x.colour) same1 in
    let c2 : component_shown p3 C2 ≡ (video_picture f v.seed v.pictures).c2 =
    three.ensures.rows v.seed (first + luma_count f + colour_count f) steps.1
    ∙ ap (λ (x : PictureShape). video_rows v.seed v.pictures (first + luma_count f + colour_count f) x.colour_depth x.colour) same2 in
    subst (λ (x : TrialVideoSeen). p3 ≡ record { shape = c.args.picture.now.shape; samples = video_picture (frame_of x.shape) x.seed x.pictures }) c.self.view_is
    (picture_is p3 c.args.picture.now.shape (video_picture f v.seed v.pictures) (three.ensures.same_shape ∙ two.ensures.same_shape ∙ one.ensures.same_shape) luma c1 c2)
