use Rattle.std.proofs.Common.{◌≡◌, Bool, List, ℕ, ap, ◌∙◌}
use Rattle.std.proofs.lemmas.Result.{on_ok_weaker, on_err_weaker}
use Rattle.vc2_io.proofs.Known.{Appends-along}
use Rattle.slice_geometry.specs.Frames.{frame_of}
use Rattle.raw_video.specs.RawText.{is_wide, text_of}
use Rattle.vc2_io.proofs.Short.{GrewShort-along}
use Rattle.raw_video.proofs.Pieces.{OnErr-always, Appends-picture, GrewShort-luma, GrewShort-c1, GrewShort-c2}
use Rattle.raw_video.proofs.writing.write_picture.Goals as goal

-- the text of a component, by what its calls answered
text_is : (wide wide' : Bool) (samples samples' : List ℕ) → wide ≡ wide' → samples ≡ samples' → text_of wide samples ≡ text_of wide' samples'
text_is wide wide' samples samples' w s = ap (λ b. text_of b samples) w ∙ ap (text_of wide') s

pub returns-in_err-write_samples-clause-err : goal.returns-in_err-write_samples-clause-err
returns-in_err-write_samples-clause-err g c =
    let wide = c.are_wide-wide.ensures ∙ ap (λ shape. is_wide (frame_of shape)) c.shape.ensures in
    let luma = GrewShort-along _ _ _ _ (text_is _ _ _ _ wide c.samples.ensures.value) c.in_err-write_samples.ensures.err in
    OnErr-always c.from_residual.result (GrewShort-luma _ _ (frame_of c.args.picture.now.shape) c.args.picture.now.samples luma)

pub returns-in_err-write_samples-2-clause-err : goal.returns-in_err-write_samples-2-clause-err
returns-in_err-write_samples-2-clause-err g c =
    let wide = c.are_wide-wide.ensures ∙ ap (λ shape. is_wide (frame_of shape)) c.shape.ensures in
    let luma = Appends-along _ _ _ _ (text_is _ _ _ _ wide c.samples.ensures.value) c.in_ok-write_samples.ensures.ok in
    let c1 = GrewShort-along _ _ _ _ (text_is _ _ _ _ wide c.samples-2.ensures.value) c.in_err-write_samples-2.ensures.err in
    OnErr-always c.from_residual-in_err-write_samples-2.result (GrewShort-c1 _ _ _ (frame_of c.args.picture.now.shape) c.args.picture.now.samples luma c1)

pub returns-clause-ok : goal.returns-clause-ok
returns-clause-ok g c =
    let wide = c.are_wide-wide.ensures ∙ ap (λ shape. is_wide (frame_of shape)) c.shape.ensures in
    let luma = Appends-along _ _ _ _ (text_is _ _ _ _ wide c.samples.ensures.value) c.in_ok-write_samples.ensures.ok in
    let c1 = Appends-along _ _ _ _ (text_is _ _ _ _ wide c.samples-2.ensures.value) c.in_ok-write_samples-2.ensures.ok in
    on_ok_weaker c.write_samples-3.result
    (λ c2. Appends-picture _ _ _ _ (frame_of c.args.picture.now.shape) c.args.picture.now.samples luma c1 (Appends-along _ _ _ _ (text_is _ _ _ _ wide c.samples-3.ensures.value) c2))
    c.write_samples-3.ensures.ok

pub returns-clause-err : goal.returns-clause-err
returns-clause-err g c =
    let wide = c.are_wide-wide.ensures ∙ ap (λ shape. is_wide (frame_of shape)) c.shape.ensures in
    let luma = Appends-along _ _ _ _ (text_is _ _ _ _ wide c.samples.ensures.value) c.in_ok-write_samples.ensures.ok in
    let c1 = Appends-along _ _ _ _ (text_is _ _ _ _ wide c.samples-2.ensures.value) c.in_ok-write_samples-2.ensures.ok in
    on_err_weaker c.write_samples-3.result
    (λ c2. GrewShort-c2 _ _ _ _ (frame_of c.args.picture.now.shape) c.args.picture.now.samples luma c1 (GrewShort-along _ _ _ _ (text_is _ _ _ _ wide c.samples-3.ensures.value) c2))
    c.write_samples-3.ensures.err
