use Rattle.std.proofs.Common.{◌≡◌, sym, ap, ◌∙◌}
use Rattle.std.proofs.lemmas.Result.{on_ok_weaker, on_err_weaker}
use Rattle.vc2_io.proofs.Known.{Appends-along}
use Rattle.vc2_io.proofs.Short.{GrewShort-along}
use Rattle.slice_geometry.specs.declared.PictureShape.{PictureShape}
use Rattle.slice_geometry.specs.Frames.{frame_of}
use Rattle.raw_video.specs.RawText.{raw_text}
use Rattle.field_weave.specs.declared.Order.{Order}
use Rattle.field_weave.specs.declared.Order.TheVariants.{Bottom}
use Rattle.field_weave.specs.Weaving.{frame_of_two, woven_frame}
use Rattle.field_weave.proofs.WrittenLines.{top_is}
use Rattle.field_weave.proofs.writing.write_frame.Goals as goal

pub returns-in-Top-clause-ok : goal.returns-in-Top-clause-ok
returns-in-Top-clause-ok g c =
    let f = frame_of c.args.first.now.shape in
    let a = c.args.first.now.samples in
    let b = c.args.second.now.samples in
    let is : raw_text (frame_of_two f) (woven_frame Bottom f b a) ≡ raw_text (frame_of_two f) (woven_frame c.args.order f a b) = ap (raw_text (frame_of_two f)) (top_is f a b ∙ ap (λ (o : Order). woven_frame o f a b) (sym c.in-Top.is)) in
    on_ok_weaker c.write_rows_of.result (λ wrote. Appends-along _ _ _ _ is wrote) c.write_rows_of.ensures.ok

pub returns-in-Top-clause-err : goal.returns-in-Top-clause-err
returns-in-Top-clause-err g c =
    let f = frame_of c.args.first.now.shape in
    let a = c.args.first.now.samples in
    let b = c.args.second.now.samples in
    let is : raw_text (frame_of_two f) (woven_frame Bottom f b a) ≡ raw_text (frame_of_two f) (woven_frame c.args.order f a b) = ap (raw_text (frame_of_two f)) (top_is f a b ∙ ap (λ (o : Order). woven_frame o f a b) (sym c.in-Top.is)) in
    on_err_weaker c.write_rows_of.result (λ short. GrewShort-along _ _ _ _ is short) c.write_rows_of.ensures.err

pub returns-in-Bottom-clause-ok : goal.returns-in-Bottom-clause-ok
returns-in-Bottom-clause-ok g c =
    let f = frame_of c.args.first.now.shape in
    let a = c.args.first.now.samples in
    let b = c.args.second.now.samples in
    let is : raw_text (frame_of_two (frame_of c.args.second.now.shape)) (woven_frame Bottom (frame_of c.args.second.now.shape) a b) ≡ raw_text (frame_of_two f) (woven_frame c.args.order f a b) =
    ap (λ (z : PictureShape). raw_text (frame_of_two (frame_of z)) (woven_frame Bottom (frame_of z) a b)) c.requires ∙ ap (λ (o : Order). raw_text (frame_of_two f) (woven_frame o f a b)) (sym c.in-Bottom.is) in
    on_ok_weaker c.write_rows_of-in-Bottom.result (λ wrote. Appends-along _ _ _ _ is wrote) c.write_rows_of-in-Bottom.ensures.ok

pub returns-in-Bottom-clause-err : goal.returns-in-Bottom-clause-err
returns-in-Bottom-clause-err g c =
    let f = frame_of c.args.first.now.shape in
    let a = c.args.first.now.samples in
    let b = c.args.second.now.samples in
    let is : raw_text (frame_of_two (frame_of c.args.second.now.shape)) (woven_frame Bottom (frame_of c.args.second.now.shape) a b) ≡ raw_text (frame_of_two f) (woven_frame c.args.order f a b) =
    ap (λ (z : PictureShape). raw_text (frame_of_two (frame_of z)) (woven_frame Bottom (frame_of z) a b)) c.requires ∙ ap (λ (o : Order). raw_text (frame_of_two f) (woven_frame o f a b)) (sym c.in-Bottom.is) in
    on_err_weaker c.write_rows_of-in-Bottom.result (λ short. GrewShort-along _ _ _ _ is short) c.write_rows_of-in-Bottom.ensures.err
