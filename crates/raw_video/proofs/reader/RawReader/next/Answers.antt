use Rattle.std.proofs.Common.{◌≡◌, ◌∙◌, Ok, ap, sym, subst, arith}
use Rattle.std.proofs.lemmas.Grind.{common_steps}
use Rattle.slice_geometry.specs.declared.PictureShape.{PictureShape}
use Rattle.slice_geometry.specs.Frames.{frame_of}
use Rattle.raw_video.specs.RawParse.{raw_length}
use Rattle.raw_video.specs.Reading.{RawReaderSeen, ReadsFront}
use Rattle.raw_video.proofs.reader.RawReader.next.Goals as goal

pub invariant_of-self : goal.invariant_of-self
invariant_of-self g c =
    let rest = g.S.Source.rest in
    let f = frame_of c.args.picture.now.shape in
    let front = subst (ReadsFront f c.self.inside.place (rest c.args.src.now) (rest c.read_front-result.new.src) c.read_front-result.new.picture.samples) (c.in-Ok.is ∙ ap Ok c.in-Picture.is) c.read_front-result.ensures.front in
    let same : c.args.picture.now.shape ≡ c.self.inside.shape = c.requires.shape ∙ sym (ap (λ (r : RawReaderSeen). r.shape) c.self.view_is) in
    let long : raw_length f ≡ c.picture_length.result = ap (λ (s : PictureShape). raw_length (frame_of s)) same ∙ sym c.picture_length.ensures.value in
    omega (arith, front.front.1, long)

pub returns-in-Picture-clause-front : goal.returns-in-Picture-clause-front
returns-in-Picture-clause-front g c = grind (arith, common_steps)

pub returns-in-Picture-clause-cause : goal.returns-in-Picture-clause-cause
returns-in-Picture-clause-cause g c = grind (arith, common_steps)

pub returns-in-End-clause-front : goal.returns-in-End-clause-front
returns-in-End-clause-front g c = grind (arith, common_steps)

pub returns-in-End-clause-cause : goal.returns-in-End-clause-cause
returns-in-End-clause-cause g c = grind (arith, common_steps)

pub returns-in-Err-clause-front : goal.returns-in-Err-clause-front
returns-in-Err-clause-front g c = grind (arith, common_steps)
