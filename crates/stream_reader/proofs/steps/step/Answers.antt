use Rattle.stream_reader.proofs.ReaderTurns.{picture_steps}
use Rattle.stream_reader.proofs.steps.step.Goals as goal

pub returns-in-Picture : goal.returns-in-Picture
returns-in-Picture c = picture_steps c.args.earlier.now c.step_picture.new.self c.in-Picture.shown c.args.found c.args.size c.in-Picture.is c.step_picture.ensures
