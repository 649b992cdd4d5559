use Rattle.std.proofs.Common.{◌≡◌}
use Rattle.sequence_header.specs.Coding.{IsShapeOf}
use Rattle.vc2_words.specs.Shown.{shown}
use Rattle.vc2_cli.specs.TrialTurn.{HasWritten}
use Rattle.vc2_cli.proofs.trial.write_video.Given as goal

abbrev pub invariant-loop-n : goal.invariant-loop-n
invariant-loop-n l = record {
  pictures : IsShapeOf l.picture.shape (shown l.settings).parts;
  shape : l.picture.shape ≡ l.video.shape;
  begun : HasWritten (shown l.settings) l.fn.part l._n l.video l.writer l.sink;
}
