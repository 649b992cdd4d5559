use Rattle.std.proofs.Common.{◌≡◌, ◌≢◌, ℕ, ◌*◌, ◌<◌, length}
use Rattle.slice_geometry.specs.declared.Component.{Component}
use Rattle.picture_codec.specs.Samples.{component_shown, sample_at}
use Rattle.trial_video.specs.Video.{state_at}
use Rattle.trial_video.proofs.States.{sample_from}
use Rattle.trial_video.proofs.generating.fill_rows.Given as goal

abbrev pub invariant-loop-y : goal.invariant-loop-y
invariant-loop-y l = record {
  long : length l.line ≡ length l.fn.line;
  same_shape : l.picture.shape ≡ l.fn.picture.shape;
  width : (component_shown l.picture l.c).w ≡ length l.fn.line;
  height : (component_shown l.picture l.c).h ≡ l.y-end;
  many : length (component_shown l.picture l.c).cells ≡ l.y-end * length l.fn.line;
  state : l.state ≡ state_at l.fn.start (l.y * length l.fn.line);
  low : l.state < 65536;
  done : (y x : ℕ) → y < l.y → x < length l.fn.line → sample_at (component_shown l.picture l.c) y x ≡ sample_from l.fn.start l.p l.depth (length l.fn.line) y x;
  others : (other : Component) → other ≢ l.c → component_shown l.picture other ≡ component_shown l.fn.picture other;
}
