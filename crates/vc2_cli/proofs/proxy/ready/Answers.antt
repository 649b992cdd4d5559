use Rattle.std.proofs.Common.{◌∙◌, sym, ap, arith}
use Rattle.slice_geometry.specs.Frames.{frame_of}
use Rattle.stream_reader.proofs.Ready.{frame_same, params_same}
use Rattle.vc2_cli.proofs.proxy.ready.Goals as goal

pub returns-then-level : goal.returns-then-level
returns-then-level c = record {
  frame = ap frame_of (sym c.shape.ensures) ∙ frame_same c.shape.result.now c.args.shape.now c.eq.result c.if-eq.true c.eq.ensures;
  params_are = sym c.params.ensures ∙ params_same c.params.result.now c.args.params.now c.eq-then-eq.result c.if-eq-2.true c.eq-then-eq.ensures;
  level_is = omega (arith, c.level.ensures, c.if-level.true);
}
