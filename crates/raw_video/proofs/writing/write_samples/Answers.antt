use Rattle.std.proofs.Common.{◌≡◌, ◌+◌, ◌-◌, arith}
use Rattle.vc2_io.proofs.Known.{Appends-along}
use Rattle.vc2_io.proofs.Short.{GrewShort-along}
use Rattle.raw_video.proofs.Pieces.{OnErr-always, Appends-piece, GrewShort-piece}
use Rattle.raw_video.proofs.writing.write_samples.Goals as goal

pub returns-in_err-write_whole-clause-err : goal.returns-in_err-write_whole-clause-err
returns-in_err-write_whole-clause-err g c =
    let short = GrewShort-along _ _ _ _ c.spell-len.ensures.text c.in_err-write_whole.ensures.err in
    OnErr-always c.from_residual.result (GrewShort-piece _ _ _ c.args.wide c.args.samples.now c.loop-done.done _ c.loop-done.invariant.grew short)

pub loop-done-preserved : goal.loop-done-preserved
loop-done-preserved g c = record {
  in_samples = omega (arith, c.min.ensures);
  grew =
      let more : c.loop-done.done + c.min.result - c.loop-done.done ≡ c.min.result = omega arith in
      let piece = Appends-along _ _ _ _ c.spell-len.ensures.text c.in_ok-write_whole.ensures.ok in
      Appends-piece _ _ _ c.args.wide c.args.samples.now c.loop-done.done c.min.result c.loop-done.invariant.grew (rw more at piece);
  steady = cc (c.in_ok-write_whole.ensures.cause, c.loop-done.invariant.steady);
}
