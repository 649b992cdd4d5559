use Rattle.std.proofs.Common.{◌+◌, ◌*◌, ◌≤◌}
use Rattle.planes.specs.Valued.{valued}
use Rattle.slice_encoder.specs.Limits.{limits_in}
use Rattle.slice_encoder.specs.Looks.{Counts}
use Rattle.slice_encoder.proofs.limits.LimitRow.look.Given as goal

abbrev pub invariant-loop-k : goal.invariant-loop-k
invariant-loop-k G l = record {
  counts : Counts l.look (limits_in G.T.Number.value G.T.Number.none l.limits l.room) (valued G.T.Number.value G.T.Number.none l.sizes) l.n l.k;
  some : l.look.some ≤ l.n;
  more : l.look.some + l.look.more ≤ l.k * l.n;
}
