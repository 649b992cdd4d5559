use Rattle.std.proofs.Common.{◌≡◌, ◌≤◌, pos}
use Rattle.planes.specs.Valued.{valued}
use Rattle.slice_encoder.specs.Looks.{above}
use Rattle.slice_encoder.proofs.looks.count_above.Given as goal

abbrev pub invariant-loop-k : goal.invariant-loop-k
invariant-loop-k G l = record {
  count : G.T.Number.value l.count ≡ pos (above (valued G.T.Number.value G.T.Number.none l.limits) (valued G.T.Number.value G.T.Number.none l.sizes) l.k);
  most : above (valued G.T.Number.value G.T.Number.none l.limits) (valued G.T.Number.value G.T.Number.none l.sizes) l.k ≤ l.k;
}
