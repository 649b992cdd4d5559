use Rattle.std.proofs.Common.{◌≡◌, ◌+◌, ◌≤◌, pos}
use Rattle.planes.specs.Valued.{valued}
use Rattle.slice_encoder.specs.Looks.{above, last_above}
use Rattle.slice_encoder.proofs.looks.look_four.Given as goal

abbrev pub invariant-loop-k : goal.invariant-loop-k
invariant-loop-k G l = record {
  some : G.T.Number.value l.some ≡ pos (above (valued G.T.Number.value G.T.Number.none l.first) (valued G.T.Number.value G.T.Number.none l.sizes) l.k);
  more :
      G.T.Number.value l.more
      ≡ pos (above (valued G.T.Number.value G.T.Number.none l.second) (valued G.T.Number.value G.T.Number.none l.sizes) l.k
      + above (valued G.T.Number.value G.T.Number.none l.third) (valued G.T.Number.value G.T.Number.none l.sizes) l.k
      + above (valued G.T.Number.value G.T.Number.none l.fourth) (valued G.T.Number.value G.T.Number.none l.sizes) l.k);
  last : G.T.Number.value l.last ≡ pos (last_above (valued G.T.Number.value G.T.Number.none l.first) (valued G.T.Number.value G.T.Number.none l.sizes) l.k);
  number : G.T.Number.value l.number ≡ pos (l.k + 1);
  some_most : above (valued G.T.Number.value G.T.Number.none l.first) (valued G.T.Number.value G.T.Number.none l.sizes) l.k ≤ l.k;
  second_most : above (valued G.T.Number.value G.T.Number.none l.second) (valued G.T.Number.value G.T.Number.none l.sizes) l.k ≤ l.k;
  third_most : above (valued G.T.Number.value G.T.Number.none l.third) (valued G.T.Number.value G.T.Number.none l.sizes) l.k ≤ l.k;
  fourth_most : above (valued G.T.Number.value G.T.Number.none l.fourth) (valued G.T.Number.value G.T.Number.none l.sizes) l.k ≤ l.k;
  last_most : last_above (valued G.T.Number.value G.T.Number.none l.first) (valued G.T.Number.value G.T.Number.none l.sizes) l.k ≤ l.k;
}
