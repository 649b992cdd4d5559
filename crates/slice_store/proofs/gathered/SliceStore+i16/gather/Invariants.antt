use Rattle.std.proofs.Common.{◌≡◌}
use Rattle.slice_store.specs.Gathered.{HaveStrips}
use Rattle.slice_store.proofs.gathered.SliceStore+i16.gather.Given as goal

abbrev pub invariant-loop-sy : goal.invariant-loop-sy
invariant-loop-sy G l = record {
  depth : l.bands.depth ≡ l.self.slicing.depth;
  strips : HaveStrips G.T.Number.value G.T.Number.none l.self l.bands l.sy;
}
