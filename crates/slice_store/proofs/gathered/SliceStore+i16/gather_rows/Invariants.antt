use Rattle.planes.specs.Subbands.{band_of}
use Rattle.slice_store.specs.ShortBands.{shorts_of}
use Rattle.slice_store.specs.Gathered.{HaveRows}
use Rattle.slice_store.proofs.gathered.SliceStore+i16.gather_rows.Given as goal

abbrev pub invariant-loop-y : goal.invariant-loop-y
invariant-loop-y G l = HaveRows G.T.Number.value G.T.Number.none (band_of (shorts_of l.self) l.level l.orient) l.plane l.y
