use Rattle.std.proofs.Common.{◌≡◌, ℕ, ◌+◌, ◌<◌, ◌≤◌, get_or}
use Rattle.planes.specs.Subbands.{no_band}
use Rattle.slice_geometry.specs.SliceOrder.{level_of}
use Rattle.slice_store.specs.Sides.{top}
use Rattle.slice_store.specs.ShortBands.{shorts_of}
use Rattle.slice_store.specs.Gathered.{HaveRows}
use Rattle.slice_store.proofs.gathered.SliceStore+i16.gather_strip.Given as goal

abbrev pub invariant-loop-k : goal.invariant-loop-k
invariant-loop-k G l = record {
  depth : l.bands.depth ≡ l.fn.bands.depth;
  done : (j : ℕ) → j < l.k → HaveRows G.T.Number.value G.T.Number.none (get_or (shorts_of l.self).bands j no_band) (get_or l.bands.bands j no_band) (top l.self.slicing l.self.size (level_of j) (l.sy + 1));
  rest : (j : ℕ) → l.k ≤ j → get_or l.bands.bands j no_band ≡ get_or l.fn.bands.bands j no_band;
}
