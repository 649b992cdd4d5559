use Rattle.std.proofs.Common.{◌≡◌, ℕ, ◌<◌}
use Rattle.std.specs.Prelude.{slice_index_or}
use Rattle.slice_store.specs.Places.{place_of}
use Rattle.slice_store.specs.Sides.{left}
use Rattle.slice_store.proofs.SliceStore.copy_row.Given as goal

abbrev pub invariant-loop-sx : goal.invariant-loop-sx
invariant-loop-sx g l = (x : ℕ) → x < left l.self.slicing l.self.size l.level l.sx → slice_index_or l.out x g.T.Number.none ≡ slice_index_or l.self.numbers (place_of l.self l.level l.orient l.y x) g.T.Number.none
