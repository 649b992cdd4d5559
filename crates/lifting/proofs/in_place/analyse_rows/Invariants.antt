use Rattle.std.proofs.Common.{◌≡◌, ℕ, ◌*◌, ◌<◌, ◌≤◌, pos}
use Rattle.planes.specs.Raster.{at}
use Rattle.lifting.specs.LevelRows.{HasRows, IsReady}
use Rattle.lifting.specs.Transform.{analysis_level}
use Rattle.lifting.specs.Turns.{SameSize}
use Rattle.lifting.proofs.in_place.analyse_rows.Given as goal

abbrev pub ghost-put_row : goal.ghost-put_row
ghost-put_row g a = g.g

abbrev pub invariant-loop-j : goal.invariant-loop-j
invariant-loop-j G l = record {
  same_size : SameSize l.fn.plane l.plane;
  is : (l.down.w ≡ l.w) × (l.down.h ≡ l.h) × (l.down.wavelet ≡ l.fn.wavelet);
  ready : IsReady l.down;
  came : l.down.came ≡ l.j;
  has : HasRows (λ v. v) (pos 0) G.g l.down;
  done : (i x : ℕ) → i < 2 * l.down.made → x < 2 * l.w → at l.plane i x ≡ analysis_level l.fn.wavelet (2 * l.h) (2 * l.w) G.g i x;
  rest : (i x : ℕ) → 2 * l.down.made ≤ i → at l.plane i x ≡ G.g i x;
  beside : (i x : ℕ) → 2 * l.w ≤ x → at l.plane i x ≡ G.g i x;
}
