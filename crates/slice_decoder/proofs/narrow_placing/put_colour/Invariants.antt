use Rattle.std.proofs.Common.{◌≡◌, ℕ, ◌*◌, ◌≤◌}
use Rattle.slice_geometry.specs.SliceOrder.{numbered}
use Rattle.slice_decoder.specs.Levels.{places_in, BandsTake}
use Rattle.slice_decoder.proofs.narrow_placing.put_colour.Given as goal

abbrev pub invariant-loop-k : goal.invariant-loop-k
invariant-loop-k l = record {
  from : l.from ≡ 2 * places_in l.job.layout.now l.job.size l.job.place.sx l.job.place.sy l.k;
  first : BandsTake 2 0 l.job.layout.now l.job.size l.job.place.sx l.job.place.sy l.k l.values l.fn.first l.first;
  second : BandsTake 2 1 l.job.layout.now l.job.size l.job.place.sx l.job.place.sy l.k l.values l.fn.second l.second;
  first_rest : (k : ℕ) → l.k ≤ k → numbered l.first k ≡ numbered l.fn.first k;
  second_rest : (k : ℕ) → l.k ≤ k → numbered l.second k ≡ numbered l.fn.second k;
}
