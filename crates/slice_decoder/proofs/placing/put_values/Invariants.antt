use Rattle.std.proofs.Common.{◌≡◌, ℕ, ◌*◌, ◌≤◌}
use Rattle.slice_geometry.specs.SliceOrder.{numbered}
use Rattle.slice_decoder.specs.Levels.{places_in, BandsTake}
use Rattle.slice_decoder.proofs.placing.put_values.Given as goal

abbrev pub invariant-loop-k : goal.invariant-loop-k
invariant-loop-k g l = record {
  at : l.at ≡ g.row.EACH * places_in l.job.layout.now l.job.size l.job.place.sx l.job.place.sy l.k;
  takes : BandsTake g.row.EACH l.from l.job.layout.now l.job.size l.job.place.sx l.job.place.sy l.k l.values l.fn.bands l.bands;
  rest : (k : ℕ) → l.k ≤ k → numbered l.bands k ≡ numbered l.fn.bands k;
}
