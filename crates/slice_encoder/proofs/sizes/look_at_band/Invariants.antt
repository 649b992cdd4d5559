use Rattle.std.proofs.Common.{◌≡◌, ◌*◌, ◌≤◌, map, take}
use Rattle.slice_encoder.specs.Gathering.{quantised}
use Rattle.slice_encoder.specs.Looks.{IsLook}
use Rattle.slice_encoder.proofs.sizes.look_at_band.Given as goal

abbrev pub invariant-loop-n : goal.invariant-loop-n
invariant-loop-n G l = record {
  room_is : l.room ≡ l.fn.limits;
  limits_same : l.limits ≡ l.fn.limits;
  look : IsLook l.look (quantised l.index (take (l.n * l.room) (map G.T.Number.value l.sizes)));
  some : l.look.some ≤ 1024 * l.n;
  more : l.look.more ≤ 27648 * l.n;
}
