use Rattle.std.proofs.Common.{◌≡◌, ◌^◌, length, take}
use Rattle.std.specs.List.{All}
use Rattle.planes.specs.Numbers.{Within}
use Rattle.slice_encoder.specs.Gathering.{raw_before}
use Rattle.slice_encoder.proofs.gathered.gather_bands.Given as goal

abbrev pub invariant-loop-k : goal.invariant-loop-k
invariant-loop-k l = record {
  same_length : length l.out ≡ length l.fn.out;
  small : All (Within (2 ^ 27)) l.out;
  place : l.place ≡ length (raw_before l.rects.slicing l.rects.size l.bands l.sx l.sy l.k);
  so_far : take l.place l.out ≡ raw_before l.rects.slicing l.rects.size l.bands l.sx l.sy l.k;
}
