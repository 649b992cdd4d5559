use Rattle.std.proofs.Common.{◌≡◌, ◌+◌, ◌-◌, ◌*◌, ◌^◌, ◌++◌, length, take, map}
use Rattle.std.specs.List.{All, flat_map, range_with_len}
use Rattle.planes.specs.Numbers.{Within}
use Rattle.planes.specs.Raster.{at}
use Rattle.slice_encoder.specs.Listing.{row_values}
use Rattle.slice_encoder.proofs.gathered.gather_rect.Given as goal

abbrev pub invariant-loop-y : goal.invariant-loop-y
invariant-loop-y l = record {
  place : l.place ≡ l.from + (l.y - l.rect.y0) * (l.rect.x1 - l.rect.x0);
  same_length : length l.out ≡ length l.fn.out;
  small : All (Within (2 ^ 27)) l.out;
  so_far : take l.place l.out ≡ take l.from l.fn.out ++ flat_map (row_values (at l.coefficients) l.rect) (range_with_len l.rect.y0 (l.y - l.rect.y0));
}

abbrev pub invariant-loop-x : goal.invariant-loop-x
invariant-loop-x l = record {
  place : l.place ≡ l.from + (l.y - l.rect.y0) * (l.rect.x1 - l.rect.x0) + (l.x - l.rect.x0);
  same_length : length l.out ≡ length l.fn.out;
  small : All (Within (2 ^ 27)) l.out;
  so_far :
      take l.place l.out
      ≡ take l.from l.fn.out
      ++ (flat_map (row_values (at l.coefficients) l.rect) (range_with_len l.rect.y0 (l.y - l.rect.y0)) ++ map (at l.coefficients l.y) (range_with_len l.rect.x0 (l.x - l.rect.x0)));
}
