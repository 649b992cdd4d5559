use Rattle.std.proofs.Common.{◌≡◌, take, length, map}
use Rattle.std.specs.List.{concat, range_with_len}
use Rattle.slice_geometry.specs.Slicing.{bytes_before, total_bytes}
use Rattle.slice_encoder.specs.Chosen.{chosen, written_slice}
use Rattle.slice_encoder.specs.Ready.{coded_picture}
use Rattle.slice_encoder.specs.Trials.{AreKept}
use Rattle.slice_encoder.specs.Tries.{KeptHaveSizes}
use Rattle.picture_codec.proofs.encoder.encode_slices.Given as goal

abbrev pub ghost-encode_lists : goal.ghost-encode_lists
ghost-encode_lists g a = g.coefficients

abbrev pub invariant-loop-n : goal.invariant-loop-n
invariant-loop-n G l = record {
  same : l.slices ≡ l.fn.slices;
  place_is : l.place ≡ bytes_before l.layout.a l.layout.b l.n;
  room : length l.bytes ≡ total_bytes l.layout;
  sizes : KeptHaveSizes (coded_picture l.params.layout l.fn.slices.shape l.params.matrix G.coefficients) l.kept;
  kept : AreKept (coded_picture l.params.layout l.fn.slices.shape l.params.matrix G.coefficients) (chosen (coded_picture l.params.layout l.fn.slices.shape l.params.matrix G.coefficients) l.n) l.kept;
  done : take l.place l.bytes ≡ concat (map (written_slice (coded_picture l.params.layout l.fn.slices.shape l.params.matrix G.coefficients)) (range_with_len 0 l.n));
}
