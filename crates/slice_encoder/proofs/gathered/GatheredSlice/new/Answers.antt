use Rattle.std.proofs.Common.{◌*◌, ◌≤◌, length, arith}
use Rattle.slice_encoder.proofs.gathered.GatheredSlice.new.Goals as goal

pub returns : goal.returns
returns c =
    let luma_room : c.most_places.result ≤ length c.in_ok-new-4.field-0.values = c.in_ok-new-4.ensures in
    let colour_room : 2 * c.most_places-2.result ≤ length c.in_ok-new-5.field-0.values = c.in_ok-new-5.ensures in
    record {
      luma_rects = c.in_ok-new-6.ensures;
      colour_rects = c.in_ok-new-7.ensures;
      luma = c.in_ok-new.ensures;
      c1 = c.in_ok-new-2.ensures;
      c2 = c.in_ok-new-3.ensures;
      luma_sizes = λ sx sy across down. omega (arith, c.most_places.ensures.most sx sy across down, luma_room);
      colour_sizes = λ sx sy across down. omega (arith, c.most_places-2.ensures.most sx sy across down, colour_room);
    }
