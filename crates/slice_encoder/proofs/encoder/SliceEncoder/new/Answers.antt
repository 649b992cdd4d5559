use Rattle.std.proofs.Common.{arith}
use Rattle.slice_encoder.proofs.encoder.SliceEncoder.new.Goals as goal

pub invariant_of-result : goal.invariant_of-result
invariant_of-result c = record {
  holds = c.in_ok-gathered.ensures;
  index = omega arith;
  room = record {
    luma = λ sx sy across down. omega (arith, c.most_places.ensures.most sx sy across down, c.in_ok-luma.ensures.len);
    colour = λ sx sy across down. omega (arith, c.most_places-2.ensures.most sx sy across down, c.in_ok-colour.ensures.len);
    few_luma = omega (arith, c.most_places.ensures.few, c.in_ok-luma.ensures.len);
    few_colour = omega (arith, c.most_places-2.ensures.few, c.in_ok-colour.ensures.len);
  };
  lists = c.in_ok-writer.ensures;
}
