use Rattle.std.proofs.Common.{◌+◌, ap, sym, subst, ◌∙◌}
use Rattle.bit_codes.specs.Codes.{intlog2}
use Rattle.slice_geometry.specs.Shape.{IsSize, IsDepth}
use Rattle.slice_geometry.specs.declared.Size.{Size}
use Rattle.sequence_header.specs.declared.parts.SignalRange.{SignalRange}
use Rattle.sequence_header.proofs.Shapes.{luma_fits, colour_fits, depth_fits, excursions}
use Rattle.sequence_header.proofs.header.SequenceHeader.picture_shape.Goals as goal

pub depth_of-requires : goal.depth_of-requires
depth_of-requires c = rw c.signal_range-range.ensures (excursions c.self.inside.parts.signal c.self.invariant.signal).luma

pub depth_of-requires-2 : goal.depth_of-requires-2
depth_of-requires-2 c = rw c.signal_range-range.ensures (excursions c.self.inside.parts.signal c.self.invariant.signal).colour

pub invariant_of-result : goal.invariant_of-result
invariant_of-result c =
    let p = c.self.inside.parts in
    let q = c.self.invariant in
    let x = excursions p.signal q.signal in
    record {
      luma_fits = subst (λ (s : Size). IsSize s.w s.h) (sym c.luma_size.ensures) (luma_fits p q);
      colour_fits = subst (λ (s : Size). IsSize s.w s.h) (sym c.colour_size.ensures) (colour_fits p q);
      luma_depth_fits = subst IsDepth (sym (c.depth_of.ensures ∙ ap (λ (r : SignalRange). intlog2 (r.luma_excursion + 1)) c.signal_range-range.ensures)) (depth_fits _ x.some_luma x.luma);
      colour_depth_fits = subst IsDepth (sym (c.depth_of-2.ensures ∙ ap (λ (r : SignalRange). intlog2 (r.colour_excursion + 1)) c.signal_range-range.ensures)) (depth_fits _ x.some_colour x.colour);
    }
