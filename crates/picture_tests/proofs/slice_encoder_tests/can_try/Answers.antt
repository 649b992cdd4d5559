use Rattle.std.proofs.Common.{◌∙◌, ℕ, sym, subst, arith}
use Rattle.slice_encoder.specs.TrialLaws.{AreCoefficients}
use Rattle.slice_encoder.specs.Ready.{IsReadyToWrite}
use Rattle.slice_encoder.specs.Buffers.{coded_component}
use Rattle.picture_tests.proofs.slice_encoder_tests.can_try.Goals as goal

pub returns-clause-ready : goal.returns-clause-ready
returns-clause-ready c = λ t.
    let a = c.args in
    let s = a.layout.now in
    let shape = a.shape.now in
    let m = a.matrix.now in
    record {
      across = omega (arith, c.if-sx-slices_x.false, c.slices_x.ensures.value);
      down = omega (arith, c.if-sy-slices_y.false, c.slices_y.ensures.value);
      entries = sym c.depth.ensures.value ∙ c.if-depth.false ∙ c.depth-else-sy-slices_y.ensures.value;
      luma = subst (λ (d : ℕ). IsReadyToWrite (coded_component s shape.luma m a.coefficients.now.luma) d a.sx a.sy a.kept.now.luma) (sym c.if-shape-ne8.false) (c.is_ready.ensures c.if-not-is_ready.false m a.sx a.sy);
      c1 = subst (λ (d : ℕ). IsReadyToWrite (coded_component s shape.colour m a.coefficients.now.c1) d a.sx a.sy a.kept.now.c1) (sym c.if-shape-ne8-2.false) (c.is_ready-2.ensures c.if-not-is_ready-2.false m a.sx a.sy);
      c2 = subst (λ (d : ℕ). IsReadyToWrite (coded_component s shape.colour m a.coefficients.now.c2) d a.sx a.sy a.kept.now.c2) (sym c.if-shape-ne8-2.false) (c.is_ready-3.ensures t m a.sx a.sy);
    }

pub returns-clause-given : goal.returns-clause-given
returns-clause-given c = λ t.
    let a = c.args in
    let s = a.layout.now in
    let shape = a.shape.now in
    let m = a.matrix.now in
    let luma = c.is_ready.ensures c.if-not-is_ready.false m a.sx a.sy in
    let c1 = c.is_ready-2.ensures c.if-not-is_ready-2.false m a.sx a.sy in
    let c2 = c.is_ready-3.ensures t m a.sx a.sy in
    record {
      entries = sym c.depth.ensures.value ∙ c.if-depth.false ∙ c.depth-else-sy-slices_y.ensures.value;
      luma_bits = record { some = omega (arith, c.if-shape-ne8.false); most = omega (arith, c.if-shape-ne8.false) };
      colour_bits = record { some = omega (arith, c.if-shape-ne8-2.false); most = omega (arith, c.if-shape-ne8-2.false) };
      luma = record { depth = luma.depth; sizes = luma.sizes; small = subst (λ (d : ℕ). AreCoefficients d (coded_component s shape.luma m a.coefficients.now.luma)) (sym c.if-shape-ne8.false) luma.small };
      c1 = record { depth = c1.depth; sizes = c1.sizes; small = subst (λ (d : ℕ). AreCoefficients d (coded_component s shape.colour m a.coefficients.now.c1)) (sym c.if-shape-ne8-2.false) c1.small };
      c2 = record { depth = c2.depth; sizes = c2.sizes; small = subst (λ (d : ℕ). AreCoefficients d (coded_component s shape.colour m a.coefficients.now.c2)) (sym c.if-shape-ne8-2.false) c2.small };
    }
