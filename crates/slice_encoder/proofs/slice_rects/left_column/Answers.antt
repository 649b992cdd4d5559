use Rattle.std.proofs.Common.{◌∙◌, ℕ, ◌/◌, ◌%◌, length, List, [], ◌∷◌, ap, arith}
use Rattle.std.proofs.lemmas.List.{length-append}
use Rattle.planes.specs.declared.Rect.{Rect}
use Rattle.slice_geometry.specs.SliceOrder.{level_rect}
use Rattle.slice_encoder.proofs.SliceTables.{one_more}
use Rattle.slice_encoder.proofs.slice_rects.left_column.Goals as goal

pub loop-n-preserved : goal.loop-n-preserved
loop-n-preserved c =
    let a = c.args in
    let l = c.loop-n in
    record {
      count = omega (arith, ap (λ (t : List Rect). length t) c.in_ok-push.ensures.items, length-append l.rects.items (c.band_rect.result ∷ []), l.invariant.count);
      each = one_more (λ k. level_rect a.layout.now a.size 0 (k % a.layout.now.slices_y) (k / a.layout.now.slices_y)) l.n l.rects.items c.push.new.self.items c.band_rect.result l.invariant.count c.in_ok-push.ensures.items (c.band_rect.ensures ∙ ap (λ (w : ℕ). level_rect a.layout.now a.size 0 (l.n % w) (l.n / w)) c.slices_y-down.ensures.value) l.invariant.each;
    }
