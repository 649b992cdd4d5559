use Rattle.std.proofs.Common.{◌≡◌, ℕ, ◌+◌, ◌-◌, ◌*◌, drop, get_or, pos, sym, ap, subst, ◌∙◌, arith}
use Rattle.std.proofs.lemmas.List.{get_or-drop}
use Rattle.slice_geometry.specs.SliceOrder.{number_in}
use Rattle.slice_decoder.specs.Dealing.{StaysBeside}
use Rattle.slice_decoder.proofs.Placed.{RowTakes, rows-take}
use Rattle.slice_decoder.proofs.narrow_placing.put_rows.Goals as goal

pub loop-y-preserved : goal.loop-y-preserved
loop-y-preserved c =
    let r = c.args.rect in
    let l = c.loop-y in
    let i = l.invariant in
    let values = c.args.values.now in
    let from = c.args.from in
    let w : ℕ = r.x1 - r.x0 in
    let begun = i.begun in
    let right : r.x0 + c.args.w ≡ r.x1 = omega (arith, c.requires.width, c.requires.across) in
    let next : l.y + 1 - r.y0 ≡ l.y - r.y0 + 1 = omega arith in
    let sum : (l.y + 1 - r.y0) * w ≡ (l.y - r.y0) * w + w = ap (λ n. n * w) next ∙ omega arith in
    let taken : RowTakes 1 0 l.y r (drop from values) c.row_mut.result.now c.put_part.new.row = record {
      same_length = c.put_part.auto.row;
      inside = λ x low lt.
          let at : l.place + (x - r.x0) ≡ from + (1 * number_in r l.y x + 0) = omega (arith, i.place) in
          c.put_part.ensures.inside x low (omega (arith, lt, right)) ∙ ap (λ n. get_or values n (pos 0)) at ∙ sym
          (get_or-drop from values (1 * number_in r l.y x + 0) (pos 0));
      outside = subst (λ (n : ℕ). StaysBeside r.x0 n c.row_mut.result.now c.put_part.new.row) right c.put_part.ensures.outside;
    } in
    record {
      begun = omega (arith, begun);
      place = omega (arith, i.place, sum, c.requires.width);
      rows = rows-take (λ v. v) (pos 0) 1 0 l.y r (λ k. get_or (drop from values) k (pos 0)) c.args.plane.now l.plane c.row_mut.result.now c.put_part.new.row begun c.loop-y-test.true
          (omega (arith, i.rows.same_height, c.requires.y_inside, c.loop-y-test.true)) c.row_mut.ensures.value i.rows taken;
    }
