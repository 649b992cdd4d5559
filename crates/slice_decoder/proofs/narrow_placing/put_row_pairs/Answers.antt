use Rattle.std.proofs.Common.{◌≡◌, ℕ, ◌+◌, ◌-◌, ◌*◌, drop, get_or, pos, sym, ap, subst, ◌∙◌, arith}
use Rattle.std.proofs.lemmas.List.{get_or-drop}
use Rattle.slice_geometry.specs.SliceOrder.{number_in}
use Rattle.slice_decoder.specs.Dealing.{StaysBeside}
use Rattle.slice_decoder.proofs.Placed.{RowTakes, rows-take}
use Rattle.slice_decoder.proofs.narrow_placing.put_row_pairs.Goals as goal

pub loop-y-preserved : goal.loop-y-preserved
loop-y-preserved c =
    let r = c.args.rect in
    let l = c.loop-y in
    let i = l.invariant in
    let values = c.args.values.now in
    let from = c.args.from in
    let w : ℕ = r.x1 - r.x0 in
    let begun = i.begun in
    let right : r.x0 + c.args.w ≡ r.x1 = omega (arith, c.requires.width, c.requires.across) in
    let next : l.y + 1 - r.y0 ≡ l.y - r.y0 + 1 = omega arith in
    let sum : (l.y + 1 - r.y0) * w ≡ (l.y - r.y0) * w + w = ap (λ n. n * w) next ∙ omega arith in
    let first : RowTakes 2 0 l.y r (drop from values) c.row_mut-one.result.now c.put_pair.new.first = record {
      same_length = c.put_pair.auto.first;
      inside = λ x low lt.
          let at : l.place + 2 * (x - r.x0) ≡ from + (2 * number_in r l.y x + 0) = omega (arith, i.place) in
          c.put_pair.ensures.first x low (omega (arith, lt, right)) ∙ ap (λ n. get_or values n (pos 0)) at ∙ sym
          (get_or-drop from values (2 * number_in r l.y x + 0) (pos 0));
      outside = subst (λ (n : ℕ). StaysBeside r.x0 n c.row_mut-one.result.now c.put_pair.new.first) right c.put_pair.ensures.first_stays;
    } in
    let second : RowTakes 2 1 l.y r (drop from values) c.row_mut-two.result.now c.put_pair.new.second = record {
      same_length = c.put_pair.auto.second;
      inside = λ x low lt.
          let at : l.place + (2 * (x - r.x0) + 1) ≡ from + (2 * number_in r l.y x + 1) = omega (arith, i.place) in
          c.put_pair.ensures.second x low (omega (arith, lt, right)) ∙ ap (λ n. get_or values n (pos 0)) at ∙ sym
          (get_or-drop from values (2 * number_in r l.y x + 1) (pos 0));
      outside = subst (λ (n : ℕ). StaysBeside r.x0 n c.row_mut-two.result.now c.put_pair.new.second) right c.put_pair.ensures.second_stays;
    } in
    record {
      begun = omega (arith, begun);
      place = omega (arith, i.place, sum, c.requires.width);
      first = rows-take (λ v. v) (pos 0) 2 0 l.y r (λ k. get_or (drop from values) k (pos 0)) c.args.first.now l.first c.row_mut-one.result.now c.put_pair.new.first begun c.loop-y-test.true
          (omega (arith, i.first.same_height, c.requires.first_y_inside, c.loop-y-test.true)) c.row_mut-one.ensures.value i.first first;
      second = rows-take (λ v. v) (pos 0) 2 1 l.y r (λ k. get_or (drop from values) k (pos 0)) c.args.second.now l.second c.row_mut-two.result.now c.put_pair.new.second begun c.loop-y-test.true
          (omega (arith, i.second.same_height, c.requires.second_y_inside, c.loop-y-test.true)) c.row_mut-two.ensures.value i.second second;
    }
