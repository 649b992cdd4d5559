use Rattle.std.proofs.Common.{◌≡◌, ℕ, ◌+◌, ◌-◌, ◌*◌, ◌≤◌, replicate, get_or, pos, sym, ap, ◌∙◌, arith}
use Rattle.std.proofs.Math.Nat.{mul-le-mul_right}
use Rattle.std.proofs.lemmas.Grind.{common_steps}
use Rattle.slice_decoder.specs.Dealing.{dealt}
use Rattle.slice_decoder.proofs.Dealt.{grow-small, grow-behind, stopped}
use Rattle.slice_decoder.proofs.Rects.{RowHolds, RowsHold, rows_sum, rows-more}
use Rattle.slice_decoder.proofs.bands.fill_rect.Goals as goal

pub returns-then-not-fill_part-clause-small : goal.returns-then-not-fill_part-clause-small
returns-then-not-fill_part-clause-small c =
    let r = c.args.rect in
    let i = c.loop-y.invariant in
    let rows : (c.loop-y.y - r.y0 + 1) * (r.x1 - r.x0) ≤ (r.y1 - r.y0) * (r.x1 - r.x0) = mul-le-mul_right (r.x1 - r.x0) (omega arith) in
    stopped c.args.block.now c.loop-y.block (1 * ((c.loop-y.y - r.y0) * (r.x1 - r.x0))) (r.x1 - r.x0) _ c.args.index (omega (arith, rows)) i.small i.left (sym c.if-not-fill_part.true ∙ c.fill_part.ensures.small)

one : (n : ℕ) → n ≡ 1 * n + 0
one n = omega arith

pub loop-y-preserved : goal.loop-y-preserved
loop-y-preserved c =
    let r = c.args.rect in
    let i = c.loop-y.invariant in
    let w : ℕ = r.x1 - r.x0 in
    let times : w ≡ 1 * w = omega arith in
    let sum : 1 * ((c.loop-y.y + 1 - r.y0) * w) ≡ 1 * ((c.loop-y.y - r.y0) * w) + w = rows_sum 1 c.loop-y.y r.y0 w i.begun ∙ omega arith in
    let filled : RowHolds 1 0 c.args.index r c.loop-y.block c.row_mut.result.now c.fill_part.new.row = record {
      same_length = c.fill_part.auto.row;
      inside = λ x from to.
          c.fill_part.ensures.inside c.if-not-fill_part.false x from to
          ∙ ap (λ n. get_or (dealt c.loop-y.block (replicate n c.args.index)) (x - r.x0) (pos 0)) times
          ∙ ap (λ k. get_or (dealt c.loop-y.block (replicate (1 * w) c.args.index)) k (pos 0)) (one (x - r.x0));
      outside = c.fill_part.ensures.outside;
    } in
    let held : RowsHold 1 0 r c.loop-y.y (dealt c.args.block.now (replicate (1 * ((c.loop-y.y - r.y0) * w)) c.args.index)) c.args.plane.now c.loop-y.plane = record {
      same_width = i.same_width;
      same_height = i.same_height;
      inside = i.inside;
      outside = i.outside;
    } in
    let more = rows-more 1 0 c.args.index c.loop-y.y r c.args.block.now c.loop-y.block c.args.plane.now c.loop-y.plane c.row_mut.result.now c.fill_part.new.row (omega arith) i.begun c.loop-y-test.true (omega (arith, i.same_height, c.requires.y_inside)) c.row_mut.ensures.value i.left held filled in
    record {
      begun = omega arith;
      same_width = more.same_width;
      same_height = more.same_height;
      small = sym (grow-small c.args.block.now c.loop-y.block (1 * ((c.loop-y.y - r.y0) * w)) w _ c.args.index _ sum i.small i.left (sym c.if-not-fill_part.false ∙ c.fill_part.ensures.small));
      left = grow-behind c.args.block.now c.loop-y.block c.fill_part.new.block (1 * ((c.loop-y.y - r.y0) * w)) w _ c.args.index sum i.left (c.fill_part.ensures.left c.if-not-fill_part.false);
      inside = more.inside;
      outside = more.outside;
    }

pub returns-then-not-fill_part-clause-keeps : goal.returns-then-not-fill_part-clause-keeps
returns-then-not-fill_part-clause-keeps c = grind (arith, common_steps)
