use Rattle.std.proofs.Common.{ℕ, ◌+◌, ◌-◌, ◌*◌, ◌≤◌, sym, ◌∙◌, arith}
use Rattle.std.proofs.Math.Nat.{mul-le-mul_right}
use Rattle.std.proofs.lemmas.Grind.{common_steps}
use Rattle.slice_decoder.proofs.Dealt.{grow-small, grow-behind, stopped}
use Rattle.slice_decoder.proofs.Rects.{RowHolds, rows_sum, rows-more}
use Rattle.slice_decoder.proofs.bands.fill_rects.Goals as goal

pub returns-then-not-fill_parts-clause-small : goal.returns-then-not-fill_parts-clause-small
returns-then-not-fill_parts-clause-small c =
    let r = c.args.rect in
    let i = c.loop-y.invariant in
    let rows : (c.loop-y.y - r.y0 + 1) * (r.x1 - r.x0) ≤ (r.y1 - r.y0) * (r.x1 - r.x0) = mul-le-mul_right (r.x1 - r.x0) (omega arith) in
    stopped c.args.block.now c.loop-y.block (2 * ((c.loop-y.y - r.y0) * (r.x1 - r.x0))) (2 * (r.x1 - r.x0)) _ c.args.index (omega (arith, rows)) i.small i.left (sym c.if-not-fill_parts.true ∙ c.fill_parts.ensures.small)

pub loop-y-preserved : goal.loop-y-preserved
loop-y-preserved c =
    let r = c.args.rect in
    let i = c.loop-y.invariant in
    let w : ℕ = r.x1 - r.x0 in
    let m : ℕ = 2 * ((c.loop-y.y - r.y0) * w) in
    let good = c.if-not-fill_parts.false in
    let sum = rows_sum 2 c.loop-y.y r.y0 w i.begun in
    let first : RowHolds 2 0 c.args.index r c.loop-y.block c.row_mut.result.now c.fill_parts.new.first = record {
      same_length = c.fill_parts.auto.first;
      inside = c.fill_parts.ensures.first good;
      outside = c.fill_parts.ensures.first_stays;
    } in
    let second : RowHolds 2 1 c.args.index r c.loop-y.block c.row_mut-in-loop-y.result.now c.fill_parts.new.second = record {
      same_length = c.fill_parts.auto.second;
      inside = c.fill_parts.ensures.second good;
      outside = c.fill_parts.ensures.second_stays;
    } in
    record {
      begun = omega (arith, i.begun);
      small = sym (grow-small c.args.block.now c.loop-y.block m (2 * w) _ c.args.index _ sum i.small i.left (sym good ∙ c.fill_parts.ensures.small));
      left = grow-behind c.args.block.now c.loop-y.block c.fill_parts.new.block m (2 * w) _ c.args.index sum i.left (c.fill_parts.ensures.left good);
      first = rows-more 2 0 c.args.index c.loop-y.y r c.args.block.now c.loop-y.block c.args.first.now c.loop-y.first c.row_mut.result.now c.fill_parts.new.first (omega arith) i.begun c.loop-y-test.true (omega (arith, i.first.same_height, c.requires.first_y_inside)) c.row_mut.ensures.value i.left i.first first;
      second = rows-more 2 1 c.args.index c.loop-y.y r c.args.block.now c.loop-y.block c.args.second.now c.loop-y.second c.row_mut-in-loop-y.result.now c.fill_parts.new.second (omega arith) i.begun c.loop-y-test.true (omega (arith, i.second.same_height, c.requires.second_y_inside)) c.row_mut-in-loop-y.ensures.value i.left i.second second;
    }

pub returns-then-not-fill_parts-clause-first_keeps : goal.returns-then-not-fill_parts-clause-first_keeps
returns-then-not-fill_parts-clause-first_keeps c = grind (arith, common_steps)

pub returns-then-not-fill_parts-clause-second_keeps : goal.returns-then-not-fill_parts-clause-second_keeps
returns-then-not-fill_parts-clause-second_keeps c = grind (arith, common_steps)
