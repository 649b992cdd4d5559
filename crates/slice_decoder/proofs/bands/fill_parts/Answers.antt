use Rattle.std.proofs.Common.{◌≡◌, ℕ, ◌+◌, ◌-◌, ◌*◌, ◌≤◌, replicate, get_or, pos, sym, ap, ◌∙◌, arith}
use Rattle.slice_decoder.specs.Dealing.{dealt}
use Rattle.slice_decoder.proofs.Dealt.{grow-small, grow-behind, stopped}
use Rattle.slice_decoder.proofs.Rects.{CellsHold, cells_sum, cells-more}
use Rattle.slice_decoder.proofs.bands.fill_parts.Goals as goal

pub returns-then-not-fill_chunk-clause-small : goal.returns-then-not-fill_chunk-clause-small
returns-then-not-fill_chunk-clause-small c =
    let i = c.loop-x.invariant in
    let begun = i.begun in
    let most : (c.loop-x.x + c.min.result) ≤ c.args.x1 = omega (arith, c.min.ensures) in
    let least : c.loop-x.x ≤ (c.loop-x.x + c.min.result) = omega (arith, c.min.ensures, c.loop-x-test.true) in
    stopped c.args.block.now c.loop-x.block (2 * (c.loop-x.x - c.args.x0)) (2 * ((c.loop-x.x + c.min.result) - c.loop-x.x)) _ c.args.index (omega (arith, begun, most, least)) i.small i.left (sym c.if-not-fill_chunk.true ∙ c.fill_chunk.ensures.small)

none_more : (n : ℕ) → 2 * n ≡ 2 * n + 0
none_more n = omega arith

pub loop-x-preserved : goal.loop-x-preserved
loop-x-preserved c =
    let i = c.loop-x.invariant in
    let x = c.loop-x.x in
    let end = (c.loop-x.x + c.min.result) in
    let most : (c.loop-x.x + c.min.result) ≤ c.args.x1 = omega (arith, c.min.ensures) in
    let least : c.loop-x.x ≤ (c.loop-x.x + c.min.result) = omega (arith, c.min.ensures, c.loop-x-test.true) in
    let good = c.if-not-fill_chunk.false in
    let first : CellsHold 2 0 c.loop-x.x (c.loop-x.x + c.min.result) (dealt c.loop-x.block (replicate (2 * ((c.loop-x.x + c.min.result) - c.loop-x.x)) c.args.index)) c.loop-x.first c.fill_chunk.new.first = record {
      inside = λ k from to. c.fill_chunk.ensures.first good k from to ∙ ap (λ n. get_or (dealt c.loop-x.block (replicate (2 * ((c.loop-x.x + c.min.result) - c.loop-x.x)) c.args.index)) n (pos 0)) (none_more (k - c.loop-x.x));
      outside = c.fill_chunk.ensures.first_stays;
    } in
    let second : CellsHold 2 1 c.loop-x.x (c.loop-x.x + c.min.result) (dealt c.loop-x.block (replicate (2 * ((c.loop-x.x + c.min.result) - c.loop-x.x)) c.args.index)) c.loop-x.second c.fill_chunk.new.second = record {
      inside = c.fill_chunk.ensures.second good;
      outside = c.fill_chunk.ensures.second_stays;
    } in
    record {
      begun = omega (arith, i.begun, least);
      order = most;
      small = sym (grow-small c.args.block.now c.loop-x.block (2 * (x - c.args.x0)) (2 * (end - x)) _ c.args.index _ (cells_sum 2 c.args.x0 x end i.begun least) i.small i.left (sym good ∙ c.fill_chunk.ensures.small));
      left = grow-behind c.args.block.now c.loop-x.block c.fill_chunk.new.block (2 * (x - c.args.x0)) (2 * (end - x)) _ c.args.index (cells_sum 2 c.args.x0 x end i.begun least) i.left (c.fill_chunk.ensures.left good);
      first = cells-more 2 0 c.args.index c.args.x0 x end c.args.block.now c.loop-x.block c.args.first.now c.loop-x.first c.fill_chunk.new.first (omega arith) i.begun least i.left i.first first;
      second = cells-more 2 1 c.args.index c.args.x0 x end c.args.block.now c.loop-x.block c.args.second.now c.loop-x.second c.fill_chunk.new.second (omega arith) i.begun least i.left i.second second;
    }
