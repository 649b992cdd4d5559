use Rattle.std.proofs.Common.{◌≡◌, ◌∙◌, ap, ℕ, ◌%◌, ◌^◌, ◌≤◌, length, arith}
use Rattle.lifting.proofs.RowsBegin.{unused_at, unused_in_turn}
use Rattle.lifting.proofs.row_analysis.RowAnalysis.new.Goals as goal

pub invariant_of-result : goal.invariant_of-result
invariant_of-result g c =
    let q = c.requires in
    let w = c.args.w in
    let h = c.args.h in
    let ls = c.in_ok-levels.levels.items in
    let count = c.in_ok-levels.ensures.count in
    let each = unused_at w h c.args.depth ls q.w_whole q.h_whole count c.in_ok-levels.ensures.each in
    let few : length ls ≤ 4 = omega (arith, count, q.depth) in
    let whole_w : w % 2 ^ length ls ≡ 0 = ap (λ (d : ℕ). w % 2 ^ d) count ∙ q.w_whole in
    let whole_h : h % 2 ^ length ls ≡ 0 = ap (λ (d : ℕ). h % 2 ^ d) count ∙ q.h_whole in
    unused_in_turn c.args.wavelet w h ls few whole_w whole_h q.some q.w_fits q.h_fits each
