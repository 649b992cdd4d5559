use Rattle.std.proofs.Common.{◌≡◌, ◌∙◌, ℕ, ◌+◌, ◌-◌, ◌<◌, ◌++◌, List, length, take, get_or, sym, ap, arith, ℤ, pos, to_z, w32}
use Rattle.std.proofs.lemmas.List.{take_all}
use Rattle.std.proofs.lemmas.List.Elements.{All-get_or}
use Rattle.bounded_blocks.specs.Writing.{need}
use Rattle.slice_encoder.specs.BlockValues.{IsIn32}
use Rattle.slice_encoder.proofs.BlockTexts.{told_32}
use Rattle.slice_encoder.proofs.Filled.{need_behind_zero}
use Rattle.slice_encoder.proofs.block_texts.high_to_last.Goals as goal

pub loop-passed-init : goal.loop-passed-init
loop-passed-init c = λ lowest.
    let vs = c.args.values.now in
    ap (λ (us : List ℤ). need (lowest ++ us)) (take_all (length vs - 0) vs (omega arith))

pub loop-passed-preserved : goal.loop-passed-preserved
loop-passed-preserved c = λ lowest.
    let l = c.loop-passed in
    let vs = c.args.values.now in
    let n : ℕ = length vs - l.passed - 1 in
    let lt : n < length vs = omega (arith, c.loop-passed-test.true) in
    let zero : get_or vs n (pos 0) ≡ pos 0 = sym (told_32 (get_or vs n (pos 0)) (All-get_or IsIn32 vs n (pos 0) lt c.requires)) ∙ ap (to_z w32) c.if-values-count-ne0.false in
    let back : length vs - (l.passed + 1) ≡ n = omega arith in
    let up : n + 1 ≡ length vs - l.passed = omega (arith, c.loop-passed-test.true) in
    ap (λ (k : ℕ). need (lowest ++ take k vs)) back ∙ sym (need_behind_zero lowest vs n lt zero) ∙ ap (λ (k : ℕ). need (lowest ++ take k vs)) up ∙ l.invariant lowest

pub returns-then-values-count-ne0-clause-need : goal.returns-then-values-count-ne0-clause-need
returns-then-values-count-ne0-clause-need c = c.loop-passed.invariant
