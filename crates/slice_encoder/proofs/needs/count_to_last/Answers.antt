use Rattle.std.proofs.Common.{◌≡◌, ◌∙◌, ℕ, ◌+◌, ◌-◌, ◌<◌, length, take, get_or, sym, ap, arith, pos, to_z, w64}
use Rattle.std.proofs.lemmas.List.Elements.{All-get_or}
use Rattle.bounded_blocks.specs.Parts.{IsSmall}
use Rattle.bounded_blocks.specs.Writing.{need}
use Rattle.slice_encoder.proofs.BlockTexts.{told}
use Rattle.slice_encoder.specs.Gathering.{reach}
use Rattle.slice_encoder.proofs.LastValues.{need_without}
use Rattle.slice_encoder.proofs.LastReaches.{reach_without}
use Rattle.slice_encoder.proofs.needs.count_to_last.Goals as goal

pub loop-passed-preserved : goal.loop-passed-preserved
loop-passed-preserved c =
    let l = c.loop-passed in
    let vs = c.args.values.now in
    let n : ℕ = length vs - l.passed - 1 in
    let lt : n < length vs = omega (arith, c.loop-passed-test.true) in
    let zero : get_or vs n (pos 0) ≡ pos 0 = sym (told (get_or vs n (pos 0)) (All-get_or IsSmall vs n (pos 0) lt c.requires)) ∙ ap (to_z w64) c.if-values-count-ne0.false in
    let back : length vs - (l.passed + 1) ≡ n = omega arith in
    let up : n + 1 ≡ length vs - l.passed = omega (arith, c.loop-passed-test.true) in
    record {
      need = ap (λ (k : ℕ). need (take k vs)) back ∙ sym (need_without vs n lt zero) ∙ ap (λ (k : ℕ). need (take k vs)) up ∙ l.invariant.need;
      reach = ap (λ (k : ℕ). reach (take k vs) 0) back ∙ sym (reach_without vs n lt zero) ∙ ap (λ (k : ℕ). reach (take k vs) 0) up ∙ l.invariant.reach;
    }
