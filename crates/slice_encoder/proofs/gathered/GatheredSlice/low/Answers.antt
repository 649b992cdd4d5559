use Rattle.std.proofs.Common.{◌≡◌, ◌∙◌, sym, ap, ℕ, ◌+◌, ◌-◌, ◌*◌, ◌^◌, arith, ℤ}
use Rattle.dc_prediction.proofs.PredictionLemmas.{fits}
use Rattle.quant_factors.specs.Weights.{band_quantiser}
use Rattle.slice_encoder.specs.Gathering.{behind_lowest}
use Rattle.slice_encoder.specs.FirstResiduals.{bits_beyond_one}
use Rattle.slice_encoder.specs.GatheredSlices.{lowest_luma, lowest_colour, gathered_low}
use Rattle.slice_encoder.proofs.Near.{abs_within}
use Rattle.slice_encoder.proofs.LookLaws.{look_reaches}
use Rattle.slice_encoder.proofs.FirstPlaces.{both}
use Rattle.slice_encoder.proofs.gathered.GatheredSlice.low.Goals as goal

pub returns-clause-value : goal.returns-clause-value
returns-clause-value c =
    let a = c.args in
    let g = a.self.now in
    let f = a.firsts in
    let q : ℕ = band_quantiser a.matrix.now a.index 0 0 in
    let at_q : c.quantiser-quantiser.result ≡ q = c.quantiser-quantiser.ensures in
    let luma_beyond : c.bits_beyond-3.result ≡ bits_beyond_one f.luma q = c.bits_beyond-3.ensures.value ∙ ap (λ (v : ℤ). bits_beyond_one v c.quantiser-quantiser.result) (fits (2 ^ 36) f.luma (omega arith) (abs_within (2 ^ 36) f.luma c.requires.small.luma)) ∙ ap (bits_beyond_one f.luma) at_q in
    let c1_beyond : c.bits_beyond.result ≡ bits_beyond_one f.c1 q = c.bits_beyond.ensures.value ∙ ap (λ (v : ℤ). bits_beyond_one v c.quantiser-quantiser.result) (fits (2 ^ 36) f.c1 (omega arith) (abs_within (2 ^ 36) f.c1 c.requires.small.c1)) ∙ ap (bits_beyond_one f.c1) at_q in
    let c2_beyond : c.bits_beyond-2.result ≡ bits_beyond_one f.c2 q = c.bits_beyond-2.ensures.value ∙ ap (λ (v : ℤ). bits_beyond_one v c.quantiser-quantiser.result) (fits (2 ^ 36) f.c2 (omega arith) (abs_within (2 ^ 36) f.c2 c.requires.small.c2)) ∙ ap (bits_beyond_one f.c2) at_q in
    let lumas : c.lowest.result + c.bits_beyond-3.result ≡ lowest_luma g f q = omega (arith, c.lowest.ensures.value, luma_beyond) in
    let colours : 2 * c.lowest-2.result + (c.bits_beyond.result + c.bits_beyond-2.result) ≡ lowest_colour g f q = omega (arith, c.lowest-2.ensures.value, c1_beyond, c2_beyond) in
    both c.saturating_sub.result (gathered_low g f a.matrix.now a.index).luma c.saturating_sub-2.result (gathered_low g f a.matrix.now a.index).colour
    (c.saturating_sub.ensures
    ∙ ap (λ (n : ℕ). n - 3)
    (c.behind-luma.ensures.value
    ∙ ap (λ (n : ℕ). behind_lowest n c.reach.result) lumas
    ∙ ap (λ (n : ℕ). behind_lowest (lowest_luma g f q) n) (c.reach.ensures ∙ sym (look_reaches a.looks.luma _ c.requires.looks.luma))))
    (c.saturating_sub-2.ensures
    ∙ ap (λ (n : ℕ). n - 3)
    (c.behind-colour.ensures.value
    ∙ ap (λ (n : ℕ). behind_lowest n c.reach-2.result) colours
    ∙ ap (λ (n : ℕ). behind_lowest (lowest_colour g f q) n) (c.reach-2.ensures ∙ sym (look_reaches a.looks.colour _ c.requires.looks.colour))))
