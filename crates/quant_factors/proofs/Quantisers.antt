-- The quantiser of a band by the level and the orientation that the code finds for it.
use Rattle.std.proofs.Common.{◌≡◌, ◌∙◌, ap, ℕ}
use Rattle.quant_factors.specs.Weights.{Weights, entry_of, quantiser_of, band_quantiser}

pub index_here : (matrix : Weights) (qindex level level' number orient orient' index : ℕ) → level ≡ level' → number ≡ orient' → orient ≡ number → index ≡ quantiser_of qindex (entry_of matrix level orient) → index ≡ band_quantiser matrix qindex level' orient'
index_here matrix qindex level level' number orient orient' index level_is number_is orient_is is =
    is
    ∙ ap (λ l. quantiser_of qindex (entry_of matrix l orient)) level_is
    ∙ ap (λ o. quantiser_of qindex (entry_of matrix level' o)) (orient_is ∙ number_is)
