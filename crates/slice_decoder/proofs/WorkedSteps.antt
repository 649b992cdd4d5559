-- Worked rows of steps, by evaluation. Factors and offsets are those that the standard gives for each index.
use Rattle.std.proofs.Common.{◌≡◌, zero, suc, [], ◌∷◌, map, refl, arith}
use Rattle.quant_factors.specs.Factors.{restored_of, factor_of, offset_of}
use Rattle.slice_decoder.specs.declared.step_rows.StepKey.{StepKey}
use Rattle.slice_decoder.specs.Steps.{restored_by}
use Rattle.slice_decoder.specs.StepRows.{key_quantisers, quantisers_by, AreSteps, IsStepRow}
use Rattle.slice_decoder.proofs.Steps.{low-step}

-- one luma value in each band of levels 0 and 1, and four in each of level 2
abbrev two_levels : StepKey
two_levels = record { each = 1; qindex = 7; areas = 1 ∷ 1 ∷ 4 ∷ 0 ∷ 0 ∷ []; matrix = record { depth = 2; entries = 2 ∷ 1 ∷ 1 ∷ 0 ∷ 5 ∷ 5 ∷ 4 ∷ [] } }

by_level : quantisers_by two_levels ≡ 5 ∷ 6 ∷ 6 ∷ 7 ∷ 2 ∷ 2 ∷ 2 ∷ 2 ∷ 2 ∷ 2 ∷ 2 ∷ 2 ∷ 3 ∷ 3 ∷ 3 ∷ 3 ∷ []
unfolding key_quantisers
by_level = refl

-- one value of each colour component in each band; entries above the index
abbrev one_level : StepKey
one_level = record { each = 2; qindex = 1; areas = 1 ∷ 1 ∷ 0 ∷ 0 ∷ 0 ∷ []; matrix = record { depth = 1; entries = 2 ∷ 1 ∷ 1 ∷ 0 ∷ [] } }

of_colour : quantisers_by one_level ≡ 0 ∷ 0 ∷ 0 ∷ 0 ∷ 0 ∷ 0 ∷ 1 ∷ 1 ∷ []
unfolding key_quantisers
of_colour = refl

-- the steps of a row: 10, 5 at index 5, 11, 6 at index 6 and 13, 7 at index 7
abbrev four_places : StepKey
four_places = record { each = 1; qindex = 7; areas = 1 ∷ 1 ∷ 0 ∷ 0 ∷ 0 ∷ []; matrix = record { depth = 1; entries = 2 ∷ 1 ∷ 1 ∷ 0 ∷ [] } }

steps : AreSteps (5 ∷ 6 ∷ 6 ∷ 7 ∷ []) 4 (10 ∷ 11 ∷ 11 ∷ 13 ∷ []) (7 ∷ 8 ∷ 8 ∷ 9 ∷ []) (6552 ∷ 5957 ∷ 5957 ∷ 5040 ∷ [])
unfolding factor_of offset_of
steps zero lt = low-step 5 _ (omega arith) refl refl refl
steps (suc zero) lt = low-step 6 _ (omega arith) refl refl refl
steps (suc (suc zero)) lt = low-step 6 _ (omega arith) refl refl refl
steps (suc (suc (suc zero))) lt = low-step 7 _ (omega arith) refl refl refl
steps (suc (suc (suc (suc k)))) lt = absurd (omega (arith, lt))

row : IsStepRow four_places (10 ∷ 11 ∷ 11 ∷ 13 ∷ []) (7 ∷ 8 ∷ 8 ∷ 9 ∷ []) (6552 ∷ 5957 ∷ 5957 ∷ 5040 ∷ [])
unfolding key_quantisers
row = record { adds_count = refl; limits_count = refl; steps = steps }

-- index 7 up to the step's limit and past it
by_step : map (restored_by 13 9) (0 ∷ 1 ∷ 2 ∷ 5040 ∷ 5041 ∷ []) ≡ 0 ∷ 5 ∷ 8 ∷ 16382 ∷ 16385 ∷ []
by_step = refl

by_index : map (λ m. restored_of m 7) (0 ∷ 1 ∷ 2 ∷ 5040 ∷ 5041 ∷ []) ≡ 0 ∷ 5 ∷ 8 ∷ 16382 ∷ 16385 ∷ []
unfolding restored_of factor_of offset_of
by_index = refl
