-- Worked rows, by evaluation.
use Rattle.std.proofs.Common.{◌≡◌, refl, ℕ, List, [], ◌∷◌, ℤ, pos, negsuc}
use Rattle.std.specs.Prelude.{slice_index_or}
use Rattle.planes.specs.Raster.{Grid}
use Rattle.dc_prediction.specs.Prediction.{mean, restored}

prediction_of_minus_one_minus_one_minus_two : mean (negsuc 0) (negsuc 0) (negsuc 1) ≡ negsuc 0
prediction_of_minus_one_minus_one_minus_two = refl

prediction_of_minus_one_zero_minus_one : mean (negsuc 0) (pos 0) (negsuc 0) ≡ negsuc 0
prediction_of_minus_one_zero_minus_one = refl

-- a band of four columns and three rows
residuals : Grid
residuals y x =
    slice_index_or
    (slice_index_or
    ((negsuc 2 ∷ pos 1 ∷ negsuc 3 ∷ pos 2 ∷ [])
    ∷ (pos 5 ∷ negsuc 1 ∷ pos 0 ∷ negsuc 6 ∷ [])
    ∷ (negsuc 0 ∷ negsuc 0 ∷ pos 8 ∷ negsuc 5 ∷ [])
    ∷ []) y [])
    x (pos 0)

restored_row : ℕ → List ℤ
restored_row y = restored residuals y 0 ∷ restored residuals y 1 ∷ restored residuals y 2 ∷ restored residuals y 3 ∷ []

row_0 : restored_row 0 ≡ negsuc 2 ∷ negsuc 1 ∷ negsuc 5 ∷ negsuc 3 ∷ []
unfolding restored_row restored residuals
row_0 = refl

row_1 : restored_row 1 ≡ pos 2 ∷ negsuc 2 ∷ negsuc 3 ∷ negsuc 11 ∷ []
unfolding restored_row restored residuals
row_1 = refl

row_2 : restored_row 2 ≡ pos 1 ∷ negsuc 0 ∷ pos 5 ∷ negsuc 9 ∷ []
unfolding restored_row restored residuals
row_2 = refl
