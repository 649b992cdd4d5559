-- Worked slices by the definitions alone, by evaluation.
use Rattle.std.proofs.Common.{◌≡◌, ℕ, true, false, List, [], ◌∷◌, map, refl, ℤ, pos, negsuc}
use Rattle.planes.specs.Subbands.{BandStack}
use Rattle.bit_codes.specs.Bits.{bits_of}
use Rattle.bit_codes.specs.Codes.{code_of, intlog2}
use Rattle.dc_prediction.specs.Prediction.{prediction}
use Rattle.quant_factors.specs.Factors.{factor_of, offset_of, restored_of, inverse_of, forward_of}
use Rattle.slice_geometry.specs.Frames.{Frame}
use Rattle.slice_encoder.specs.Loop.{made}
use Rattle.slice_encoder.specs.Trials.{CodedPicture, c1_of, restored_after, last_lists}
use Rattle.slice_encoder.specs.Choice.{fits, slice_bits}

-- a picture of one row, of 8 bits
abbrev frame : ℕ → Frame
frame w = record { luma = record { w = w; h = 1 }; colour = record { w = w; h = 1 }; luma_depth = 8; colour_depth = 8 }

-- one row of places, as many slices of a byte as places, no transform
abbrev band : List ℤ → ℕ → BandStack
band row w = record { depth = 0; bands = record { w = w; rows = row ∷ [] } ∷ [] }

abbrev picture : ℕ → List ℤ → List ℤ → List ℤ → CodedPicture
picture w luma c1 c2 = record {
  slicing = record { depth = 0; slices_x = w; slices_y = 1; a = 1; b = 1 };
  frame = frame w;
  matrix = record { depth = 0; entries = 0 ∷ [] };
  coefficients = record { luma = band luma w; c1 = band c1 w; c2 = band c2 w };
}

abbrev one_place : ℤ → ℤ → CodedPicture
one_place luma c1 = picture 1 (luma ∷ []) (c1 ∷ []) (pos 0 ∷ [])

abbrev two_places : CodedPicture
two_places = picture 2 (pos 0 ∷ pos 0 ∷ []) (negsuc 6 ∷ negsuc 6 ∷ []) (pos 0 ∷ pos 0 ∷ [])

-- which indices fit one byte where C1 is -3
fitting : map (λ i. fits 1 (last_lists (one_place (pos 0) (negsuc 2)) (i ∷ []) 0 0)) (0 ∷ 1 ∷ 2 ∷ 3 ∷ 4 ∷ 5 ∷ 6 ∷ 7 ∷ [])
    ≡ false ∷ true ∷ true ∷ false ∷ false ∷ false ∷ false ∷ true ∷ []
unfolding restored_after made prediction inverse_of forward_of restored_of factor_of offset_of code_of intlog2
fitting = refl

-- the bytes of one place
nothing : slice_bits 1 0 (last_lists (one_place (pos 0) (pos 0)) (0 ∷ []) 0 0) ≡ bits_of (0x01 ∷ [])
unfolding restored_after made prediction inverse_of forward_of restored_of factor_of offset_of code_of intlog2
nothing = refl

minus_two : slice_bits 1 0 (last_lists (one_place (pos 0) (negsuc 1)) (0 ∷ []) 0 0) ≡ bits_of (0x00 ∷ [])
unfolding restored_after made prediction inverse_of forward_of restored_of factor_of offset_of code_of intlog2
minus_two = refl

minus_three : slice_bits 1 1 (last_lists (one_place (pos 0) (negsuc 2)) (1 ∷ []) 0 0) ≡ bits_of (0x02 ∷ [])
unfolding restored_after made prediction inverse_of forward_of restored_of factor_of offset_of code_of intlog2
minus_three = refl

-- two slices: the second is predicted by what is restored in the first
restored_first : restored_after (c1_of two_places) (5 ∷ 1 ∷ []) 0 0 ≡ negsuc 5
unfolding restored_after made prediction inverse_of forward_of restored_of factor_of offset_of
restored_first = refl

first_slice : slice_bits 1 5 (last_lists two_places (5 ∷ []) 0 0) ≡ bits_of (0x0A ∷ [])
unfolding restored_after made prediction inverse_of forward_of restored_of factor_of offset_of code_of intlog2
first_slice = refl

second_slice : slice_bits 1 1 (last_lists two_places (5 ∷ 1 ∷ []) 1 0) ≡ bits_of (0x03 ∷ [])
unfolding restored_after made prediction inverse_of forward_of restored_of factor_of offset_of code_of intlog2
second_slice = refl
