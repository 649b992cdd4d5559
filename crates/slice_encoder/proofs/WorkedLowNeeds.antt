-- A worked slice's bounds by the definitions alone, by evaluation.
use Rattle.std.proofs.Common.{◌≡◌, true, false, [], ◌∷◌, map, refl, ℤ, pos, negsuc}
use Rattle.planes.specs.Raster.{Raster}
use Rattle.planes.specs.Subbands.{BandStack}
use Rattle.bit_codes.specs.Codes.{code_of, intlog2}
use Rattle.quant_factors.specs.Factors.{factor_of, forward_of}
use Rattle.slice_encoder.specs.Trials.{CodedPicture}
use Rattle.slice_encoder.specs.LowNeeds.{lower_of, may_fit}

-- four bands of one place each
abbrev bands : ℤ → ℤ → ℤ → ℤ → BandStack
bands ll hl lh hh =
    let one : ℤ → Raster ℤ = λ v. record { w = 1; rows = (v ∷ []) ∷ [] } in
    record { depth = 1; bands = one ll ∷ one hl ∷ one lh ∷ one hh ∷ [] }

-- one slice of three bytes, over two by two samples of 8 bits
abbrev picture : CodedPicture
picture = record {
  slicing = record { depth = 1; slices_x = 1; slices_y = 1; a = 3; b = 1 };
  frame = record { luma = record { w = 2; h = 2 }; colour = record { w = 2; h = 2 }; luma_depth = 8; colour_depth = 8 };
  matrix = record { depth = 1; entries = 0 ∷ 0 ∷ 0 ∷ 0 ∷ [] };
  coefficients = record { luma = bands (pos 21) (pos 3) (negsuc 4) (pos 2); c1 = bands (pos 0) (pos 0) (pos 0) (pos 0); c2 = bands (pos 0) (pos 0) (pos 0) (pos 0) };
}

bounds : map (lower_of picture 0 0) (0 ∷ 1 ∷ 3 ∷ 7 ∷ 10 ∷ [])
    ≡ record { luma = 13; colour = 0 } ∷ record { luma = 11; colour = 0 } ∷ record { luma = 9; colour = 0 } ∷ record { luma = 1; colour = 0 } ∷ record { luma = 0; colour = 0 } ∷ []
unfolding forward_of factor_of code_of intlog2
bounds = refl

-- the first candidate is 1
candidates : map (λ i. may_fit 3 (lower_of picture 0 0 i)) (0 ∷ 1 ∷ 2 ∷ []) ≡ false ∷ true ∷ true ∷ []
unfolding forward_of factor_of code_of intlog2
candidates = refl
