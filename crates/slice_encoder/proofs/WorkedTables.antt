-- Worked entries of the encoder's tables, by evaluation.
use Rattle.std.proofs.Common.{◌≡◌, ℕ, ◌+◌, ◌*◌, List, ◌++◌, get_or, refl, pos, negsuc, arith}
use Rattle.bit_codes.specs.Codes.{code_of, signed_code_of}
use Rattle.quant_factors.specs.Factors.{factor_of}
use Rattle.slice_encoder.specs.CodeTables.{IsEntry, IsPairEntry, ArePairs, AreSingles, place_of}
use Rattle.slice_encoder.specs.Scales.{IsScaleOf}

-- ---- entries: a text, times 256, and its length

zero : IsEntry (0b1 * 256 + 1) (signed_code_of (pos 0))
unfolding code_of
zero = record { digits = refl; few = omega arith; number = omega arith }

zeros : IsPairEntry (0b11 * 256 + 2) 32 32
unfolding code_of
zeros = record { digits = refl; few = omega arith; number = omega arith }

mixed : IsPairEntry (0b00100111 * 256 + 8) 33 30
unfolding code_of
mixed = record { digits = refl; few = omega arith; number = omega arith }

longest : IsPairEntry (0b000000000011000000000011 * 256 + 24) 1 1
unfolding code_of
longest = record { digits = refl; few = omega arith; number = omega arith }

-- a value past 31 has no place, and so no pair
past : place_of (pos 32) ≡ 0
past = refl

none : IsPairEntry 255 (place_of (pos 32)) (place_of (negsuc 1))
none = refl

-- the places of some pairs and values in the tables
mixed_place : (entries : List ℕ) → ArePairs entries → IsEntry (get_or entries 2142 0) (signed_code_of (pos 1) ++ signed_code_of (negsuc 1))
mixed_place entries are = are.each 2142 (omega arith)

last_place : (entries : List ℕ) → ArePairs entries → IsEntry (get_or entries 4095 0) (signed_code_of (pos 31) ++ signed_code_of (pos 31))
last_place entries are = are.each 4095 (omega arith)

first_single : (entries : List ℕ) → AreSingles entries → IsEntry (get_or entries 0 0) (signed_code_of (negsuc 511))
first_single entries are = are.each 0 (omega arith)

-- ---- four over the factors 4, 5, 6 and 13

scale_0 : IsScaleOf (record { number = 2147483648; shift = 31 }) 0
unfolding factor_of
scale_0 = record { shift = refl; least = omega arith; most = omega arith }

scale_1 : IsScaleOf (record { number = 1717986919; shift = 31 }) 1
unfolding factor_of
scale_1 = record { shift = refl; least = omega arith; most = omega arith }

scale_2 : IsScaleOf (record { number = 1431655766; shift = 31 }) 2
unfolding factor_of
scale_2 = record { shift = refl; least = omega arith; most = omega arith }

scale_7 : IsScaleOf (record { number = 1321528399; shift = 32 }) 7
unfolding factor_of
scale_7 = record { shift = refl; least = omega arith; most = omega arith }
