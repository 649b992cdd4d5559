-- Worked rows of reading: one sample a component.
use Rattle.std.proofs.Common.{◌≡◌, ℕ, [], ◌∷◌, refl}
use Rattle.slice_geometry.specs.declared.Size.{Size}
use Rattle.slice_geometry.specs.Frames.{Frame}
use Rattle.picture_codec.specs.Samples.{SamplesSeen, PictureSamples}
use Rattle.raw_video.specs.RawParse.{Over, LargeAt, CutAt, raw_parse}

abbrev dot : Size
dot = record { w = 1; h = 1 }

abbrev of_bits : ℕ → Frame
of_bits depth = record { luma = dot; colour = dot; luma_depth = depth; colour_depth = depth }

abbrev one : ℕ → SamplesSeen
one v = record { w = 1; h = 1; cells = v ∷ [] }

abbrev picture : ℕ → ℕ → ℕ → PictureSamples
picture a b c = record { luma = one a; c1 = one b; c2 = one c }

a_picture : raw_parse (of_bits 8) (0x80 ∷ 0x81 ∷ 0x82 ∷ []) ≡ record { pictures = picture 0x80 0x81 0x82 ∷ []; ending = Over }
a_picture = refl

cut_short : raw_parse (of_bits 8) (0x80 ∷ 0x80 ∷ []) ≡ record { pictures = []; ending = CutAt 2 }
cut_short = refl

too_large : raw_parse (of_bits 10) (0x00 ∷ 0x02 ∷ 0xFF ∷ 0x03 ∷ 0x00 ∷ 0x04 ∷ []) ≡ record { pictures = []; ending = LargeAt 4 }
too_large = refl

second_too_large : raw_parse (of_bits 9) (0x00 ∷ 0x01 ∷ 0xFF ∷ 0x01 ∷ 0x01 ∷ 0x00 ∷ 0x00 ∷ 0x02 ∷ []) ≡ record { pictures = picture 256 511 1 ∷ []; ending = LargeAt 6 }
second_too_large = refl
