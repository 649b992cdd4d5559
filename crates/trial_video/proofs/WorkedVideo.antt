-- Worked rows of the video and of the difference, by evaluation.
use Rattle.std.proofs.Common.{◌≡◌, ℕ, [], ◌∷◌, refl}
use Rattle.slice_geometry.specs.declared.Size.{Size}
use Rattle.slice_geometry.specs.Frames.{Frame}
use Rattle.picture_codec.specs.Samples.{SamplesSeen, PictureSamples}
use Rattle.trial_video.specs.Video.{video_picture}
use Rattle.trial_video.specs.Worst.{worst}

abbrev dot : Size
dot = record { w = 1; h = 1 }

abbrev dots : Frame
dots = record { luma = dot; colour = dot; luma_depth = 8; colour_depth = 8 }

abbrev one : ℕ → SamplesSeen
one v = record { w = 1; h = 1; cells = v ∷ [] }

abbrev picture : ℕ → ℕ → ℕ → PictureSamples
picture a b c = record { luma = one a; c1 = one b; c2 = one c }

first_samples : video_picture dots 0 0 ≡ picture 3 11 7
first_samples = refl

differences : worst (picture 3 11 7) (picture 128 126 128) ≡ 125
differences = refl

of_colour : worst (picture 3 11 7) (picture 3 9 16) ≡ 9
of_colour = refl
