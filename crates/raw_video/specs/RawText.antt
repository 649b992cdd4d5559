-- The raw text of a picture (own): all luma samples, then C1, then C2, each row by row from the top, with no header.
use Rattle.std.specs.Prelude.{ℕ, ◌/◌, ◌%◌, Bool, true, false, ◌||◌, nat_lt, List, [], ◌∷◌, ◌++◌}
use Rattle.std.specs.List.{flat_map}
use Rattle.slice_geometry.specs.Frames.{Frame}
use Rattle.picture_codec.specs.Samples.{PictureSamples}

-- a sample takes two bytes: one of the depths is above 8
abbrev pub is_wide : Frame → Bool
is_wide f = nat_lt 8 f.luma_depth || nat_lt 8 f.colour_depth

-- a sample's bytes, the low one first; one byte holds all of a sample that isn't wide
abbrev pub sample_bytes : Bool → ℕ → List ℕ
sample_bytes false v = v % 256 ∷ []
sample_bytes true v = v % 256 ∷ v / 256 ∷ []

-- the bytes of samples, one after another
abbrev pub text_of : Bool → List ℕ → List ℕ
text_of wide samples = flat_map (sample_bytes wide) samples

-- The raw text of a picture.
unfoldable pub raw_text : Frame → PictureSamples → List ℕ
raw_text f s = text_of (is_wide f) (s.luma.cells ++ s.c1.cells ++ s.c2.cells)
