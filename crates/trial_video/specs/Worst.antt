-- How far a decoded picture is from the raw one.
use Rattle.std.specs.Prelude.{ℕ, max, List, [], ◌∷◌}
use Rattle.std.specs.Int.{abs_diff}
use Rattle.picture_codec.specs.Samples.{PictureSamples}

-- the greatest difference over two lists, place by place
abbrev pub farthest : List ℕ → List ℕ → ℕ
farthest [] decoded = 0
farthest (a ∷ raw) [] = 0
farthest (a ∷ raw) (b ∷ decoded) = max (abs_diff a b) (farthest raw decoded)

-- the greatest over all components of two pictures
abbrev pub worst : PictureSamples → PictureSamples → ℕ
worst raw decoded = max (farthest raw.luma.cells decoded.luma.cells)
    (max (farthest raw.c1.cells decoded.c1.cells) (farthest raw.c2.cells decoded.c2.cells))

-- the greatest over pictures, one by one
abbrev pub worst_of : List PictureSamples → List PictureSamples → ℕ
worst_of [] decoded = 0
worst_of (p ∷ raw) [] = 0
worst_of (p ∷ raw) (q ∷ decoded) = max (worst p q) (worst_of raw decoded)
