-- Samples that are put behind others.
use Rattle.std.proofs.Common.{ℕ, zero, suc, ◌+◌, ◌<◌, ◌^◌, List, [], ◌∷◌, ◌++◌, length, take, drop, arith}
use Rattle.std.specs.List.{All}
use Rattle.slice_geometry.specs.declared.Size.{Size}
use Rattle.picture_codec.specs.Samples.{SamplesSeen, AreBelow, AreSamples, with_run}

below-append : (m : ℕ) (a b : List ℕ) → AreBelow m a → AreBelow m b → AreBelow m (a ++ b)
below-append m [] b pa pb k = pb k
below-append m (x ∷ a) b pa pb zero = pa 0
below-append m (x ∷ a) b pa pb (suc k) = below-append m a b (λ j. pa (suc j)) pb k

below-take : (m n : ℕ) (l : List ℕ) → 0 < m → AreBelow m l → AreBelow m (take n l)
below-take m zero l some p k = some
below-take m (suc n) [] some p k = some
below-take m (suc n) (x ∷ l) some p zero = p 0
below-take m (suc n) (x ∷ l) some p (suc k) = below-take m n l some (λ j. p (suc j)) k

below-drop : (m n : ℕ) (l : List ℕ) → AreBelow m l → AreBelow m (drop n l)
below-drop m zero l p k = p k
below-drop m (suc n) [] p k = p k
below-drop m (suc n) (x ∷ l) p k = below-drop m n l (λ j. p (suc j)) k

pub below-all : (m : ℕ) (l : List ℕ) → 0 < m → All (λ v. v < m) l → AreBelow m l
below-all m [] some p k = some
below-all m (x ∷ l) some p zero = p 0 0 (omega arith)
below-all m (x ∷ l) some p (suc k) = below-all m l some (λ j d lt. p (suc j) d (omega arith)) k

pub all-below : (m : ℕ) (l : List ℕ) → AreBelow m l → All (λ v. v < m) l
all-below m [] p k d lt = absurd (omega arith)
all-below m (x ∷ l) p zero d lt = p 0
all-below m (x ∷ l) p (suc k) d lt = all-below m l (λ j. p (suc j)) k d (omega arith)

pub ruleset all_are_below = (all-below)

pub run_fits : (size : Size) (depth from : ℕ) (s : SamplesSeen) (samples : List ℕ) → AreSamples size depth s → All (λ v. v < 2 ^ depth) samples → AreSamples size depth (with_run s from samples)
run_fits size depth from s samples was small =
    let some : 0 < 2 ^ depth = omega (arith, was.small 0) in
    record {
      width = was.width;
      height = was.height;
      small =
          below-append (2 ^ depth) (take from s.cells) (samples ++ drop (from + length samples) s.cells)
          (below-take (2 ^ depth) from s.cells some was.small)
          (below-append (2 ^ depth) samples (drop (from + length samples) s.cells) (below-all (2 ^ depth) samples some small) (below-drop (2 ^ depth) (from + length samples) s.cells was.small));
    }
