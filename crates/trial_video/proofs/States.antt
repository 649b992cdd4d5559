-- Steps of the state.
use Rattle.std.proofs.Common.{◌≡◌, ℕ, zero, suc, ◌+◌, ◌*◌, ◌/◌, ◌%◌, ◌^◌, ap, ◌∙◌, arith}
use Rattle.slice_geometry.specs.Frames.{Frame}
use Rattle.raw_video.specs.RawParse.{luma_count, colour_count}
use Rattle.trial_video.specs.Video.{state_at, video_sample, picture_count}

-- steps behind others
pub more_steps : (seed a b : ℕ) → state_at (state_at seed a) b ≡ state_at seed (a + b)
more_steps seed a zero = let none : a ≡ a + 0 = omega arith in ap (state_at seed) none
more_steps seed a (suc b) =
    let next : suc (a + b) ≡ a + suc b = omega arith in
    ap (λ (s : ℕ). (25173 * s + 13849) % 65536) (more_steps seed a b) ∙ ap (state_at seed) next

-- behind a picture
pub picture_steps : (f : Frame) (seed p s0 s1 s2 s3 : ℕ) → s0 ≡ state_at seed (p * picture_count f) → s1 ≡ state_at s0 (luma_count f) → s2 ≡ state_at s1 (colour_count f) → s3 ≡ state_at s2 (colour_count f)
    → (s1 ≡ state_at seed (p * picture_count f + luma_count f)) × (s2 ≡ state_at seed (p * picture_count f + luma_count f + colour_count f)) × (s3 ≡ state_at seed ((p + 1) * picture_count f))
picture_steps f seed p s0 s1 s2 s3 e0 e1 e2 e3 =
    let first = p * picture_count f in
    let one = e1 ∙ ap (λ (s : ℕ). state_at s (luma_count f)) e0 ∙ more_steps seed first (luma_count f) in
    let two = e2 ∙ ap (λ (s : ℕ). state_at s (colour_count f)) one ∙ more_steps seed (first + luma_count f) (colour_count f) in
    let three = e3 ∙ ap (λ (s : ℕ). state_at s (colour_count f)) two ∙ more_steps seed (first + luma_count f + colour_count f) (colour_count f) in
    (one, two, three ∙ ap (state_at seed) (next_first p (luma_count f) (colour_count f)))
  where
    next_first : (p a b : ℕ) → p * (a + b + b) + a + b + b ≡ (p + 1) * (a + b + b)
    next_first p a b = grind arith

-- The sample of a component in row y and column x, from the state before the component's first sample.
abbrev pub sample_from : (start p depth w y x : ℕ) → ℕ
sample_from start p depth w y x = (x + (2 * y + 3 * p) + state_at start (y * w + (x + 1)) / 4096) % 2 ^ depth

-- It is the video's, where the component's first sample has the number `first`.
pub sample_is : (seed first start p depth w y x : ℕ) → start ≡ state_at seed first → sample_from start p depth w y x ≡ video_sample seed depth p (first + (y * w + x)) y x
sample_is seed first start p depth w y x e =
    let flat : x + (2 * y + 3 * p) ≡ x + 2 * y + 3 * p = omega arith in
    ap (λ (s : ℕ). (x + (2 * y + 3 * p) + state_at s (y * w + (x + 1)) / 4096) % 2 ^ depth) e
    ∙ ap (λ (s : ℕ). (x + (2 * y + 3 * p) + s / 4096) % 2 ^ depth) (more_steps seed first (y * w + (x + 1)))
    ∙ ap (λ (k : ℕ). (x + (2 * y + 3 * p) + state_at seed k / 4096) % 2 ^ depth) (number first (y * w) x)
    ∙ ap (λ (n : ℕ). (n + state_at seed (first + (y * w + x) + 1) / 4096) % 2 ^ depth) flat
  where
    number : (first row x : ℕ) → first + (row + (x + 1)) ≡ first + (row + x) + 1
    number first row x = omega arith
