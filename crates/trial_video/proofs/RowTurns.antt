-- Rows that are put one behind another.
use Rattle.std.proofs.Common.{◌≡◌, ◌⊎◌, inl, inr, ℕ, ◌+◌, ◌*◌, ◌/◌, ◌%◌, ◌^◌, ◌<◌, ◌≤◌, List, ◌++◌, length, take, drop, get_or, sym, ap, ◌∙◌, arith}
use Rattle.std.proofs.Math.ListN.{get_or-append}
use Rattle.std.proofs.lemmas.List.{length-take, get_or-take, get_or-append-add}
use Rattle.slice_geometry.specs.declared.Size.{Size}
use Rattle.picture_codec.specs.Samples.{SamplesSeen, sample_at, samples_by, with_run}
use Rattle.picture_codec.proofs.Tables.{tabulated_is}
use Rattle.trial_video.specs.Video.{state_at, video_sample, video_rows}
use Rattle.trial_video.proofs.States.{more_steps, sample_from, sample_is}

-- before samples that are put, and among them
put_before : (s : SamplesSeen) (from k : ℕ) (samples : List ℕ) → from ≤ length s.cells → k < from → get_or (with_run s from samples).cells k 0 ≡ get_or s.cells k 0
put_before s from k samples inside lt =
    let long : length (take from s.cells) ≡ from = omega (arith, length-take from s.cells, inside) in
    get_or-append (take from s.cells) (samples ++ drop (from + length samples) s.cells) 0 k (omega (arith, long, lt)) ∙ get_or-take from s.cells k 0 lt

put_among : (s : SamplesSeen) (from k : ℕ) (samples : List ℕ) → from ≤ length s.cells → k < length samples → get_or (with_run s from samples).cells (from + k) 0 ≡ get_or samples k 0
put_among s from k samples inside lt =
    let a = take from s.cells in
    let d = drop (from + length samples) s.cells in
    let long : length a ≡ from = omega (arith, length-take from s.cells, inside) in
    ap (λ (n : ℕ). get_or (a ++ (samples ++ d)) (n + k) 0) (sym long) ∙ get_or-append-add a (samples ++ d) k 0 ∙ get_or-append samples d 0 k lt

earlier : (a b : ℕ) → a < b + 1 → (a < b) ⊎ (a ≡ b)
earlier a b lt = grind arith

row_inside : (y w h : ℕ) → y < h → y * w + w ≤ h * w
row_inside y w h lt = grind arith

place_before : (k y w x : ℕ) → k < y → x < w → k * w + x < y * w
place_before k y w x lt in_row = grind arith

-- a row ends inside its component
pub row_ends : (y w h : ℕ) → y < h → y * w + w ≤ h * w
row_ends y w h lt = row_inside y w h lt

pub row_more : (s : SamplesSeen) (start p depth w h y : ℕ) (row : List ℕ) → s.w ≡ w → length s.cells ≡ h * w → y < h → length row ≡ w
    → ((k x : ℕ) → k < y → x < w → sample_at s k x ≡ sample_from start p depth w k x)
    → ((x : ℕ) → x < w → get_or row x 0 ≡ (x + (2 * y + 3 * p) + state_at (state_at start (y * w)) (x + 1) / 4096) % 2 ^ depth)
    → (k x : ℕ) → k < y + 1 → x < w → sample_at (with_run s (y * w) row) k x ≡ sample_from start p depth w k x
row_more s start p depth w h y row width many inside long done new k x lt in_row =
    ap (λ (n : ℕ). get_or (with_run s (y * w) row).cells (k * n + x) 0) width ∙ elim (earlier k y lt) [
      | inl before ↦
          put_before s (y * w) (k * w + x) row fits (place_before k y w x before in_row)
          ∙ ap (λ (n : ℕ). get_or s.cells (k * n + x) 0) (sym width) ∙ done k x before in_row
      | inr here ↦
          ap (λ (n : ℕ). get_or (with_run s (y * w) row).cells (n * w + x) 0) here
          ∙ put_among s (y * w) x row fits (omega (arith, in_row, long)) ∙ new x in_row
          ∙ ap (λ (n : ℕ). (x + (2 * y + 3 * p) + n / 4096) % 2 ^ depth) (more_steps start (y * w) (x + 1))
          ∙ ap (λ (n : ℕ). sample_from start p depth w n x) (sym here)
    ]
  where
    fits : y * w ≤ length s.cells
    fits = omega (arith, many, row_inside y w h inside)

-- all rows of a component
pub rows_are : (s : SamplesSeen) (size : Size) (seed first start p depth : ℕ) → s.w ≡ size.w → s.h ≡ size.h → length s.cells ≡ size.h * size.w → start ≡ state_at seed first
    → ((y x : ℕ) → y < size.h → x < size.w → sample_at s y x ≡ sample_from start p depth size.w y x) → s ≡ video_rows seed p first depth size
rows_are s size seed first start p depth width height many e done =
    let g : ℕ → ℕ → ℕ = λ y x. video_sample seed depth p (first + (y * size.w + x)) y x in
    let count : length s.cells ≡ s.h * s.w = many ∙ ap (λ (n : ℕ). n * size.w) (sym height) ∙ ap (λ (n : ℕ). s.h * n) (sym width) in
    tabulated_is s g count (λ y x down across. done y x (omega (arith, down, height)) (omega (arith, across, width)) ∙ sample_is seed first start p depth size.w y x e)
    ∙ ap (λ (n : ℕ). samples_by (record { w = n; h = s.h }) g) width ∙ ap (λ (n : ℕ). samples_by (record { w = size.w; h = n }) g) height
