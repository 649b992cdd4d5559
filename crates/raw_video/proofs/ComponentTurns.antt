-- The samples of a component, piece by piece, and the components of a picture.
use Rattle.std.proofs.Common.{◌≡◌, ◌≢◌, ℕ, ◌+◌, ◌-◌, ◌*◌, ◌^◌, ◌<◌, ◌≤◌, Bool, true, false, All, List, ◌++◌, length, take, drop, replicate, Option, Result, Ok, Err, refl, sym, ap, subst, ◌∙◌, arith, append_assoc}
use Rattle.std.proofs.Math.Nat.{mul_comm}
use Rattle.std.proofs.Math.Seq.{take-append-add, take-append_seam}
use Rattle.std.proofs.lemmas.List.{length-append, length-take, length-drop, length-replicate, replicate-append-replicate}
use Rattle.slice_geometry.specs.declared.Component.{Component}
use Rattle.slice_geometry.specs.declared.Component.TheVariants.{Luma, C1, C2}
use Rattle.slice_geometry.specs.declared.PictureShape.{PictureShape}
use Rattle.slice_geometry.specs.Frames.{Frame, frame_of}
use Rattle.picture_codec.specs.Samples.{SamplesSeen, PictureSamples, PictureSeen, component_of, with_component, with_run, component_shown, width_of, height_of}
use Rattle.raw_video.specs.RawText.{is_wide}
use Rattle.raw_video.specs.RawParse.{sample_size, luma_count, colour_count, sample_bounds, samples_in, first_large, picture_from}
use Rattle.raw_video.specs.Reading.{ReadsSamples}
use Rattle.raw_video.specs.declared.reading.Halt.{Halt}
use Rattle.raw_video.specs.declared.reading.Halt.TheVariants.{Large}
use Rattle.raw_video.proofs.ReadTurns.{reads_then, reads_first, whole_count, all_below_one, large_inside}
use Rattle.raw_video.proofs.Fronts.{length_bounds, picture_is}

-- ---- one piece more

joined : (a b bound : ℕ) → replicate a bound ++ replicate b bound ≡ replicate (a + b) bound
joined a b bound = replicate-append-replicate a b bound

module _ (wide : Bool) (start room from n bound : ℕ) (rest0 rest1 rest2 : Option (List ℕ)) (front : List ℕ) (so_far : ReadsSamples wide start room (replicate from bound) rest0 rest1 front (Ok tt)) where
  both : (samples : List ℕ) (result : Result (Unit {0}) Halt) → ReadsSamples wide (start + from) room (replicate n bound) rest1 rest2 samples result
      → ReadsSamples wide start room (replicate (from + n) bound) rest0 rest2 (front ++ samples) result
  both samples result piece =
      let here = subst (λ (k : ℕ). ReadsSamples wide (start + k) room (replicate n bound) rest1 rest2 samples result) (sym (length-replicate from bound)) piece in
      subst (λ (b : List ℕ). ReadsSamples wide start room b rest0 rest2 (front ++ samples) result) (joined from n bound)
      (reads_then wide start room (replicate from bound) (replicate n bound) rest0 rest1 rest2 front samples result so_far here)

  pub piece_more : (samples cells : List ℕ) (done : ℕ) → done ≡ from + n → cells ≡ front ++ samples → ReadsSamples wide (start + from) room (replicate n bound) rest1 rest2 samples (Ok tt)
      → ReadsSamples wide start room (replicate done bound) rest0 rest2 cells (Ok tt)
  piece_more samples cells done is same piece =
      subst (λ (l : List ℕ). ReadsSamples wide start room (replicate done bound) rest0 rest2 l (Ok tt)) (sym same)
      (subst (λ (m : ℕ). ReadsSamples wide start room (replicate m bound) rest0 rest2 (front ++ samples) (Ok tt)) (sym is) (both samples (Ok tt) piece))

  pub piece_halted : (samples cells : List ℕ) (count : ℕ) (halt : Halt) → from + n ≤ count → ReadsSamples wide (start + from) room (replicate n bound) rest1 rest2 samples (Err halt)
      → ReadsSamples wide start room (replicate count bound) rest0 rest2 cells (Err halt)
  piece_halted samples cells count halt le piece =
      let all : replicate (from + n) bound ++ replicate (count - (from + n)) bound ≡ replicate count bound =
      joined (from + n) (count - (from + n)) bound ∙ ap (λ (m : ℕ). replicate m bound) (let e : from + n + (count - (from + n)) ≡ count = omega (arith, le) in e) in
      subst (λ (b : List ℕ). ReadsSamples wide start room b rest0 rest2 cells (Err halt)) all
      (reads_first wide start room (replicate (from + n) bound) (replicate (count - (from + n)) bound) rest0 rest2 (front ++ samples) cells halt (both samples (Err halt) piece))

-- all samples of a piece are below their bound
pub piece_below : (wide : Bool) (start room n bound : ℕ) (rest0 rest1 : Option (List ℕ)) (samples : List ℕ) → ReadsSamples wide start room (replicate n bound) rest0 rest1 samples (Ok tt) → All (λ v. v < bound) samples
piece_below wide start room n bound rest0 rest1 samples r =
    let many : length (samples_in wide r.taken) ≡ n = whole_count wide r.taken n (r.are.0 ∙ ap (λ (m : ℕ). sample_size wide * m) (length-replicate n bound)) in
    subst (λ (l : List ℕ). All (λ v. v < bound) l) r.are.1
    (all_below_one bound (samples_in wide r.taken) (ap (λ (m : ℕ). first_large (replicate m bound) (samples_in wide r.taken)) many ∙ r.are.2))

-- ---- samples that are put behind others

pub run_front : (s : SamplesSeen) (from n : ℕ) (samples : List ℕ) → from ≤ length s.cells → length samples ≡ n → take (from + n) (with_run s from samples).cells ≡ take from s.cells ++ samples
run_front s from n samples inside many =
    let a = take from s.cells in
    let d = drop (from + length samples) s.cells in
    let long : length a ≡ from = omega (arith, length-take from s.cells, inside) in
    ap (λ (m : ℕ). take (m + n) (a ++ (samples ++ d))) (sym long) ∙ take-append-add a (samples ++ d) n ∙ ap (λ (m : ℕ). a ++ take m (samples ++ d)) (sym many) ∙ ap (λ (l : List ℕ). a ++ l) (take-append_seam samples d)

pub run_long : (s : SamplesSeen) (from : ℕ) (samples : List ℕ) → from + length samples ≤ length s.cells → length (with_run s from samples).cells ≡ length s.cells
run_long s from samples inside =
    let a = take from s.cells in
    let d = drop (from + length samples) s.cells in
    omega (arith, length-append a (samples ++ d), length-append samples d, length-take from s.cells, length-drop (from + length samples) s.cells, inside)

pub put_here : (s : PictureSamples) (c : Component) (rows : SamplesSeen) → component_of (with_component s c rows) c ≡ rows
put_here s Luma rows = refl
put_here s C1 rows = refl
put_here s C2 rows = refl

pub put_others : (s : PictureSamples) (c other : Component) (rows : SamplesSeen) → other ≢ c → component_of (with_component s c rows) other ≡ component_of s other
put_others s Luma Luma rows ne = absurd (ne refl)
put_others s Luma C1 rows ne = refl
put_others s Luma C2 rows ne = refl
put_others s C1 Luma rows ne = refl
put_others s C1 C1 rows ne = absurd (ne refl)
put_others s C1 C2 rows ne = refl
put_others s C2 Luma rows ne = refl
put_others s C2 C1 rows ne = refl
put_others s C2 C2 rows ne = absurd (ne refl)

-- ---- the components of a picture

module _ (shape : PictureShape) where
  pub luma_few : luma_count (frame_of shape) ≤ 2 ^ 24
  luma_few = omega (arith, mul_comm shape.luma.h shape.luma.w, shape.luma_fits.product)

  pub colour_few : colour_count (frame_of shape) ≤ 2 ^ 24
  colour_few = omega (arith, mul_comm shape.colour.h shape.colour.w, shape.colour_fits.product)

pub luma_halted : (f : Frame) (room : ℕ) (rest0 rest1 : Option (List ℕ)) (samples cells : List ℕ) (halt : Halt) → ReadsSamples (is_wide f) 0 room (replicate (luma_count f) (2 ^ f.luma_depth)) rest0 rest1 samples (Err halt)
    → ReadsSamples (is_wide f) 0 room (sample_bounds f) rest0 rest1 cells (Err halt)
luma_halted f room rest0 rest1 samples cells halt r =
    let b = replicate (colour_count f) (2 ^ f.colour_depth) in
    reads_first (is_wide f) 0 room (replicate (luma_count f) (2 ^ f.luma_depth)) (b ++ b) rest0 rest1 samples cells halt r

module _ (f : Frame) (room : ℕ) (rest0 rest1 : Option (List ℕ)) (luma : List ℕ) (first : ReadsSamples (is_wide f) 0 room (replicate (luma_count f) (2 ^ f.luma_depth)) rest0 rest1 luma (Ok tt)) where
  behind_luma : (rest2 : Option (List ℕ)) (others samples : List ℕ) (result : Result (Unit {0}) Halt) → ReadsSamples (is_wide f) (luma_count f) room others rest1 rest2 samples result
      → ReadsSamples (is_wide f) 0 room (replicate (luma_count f) (2 ^ f.luma_depth) ++ others) rest0 rest2 (luma ++ samples) result
  behind_luma rest2 others samples result r =
      let place : luma_count f ≡ 0 + length (replicate (luma_count f) (2 ^ f.luma_depth)) = omega (arith, length-replicate (luma_count f) (2 ^ f.luma_depth)) in
      reads_then (is_wide f) 0 room (replicate (luma_count f) (2 ^ f.luma_depth)) others rest0 rest1 rest2 luma samples result first
      (subst (λ (k : ℕ). ReadsSamples (is_wide f) k room others rest1 rest2 samples result) place r)

  pub c1_halted : (rest2 : Option (List ℕ)) (samples cells : List ℕ) (halt : Halt) → ReadsSamples (is_wide f) (luma_count f) room (replicate (colour_count f) (2 ^ f.colour_depth)) rest1 rest2 samples (Err halt)
      → ReadsSamples (is_wide f) 0 room (sample_bounds f) rest0 rest2 cells (Err halt)
  c1_halted rest2 samples cells halt r =
      let a = replicate (luma_count f) (2 ^ f.luma_depth) in
      let b = replicate (colour_count f) (2 ^ f.colour_depth) in
      subst (λ (l : List ℕ). ReadsSamples (is_wide f) 0 room l rest0 rest2 cells (Err halt)) (append_assoc a b b)
      (reads_first (is_wide f) 0 room (a ++ b) b rest0 rest2 (luma ++ samples) cells halt (behind_luma rest2 b samples (Err halt) r))

  -- and then C2, however it comes out
  pub c2_read : (rest2 rest3 : Option (List ℕ)) (c1 c2 : List ℕ) (result : Result (Unit {0}) Halt) → ReadsSamples (is_wide f) (luma_count f) room (replicate (colour_count f) (2 ^ f.colour_depth)) rest1 rest2 c1 (Ok tt)
      → ReadsSamples (is_wide f) (luma_count f + colour_count f) room (replicate (colour_count f) (2 ^ f.colour_depth)) rest2 rest3 c2 result → ReadsSamples (is_wide f) 0 room (sample_bounds f) rest0 rest3 (luma ++ (c1 ++ c2)) result
  c2_read rest2 rest3 c1 c2 result second r =
      let b = replicate (colour_count f) (2 ^ f.colour_depth) in
      let place : luma_count f + colour_count f ≡ luma_count f + length b = omega (arith, length-replicate (colour_count f) (2 ^ f.colour_depth)) in
      behind_luma rest3 (b ++ b) (c1 ++ c2) result
      (reads_then (is_wide f) (luma_count f) room b b rest1 rest2 rest3 c1 c2 result second (subst (λ (k : ℕ). ReadsSamples (is_wide f) k room b rest2 rest3 c2 result) place r))

-- the number of a sample that is too large
pub number_few : (shape : PictureShape) (room n : ℕ) (rest0 rest1 : Option (List ℕ)) (cells : List ℕ) → ReadsSamples (is_wide (frame_of shape)) 0 room (sample_bounds (frame_of shape)) rest0 rest1 cells (Err (Large n)) → n ≤ 2 ^ 26
number_few shape room n rest0 rest1 cells r =
    let f = frame_of shape in
    omega (arith, r.are.1, (large_inside (sample_bounds f) (samples_in (is_wide f) r.taken) r.are.0 r.are.2).1, length_bounds f, luma_few shape, colour_few shape)

pub size_few : (wide : Bool) (n : ℕ) → sample_size wide * n ≤ 2 * n
size_few false n = omega arith
size_few true n = omega arith

-- the picture of all samples that a picture shows
pub seen_is : (p : PictureSeen) → (component_shown p Luma).w ≡ width_of p Luma → (component_shown p Luma).h ≡ height_of p Luma → (component_shown p C1).w ≡ width_of p C1 → (component_shown p C1).h ≡ height_of p C1 → (component_shown p C2).w ≡ width_of p C2 → (component_shown p C2).h ≡ height_of p C2
    → length (component_shown p Luma).cells ≡ height_of p Luma * width_of p Luma → length (component_shown p C1).cells ≡ height_of p C1 * width_of p C1
    → picture_from (frame_of p.shape) (p.samples.luma.cells ++ (p.samples.c1.cells ++ p.samples.c2.cells)) ≡ p.samples
seen_is p lw lh aw ah bw bh many few = picture_is (frame_of p.shape) p.samples lw lh aw ah bw bh many few
