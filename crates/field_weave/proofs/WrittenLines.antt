-- Components that go out row by row.
use Rattle.std.proofs.Common.{◌≡◌, ℕ, zero, suc, ◌+◌, ◌*◌, ◌/◌, ◌%◌, ◌<◌, ◌≤◌, cond, eqb, Bool, true, false, List, [], ◌++◌, length, take, drop, get_or, Option, refl, sym, ap, subst, ◌∙◌, arith, eq-eqb}
use Rattle.std.proofs.Math.Seq.{take-add}
use Rattle.std.proofs.lemmas.Bool.{ne_eqb}
use Rattle.std.proofs.lemmas.List.{length-take, length-drop, get_or-take, get_or-drop, take_all}
use Rattle.std.proofs.lemmas.Grind.{same_number_lists}
use Rattle.vc2_io.specs.Outside.{GrewShort}
use Rattle.vc2_io.proofs.Short.{GrewShort-along}
use Rattle.slice_geometry.specs.declared.Size.{Size}
use Rattle.slice_geometry.specs.Frames.{Frame}
use Rattle.picture_codec.specs.Samples.{SamplesSeen, PictureSamples, sample_at, samples_by}
use Rattle.picture_codec.proofs.Tables.{tabulated_same}
use Rattle.raw_video.specs.RawText.{is_wide, text_of, raw_text}
use Rattle.raw_video.specs.Waiting.{PassesOn}
use Rattle.raw_video.proofs.Pieces.{text_joined, text_cut, raw_text_is}
use Rattle.raw_video.proofs.Waits.{passes_nothing, passes_along, passes_then, short_then, short_more}
use Rattle.field_weave.specs.declared.Order.TheVariants.{Top, Bottom}
use Rattle.field_weave.specs.Weaving.{twice_high, woven_lines, woven_frame}
use Rattle.field_weave.proofs.Tables.{row_inside, tabulated_long, tabulated_at}
use Rattle.field_weave.proofs.WeaveLaws.{same_picture}

next_row : (n w : ℕ) → (n + 1) * w ≡ n * w + w
next_row n w = grind arith

-- one row more of samples that a function gives
table_more : (size : Size) (g : ℕ → ℕ → ℕ) (n : ℕ) (row : List ℕ) → n < size.h → length row ≡ size.w → ((x : ℕ) → x < size.w → get_or row x 0 ≡ g n x)
    → take ((n + 1) * size.w) (samples_by size g).cells ≡ take (n * size.w) (samples_by size g).cells ++ row
table_more size g n row inside wide each =
    let cells = (samples_by size g).cells in
    let w = size.w in
    let rest = drop (n * w) cells in
    let long : length (take w rest) ≡ w = omega (arith, length-take w rest, length-drop (n * w) cells, tabulated_long size g, row_inside n w size.h inside) in
    ap (λ (k : ℕ). take k cells) (next_row n w) ∙ take-add (n * w) w cells
    ∙ ap (λ (l : List ℕ). take (n * w) cells ++ l) (same_number_lists (take w rest) row (long ∙ sym wide) (λ x lt.
    let across : x < w = omega (arith, lt, long) in
    get_or-take w rest x 0 across ∙ get_or-drop (n * w) cells x 0 ∙ tabulated_at size g n x inside across ∙ sym (each x across)))

module _ (bytes_two : Bool) (size : Size) (g : ℕ → ℕ → ℕ) (n : ℕ) (row : List ℕ) (inside : n < size.h) (wide : length row ≡ size.w) (each : (x : ℕ) → x < size.w → get_or row x 0 ≡ g n x) where
  text_more : text_of bytes_two (take (n * size.w) (samples_by size g).cells) ++ text_of bytes_two row ≡ text_of bytes_two (take ((n + 1) * size.w) (samples_by size g).cells)
  text_more = text_joined bytes_two (take (n * size.w) (samples_by size g).cells) row ∙ ap (text_of bytes_two) (sym (table_more size g n row inside wide each))

  module _ (out0 out1 : Option (List ℕ)) (p q : List ℕ) (so_far : PassesOn out0 out1 p q (text_of bytes_two (take (n * size.w) (samples_by size g).cells))) (out2 : Option (List ℕ)) where
    -- a row more went behind what waits
    pub row_passes : (r : List ℕ) → PassesOn out1 out2 q r (text_of bytes_two row) → PassesOn out0 out2 p r (text_of bytes_two (take ((n + 1) * size.w) (samples_by size g).cells))
    row_passes r more = passes_along out0 out2 p r _ _ text_more (passes_then out0 out1 p q (text_of bytes_two (take (n * size.w) (samples_by size g).cells)) so_far out2 r (text_of bytes_two row) more)

    -- a write failed there
    pub row_short : GrewShort out1 out2 (q ++ text_of bytes_two row) → GrewShort out0 out2 (p ++ text_of bytes_two (samples_by size g).cells)
    row_short short =
        let cells = (samples_by size g).cells in
        let k = (n + 1) * size.w in
        let here = short_then out0 out1 p q (text_of bytes_two (take (n * size.w) cells)) so_far out2 (text_of bytes_two row) short in
        let front : GrewShort out0 out2 (p ++ text_of bytes_two (take k cells)) = GrewShort-along out0 out2 _ _ (ap (λ (l : List ℕ). p ++ l) text_more) here in
        GrewShort-along out0 out2 _ _ (ap (λ (l : List ℕ). p ++ l) (text_cut bytes_two cells k)) (short_more out0 out2 p (text_of bytes_two (take k cells)) (text_of bytes_two (drop k cells)) front)

-- none yet
pub no_rows : (bytes_two : Bool) (w n : ℕ) (cells : List ℕ) (out : Option (List ℕ)) (p : List ℕ) → n ≡ 0 → PassesOn out out p p (text_of bytes_two (take (n * w) cells))
no_rows bytes_two w n cells out p none =
    let nothing : 0 ≡ n * w = omega (arith, zero_rows w) ∙ ap (λ (k : ℕ). k * w) (sym none) in
    passes_along out out p p [] _ (ap (λ (k : ℕ). text_of bytes_two (take k cells)) nothing) (passes_nothing out out p refl)
  where
    zero_rows : (w : ℕ) → 0 * w ≡ 0
    zero_rows w = omega arith

-- all rows did
pub rows_passed : (bytes_two : Bool) (size : Size) (g : ℕ → ℕ → ℕ) (n : ℕ) (out0 out1 : Option (List ℕ)) (p q : List ℕ) → size.h ≤ n → PassesOn out0 out1 p q (text_of bytes_two (take (n * size.w) (samples_by size g).cells))
    → PassesOn out0 out1 p q (text_of bytes_two (samples_by size g).cells)
rows_passed bytes_two size g n out0 out1 p q over a =
    passes_along out0 out1 p q _ _ (ap (text_of bytes_two) (take_all (n * size.w) (samples_by size g).cells (omega (arith, tabulated_long size g, all n size.h size.w over)))) a
  where
    all : (n h w : ℕ) → h ≤ n → h * w ≤ n * w
    all n h w le = grind arith

-- ---- the rows of two fields in turn

abbrev pub turn_of : SamplesSeen → SamplesSeen → ℕ → ℕ → ℕ
turn_of upper lower y x = cond (eqb (y % 2) 0) (sample_at upper (y / 2) x) (sample_at lower (y / 2) x)

pub upper_row : (upper lower : SamplesSeen) (n x : ℕ) → cond (eqb (2 * n % 2) 0) (sample_at upper (2 * n / 2) x) (sample_at lower (2 * n / 2) x) ≡ sample_at upper n x
upper_row upper lower n x =
    let even : eqb (2 * n % 2) 0 ≡ true = eq-eqb (2 * n % 2) 0 (omega arith) in
    rw even (ap (λ (k : ℕ). sample_at upper k x) (omega arith))

pub lower_row : (upper lower : SamplesSeen) (n x : ℕ) → cond (eqb ((2 * n + 1) % 2) 0) (sample_at upper ((2 * n + 1) / 2) x) (sample_at lower ((2 * n + 1) / 2) x) ≡ sample_at lower n x
lower_row upper lower n x =
    let odd : eqb ((2 * n + 1) % 2) 0 ≡ false = ne_eqb ((2 * n + 1) % 2) 0 (λ e. omega (arith, e)) in
    rw odd (ap (λ (k : ℕ). sample_at lower k x) (omega arith))

-- which field has the upper rows
top_lines : (size : Size) (first second : SamplesSeen) → woven_lines Bottom size second first ≡ woven_lines Top size first second
top_lines size first second =
    tabulated_same (twice_high size) (λ y x. cond (eqb (y % 2) 0) (sample_at first (y / 2) x) (sample_at second (y / 2) x)) (λ y x. cond (eqb (y % 2) 1) (sample_at second (y / 2) x) (sample_at first (y / 2) x))
    (λ y x down across. by (y % 2) (sample_at first (y / 2) x) (sample_at second (y / 2) x) (omega arith))
  where
    by : (k a b : ℕ) → k < 2 → cond (eqb k 0) a b ≡ cond (eqb k 1) b a
    by zero a b lt = refl
    by (suc zero) a b lt = refl
    by (suc (suc k)) a b lt = absurd (omega (arith, lt))

pub top_is : (f : Frame) (first second : PictureSamples) → woven_frame Bottom f second first ≡ woven_frame Top f first second
top_is f first second =
    same_picture _ _ _ (woven_lines Top f.luma first.luma second.luma) (woven_lines Top f.colour first.c1 second.c1) (woven_lines Top f.colour first.c2 second.c2)
    (top_lines f.luma first.luma second.luma) (top_lines f.colour first.c1 second.c1) (top_lines f.colour first.c2 second.c2)

-- ---- by the same width of samples

pub passes_by : (b b' : Bool) (cells : List ℕ) (out0 out1 : Option (List ℕ)) (p q : List ℕ) → b ≡ b' → PassesOn out0 out1 p q (text_of b cells) → PassesOn out0 out1 p q (text_of b' cells)
passes_by b b' cells out0 out1 p q is a = passes_along out0 out1 p q (text_of b cells) (text_of b' cells) (ap (λ (x : Bool). text_of x cells) is) a

pub short_by : (b b' : Bool) (cells : List ℕ) (out0 out1 : Option (List ℕ)) (q : List ℕ) → b ≡ b' → GrewShort out0 out1 (q ++ text_of b cells) → GrewShort out0 out1 (q ++ text_of b' cells)
short_by b b' cells out0 out1 q is short = GrewShort-along out0 out1 (q ++ text_of b cells) (q ++ text_of b' cells) (ap (λ (x : Bool). q ++ text_of x cells) is) short

-- behind nothing
pub passes_from : (out0 out1 : Option (List ℕ)) (p q t : List ℕ) → p ≡ [] → PassesOn out0 out1 p q t → PassesOn out0 out1 [] q t
passes_from out0 out1 p q t none a = subst (λ (l : List ℕ). PassesOn out0 out1 l q t) none a

pub short_from : (out0 out1 : Option (List ℕ)) (p t : List ℕ) → p ≡ [] → GrewShort out0 out1 (p ++ t) → GrewShort out0 out1 t
short_from out0 out1 p t none short = GrewShort-along out0 out1 (p ++ t) t (ap (λ (l : List ℕ). l ++ t) none) short

-- ---- the components of a picture

module _ (bytes_two : Bool) (f : Frame) (s : PictureSamples) (is : bytes_two ≡ is_wide f) where
  text_is : (text_of bytes_two s.luma.cells ++ text_of bytes_two s.c1.cells) ++ text_of bytes_two s.c2.cells ≡ raw_text f s
  text_is = ap (λ (b : Bool). (text_of b s.luma.cells ++ text_of b s.c1.cells) ++ text_of b s.c2.cells) is ∙ raw_text_is f s

  module _ (out0 : Option (List ℕ)) (p : List ℕ) (out1 : Option (List ℕ)) where
    pub luma_short : GrewShort out0 out1 (p ++ text_of bytes_two s.luma.cells) → GrewShort out0 out1 (p ++ raw_text f s)
    luma_short short =
        let a = text_of bytes_two s.luma.cells in
        let b = text_of bytes_two s.c1.cells in
        GrewShort-along out0 out1 _ _ (ap (λ (l : List ℕ). p ++ l) text_is)
        (short_more out0 out1 p (a ++ b) (text_of bytes_two s.c2.cells) (short_more out0 out1 p a b short))

    module _ (q1 : List ℕ) (luma : PassesOn out0 out1 p q1 (text_of bytes_two s.luma.cells)) (out2 : Option (List ℕ)) where
      pub c1_short : GrewShort out1 out2 (q1 ++ text_of bytes_two s.c1.cells) → GrewShort out0 out2 (p ++ raw_text f s)
      c1_short short =
          let a = text_of bytes_two s.luma.cells in
          let b = text_of bytes_two s.c1.cells in
          GrewShort-along out0 out2 _ _ (ap (λ (l : List ℕ). p ++ l) text_is)
          (short_more out0 out2 p (a ++ b) (text_of bytes_two s.c2.cells) (short_then out0 out1 p q1 a luma out2 b short))

      module _ (q2 : List ℕ) (c1 : PassesOn out1 out2 q1 q2 (text_of bytes_two s.c1.cells)) (out3 : Option (List ℕ)) where
        both : PassesOn out0 out2 p q2 (text_of bytes_two s.luma.cells ++ text_of bytes_two s.c1.cells)
        both = passes_then out0 out1 p q1 (text_of bytes_two s.luma.cells) luma out2 q2 (text_of bytes_two s.c1.cells) c1

        pub c2_short : GrewShort out2 out3 (q2 ++ text_of bytes_two s.c2.cells) → GrewShort out0 out3 (p ++ raw_text f s)
        c2_short short =
            GrewShort-along out0 out3 _ _ (ap (λ (l : List ℕ). p ++ l) text_is)
            (short_then out0 out2 p q2 (text_of bytes_two s.luma.cells ++ text_of bytes_two s.c1.cells) both out3 (text_of bytes_two s.c2.cells) short)

        pub c2_passes : (q3 : List ℕ) → PassesOn out2 out3 q2 q3 (text_of bytes_two s.c2.cells) → PassesOn out0 out3 p q3 (raw_text f s)
        c2_passes q3 c2 =
            passes_along out0 out3 p q3 _ _ text_is
            (passes_then out0 out2 p q2 (text_of bytes_two s.luma.cells ++ text_of bytes_two s.c1.cells) both out3 q3 (text_of bytes_two s.c2.cells) c2)
