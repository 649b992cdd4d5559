-- What is written is read back, and what is read has its shape.
use Rattle.std.proofs.Common.{◌≡◌, ℕ, zero, suc, ◌+◌, ◌-◌, ◌*◌, ◌^◌, ◌<◌, ◌≤◌, cond, ltb, eqb, Bool, true, false, ◌||◌, All, List, [], ◌∷◌, ◌++◌, length, take, drop, replicate, Option, Some, None, refl, sym, ap, subst, ◌∙◌, arith, append_assoc}
use Rattle.std.specs.List.{AllByRecursion}
use Rattle.std.proofs.Math.Nat.{pow-le-pow_right}
use Rattle.std.proofs.Math.Seq.{drop-append_seam}
use Rattle.std.proofs.lemmas.Bool.{ltb-true, ltb-false, eqb-true}
use Rattle.std.proofs.lemmas.List.{length-append, length-replicate, length-take, length-drop}
use Rattle.std.proofs.lemmas.List.Concat.{flat_map-cons}
use Rattle.slice_geometry.specs.Frames.{Frame}
use Rattle.picture_codec.specs.Samples.{PictureSamples}
use Rattle.raw_video.specs.RawText.{is_wide, sample_bytes, text_of, raw_text}
use Rattle.raw_video.specs.RawParse.{sample_size, luma_count, colour_count, raw_length, samples_in, sample_bounds, later, first_large, picture_from, IsOfFrame, RawFront, Shown, Over, CutAt, TooLong, front_of, raw_front, raw_texts, ahead, parse_from, raw_parse}
use Rattle.raw_video.proofs.SampleLaws.{greatest_of, later_by, samples-text, none-large-at, large-behind}
use Rattle.raw_video.proofs.ReadTurns.{whole_count, none_later, none_of_nothing, all_cons, all_below_one}
use Rattle.raw_video.proofs.Fronts.{picture_is, front_shown, front_over}

-- ---- written and read

length_text : (wide : Bool) (samples : List ℕ) → length (text_of wide samples) ≡ sample_size wide * length samples
length_text false [] = refl
length_text true [] = refl
length_text false (v ∷ samples) = ap (λ (l : List ℕ). length l) (flat_map-cons (sample_bytes false) v samples) ∙ omega (arith, length_text false samples)
length_text true (v ∷ samples) = ap (λ (l : List ℕ). length l) (flat_map-cons (sample_bytes true) v samples) ∙ omega (arith, length_text true samples)

-- samples of so many bits fit into their bytes
fits_bytes : (f : Frame) → f.luma_depth ≤ 16 → f.colour_depth ≤ 16 → (2 ^ f.luma_depth ≤ greatest_of (is_wide f)) × (2 ^ f.colour_depth ≤ greatest_of (is_wide f))
fits_bytes f few fewer = by (ltb 8 f.luma_depth) (ltb 8 f.colour_depth) refl refl
  where
    power : (d n : ℕ) → d ≤ n → 2 ^ d ≤ 2 ^ n
    power d n le = let two : 1 ≤ 2 = omega arith in pow-le-pow_right two le

    by : (a b : Bool) → ltb 8 f.luma_depth ≡ a → ltb 8 f.colour_depth ≡ b → (2 ^ f.luma_depth ≤ greatest_of (a || b)) × (2 ^ f.colour_depth ≤ greatest_of (a || b))
    by true b ea eb = (power f.luma_depth 16 few, power f.colour_depth 16 fewer)
    by false true ea eb = (power f.luma_depth 16 few, power f.colour_depth 16 fewer)
    by false false ea eb = (power f.luma_depth 8 (ltb-false 8 f.luma_depth ea), power f.colour_depth 8 (ltb-false 8 f.colour_depth eb))

all_fit : (m n : ℕ) (samples : List ℕ) → m ≤ n → All (λ v. v < m) samples → AllByRecursion (λ v. v < n) samples
all_fit m n [] le f = tt
all_fit m n (v ∷ samples) le f = (omega (arith, le, f 0 0 (omega arith)), all_fit m n samples le (λ k d lt. f (suc k) d (omega arith)))

both_fit : (n : ℕ) (a b : List ℕ) → AllByRecursion (λ v. v < n) a → AllByRecursion (λ v. v < n) b → AllByRecursion (λ v. v < n) (a ++ b)
both_fit n [] b pa pb = pb
both_fit n (v ∷ a) b pa pb = (pa.0, both_fit n a b pa.1 pb)

none_then : (bound count : ℕ) (others samples behind : List ℕ) → length samples ≡ count → All (λ v. v < bound) samples → first_large others behind ≡ None → first_large (replicate count bound ++ others) (samples ++ behind) ≡ None
none_then bound count others samples behind long below none =
    large-behind (replicate count bound) samples others behind (length-replicate count bound ∙ sym long) (none-large-at count bound samples below) ∙ ap (later_by (length samples)) none

abbrev joined : PictureSamples → List ℕ
joined s = s.luma.cells ++ (s.c1.cells ++ s.c2.cells)

module _ (f : Frame) (s : PictureSamples) (of : IsOfFrame f s) where
  text_is : raw_text f s ≡ text_of (is_wide f) (joined s)
  unfolding raw_text
  text_is = ap (text_of (is_wide f)) (append_assoc s.luma.cells s.c1.cells s.c2.cells)

  count : length (joined s) ≡ luma_count f + 2 * colour_count f
  count = omega (arith, length-append s.luma.cells (s.c1.cells ++ s.c2.cells), length-append s.c1.cells s.c2.cells, of.luma.count, of.c1.count, of.c2.count)

  pub length_raw : length (raw_text f s) ≡ raw_length f
  length_raw = ap (λ (l : List ℕ). length l) text_is ∙ length_text (is_wide f) (joined s) ∙ ap (λ (n : ℕ). sample_size (is_wide f) * n) count

  none : first_large (sample_bounds f) (joined s) ≡ None
  none =
      none_then (2 ^ f.luma_depth) (luma_count f) (replicate (colour_count f) (2 ^ f.colour_depth) ++ replicate (colour_count f) (2 ^ f.colour_depth)) s.luma.cells (s.c1.cells ++ s.c2.cells) of.luma.count of.luma.below
      (none_then (2 ^ f.colour_depth) (colour_count f) (replicate (colour_count f) (2 ^ f.colour_depth)) s.c1.cells s.c2.cells of.c1.count of.c1.below
      (none-large-at (colour_count f) (2 ^ f.colour_depth) s.c2.cells of.c2.below))

  module _ (few : f.luma_depth ≤ 16) (fewer : f.colour_depth ≤ 16) where
    whole : samples_in (is_wide f) (raw_text f s) ≡ joined s
    whole =
        let n = greatest_of (is_wide f) in
        let fits = fits_bytes f few fewer in
        ap (samples_in (is_wide f)) text_is
        ∙ samples-text (is_wide f) (joined s)
        (both_fit n s.luma.cells (s.c1.cells ++ s.c2.cells) (all_fit (2 ^ f.luma_depth) n s.luma.cells fits.0 of.luma.below)
        (both_fit n s.c1.cells s.c2.cells (all_fit (2 ^ f.colour_depth) n s.c1.cells fits.1 of.c1.below) (all_fit (2 ^ f.colour_depth) n s.c2.cells fits.1 of.c2.below)))

    pub picture_back : (place : ℕ) (more : List ℕ) → place + raw_length f ≤ 2 ^ 40 → raw_front f place (raw_text f s ++ more) ≡ Shown s
    picture_back place more inside =
        front_shown f place (raw_text f s) more length_raw (omega (arith, inside, length_raw)) (ap (first_large (sample_bounds f)) whole ∙ none)
        ∙ ap (λ (l : List ℕ). Shown (picture_from f l)) whole
        ∙ ap (λ (p : PictureSamples). Shown p) (picture_is f s of.luma.width of.luma.height of.c1.width of.c1.height of.c2.width of.c2.height of.luma.count of.c1.count)

module _ (f : Frame) (few : f.luma_depth ≤ 16) (fewer : f.colour_depth ≤ 16) (some : 0 < raw_length f) where
  many : (pictures : List PictureSamples) → AllByRecursion (IsOfFrame f) pictures → length pictures ≤ length (raw_texts f pictures)
  many [] of = omega arith
  many (s ∷ pictures) of = omega (arith, many pictures of.1, length-append (raw_text f s) (raw_texts f pictures), length_raw f s of.0, some)

  parse_back : (pictures : List PictureSamples) (turns place : ℕ) → AllByRecursion (IsOfFrame f) pictures → length pictures < turns → place + length (raw_texts f pictures) ≤ 2 ^ 40
      → parse_from f turns place (raw_texts f pictures) ≡ record { pictures = pictures; ending = Over }
  parse_back pictures zero place of lt inside = absurd (omega (arith, lt))
  parse_back [] (suc turns) place of lt inside = ap (λ (front : RawFront). ahead front (parse_from f turns (place + raw_length f) (drop (raw_length f) []))) (front_over f place some)
  parse_back (s ∷ pictures) (suc turns) place of lt inside =
      let text = raw_text f s in
      let rest = raw_texts f pictures in
      let long : length text ≡ raw_length f = length_raw f s of.0 in
      let both : length (text ++ rest) ≡ length text + length rest = length-append text rest in
      let dropped : drop (raw_length f) (text ++ rest) ≡ rest = ap (λ (n : ℕ). drop n (text ++ rest)) (sym long) ∙ drop-append_seam text rest in
      ap (λ (front : RawFront). ahead front (parse_from f turns (place + raw_length f) (drop (raw_length f) (text ++ rest)))) (picture_back f s of.0 few fewer place rest (omega (arith, inside, both, long)))
      ∙ ap (ahead (Shown s))
      (ap (parse_from f turns (place + raw_length f)) dropped ∙ parse_back pictures turns (place + raw_length f) of.1 (omega (arith, lt)) (omega (arith, inside, both, long)))

  pub pictures_back : (pictures : List PictureSamples) → AllByRecursion (IsOfFrame f) pictures → length (raw_texts f pictures) ≤ 2 ^ 40 → raw_parse f (raw_texts f pictures) ≡ record { pictures = pictures; ending = Over }
  pictures_back pictures of inside = parse_back pictures (length (raw_texts f pictures) + 1) 0 of (omega (arith, many pictures of)) (omega (arith, inside))

-- ---- what is read

none_split : (count bound : ℕ) (others samples : List ℕ) → first_large (replicate count bound ++ others) samples ≡ None → (All (λ v. v < bound) (take count samples)) × (first_large others (drop count samples) ≡ None)
none_split zero bound others samples e = (λ k d lt. absurd (omega arith), e)
none_split (suc count) bound others [] e = (λ k d lt. absurd (omega arith), none_of_nothing others)
none_split (suc count) bound others (v ∷ samples) e = by (ltb v bound) refl (none_split count bound others samples) e
  where
    by : (below : Bool) → ltb v bound ≡ below → (first_large (replicate count bound ++ others) samples ≡ None → (All (λ v. v < bound) (take count samples)) × (first_large others (drop count samples) ≡ None))
        → cond below (later (first_large (replicate count bound ++ others) samples)) (Some 0) ≡ None → (All (λ v. v < bound) (v ∷ take count samples)) × (first_large others (drop count samples) ≡ None)
    by true t more h =
        let rest = more (none_later (first_large (replicate count bound ++ others) samples) h) in
        (all_cons bound v (take count samples) (ltb-true v bound t) rest.0, rest.1)
    by false t more h = absurd cc

module _ (f : Frame) (place : ℕ) (bytes there : List ℕ) (s : PictureSamples) where
  shown_parts : (large : Option ℕ) → front_of f place bytes there large ≡ Shown s → (large ≡ None) × (length there ≡ raw_length f) × (picture_from f (samples_in (is_wide f) there) ≡ s)
  shown_parts (Some k) h = absurd cc
  shown_parts None h = let r = by (eqb (length there) (raw_length f)) (ltb (2 ^ 40 - place) (length bytes)) (eqb (length bytes) 0) (picture_from f (samples_in (is_wide f) there)) refl h in (refl, r.0, r.1)
    where
      by : (whole past empty : Bool) (p : PictureSamples) → eqb (length there) (raw_length f) ≡ whole
          → cond whole (Shown p) (cond past TooLong (cond empty Over (CutAt (place + length bytes)))) ≡ Shown s → (length there ≡ raw_length f) × (p ≡ s)
      by true past empty p t h = (eqb-true (length there) (raw_length f) t, let same : Shown p ≡ Shown s = h in let e : p ≡ s = cc in e)
      by false true empty p t h = absurd cc
      by false false true p t h = absurd cc
      by false false false p t h = absurd cc

of_picture : (f : Frame) (samples : List ℕ) → length samples ≡ luma_count f + 2 * colour_count f → first_large (sample_bounds f) samples ≡ None → IsOfFrame f (picture_from f samples)
of_picture f samples long none =
    let b = replicate (colour_count f) (2 ^ f.colour_depth) in
    let luma = none_split (luma_count f) (2 ^ f.luma_depth) (b ++ b) samples none in
    let behind = drop (luma_count f) samples in
    let c1 = none_split (colour_count f) (2 ^ f.colour_depth) b behind luma.1 in
    let last = drop (colour_count f) behind in
    let behind_long : length behind ≡ 2 * colour_count f = omega (arith, length-drop (luma_count f) samples, long) in
    let last_long : length last ≡ colour_count f = omega (arith, length-drop (colour_count f) behind, behind_long) in
    record {
      luma = record { width = refl; height = refl; count = omega (arith, length-take (luma_count f) samples, long); below = luma.0 };
      c1 = record { width = refl; height = refl; count = omega (arith, length-take (colour_count f) behind, behind_long); below = c1.0 };
      c2 = record { width = refl; height = refl; count = last_long; below = all_below_one (2 ^ f.colour_depth) last (ap (λ (n : ℕ). first_large (replicate n (2 ^ f.colour_depth)) last) last_long ∙ c1.1) };
    }

pub of_its_shape : (f : Frame) (place : ℕ) (bytes : List ℕ) (s : PictureSamples) → raw_front f place bytes ≡ Shown s → IsOfFrame f s
of_its_shape f place bytes s h =
    let there = take (raw_length f) (take (2 ^ 40 - place) bytes) in
    let parts = shown_parts f place bytes there s (first_large (sample_bounds f) (samples_in (is_wide f) there)) h in
    subst (IsOfFrame f) parts.2 (of_picture f (samples_in (is_wide f) there) (whole_count (is_wide f) there (luma_count f + 2 * colour_count f) parts.1) parts.0)
