-- What stands in front, by what was read of a picture.
use Rattle.std.proofs.Common.{◌≡◌, ℕ, zero, suc, ◌+◌, ◌-◌, ◌*◌, ◌^◌, ◌<◌, ◌≤◌, ltb, eqb, Bool, true, false, List, [], ◌∷◌, ◌++◌, length, take, drop, replicate, Option, Some, None, Ok, Err, refl, sym, ap, ◌∙◌, arith, append-nil, append_assoc, eq-eqb}
use Rattle.std.specs.Io.KnownBytes.{Consumes}
use Rattle.std.proofs.Math.Seq.{take-append-add, take-append_seam, drop-append_seam}
use Rattle.std.proofs.lemmas.Bool.{lt-ltb, le-ltb, ne_eqb}
use Rattle.std.proofs.lemmas.List.{length-append, length-replicate, take_all}
use Rattle.vc2_io.proofs.Known.{Consumes-then}
use Rattle.slice_geometry.specs.Frames.{Frame}
use Rattle.picture_codec.specs.Samples.{SamplesSeen, PictureSamples}
use Rattle.raw_video.specs.RawText.{is_wide}
use Rattle.raw_video.specs.RawParse.{sample_size, luma_count, colour_count, raw_length, samples_in, sample_bounds, first_large, picture_from, Shown, Over, LargeAt, CutAt, TooLong, front_of, raw_front}
use Rattle.raw_video.specs.Reading.{ReadsSamples, ReadsFront}
use Rattle.raw_video.specs.declared.reading.Halt.TheVariants as halts
use Rattle.raw_video.specs.declared.reader.RawStep.TheVariants as steps
use Rattle.raw_video.specs.declared.reader.RawFault.TheVariants as faults
use Rattle.raw_video.proofs.SampleLaws.{large-stays}

-- ---- sizes

pub length_bounds : (f : Frame) → length (sample_bounds f) ≡ luma_count f + (colour_count f + colour_count f)
length_bounds f =
    let a = replicate (luma_count f) (2 ^ f.luma_depth) in
    let b = replicate (colour_count f) (2 ^ f.colour_depth) in
    length-append a (b ++ b)
    ∙ ap (λ (n : ℕ). n + length (b ++ b)) (length-replicate (luma_count f) (2 ^ f.luma_depth))
    ∙ ap (λ (n : ℕ). luma_count f + n) (length-append b b ∙ ap (λ (n : ℕ). n + length b) (length-replicate (colour_count f) (2 ^ f.colour_depth)) ∙ ap (λ (n : ℕ). colour_count f + n) (length-replicate (colour_count f) (2 ^ f.colour_depth)))

pub length_of_all : (f : Frame) → sample_size (is_wide f) * length (sample_bounds f) ≡ raw_length f
length_of_all f =
    let twice : luma_count f + (colour_count f + colour_count f) ≡ luma_count f + 2 * colour_count f = omega arith in
    ap (λ (n : ℕ). sample_size (is_wide f) * n) (length_bounds f ∙ twice)

-- ---- the bytes of the picture that are there

take_behind : (n : ℕ) (first then : List ℕ) → length first ≤ n → take n (first ++ then) ≡ first ++ take (n - length first) then
take_behind n first then le =
    let is : n ≡ length first + (n - length first) = omega (arith, le) in
    ap (λ (m : ℕ). take m (first ++ then)) is ∙ take-append-add first then (n - length first)

abbrev pub behind_there : ℕ → ℕ → List ℕ → List ℕ → List ℕ
behind_there long room taken more = take (long - length taken) (take (room - length taken) more)

pub there_is : (long room : ℕ) (taken more : List ℕ) → length taken ≤ long → length taken ≤ room → take long (take room (taken ++ more)) ≡ taken ++ behind_there long room taken more
there_is long room taken more few inside = ap (take long) (take_behind room taken more inside) ∙ take_behind long taken (take (room - length taken) more) few

take_none : (n : ℕ) → take {A = ℕ} n [] ≡ []
take_none zero = refl
take_none (suc n) = refl

pub there_whole : (long room : ℕ) (taken more : List ℕ) → length taken ≡ long → length taken ≤ room → take long (take room (taken ++ more)) ≡ taken
there_whole long room taken more is inside =
    let none : long - length taken ≡ 0 = omega (arith, is) in
    there_is long room taken more (omega (arith, is)) inside ∙ ap (λ (n : ℕ). taken ++ take n (take (room - length taken) more)) none ∙ append-nil taken

pub there_limited : (long room : ℕ) (taken more : List ℕ) → length taken ≤ long → length taken ≡ room → take long (take room (taken ++ more)) ≡ taken
there_limited long room taken more few is =
    let none : room - length taken ≡ 0 = omega (arith, is) in
    there_is long room taken more few (omega (arith, is)) ∙ ap (λ (n : ℕ). taken ++ take (long - length taken) (take n more)) none ∙ ap (λ (l : List ℕ). taken ++ l) (take_none (long - length taken)) ∙ append-nil taken

pub there_ended : (long room : ℕ) (taken : List ℕ) → length taken ≤ long → length taken ≤ room → take long (take room taken) ≡ taken
there_ended long room taken few inside = ap (take long) (take_all room taken inside) ∙ take_all long taken few

-- samples that are whole stay, whatever follows
pub samples_front : (wide : Bool) (first then : List ℕ) → (behind : List ℕ) × (samples_in wide (first ++ then) ≡ samples_in wide first ++ behind)
samples_front false first then = (then, refl)
samples_front true [] then = (samples_in true then, refl)
samples_front true (x ∷ []) then = (samples_in true (x ∷ then), refl)
samples_front true (x ∷ y ∷ first) then = let r = samples_front true first then in (r.0, ap (λ (l : List ℕ). (x + 256 * y) ∷ l) r.1)

large_in_front : (wide : Bool) (bounds first then : List ℕ) (k : ℕ) → first_large bounds (samples_in wide first) ≡ Some k → first_large bounds (samples_in wide (first ++ then)) ≡ Some k
large_in_front wide bounds first then k found =
    let r = samples_front wide first then in
    ap (first_large bounds) r.1 ∙ ap (λ (b : List ℕ). first_large b (samples_in wide first ++ r.0)) (sym (append-nil bounds)) ∙ large-stays bounds (samples_in wide first) [] r.0 k found

-- ---- what stands in front

module _ (f : Frame) (place : ℕ) where
  front_at : (bytes there : List ℕ) (large : Option ℕ) → take (raw_length f) (take (2 ^ 40 - place) bytes) ≡ there → first_large (sample_bounds f) (samples_in (is_wide f) there) ≡ large → raw_front f place bytes ≡ front_of f place bytes there large
  front_at bytes there large is found =
      ap (λ (t : List ℕ). front_of f place bytes t (first_large (sample_bounds f) (samples_in (is_wide f) t))) is ∙ ap (front_of f place bytes there) found

  -- a whole picture
  pub front_shown : (taken more : List ℕ) → length taken ≡ raw_length f → length taken ≤ 2 ^ 40 - place → first_large (sample_bounds f) (samples_in (is_wide f) taken) ≡ None
      → raw_front f place (taken ++ more) ≡ Shown (picture_from f (samples_in (is_wide f) taken))
  front_shown taken more is inside none =
      let test : eqb (length taken) (raw_length f) ≡ true = eq-eqb (length taken) (raw_length f) is in
      front_at (taken ++ more) taken None (there_whole (raw_length f) (2 ^ 40 - place) taken more is inside) none ∙ rw test refl

  -- a sample that is too large
  pub front_large : (taken more : List ℕ) (k : ℕ) → length taken ≤ raw_length f → length taken ≤ 2 ^ 40 - place → first_large (sample_bounds f) (samples_in (is_wide f) taken) ≡ Some k
      → raw_front f place (taken ++ more) ≡ LargeAt (place + sample_size (is_wide f) * k)
  front_large taken more k few inside found =
      let behind = behind_there (raw_length f) (2 ^ 40 - place) taken more in
      front_at (taken ++ more) (taken ++ behind) (Some k) (there_is (raw_length f) (2 ^ 40 - place) taken more few inside) (large_in_front (is_wide f) (sample_bounds f) taken behind k found)

  -- the limit, and more behind it
  pub front_too_long : (taken more : List ℕ) → length taken < raw_length f → length taken ≡ 2 ^ 40 - place → 1 ≤ length more → first_large (sample_bounds f) (samples_in (is_wide f) taken) ≡ None → raw_front f place (taken ++ more) ≡ TooLong
  front_too_long taken more few is some none =
      let part : eqb (length taken) (raw_length f) ≡ false = ne_eqb (length taken) (raw_length f) (λ e. omega (arith, e, few)) in
      let past : ltb (2 ^ 40 - place) (length (taken ++ more)) ≡ true = lt-ltb (2 ^ 40 - place) (length (taken ++ more)) (omega (arith, is, some, length-append taken more)) in
      front_at (taken ++ more) taken None (there_limited (raw_length f) (2 ^ 40 - place) taken more (omega (arith, few)) is) none ∙ rw (part, past) refl

  -- the input's end
  pub front_over : 0 < raw_length f → raw_front f place [] ≡ Over
  front_over some =
      let part : eqb 0 (raw_length f) ≡ false = ne_eqb 0 (raw_length f) (λ e. omega (arith, e, some)) in
      let past : ltb (2 ^ 40 - place) 0 ≡ false = le-ltb (2 ^ 40 - place) 0 (omega arith) in
      front_at [] [] None (there_ended (raw_length f) (2 ^ 40 - place) [] (omega arith) (omega arith)) (none_in (is_wide f)) ∙ rw (part, past) refl
    where
      none_of : (bounds : List ℕ) → first_large bounds [] ≡ None
      none_of [] = refl
      none_of (b ∷ bounds) = refl

      none_in : (wide : Bool) → first_large (sample_bounds f) (samples_in wide []) ≡ None
      none_in false = none_of (sample_bounds f)
      none_in true = none_of (sample_bounds f)

  pub front_cut : (taken : List ℕ) → length taken < raw_length f → length taken ≤ 2 ^ 40 - place → 1 ≤ length taken → first_large (sample_bounds f) (samples_in (is_wide f) taken) ≡ None → raw_front f place taken ≡ CutAt (place + length taken)
  front_cut taken few inside some none =
      let part : eqb (length taken) (raw_length f) ≡ false = ne_eqb (length taken) (raw_length f) (λ e. omega (arith, e, few)) in
      let past : ltb (2 ^ 40 - place) (length taken) ≡ false = le-ltb (2 ^ 40 - place) (length taken) inside in
      let there : eqb (length taken) 0 ≡ false = ne_eqb (length taken) 0 (λ e. omega (arith, e, some)) in
      front_at taken taken None (there_ended (raw_length f) (2 ^ 40 - place) taken (omega (arith, few)) inside) none ∙ rw (part, past, there) refl

-- ---- what was read

-- three components, one after another
pub picture_is : (f : Frame) (p : PictureSamples) → p.luma.w ≡ f.luma.w → p.luma.h ≡ f.luma.h → p.c1.w ≡ f.colour.w → p.c1.h ≡ f.colour.h → p.c2.w ≡ f.colour.w → p.c2.h ≡ f.colour.h
    → length p.luma.cells ≡ luma_count f → length p.c1.cells ≡ colour_count f → picture_from f (p.luma.cells ++ (p.c1.cells ++ p.c2.cells)) ≡ p
picture_is f p lw lh aw ah bw bh many few =
    let a = p.luma.cells in
    let b = p.c1.cells in
    let c = p.c2.cells in
    let rows = λ (w h w' h' : ℕ) (cells cells' : List ℕ) (ew : w' ≡ w) (eh : h' ≡ h) (e : cells ≡ cells').
    (let from : SamplesSeen = record { w = w; h = h; cells = cells } in
    let to : SamplesSeen = record { w = w'; h = h'; cells = cells' } in
    let is : from ≡ to = ap (λ (n : ℕ). record from { w = n }) (sym ew) ∙ ap (λ (n : ℕ). record from { w = w'; h = n }) (sym eh) ∙ ap (λ (l : List ℕ). record to { cells = l }) e in
    is) in
    let first : take (luma_count f) (a ++ (b ++ c)) ≡ a = ap (λ (n : ℕ). take n (a ++ (b ++ c))) (sym many) ∙ take-append_seam a (b ++ c) in
    let behind : drop (luma_count f) (a ++ (b ++ c)) ≡ b ++ c = ap (λ (n : ℕ). drop n (a ++ (b ++ c))) (sym many) ∙ drop-append_seam a (b ++ c) in
    let second : take (colour_count f) (drop (luma_count f) (a ++ (b ++ c))) ≡ b = ap (take (colour_count f)) behind ∙ ap (λ (n : ℕ). take n (b ++ c)) (sym few) ∙ take-append_seam b c in
    let third : drop (colour_count f) (drop (luma_count f) (a ++ (b ++ c))) ≡ c = ap (drop (colour_count f)) behind ∙ ap (λ (n : ℕ). drop n (b ++ c)) (sym few) ∙ drop-append_seam b c in
    let from = picture_from f (a ++ (b ++ c)) in
    ap (λ (r : SamplesSeen). record from { luma = r }) (rows f.luma.w f.luma.h p.luma.w p.luma.h from.luma.cells a lw lh first)
    ∙ ap (λ (r : SamplesSeen). record from { luma = p.luma; c1 = r }) (rows f.colour.w f.colour.h p.c1.w p.c1.h from.c1.cells b aw ah second)
    ∙ ap (λ (r : SamplesSeen). record p { c2 = r }) (rows f.colour.w f.colour.h p.c2.w p.c2.h from.c2.cells c bw bh third)

module _ (f : Frame) (place : ℕ) (inside : place ≤ 2 ^ 40) (rest0 rest1 : Option (List ℕ)) (cells : List ℕ) where
  pub read_picture : (p : PictureSamples) → cells ≡ p.luma.cells ++ (p.c1.cells ++ p.c2.cells) → picture_from f cells ≡ p
      → ReadsSamples (is_wide f) 0 (2 ^ 40 - place) (sample_bounds f) rest0 rest1 cells (Ok tt) → ReadsFront f place rest0 rest1 p (Ok steps.Picture)
  read_picture p e is r =
      let long : length r.taken ≡ raw_length f = r.are.0 ∙ length_of_all f in
      record {
        taken = r.taken;
        took = r.took;
        most = omega (arith, long);
        limit = omega (arith, r.most);
        front = (long, omega (arith, inside, r.most, long), λ more. front_shown f place r.taken more long (omega (arith, r.most)) r.are.2 ∙ ap (λ (l : List ℕ). Shown (picture_from f l)) r.are.1 ∙ ap Shown is);
        soon = r.soon;
      }

  pub read_large : (p : PictureSamples) (n at : ℕ) → at ≡ place + sample_size (is_wide f) * n → ReadsSamples (is_wide f) 0 (2 ^ 40 - place) (sample_bounds f) rest0 rest1 cells (Err (halts.Large n))
      → ReadsFront f place rest0 rest1 p (Err (faults.SampleTooLarge at))
  read_large p n at is r =
      let few : length r.taken ≤ raw_length f = omega (arith, r.few, length_of_all f) in
      let number : n ≡ r.are.0 = r.are.1 ∙ (let e : 0 + r.are.0 ≡ r.are.0 = omega arith in e) in
      record {
        taken = r.taken;
        took = r.took;
        most = few;
        limit = omega (arith, r.most);
        front = λ more. front_large f place r.taken more n few (omega (arith, r.most)) (r.are.2 ∙ ap (λ (k : ℕ). Some k) (sym number)) ∙ ap (λ (k : ℕ). LargeAt k) (sym is);
        soon = r.soon;
      }

  pub read_fault : (p : PictureSamples) → ReadsSamples (is_wide f) 0 (2 ^ 40 - place) (sample_bounds f) rest0 rest1 cells (Err halts.ReadFault) → ReadsFront f place rest0 rest1 p (Err faults.ReadFault)
  read_fault p r = record {
    taken = r.taken;
    took = r.took;
    most = omega (arith, r.few, length_of_all f);
    limit = omega (arith, r.most);
    front = omega (arith, r.are, length_of_all f);
    soon = r.soon;
  }

  -- the source gave no more of the picture
  module _ (p : PictureSamples) (came : ℕ) (r : ReadsSamples (is_wide f) 0 (2 ^ 40 - place) (sample_bounds f) rest0 rest1 cells (Err (halts.Ended came))) where
    pub came_is : came ≡ length r.taken
    came_is = by (is_wide f) r.are.0
      where
        by : (wide : Bool) → came ≡ sample_size wide * 0 + length r.taken → came ≡ length r.taken
        by false e = omega (arith, e)
        by true e = omega (arith, e)

    short : length r.taken < raw_length f
    short = omega (arith, r.are.1, length_of_all f)

    within : length r.taken ≤ 2 ^ 40 - place
    within = omega (arith, r.most)

    pub read_past : (rest2 : Option (List ℕ)) (byte : ℕ) → place + came ≡ 2 ^ 40 → Consumes rest1 rest2 (byte ∷ []) → ReadsFront f place rest0 rest2 p (Err faults.TooLong)
    read_past rest2 byte limit one = record {
      taken = r.taken ++ byte ∷ [];
      took = Consumes-then rest0 rest1 rest2 r.taken (byte ∷ []) r.took one;
      most = omega (arith, short, length-append r.taken (byte ∷ []));
      limit = omega (arith, limit, came_is, length-append r.taken (byte ∷ []));
      front = λ more.
          ap (raw_front f place) (append_assoc r.taken (byte ∷ []) more)
          ∙ front_too_long f place r.taken (byte ∷ more) short (omega (arith, limit, came_is)) (omega arith) r.are.3;
      soon = record { sure = r.taken; last = byte ∷ []; parts = refl; few = omega arith; none = r.are.3 };
    }
