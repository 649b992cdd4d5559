-- The slices of a picture, each at its least index after those before it.
use Rattle.std.proofs.Common.{◌≡◌, ℕ, zero, suc, ◌+◌, ◌-◌, ◌*◌, ◌/◌, ◌%◌, ◌<◌, ◌≤◌, Bool, true, false, cond, List, [], ◌∷◌, ◌++◌, length, get_or, take, drop, map, inl, inr, refl, sym, ap, subst, ◌∙◌, arith, add-one}
use Rattle.std.specs.List.{All, concat, flat_map, range_with_len}
use borrow.Rule.Slice.PartMut.{put_mid, post_of}
use Rattle.std.proofs.lemmas.Slice.{take-put_mid}
use Rattle.std.proofs.Math.Path.{fun_ext}
use Rattle.std.proofs.lemmas.Bool.{cases_lt, cases_eq}
use Rattle.std.proofs.lemmas.List.{length-append, length-take-le, length-take, length-drop, get_or-append-add, get_or_append_left, get_or_past}
use Rattle.std.proofs.lemmas.List.Elements.{All-nil, All-cons, All-append}
use Rattle.bit_codes.specs.Bits.{bytes_of}
use Rattle.field_rows.proofs.Filled.{bytes_by_bits}
use Rattle.planes.specs.declared.ThreePlanes.{ThreePlanes}
use Rattle.planes.specs.declared.Trio.{Trio}
use Rattle.slice_geometry.specs.declared.PictureShape.{PictureShape}
use Rattle.slice_geometry.specs.declared.SliceHead.{SliceHead}
use Rattle.slice_geometry.specs.Slicing.{Slicing, AreSlicesAllowed, slice_count}
use Rattle.quant_factors.specs.Weights.{Weights}
use Rattle.slice_encoder.specs.Choice.{fits, IsLeastIndex, slice_bits}
use Rattle.slice_encoder.specs.Chosen.{first_fit, least_index, lists_of_slice, share_of_slice, chosen, written_slice, written_slices}
use Rattle.slice_encoder.specs.Encoded.{IsEncodedAfter}
use Rattle.slice_encoder.specs.TrialLaws.{IsIndex}
use Rattle.slice_encoder.specs.Ready.{coded_picture, AreGiven, AreReadyToWrite}
use Rattle.slice_encoder.specs.Trials.{CodedPicture, Lists, AreKept}
use Rattle.slice_encoder.specs.Tries.{AreTried, KeptHaveSizes, IsNext}
use Rattle.slice_encoder.proofs.Coarsest.{last_index}
use Rattle.slice_encoder.proofs.Listed.{flat_more}
use Rattle.slice_encoder.proofs.Onward.{next_ready}
use Rattle.slice_encoder.proofs.SamePicture.{AreSameInside, lists_same}
use Rattle.picture_codec.proofs.Tables.{row_below, column_below, place_again}

-- ---- the first that fits

either : (t : Bool) (a b m : ℕ) → a ≤ m → b ≤ m → cond t a b ≤ m
either true a b m first second = first
either false a b m first second = second

first_most : (bytes : ℕ) (lists_at : ℕ → Lists) (n i : ℕ) → first_fit bytes lists_at n i ≤ i + n
first_most bytes lists_at zero i = omega arith
first_most bytes lists_at (suc n) i = either (fits bytes (lists_at i)) i (first_fit bytes lists_at n (i + 1)) (i + suc n) (omega arith) (omega (arith, first_most bytes lists_at n (i + 1)))

-- from a place on at and below which nothing fits, it is the least
first_is : (bytes : ℕ) (lists_at : ℕ → Lists) (n i index : ℕ) → IsLeastIndex bytes lists_at index → i ≤ index → index ≤ i + n → first_fit bytes lists_at n i ≡ index
first_is bytes lists_at zero i index least low high = omega arith
first_is bytes lists_at (suc n) i index least low high = elim (cases_eq i index) as (λ _. first_fit bytes lists_at (suc n) i ≡ index) [
  | inl e ↦
      let fit : fits bytes (lists_at i) ≡ true = ap (λ (k : ℕ). fits bytes (lists_at k)) e ∙ least.fit in
      ap (λ b. cond b i (first_fit bytes lists_at n (i + 1))) fit ∙ e
  | inr ne ↦
      ap (λ b. cond b i (first_fit bytes lists_at n (i + 1))) (least.least i (omega arith)) ∙ first_is bytes lists_at n (i + 1) index least (omega arith) (omega arith)
]

pub least_is : (bytes : ℕ) (lists_at : ℕ → Lists) (index : ℕ) → IsLeastIndex bytes lists_at index → least_index bytes lists_at ≡ index
least_is bytes lists_at index least = first_is bytes lists_at 127 0 index least (omega arith) (omega (arith, least.most))

-- ---- the indices so far

pub chosen_next : (j : CodedPicture) (n : ℕ) → chosen j (suc n) ≡ chosen j n ++ least_index (share_of_slice j n) (λ i. lists_of_slice j n (chosen j n ++ i ∷ [])) ∷ []
unfolding chosen
chosen_next j n = refl

pub chosen_none : (j : CodedPicture) → chosen j 0 ≡ []
unfolding chosen
chosen_none j = refl

pub length-chosen : (j : CodedPicture) (n : ℕ) → length (chosen j n) ≡ n
length-chosen j zero = ap length (chosen_none j)
length-chosen j (suc n) =
    let last = least_index (share_of_slice j n) (λ i. lists_of_slice j n (chosen j n ++ i ∷ [])) in
    ap length (chosen_next j n) ∙ (length-append (chosen j n) (last ∷ []) ∙ omega (arith, length-chosen j n))

pub chosen_indices : (j : CodedPicture) (n : ℕ) → All IsIndex (chosen j n)
chosen_indices j zero = subst (λ l. All IsIndex l) (sym (chosen_none j)) (All-nil IsIndex)
chosen_indices j (suc n) =
    let lists_at : ℕ → Lists = λ i. lists_of_slice j n (chosen j n ++ i ∷ []) in
    let last = least_index (share_of_slice j n) lists_at in
    let low : last ≤ 127 = omega (arith, first_most (share_of_slice j n) lists_at 127 0) in
    subst (λ l. All IsIndex l) (sym (chosen_next j n)) (All-append IsIndex (chosen j n) (last ∷ []) (chosen_indices j n) (All-cons IsIndex last [] low (All-nil IsIndex)))

-- ---- pictures whose coefficients are the same inside

module _ (s : Slicing) (shape : PictureShape) (matrix : Weights) (a b : Trio) (same : AreSameInside s shape a b) where
  abbrev j : CodedPicture
  j = coded_picture s shape matrix a

  abbrev k : CodedPicture
  k = coded_picture s shape matrix b

  slice_same : (n : ℕ) (indices : List ℕ) → n < slice_count s → lists_of_slice j n indices ≡ lists_of_slice k n indices
  slice_same n indices lt =
      let inside : n < s.slices_y * s.slices_x = omega (arith, lt) in
      lists_same s shape matrix a b same indices (n % s.slices_x) (n / s.slices_x) (column_below n s.slices_x s.slices_y inside) (row_below n s.slices_x s.slices_y inside)

  chosen_same : (n : ℕ) → n ≤ slice_count s → chosen j n ≡ chosen k n
  chosen_same zero le = chosen_none j ∙ sym (chosen_none k)
  chosen_same (suc n) le =
      let share = share_of_slice j n in
      let before = chosen_same n (omega arith) in
      let lists : (λ i. lists_of_slice j n (chosen j n ++ i ∷ [])) ≡ (λ i. lists_of_slice k n (chosen k n ++ i ∷ [])) =
      fun_ext (λ i. slice_same n (chosen j n ++ i ∷ []) (omega arith) ∙ ap (λ l. lists_of_slice k n (l ++ i ∷ [])) before) in
      chosen_next j n
      ∙ (ap (λ l. l ++ least_index share (λ i. lists_of_slice j n (chosen j n ++ i ∷ [])) ∷ []) before
      ∙ (ap (λ (f : ℕ → Lists). chosen k n ++ least_index share f ∷ []) lists
      ∙ sym (chosen_next k n)))

  written_same : (n : ℕ) → n < slice_count s → written_slice j n ≡ written_slice k n
  written_same n lt =
      let indices : chosen j (suc n) ≡ chosen k (suc n) = chosen_same (suc n) (omega arith) in
      ap (λ l. bytes_of (slice_bits (share_of_slice j n) (get_or l n 0) (lists_of_slice j n l))) indices
      ∙ ap (λ (l : Lists). bytes_of (slice_bits (share_of_slice j n) (get_or (chosen k (suc n)) n 0) l)) (slice_same n (chosen k (suc n)) lt)

  range_same : (m n : ℕ) → m + n ≤ slice_count s → map (written_slice j) (range_with_len m n) ≡ map (written_slice k) (range_with_len m n)
  range_same m zero le = refl
  range_same m (suc n) le =
      ap (λ w. w ∷ map (written_slice j) (range_with_len (m + 1) n)) (written_same m (omega arith)) ∙ ap (λ l. written_slice k m ∷ l) (range_same (m + 1) n (omega arith))

  pub slices_same : written_slices j ≡ written_slices k
  slices_same = range_same 0 (slice_count s) (omega arith)

-- ---- a slice more

pub sizes_kept : (j : CodedPicture) (sx sy index : ℕ) (old new : ThreePlanes) → KeptHaveSizes j old → AreTried j sx sy index old new → KeptHaveSizes j new
sizes_kept j sx sy index old new sizes t = record {
  luma = (t.luma.same_width ∙ sizes.luma.0, t.luma.same_height ∙ sizes.luma.1);
  c1 = (t.c1.same_width ∙ sizes.c1.0, t.c1.same_height ∙ sizes.c1.1);
  c2 = (t.c2.same_width ∙ sizes.c2.0, t.c2.same_height ∙ sizes.c2.1);
}

module _ (j : CodedPicture) (n : ℕ) (lt : n < slice_count j.slicing) (allowed : AreSlicesAllowed j.slicing) where
  abbrev column : ℕ
  column = n % j.slicing.slices_x

  abbrev row : ℕ
  row = n / j.slicing.slices_x

  inside : n < j.slicing.slices_y * j.slicing.slices_x
  inside = omega (arith, lt)

  pub is_next : IsNext j (chosen j n) column row
  is_next = record {
    allowed = allowed;
    across = column_below n j.slicing.slices_x j.slicing.slices_y inside;
    down = row_below n j.slicing.slices_x j.slicing.slices_y inside;
    number = length-chosen j n ∙ sym (place_again n j.slicing.slices_x j.slicing.slices_y inside);
  }

  pub slice_ready : (kept : ThreePlanes) → AreGiven j → KeptHaveSizes j kept → AreKept j (chosen j n) kept → AreReadyToWrite j column row kept
  slice_ready kept given sizes values = next_ready j (chosen j n) column row kept given is_next sizes values (chosen_indices j n)

  module _ (bytes : List ℕ) (head : SliceHead) (kept : ThreePlanes) (many : length bytes ≡ share_of_slice j n) (fit : (i : ℕ) → get_or bytes i 0 < 256) (e : IsEncodedAfter j (chosen j n) column row bytes head kept) where
    index_is : least_index (share_of_slice j n) (λ i. lists_of_slice j n (chosen j n ++ i ∷ [])) ≡ head.qindex
    index_is = least_is (share_of_slice j n) (λ i. lists_of_slice j n (chosen j n ++ i ∷ [])) head.qindex
        (subst (λ (m : ℕ). IsLeastIndex m (λ i. lists_of_slice j n (chosen j n ++ i ∷ [])) head.qindex) many e.slice.least)

    longer : chosen j (suc n) ≡ chosen j n ++ head.qindex ∷ []
    longer = chosen_next j n ∙ ap (λ i. chosen j n ++ i ∷ []) index_is

    pub kept_on : AreKept j (chosen j (n + 1)) kept
    kept_on = subst (λ (m : ℕ). AreKept j (chosen j m) kept) (sym (add-one n)) (subst (λ l. AreKept j l kept) (sym longer) e.values)

    own : get_or (chosen j (suc n)) n 0 ≡ head.qindex
    own = ap (λ l. get_or l n 0) longer ∙ last_index (chosen j n) n head.qindex (length-chosen j n)

    pub bytes_are : bytes ≡ written_slice j n
    bytes_are =
        bytes_by_bits bytes (slice_bits (length bytes) head.qindex (lists_of_slice j n (chosen j n ++ head.qindex ∷ []))) fit e.slice.bits
        ∙ ap (λ (m : ℕ). bytes_of (slice_bits m head.qindex (lists_of_slice j n (chosen j n ++ head.qindex ∷ [])))) many
        ∙ ap (λ l. bytes_of (slice_bits (share_of_slice j n) head.qindex (lists_of_slice j n l))) (sym longer)
        ∙ ap (λ (i : ℕ). bytes_of (slice_bits (share_of_slice j n) i (lists_of_slice j n (chosen j (suc n))))) (sym own)

-- ---- the bytes so far

concat_flat : (f : ℕ → List ℕ) (xs : List ℕ) → concat (map f xs) ≡ flat_map f xs
concat_flat f [] = refl
concat_flat f (x ∷ xs) = ap (λ l. f x ++ l) (concat_flat f xs)

pub one_slice_more : (f : ℕ → List ℕ) (n place : ℕ) (bytes new : List ℕ) → place ≤ length bytes → take place bytes ≡ concat (map f (range_with_len 0 n)) → new ≡ f n
    → take (place + length new) (put_mid place (length new) bytes new) ≡ concat (map f (range_with_len 0 (n + 1)))
one_slice_more f n place bytes new low done is =
    let whole : place + length new ≡ place + length new = refl in
    take-put_mid place (length new) bytes new (place + length new) whole low
    ∙ ap (λ l. l ++ new) done
    ∙ ap (λ l. concat (map f (range_with_len 0 n)) ++ l) is
    ∙ ap (λ l. l ++ f n) (concat_flat f (range_with_len 0 n))
    ∙ sym (flat_more f 0 n n (omega arith))
    ∙ sym (concat_flat f (range_with_len 0 (n + 1)))

-- before the first slice nothing is asked of kept values
pub kept_none : (j : CodedPicture) (kept : ThreePlanes) → AreKept j (chosen j 0) kept
kept_none j kept = subst (λ l. AreKept j l kept) (sym (chosen_none j)) (record {
  luma = λ y x hy hx none. absurd (omega (arith, none));
  c1 = λ y x hy hx none. absurd (omega (arith, none));
  c2 = λ y x hy hx none. absurd (omega (arith, none));
})

-- a part has as many bytes as it was cut for
pub part_length : (p k : ℕ) (xs : List ℕ) → p + k ≤ length xs → length (take (p + k - p) (drop p xs)) ≡ k
part_length p k xs fits = omega (arith, length-take (p + k - p) (drop p xs), length-drop p xs, fits)

-- the bytes of a part are bytes
pub part_fits : (a k : ℕ) (xs ys : List ℕ) → a ≤ length xs → ((i : ℕ) → get_or (put_mid a k xs ys) i 0 < 256) → (i : ℕ) → get_or ys i 0 < 256
part_fits a k xs ys low fit i = elim (cases_lt i (length ys)) as (λ _. get_or ys i 0 < 256) [
  | inl here ↦
      let front : length (take a xs) ≡ a = length-take-le a xs low in
      let there : get_or (put_mid a k xs ys) (length (take a xs) + i) 0 ≡ get_or ys i 0 = get_or-append-add (take a xs) (ys ++ post_of a k xs) i 0 ∙ get_or_append_left ys (post_of a k xs) 0 i here in
      omega (arith, fit (length (take a xs) + i), there)
  | inr past ↦ let none : get_or ys i 0 ≡ 0 = get_or_past ys i 0 past in omega (arith, none)
]
