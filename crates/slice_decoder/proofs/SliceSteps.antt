-- A slice that is decoded, step by step: both blocks are read, and then the lowest subbands restored.
use Rattle.std.proofs.Common.{◌≡◌, ℕ, ◌+◌, ◌*◌, ◌<◌, ◌≤◌, List, Bool, ℤ, true, false, length, take, drop, refl, sym, ap, subst, ◌∙◌, inl, inr, arith}
use Rattle.bit_codes.specs.Bits.{bits_of, binary_after}
use Rattle.bit_codes.proofs.BitLemmas.{length-rest}
use Rattle.bounded_blocks.specs.Parts.{block_of}
use Rattle.planes.specs.declared.Rect.{Rect}
use Rattle.planes.specs.declared.Trio.{Trio}
use Rattle.planes.specs.Subbands.{BandStack}
use Rattle.slice_geometry.specs.declared.PictureShape.{PictureShape}
use Rattle.slice_geometry.specs.declared.SliceHead.{SliceHead}
use Rattle.slice_geometry.specs.Slicing.{Slicing, length_bits}
use Rattle.slice_geometry.specs.SliceOrder.{level_rect, numbered}
use Rattle.slice_geometry.proofs.RectsInBands.{FitsIn, fits}
use Rattle.quant_factors.specs.Weights.{Weights}
use Rattle.slice_decoder.specs.Slice.{Slice, slice_at}
use Rattle.slice_decoder.specs.Components.{Part, part_of, BandsKeep}
use Rattle.slice_decoder.specs.Jobs.{AreSizedBands, AllHold}
use Rattle.slice_decoder.specs.Decoded.{AllKeepOthers, IsDecoded}
use Rattle.slice_decoder.specs.Read.{IsRead}
use Rattle.slice_decoder.specs.Narrow.{NeedMore, NeedsWide, Answers, BothAnswer, AreRead, LieInLowest, AreRestored, OneStops, AllKeepLowest, block_values}
use Rattle.slice_decoder.proofs.Decodes.{ge_tests, AreValues, are-values, both-small, holds-slice, keeps-others}
use Rattle.slice_decoder.proofs.NarrowBands.{bands-lowest, both-answer, slice-stops, both-true}

-- the slice of these bytes, with the head that stands in them
pub record SliceRead : Type 0 where
  pub slicing : Slicing
  pub shape : PictureShape
  pub sx : ℕ
  pub sy : ℕ
  pub matrix : Weights
  pub bytes : List ℕ
  pub head : SliceHead

abbrev pub luma_of : SliceRead → Part
luma_of r = part_of r.slicing r.shape.luma r.sx r.sy r.matrix r.head.qindex

abbrev pub colour_of : SliceRead → Part
colour_of r = part_of r.slicing r.shape.colour r.sx r.sy r.matrix r.head.qindex

abbrev pub slice_in : SliceRead → Slice
slice_in r = slice_at r.slicing r.shape.luma r.shape.colour r.sx r.sy r.bytes

abbrev pub luma_block : SliceRead → List Bool
luma_block r = let start = 7 + length_bits (length r.bytes) in block_of r.bytes start (start + r.head.luma_bits)

abbrev pub colour_block : SliceRead → List Bool
colour_block r = let start = 7 + length_bits (length r.bytes) in block_of r.bytes (start + r.head.luma_bits) (8 * length r.bytes)

-- both blocks were read, or they need more
abbrev pub WasRead : ℤ → ℕ → SliceRead → Trio → Trio → Bool → Type 0
WasRead most room r old mid fit = AreRead most room (luma_of r) (colour_of r) (luma_block r) (colour_block r) old mid fit

-- the head is the slice's, and its luma block ends in the bytes
pub record IsHeaded (r : SliceRead) : Type 0 where
  pub qindex : r.head.qindex ≡ (slice_in r).qindex
  pub luma_bits : r.head.luma_bits ≡ (slice_in r).luma_bits
  pub fits : (slice_in r).too_long ≡ false
  pub values : AreValues r.slicing r.shape.luma r.shape.colour r.sx r.sy r.matrix r.bytes r.head.qindex r.head.luma_bits

-- the rectangles of the slice in the lowest subbands
pub record AreLowest (r : SliceRead) (luma colour : Rect) : Type 0 where
  pub luma_is : luma ≡ level_rect r.slicing r.shape.luma r.sx r.sy 0
  pub colour_is : colour ≡ level_rect r.slicing r.shape.colour r.sx r.sy 0

pub headed : (r : SliceRead) → r.head.luma_bits + 7 + length_bits (length r.bytes) ≤ 8 * length r.bytes → r.head.qindex ≡ binary_after 0 (take 7 (bits_of r.bytes))
    → r.head.luma_bits ≡ binary_after 0 (take (length_bits (length r.bytes)) (drop 7 (bits_of r.bytes))) → IsHeaded r
headed r within qindex luma_bits =
    let fits_in : (slice_in r).too_long ≡ false = ge_tests _ _ (omega (arith, within, luma_bits, length-rest r.bytes (7 + length_bits (length r.bytes)))) in
    record {
      qindex = qindex;
      luma_bits = luma_bits;
      fits = fits_in;
      values = are-values r.slicing r.shape.luma r.shape.colour r.sx r.sy r.matrix r.bytes r.head.qindex r.head.luma_bits qindex luma_bits fits_in;
    }

-- ---- the blocks of two jobs, which are those of the slice

pub same_block : (bytes : List ℕ) (block : List Bool) (from to start end : ℕ) → block ≡ block_of bytes from to → from ≡ start → to ≡ end → block ≡ block_of bytes start end
same_block bytes block from to start end is one two = is ∙ ap (λ b. block_of bytes b to) one ∙ ap (block_of bytes start) two

module _ (most : ℤ) (room : ℕ) (luma1 luma colour1 colour : Part) (luma_bits1 luma_bits colour_bits1 colour_bits : List Bool) (luma_is : luma1 ≡ luma) (colour_is : colour1 ≡ colour) (luma_same : luma_bits1 ≡ luma_bits) (colour_same : colour_bits1 ≡ colour_bits) (old new : Trio) where
  read_alike : (fit : Bool) → AreRead most room luma1 colour1 luma_bits1 colour_bits1 old new fit → AreRead most room luma colour luma_bits colour_bits old new fit
  read_alike fit read =
      subst (λ (p : Part). AreRead most room p colour luma_bits colour_bits old new fit) luma_is
      (subst (λ (p : Part). AreRead most room luma1 p luma_bits colour_bits old new fit) colour_is
      (subst (λ (b : List Bool). AreRead most room luma1 colour1 b colour_bits old new fit) luma_same
      (subst (λ (b : List Bool). AreRead most room luma1 colour1 luma_bits1 b old new fit) colour_same read)))

  pub both-read : (left : ℕ) (fit : Bool) → left ≡ room → Answers most room (block_values 1 luma1 luma_bits1) (AllHold 1 0 luma1 luma_bits1 old.luma new.luma) true → BandsKeep luma1 old.luma new.luma
      → Answers most left (block_values 2 colour1 colour_bits1) (AllHold 2 0 colour1 colour_bits1 old.c1 new.c1 × AllHold 2 1 colour1 colour_bits1 old.c2 new.c2) fit
      → BandsKeep colour1 old.c1 new.c1 → BandsKeep colour1 old.c2 new.c2 → AreRead most room luma colour luma_bits colour_bits old new fit
  both-read left fit same first luma_keeps second c1_keeps c2_keeps =
      let P : ℕ → Type 0 = λ n. Answers most n (block_values 2 colour1 colour_bits1) (AllHold 2 0 colour1 colour_bits1 old.c1 new.c1 × AllHold 2 1 colour1 colour_bits1 old.c2 new.c2) fit in
      read_alike fit (record {
        answer = both-answer most room luma1 colour1 luma_bits1 colour_bits1 old new fit first.0 first.1 (subst P same second);
        luma_keeps = luma_keeps;
        c1_keeps = c1_keeps;
        c2_keeps = c2_keeps;
      })

  -- the luma block needs more, and the colour block is not read
  pub luma-not-read : NeedMore most room (block_values 1 luma1 luma_bits1) → BandsKeep luma1 old.luma new.luma → BandsKeep colour1 old.c1 new.c1 → BandsKeep colour1 old.c2 new.c2
      → AreRead most room luma colour luma_bits colour_bits old new false
  luma-not-read more luma_keeps c1_keeps c2_keeps = read_alike false (record { answer = inl more; luma_keeps = luma_keeps; c1_keeps = c1_keeps; c2_keeps = c2_keeps })

-- the same of wide bands
pub is-read-alike : (luma1 luma colour1 colour : Part) (luma_bits1 luma_bits colour_bits1 colour_bits : List Bool) → luma1 ≡ luma → colour1 ≡ colour → luma_bits1 ≡ luma_bits → colour_bits1 ≡ colour_bits → (old new : Trio) (good : Bool)
    → IsRead luma1 colour1 luma_bits1 colour_bits1 old new good → IsRead luma colour luma_bits colour_bits old new good
is-read-alike luma1 luma colour1 colour luma_bits1 luma_bits colour_bits1 colour_bits luma_is colour_is luma_same colour_same old new good read =
    subst (λ (p : Part). IsRead p colour luma_bits colour_bits old new good) luma_is
    (subst (λ (p : Part). IsRead luma1 p luma_bits colour_bits old new good) colour_is
    (subst (λ (b : List Bool). IsRead luma1 colour1 b colour_bits old new good) luma_same
    (subst (λ (b : List Bool). IsRead luma1 colour1 luma_bits1 b old new good) colour_same read)))

-- ---- both blocks are read

pub others-kept : (r : SliceRead) (old new : Trio) → BandsKeep (luma_of r) old.luma new.luma → BandsKeep (colour_of r) old.c1 new.c1 → BandsKeep (colour_of r) old.c2 new.c2 → AllKeepOthers r.slicing r.shape r.sx r.sy old new
others-kept r old new luma c1 c2 = record {
  luma = keeps-others (luma_of r) old.luma new.luma luma;
  c1 = keeps-others (colour_of r) old.c1 new.c1 c1;
  c2 = keeps-others (colour_of r) old.c2 new.c2 c2;
}

pub wide-after-reading : (most : ℤ) (room left : ℕ) (r : SliceRead) (old mid new : Trio) → IsHeaded r → left ≡ room → WasRead most left r old mid false
    → NeedsWide most room r.slicing r.shape r.sx r.sy r.matrix (slice_in r) new
wide-after-reading most room left r old mid new head same read =
    let P : List ℤ → Type 0 = λ vs. NeedMore most room vs in
    let Q : ℕ → Type 0 = λ n. BothAnswer most n (luma_of r) (colour_of r) (luma_block r) (colour_block r) old mid false in
    elim (subst Q same read.answer) [
      | inl lumas ↦ inl (subst P (sym head.values.of_luma) lumas)
      | inr colours ↦ inr (inl (subst P (sym head.values.of_colour) colours))
    ]

pub others-after-reading : (most : ℤ) (room : ℕ) (r : SliceRead) (old mid : Trio) (fit : Bool) → WasRead most room r old mid fit → AllKeepOthers r.slicing r.shape r.sx r.sy old mid
others-after-reading most room r old mid fit read = others-kept r old mid read.luma_keeps read.c1_keeps read.c2_keeps

lowest-inside : (p : Part) (rect : Rect) (old mid : BandStack) → rect ≡ level_rect p.slicing p.size p.sx p.sy 0 → p.sx < p.slicing.slices_x → p.sy < p.slicing.slices_y → AreSizedBands p old → BandsKeep p old mid
    → FitsIn rect (numbered mid 0)
lowest-inside p rect old mid is across down sized keep =
    let inside : FitsIn rect (numbered old 0) = fits p.slicing p.size p.sx p.sy 0 rect old (numbered old 0) is refl (omega arith) sized.depth across down sized.sizes in
    let same = keep.bands 0 in
    record { across = inside.across; down = inside.down; x_inside = omega (arith, inside.x_inside, same.same_width); y_inside = omega (arith, inside.y_inside, same.same_height) }

pub lie-in-lowest : (most : ℤ) (room : ℕ) (r : SliceRead) (old mid : Trio) (luma colour : Rect) → AreLowest r luma colour → r.sx < r.slicing.slices_x → r.sy < r.slicing.slices_y
    → AreSizedBands (luma_of r) old.luma → AreSizedBands (colour_of r) old.c1 → AreSizedBands (colour_of r) old.c2 → WasRead most room r old mid true → LieInLowest luma colour mid
lie-in-lowest most room r old mid luma colour lowest across down luma_sized c1_sized c2_sized read =
    let in_luma = lowest-inside (luma_of r) luma old.luma mid.luma lowest.luma_is across down luma_sized read.luma_keeps in
    let in_c1 = lowest-inside (colour_of r) colour old.c1 mid.c1 lowest.colour_is across down c1_sized read.c1_keeps in
    let in_c2 = lowest-inside (colour_of r) colour old.c2 mid.c2 lowest.colour_is across down c2_sized read.c2_keeps in
    record {
      luma_x = in_luma.x_inside;
      luma_y = in_luma.y_inside;
      c1_x = in_c1.x_inside;
      c1_y = in_c1.y_inside;
      c2_x = in_c2.x_inside;
      c2_y = in_c2.y_inside;
    }

-- ---- the lowest subbands are restored

module _ (most : ℤ) (room : ℕ) (r : SliceRead) (old mid new : Trio) (luma colour : Rect) (lowest : AreLowest r luma colour) (read : WasRead most room r old mid true) where
  pub wide-where-stopped : (all : ℕ) → IsHeaded r → OneStops luma colour mid new → NeedsWide most all r.slicing r.shape r.sx r.sy r.matrix (slice_in r) new
  wide-where-stopped all head stops = elim stops [
    | inl at_luma ↦ inr (inr (inl (slice-stops 1 0 (luma_of r) (luma_block r) old.luma mid.luma new.luma luma _ (omega arith) lowest.luma_is head.values.of_luma read.answer.2 at_luma)))
    | inr rest ↦ elim rest [
      | inl at_c1 ↦ inr (inr (inr (inl (slice-stops 2 0 (colour_of r) (colour_block r) old.c1 mid.c1 new.c1 colour _ (omega arith) lowest.colour_is head.values.of_colour read.answer.3 at_c1))))
      | inr at_c2 ↦ inr (inr (inr (inr (slice-stops 2 1 (colour_of r) (colour_block r) old.c2 mid.c2 new.c2 colour _ (omega arith) lowest.colour_is head.values.of_colour read.answer.4 at_c2))))
    ]
  ]

  pub others-after-restoring : AllKeepLowest luma colour mid new → AllKeepOthers r.slicing r.shape r.sx r.sy old new
  others-after-restoring keeps =
      others-kept r old new
      (bands-lowest (luma_of r) old.luma mid.luma new.luma luma lowest.luma_is read.luma_keeps keeps.luma)
      (bands-lowest (colour_of r) old.c1 mid.c1 new.c1 colour lowest.colour_is read.c1_keeps keeps.c1)
      (bands-lowest (colour_of r) old.c2 mid.c2 new.c2 colour lowest.colour_is read.c2_keeps keeps.c2)

  pub decoded-slice : IsHeaded r → AreRestored luma colour mid new → AllKeepLowest luma colour mid new → IsDecoded r.slicing r.shape r.sx r.sy r.matrix (slice_in r) r.head new
  decoded-slice head done keeps = record {
    qindex = head.qindex;
    luma_bits = head.luma_bits;
    fits = head.fits;
    small = both-small _ _ _ _ true head.values.of_luma head.values.of_colour (both-true (block_values 1 (luma_of r) (luma_block r)) (block_values 2 (colour_of r) (colour_block r)) read.answer.0 read.answer.1);
    luma = holds-slice 1 0 (luma_of r) (luma_block r) old.luma mid.luma new.luma luma _ (omega arith) lowest.luma_is head.values.of_luma read.answer.2 done.luma keeps.luma.others;
    c1 = holds-slice 2 0 (colour_of r) (colour_block r) old.c1 mid.c1 new.c1 colour _ (omega arith) lowest.colour_is head.values.of_colour read.answer.3 done.c1 keeps.c1.others;
    c2 = holds-slice 2 1 (colour_of r) (colour_block r) old.c2 mid.c2 new.c2 colour _ (omega arith) lowest.colour_is head.values.of_colour read.answer.4 done.c2 keeps.c2.others;
  }
