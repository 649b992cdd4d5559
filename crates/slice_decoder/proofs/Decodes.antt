-- A slice that was read, restored: what its definition says stands in the bands.
use Rattle.std.proofs.Common.{◌≡◌, ℕ, zero, suc, ◌+◌, ◌-◌, ◌*◌, ◌/◌, ◌^◌, ◌<◌, ◌≤◌, List, [], Bool, true, false, ◌&&◌, cond, length, take, drop, get_or, ℤ, pos, negsuc, ◌+ℤ◌, unsigned_abs, refl, sym, ap, subst, ◌∙◌, inl, inr, arith}
use Rattle.std.specs.Prelude.{nat_lt}
use Rattle.std.proofs.Math.Nat.{div-le_self}
use Rattle.std.proofs.lemmas.Int.{ints}
use Rattle.std.proofs.lemmas.Bool.Decides.{nat_tests}
use Rattle.std.proofs.lemmas.List.{take_all, drop-drop}
use Rattle.planes.specs.declared.Rect.{Rect}
use Rattle.planes.specs.Numbers.{Within}
use Rattle.planes.specs.Raster.{Raster, height, at}
use Rattle.planes.specs.Rect.{IsInRect}
use Rattle.planes.specs.Subbands.{BandStack, BandExists, band_index, band_of}
use Rattle.bit_codes.specs.Bits.{bits_of, binary_after}
use Rattle.bit_codes.proofs.BitLemmas.{length-rest}
use Rattle.bounded_blocks.specs.Reading.{values}
use Rattle.bounded_blocks.specs.Parts.{block_of}
use Rattle.dc_prediction.specs.Prediction.{prediction, reach}
use Rattle.dc_prediction.specs.Restoring.{CanRestore, RestoresRect}
use Rattle.slice_geometry.specs.declared.Size.{Size}
use Rattle.slice_geometry.specs.Shape.{IsSize}
use Rattle.slice_geometry.specs.Slicing.{Slicing, length_bits}
use Rattle.slice_geometry.specs.Geometry.{padded_length}
use Rattle.slice_geometry.proofs.Lengths.{padded_most}
use Rattle.quant_factors.specs.Weights.{Weights}
use Rattle.slice_decoder.specs.Slice.{Slice, quantisers, dequantised, are_small, slice_at, luma_values, colour_values}
use Rattle.slice_geometry.specs.SliceOrder.{level_rect, place_count, place_number, numbered}
use Rattle.slice_decoder.specs.Dealing.{dealt, KeepsOutside}
use Rattle.slice_decoder.specs.Components.{Part, part_of, rect_of, quantisers_before, BandsHold, BandsKeep}
use Rattle.slice_decoder.specs.Decoded.{IsReady, HoldsSlice, KeepsOthers}
use Rattle.slice_decoder.proofs.Dealt.{dequantised-values, are_small-at}
use Rattle.slice_geometry.proofs.RectsInBands.{FitsIn, fits}
use Rattle.slice_decoder.proofs.Whole.{quantisers-are, length-to_level, is_band, place-holds}

pub lt_tests : (m n : ℕ) → m < n → nat_lt m n ≡ true
lt_tests m n h = grind (arith, nat_tests)

pub ge_tests : (m n : ℕ) → n ≤ m → nat_lt m n ≡ false
ge_tests m n h = grind (arith, nat_tests)

-- ---- the two blocks

pub luma_block_is : (bytes : List ℕ) (start bits luma_bits : ℕ) → luma_bits ≡ bits → take bits (drop start (bits_of bytes)) ≡ block_of bytes start (start + luma_bits)
luma_block_is bytes start bits luma_bits is =
    let count : bits ≡ start + luma_bits - start = omega (arith, is) in
    ap (λ n. take n (drop start (bits_of bytes))) count

pub colour_block_is : (bytes : List ℕ) (start bits luma_bits : ℕ) → luma_bits ≡ bits → drop bits (drop start (bits_of bytes)) ≡ block_of bytes (start + luma_bits) (8 * length bytes)
colour_block_is bytes start bits luma_bits is =
    drop-drop bits start (bits_of bytes)
    ∙ ap (λ n. drop n (bits_of bytes)) (let place : start + bits ≡ start + luma_bits = omega (arith, is) in place)
    ∙ sym (take_all (8 * length bytes - (start + luma_bits)) (drop (start + luma_bits) (bits_of bytes)) (omega (arith, length-rest bytes (start + luma_bits))))

pub chosen : (b : Bool) (vs ws : List ℤ) → b ≡ false → ws ≡ vs → cond b [] vs ≡ ws
chosen true vs ws fits same = cc
chosen false vs ws fits same = sym same

-- ---- the values

pub luma-are : (s : Slicing) (size : Size) (sx sy : ℕ) (matrix : Weights) (slice : Slice) (qindex : ℕ) (block : List Bool) → slice.luma ≡ values (place_count s size sx sy) block → qindex ≡ slice.qindex
    → luma_values s size sx sy matrix slice ≡ dealt block (quantisers_before 1 (part_of s size sx sy matrix qindex) (3 * s.depth + 1))
luma-are s size sx sy matrix slice qindex block luma_is is =
    let p = part_of s size sx sy matrix qindex in
    ap (λ vs. dequantised vs (quantisers 1 s size sx sy matrix slice.qindex s.depth)) luma_is
    ∙ ap (λ q. dequantised (values (place_count s size sx sy) block) (quantisers 1 s size sx sy matrix q s.depth)) (sym is)
    ∙ ap (dequantised (values (place_count s size sx sy) block)) (quantisers-are 1 (part_of s size sx sy matrix qindex) s.depth)
    ∙ dequantised-values block (quantisers_before 1 (part_of s size sx sy matrix qindex) (3 * s.depth + 1)) (place_count s size sx sy) (omega (arith, length-to_level 1 (part_of s size sx sy matrix qindex) s.depth))

pub colour-are : (s : Slicing) (size : Size) (sx sy : ℕ) (matrix : Weights) (slice : Slice) (qindex : ℕ) (block : List Bool) → slice.colour ≡ values (2 * place_count s size sx sy) block → qindex ≡ slice.qindex
    → colour_values s size sx sy matrix slice ≡ dealt block (quantisers_before 2 (part_of s size sx sy matrix qindex) (3 * s.depth + 1))
colour-are s size sx sy matrix slice qindex block colour_is is =
    ap (λ vs. dequantised vs (quantisers 2 s size sx sy matrix slice.qindex s.depth)) colour_is
    ∙ ap (λ q. dequantised (values (2 * place_count s size sx sy) block) (quantisers 2 s size sx sy matrix q s.depth)) (sym is)
    ∙ ap (dequantised (values (2 * place_count s size sx sy) block)) (quantisers-are 2 (part_of s size sx sy matrix qindex) s.depth)
    ∙ dequantised-values block (quantisers_before 2 (part_of s size sx sy matrix qindex) (3 * s.depth + 1)) (2 * place_count s size sx sy) (omega (arith, length-to_level 2 (part_of s size sx sy matrix qindex) s.depth))

-- the values of both blocks
pub record AreValues (s : Slicing) (luma colour : Size) (sx sy : ℕ) (matrix : Weights) (bytes : List ℕ) (qindex luma_bits : ℕ) : Type 0 where
  pub of_luma : luma_values s luma sx sy matrix (slice_at s luma colour sx sy bytes) ≡ dealt (block_of bytes (7 + length_bits (length bytes)) (7 + length_bits (length bytes) + luma_bits)) (quantisers_before 1 (part_of s luma sx sy matrix qindex) (3 * s.depth + 1))
  pub of_colour : colour_values s colour sx sy matrix (slice_at s luma colour sx sy bytes) ≡ dealt (block_of bytes (7 + length_bits (length bytes) + luma_bits) (8 * length bytes)) (quantisers_before 2 (part_of s colour sx sy matrix qindex) (3 * s.depth + 1))

pub are-values : (s : Slicing) (luma colour : Size) (sx sy : ℕ) (matrix : Weights) (bytes : List ℕ) (qindex luma_bits : ℕ) → qindex ≡ binary_after 0 (take 7 (bits_of bytes)) → luma_bits ≡ binary_after 0 (take (length_bits (length bytes)) (drop 7 (bits_of bytes)))
    → (slice_at s luma colour sx sy bytes).too_long ≡ false → AreValues s luma colour sx sy matrix bytes qindex luma_bits
are-values s luma colour sx sy matrix bytes qindex luma_bits q_is bits_is fits_in =
    let start : ℕ = 7 + length_bits (length bytes) in
    let bits : ℕ = binary_after 0 (take (length_bits (length bytes)) (drop 7 (bits_of bytes))) in
    let luma_count : ℕ = place_count s luma sx sy in
    let colour_count : ℕ = 2 * place_count s colour sx sy in
    record {
      of_luma = luma-are s luma sx sy matrix (slice_at s luma colour sx sy bytes) qindex (block_of bytes start (start + luma_bits))
          (chosen _ (values luma_count (take bits (drop start (bits_of bytes)))) (values luma_count (block_of bytes start (start + luma_bits))) fits_in (ap (values luma_count) (sym (luma_block_is bytes start bits luma_bits bits_is)))) q_is;
      of_colour = colour-are s colour sx sy matrix (slice_at s luma colour sx sy bytes) qindex (block_of bytes (start + luma_bits) (8 * length bytes))
          (chosen _ (values colour_count (drop bits (drop start (bits_of bytes)))) (values colour_count (block_of bytes (start + luma_bits) (8 * length bytes))) fits_in (ap (values colour_count) (sym (colour_block_is bytes start bits luma_bits bits_is)))) q_is;
    }

pub both-small : (lumas colours luma_list colour_list : List ℤ) (good : Bool) → lumas ≡ luma_list → colours ≡ colour_list → good ≡ (are_small luma_list && are_small colour_list) → (are_small lumas && are_small colours) ≡ good
both-small lumas colours luma_list colour_list good luma_is colour_is is =
    ap (λ vs. are_small vs && are_small colours) luma_is ∙ ap (λ vs. are_small luma_list && are_small vs) colour_is ∙ sym is

-- ---- restoring

pub within_abs : (z : ℤ) (m : ℕ) → unsigned_abs z ≤ m → Within m z
within_abs (pos n) m le = record { low = omega (arith, ints); high = omega (arith, ints) }
within_abs (negsuc n) m le = record { low = omega (arith, ints); high = omega (arith, ints) }

pub can-restore : (each from : ℕ) (p : Part) (block : List Bool) (old b : BandStack) (rect : Rect) → from < each → rect ≡ level_rect p.slicing p.size p.sx p.sy 0 → p.slicing.depth ≤ 4 → IsSize p.size.w p.size.h → p.sx < p.slicing.slices_x → p.sy < p.slicing.slices_y
    → IsReady p.slicing p.size p.sx p.sy old → BandsHold each from p (3 * p.slicing.depth + 1) block old b
    → are_small (dealt block (quantisers_before each p (3 * p.slicing.depth + 1))) ≡ true
    → CanRestore rect (numbered b 0)
can-restore each from p block old b rect lt rect_is deep size across down ready held small =
    let lowest = held.bands 0 (omega arith) in
    let inside : FitsIn rect (numbered old 0) = fits p.slicing p.size p.sx p.sy 0 rect old (numbered old 0) rect_is refl (omega arith) ready.depth across down ready.sizes in
    let width : (numbered old 0).w ≡ padded_length old.depth p.size.w / 2 ^ old.depth = ready.sizes.widths 0 0 (inl (refl, refl)) ∙ ap (λ d. padded_length d p.size.w / 2 ^ old.depth) (sym ready.depth) in
    let tall : height (numbered old 0) ≡ padded_length old.depth p.size.h / 2 ^ old.depth = ready.sizes.heights 0 0 (inl (refl, refl)) ∙ ap (λ d. padded_length d p.size.h / 2 ^ old.depth) (sym ready.depth) in
    let shallow : old.depth ≤ 4 = omega (arith, ready.depth, deep) in
    let moved : (j i : ℕ) → (IsInRect (level_rect p.slicing p.size p.sx p.sy 0) j i → ⊥) → Within (reach j i) (at (numbered old 0) j i) → Within (reach j i) (at (numbered b 0) j i) =
    λ j i out w. let Q : ℤ → Type 0 = λ z. Within (reach j i) z in subst Q (sym (lowest.outside j i out)) w
    in
    let P : Rect → Type 0 = λ r. CanRestore r (numbered b 0) in
    subst P (sym rect_is) (record {
      x_inside = omega (arith, inside.x_inside, lowest.same_width, ap (λ r. r.x1) rect_is);
      y_inside = omega (arith, inside.y_inside, lowest.same_height, ap (λ r. r.y1) rect_is);
      narrow = omega (arith, lowest.same_width, width, div-le_self (padded_length old.depth p.size.w) (2 ^ old.depth), padded_most old.depth p.size.w shallow size.width);
      low = omega (arith, lowest.same_height, tall, div-le_self (padded_length old.depth p.size.h) (2 ^ old.depth), padded_most old.depth p.size.h shallow size.height);
      residuals = λ y x here.
          let is = place-holds each from p block old b 0 0 y x lt held (inl (refl, refl)) here in
          within_abs (at (numbered b 0) y x) (2 ^ 36) (omega (arith, ap unsigned_abs is, are_small-at (dealt block (quantisers_before each p (3 * p.slicing.depth + 1))) (each * place_number p.slicing p.size p.sx p.sy 0 0 y x + from) small));
      outside = λ y x here. let looked = ready.outside y x here in record {
        left = λ some out. moved y (x - 1) out (looked.left some out);
        above = λ some out. moved (y - 1) x out (looked.above some out);
        corner = λ below right out. moved (y - 1) (x - 1) out (looked.corner below right out);
      };
    })

-- ---- what stands in the end

number_some : (depth level orient : ℕ) → BandExists depth level orient → 1 ≤ level → 1 ≤ band_index level orient
number_some depth zero orient e some = absurd (omega arith)
number_some depth (suc level) orient (inl e) some = absurd (omega (arith, e.0))
number_some depth (suc level) orient (inr e) some =
    let low = e.2 in
    above level orient low
  where
    above : (level orient : ℕ) → 1 ≤ orient → 1 ≤ band_index (suc level) orient
    above level orient low = grind (arith, nat_tests)

pub holds-slice : (each from : ℕ) (p : Part) (block : List Bool) (old b new : BandStack) (rect : Rect) (values : List ℤ) → from < each → rect ≡ level_rect p.slicing p.size p.sx p.sy 0
    → values ≡ dealt block (quantisers_before each p (3 * p.slicing.depth + 1))
    → BandsHold each from p (3 * p.slicing.depth + 1) block old b
    → RestoresRect rect (numbered b 0) (numbered new 0)
    → ((k : ℕ) → 1 ≤ k → numbered new k ≡ numbered b k)
    → HoldsSlice each from p.slicing p.size p.sx p.sy values new
holds-slice each from p block old b new rect values lt rect_is values_are held restores others =
    let P : Rect → Type 0 = λ r. RestoresRect r (numbered b 0) (numbered new 0) in
    let done : P (level_rect p.slicing p.size p.sx p.sy 0) = subst P rect_is restores in
    record {
      restored = λ y x here.
          done.restored y x here
          ∙ ap (λ z. z +ℤ prediction (at (numbered new 0)) y x)
          (place-holds each from p block old b 0 0 y x lt held (inl (refl, refl)) here
          ∙ ap (λ vs. get_or vs (each * place_number p.slicing p.size p.sx p.sy 0 0 y x + from) (pos 0)) (sym values_are));
      small = done.small;
      dequantised = λ level orient y x e some here.
          ap (λ r. at r y x) (others (band_index level orient) (number_some p.slicing.depth level orient e some))
          ∙ place-holds each from p block old b level orient y x lt held e here
          ∙ ap (λ vs. get_or vs (each * place_number p.slicing p.size p.sx p.sy level orient y x + from) (pos 0)) (sym values_are);
    }

-- ---- what stays

pub keeps-others : (p : Part) (old new : BandStack) → BandsKeep p old new → KeepsOthers p.slicing p.size p.sx p.sy old new
keeps-others p old new keeps = record {
  same_depth = keeps.same_depth;
  bands = λ level orient e.
      let band = is_band p.slicing.depth level orient e in
      let P : ℕ → Type 0 = λ l. KeepsOutside (level_rect p.slicing p.size p.sx p.sy l) (band_of old level orient) (band_of new level orient) in
      subst P band.level_is (keeps.bands (band_index level orient));
}

pub bands-restored : (p : Part) (old b new : BandStack) (rect : Rect) → rect ≡ level_rect p.slicing p.size p.sx p.sy 0 → BandsKeep p old b → new.depth ≡ b.depth
    → RestoresRect rect (numbered b 0) (numbered new 0)
    → ((k : ℕ) → 1 ≤ k → numbered new k ≡ numbered b k)
    → BandsKeep p old new
bands-restored p old b new rect rect_is keeps depth restores others = record {
  same_depth = depth ∙ keeps.same_depth;
  bands = band;
}
  where
    band : (k : ℕ) → KeepsOutside (rect_of p k) (numbered old k) (numbered new k)
    band zero =
        let P : Rect → Type 0 = λ r. RestoresRect r (numbered b 0) (numbered new 0) in
        let done : P (level_rect p.slicing p.size p.sx p.sy 0) = subst P rect_is restores in
        let first = keeps.bands 0 in
        record {
          same_width = done.same_width ∙ first.same_width;
          same_height = done.same_height ∙ first.same_height;
          outside = λ y x out. done.stays y x out ∙ first.outside y x out;
        }
    band (suc k) =
        let P : Raster ℤ → Type 0 = λ r. KeepsOutside (rect_of p (suc k)) (numbered old (suc k)) r in
        subst P (sym (others (suc k) (omega arith))) (keeps.bands (suc k))
