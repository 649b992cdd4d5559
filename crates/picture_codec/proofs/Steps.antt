-- From slice to slice: what a decoder keeps.
use Rattle.std.proofs.Common.{◌≡◌, ℕ, ◌+◌, ◌-◌, ◌*◌, ◌/◌, ◌%◌, ◌^◌, ◌<◌, ◌≤◌, inl, inr, refl, sym, ap, subst, ◌∙◌, arith, true, List}
use Rattle.std.specs.Prelude.{ℤ, pos, ◌+ℤ◌, slice_index_or}
use Rattle.std.proofs.lemmas.Bool.{cases_lt}
use Rattle.std.proofs.Math.Nat.{mul_comm}
use Rattle.planes.specs.Numbers.{Within}
use Rattle.planes.specs.Raster.{at}
use Rattle.planes.specs.Rect.{IsInRect}
use Rattle.planes.specs.Subbands.{BandStack, band_of, AreZeroBands}
use Rattle.planes.proofs.BandLemmas.{HaveSizes-zero}
use Rattle.dc_prediction.specs.Prediction.{prediction, reach}
use Rattle.slice_geometry.specs.declared.Size.{Size}
use Rattle.slice_geometry.specs.declared.Component.{Component}
use Rattle.slice_geometry.specs.declared.Component.TheVariants.{Luma, C1, C2}
use Rattle.slice_geometry.specs.Slicing.{Slicing, AreSlicesAllowed, slice_count, slice_number}
use Rattle.slice_geometry.specs.Geometry.{padded_length, band_size, holding}
use Rattle.slice_geometry.proofs.Places.{held, alone}
use Rattle.planes.specs.declared.Trio.{Trio}
use Rattle.slice_geometry.specs.declared.PictureShape.{PictureShape}
use Rattle.slice_geometry.specs.declared.SliceHead.{SliceHead}
use Rattle.quant_factors.specs.Weights.{Weights}
use Rattle.slice_decoder.specs.Slice.{Slice, slice_at, luma_values, colour_values, are_small}
use Rattle.slice_geometry.specs.SliceOrder.{level_rect, place_number}
use Rattle.slice_decoder.specs.Decoded.{IsReady, AreReady, HoldsSlice, KeepsOthers, AllKeepOthers, IsDecoded}
use Rattle.slice_decoder.proofs.Dealt.{are_small-at, and-left, and-right}
use Rattle.slice_geometry.proofs.RectsInBands.{end_inside}
use Rattle.transform_params.specs.Params.{Params}
use Rattle.slice_geometry.specs.Frames.{Frame, frame_of}
use Rattle.picture_codec.specs.Pictures.{size_of, slice_value}
use Rattle.picture_codec.specs.Taking.{holder, TakesSlice}
use Rattle.picture_codec.specs.Decoding.{AreTaken, AllTaken, stack_of}
use Rattle.picture_codec.proofs.Tables.{row_below, column_below, place_again}
use Rattle.picture_codec.proofs.Taking.{holder-rises, held-by}
use Rattle.picture_codec.proofs.BothWidths.{sizes_after}
use Rattle.slice_decoder.proofs.Decodes.{within_abs}

-- no slice yet
pub taken_none : (s : Slicing) (size : Size) (b : BandStack) → AreZeroBands b s.depth (padded_length s.depth size.w) (padded_length s.depth size.h) → AreTaken s size 0 b
taken_none s size b zeros = record {
  depth = zeros.same_depth;
  sizes = HaveSizes-zero b s.depth (padded_length s.depth size.w) (padded_length s.depth size.h) zeros;
  lowest = λ y x y_in x_in lt. absurd (omega arith);
  upper = λ level orient y x is some y_in x_in lt. absurd (omega arith);
}

module _ (s : Slicing) (n : ℕ) (lt : n < slice_count s) where
  inside : n < s.slices_y * s.slices_x
  inside = subst (λ v. n < v) (mul_comm s.slices_x s.slices_y) lt

  pub column_in : n % s.slices_x < s.slices_x
  column_in = column_below n s.slices_x s.slices_y inside

  pub row_in : n / s.slices_x < s.slices_y
  row_in = row_below n s.slices_x s.slices_y inside

  pub number_is : slice_number s (n % s.slices_x) (n / s.slices_x) ≡ n
  number_is = place_again n s.slices_x s.slices_y inside

module _ (s : Slicing) (size : Size) (n : ℕ) (lt : n < slice_count s) (allowed : AreSlicesAllowed s) where
  abbrev column : ℕ
  column = n % s.slices_x

  abbrev row : ℕ
  row = n / s.slices_x

  abbrev band : ℕ → Size
  band level = band_size s.depth level size

  -- a place of the slice has its number, and a place of its number is one of the slice
  number_of : (level y x : ℕ) → IsInRect (level_rect s size column row level) y x → holder s (band level) y x ≡ n
  number_of level y x inside =
      let one = alone s (band level) y x column row allowed inside in
      ap (λ a. slice_number s a (holding s.slices_y (band level).h y)) (sym one.0) ∙ ap (λ b. slice_number s column b) (sym one.1) ∙ number_is s n lt

  in_rect : (level y x : ℕ) → y < (band level).h → x < (band level).w → holder s (band level) y x ≡ n → IsInRect (level_rect s size column row level) y x
  in_rect level y x y_in x_in e =
      let one = held-by s (band level) y x column row allowed x_in y_in (column_in s n lt) (number_is s n lt ∙ sym e) in
      let there = held s (band level) y x allowed x_in y_in in
      subst (λ a. IsInRect (level_rect s size a row level) y x) (sym one.0) (subst (λ b. IsInRect (level_rect s size (holding s.slices_x (band level).w x) b level) y x) (sym one.1) there.inside)

  not_in : (level y x : ℕ) → holder s (band level) y x < n → IsInRect (level_rect s size column row level) y x → ⊥
  not_in level y x before there = absurd (omega (arith, before, number_of level y x there))

  looked_at : (b : BandStack) → AreTaken s size n b → (y x : ℕ) → IsInRect (level_rect s size column row 0) y x → (j i : ℕ) → j ≤ y → i ≤ x → (IsInRect (level_rect s size column row 0) j i → ⊥) → Within (reach j i) (at (band_of b 0 0) j i)
  looked_at b taken y x there j i down across out =
      let right = end_inside (band 0).w s.slices_x column (column_in s n lt) in
      let bottom = end_inside (band 0).h s.slices_y row (row_in s n lt) in
      let y_in : y < (band 0).h = omega (arith, there.bottom, bottom) in
      let x_in : x < (band 0).w = omega (arith, there.right, right) in
      let rises = holder-rises s (band 0) j i y x (omega (arith, x_in)) (omega (arith, y_in)) down across in
      elim (cases_lt (holder s (band 0) j i) n) [
        | inl before ↦ taken.lowest j i (omega (arith, y_in)) (omega (arith, x_in)) before
        | inr here ↦ absurd (out (in_rect 0 j i (omega (arith, y_in)) (omega (arith, x_in)) (omega (arith, rises, here, number_of 0 y x there))))
      ]

  pub ready : (b : BandStack) → AreTaken s size n b → IsReady s size column row b
  ready b taken = record {
    depth = taken.depth;
    sizes = taken.sizes;
    outside = λ y x there. record {
      left = λ some. looked_at b taken y x there y (x - 1) (omega arith) (omega arith);
      above = λ some. looked_at b taken y x there (y - 1) x (omega arith) (omega arith);
      corner = λ some_y some_x. looked_at b taken y x there (y - 1) (x - 1) (omega arith) (omega arith);
    };
  }

  -- the slice's own places have any values
  pub taken_same : (old new : BandStack) → AreTaken s size n old → KeepsOthers s size column row old new → AreTaken s size n new
  taken_same old new taken keeps = record {
    depth = keeps.same_depth ∙ taken.depth;
    sizes = sizes_after s size column row old new keeps (padded_length s.depth size.w) (padded_length s.depth size.h) taken.depth taken.sizes;
    lowest = λ y x y_in x_in before. subst (λ v. Within (reach y x) v) (sym ((keeps.bands 0 0 (inl (refl, refl))).outside y x (not_in 0 y x before))) (taken.lowest y x y_in x_in before);
    upper = λ level orient y x is some y_in x_in before. subst (λ v. Within (2 ^ 36) v) (sym ((keeps.bands level orient is).outside y x (not_in level y x before))) (taken.upper level orient y x is some y_in x_in before);
  }

  -- the slice is one of those that were taken
  pub taken_more : (old new : BandStack) (each from : ℕ) (values : List ℤ) → AreTaken s size n old → KeepsOthers s size column row old new → HoldsSlice each from s size column row values new → are_small values ≡ true → AreTaken s size (n + 1) new
  taken_more old new each from values taken keeps holds small =
      let same = taken_same old new taken keeps in
      record {
        depth = same.depth;
        sizes = same.sizes;
        lowest = λ y x y_in x_in below. elim (cases_lt (holder s (band 0) y x) n) [
          | inl before ↦ same.lowest y x y_in x_in before
          | inr here ↦ holds.small y x (in_rect 0 y x y_in x_in (omega (arith, here, below)))
        ];
        upper = λ level orient y x is some y_in x_in below. elim (cases_lt (holder s (band level) y x) n) [
          | inl before ↦ same.upper level orient y x is some y_in x_in before
          | inr here ↦
              let k = each * place_number s size column row level orient y x + from in
              subst (λ v. Within (2 ^ 36) v) (sym (holds.dequantised level orient y x is some (in_rect level y x y_in x_in (omega (arith, here, below)))))
              (within_abs (slice_index_or values k (pos 0)) (2 ^ 36) (are_small-at values k small))
        ];
      }

-- what decoding leaves is what taking a slice says
takes : (f : Frame) (p : Params) (c : Component) (sx sy : ℕ) (bytes : List ℕ) (old new : BandStack) (each from : ℕ) (values : List ℤ)
    → ((level orient y x : ℕ) → slice_value f p c sx sy bytes level orient y x ≡ slice_index_or values (each * place_number p.slicing (size_of f c) sx sy level orient y x + from) (pos 0))
    → HoldsSlice each from p.slicing (size_of f c) sx sy values new → KeepsOthers p.slicing (size_of f c) sx sy old new → TakesSlice f p c sx sy bytes old new
takes f p c sx sy bytes old new each from values same holds keeps = record {
  lowest = λ y x there. holds.restored y x there ∙ ap (λ v. v +ℤ prediction (at (band_of new 0 0)) y x) (sym (same 0 0 y x));
  upper = λ level orient y x is some there. holds.dequantised level orient y x is some there ∙ sym (same level orient y x);
  lowest_stays = λ y x out. (keeps.bands 0 0 (inl (refl, refl))).outside y x out;
  upper_stays = λ level orient y x is some out. (keeps.bands level orient is).outside y x out;
}

module _ (f : Frame) (p : Params) (sx sy : ℕ) (bytes : List ℕ) (old new : BandStack) where
  pub takes_luma : HoldsSlice 1 0 p.slicing f.luma sx sy (luma_values p.slicing f.luma sx sy p.matrix (slice_at p.slicing f.luma f.colour sx sy bytes)) new → KeepsOthers p.slicing f.luma sx sy old new → TakesSlice f p Luma sx sy bytes old new
  takes_luma holds keeps =
      let values = luma_values p.slicing f.luma sx sy p.matrix (slice_at p.slicing f.luma f.colour sx sy bytes) in
      takes f p Luma sx sy bytes old new 1 0 values (λ level orient y x. ap (λ k. slice_index_or values k (pos 0)) (omega arith)) holds keeps

  pub takes_c1 : HoldsSlice 2 0 p.slicing f.colour sx sy (colour_values p.slicing f.colour sx sy p.matrix (slice_at p.slicing f.luma f.colour sx sy bytes)) new → KeepsOthers p.slicing f.colour sx sy old new → TakesSlice f p C1 sx sy bytes old new
  takes_c1 holds keeps =
      let values = colour_values p.slicing f.colour sx sy p.matrix (slice_at p.slicing f.luma f.colour sx sy bytes) in
      takes f p C1 sx sy bytes old new 2 0 values (λ level orient y x. ap (λ k. slice_index_or values k (pos 0)) (omega arith)) holds keeps

  pub takes_c2 : HoldsSlice 2 1 p.slicing f.colour sx sy (colour_values p.slicing f.colour sx sy p.matrix (slice_at p.slicing f.luma f.colour sx sy bytes)) new → KeepsOthers p.slicing f.colour sx sy old new → TakesSlice f p C2 sx sy bytes old new
  takes_c2 holds keeps =
      let values = colour_values p.slicing f.colour sx sy p.matrix (slice_at p.slicing f.luma f.colour sx sy bytes) in
      takes f p C2 sx sy bytes old new 2 1 values (λ level orient y x. refl) holds keeps

-- ---- all three components

module _ (s : Slicing) (shape : PictureShape) (n : ℕ) (lt : n < slice_count s) (allowed : AreSlicesAllowed s) where
  pub all_ready : (bands : Trio) → AllTaken s shape n bands → AreReady s shape (n % s.slices_x) (n / s.slices_x) bands
  all_ready bands taken = record {
    luma = ready s shape.luma n lt allowed bands.luma taken.luma;
    c1 = ready s shape.colour n lt allowed bands.c1 taken.c1;
    c2 = ready s shape.colour n lt allowed bands.c2 taken.c2;
  }

  pub all_same : (old new : Trio) → AllTaken s shape n old → AllKeepOthers s shape (n % s.slices_x) (n / s.slices_x) old new → AllTaken s shape n new
  all_same old new taken keeps = record {
    luma = taken_same s shape.luma n lt allowed old.luma new.luma taken.luma keeps.luma;
    c1 = taken_same s shape.colour n lt allowed old.c1 new.c1 taken.c1 keeps.c1;
    c2 = taken_same s shape.colour n lt allowed old.c2 new.c2 taken.c2 keeps.c2;
    few = taken.few;
  }

  pub all_more : (matrix : Weights) (slice : Slice) (head : SliceHead) (old new : Trio) → AllTaken s shape n old → AllKeepOthers s shape (n % s.slices_x) (n / s.slices_x) old new
      → IsDecoded s shape (n % s.slices_x) (n / s.slices_x) matrix slice head new → AllTaken s shape (n + 1) new
  all_more matrix slice head old new taken keeps decoded =
      let lumas = luma_values s shape.luma (n % s.slices_x) (n / s.slices_x) matrix slice in
      let colours = colour_values s shape.colour (n % s.slices_x) (n / s.slices_x) matrix slice in
      let luma_small = and-left (are_small lumas) (are_small colours) decoded.small in
      let colour_small = and-right (are_small lumas) (are_small colours) decoded.small in
      record {
        luma = taken_more s shape.luma n lt allowed old.luma new.luma 1 0 lumas taken.luma keeps.luma decoded.luma luma_small;
        c1 = taken_more s shape.colour n lt allowed old.c1 new.c1 2 0 colours taken.c1 keeps.c1 decoded.c1 colour_small;
        c2 = taken_more s shape.colour n lt allowed old.c2 new.c2 2 1 colours taken.c2 keeps.c2 decoded.c2 colour_small;
        few = omega (arith, lt);
      }

-- each component takes its part of the slice
pub takes_each : (shape : PictureShape) (p : Params) (sx sy : ℕ) (bytes : List ℕ) (head : SliceHead) (old new : Trio) → AllKeepOthers p.slicing shape sx sy old new
    → IsDecoded p.slicing shape sx sy p.matrix (slice_at p.slicing shape.luma shape.colour sx sy bytes) head new
    → (c : Component) → TakesSlice (frame_of shape) p c sx sy bytes (stack_of old c) (stack_of new c)
takes_each shape p sx sy bytes head old new keeps decoded Luma = takes_luma (frame_of shape) p sx sy bytes old.luma new.luma decoded.luma keeps.luma
takes_each shape p sx sy bytes head old new keeps decoded C1 = takes_c1 (frame_of shape) p sx sy bytes old.c1 new.c1 decoded.c1 keeps.c1
takes_each shape p sx sy bytes head old new keeps decoded C2 = takes_c2 (frame_of shape) p sx sy bytes old.c2 new.c2 decoded.c2 keeps.c2
