-- Sizes of padded components, and what synthesis asks of taken bands.
use Rattle.std.proofs.Common.{◌≡◌, ℕ, zero, suc, ◌+◌, ◌*◌, ◌/◌, ◌%◌, ◌^◌, ◌<◌, ◌≤◌, inl, inr, refl, pos, sym, ap, subst, ◌∙◌, arith}
use Rattle.std.proofs.Math.Nat.{mul_comm}
use Rattle.planes.specs.Raster.{Raster, at}
use Rattle.planes.specs.Subbands.{BandsOf, BandStack, BandExists, band_of, subband_length, HaveSizes}
use Rattle.planes.specs.Bounded.{AreBandsWithin}
use Rattle.dc_prediction.specs.Prediction.{reach}
use Rattle.slice_geometry.specs.declared.Size.{Size}
use Rattle.slice_geometry.specs.declared.Component.{Component}
use Rattle.slice_geometry.specs.declared.Component.TheVariants.{Luma, C1, C2}
use Rattle.slice_geometry.specs.declared.PictureShape.{PictureShape}
use Rattle.slice_geometry.specs.Frames.{frame_of}
use Rattle.slice_geometry.specs.Shape.{IsSize}
use Rattle.slice_geometry.specs.Slicing.{Slicing, AreSlicesAllowed, slice_count}
use Rattle.slice_geometry.specs.Geometry.{padded_length, band_size, holding}
use Rattle.slice_geometry.proofs.Lengths.{padded_most}
use Rattle.slice_geometry.proofs.Places.{holding_below}
use Rattle.lifting.specs.Bands.{coefficients_of, lowest}
use Rattle.lifting.specs.SampleRoom.{HaveRoom, AreSmallIn, AreNarrowIn, synthesis_of}
use Rattle.lifting.specs.Ranges.{GridWithin}
use Rattle.lifting.proofs.Levels as levels
use Rattle.lifting.specs.declared.Wavelet.{Wavelet}
use Rattle.lifting.specs.Transform.{synthesis}
use Rattle.picture_codec.specs.Pictures.{size_of, sample_of}
use Rattle.picture_codec.specs.Samples.{samples_by}
use Rattle.picture_codec.specs.Decoding.{AreTaken, HaveHalfRoom, synthesised}
use Rattle.picture_codec.specs.Taking.{holder}
use Rattle.picture_codec.proofs.Taking.{times-le, times-suc}
use Rattle.planes.proofs.Floors.{wider}

pub padded_whole : (depth length : ℕ) → depth ≤ 4 → padded_length depth length % 2 ^ depth ≡ 0
padded_whole zero length low = omega arith
padded_whole (suc zero) length low = omega arith
padded_whole (suc (suc zero)) length low = omega arith
padded_whole (suc (suc (suc zero))) length low = omega arith
padded_whole (suc (suc (suc (suc zero)))) length low = omega arith
padded_whole (suc (suc (suc (suc (suc depth))))) length low = absurd (omega arith)

pub padded_covers : (depth length : ℕ) → depth ≤ 4 → length ≤ padded_length depth length
padded_covers zero length low = omega arith
padded_covers (suc zero) length low = omega arith
padded_covers (suc (suc zero)) length low = omega arith
padded_covers (suc (suc (suc zero))) length low = omega arith
padded_covers (suc (suc (suc (suc zero)))) length low = omega arith
padded_covers (suc (suc (suc (suc (suc depth))))) length low = absurd (omega arith)

lowest_most : (depth length : ℕ) → depth ≤ 4 → length ≤ 8192 → padded_length depth length / 2 ^ depth ≤ 8192
lowest_most depth length low most = omega (arith, padded_most depth length low most, levels.lowest_fits (padded_length depth length) depth (padded_whole depth length low))

pub holder_below : (s : Slicing) (band : Size) (y x : ℕ) → AreSlicesAllowed s → y < band.h → x < band.w → holder s band y x < slice_count s
holder_below s band y x allowed y_in x_in =
    let down = holding_below band.h s.slices_y y allowed.some_down y_in in
    let across = holding_below band.w s.slices_x x allowed.some_across x_in in
    let sy = holding s.slices_y band.h y in
    omega (arith, down, across, times-le (sy + 1) s.slices_y s.slices_x (omega (arith, down)), times-suc sy s.slices_x, mul_comm s.slices_x s.slices_y)

-- the size of a component of a picture
pub is_size_of : (shape : PictureShape) (c : Component) → IsSize (size_of (frame_of shape) c).w (size_of (frame_of shape) c).h
is_size_of shape Luma = shape.luma_fits
is_size_of shape C1 = shape.colour_fits
is_size_of shape C2 = shape.colour_fits

-- half a component's room serves bands of its sizes
pub half_room : {X : Type 0} (s : Slicing) (size : Size) (b : BandsOf X) → b.depth ≡ s.depth → HaveSizes b (padded_length s.depth size.w) (padded_length s.depth size.h) → s.depth ≤ 4 → IsSize size.w size.h
    → (plane scratch : Raster X) → HaveHalfRoom s size plane scratch → HaveRoom b (padded_length s.depth size.w) (padded_length s.depth size.h) plane scratch
half_room s size b depth sizes low is_size plane scratch room = record {
  some_columns = omega (arith, is_size.some_columns, padded_covers s.depth size.w low);
  some_rows = omega (arith, is_size.some_rows, padded_covers s.depth size.h low);
  low = omega (arith, padded_most s.depth size.h low is_size.height);
  whole_columns = rw depth (padded_whole s.depth size.w low);
  whole_rows = rw depth (padded_whole s.depth size.h low);
  bands = sizes;
  columns = omega (arith, room.columns);
  rows = omega (arith, room.rows);
  scratch_columns = omega (arith, room.scratch_columns);
  scratch_rows = omega (arith, room.scratch_rows);
  three_rows = omega (arith, room.scratch_rows);
}

module _ (s : Slicing) (size : Size) (b : BandStack) (n : ℕ) (taken : AreTaken s size n b) (low : s.depth ≤ 4) (is_size : IsSize size.w size.h) where
  abbrev w : ℕ
  w = padded_length s.depth size.w

  abbrev h : ℕ
  h = padded_length s.depth size.h

  whole_columns : w % 2 ^ b.depth ≡ 0
  whole_columns = rw taken.depth (padded_whole s.depth size.w low)

  whole_rows : h % 2 ^ b.depth ≡ 0
  whole_rows = rw taken.depth (padded_whole s.depth size.h low)

  -- bands of slices that were all taken
  module _ (all : n ≡ slice_count s) (allowed : AreSlicesAllowed s) where
    lowest_rows : lowest b.depth h ≡ lowest s.depth h
    lowest_rows = ap (λ (d : ℕ). h / 2 ^ d) taken.depth

    lowest_columns : lowest b.depth w ≡ lowest s.depth w
    lowest_columns = ap (λ (d : ℕ). w / 2 ^ d) taken.depth

    is_next : (m : ℕ) → m + 1 ≡ suc m
    is_next m = omega arith

    level_rows : (m : ℕ) → m < s.depth → lowest b.depth h * 2 ^ m ≡ (band_size s.depth (suc m) size).h
    level_rows m lt =
        ap (λ (v : ℕ). v * 2 ^ m) lowest_rows ∙ sym (levels.band_size h s.depth (padded_whole s.depth size.h low) m lt)
        ∙ ap (λ (l : ℕ). subband_length s.depth l h) (is_next m)

    level_columns : (m : ℕ) → m < s.depth → lowest b.depth w * 2 ^ m ≡ (band_size s.depth (suc m) size).w
    level_columns m lt =
        ap (λ (v : ℕ). v * 2 ^ m) lowest_columns ∙ sym (levels.band_size w s.depth (padded_whole s.depth size.w low) m lt)
        ∙ ap (λ (l : ℕ). subband_length s.depth l w) (is_next m)

    upper : (m orient : ℕ) → m < b.depth → 1 ≤ orient → orient ≤ 3
        → GridWithin (lowest b.depth h * 2 ^ m) (lowest b.depth w * 2 ^ m) (2 ^ 36) (at (band_of b (suc m) orient))
    upper m orient lt some few y x ly lx =
        let below : m < s.depth = omega (arith, taken.depth) in
        let y_in : y < (band_size s.depth (suc m) size).h = subst (λ v. y < v) (level_rows m below) ly in
        let x_in : x < (band_size s.depth (suc m) size).w = subst (λ v. x < v) (level_columns m below) lx in
        taken.upper (suc m) orient y x (inr (omega arith, omega arith, some, few)) (omega arith) y_in x_in
        (subst (λ v. holder s (band_size s.depth (suc m) size) y x < v) (sym all) (holder_below s (band_size s.depth (suc m) size) y x allowed y_in x_in))

    pub small_in : AreSmallIn b w h
    small_in = record {
      ll = λ y x ly lx.
          let y_in : y < (band_size s.depth 0 size).h = subst (λ v. y < v) lowest_rows ly in
          let x_in : x < (band_size s.depth 0 size).w = subst (λ v. x < v) lowest_columns lx in
          wider (reach y x) (2 ^ 50) (at (band_of b 0 0) y x)
          (omega (arith, y_in, x_in, lowest_most s.depth size.h low is_size.height, lowest_most s.depth size.w low is_size.width))
          (taken.lowest y x y_in x_in
          (subst (λ v. holder s (band_size s.depth 0 size) y x < v) (sym all) (holder_below s (band_size s.depth 0 size) y x allowed y_in x_in)));
      hl = λ m lt. upper m 1 lt (omega arith) (omega arith);
      lh = λ m lt. upper m 2 lt (omega arith) (omega arith);
      hh = λ m lt. upper m 3 lt (omega arith) (omega arith);
    }

  -- bands within 2 ^ 18, at the places of a level
  narrow_band : (level orient : ℕ) → BandExists b.depth level orient → AreBandsWithin (pos (2 ^ 18)) b → GridWithin (subband_length b.depth level h) (subband_length b.depth level w) (2 ^ 18) (at (band_of b level orient))
  narrow_band level orient exists within y x ly lx =
      let p = within level orient exists y x (subst (λ v. y < v) (sym (taken.sizes.heights level orient exists)) ly) (subst (λ v. x < v) (sym (taken.sizes.widths level orient exists)) lx) in
      record { low = p.low; high = p.high }

  narrow_upper : (m orient : ℕ) → m < b.depth → 1 ≤ orient → orient ≤ 3 → AreBandsWithin (pos (2 ^ 18)) b → GridWithin (lowest b.depth h * 2 ^ m) (lowest b.depth w * 2 ^ m) (2 ^ 18) (at (band_of b (suc m) orient))
  narrow_upper m orient lt some few within =
      let next : m + 1 ≡ suc m = omega arith in
      let rows : subband_length b.depth (suc m) h ≡ lowest b.depth h * 2 ^ m = ap (λ (l : ℕ). subband_length b.depth l h) (sym next) ∙ levels.band_size h b.depth whole_rows m lt in
      let columns : subband_length b.depth (suc m) w ≡ lowest b.depth w * 2 ^ m = ap (λ (l : ℕ). subband_length b.depth l w) (sym next) ∙ levels.band_size w b.depth whole_columns m lt in
      let here = narrow_band (suc m) orient (inr (omega arith, omega arith, some, few)) within in
      λ y x ly lx. here y x (subst (λ v. y < v) (sym rows) ly) (subst (λ v. x < v) (sym columns) lx)

  pub narrow_in : AreBandsWithin (pos (2 ^ 18)) b → AreNarrowIn b w h
  narrow_in within = record {
    ll = narrow_band 0 0 (inl (refl, refl)) within;
    hl = λ m lt. narrow_upper m 1 lt (omega arith) (omega arith) within;
    lh = λ m lt. narrow_upper m 2 lt (omega arith) (omega arith) within;
    hh = λ m lt. narrow_upper m 3 lt (omega arith) (omega arith) within;
  }

  pub synthesised_is : (wavelet : Wavelet) (depth : ℕ) → samples_by size (λ y x. sample_of depth (synthesis_of wavelet b w h y x)) ≡ synthesised wavelet size depth b
  unfolding synthesised
  synthesised_is wavelet depth =
      let rows : lowest b.depth h ≡ (band_size b.depth 0 size).h = ap (λ (d : ℕ). padded_length d size.h / 2 ^ b.depth) (sym taken.depth) in
      let columns : lowest b.depth w ≡ (band_size b.depth 0 size).w = ap (λ (d : ℕ). padded_length d size.w / 2 ^ b.depth) (sym taken.depth) in
      ap (λ (m : ℕ). samples_by size (λ y x. sample_of depth (synthesis wavelet m (lowest b.depth w) (coefficients_of b) b.depth y x))) rows
      ∙ ap (λ (m : ℕ). samples_by size (λ y x. sample_of depth (synthesis wavelet (band_size b.depth 0 size).h m (coefficients_of b) b.depth y x))) columns
