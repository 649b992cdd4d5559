-- A decoder gets back what was written of a picture.
use Rattle.std.proofs.Common.{◌≡◌, ◌∙◌, sym, ap, subst, refl, ℕ, ◌+◌, ◌*◌, ◌^◌, ◌<◌, ◌≤◌, Bool, true, false, List, [], get_or, take, cond, eqb, arith, inl, ℤ, pos, ◌-ℤ◌}
use Rattle.std.specs.Prelude.{unsigned_abs}
use Rattle.std.specs.List.{All}
use Rattle.std.proofs.lemmas.List.{get_or-take}
use Rattle.std.proofs.lemmas.List.Elements.{All-map, All-take, All-weaker}
use Rattle.planes.specs.Rect.{IsInRect}
use Rattle.planes.specs.Subbands.{BandExists}
use Rattle.bounded_blocks.specs.Writing.{need}
use Rattle.dc_prediction.specs.Prediction.{prediction}
use Rattle.quant_factors.specs.Factors.{inverse_of}
use Rattle.quant_factors.specs.Weights.{band_quantiser}
use Rattle.lifting.specs.declared.Wavelet.{Wavelet}
use Rattle.slice_geometry.specs.declared.Component.TheVariants.{Luma, C1, C2}
use Rattle.slice_geometry.specs.Slicing.{IsAllowed, slice_number}
use Rattle.slice_geometry.specs.Geometry.{band_size}
use Rattle.slice_geometry.specs.SliceOrder.{level_rect, place_count, place_number}
use Rattle.slice_geometry.proofs.Places.{held}
use Rattle.slice_decoder.specs.Slice.{Slice, slice_of, slice_at, quantisers, dequantised}
use Rattle.slice_encoder.specs.Order.{Place, places_of}
use Rattle.slice_encoder.specs.Trials as trials
use Rattle.slice_encoder.specs.Trials.{CodedComponent, CodedPicture, luma_of, c1_of, c2_of, Lists, lists, restored_after, value_of}
use Rattle.slice_encoder.specs.TrialLaws.{IsIndex, AreSmallValues, AreCoefficients, most_coefficient}
use Rattle.slice_encoder.specs.Ready.{AreGiven}
use Rattle.slice_encoder.proofs.Near.{stays_near, within_abs, index_most}
use Rattle.slice_encoder.proofs.Coarsest.{places_exist}
use Rattle.slice_encoder.proofs.PlaceByPlace.{forward_small}
use Rattle.slice_encoder.proofs.Tried.{coefficient_most}
use Rattle.slice_encoder.proofs.WholeTrial.{length_luma, length_colour, colour_small}
use Rattle.picture_codec.specs.Pictures.{slice_value, coefficient}
use Rattle.picture_codec.specs.Written.{IsWritten, AreWritten, coded_params, WrittenIsRestored}
use Rattle.picture_codec.proofs.ReadBack.{written_is_read}
use Rattle.picture_codec.proofs.WrittenValues.{place, value_once, value_first, value_second}
use Rattle.picture_codec.proofs.WrittenBands.{AreDequantised, higher_is, higher_lossless, lowest_is, lowest_lossless}

-- ---- what is written is small

chosen : (P : ℤ → Type 0) (b : Bool) (x y : ℤ) → P x → P y → P (cond b x y)
chosen P true x y h k = h
chosen P false x y h k = k

module _ (c : CodedComponent) (d : ℕ) (indices : List ℕ) (index : ℕ) (le : index ≤ 127) (all : All IsIndex indices) (shallow : c.slicing.depth ≤ 4) (few : d ≤ 16) (small : AreCoefficients d c) where
  value_small : (p : Place) → BandExists c.slicing.depth p.level p.orient → unsigned_abs (value_of c (restored_after c indices) index p) ≤ 2 ^ 36
  value_small p exists =
      let q : ℕ = band_quantiser c.matrix index p.level p.orient in
      let most = coefficient_most c.slicing.depth d shallow few in
      let k = trials.coefficient c 0 0 p.y p.x in
      let r : ℤ = k -ℤ prediction (restored_after c indices) p.y p.x in
      let near = (stays_near c (most_coefficient c.slicing.depth d) indices all (λ y x. small 0 0 y x (inl (refl, refl))) p.y p.x).1 in
      chosen (λ v. unsigned_abs v ≤ 2 ^ 36) (eqb p.level 0) _ _
      (omega (arith, forward_small r q (omega (arith, le)), within_abs (4 * most_coefficient c.slicing.depth d + 2) r near, most))
      (omega (arith, forward_small (trials.coefficient c p.level p.orient p.y p.x) q (omega (arith, le)), within_abs (most_coefficient c.slicing.depth d) _ (small p.level p.orient p.y p.x exists), most))

  pub all_small : (sx sy : ℕ) → All (λ p. unsigned_abs (value_of c (restored_after c indices) index p) ≤ 2 ^ 36) (places_of c.slicing c.size sx sy c.slicing.depth)
  all_small sx sy =
      All-weaker (λ p. BandExists c.slicing.depth p.level p.orient) (λ p. unsigned_abs (value_of c (restored_after c indices) index p) ≤ 2 ^ 36) value_small
      (places_of c.slicing c.size sx sy c.slicing.depth) (places_exist c.slicing c.size sx sy c.slicing.depth c.slicing.depth (omega arith))

-- ---- a slice of a picture

module _ (j : CodedPicture) (indices : List ℕ) (slices : List (List ℕ)) (allowed : IsAllowed j.slicing) (given : AreGiven j) (all : All IsIndex indices) (written : AreWritten j indices slices) where
  module _ (sx sy : ℕ) (across : sx < j.slicing.slices_x) (down : sy < j.slicing.slices_y) where
    abbrev pub n : ℕ
    n = slice_number j.slicing sx sy

    abbrev pub front : List ℕ
    front = take (n + 1) indices

    abbrev pub index : ℕ
    index = get_or indices n 0

    abbrev pub bytes : List ℕ
    bytes = get_or slices n []

    abbrev pub l : Lists
    l = lists j (restored_after (luma_of j) front) (restored_after (c1_of j) front) (restored_after (c2_of j) front) index sx sy

    pub here : IsWritten bytes index l
    here =
        let last : get_or front n 0 ≡ index = get_or-take (n + 1) indices n 0 (omega arith) in
        let own : (i : ℕ) → Lists = λ i. lists j (restored_after (luma_of j) front) (restored_after (c1_of j) front) (restored_after (c2_of j) front) i sx sy in
        subst (λ (i : ℕ). IsWritten bytes index (own i)) last (written sx sy across down)

    pub most : index ≤ 127
    most = index_most indices n all

    pub front_all : All IsIndex front
    front_all = All-take IsIndex (n + 1) indices all

    luma_small : AreSmallValues l.luma
    luma_small =
        All-map (λ v. unsigned_abs v ≤ 2 ^ 36) (value_of (luma_of j) (restored_after (luma_of j) front) index) (places_of j.slicing j.frame.luma sx sy j.slicing.depth)
        (all_small (luma_of j) j.frame.luma_depth front index most front_all allowed.depth given.luma_bits.most given.luma.small sx sy)

    both_small : AreSmallValues l.colour
    both_small =
        colour_small (c1_of j) (c2_of j) (restored_after (c1_of j) front) (restored_after (c2_of j) front) index sx sy
        (all_small (c1_of j) j.frame.colour_depth front index most front_all allowed.depth given.colour_bits.most given.c1.small sx sy)
        (all_small (c2_of j) j.frame.colour_depth front index most front_all allowed.depth given.colour_bits.most given.c2.small sx sy)

    read : Slice
    read = record { qindex = index; luma_bits = need l.luma; too_long = false; luma = l.luma; colour = l.colour }

    -- what a reader makes of it
    pub slice_is : slice_at j.slicing j.frame.luma j.frame.colour sx sy bytes ≡ record { qindex = index; luma_bits = need l.luma; too_long = false; luma = l.luma; colour = l.colour }
    slice_is =
        ap (λ (k : ℕ). slice_of bytes k (place_count j.slicing j.frame.colour sx sy)) (sym (length_luma (luma_of j) (restored_after (luma_of j) front) index sx sy))
        ∙ written_is_read bytes index (place_count j.slicing j.frame.colour sx sy) l here.some most luma_small both_small
        (length_colour (c1_of j) (c2_of j) (restored_after (c1_of j) front) (restored_after (c2_of j) front) index sx sy) here.fit here.bits

    module _ (wavelet : Wavelet) (level orient y x : ℕ) (exists : BandExists j.slicing.depth level orient) where
      luma_is : IsInRect (level_rect j.slicing j.frame.luma sx sy level) y x
          → slice_value j.frame (coded_params wavelet j) Luma sx sy bytes level orient y x
          ≡ inverse_of (value_of (luma_of j) (restored_after (luma_of j) front) index (place level orient y x)) (band_quantiser j.matrix index level orient)
      luma_is inside =
          ap (λ (s : Slice). get_or (dequantised s.luma (quantisers 1 j.slicing j.frame.luma sx sy j.matrix s.qindex j.slicing.depth)) (place_number j.slicing j.frame.luma sx sy level orient y x) (pos 0)) slice_is
          ∙ value_once j.slicing j.frame.luma sx sy level orient y x exists inside j.matrix index (value_of (luma_of j) (restored_after (luma_of j) front) index)

      c1_is : IsInRect (level_rect j.slicing j.frame.colour sx sy level) y x
          → slice_value j.frame (coded_params wavelet j) C1 sx sy bytes level orient y x
          ≡ inverse_of (value_of (c1_of j) (restored_after (c1_of j) front) index (place level orient y x)) (band_quantiser j.matrix index level orient)
      c1_is inside =
          ap (λ (s : Slice). get_or (dequantised s.colour (quantisers 2 j.slicing j.frame.colour sx sy j.matrix s.qindex j.slicing.depth)) (2 * place_number j.slicing j.frame.colour sx sy level orient y x) (pos 0)) slice_is
          ∙ value_first j.slicing j.frame.colour sx sy level orient y x exists inside j.matrix index (value_of (c1_of j) (restored_after (c1_of j) front) index) (value_of (c2_of j) (restored_after (c2_of j) front) index)

      c2_is : IsInRect (level_rect j.slicing j.frame.colour sx sy level) y x
          → slice_value j.frame (coded_params wavelet j) C2 sx sy bytes level orient y x
          ≡ inverse_of (value_of (c2_of j) (restored_after (c2_of j) front) index (place level orient y x)) (band_quantiser j.matrix index level orient)
      c2_is inside =
          ap (λ (s : Slice). get_or (dequantised s.colour (quantisers 2 j.slicing j.frame.colour sx sy j.matrix s.qindex j.slicing.depth)) (2 * place_number j.slicing j.frame.colour sx sy level orient y x + 1) (pos 0)) slice_is
          ∙ value_second j.slicing j.frame.colour sx sy level orient y x exists inside j.matrix index (value_of (c1_of j) (restored_after (c1_of j) front) index) (value_of (c2_of j) (restored_after (c2_of j) front) index)

  -- ---- all slices

  module _ (wavelet : Wavelet) where
    luma_values : AreDequantised (luma_of j) indices (coefficient j.frame (coded_params wavelet j) slices Luma)
    unfolding coefficient
    luma_values level orient y x exists hy hx =
        let place = held j.slicing (band_size j.slicing.depth level j.frame.luma) y x allowed.slices hx hy in
        luma_is _ _ place.across place.down wavelet level orient y x exists place.inside

    c1_values : AreDequantised (c1_of j) indices (coefficient j.frame (coded_params wavelet j) slices C1)
    unfolding coefficient
    c1_values level orient y x exists hy hx =
        let place = held j.slicing (band_size j.slicing.depth level j.frame.colour) y x allowed.slices hx hy in
        c1_is _ _ place.across place.down wavelet level orient y x exists place.inside

    c2_values : AreDequantised (c2_of j) indices (coefficient j.frame (coded_params wavelet j) slices C2)
    unfolding coefficient
    c2_values level orient y x exists hy hx =
        let place = held j.slicing (band_size j.slicing.depth level j.frame.colour) y x allowed.slices hx hy in
        c2_is _ _ place.across place.down wavelet level orient y x exists place.inside

pub written_is_restored : WrittenIsRestored
written_is_restored j indices slices wavelet Luma allowed given all written =
    let values = coefficient j.frame (coded_params wavelet j) slices Luma in
    let are = luma_values j indices slices allowed given all written wavelet in
    record {
      lowest = lowest_is (luma_of j) indices values are;
      others = higher_is (luma_of j) indices values are;
      lowest_lossless = λ y x hy hx none. lowest_lossless (luma_of j) indices values are y x hy hx none;
      others_lossless = higher_lossless (luma_of j) indices values are;
    }
written_is_restored j indices slices wavelet C1 allowed given all written =
    let values = coefficient j.frame (coded_params wavelet j) slices C1 in
    let are = c1_values j indices slices allowed given all written wavelet in
    record {
      lowest = lowest_is (c1_of j) indices values are;
      others = higher_is (c1_of j) indices values are;
      lowest_lossless = λ y x hy hx none. lowest_lossless (c1_of j) indices values are y x hy hx none;
      others_lossless = higher_lossless (c1_of j) indices values are;
    }
written_is_restored j indices slices wavelet C2 allowed given all written =
    let values = coefficient j.frame (coded_params wavelet j) slices C2 in
    let are = c2_values j indices slices allowed given all written wavelet in
    record {
      lowest = lowest_is (c2_of j) indices values are;
      others = higher_is (c2_of j) indices values are;
      lowest_lossless = λ y x hy hx none. lowest_lossless (c2_of j) indices values are y x hy hx none;
      others_lossless = higher_lossless (c2_of j) indices values are;
    }
