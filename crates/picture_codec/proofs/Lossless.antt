-- Pictures whose quantisers are all 0 are given back.
use Rattle.std.proofs.Common.{◌≡◌, ◌∙◌, sym, ap, subst, refl, ℕ, zero, suc, ◌+◌, ◌-◌, ◌*◌, ◌^◌, ◌<◌, ◌≤◌, inl, inr, arith, pos}
use Rattle.std.specs.Prelude.{◌-ℤ◌, ◌+ℤ◌, neg_ℤ, unsigned_abs, min}
use Rattle.std.specs.Int.{int_min, int_max}
use Rattle.std.proofs.lemmas.Int.{ints, int_max_is, int_min_is}
use Rattle.std.proofs.Math.Nat.{pow-suc}
use Rattle.planes.specs.Raster.{Grid, at}
use Rattle.planes.specs.Subbands.{BandExists, band_of}
use Rattle.slice_geometry.specs.declared.Size.{Size}
use Rattle.slice_geometry.specs.declared.Component.{Component}
use Rattle.slice_geometry.specs.declared.Component.TheVariants.{Luma, C1, C2}
use Rattle.slice_geometry.specs.declared.PictureShape.{PictureShape}
use Rattle.slice_geometry.specs.Slicing.{slice_count, slice_number}
use Rattle.slice_geometry.specs.Geometry.{band_size, holding}
use Rattle.lifting.specs.Transform.{Coefficients, synthesis, analysis}
use Rattle.lifting.specs.Ranges.{SameBands}
use Rattle.lifting.proofs.Inside.{synthesis_same}
use Rattle.lifting.proofs.Undone.{synthesis_undoes}
use Rattle.transform_params.specs.Params.{Params}
use Rattle.transform_params.specs.ParameterFields.{AreLawfulParams}
use Rattle.slice_encoder.specs.Chosen.{chosen, written_slices}
use Rattle.slice_encoder.specs.Trials.{CodedPicture}
use Rattle.picture_codec.specs.Pictures.{size_of, coefficients, sample_of, sample}
use Rattle.slice_geometry.specs.Frames.{frame_of}
use Rattle.picture_codec.specs.Samples.{SamplesSeen, PictureSamples, HaveShape, AreSamples, component_of, sample_at}
use Rattle.picture_codec.specs.Encoding.{centred, bands_from, coded_from, slices_of, IsSteepOkFor}
use Rattle.picture_codec.specs.Written.{RestoresWhatWasWritten}
use Rattle.picture_codec.specs.Lossless.{IsLossless, LosslessIsGivenBack}
use Rattle.picture_codec.proofs.Sizes.{holder_below, padded_covers}
use Rattle.picture_codec.proofs.AnalysedBands.{lowest_at, hl_at, lh_at, hh_at}
use Rattle.picture_codec.proofs.CodedBands as coded
use Rattle.picture_codec.proofs.CodedBands.{coded_is_given}
use Rattle.picture_codec.proofs.ChosenSlices.{chosen_indices}
use Rattle.picture_codec.proofs.WrittenChosen.{chosen_are_written}
use Rattle.picture_codec.proofs.WrittenPictures.{written_is_restored}

-- ---- a sample

offset_back : (h v : ℕ) → v < 2 * h → unsigned_abs (int_max (neg_ℤ (pos h)) (int_min (pos (h - 1)) (pos v -ℤ pos h)) +ℤ pos h) ≡ v
offset_back h v few = omega (arith, ints, few, int_max_is (neg_ℤ (pos h)) (int_min (pos (h - 1)) (pos v -ℤ pos h)), int_min_is (pos (h - 1)) (pos v -ℤ pos h))

sample_back : (d v : ℕ) → 1 ≤ d → v < 2 ^ d → sample_of d (pos v -ℤ pos (2 ^ (d - 1))) ≡ v
sample_back (suc e) v some few =
    let twice : 2 ^ suc e ≡ 2 * 2 ^ e = rw pow-suc (omega arith) in
    let same : suc e - 1 ≡ e = omega arith in
    subst (λ (k : ℕ). unsigned_abs (int_max (neg_ℤ (pos (2 ^ k))) (int_min (pos (2 ^ k - 1)) (pos v -ℤ pos (2 ^ k))) +ℤ pos (2 ^ k)) ≡ v) (sym same) (offset_back (2 ^ e) v (omega (arith, few, twice)))
sample_back zero v some few = absurd (omega arith)

-- ---- a component, where what is decoded of each band is what was analysed

module _ (p : Params) (size : Size) (d : ℕ) (s : SamplesSeen) (low : p.slicing.depth ≤ 4) (some : 1 ≤ d) (are : AreSamples size d s) (c : Coefficients) where
  abbrev depth : ℕ
  depth = p.slicing.depth

  abbrev h : ℕ
  h = (band_size p.slicing.depth 0 size).h

  abbrev w : ℕ
  w = (band_size p.slicing.depth 0 size).w

  abbrev found : Coefficients
  found = analysis p.wavelet (band_size p.slicing.depth 0 size).h (band_size p.slicing.depth 0 size).w p.slicing.depth (centred d size s)

  component_back : SameBands h w depth c found → (y x : ℕ) → y < size.h → x < size.w → sample_of d (synthesis p.wavelet h w c depth y x) ≡ sample_at s y x
  component_back same y x ly lx =
      let v : ℕ = sample_at s y x in
      let high = coded.high p.wavelet depth size d s low some are.small in
      let wide = coded.wide p.wavelet depth size d s low some are.small in
      let again : synthesis p.wavelet h w c depth y x ≡ synthesis p.wavelet h w found depth y x =
      synthesis_same p.wavelet h w depth c found same depth (omega arith) y x (omega (arith, ly, high, padded_covers depth size.h low)) (omega (arith, lx, wide, padded_covers depth size.w low)) in
      let back : synthesis p.wavelet h w found depth y x ≡ centred d size s y x = ap (λ (g : Grid). g y x) (synthesis_undoes p.wavelet h w depth (centred d size s)) in
      let row : min y (size.h - 1) ≡ y = omega (arith, ly) in
      let column : min x (size.w - 1) ≡ x = omega (arith, lx) in
      let here : centred d size s y x ≡ pos v -ℤ pos (2 ^ (d - 1)) = ap (λ (k : ℕ). pos (sample_at s k (min x (size.w - 1))) -ℤ pos (2 ^ (d - 1))) row ∙ ap (λ (k : ℕ). pos (sample_at s y k) -ℤ pos (2 ^ (d - 1))) column in
      ap (sample_of d) (again ∙ back ∙ here) ∙ sample_back d v some (are.small (y * s.w + x))

  bands_back : ((y x : ℕ) → y < h → x < w → c.ll y x ≡ at (band_of (bands_from depth size found) 0 0) y x)
      → ((level y x : ℕ) → BandExists depth level 1 → 1 ≤ level → y < (band_size depth level size).h → x < (band_size depth level size).w → c.hl level y x ≡ at (band_of (bands_from depth size found) level 1) y x)
      → ((level y x : ℕ) → BandExists depth level 2 → 1 ≤ level → y < (band_size depth level size).h → x < (band_size depth level size).w → c.lh level y x ≡ at (band_of (bands_from depth size found) level 2) y x)
      → ((level y x : ℕ) → BandExists depth level 3 → 1 ≤ level → y < (band_size depth level size).h → x < (band_size depth level size).w → c.hh level y x ≡ at (band_of (bands_from depth size found) level 3) y x)
      → SameBands h w depth c found
  bands_back ll hl lh hh =
      let rows = coded.level_rows p.wavelet depth size d s low some are.small in
      let columns = coded.level_columns p.wavelet depth size d s low some are.small in
      record {
        ll = λ y x ly lx. ll y x ly lx ∙ lowest_at depth size found y x ly lx;
        hl = λ n lt y x ly lx. hl (suc n) y x (inr (omega arith, omega (arith, lt), omega arith, omega arith)) (omega arith) (omega (arith, ly, rows n lt)) (omega (arith, lx, columns n lt)) ∙ hl_at depth size found n y x lt (omega (arith, ly, rows n lt)) (omega (arith, lx, columns n lt));
        lh = λ n lt y x ly lx. lh (suc n) y x (inr (omega arith, omega (arith, lt), omega arith, omega arith)) (omega arith) (omega (arith, ly, rows n lt)) (omega (arith, lx, columns n lt)) ∙ lh_at depth size found n y x lt (omega (arith, ly, rows n lt)) (omega (arith, lx, columns n lt));
        hh = λ n lt y x ly lx. hh (suc n) y x (inr (omega arith, omega (arith, lt), omega arith, omega arith)) (omega arith) (omega (arith, ly, rows n lt)) (omega (arith, lx, columns n lt)) ∙ hh_at depth size found n y x lt (omega (arith, ly, rows n lt)) (omega (arith, lx, columns n lt));
      }

-- ---- a picture

module _ (shape : PictureShape) (p : Params) (s : PictureSamples) (f : AreLawfulParams p) (steep : IsSteepOkFor shape p) (have : HaveShape shape s) (none : IsLossless shape p s) where
  abbrev j : CodedPicture
  j = coded_from (frame_of shape) p s

  restores : (c : Component) → RestoresWhatWasWritten (coded_from (frame_of shape) p s) (chosen (coded_from (frame_of shape) p s) (slice_count p.slicing)) (written_slices (coded_from (frame_of shape) p s)) p.wavelet c
  restores c =
      let given = coded_is_given shape p s f have in
      written_is_restored (coded_from (frame_of shape) p s) (chosen (coded_from (frame_of shape) p s) (slice_count p.slicing)) (written_slices (coded_from (frame_of shape) p s)) p.wavelet c f.allowed given (chosen_indices (coded_from (frame_of shape) p s) (slice_count p.slicing)) (chosen_are_written (coded_from (frame_of shape) p s) f.allowed given steep)

  -- the slice that holds a place of a band
  no_quantiser : (size : Size) (level orient y x : ℕ) → BandExists p.slicing.depth level orient → y < (band_size p.slicing.depth level size).h → x < (band_size p.slicing.depth level size).w
      → (let band = band_size p.slicing.depth level size in
      let n = slice_number p.slicing (holding p.slicing.slices_x band.w x) (holding p.slicing.slices_y band.h y) in n < slice_count p.slicing)
  no_quantiser size level orient y x exists ly lx = holder_below p.slicing (band_size p.slicing.depth level size) y x f.allowed.slices ly lx

  sample_given_back : (c : Component) (y x : ℕ) → y < (size_of (frame_of shape) c).h → x < (size_of (frame_of shape) c).w → sample (frame_of shape) p (slices_of (frame_of shape) p s) c y x ≡ sample_at (component_of s c) y x
  unfolding sample
  sample_given_back Luma y x ly lx =
      let r = restores Luma in
      let c = coefficients (frame_of shape) p (slices_of (frame_of shape) p s) Luma in
      let zero_there = λ (level orient y x : ℕ) (exists : BandExists p.slicing.depth level orient) (ly : y < (band_size p.slicing.depth level shape.luma).h) (lx : x < (band_size p.slicing.depth level shape.luma).w). none _ level orient (no_quantiser shape.luma level orient y x exists ly lx) exists in
      component_back p shape.luma shape.luma_depth s.luma f.allowed.depth shape.luma_depth_fits.some have.luma c
      (bands_back p shape.luma shape.luma_depth s.luma f.allowed.depth shape.luma_depth_fits.some have.luma c
      (λ y x ly lx. r.lowest_lossless y x ly lx (zero_there 0 0 y x (inl (refl, refl)) ly lx))
      (λ level y x exists one ly lx. r.others_lossless level 1 y x exists one ly lx (zero_there level 1 y x exists ly lx))
      (λ level y x exists one ly lx. r.others_lossless level 2 y x exists one ly lx (zero_there level 2 y x exists ly lx))
      (λ level y x exists one ly lx. r.others_lossless level 3 y x exists one ly lx (zero_there level 3 y x exists ly lx))) y x ly lx
  sample_given_back C1 y x ly lx =
      let r = restores C1 in
      let c = coefficients (frame_of shape) p (slices_of (frame_of shape) p s) C1 in
      let zero_there = λ (level orient y x : ℕ) (exists : BandExists p.slicing.depth level orient) (ly : y < (band_size p.slicing.depth level shape.colour).h) (lx : x < (band_size p.slicing.depth level shape.colour).w). none _ level orient (no_quantiser shape.colour level orient y x exists ly lx) exists in
      component_back p shape.colour shape.colour_depth s.c1 f.allowed.depth shape.colour_depth_fits.some have.c1 c
      (bands_back p shape.colour shape.colour_depth s.c1 f.allowed.depth shape.colour_depth_fits.some have.c1 c
      (λ y x ly lx. r.lowest_lossless y x ly lx (zero_there 0 0 y x (inl (refl, refl)) ly lx))
      (λ level y x exists one ly lx. r.others_lossless level 1 y x exists one ly lx (zero_there level 1 y x exists ly lx))
      (λ level y x exists one ly lx. r.others_lossless level 2 y x exists one ly lx (zero_there level 2 y x exists ly lx))
      (λ level y x exists one ly lx. r.others_lossless level 3 y x exists one ly lx (zero_there level 3 y x exists ly lx))) y x ly lx
  sample_given_back C2 y x ly lx =
      let r = restores C2 in
      let c = coefficients (frame_of shape) p (slices_of (frame_of shape) p s) C2 in
      let zero_there = λ (level orient y x : ℕ) (exists : BandExists p.slicing.depth level orient) (ly : y < (band_size p.slicing.depth level shape.colour).h) (lx : x < (band_size p.slicing.depth level shape.colour).w). none _ level orient (no_quantiser shape.colour level orient y x exists ly lx) exists in
      component_back p shape.colour shape.colour_depth s.c2 f.allowed.depth shape.colour_depth_fits.some have.c2 c
      (bands_back p shape.colour shape.colour_depth s.c2 f.allowed.depth shape.colour_depth_fits.some have.c2 c
      (λ y x ly lx. r.lowest_lossless y x ly lx (zero_there 0 0 y x (inl (refl, refl)) ly lx))
      (λ level y x exists one ly lx. r.others_lossless level 1 y x exists one ly lx (zero_there level 1 y x exists ly lx))
      (λ level y x exists one ly lx. r.others_lossless level 2 y x exists one ly lx (zero_there level 2 y x exists ly lx))
      (λ level y x exists one ly lx. r.others_lossless level 3 y x exists one ly lx (zero_there level 3 y x exists ly lx))) y x ly lx

pub given_back : LosslessIsGivenBack
given_back shape p s f steep have none c y x ly lx = sample_given_back shape p s f steep have none c y x ly lx
