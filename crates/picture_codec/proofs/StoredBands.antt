-- A store holds what analysis finds, and a slice that is taken from it the slice's coefficients.
use Rattle.std.proofs.Common.{◌≡◌, ◌∙◌, ℕ, ◌^◌, ◌<◌, ◌≤◌, List, ℤ, pos, get_or, refl, subst, sym, arith}
use Rattle.planes.specs.Numbers.{Within}
use Rattle.planes.specs.Raster.{height, at}
use Rattle.planes.specs.Subbands.{BandExists, band_of, HaveSizes}
use Rattle.planes.specs.Subbands.{BandStack}
use Rattle.slice_geometry.specs.declared.Size.{Size}
use Rattle.slice_geometry.specs.Slicing.{Slicing}
use Rattle.slice_geometry.specs.Geometry.{padded_length, band_size}
use Rattle.slice_store.specs.Store.{Store}
use Rattle.slice_store.specs.Stack as store
use Rattle.slice_store.specs.Stack.{stack_of}
use Rattle.slice_store.proofs.Stacked.{width_shown, height_shown, row_shown, sizes_shown}
use Rattle.lifting.specs.declared.Wavelet.{Wavelet}
use Rattle.lifting.specs.Transform.{analysis}
use Rattle.lifting.specs.RowAnalysis.{RowAnalysisSeen, IsAnalysisOf, IsSameAnalysis, HoldAnalysisIn}
use Rattle.slice_encoder.specs.SliceLists.{HoldsSlice}
use Rattle.slice_encoder.specs.TrialLaws.{most_coefficient}
use Rattle.picture_codec.specs.Samples.{SamplesSeen}
use Rattle.picture_codec.specs.Encoding.{centred, analysed_bands}
use Rattle.picture_codec.specs.EncoderInside.{AreWhole, HoldBands, HoldAnalysed}
use Rattle.picture_codec.proofs.AnalysedBands.{each_holds, outside_within}
use Rattle.picture_codec.proofs.CodedBands.{level_rows, level_columns, small_there}

-- what a store gives of a slice, in the slice encoder's words
pub slice_of_store : (t : Store ℤ) (s : Slicing) (size : Size) (sx sy : ℕ) (list : List ℤ) → t.slicing ≡ s → t.size ≡ size
    → store.HoldsSlice (λ v. v) (pos 0) t.slicing t.size (stack_of (λ v. v) (pos 0) t) sx sy list → HoldsSlice s size (stack_of (λ v. v) (pos 0) t) sx sy list
slice_of_store t s size sx sy list slicing same_size holds =
    subst (λ (z : Size). HoldsSlice s z (stack_of (λ v. v) (pos 0) t) sx sy list) same_size
    (subst (λ (c : Slicing). HoldsSlice c t.size (stack_of (λ v. v) (pos 0) t) sx sy list) slicing (record { count = holds.count; each = holds.each }))

-- ---- the bands of a store

pub stored_sizes : (t : Store ℤ) (s : Slicing) (size : Size) (w h : ℕ) → t.slicing ≡ s → t.size ≡ size → w ≡ padded_length s.depth size.w → h ≡ padded_length s.depth size.h
    → HaveSizes (stack_of (λ v. v) (pos 0) t) w h
stored_sizes t s size w h slicing same_size wide high =
    subst (λ (n : ℕ). HaveSizes (stack_of (λ v. v) (pos 0) t) n h) (sym wide)
    (subst (λ (n : ℕ). HaveSizes (stack_of (λ v. v) (pos 0) t) (padded_length s.depth size.w) n) (sym high)
    (subst (λ (z : Size). HaveSizes (stack_of (λ v. v) (pos 0) t) (padded_length s.depth z.w) (padded_length s.depth z.h)) same_size
    (subst (λ (c : Slicing). HaveSizes (stack_of (λ v. v) (pos 0) t) (padded_length c.depth t.size.w) (padded_length c.depth t.size.h)) slicing (sizes_shown (λ v. v) (pos 0) t))))

-- an analysis stays one of its component
pub analysis_stays : {X : Type 0} (k : Wavelet) (depth w h : ℕ) (old new : RowAnalysisSeen X) → IsAnalysisOf k depth w h old → IsSameAnalysis old new → IsAnalysisOf k depth w h new
analysis_stays k depth w h old new is same = record {
  wavelet = same.wavelet ∙ is.wavelet;
  count = same.count ∙ is.count;
  columns = same.columns ∙ is.columns;
  rows = same.rows ∙ is.rows;
}

pub store_whole : (t : Store ℤ) → AreWhole (stack_of (λ v. v) (pos 0) t)
store_whole t level orient exists y below =
    row_shown (λ v. v) (pos 0) t level orient y exists (omega (arith, below, height_shown (λ v. v) (pos 0) t level orient exists))
    ∙ sym (width_shown (λ v. v) (pos 0) t level orient exists)

module _ (k : Wavelet) (d : ℕ) (samples : SamplesSeen) (t : Store ℤ) (low : t.slicing.depth ≤ 4) (some : 1 ≤ d) (small : (i : ℕ) → get_or samples.cells i 0 < 2 ^ d)
    (held : HoldAnalysisIn k (stack_of (λ v. v) (pos 0) t) (padded_length t.slicing.depth t.size.w) (padded_length t.slicing.depth t.size.h) (centred d t.size samples)) where
  depth : ℕ
  depth = t.slicing.depth

  values : HoldBands t.slicing t.size (stack_of (λ v. v) (pos 0) t) (analysed_bands k t.slicing.depth t.size d samples)
  values level orient y x exists ly lx =
      each_holds t.slicing.depth t.size (analysis k (band_size t.slicing.depth 0 t.size).h (band_size t.slicing.depth 0 t.size).w t.slicing.depth (centred d t.size samples))
      (stack_of (λ v. v) (pos 0) t) held
      (level_rows k t.slicing.depth t.size d samples low some small) (level_columns k t.slicing.depth t.size d samples low some small) level orient exists y x ly lx

  within : (level orient y x : ℕ) → BandExists t.slicing.depth level orient → Within (most_coefficient t.slicing.depth d) (at (band_of (stack_of (λ v. v) (pos 0) t) level orient) y x)
  within level orient y x exists =
      outside_within (most_coefficient t.slicing.depth d) (band_of (stack_of (λ v. v) (pos 0) t) level orient) (store_whole t level orient exists)
      (λ j i lj li.
      let there = values level orient j i exists (omega (arith, lj, height_shown (λ v. v) (pos 0) t level orient exists)) (omega (arith, li, width_shown (λ v. v) (pos 0) t level orient exists)) in
      rw there (small_there k t.slicing.depth t.size d samples low some small level orient j i exists)) y x

  pub store_analysed : HoldAnalysed k t.slicing t.size d samples (stack_of (λ v. v) (pos 0) t)
  store_analysed = record {
    sizes = record { depth = refl; sizes = sizes_shown (λ v. v) (pos 0) t };
    values = values;
    small = within;
  }

-- the same, where the store is cut for a picture
pub lines_analysed : (k : Wavelet) (d : ℕ) (samples : SamplesSeen) (t : Store ℤ) (s : Slicing) (size : Size) → t.slicing ≡ s → t.size ≡ size → s.depth ≤ 4 → 1 ≤ d → ((i : ℕ) → get_or samples.cells i 0 < 2 ^ d)
    → HoldAnalysisIn k (stack_of (λ v. v) (pos 0) t) (padded_length s.depth size.w) (padded_length s.depth size.h) (centred d size samples)
    → HoldAnalysed k s size d samples (stack_of (λ v. v) (pos 0) t)
lines_analysed k d samples t s size slicing same_size low some small held =
    let own : HoldAnalysisIn k (stack_of (λ v. v) (pos 0) t) (padded_length t.slicing.depth t.size.w) (padded_length t.slicing.depth t.size.h) (centred d t.size samples) =
    subst (λ (c : Slicing). HoldAnalysisIn k (stack_of (λ v. v) (pos 0) t) (padded_length c.depth t.size.w) (padded_length c.depth t.size.h) (centred d t.size samples)) (sym slicing)
    (subst (λ (z : Size). HoldAnalysisIn k (stack_of (λ v. v) (pos 0) t) (padded_length s.depth z.w) (padded_length s.depth z.h) (centred d z samples)) (sym same_size) held) in
    let few : t.slicing.depth ≤ 4 = subst (λ (c : Slicing). c.depth ≤ 4) (sym slicing) low in
    subst (λ (z : Size). HoldAnalysed k s z d samples (stack_of (λ v. v) (pos 0) t)) same_size
    (subst (λ (c : Slicing). HoldAnalysed k c t.size d samples (stack_of (λ v. v) (pos 0) t)) slicing (store_analysed k d samples t few some small own))
