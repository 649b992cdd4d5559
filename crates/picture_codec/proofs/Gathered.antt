-- Bands that show the same in another form.
use Rattle.std.proofs.Common.{◌≡◌, ℕ, ◌+◌, ◌-◌, ◌*◌, Result, Ok, Err, inl, refl, sym, ap, subst, ◌∙◌, List, ℤ, ◌+ℤ◌, pos, Bool, true, false}
use Rattle.std.specs.Prelude.{if◌then◌else◌, slice_index_or, ⊤, Option, None, Some, MatchOption, MatchResult}
use Rattle.planes.specs.Numbers.{Within}
use Rattle.planes.specs.Raster.{Raster, height, at}
use Rattle.planes.specs.Subbands.{BandStack, BandExists, band_of, AreZeroBands, AgreeInSizes}
use Rattle.planes.specs.declared.Trio.{Trio}
use Rattle.planes.specs.declared.NarrowTrio.{NarrowTrio}
use Rattle.dc_prediction.specs.Prediction.{reach}
use Rattle.dc_prediction.proofs.PredictionLemmas.{prediction_same}
use Rattle.slice_geometry.specs.declared.Size.{Size}
use Rattle.slice_geometry.specs.declared.PictureShape.{PictureShape}
use Rattle.slice_geometry.specs.declared.SliceHead.{SliceHead}
use Rattle.slice_geometry.specs.Slicing.{Slicing}
use Rattle.slice_geometry.specs.SliceOrder.{place_number}
use Rattle.quant_factors.specs.Weights.{Weights}
use Rattle.slice_store.specs.declared.short_bands.ShortTrio.{ShortTrio}
use Rattle.slice_store.specs.Gathered.{ShowTheSame}
use Rattle.slice_decoder.specs.Slice.{Slice}
use Rattle.slice_decoder.specs.declared.SliceFault.{SliceFault}
use Rattle.slice_decoder.specs.Decoded.{AreReady, HoldsSlice, KeepsOthers, AllKeepOthers, IsDecoded, IsRefused}
use Rattle.slice_decoder.specs.Short.{shown_trio}
use Rattle.slice_decoder.specs.Narrow.{trio_of}
use Rattle.picture_codec.proofs.BothWidths.{narrow_agree}
use Rattle.picture_codec.specs.DecodedBands.{AllAgree, narrow_of}
use Rattle.picture_codec.specs.ShortSlices.{AllShowTheSame, AreBeside}

-- ---- one component

pub same-refl : (a : BandStack) → ShowTheSame a a
same-refl a = record { same_depth = refl; widths = λ level orient e. refl; heights = λ level orient e. refl; places = λ level orient y x e. refl }

pub same-sym : (a b : BandStack) → ShowTheSame a b → ShowTheSame b a
same-sym a b same =
    let E : (level orient : ℕ) → BandExists b.depth level orient → BandExists a.depth level orient = λ level orient e. subst (λ (d : ℕ). BandExists d level orient) same.same_depth e in
    record {
      same_depth = sym same.same_depth;
      widths = λ level orient e. sym (same.widths level orient (E level orient e));
      heights = λ level orient e. sym (same.heights level orient (E level orient e));
      places = λ level orient y x e. sym (same.places level orient y x (E level orient e));
    }

pub same-zeros : (a b : BandStack) (depth w h : ℕ) → AreZeroBands a depth w h → AreZeroBands b depth w h → ShowTheSame a b
same-zeros a b depth w h za zb = record {
  same_depth = zb.same_depth ∙ sym za.same_depth;
  widths = λ level orient e. ap (λ (p : Raster ℤ). p.w) (is level orient e);
  heights = λ level orient e. ap (λ (p : Raster ℤ). height p) (is level orient e);
  places = λ level orient y x e. ap (λ (p : Raster ℤ). at p y x) (is level orient e);
}
  where
    is : (level orient : ℕ) → BandExists a.depth level orient → band_of b level orient ≡ band_of a level orient
    is level orient e =
        let there : BandExists depth level orient = (let E : ℕ → Type 0 = λ d. BandExists d level orient in subst E za.same_depth e) in
        zb.each level orient there ∙ sym (za.each level orient there)

pub same-sizes : (a b c : BandStack) → ShowTheSame a b → AgreeInSizes a c → AgreeInSizes b c
same-sizes a b c same agree =
    let E : (level orient : ℕ) → BandExists b.depth level orient → BandExists a.depth level orient = λ level orient e. subst (λ (d : ℕ). BandExists d level orient) same.same_depth e in
    record {
      same_depth = same.same_depth ∙ agree.same_depth;
      widths = λ level orient e. same.widths level orient (E level orient e) ∙ agree.widths level orient (E level orient e);
      heights = λ level orient e. same.heights level orient (E level orient e) ∙ agree.heights level orient (E level orient e);
    }

module _ (s : Slicing) (size : Size) (sx sy : ℕ) (a b : BandStack) (depth : a.depth ≡ s.depth) (same : ShowTheSame a b) where
  there : (level orient : ℕ) → BandExists s.depth level orient → BandExists a.depth level orient
  there level orient e = subst (λ (d : ℕ). BandExists d level orient) (sym depth) e

  pub same-keeps : KeepsOthers s size sx sy a b
  same-keeps = record {
    same_depth = same.same_depth;
    bands = λ level orient e. record {
      same_width = same.widths level orient (there level orient e);
      same_height = same.heights level orient (there level orient e);
      outside = λ y x out. same.places level orient y x (there level orient e);
    };
  }

  pub same-holds : (each from : ℕ) (values : List ℤ) → HoldsSlice each from s size sx sy values a → HoldsSlice each from s size sx sy values b
  same-holds each from values holds =
      let low : (y x : ℕ) → at (band_of b 0 0) y x ≡ at (band_of a 0 0) y x = λ y x. same.places 0 0 y x (there 0 0 (inl (refl, refl))) in
      record {
        restored = λ y x here.
            low y x ∙ holds.restored y x here
            ∙ ap (λ (v : ℤ). slice_index_or values (each * place_number s size sx sy 0 0 y x + from) (pos 0) +ℤ v)
            (prediction_same (at (band_of a 0 0)) (at (band_of b 0 0)) y x (record {
              left = λ some. sym (low y (x - 1));
              above = λ some. sym (low (y - 1) x);
              corner = λ some_y some_x. sym (low (y - 1) (x - 1));
            }));
        small = λ y x here. subst (λ (v : ℤ). Within (reach y x) v) (sym (low y x)) (holds.small y x here);
        dequantised = λ level orient y x e some here. same.places level orient y x (there level orient e) ∙ holds.dequantised level orient y x e some here;
      }

-- ---- all three

pub all-same-refl : (a : Trio) → AllShowTheSame a a
all-same-refl a = record { luma = same-refl a.luma; c1 = same-refl a.c1; c2 = same-refl a.c2 }

pub all-same-sym : (a b : Trio) → AllShowTheSame a b → AllShowTheSame b a
all-same-sym a b same = record { luma = same-sym a.luma b.luma same.luma; c1 = same-sym a.c1 b.c1 same.c1; c2 = same-sym a.c2 b.c2 same.c2 }

module _ (s : Slicing) (shape : PictureShape) (sx sy : ℕ) (a b : Trio) (ready : AreReady s shape sx sy a) (same : AllShowTheSame a b) where
  pub all-same-keep : AllKeepOthers s shape sx sy a b
  all-same-keep = record {
    luma = same-keeps s shape.luma sx sy a.luma b.luma ready.luma.depth same.luma;
    c1 = same-keeps s shape.colour sx sy a.c1 b.c1 ready.c1.depth same.c1;
    c2 = same-keeps s shape.colour sx sy a.c2 b.c2 ready.c2.depth same.c2;
  }

  pub same-decoded : (matrix : Weights) (slice : Slice) (head : SliceHead) → IsDecoded s shape sx sy matrix slice head a → IsDecoded s shape sx sy matrix slice head b
  same-decoded matrix slice head done = record {
    qindex = done.qindex;
    luma_bits = done.luma_bits;
    fits = done.fits;
    small = done.small;
    luma = same-holds s shape.luma sx sy a.luma b.luma ready.luma.depth same.luma 1 0 _ done.luma;
    c1 = same-holds s shape.colour sx sy a.c1 b.c1 ready.c1.depth same.c1 2 0 _ done.c1;
    c2 = same-holds s shape.colour sx sy a.c2 b.c2 ready.c2.depth same.c2 2 1 _ done.c2;
  }

-- bands of 16 bits have the sizes that other bands have
pub same-agree : (a : NarrowTrio) (b : NarrowTrio) (c : Trio) → ShowTheSame a.luma b.luma → ShowTheSame a.c1 b.c1 → ShowTheSame a.c2 b.c2 → AllAgree a c → AllAgree b c
same-agree a b c luma c1 c2 agree = record {
  luma = same-sizes a.luma b.luma c.luma luma agree.luma;
  c1 = same-sizes a.c1 b.c1 c.c1 c1 agree.c1;
  c2 = same-sizes a.c2 b.c2 c.c2 c2 agree.c2;
}

agree-on : (a b c : BandStack) → AgreeInSizes a b → AgreeInSizes c b → AgreeInSizes a c
agree-on a b c first second =
    let E : (level orient : ℕ) → BandExists a.depth level orient → BandExists c.depth level orient = λ level orient e. subst (λ (d : ℕ). BandExists d level orient) (first.same_depth ∙ sym second.same_depth) e in
    record {
      same_depth = first.same_depth ∙ sym second.same_depth;
      widths = λ level orient e. first.widths level orient e ∙ sym (second.widths level orient (E level orient e));
      heights = λ level orient e. first.heights level orient e ∙ sym (second.heights level orient (E level orient e));
    }

pub all-agree-on : (a : NarrowTrio) (b : Trio) (c : NarrowTrio) (d : Trio) → d ≡ record { luma = c.luma; c1 = c.c1; c2 = c.c2 } → AllAgree a b → AllAgree c b → AllAgree a d
all-agree-on a b c d is first second =
    subst (λ (t : Trio). AllAgree a t) (sym is) (record {
      luma = agree-on a.luma b.luma c.luma first.luma second.luma;
      c1 = agree-on a.c1 b.c1 c.c1 first.c1 second.c1;
      c2 = agree-on a.c2 b.c2 c.c2 first.c2 second.c2;
    })

-- ---- rows that take what bands of 16 bits show

agree-then : (a b c : BandStack) → AgreeInSizes a b → AgreeInSizes b c → AgreeInSizes a c
agree-then a b c first second =
    let E : (level orient : ℕ) → BandExists a.depth level orient → BandExists b.depth level orient = λ level orient e. subst (λ (d : ℕ). BandExists d level orient) first.same_depth e in
    record {
      same_depth = first.same_depth ∙ second.same_depth;
      widths = λ level orient e. first.widths level orient e ∙ second.widths level orient (E level orient e);
      heights = λ level orient e. first.heights level orient e ∙ second.heights level orient (E level orient e);
    }

all-agree-then : (a b : NarrowTrio) (c : Trio) → AllAgree a (trio_of b) → AllAgree b c → AllAgree a c
all-agree-then a b c first second = record {
  luma = agree-then a.luma b.luma c.luma first.luma second.luma;
  c1 = agree-then a.c1 b.c1 c.c1 first.c1 second.c1;
  c2 = agree-then a.c2 b.c2 c.c2 first.c2 second.c2;
}

pub taken-agree : (short : ShortTrio) (before after : NarrowTrio) (wide : Trio) → AreBeside short (trio_of before) → AllShowTheSame (shown_trio short) (trio_of after) → AllAgree before wide → AllAgree after wide
taken-agree short before after wide beside same agree =
    same-agree (narrow_of (shown_trio short)) after wide same.luma same.c1 same.c2 (all-agree-then (narrow_of (shown_trio short)) before wide beside agree)

-- ---- the bands that serve

module _ (is_short : Bool) (short rows : Trio) where
  pub short_serve : is_short ≡ true → (if is_short then short else rows) ≡ short
  short_serve e = ap (λ (b : Bool). if b then short else rows) e

  pub rows_serve : is_short ≡ false → (if is_short then short else rows) ≡ rows
  rows_serve e = ap (λ (b : Bool). if b then short else rows) e

pub any-answer : {A : Type 0} (answer : Option A) (P : Type 0) (Q : A → Type 0) → MatchOption answer P Q → MatchOption answer ⊤ Q
any-answer None P Q is = tt
any-answer (Some a) P Q is = is

-- sizes of bands of 16 bits from one slice to the next
pub beside-after : (s : Slicing) (shape : PictureShape) (sx sy : ℕ) (old new : ShortTrio) (rows : Trio) → AllKeepOthers s shape sx sy (shown_trio old) (shown_trio new) → AreReady s shape sx sy (shown_trio old)
    → AreBeside old rows → AreBeside new rows
beside-after s shape sx sy old new rows keeps ready beside =
    narrow_agree s shape sx sy (narrow_of (shown_trio old)) (narrow_of (shown_trio new)) rows keeps ready beside

pub any-decoded : (s : Slicing) (shape : PictureShape) (sx sy : ℕ) (a b : Trio) → AreReady s shape sx sy a → AllShowTheSame a b → (matrix : Weights) (slice : Slice) (result : Result SliceHead SliceFault)
    → MatchResult result (λ head. IsDecoded s shape sx sy matrix slice head a) (IsRefused s shape sx sy matrix slice)
    → MatchResult result (λ head. IsDecoded s shape sx sy matrix slice head b) (IsRefused s shape sx sy matrix slice)
any-decoded s shape sx sy a b ready same matrix slice (Ok head) done = same-decoded s shape sx sy a b ready same matrix slice head done
any-decoded s shape sx sy a b ready same matrix slice (Err fault) why = why
