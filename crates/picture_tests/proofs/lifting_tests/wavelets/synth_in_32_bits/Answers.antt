use Rattle.std.proofs.Common.{◌≡◌, ◌∙◌, ◌^◌, ℕ, sym, ap, subst, rules, ℤ, pos}
use Rattle.planes.specs.Raster.{Raster, height, filled_with}
use Rattle.planes.specs.Subbands.{BandStack, BandExists, subband_length, HaveSizes, AreZeroBands, AgreeInSizes}
use Rattle.planes.proofs.BandLemmas.{HaveSizes-zero}
use Rattle.lifting.specs.Bands.{AgreeInSize, AreIn, AreNarrow}
use Rattle.picture_tests.proofs.lifting_tests.wavelets.synth_in_32_bits.Goals as goal

-- bands of two levels of a plane of 8 by 4
module _ (a b : BandStack) (p s : Raster ℤ) (zeros : AreZeroBands a 2 8 4) (sizes : AgreeInSize b p s) (columns : p.w ≡ 8) (rows : height p ≡ 4) (two : b.depth ≡ 2) where
  depth : a.depth ≡ b.depth
  depth = zeros.same_depth ∙ sym two

  own : HaveSizes b 8 4
  own = subst (λ (w : ℕ). HaveSizes b w 4) columns (subst (HaveSizes b p.w) rows sizes.bands)

  agree : AgreeInSizes a b
  agree =
      let made = HaveSizes-zero a 2 8 4 zeros in
      record {
        same_depth = depth;
        widths = λ level orient exists.
            made.widths level orient exists ∙ ap (λ (d : ℕ). subband_length d level 8) depth
            ∙ sym (own.widths level orient (subst (λ (d : ℕ). BandExists d level orient) depth exists));
        heights = λ level orient exists.
            made.heights level orient exists ∙ ap (λ (d : ℕ). subband_length d level 4) depth
            ∙ sym (own.heights level orient (subst (λ (d : ℕ). BandExists d level orient) depth exists));
      }

-- planes of one size
narrow_like : {a b : BandStack} {p : Raster ℤ} (q : Raster ℤ) → a ≡ b → p ≡ filled_with (pos 0) 8 4 → q.w ≡ 8 → height q ≡ 4 → AreNarrow b q → AreNarrow a p
narrow_like {a} {b} {p} q e f columns rows narrow =
    let Narrow : ℕ → ℕ → Type 0 = AreIn (λ v. v) (pos 0) (2 ^ 18) b in
    rw (e, f) (subst (λ (w : ℕ). Narrow w 4) columns (subst (Narrow q.w) rows narrow))

pub narrow-requires-clause-sizes : goal.narrow-requires-clause-sizes
narrow-requires-clause-sizes g c =
    agree _ c.args.wide.now c.args.like.now c.args.like.now (rw c.expect-bands.ensures at c.new.ensures) (c.can_synth.ensures.sizes (search rules)) (search rules) (search rules) (search rules)

pub synth_narrow-requires-clause-small : goal.synth_narrow-requires-clause-small
synth_narrow-requires-clause-small g c =
    narrow_like c.args.like.now c.narrow.ensures c.plane-made.ensures (search rules) (search rules) (c.can_synth.ensures.narrow (search rules))
