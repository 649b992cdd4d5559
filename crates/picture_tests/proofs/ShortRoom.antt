-- A component of w by 16 has room for its levels.
use Rattle.std.proofs.Common.{◌≡◌, ◌∙◌, sym, ap, refl, subst, ℕ, zero, suc, ◌%◌, ◌^◌, ◌≤◌, arith, ℤ, pos, replicate, length}
use Rattle.std.proofs.lemmas.List.{length-replicate}
use Rattle.planes.specs.Raster.{Raster, filled_with}
use Rattle.planes.specs.Subbands.{BandStack, BandExists, subband_length, HaveSizes}
use Rattle.lifting.specs.Bands.{SameSizes}
use Rattle.lifting.specs.SampleRoom.{HaveRoom}

pub whole_rows : (depth : ℕ) → depth ≤ 4 → 16 % 2 ^ depth ≡ 0
whole_rows zero le = refl
whole_rows (suc zero) le = refl
whole_rows (suc (suc zero)) le = refl
whole_rows (suc (suc (suc zero))) le = refl
whole_rows (suc (suc (suc (suc zero)))) le = refl
whole_rows (suc (suc (suc (suc (suc n))))) le = absurd (omega arith)

pub room : (b : BandStack) (w : ℕ) → 1 ≤ w → b.depth ≤ 4 → w % 2 ^ b.depth ≡ 0 → HaveSizes b w 16 → {p s : Raster ℤ} → p ≡ filled_with (pos 0) w 8 → s ≡ filled_with (pos 0) w 8 → HaveRoom b w 16 p s
room b w some few even sizes ep es =
    let rows : length (replicate 8 (replicate w (pos 0))) ≡ 8 = length-replicate 8 (replicate w (pos 0)) in
    rw (ep, es) (record {
      some_columns = some;
      some_rows = omega arith;
      low = omega arith;
      whole_columns = even;
      whole_rows = whole_rows b.depth few;
      bands = sizes;
      columns = omega arith;
      rows = omega (arith, rows);
      scratch_columns = omega arith;
      scratch_rows = omega (arith, rows);
      three_rows = omega (arith, rows);
    })

-- bands that have kept their sizes
pub sizes_after : {a b : BandStack} (w h : ℕ) → SameSizes a b → HaveSizes a w h → HaveSizes b w h
sizes_after {a} {b} w h same sizes =
    let there : (level orient : ℕ) → BandExists b.depth level orient → BandExists a.depth level orient = λ level orient. subst (λ (d : ℕ). BandExists d level orient) same.depth in
    record {
      widths = λ level orient exists. same.widths level orient ∙ sizes.widths level orient (there level orient exists) ∙ ap (λ (d : ℕ). subband_length d level w) (sym same.depth);
      heights = λ level orient exists. same.heights level orient ∙ sizes.heights level orient (there level orient exists) ∙ ap (λ (d : ℕ). subband_length d level h) (sym same.depth);
    }
