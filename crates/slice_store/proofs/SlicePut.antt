-- A slice that is put, as the bands show it.
use Rattle.std.proofs.Common.{◌≡◌, sym, subst, ◌∙◌, ℕ, ◌+◌, ◌<◌, ◌≤◌, List, ℤ, arith}
use Rattle.planes.specs.Rect.{IsInRect}
use Rattle.planes.specs.Subbands.{BandExists, band_of}
use Rattle.slice_geometry.specs.SliceOrder.{level_rect}
use Rattle.slice_geometry.proofs.Places.{alone, holding_below}
use Rattle.slice_store.specs.Store.{Store}
use Rattle.slice_store.specs.Places.{band, row_with, column_with, IsPlace, IsStoreSound, AreTogether}
use Rattle.slice_store.specs.Writing.{with_numbers, ShowsRun, OtherRunsStay}
use Rattle.slice_store.specs.Stack.{stack_of, IsSlicePut}
use Rattle.slice_store.proofs.Sizes.{start_most}
use Rattle.slice_store.proofs.Apart.{in_slice}
use Rattle.slice_store.proofs.Stacked.{place_shown, width_shown, height_shown, together, agree}
use Rattle.slice_store.proofs.Past.{same_here, whole_rows}

module _ {X : Type 0} (value : X → ℤ) (none : X) (s : Store X) (sound : IsStoreSound s) (sx sy : ℕ) (across : sx < s.slicing.slices_x) (down : sy < s.slicing.slices_y) (room : s.slicing.slices_y ≤ s.strips) (run : ℕ → X) where
  -- each place of the slice's rectangle is one of the band
  place_in : (level orient y x : ℕ) → BandExists s.slicing.depth level orient → IsInRect (level_rect s.slicing s.size sx sy level) y x → IsPlace s level orient y x
  place_in level orient y x exists inside =
      let right = start_most (band s level).w s.slicing.slices_x (sx + 1) sound.cut.slices.some_across (omega (arith, across)) in
      let bottom = start_most (band s level).h s.slicing.slices_y (sy + 1) sound.cut.slices.some_down (omega (arith, down)) in
      record { exists = exists; row = omega (arith, inside.bottom, bottom); column = omega (arith, inside.right, right) }

  outside : (level orient y x : ℕ) → IsPlace s level orient y x → (IsInRect (level_rect s.slicing s.size sx sy level) y x → ⊥) → column_with s level x ≡ sx → row_with s level y ≡ sy → ⊥
  outside level orient y x place out column row =
      let held = in_slice s sound level orient y x place in
      out (subst (λ (r : ℕ). IsInRect (level_rect s.slicing s.size sx r level) y x) row (subst (λ (c : ℕ). IsInRect (level_rect s.slicing s.size c (row_with s level y) level) y x) column held.inside))

  put_here : (numbers : List X) → ShowsRun value none (with_numbers s numbers) sx sy run → OtherRunsStay value none s (with_numbers s numbers) sx sy
      → IsSlicePut s.slicing s.size sx sy (λ k. value (run k)) (stack_of value none s) (stack_of value none (with_numbers s numbers))
  put_here numbers shown stay =
      let t : Store X = with_numbers s numbers in
      record {
        sizes = agree value none s numbers;
        here = λ level orient y x exists inside.
            let place = place_in level orient y x exists inside in
            let place_there : IsPlace t level orient y x = record { exists = exists; row = place.row; column = place.column } in
            let only = alone s.slicing (band s level) y x sx sy sound.cut.slices inside in
            place_shown value none t level orient y x place_there ∙ shown level orient y x place_there (sym only.0) (sym only.1);
        others = λ level orient y x exists out.
            same_here (band_of (stack_of value none t) level orient) (band_of (stack_of value none s) level orient) (whole_rows value none t level orient exists) (whole_rows value none s level orient exists)
            (width_shown value none t level orient exists ∙ sym (width_shown value none s level orient exists)) (height_shown value none t level orient exists ∙ sym (height_shown value none s level orient exists)) y x
            (λ ly lx.
            let row : y < (band s level).h = omega (arith, ly, height_shown value none t level orient exists) in
            let column : x < (band s level).w = omega (arith, lx, width_shown value none t level orient exists) in
            let place : IsPlace s level orient y x = record { exists = exists; row = row; column = column } in
            let beside : AreTogether s (row_with s level y) sy = together s.strips (row_with s level y) sy s.slicing.slices_y room (holding_below (band s level).h s.slicing.slices_y y sound.cut.slices.some_down row) down in
            place_shown value none t level orient y x (record { exists = exists; row = row; column = column })
            ∙ stay level orient y x place beside (outside level orient y x place out)
            ∙ sym (place_shown value none s level orient y x place));
      }

  pub slice_put : (t : Store X) → t ≡ with_numbers s t.numbers → ShowsRun value none t sx sy run → OtherRunsStay value none s t sx sy
      → IsSlicePut s.slicing s.size sx sy (λ k. value (run k)) (stack_of value none s) (stack_of value none t)
  slice_put t same shown stay =
      let P : Store X → Type 0 = λ u. ShowsRun value none u sx sy run → OtherRunsStay value none s u sx sy → IsSlicePut s.slicing s.size sx sy (λ k. value (run k)) (stack_of value none s) (stack_of value none u) in
      subst P (sym same) (λ shown stay. put_here t.numbers shown stay) shown stay
