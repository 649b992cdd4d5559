-- The numbers in front of a slice, level by level.
use Rattle.std.proofs.Common.{◌≡◌, ap, sym, ◌∙◌, ℕ, zero, suc, ◌+◌, ◌-◌, ◌*◌, ◌^◌, ◌≤◌, arith}
use Rattle.std.proofs.lemmas.Nat.{mul-le}
use Rattle.slice_geometry.specs.declared.Size.{Size}
use Rattle.slice_geometry.specs.Slicing.{Slicing}
use Rattle.slice_geometry.specs.Geometry.{band_size}
use Rattle.slice_geometry.specs.SliceOrder.{places_to, places_before, place_count}
use Rattle.slice_store.specs.Places.{numbers_before, IsCut}
use Rattle.slice_store.specs.Sides.{left, tall}
use Rattle.slice_store.proofs.Sizes.{starts_rise, left_most, top_most}

module _ (s : Slicing) (size : Size) where
  -- of the bands of the levels up to this one, the numbers in front of a column of slices
  abbrev pub in_front : ℕ → ℕ → ℕ → ℕ
  in_front zero sx sy = left s size 0 sx * tall s size 0 sy
  in_front (suc level) sx sy = in_front level sx sy + 3 * (left s size (suc level) sx * tall s size (suc level) sy)

  no_times : (n : ℕ) → 0 * n ≡ 0
  no_times n = omega arith

  none_left : (level : ℕ) → left s size level 0 ≡ 0
  none_left level = omega arith

  none_in_front : (level sy : ℕ) → in_front level 0 sy ≡ 0
  none_in_front zero sy = ap (λ (n : ℕ). n * tall s size 0 sy) (none_left 0) ∙ no_times (tall s size 0 sy)
  none_in_front (suc level) sy =
      let e : left s size (suc level) 0 * tall s size (suc level) sy ≡ 0 = ap (λ (n : ℕ). n * tall s size (suc level) sy) (none_left (suc level)) ∙ no_times (tall s size (suc level) sy) in
      omega (arith, e, none_in_front level sy)

  wider : (level sx sy : ℕ) → 1 ≤ s.slices_x → left s size level (sx + 1) * tall s size level sy ≡ left s size level sx * tall s size level sy + (left s size level (sx + 1) - left s size level sx) * tall s size level sy
  wider level sx sy some =
      let le : left s size level sx ≤ left s size level (sx + 1) = starts_rise (band_size s.depth level size).w s.slices_x sx (sx + 1) some (omega arith) in
      let e : left s size level (sx + 1) ≡ left s size level sx + (left s size level (sx + 1) - left s size level sx) = omega (arith, le) in
      let split : (a b h : ℕ) → (a + b) * h ≡ a * h + b * h = λ a b h. omega arith in
      ap (λ (n : ℕ). n * tall s size level sy) e ∙ split (left s size level sx) (left s size level (sx + 1) - left s size level sx) (tall s size level sy)

  next_in_front : (level sx sy : ℕ) → 1 ≤ s.slices_x → in_front level (sx + 1) sy ≡ in_front level sx sy + places_to s size sx sy level
  next_in_front zero sx sy some = wider 0 sx sy some
  next_in_front (suc level) sx sy some = omega (arith, next_in_front level sx sy some, wider (suc level) sx sy some)

  pub all_in_front : (sx sy : ℕ) → 1 ≤ s.slices_x → in_front s.depth sx sy ≡ numbers_before s size sx sy
  all_in_front zero sy some = none_in_front s.depth sy
  all_in_front (suc sx) sy some =
      let e : sx + 1 ≡ suc sx = omega arith in
      ap (λ (n : ℕ). in_front s.depth n sy) (sym e) ∙ next_in_front s.depth sx sy some ∙ ap (λ (n : ℕ). n + place_count s size sx sy) (all_in_front sx sy some)

  module _ (cut : IsCut s size) where
    product_most : (level sx sy : ℕ) → sx ≤ s.slices_x → sy + 1 ≤ s.slices_y → left s size level sx * tall s size level sy ≤ 2 ^ 26
    product_most level sx sy across down =
        let l = left_most s size cut level sx across in
        let h = top_most s size cut level (sy + 1) down in
        let both : left s size level sx * tall s size level sy ≤ 8192 * 8192 = mul-le (left s size level sx) (tall s size level sy) 8192 8192 l (omega (arith, h)) in
        omega (arith, both)

    -- no sum passes this
    pub in_front_most : (level sx sy : ℕ) → sx ≤ s.slices_x → sy + 1 ≤ s.slices_y → in_front level sx sy ≤ (1 + 3 * level) * 2 ^ 26
    in_front_most zero sx sy across down = omega (arith, product_most 0 sx sy across down)
    in_front_most (suc level) sx sy across down = omega (arith, in_front_most level sx sy across down, product_most (suc level) sx sy across down)

    pub piece_most : (level sx sy : ℕ) → sx ≤ s.slices_x → sy + 1 ≤ s.slices_y → left s size level sx * tall s size level sy ≤ 2 ^ 26
    piece_most = product_most

    pub area_most : (level sx sy : ℕ) → sx + 1 ≤ s.slices_x → sy + 1 ≤ s.slices_y → (left s size level (sx + 1) - left s size level sx) * tall s size level sy ≤ 2 ^ 26
    area_most level sx sy across down =
        let le : (left s size level (sx + 1) - left s size level sx) * tall s size level sy ≤ left s size level (sx + 1) * tall s size level sy = mul-le (left s size level (sx + 1) - left s size level sx) (tall s size level sy) (left s size level (sx + 1)) (tall s size level sy) (omega arith) (omega arith) in
        omega (arith, le, product_most level (sx + 1) sy across down)

    pub places_most : (level sx sy : ℕ) → sx + 1 ≤ s.slices_x → sy + 1 ≤ s.slices_y → places_to s size sx sy level ≤ (1 + 3 * level) * 2 ^ 26
    places_most zero sx sy across down = omega (arith, area_most 0 sx sy across down)
    places_most (suc level) sx sy across down = omega (arith, places_most level sx sy across down, area_most (suc level) sx sy across down)

    -- before the bands of a level a slice has no more numbers than there are
    pub under_most : (level sx sy : ℕ) → sx + 1 ≤ s.slices_x → sy + 1 ≤ s.slices_y → level ≤ 4 → places_before s size sx sy level 1 ≤ 13 * 2 ^ 26
    under_most zero sx sy across down le = omega arith
    under_most (suc level) sx sy across down le = omega (arith, places_most level sx sy across down, le)
