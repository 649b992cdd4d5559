-- A row of a band, slice by slice.
use Rattle.std.proofs.Common.{◌≡◌, ap, sym, subst, ◌∙◌, refl, ℕ, zero, suc, ◌+◌, ◌-◌, ◌*◌, ◌/◌, ◌<◌, ◌≤◌, List, ℤ, length, get_or, arith, inl, inr}
use Rattle.std.proofs.lemmas.Nat.{mul-le, div-mul-add}
use Rattle.std.proofs.lemmas.Bool.{cases_lt}
use Rattle.planes.specs.Subbands.{BandExists}
use Rattle.slice_geometry.specs.SliceOrder.{level_rect, area, places_to, places_before, place_number, place_count}
use Rattle.slice_geometry.proofs.Places.{alone, holding_from, holding_alone}
use Rattle.slice_store.specs.Store.{Store}
use Rattle.slice_store.specs.Places.{band, row_with, column_with, run_start, place_of, number_at, IsStoreSound}
use Rattle.slice_store.specs.Writing.{with_numbers, OthersStay}
use Rattle.slice_store.specs.Sides.{left, top, piece}
use Rattle.slice_store.proofs.Numbers.{levels_rise}
use Rattle.slice_store.proofs.Sizes.{starts_rise, start_most}
use Rattle.slice_store.proofs.Apart.{level_inside, one_more, more_before, in_run, places_apart, run_inside, strip_inside}

-- The piece of a row in each slice before column sx is put, and all else is as it was.
pub record IsRowPut {X : Type 0} (s : Store X) (none : X) (level orient y : ℕ) (row now : List X) (sx : ℕ) : Type 0 where
  pub put : (x : ℕ) → x < left s.slicing s.size level sx → get_or now (place_of s level orient y x) none ≡ get_or row x none
  pub rest : (p : ℕ) → ((x : ℕ) → x < left s.slicing s.size level sx → p ≡ place_of s level orient y x → ⊥) → get_or now p none ≡ get_or s.numbers p none

module _ {X : Type 0} (s : Store X) (sound : IsStoreSound s) where
  -- the part of a band ends with its level or before
  part_ends : (level orient sx sy : ℕ) → BandExists s.slicing.depth level orient
      → places_before s.slicing s.size sx sy level orient + area (level_rect s.slicing s.size sx sy level) ≤ places_to s.slicing s.size sx sy level
  part_ends zero orient sx sy exists = omega arith
  part_ends (suc level) orient sx sy (inl e) = absurd (omega (arith, e.0))
  part_ends (suc level) orient sx sy (inr e) =
      let a : ℕ = area (level_rect s.slicing s.size sx sy (suc level)) in
      let few : (orient - 1 + 1) * a ≤ 3 * a = mul-le (orient - 1 + 1) a 3 a (omega (arith, e.2)) (omega arith) in
      omega (arith, few)

  module _ (level orient y sx sy : ℕ) (exists : BandExists s.slicing.depth level orient) (across : sx < s.slicing.slices_x) (down : sy < s.slicing.slices_y)
      (from : top s.slicing s.size level sy ≤ y) (to : y < top s.slicing s.size level (sy + 1)) where
    rows_fit : (y - top s.slicing s.size level sy) * (left s.slicing s.size level (sx + 1) - left s.slicing s.size level sx) + (left s.slicing s.size level (sx + 1) - left s.slicing s.size level sx) ≤ area (level_rect s.slicing s.size sx sy level)
    rows_fit =
        let w : ℕ = left s.slicing s.size level (sx + 1) - left s.slicing s.size level sx in
        let le : (y - top s.slicing s.size level sy + 1) * w ≤ (top s.slicing s.size level (sy + 1) - top s.slicing s.size level sy) * w = mul-le (y - top s.slicing s.size level sy + 1) w (top s.slicing s.size level (sy + 1) - top s.slicing s.size level sy) w (omega (arith, from, to)) (omega arith) in
        let turn : (a b : ℕ) → a * b ≡ b * a = λ a b. omega arith in
        omega (arith, le, turn (top s.slicing s.size level (sy + 1) - top s.slicing s.size level sy) w)

    -- and it ends inside the slice
    pub piece_fits : places_before s.slicing s.size sx sy level orient + (y - top s.slicing s.size level sy) * (left s.slicing s.size level (sx + 1) - left s.slicing s.size level sx) + (left s.slicing s.size level (sx + 1) - left s.slicing s.size level sx) ≤ place_count s.slicing s.size sx sy
    piece_fits = omega (arith, part_ends level orient sx sy exists, rows_fit, levels_rise s.slicing s.size sx sy level s.slicing.depth (level_inside s.slicing.depth level orient exists))

    pub piece_inside : piece s level orient y sx sy + (left s.slicing s.size level (sx + 1) - left s.slicing s.size level sx) ≤ length s.numbers
    piece_inside = omega (arith, piece_fits, one_more s sx sy, run_inside s sound sx sy across down, strip_inside s sound sy)

    -- the place of each column of it
    pub place_here : (x : ℕ) → left s.slicing s.size level sx ≤ x → x < left s.slicing s.size level (sx + 1) → place_of s level orient y x ≡ piece s level orient y sx sy + (x - left s.slicing s.size level sx)
    place_here x low high =
        let both = alone s.slicing (band s level) y x sx sy sound.cut.slices (record { left = low; right = high; top = from; bottom = to }) in
        let P : ℕ → ℕ → Type 0 = λ c r. run_start s c r + place_number s.slicing s.size c r level orient y x ≡ piece s level orient y sx sy + (x - left s.slicing s.size level sx) in
        subst (λ (c : ℕ). P c (row_with s level y)) both.0 (subst (λ (r : ℕ). P sx r) both.1 (omega arith))

    -- a row that is collected, a slice more
    pub collect_more : (none : X) (out new : List X)
        → ((i : ℕ) → i < left s.slicing s.size level (sx + 1) - left s.slicing s.size level sx → get_or new (left s.slicing s.size level sx + i) none ≡ get_or s.numbers (piece s level orient y sx sy + i) none)
        → ((j : ℕ) → j < left s.slicing s.size level sx → get_or new j none ≡ get_or out j none)
        → ((x : ℕ) → x < left s.slicing s.size level sx → get_or out x none ≡ get_or s.numbers (place_of s level orient y x) none)
        → (x : ℕ) → x < left s.slicing s.size level (sx + 1) → get_or new x none ≡ get_or s.numbers (place_of s level orient y x) none
    collect_more none out new done before have x lt = elim (cases_lt x (left s.slicing s.size level sx)) [
      | inl less ↦ before x less ∙ have x less
      | inr not ↦
          let e : left s.slicing s.size level sx + (x - left s.slicing s.size level sx) ≡ x = omega (arith, not) in
          ap (λ (n : ℕ). get_or new n none) (sym e) ∙ done (x - left s.slicing s.size level sx) (omega (arith, lt, not)) ∙ ap (λ (n : ℕ). get_or s.numbers n none) (sym (place_here x not lt))
    ]

    -- what stands in front of it
    column_before : (x : ℕ) → x < (band s level).w → x < left s.slicing s.size level sx → column_with s level x < sx
    column_before x inside lt = elim (cases_lt (column_with s level x) sx) [
      | inl less ↦ less
      | inr not ↦
          let rise = starts_rise (band s level).w s.slicing.slices_x sx (column_with s level x) sound.cut.slices.some_across not in
          let low = holding_from (band s level).w s.slicing.slices_x x sound.cut.slices.some_across inside in
          absurd (omega (arith, rise, low, lt))
    ]

    row_is : y < (band s level).h → row_with s level y ≡ sy
    row_is inside = sym (holding_alone (band s level).h s.slicing.slices_y y sy sound.cut.slices.some_down from to)

    in_front : (x : ℕ) → y < (band s level).h → x < (band s level).w → x < left s.slicing s.size level sx → place_of s level orient y x < piece s level orient y sx sy
    in_front x below inside lt =
        let end = (in_run s sound level orient y x (record { exists = exists; row = below; column = inside })).to in
        let column = column_before x inside lt in
        let more = more_before s (column_with s level x + 1) sx (row_with s level y) (omega (arith, column)) in
        let start : run_start s sx (row_with s level y) ≡ run_start s sx sy = ap (λ (r : ℕ). run_start s sx r) (row_is below) in
        omega (arith, end, more, start)

    -- a row that is put, a slice more
    pub put_more : (none : X) (row now new : List X) → y < (band s level).h
        → ((i : ℕ) → i < left s.slicing s.size level (sx + 1) - left s.slicing s.size level sx → get_or new (piece s level orient y sx sy + i) none ≡ get_or row (left s.slicing s.size level sx + i) none)
        → ((j : ℕ) → j < piece s level orient y sx sy → get_or new j none ≡ get_or now j none)
        → ((j : ℕ) → piece s level orient y sx sy + (left s.slicing s.size level (sx + 1) - left s.slicing s.size level sx) ≤ j → get_or new j none ≡ get_or now j none)
        → IsRowPut s none level orient y row now sx → IsRowPut s none level orient y row new (sx + 1)
    put_more none row now new below done before behind have =
        let rise = starts_rise (band s level).w s.slicing.slices_x sx (sx + 1) sound.cut.slices.some_across (omega arith) in
        let end = start_most (band s level).w s.slicing.slices_x (sx + 1) sound.cut.slices.some_across (omega (arith, across)) in
        record {
          put = λ x lt. elim (cases_lt x (left s.slicing s.size level sx)) [
            | inl less ↦ before (place_of s level orient y x) (in_front x below (omega (arith, lt, end)) less) ∙ have.put x less
            | inr not ↦
                let e : left s.slicing s.size level sx + (x - left s.slicing s.size level sx) ≡ x = omega (arith, not) in
                ap (λ (n : ℕ). get_or new n none) (place_here x not lt) ∙ done (x - left s.slicing s.size level sx) (omega (arith, lt, not)) ∙ ap (λ (n : ℕ). get_or row n none) e
          ];
          rest = λ p other. elim (cases_lt p (piece s level orient y sx sy)) [
            | inl less ↦ before p less ∙ have.rest p (λ x lt e. other x (omega (arith, lt, rise)) e)
            | inr not ↦ elim (cases_lt p (piece s level orient y sx sy + (left s.slicing s.size level (sx + 1) - left s.slicing s.size level sx))) [
              | inl inside ↦
                  let x : ℕ = left s.slicing s.size level sx + (p - piece s level orient y sx sy) in
                  let high : x < left s.slicing s.size level (sx + 1) = omega (arith, inside, not) in
                  let is : place_of s level orient y x ≡ piece s level orient y sx sy + (x - left s.slicing s.size level sx) = place_here x (omega arith) high in
                  absurd (other x high (omega (arith, is, not)))
              | inr past ↦ behind p past ∙ have.rest p (λ x lt e. other x (omega (arith, lt, rise)) e)
            ]
          ];
        }

  pub wide_inside : (level sx : ℕ) → sx < s.slicing.slices_x → left s.slicing s.size level sx + (left s.slicing s.size level (sx + 1) - left s.slicing s.size level sx) ≤ (band s level).w
  wide_inside level sx lt =
      let rise = starts_rise (band s level).w s.slicing.slices_x sx (sx + 1) sound.cut.slices.some_across (omega arith) in
      let end = start_most (band s level).w s.slicing.slices_x (sx + 1) sound.cut.slices.some_across (omega (arith, lt)) in
      omega (arith, rise, end)

  pub none_put : (none : X) (level orient y : ℕ) (row : List X) → IsRowPut s none level orient y row s.numbers 0
  none_put none level orient y row = record {
    put = λ x lt. absurd (omega (arith, lt));
    rest = λ p other. refl;
  }

  pub none_left : (level x : ℕ) → x < left s.slicing s.size level 0 → ⊥
  none_left level x lt = omega (arith, lt)

  pub all_left : (level : ℕ) → left s.slicing s.size level s.slicing.slices_x ≡ (band s level).w
  all_left level =
      let e : (band s level).w * s.slicing.slices_x ≡ (band s level).w * s.slicing.slices_x + 0 = omega arith in
      ap (λ (n : ℕ). n / s.slicing.slices_x) e ∙ div-mul-add (band s level).w s.slicing.slices_x 0 (omega (arith, sound.cut.slices.some_across))

  module _ (level orient y : ℕ) (exists : BandExists s.slicing.depth level orient) (below : y < (band s level).h) (value : X → ℤ) (none : X) (row : List X) (t : Store X) (same : t ≡ with_numbers s t.numbers)
      (done : IsRowPut s none level orient y row t.numbers s.slicing.slices_x) where
    pub row_shown : (x : ℕ) → x < (band s level).w → number_at value none t level orient y x ≡ value (get_or row x none)
    row_shown x lt =
        ap (λ (u : Store X). number_at value none u level orient y x) same ∙ ap value (done.put x (omega (arith, lt, all_left level)))

    pub others_stay : OthersStay value none s t level orient y
    others_stay l o j x place together other =
        ap (λ (u : Store X). number_at value none u l o j x) same
        ∙ ap value (done.rest (place_of s l o j x) (λ i lt e.
        let a = places_apart s sound l o j x level orient y i place (record { exists = exists; row = below; column = omega (arith, lt, all_left level) }) together e in
        other a.level a.orient a.row))
