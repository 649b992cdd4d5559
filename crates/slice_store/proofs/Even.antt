-- Columns of slices of one width: the pieces of a row stand at one distance.
use Rattle.std.proofs.Common.{◌≡◌, ap, sym, subst, ◌∙◌, refl, ℕ, zero, suc, ◌+◌, ◌-◌, ◌*◌, ◌/◌, ◌%◌, ◌<◌, ◌≤◌, List, length, get_or, arith, inl, inr, mod-lt}
use Rattle.std.proofs.lemmas.Nat.{mul-le, div-mul-add, div-add-mod'}
use Rattle.std.proofs.lemmas.Bool.{cases_lt}
use Rattle.planes.specs.Subbands.{BandExists}
use Rattle.slice_geometry.specs.SliceOrder.{level_rect, area, places_to, places_before, place_count}
use Rattle.slice_store.specs.Store.{Store}
use Rattle.slice_store.specs.Places.{band, numbers_before, place_of, IsStoreSound}
use Rattle.slice_store.specs.Sides.{left, top, tall, piece, AreEven}
use Rattle.slice_store.proofs.Tables.{some_columns, column_inside}
use Rattle.slice_store.proofs.Sums.{in_front, all_in_front}
use Rattle.slice_store.proofs.Rows.{IsRowPut, place_here, all_left, piece_inside, piece_fits}
use Rattle.slice_store.proofs.Apart.{level_inside}

-- ---- pieces of one length at one distance

module _ {X : Type 0} (none : X) (at size count : ℕ) (row old : List X) where
  pub record AreDealt (sx : ℕ) (now : List X) : Type 0 where
    pub put : (j i : ℕ) → j < sx → i < count → get_or now (at + j * size + i) none ≡ get_or row (j * count + i) none
    pub rest : (p : ℕ) → ((j i : ℕ) → j < sx → i < count → p ≡ at + j * size + i → ⊥) → get_or now p none ≡ get_or old p none

  pub none_dealt : AreDealt 0 old
  none_dealt = record { put = λ j i lt li. absurd (omega (arith, lt)); rest = λ p other. refl }

  pub deal_more : (sx : ℕ) (now new : List X) → count ≤ size
      → ((i : ℕ) → i < count → get_or new (at + sx * size + i) none ≡ get_or row (sx * count + i) none)
      → ((j : ℕ) → j < at + sx * size → get_or new j none ≡ get_or now j none)
      → ((j : ℕ) → at + sx * size + count ≤ j → get_or new j none ≡ get_or now j none)
      → AreDealt sx now → AreDealt (sx + 1) new
  deal_more sx now new inside done before behind have = record {
    put = λ j i lt li. elim (cases_lt j sx) [
      | inl ls ↦
          let le : (j + 1) * size ≤ sx * size = mul-le (j + 1) size sx size (omega (arith, ls)) (omega arith) in
          before (at + j * size + i) (omega (arith, le, li, inside)) ∙ have.put j i ls li
      | inr ge ↦
          let e : sx ≡ j = omega (arith, lt, ge) in
          subst (λ (m : ℕ). get_or new (at + m * size + i) none ≡ get_or row (m * count + i) none) e (done i li)
    ];
    rest = λ p other. elim (cases_lt p (at + sx * size)) [
      | inl less ↦ before p less ∙ have.rest p (λ j i lt li e. other j i (omega (arith, lt)) li e)
      | inr not ↦ elim (cases_lt p (at + sx * size + count)) [
        | inl here ↦ absurd (other sx (p - (at + sx * size)) (omega arith) (omega (arith, here, not)) (omega (arith, not)))
        | inr past ↦ behind p past ∙ have.rest p (λ j i lt li e. other j i (omega (arith, lt)) li e)
      ]
    ];
  }

pub gather_more : {X : Type 0} (none : X) (at size count sx : ℕ) (numbers out new : List X)
    → ((i : ℕ) → i < count → get_or new (sx * count + i) none ≡ get_or numbers (at + sx * size + i) none)
    → ((j : ℕ) → j < sx * count → get_or new j none ≡ get_or out j none)
    → ((j i : ℕ) → j < sx → i < count → get_or out (j * count + i) none ≡ get_or numbers (at + j * size + i) none)
    → (j i : ℕ) → j < sx + 1 → i < count → get_or new (j * count + i) none ≡ get_or numbers (at + j * size + i) none
gather_more none at size count sx numbers out new done before have j i lt li = elim (cases_lt j sx) [
  | inl ls ↦
      let le : (j + 1) * count ≤ sx * count = mul-le (j + 1) count sx count (omega (arith, ls)) (omega arith) in
      before (j * count + i) (omega (arith, le, li)) ∙ have j i ls li
  | inr ge ↦
      let e : sx ≡ j = omega (arith, lt, ge) in
      subst (λ (m : ℕ). get_or new (m * count + i) none ≡ get_or numbers (at + m * size + i) none) e (done i li)
]

pub piece_to : (sx across count : ℕ) → sx < across → sx * count + count ≤ across * count
piece_to sx across count lt =
    let le : (sx + 1) * count ≤ across * count = mul-le (sx + 1) count across count (omega (arith, lt)) (omega arith) in
    omega (arith, le)

-- ---- where they are

module _ {X : Type 0} (s : Store X) (sound : IsStoreSound s) (even : AreEven s.slicing s.size) where
  abbrev pub wide : ℕ → ℕ
  wide level = (band s level).w / s.slicing.slices_x

  left_is : (level sx : ℕ) → level ≤ s.slicing.depth → left s.slicing s.size level sx ≡ sx * wide level
  left_is level sx le =
      let n : ℕ = s.slicing.slices_x in
      let w : ℕ = (band s level).w in
      let k : ℕ = wide level in
      let whole : w ≡ k * n = omega (arith, div-add-mod' w n, even level le) in
      let turn : (a b c : ℕ) → a * b * c ≡ c * a * b + 0 = λ a b c. omega arith in
      let product : w * sx ≡ sx * k * n + 0 = ap (λ (m : ℕ). m * sx) whole ∙ turn k n sx in
      ap (λ (m : ℕ). m / n) product ∙ div-mul-add (sx * k) n 0 (omega (arith, sound.cut.slices.some_across))

  pub wide_is : (level sx : ℕ) → level ≤ s.slicing.depth → left s.slicing s.size level (sx + 1) - left s.slicing s.size level sx ≡ wide level
  wide_is level sx le =
      let more : (a b : ℕ) → (a + 1) * b ≡ a * b + b = λ a b. omega arith in
      omega (arith, left_is level sx le, left_is level (sx + 1) le, more sx (wide level))

  front_is : (level sx sy : ℕ) → level ≤ s.slicing.depth → in_front s.slicing s.size level sx sy ≡ sx * in_front s.slicing s.size level 1 sy
  front_is zero sx sy le =
      let one : left s.slicing s.size 0 1 ≡ wide 0 = left_is 0 1 le ∙ omega arith in
      let turn : (a b c : ℕ) → a * b * c ≡ a * (b * c) = λ a b c. omega arith in
      ap (λ (n : ℕ). n * tall s.slicing s.size 0 sy) (left_is 0 sx le) ∙ turn sx (wide 0) (tall s.slicing s.size 0 sy) ∙ ap (λ (n : ℕ). sx * (n * tall s.slicing s.size 0 sy)) (sym one)
  front_is (suc level) sx sy le =
      let one : left s.slicing s.size (suc level) 1 ≡ wide (suc level) = left_is (suc level) 1 le ∙ omega arith in
      let turn : (a b c : ℕ) → a * b * c ≡ a * (b * c) = λ a b c. omega arith in
      let here : left s.slicing s.size (suc level) sx * tall s.slicing s.size (suc level) sy ≡ sx * (left s.slicing s.size (suc level) 1 * tall s.slicing s.size (suc level) sy) =
      ap (λ (n : ℕ). n * tall s.slicing s.size (suc level) sy) (left_is (suc level) sx le) ∙ turn sx (wide (suc level)) (tall s.slicing s.size (suc level) sy) ∙ ap (λ (n : ℕ). sx * (n * tall s.slicing s.size (suc level) sy)) (sym one) in
      let sum : (a b c : ℕ) → a * b + 3 * (a * c) ≡ a * (b + 3 * c) = λ a b c. omega arith in
      let below = front_is level sx sy (omega (arith, le)) in
      omega (arith, below, here, sum sx (in_front s.slicing s.size level 1 sy) (left s.slicing s.size (suc level) 1 * tall s.slicing s.size (suc level) sy))

  before_is : (sx sy : ℕ) → numbers_before s.slicing s.size sx sy ≡ sx * numbers_before s.slicing s.size 1 sy
  before_is sx sy =
      let some = sound.cut.slices.some_across in
      sym (all_in_front s.slicing s.size sx sy some) ∙ front_is s.slicing.depth sx sy (omega arith) ∙ ap (λ (n : ℕ). sx * n) (all_in_front s.slicing s.size 1 sy some)

  area_is : (level sx sy : ℕ) → level ≤ s.slicing.depth → area (level_rect s.slicing s.size sx sy level) ≡ area (level_rect s.slicing s.size 0 sy level)
  area_is level sx sy le = ap (λ (n : ℕ). n * tall s.slicing s.size level sy) (wide_is level sx le ∙ sym (wide_is level 0 le))

  to_is : (level sx sy : ℕ) → level ≤ s.slicing.depth → places_to s.slicing s.size sx sy level ≡ places_to s.slicing s.size 0 sy level
  to_is zero sx sy le = area_is 0 sx sy le
  to_is (suc level) sx sy le = omega (arith, to_is level sx sy (omega (arith, le)), area_is (suc level) sx sy le)

  places_is : (level orient sx sy : ℕ) → level ≤ s.slicing.depth → places_before s.slicing s.size sx sy level orient ≡ places_before s.slicing s.size 0 sy level orient
  places_is zero orient sx sy le = refl
  places_is (suc level) orient sx sy le =
      let e : (orient - 1) * area (level_rect s.slicing s.size sx sy (suc level)) ≡ (orient - 1) * area (level_rect s.slicing s.size 0 sy (suc level)) = ap (λ (n : ℕ). (orient - 1) * n) (area_is (suc level) sx sy le) in
      omega (arith, e, to_is level sx sy (omega (arith, le)))

  pub piece_is : (level orient y sx sy : ℕ) → level ≤ s.slicing.depth → piece s level orient y sx sy ≡ piece s level orient y 0 sy + sx * numbers_before s.slicing s.size 1 sy
  piece_is level orient y sx sy le =
      let rows : (y - top s.slicing s.size level sy) * (left s.slicing s.size level (sx + 1) - left s.slicing s.size level sx) ≡ (y - top s.slicing s.size level sy) * (left s.slicing s.size level (0 + 1) - left s.slicing s.size level 0) = ap (λ (n : ℕ). (y - top s.slicing s.size level sy) * n) (wide_is level sx le ∙ sym (wide_is level 0 le)) in
      omega (arith, before_is sx sy, places_is level orient sx sy le, rows)

  -- the pieces lie inside
  pub pieces_there : (level orient y sy : ℕ) → BandExists s.slicing.depth level orient → sy < s.slicing.slices_y → top s.slicing s.size level sy ≤ y → y < top s.slicing s.size level (sy + 1)
      → (sx : ℕ) → sx < s.slicing.slices_x → piece s level orient y 0 sy + sx * numbers_before s.slicing s.size 1 sy + wide level ≤ length s.numbers
  pieces_there level orient y sy exists down from to sx across =
      let le = level_inside s.slicing.depth level orient exists in
      omega (arith, piece_inside s sound level orient y sx sy exists across down from to, wide_is level sx le, piece_is level orient y sx sy le)

  -- and each within its slice
  pub wide_fits : (level orient y sy : ℕ) → BandExists s.slicing.depth level orient → sy < s.slicing.slices_y → top s.slicing s.size level sy ≤ y → y < top s.slicing s.size level (sy + 1) → wide level ≤ numbers_before s.slicing s.size 1 sy
  wide_fits level orient y sy exists down from to =
      let le = level_inside s.slicing.depth level orient exists in
      let count : place_count s.slicing s.size 0 sy ≤ numbers_before s.slicing s.size 1 sy = omega arith in
      omega (arith, piece_fits s sound level orient y 0 sy exists (omega (arith, sound.cut.slices.some_across)) down from to, wide_is level 0 le, count)

  pub row_whole : (level : ℕ) → level ≤ s.slicing.depth → (band s level).w ≡ s.slicing.slices_x * wide level
  row_whole level le = omega (arith, div-add-mod' (band s level).w s.slicing.slices_x, even level le)

  module _ (none : X) (level orient y sy : ℕ) (row now : List X) (exists : BandExists s.slicing.depth level orient) (down : sy < s.slicing.slices_y) (from : top s.slicing s.size level sy ≤ y) (to : y < top s.slicing s.size level (sy + 1)) where
    column_place : (sx i : ℕ) → sx < s.slicing.slices_x → i < wide level → place_of s level orient y (sx * wide level + i) ≡ piece s level orient y 0 sy + sx * numbers_before s.slicing s.size 1 sy + i
    column_place sx i across lt =
        let le = level_inside s.slicing.depth level orient exists in
        let here = left_is level sx le in
        let next = wide_is level sx le in
        let low : left s.slicing s.size level sx ≤ sx * wide level + i = omega (arith, here) in
        let high : sx * wide level + i < left s.slicing s.size level (sx + 1) = omega (arith, here, next, lt) in
        omega (arith, place_here s sound level orient y sx sy exists across down from to (sx * wide level + i) low high, piece_is level orient y sx sy le, here)

    pub even_copied : (out : List X) → ((sx i : ℕ) → sx < s.slicing.slices_x → i < wide level → get_or out (sx * wide level + i) none ≡ get_or s.numbers (piece s level orient y 0 sy + sx * numbers_before s.slicing s.size 1 sy + i) none)
        → (x : ℕ) → x < (band s level).w → get_or out x none ≡ get_or s.numbers (place_of s level orient y x) none
    even_copied out copied x lt =
        let whole = row_whole level (level_inside s.slicing.depth level orient exists) in
        let k : ℕ = wide level in
        let sx : ℕ = x / k in
        let i : ℕ = x % k in
        let e : sx * k + i ≡ x = div-add-mod' x k in
        let inside : x < s.slicing.slices_x * k = omega (arith, lt, whole) in
        let short : i < k = mod-lt x (some_columns x s.slicing.slices_x k inside) in
        let across : sx < s.slicing.slices_x = column_inside x s.slicing.slices_x k inside in
        ap (λ (n : ℕ). get_or out n none) (sym e) ∙ copied sx i across short ∙ ap (λ (n : ℕ). get_or s.numbers n none) (sym (column_place sx i across short)) ∙ ap (λ (n : ℕ). get_or s.numbers (place_of s level orient y n) none) e

    pub even_put : AreDealt none (piece s level orient y 0 sy) (numbers_before s.slicing s.size 1 sy) (wide level) row s.numbers s.slicing.slices_x now → IsRowPut s none level orient y row now s.slicing.slices_x
    even_put dealt =
        let le = level_inside s.slicing.depth level orient exists in
        let whole = row_whole level le in
        let all = all_left s sound level in
        record {
          put = λ x lt.
              let k : ℕ = wide level in
              let sx : ℕ = x / k in
              let i : ℕ = x % k in
              let e : sx * k + i ≡ x = div-add-mod' x k in
              let inside : x < s.slicing.slices_x * k = omega (arith, lt, all, whole) in
              let some : 0 < k = some_columns x s.slicing.slices_x k inside in
              let short : i < k = mod-lt x some in
              let across : sx < s.slicing.slices_x = column_inside x s.slicing.slices_x k inside in
              ap (λ (n : ℕ). get_or now (place_of s level orient y n) none) (sym e) ∙ ap (λ (n : ℕ). get_or now n none) (column_place sx i across short) ∙ dealt.put sx i across short ∙ ap (λ (n : ℕ). get_or row n none) e;
          rest = λ p other. dealt.rest p (λ sx i lt li e.
              let inside = piece_to sx s.slicing.slices_x (wide level) lt in
              other (sx * wide level + i) (omega (arith, inside, li, all, whole)) (e ∙ sym (column_place sx i lt li)));
        }
