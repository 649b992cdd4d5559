-- Values of a slice, restored band by band.
use Rattle.std.proofs.Common.{◌≡◌, ℕ, ◌+◌, ◌*◌, ◌<◌, ◌≤◌, Bool, true, false, List, length, get_or, ℤ, pos, refl, sym, ap, subst, ◌∙◌, inl, inr, arith}
use Rattle.std.proofs.lemmas.Bool.{cases_lt}
use Rattle.planes.specs.declared.Rect.{Rect}
use Rattle.quant_factors.specs.Factors.{inverse_of}
use Rattle.quant_factors.specs.Weights.{Weights, band_quantiser}
use Rattle.slice_geometry.specs.SliceOrder.{area, level_of, orient_of, place_count}
use Rattle.slice_decoder.specs.Dealing.{StaysBeside}
use Rattle.slice_decoder.specs.Components.{Part, rect_of, index_of}
use Rattle.slice_decoder.specs.Levels.{AreRects, no_rect, places_in}
use Rattle.slice_decoder.specs.Restored.{restored_at, StayWithin}
use Rattle.slice_decoder.specs.RestoredBands.{all_quantisers, IsBand, AreBands, IsRestoredTo, OnePasses}
use Rattle.slice_decoder.proofs.LevelLemmas.{next_from, rect_of_level, room_here}
use Rattle.slice_decoder.proofs.Restores.{restored_here, part-not, part-more}

-- what a value of band k is restored to
same_here : (most : ℕ) (matrix : Weights) (qindex each : ℕ) (p : Part) (k from count index : ℕ) (old now : List ℤ) → IsBand matrix qindex each p k count → k < 3 * matrix.depth + 1
    → index ≡ band_quantiser matrix qindex (level_of k) (orient_of k) → IsRestoredTo most each p k from old now
    → (j : ℕ) → from ≤ j → j < from + count → inverse_of (get_or now j (pos 0)) index ≡ restored_at old (all_quantisers each p) j
same_here most matrix qindex each p k from count index old now is lt index_is held j low below =
    let its : index ≡ index_of p k =
    index_is ∙ ap (λ (m : Weights). band_quantiser m qindex (level_of k) (orient_of k)) (sym is.matrix_is)
    ∙ ap (λ (q : ℕ). band_quantiser p.matrix q (level_of k) (orient_of k)) (sym is.qindex_is) in
    restored_here each p k (3 * p.slicing.depth + 1) from (area (rect_of p k)) index j old now (omega (arith, lt, is.depth_is)) held.from_is refl its low
    (omega (arith, below, is.count_is)) (held.rest j low)

pub restored-more : (most : ℕ) (matrix : Weights) (qindex each : ℕ) (p : Part) (k from count index : ℕ) (old now new : List ℤ) (answer : Bool) → IsBand matrix qindex each p k count
    → k < 3 * matrix.depth + 1 → index ≡ band_quantiser matrix qindex (level_of k) (orient_of k) → answer ≡ true → length new ≡ length now
    → StayWithin most answer (λ j. inverse_of (get_or now j (pos 0)) index) from (from + count)
    → ((j : ℕ) → from ≤ j → j < from + count → get_or new j (pos 0) ≡ inverse_of (get_or now j (pos 0)) index)
    → StaysBeside from (from + count) now new
    → IsRestoredTo most each p k from old now → IsRestoredTo most each p (k + 1) (from + count) old new
restored-more most matrix qindex each p k from count index old now new answer is lt index_is good long stay inside outside held =
    let same = same_here most matrix qindex each p k from count index old now is lt index_is held in
    record {
      from_is = ap (λ (n : ℕ). from + n) is.count_is ∙ next_from each p.slicing p.size p.sx p.sy k from (area (rect_of p k)) held.from_is refl;
      same_length = long ∙ held.same_length;
      within = part-more most (restored_at old (all_quantisers each p)) (λ j. inverse_of (get_or now j (pos 0)) index) from (from + count) answer good same held.within stay;
      done = λ j below. elim (cases_lt j from) [
        | inl before ↦ outside j (inl before) ∙ held.done j before
        | inr here ↦ inside j here below ∙ same j here below
      ];
      rest = λ j le. outside j (inr le) ∙ held.rest j (omega arith);
    }

pub restored-not : (most : ℕ) (matrix : Weights) (qindex each : ℕ) (p : Part) (k from count index : ℕ) (old now : List ℤ) (answer : Bool) → IsBand matrix qindex each p k count
    → k < 3 * matrix.depth + 1 → index ≡ band_quantiser matrix qindex (level_of k) (orient_of k) → answer ≡ false → from + count ≤ length now
    → StayWithin most answer (λ j. inverse_of (get_or now j (pos 0)) index) from (from + count)
    → IsRestoredTo most each p k from old now → OnePasses most each p old
restored-not most matrix qindex each p k from count index old now answer is lt index_is bad room stay held =
    part-not most (restored_at old (all_quantisers each p)) (λ j. inverse_of (get_or now j (pos 0)) index) from (from + count) (length old) answer bad
    (omega (arith, room, held.same_length)) (same_here most matrix qindex each p k from count index old now is lt index_is held) stay

pub restored-at : (most each : ℕ) (p : Part) (k k' from from' : ℕ) (old new : List ℤ) → k ≡ k' → from ≡ from' → IsRestoredTo most each p k from old new → IsRestoredTo most each p k' from' old new
restored-at most each p k k' from from' old new k_is from_is held =
    subst (λ (n : ℕ). IsRestoredTo most each p k' n old new) from_is (subst (λ (n : ℕ). IsRestoredTo most each p n from old new) k_is held)

-- no band yet
pub none-restored : (most each : ℕ) (p : Part) (vs : List ℤ) → IsRestoredTo most each p 0 0 vs vs
unfolding places_in
none-restored most each p vs =
    let none : 0 ≡ each * 0 = omega arith in
    record {
      from_is = none;
      same_length = refl;
      within = λ j low lt. absurd (omega arith);
      done = λ j lt. absurd (omega arith);
      rest = λ j le. refl;
    }

-- a band by its level's rectangle
pub is-band : (each : ℕ) (p : Part) (rects : List Rect) (k level n : ℕ) → AreRects p.slicing p.size p.sx p.sy rects → p.matrix.depth ≡ p.slicing.depth → level ≡ level_of k
    → k < 3 * p.slicing.depth + 1 → n ≡ area (get_or rects level no_rect) → IsBand p.matrix p.qindex each p k (each * n)
is-band each p rects k level n are depth_is level_is lt n_is = record {
  matrix_is = refl;
  qindex_is = refl;
  depth_is = depth_is;
  count_is = ap (λ (m : ℕ). each * m) (n_is ∙ ap area (rect_of_level p.slicing p.size p.sx p.sy rects k level are level_is lt));
}

-- the three bands of a level
pub are-bands : (each : ℕ) (p : Part) (rects : List Rect) (level n : ℕ) → AreRects p.slicing p.size p.sx p.sy rects → p.matrix.depth ≡ p.slicing.depth → level < p.slicing.depth
    → n ≡ area (get_or rects (level + 1) no_rect) → AreBands p.matrix p.qindex each p (3 * level + 1) (each * n)
are-bands each p rects level n are depth_is lt n_is =
    let one : level + 1 ≡ level_of (3 * level + 1) = omega arith in
    let two : level + 1 ≡ level_of (3 * level + 1 + 1) = omega arith in
    let three : level + 1 ≡ level_of (3 * level + 1 + 2) = omega arith in
    record {
      first = is-band each p rects (3 * level + 1) (level + 1) n are depth_is one (omega arith) n_is;
      second = is-band each p rects (3 * level + 1 + 1) (level + 1) n are depth_is two (omega arith) n_is;
      third = is-band each p rects (3 * level + 1 + 2) (level + 1) n are depth_is three (omega arith) n_is;
    }

-- there is room for a band
pub band_room : (matrix : Weights) (qindex each : ℕ) (p : Part) (k from count total : ℕ) → IsBand matrix qindex each p k count → k < 3 * p.slicing.depth + 1
    → from ≡ each * places_in p.slicing p.size p.sx p.sy k → total ≡ each * place_count p.slicing p.size p.sx p.sy
    → (from + count ≤ total) × (from + count ≡ each * places_in p.slicing p.size p.sx p.sy (k + 1))
band_room matrix qindex each p k from count total is lt from_is total_is =
    let n : ℕ = area (rect_of p k) in (
      omega (arith, room_here each p.slicing p.size p.sx p.sy k from n total from_is refl total_is lt, is.count_is),
      ap (λ (m : ℕ). from + m) is.count_is ∙ next_from each p.slicing p.size p.sx p.sy k from n from_is refl,
    )

-- and for the bands of a level
pub bands_room : (matrix : Weights) (qindex each : ℕ) (p : Part) (k from count total : ℕ) → AreBands matrix qindex each p k count → k + 2 < 3 * p.slicing.depth + 1
    → from ≡ each * places_in p.slicing p.size p.sx p.sy k → total ≡ each * place_count p.slicing p.size p.sx p.sy → from + 3 * count ≤ total
bands_room matrix qindex each p k from count total are lt from_is total_is =
    let next : k + 1 + 1 ≡ k + 2 = omega arith in
    let first = band_room matrix qindex each p k from count total are.first (omega arith) from_is total_is in
    let second = band_room matrix qindex each p (k + 1) (from + count) count total are.second (omega arith) first.1 total_is in
    let third = band_room matrix qindex each p (k + 2) (from + count + count) count total are.third (omega arith)
    (second.1 ∙ ap (λ (n : ℕ). each * places_in p.slicing p.size p.sx p.sy n) next) total_is in
    omega (arith, third.0)
