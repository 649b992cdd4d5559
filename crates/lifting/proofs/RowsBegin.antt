-- Levels of which no row has come.
use Rattle.std.proofs.Common.{◌≡◌, ◌∙◌, refl, sym, ap, ℕ, ℤ, zero, suc, ◌+◌, ◌-◌, ◌*◌, ◌/◌, ◌%◌, ◌^◌, ◌<◌, ◌≤◌, List, length, arith}
use Rattle.std.proofs.Math.Nat.{mul-le-mul_left}
use Rattle.std.proofs.lemmas.Bool.Decides.{nat_tests}
use Rattle.std.proofs.lemmas.Nat.{pow_pos}
use Rattle.planes.specs.Subbands.{subband_length}
use Rattle.lifting.specs.declared.Wavelet.{Wavelet}
use Rattle.lifting.specs.declared.Wavelet.TheVariants.{LeGall, HaarFlat, HaarShift}
use Rattle.lifting.specs.Bands.{lowest}
use Rattle.lifting.specs.LevelRows.{pairs_whole, HoldsRows}
use Rattle.lifting.specs.RowAnalysis.{LevelSeen, level_at, IsUnused, rows_behind, AreInTurn, HasNoRow}
use Rattle.lifting.specs.Transform.{Grid}
use Rattle.lifting.proofs.Levels.{not_zero, whole_size, band_size}

-- ---- sizes

module _ (size depth : ℕ) (whole : size % 2 ^ depth ≡ 0) (j : ℕ) (lt : j < depth) where
  -- the columns of level j, or its rows
  pub size_at : size / 2 ^ suc j ≡ lowest depth size * 2 ^ (depth - suc j)
  size_at =
      let n : ℕ = depth - suc j in
      let level : suc j ≡ depth - (n + 1) + 1 = omega arith in
      let flat : subband_length depth (n + 1) size ≡ size / 2 ^ (depth - (n + 1) + 1) = rw (not_zero n) refl in
      ap (λ (m : ℕ). size / 2 ^ m) level ∙ sym flat ∙ band_size size depth whole n (omega arith)

  pub some_at : 1 ≤ size → 1 ≤ size / 2 ^ suc j
  some_at some =
      let low : 1 ≤ lowest depth size = factor (lowest depth size) (2 ^ depth) (omega (arith, whole_size size depth whole)) in
      let least : lowest depth size * 1 ≤ lowest depth size * 2 ^ (depth - suc j) = mul-le-mul_left (lowest depth size) (pow_pos (depth - suc j)) in
      omega (arith, size_at, low, least) where
        factor : (a b : ℕ) → 1 ≤ a * b → 1 ≤ a
        factor zero b le = absurd (omega (arith, le))
        factor (suc a) b le = omega arith

-- levels of halved sizes, as levels in turn have them
pub unused_at : {X : Type 0} (w h depth : ℕ) (ls : List (LevelSeen X)) → w % 2 ^ depth ≡ 0 → h % 2 ^ depth ≡ 0 → length ls ≡ depth
    → ((j : ℕ) → j < depth → IsUnused (w / 2 ^ suc j) (h / 2 ^ suc j) (level_at ls j))
    → (j : ℕ) → j < length ls → IsUnused (lowest (length ls) w * 2 ^ (length ls - suc j)) (lowest (length ls) h * 2 ^ (length ls - suc j)) (level_at ls j)
unused_at w h depth ls whole_columns whole_rows count each j lt =
    let lo : j < depth = omega (arith, lt, count) in
    record {
      columns = (each j lo).columns ∙ size_at w depth whole_columns j lo ∙ ap (λ (d : ℕ). lowest d w * 2 ^ (d - suc j)) (sym count);
      rows = (each j lo).rows ∙ size_at h depth whole_rows j lo ∙ ap (λ (d : ℕ). lowest d h * 2 ^ (d - suc j)) (sym count);
      ready = (each j lo).ready;
      none_came = (each j lo).none_came;
      none_made = (each j lo).none_made;
    }

-- levels that begin anew
pub anew_at : {X : Type 0} (k : Wavelet) (w h came : ℕ) (old ls : List (LevelSeen X)) → AreInTurn k w h came old → length ls ≡ length old
    → ((j : ℕ) → j < length old → IsUnused (level_at old j).w (level_at old j).h (level_at ls j))
    → (j : ℕ) → j < length ls → IsUnused (lowest (length ls) w * 2 ^ (length ls - suc j)) (lowest (length ls) h * 2 ^ (length ls - suc j)) (level_at ls j)
anew_at k w h came old ls turn count each j lt =
    let lo : j < length old = omega (arith, lt, count) in
    record {
      columns = (each j lo).columns ∙ turn.columns j lo ∙ ap (λ (d : ℕ). lowest d w * 2 ^ (d - suc j)) (sym count);
      rows = (each j lo).rows ∙ turn.rows j lo ∙ ap (λ (d : ℕ). lowest d h * 2 ^ (d - suc j)) (sym count);
      ready = (each j lo).ready;
      none_came = (each j lo).none_came;
      none_made = (each j lo).none_made;
    }

-- ---- counts

none_whole : (k : Wavelet) (h n y : ℕ) → n ≡ 0 → y ≡ 0 → y ≡ pairs_whole k h n
none_whole LeGall h n y come made = grind (arith, nat_tests)
none_whole HaarFlat h n y come made = omega arith
none_whole HaarShift h n y come made = omega arith

none_wait : (k : Wavelet) (h w n y : ℕ) (g ring : Grid) → n ≡ 0 → y ≡ 0 → HoldsRows k h w n y g ring
none_wait k h w n y g ring come made = record {
  even = λ lt lh x lx. absurd (omega arith);
  odd = λ lt lh x lx. absurd (omega arith);
  next = λ lt lh x lx. absurd (omega arith);
  made_odd = λ some x lx. absurd (omega arith);
  made_even = λ some few x lx. absurd (omega arith);
}

module _ {X : Type 0} (k : Wavelet) (w h : ℕ) (ls : List (LevelSeen X)) (few : length ls ≤ 4) (whole_columns : w % 2 ^ length ls ≡ 0) (whole_rows : h % 2 ^ length ls ≡ 0)
    (some : 1 ≤ w) (short : w ≤ 8208) (low : h ≤ 8208)
    (each : (j : ℕ) → j < length ls → IsUnused (lowest (length ls) w * 2 ^ (length ls - suc j)) (lowest (length ls) h * 2 ^ (length ls - suc j)) (level_at ls j)) where
  none_behind : (j : ℕ) → j ≤ length ls → rows_behind 0 ls j ≡ 0
  none_behind zero le = refl
  none_behind (suc m) le = (each m (omega arith)).none_made

  pub unused_in_turn : AreInTurn k w h 0 ls
  unused_in_turn = record {
    few = few;
    whole_columns = whole_columns;
    whole_rows = whole_rows;
    some = some;
    short = short;
    low = low;
    inside = omega arith;
    columns = λ j lt. (each j lt).columns;
    rows = λ j lt. (each j lt).rows;
    ready = λ j lt. (each j lt).ready;
    made = λ j lt. none_whole k (level_at ls j).h (level_at ls j).came (level_at ls j).made (each j lt).none_came (each j lt).none_made;
    next = λ j lt. (each j lt).none_came ∙ sym (none_behind j (omega arith));
  }

  pub no_row : (value : X → ℤ) (none : X) → HasNoRow value none (record { wavelet = k; w = w; h = h; came = 0; levels = ls })
  no_row value none = record {
    none_came = refl;
    come = λ g j lt. none_wait k _ _ _ _ _ _ (each j lt).none_came (each j lt).none_made;
    shown = λ g b. record {
      levels = λ j lt.
          let made = (each j lt).none_made in
          record { hl = λ y x ly lx. absurd (omega (arith, ly, made)); lh = λ y x ly lx. absurd (omega (arith, ly, made)); hh = λ y x ly lx. absurd (omega (arith, ly, made)) };
      lowest = λ y x ly lx. absurd (omega (arith, ly, none_behind (length ls) (omega arith)));
    };
  }
