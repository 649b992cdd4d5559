-- Rows that are cut from one list.
use Rattle.std.proofs.Common.{◌≡◌, refl, sym, ap, ◌∙◌, ℕ, zero, suc, ◌+◌, ◌-◌, ◌*◌, ◌<◌, ◌≤◌, List, [], ◌∷◌, ◌++◌, length, get_or, set, take, drop, replicate, arith, length-append, length-drop}
use native.Mathlib.Nat.{zero-mul, suc-mul}
use Rattle.std.specs.List.{flat_map}
use Rattle.std.proofs.lemmas.List.{take_at, drop_at, take-append-drop, nil_from_length, take_all, take-take, take-append-le, drop-append-le, drop-drop, drop-take, take-replicate, drop-replicate, length-take-le}
use Rattle.std.specs.Prelude.{slice_range}
use Rattle.planes.specs.Raster.{over}
use Rattle.planes.specs.LendingParts.{with_part}
use Rattle.planes.specs.Inside.{rows_of}

-- row y ends within h rows
pub row_ends : (w h y : ℕ) → y < h → y * w + w ≤ h * w
row_ends w zero y lt = absurd (omega arith)
row_ends w (suc h) zero lt = let none = zero-mul w in let step = suc-mul h w in omega arith
row_ends w (suc h) (suc y) lt = let le = row_ends w h y (omega arith) in let one = suc-mul y w in let step = suc-mul h w in omega arith

pub length-rows_of : {X : Type 0} (w h : ℕ) (xs : List X) → length (rows_of w h xs) ≡ h
unfolding rows_of
length-rows_of w zero xs = refl
length-rows_of w (suc h) xs = ap (λ n. suc n) (length-rows_of w h (drop w xs))

row_is : {X : Type 0} (w h y : ℕ) (xs : List X) → y < h → get_or (rows_of w h xs) y [] ≡ take w (drop (y * w) xs)
unfolding rows_of
row_is w zero y xs lt = absurd (omega arith)
row_is w (suc h) zero xs lt = ap (λ n. take w (drop n xs)) (sym (zero-mul w))
row_is w (suc h) (suc y) xs lt =
    row_is w h y (drop w xs) (omega arith)
    ∙ ap (take w) (drop-drop (y * w) w xs ∙ ap (λ n. drop n xs) (let step = suc-mul y w in omega arith))

-- a row is a part of the list
pub row_part : {X : Type 0} (w h y : ℕ) (xs : List X) → y < h → get_or (rows_of w h xs) y [] ≡ slice_range xs (y * w) (y * w + w)
row_part w h y xs lt = row_is w h y xs lt ∙ ap (λ n. take n (drop (y * w) xs)) (omega arith)

-- a part has its length
pub length_part : {X : Type 0} (i w : ℕ) (xs : List X) → i + w ≤ length xs → length (slice_range xs i (i + w)) ≡ w
length_part i w xs le =
    ap (λ n. length (take n (drop i xs))) (omega arith) ∙ length-take-le w (drop i xs) (omega (arith, le, length-drop i xs))

rows_of-put : {X : Type 0} (w h y : ℕ) (xs ws : List X) → y < h → length xs ≡ h * w → length ws ≡ w → rows_of w h (take (y * w) xs ++ (ws ++ drop (length ws) (drop (y * w) xs))) ≡ set (rows_of w h xs) y ws
unfolding rows_of
rows_of-put w zero y xs ws lt long same = absurd (omega arith)
rows_of-put w (suc h) zero xs ws lt long same =
    ap (λ n. rows_of w (suc h) (take n xs ++ (ws ++ drop (length ws) (drop n xs)))) (zero-mul w)
    ∙ ap (λ r. r ∷ rows_of w h (drop w (ws ++ drop (length ws) xs))) (take_at ws (drop (length ws) xs) w same)
    ∙ ap (λ l. ws ∷ rows_of w h l) (drop_at ws (drop (length ws) xs) w same ∙ ap (λ n. drop n xs) same)
rows_of-put w (suc h) (suc y) xs ws lt long same =
    let step : suc y * w ≡ w + y * w = let one = suc-mul y w in omega arith in
    let rest = ws ++ drop (length ws) (drop (w + y * w) xs) in
    let ends = row_ends w (suc h) (suc y) lt in
    let enough : length (take (w + y * w) xs) ≡ w + y * w = length-take-le (w + y * w) xs (omega (arith, ends, step, long)) in
    let first : take w (take (w + y * w) xs ++ rest) ≡ take w xs = take-append-le w (take (w + y * w) xs) rest (omega (arith, enough)) ∙ take-take w (w + y * w) xs (omega arith) in
    let later : drop w (take (w + y * w) xs ++ rest) ≡ take (y * w) (drop w xs) ++ (ws ++ drop (length ws) (drop (y * w) (drop w xs))) =
    drop-append-le w (take (w + y * w) xs) rest (omega (arith, enough))
    ∙ ap (λ l. l ++ rest) (drop-take w (y * w) xs)
    ∙ ap (λ l. take (y * w) (drop w xs) ++ (ws ++ drop (length ws) l)) (sym (drop-drop (y * w) w xs)) in
    let shorter : length (drop w xs) ≡ h * w = length-drop w xs ∙ (let one = suc-mul h w in omega (arith, long, one)) in
    ap (λ n. rows_of w (suc h) (take n xs ++ (ws ++ drop (length ws) (drop n xs)))) step
    ∙ ap (λ r. r ∷ rows_of w h (drop w (take (w + y * w) xs ++ rest))) first
    ∙ ap (λ l. take w xs ∷ rows_of w h l) later
    ∙ ap (λ l. take w xs ∷ l) (rows_of-put w h y (drop w xs) ws (omega arith) shorter same)

pub length-with_run : {X : Type 0} (xs ws : List X) (i : ℕ) → i + length ws ≤ length xs → length (take i xs ++ (ws ++ drop (length ws) (drop i xs))) ≡ length xs
length-with_run xs ws i le =
    length-append (take i xs) (ws ++ drop (length ws) (drop i xs))
    ∙ ap (λ n. length (take i xs) + n) (length-append ws (drop (length ws) (drop i xs)))
    ∙ omega (arith, le, length-take-le i xs (omega (arith, le)), length-drop (length ws) (drop i xs), length-drop i xs)

length_over : {X : Type 0} (row new : List X) → length (over row new) ≡ length row
length_over row new = length-take-le (length row) (new ++ drop (length new) row) (omega (arith, length-append new (drop (length new) row), length-drop (length new) row))

-- a row that is written in its place
pub rows_of-with_part : {X : Type 0} (w h y : ℕ) (xs new : List X) → y < h → length xs ≡ h * w → rows_of w h (with_part xs (y * w) w new) ≡ set (rows_of w h xs) y (over (get_or (rows_of w h xs) y []) new)
rows_of-with_part w h y xs new lt long =
    let ends = row_ends w h y lt in
    let row = slice_range xs (y * w) (y * w + w) in
    let ws = over row new in
    let same : length ws ≡ w = length_over row new ∙ length_part (y * w) w xs (omega (arith, ends, long)) in
    let whole : with_part xs (y * w) w new ≡ take (y * w) xs ++ (ws ++ drop (length ws) (drop (y * w) xs)) = take_all (length xs) _ (omega (arith, length-with_run xs ws (y * w) (omega (arith, ends, long, same)))) in
    ap (rows_of w h) whole ∙ rows_of-put w h y xs ws lt long same
    ∙ ap (λ r. set (rows_of w h xs) y (over r new)) (sym (row_part w h y xs lt))

pub length-with_part : {X : Type 0} (i w : ℕ) (xs new : List X) → i + w ≤ length xs → length (with_part xs i w new) ≡ length xs
length-with_part i w xs new le =
    let row = slice_range xs i (i + w) in
    let ws = over row new in
    let same : length ws ≡ w = length_over row new ∙ length_part i w xs le in
    ap length (take_all (length xs) _ (omega (arith, length-with_run xs ws i (omega (arith, le, same))))) ∙ length-with_run xs ws i (omega (arith, le, same))

-- rows of one number
pub rows_of-replicate : {X : Type 0} (w h : ℕ) (x : X) → rows_of w h (replicate (h * w) x) ≡ replicate h (replicate w x)
unfolding rows_of
rows_of-replicate w zero x = refl
rows_of-replicate w (suc h) x =
    let step = suc-mul h w in
    ap (λ r. r ∷ rows_of w h (drop w (replicate (suc h * w) x))) (take-replicate w (suc h * w) x (omega arith))
    ∙ ap (λ l. replicate w x ∷ rows_of w h l) (drop-replicate w (suc h * w) x ∙ ap (λ n. replicate n x) (omega arith))
    ∙ ap (λ l. replicate w x ∷ l) (rows_of-replicate w h x)

-- ---- all rows as one list

pub rows_joined : {X : Type 0} (w h : ℕ) (xs : List X) → length xs ≡ h * w → flat_map (λ (row : List X). row) (rows_of w h xs) ≡ xs
unfolding rows_of
rows_joined w zero xs long = sym (nil_from_length xs (long ∙ zero-mul w))
rows_joined w (suc h) xs long =
    let shorter : length (drop w xs) ≡ h * w = length-drop w xs ∙ (let one = suc-mul h w in omega (arith, long, one)) in
    ap (λ l. take w xs ++ l) (rows_joined w h (drop w xs) shorter) ∙ take-append-drop w xs

-- a list of which all is written
pub whole_part : {X : Type 0} (n : ℕ) (xs new : List X) → length xs ≡ n → with_part xs 0 n new ≡ over xs new
whole_part n xs new long =
    let all : slice_range xs 0 (0 + n) ≡ xs = take_all (0 + n - 0) xs (omega arith) in
    let same : length (over xs new) ≡ length xs = length_over xs new in
    ap (λ r. take (length xs) (over r new ++ drop (length (over r new)) xs)) all
    ∙ take_at (over xs new) (drop (length (over xs new)) xs) (length xs) same
