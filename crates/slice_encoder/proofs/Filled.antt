-- A block is filled the same by values and by these up to the last one that isn't 0.
use Rattle.std.proofs.Common.{◌≡◌, ◌≢◌, ◌∙◌, refl, sym, ap, subst, ℕ, zero, suc, ◌+◌, ◌-◌, ◌<◌, ◌≤◌, Bool, true, List, [], ◌∷◌, ◌++◌, length, take, drop, replicate, get_or, append_assoc, arith, ℤ, pos}
use Rattle.std.specs.List.{All}
use Rattle.std.proofs.lemmas.Grind.{flat_map-append}
use Rattle.std.proofs.lemmas.List.{append-nil, length-append, length-take, length-replicate, take_more, take-append-drop, get_or-append-add}
use Rattle.std.proofs.lemmas.List.Elements.{All-get_or}
use Rattle.std.proofs.Math.Seq.{take-append-add, take-append_seam}
use Rattle.bit_codes.specs.Codes.{signed_code_of}
use Rattle.bounded_blocks.specs.Blocks.{AreOnes, need_of}
use Rattle.bounded_blocks.specs.Parts.{IsSmall}
use Rattle.bounded_blocks.specs.Writing.{codes_of, need, filled, NeedSeen}
use Rattle.bounded_blocks.proofs.CodeLengths.{codes_of-next}
use Rattle.bounded_blocks.proofs.Needs.{ones-beyond, need-most, count-zero}
use Rattle.bounded_blocks.proofs.Put.{take-both}
use Rattle.slice_encoder.specs.BlockValues.{IsIn32}
use Rattle.slice_encoder.proofs.LastValues.{need_with}

ones_filled : (n : ℕ) (bits : List Bool) → AreOnes bits → filled n bits ≡ replicate n true
ones_filled zero bits ones =
    let none : 0 - length bits ≡ 0 = omega arith in
    ap (λ (k : ℕ). take 0 bits ++ replicate k true) none
ones_filled (suc n) [] ones =
    let all : suc n - 0 ≡ suc n = omega arith in
    ap (λ (k : ℕ). replicate k true) all
ones_filled (suc n) (b ∷ bits) ones =
    let less : suc n - suc (length bits) ≡ n - length bits = omega arith in
    ap (λ (x : Bool). x ∷ (take n bits ++ replicate (suc n - suc (length bits)) true)) ones.0
    ∙ ap (λ (k : ℕ). true ∷ (take n bits ++ replicate k true)) less
    ∙ ap (λ (t : List Bool). true ∷ t) (ones_filled n bits ones.1)

-- ones at the end of a text change nothing
filled_front : (n : ℕ) (a b : List Bool) → AreOnes b → filled n (a ++ b) ≡ filled n a
filled_front n [] b ones = ones_filled n b ones ∙ sym (ones_filled n [] tt)
filled_front zero (x ∷ a) b ones =
    let none : 0 - length (x ∷ a ++ b) ≡ 0 - length (x ∷ a) = omega arith in
    ap (λ (k : ℕ). take 0 (x ∷ a) ++ replicate k true) none
filled_front (suc n) (x ∷ a) b ones =
    let less : suc n - suc (length (a ++ b)) ≡ n - length (a ++ b) = omega arith in
    let same : suc n - suc (length a) ≡ n - length a = omega arith in
    ap (λ (k : ℕ). x ∷ (take n (a ++ b) ++ replicate k true)) less
    ∙ ap (λ (t : List Bool). x ∷ t) (filled_front n a b ones)
    ∙ sym (ap (λ (k : ℕ). x ∷ (take n a ++ replicate k true)) same)

-- behind all that values need their codes are ones
pub front_filled : (vs : List ℤ) (count bits : ℕ) → need (take count vs) ≡ need vs → filled bits (codes_of (take count vs)) ≡ filled bits (codes_of vs)
front_filled vs count bits same =
    let front = codes_of (take count vs) in
    let rest = codes_of (drop count vs) in
    let whole : front ++ rest ≡ codes_of vs = sym (flat_map-append signed_code_of (take count vs) (drop count vs)) ∙ ap codes_of (take-append-drop count vs) in
    let ones : AreOnes rest = ones-beyond front rest (omega (arith, ap need_of whole, same, need-most front)) in
    sym (filled_front bits front rest ones) ∙ ap (filled bits) whole

-- ---- a block, by the values up to the last one that isn't 0

-- a text that fits, and the rest of the block behind it
filled_behind : (n : ℕ) (a b : List Bool) → length a ≤ n → filled n (a ++ b) ≡ a ++ filled (n - length a) b
filled_behind n a b le =
    let k : ℕ = n - length a in
    let all : n ≡ length a + k = omega (arith, le) in
    let left : n - length (a ++ b) ≡ k - length b = omega (arith, length-append a b) in
    ap (λ (m : ℕ). take m (a ++ b) ++ replicate (n - length (a ++ b)) true) all
    ∙ ap (λ (t : List Bool). t ++ replicate (n - length (a ++ b)) true) (take-append-add a b k)
    ∙ ap (λ (m : ℕ). (a ++ take k b) ++ replicate m true) left
    ∙ append_assoc a (take k b) (replicate (k - length b) true)

-- two texts put one behind the other, each as far as the block reaches, and ones behind them
pub filled_two : (n : ℕ) (a b text : List Bool) → a ++ b ≡ text → (take n a ++ take (n - length a) b) ++ replicate (n - length a - length b) true ≡ filled n text
filled_two n a b text is =
    let left : n - length a - length b ≡ n - length text = omega (arith, ap (λ (t : List Bool). length t) is, length-append a b) in
    ap (λ (t : List Bool). t ++ replicate (n - length a - length b) true) (take-both n (n - length a) a b refl ∙ ap (take n) is) ∙ ap (λ (k : ℕ). take n text ++ replicate k true) left

pub length-filled : (n : ℕ) (text : List Bool) → length (filled n text) ≡ n
length-filled n text = omega (arith, length-append (take n text) (replicate (n - length text) true), length-take n text, length-replicate (n - length text) true)

-- where all values are zeros a block is all ones
pub filled_ones : (vs : List ℤ) (count bits : ℕ) → count ≡ 0 → need (take count vs) ≡ need vs → replicate bits true ≡ filled bits (codes_of vs)
filled_ones vs count bits none same =
    sym (ones_filled bits [] tt) ∙ sym (ap (λ (k : ℕ). filled bits (codes_of (take k vs))) none) ∙ front_filled vs count bits same

-- nothing but zeros is behind the first list
pub filled_lowest : (lowest high : List ℤ) (bits : ℕ) → need (lowest ++ take 0 high) ≡ need (lowest ++ high) → (need lowest ≡ need (lowest ++ high)) × (filled bits (codes_of lowest) ≡ filled bits (codes_of (lowest ++ high)))
filled_lowest lowest high bits same =
    let here : need lowest ≡ need (lowest ++ high) = sym (ap need (append-nil lowest)) ∙ same in
    let front : take (length lowest) (lowest ++ high) ≡ lowest = take-append_seam lowest high in
    (here, sym (ap (λ (vs : List ℤ). filled bits (codes_of vs)) front) ∙ front_filled (lowest ++ high) (length lowest) bits (ap need front ∙ here))

-- the codes of all values in front of the last one fit, and those of the block are these and its own, as far as it reaches
pub record LastFilled (lowest high : List ℤ) (m bits : ℕ) : Type 0 where
  pub most : length (codes_of lowest) + length (codes_of (take m high)) ≤ bits
  pub text : codes_of lowest ++ (codes_of (take m high) ++ filled (bits - (length (codes_of lowest) + length (codes_of (take m high)))) (signed_code_of (get_or high m (pos 0)))) ≡ filled bits (codes_of (lowest ++ high))

pub last_filled : (lowest high : List ℤ) (m bits : ℕ) → m < length high → get_or high m (pos 0) ≢ pos 0 → IsSmall (get_or high m (pos 0)) → need (lowest ++ take (m + 1) high) ≡ need (lowest ++ high) → need (lowest ++ high) ≤ bits → LastFilled lowest high m bits
last_filled lowest high m bits lt some small same fits =
    let vs : List ℤ = lowest ++ high in
    let n : ℕ = length lowest + m in
    let v = get_or high m (pos 0) in
    let a = codes_of lowest in
    let b = codes_of (take m high) in
    let inside : n < length vs = omega (arith, lt, length-append lowest high) in
    let value : get_or vs n (pos 0) ≡ v = get_or-append-add lowest high m (pos 0) in
    let up : length lowest + (m + 1) ≡ n + 1 = omega arith in
    let front : codes_of (take n vs) ≡ a ++ b = ap codes_of (take-append-add lowest high m) ∙ flat_map-append signed_code_of lowest (take m high) in
    let more : need (take (n + 1) vs) ≡ need vs = ap (λ (k : ℕ). need (take k vs)) (sym up) ∙ ap need (take-append-add lowest high (m + 1)) ∙ same in
    let with_last : need (take (n + 1) vs) ≡ length (codes_of (take n vs)) + need (get_or vs n (pos 0) ∷ []) =
    need_with vs n inside (λ none. some (sym value ∙ none)) (subst IsSmall (sym value) small)
    in
    let long : length (codes_of (take n vs)) ≡ length a + length b = ap (λ (t : List Bool). length t) front ∙ length-append a b in
    let most : length a + length b ≤ bits = omega (arith, with_last, more, fits, long) in
    let left : ℕ = bits - (length a + length b) in
    let all : codes_of (take (n + 1) vs) ≡ (a ++ b) ++ signed_code_of v =
    codes_of-next vs n inside ∙ ap (λ (t : List Bool). t ++ signed_code_of (get_or vs n (pos 0))) front ∙ ap (λ (z : ℤ). (a ++ b) ++ signed_code_of z) value
    in
    record {
      most = most;
      text =
          sym
          (sym (front_filled vs (n + 1) bits more)
          ∙ ap (filled bits) all
          ∙ filled_behind bits (a ++ b) (signed_code_of v) (omega (arith, most, length-append a b))
          ∙ ap (λ (k : ℕ). (a ++ b) ++ filled (bits - k) (signed_code_of v)) (length-append a b)
          ∙ append_assoc a b (filled left (signed_code_of v)));
    }

-- the same by how many values there are up to the last one
last_of : (lowest high : List ℤ) (count bits : ℕ) → (count ≡ 0 → ⊥) → count ≤ length high → (0 < count → get_or high (count - 1) (pos 0) ≢ pos 0) → IsSmall (get_or high (count - 1) (pos 0)) → need (lowest ++ take count high) ≡ need (lowest ++ high) → need (lowest ++ high) ≤ bits → LastFilled lowest high (count - 1) bits
last_of lowest high count bits some le last small same fits =
    let up : count - 1 + 1 ≡ count = omega (arith, some) in
    last_filled lowest high (count - 1) bits (omega (arith, some, le)) (last (omega (arith, some))) small (ap (λ (k : ℕ). need (lowest ++ take k high)) up ∙ same) fits

pub last_of_lowest : (values : List ℤ) (count bits : ℕ) → (count ≡ 0 → ⊥) → count ≤ length values → (0 < count → get_or values (count - 1) (pos 0) ≢ pos 0) → All IsSmall values → need (take count values) ≡ need values → need values ≤ bits → LastFilled [] values (count - 1) bits
last_of_lowest values count bits some le last small same fits =
    last_of [] values count bits some le last (All-get_or IsSmall values (count - 1) (pos 0) (omega (arith, some, le)) small) same fits

pub last_of_high : (lowest high : List ℤ) (count bits : ℕ) → (count ≡ 0 → ⊥) → count ≤ length high → (0 < count → get_or high (count - 1) (pos 0) ≢ pos 0) → All IsIn32 high → need (lowest ++ take count high) ≡ need (lowest ++ high) → need (lowest ++ high) ≤ bits → LastFilled lowest high (count - 1) bits
last_of_high lowest high count bits some le last narrow same fits =
    let v = get_or high (count - 1) (pos 0) in
    let here : IsIn32 v = All-get_or IsIn32 high (count - 1) (pos 0) (omega (arith, some, le)) narrow in
    last_of lowest high count bits some le last (omega (arith, here)) same fits

-- zeros behind values change nothing of what these need
pub need_behind_zero : (lowest vs : List ℤ) (n : ℕ) → n < length vs → get_or vs n (pos 0) ≡ pos 0 → need (lowest ++ take (n + 1) vs) ≡ need (lowest ++ take n vs)
need_behind_zero lowest vs n lt none =
    let front = take n vs in
    ap (λ (us : List ℤ). need (lowest ++ us)) (take_more vs n (pos 0) lt ∙ ap (λ (v : ℤ). front ++ v ∷ []) none)
    ∙ ap need (sym (append_assoc lowest front (pos 0 ∷ [])))
    ∙ sym (ap (λ (c : NeedSeen). c.bits) (count-zero (lowest ++ front) (length (signed_code_of (pos 0))) refl))
