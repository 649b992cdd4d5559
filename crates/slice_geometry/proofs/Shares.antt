-- The bytes of slices.
use Rattle.std.proofs.Common.{◌≡◌, ℕ, zero, suc, ◌+◌, ◌*◌, ◌/◌, ◌<◌, ◌≤◌, map, subst, ap, ◌∙◌, arith, add-one, zero-mul}
use Rattle.std.specs.List.{range_with_len, sum}
use Rattle.std.proofs.lemmas.List.FromFn.{sum_by-map-range_with_len_more}
use Rattle.std.proofs.Math.Nat.{mul-le-mul_right, zero-div}
use Rattle.slice_geometry.specs.Slicing.{bytes_before, slice_bytes}
use Rattle.slice_geometry.proofs.Quotients.{div-rises, le_of_le-div, le-div_of_le}

pub bytes_before-rises : (a b m n : ℕ) → 1 ≤ b → m ≤ n → bytes_before a b m ≤ bytes_before a b n
bytes_before-rises a b m n one le = div-rises (m * a) (n * a) b one (mul-le-mul_right a le)

pub bytes_before-zero : (a b : ℕ) → bytes_before a b 0 ≡ 0
bytes_before-zero a b = ap (λ n. n / b) (zero-mul a) ∙ zero-div b

pub shares_sum : (a b n : ℕ) → 1 ≤ b → sum (map (slice_bytes a b) (range_with_len 0 n)) ≡ bytes_before a b n
shares_sum a b zero one = omega (arith, bytes_before-zero a b)
shares_sum a b (suc n) one =
    let step = sum_by-map-range_with_len_more (λ (x : ℕ). x) (slice_bytes a b) 0 n n (omega arith) in
    let rest : sum (map (slice_bytes a b) (range_with_len 0 n)) ≡ bytes_before a b n = shares_sum a b n one in
    let rise : bytes_before a b n ≤ bytes_before a b (n + 1) = bytes_before-rises a b n (n + 1) one (omega arith) in
    let more : sum (map (slice_bytes a b) (range_with_len 0 (n + 1))) ≡ bytes_before a b (n + 1) = step ∙ omega (arith, rest, rise) in
    let P : ℕ → Type 0 = λ k. sum (map (slice_bytes a b) (range_with_len 0 k)) ≡ bytes_before a b k in
    subst P (add-one n) more

pub some_share : (a b n : ℕ) → 1 ≤ b → b ≤ a → 1 ≤ slice_bytes a b n
some_share a b n one byte =
    let part : n * a / b * b ≤ n * a = le_of_le-div (n * a) b (n * a / b) one (omega arith) in
    let next : n * a / b + 1 ≤ (n + 1) * a / b = le-div_of_le ((n + 1) * a) b (n * a / b + 1) one (omega (arith, part, byte)) in
    omega (arith, next)

-- a slice has no more bytes than all slices have
pub share_most : (a b n count : ℕ) → 1 ≤ b → n < count → slice_bytes a b n ≤ bytes_before a b count
share_most a b n count one lt = omega (arith, bytes_before-rises a b (n + 1) count one (omega arith))
