-- The bits of a slice's head.
use Rattle.std.proofs.Common.{◌≡◌, ℕ, ◌^◌, ◌<◌, ◌≤◌, Bool, true, false, List, length, take, Ok, Err, Result, sym, ap, subst, arith, cond}
use Rattle.std.specs.Prelude.{nat_lt}
use Rattle.std.proofs.Math.Nat.{pow-le-pow_right}
use Rattle.std.proofs.lemmas.List.{length-take}
use Rattle.bit_codes.specs.declared.Short.{Short}
use Rattle.bit_codes.specs.Bits.{binary_after, Cursor}
use Rattle.bit_codes.specs.Codes.{bits_at}
use Rattle.bit_codes.proofs.Numbers.{binary_after-below}

abbrev number_in_ok : Result (ℕ × Cursor) Short → ℕ
number_in_ok (Ok p) = p.0
number_in_ok (Err e) = 0

picked : (b : Bool) (s : Short) (x v : ℕ) (c c' : Cursor) → cond {A = Result (ℕ × Cursor) Short} b (Err s) (Ok (x, c)) ≡ Ok (v, c') → v ≡ x
picked true s x v c c' h = cc
picked false s x v c c' h = sym (ap number_in_ok h)

pub bits-number : (c c' : Cursor) (n v : ℕ) → bits_at n c ≡ Ok (v, c') → v ≡ binary_after 0 (take n c.rest)
bits-number c c' n v h = picked (nat_lt (length c.rest) n) _ (binary_after 0 (take n c.rest)) v _ c' h

pub number-small : (bits : List Bool) (n : ℕ) → n ≤ length bits → binary_after 0 (take n bits) < 2 ^ n
number-small bits n le =
    let whole : length (take n bits) ≡ n = omega (arith, length-take n bits) in
    let P : ℕ → Type 0 = λ k. binary_after 0 (take n bits) < 2 ^ k in
    subst P whole (binary_after-below (take n bits))

pub fits_32 : (v n : ℕ) → n ≤ 31 → v < 2 ^ n → v < 2 ^ 32
fits_32 v n le lt =
    let most : 2 ^ n ≤ 2 ^ 31 = pow-le-pow_right {n = 2} (omega arith) le in
    omega (arith, most, lt)
