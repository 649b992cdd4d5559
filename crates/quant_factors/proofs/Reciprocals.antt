-- A product in place of a division.
use Rattle.std.proofs.Common.{◌≡◌, ℕ, ◌+◌, ◌*◌, ◌/◌, ◌<◌, ◌≤◌, inl, inr, arith}
use Rattle.std.proofs.lemmas.Bool.{cases_lt}
use Rattle.std.proofs.Math.Nat.{div-lt_iff_lt-mul, le-div_iff_mul-le, mul-le-mul_left, mul-le-mul_right, div-mul-le_self, lt-div-mul-add, mul_assoc, mul_right_comm}

-- m is one over f in units of one over `unit`, rounded up
module _ (unit n f m : ℕ) (some : 1 ≤ f) (least : unit ≤ f * m) (most : f * m ≤ unit + f) (few : n * f < unit) where
  not_less : n / f * unit ≤ n * m
  not_less =
      let q = n / f in
      let one : q * unit ≤ q * (f * m) = mul-le-mul_left q least in
      let two : q * f * m ≤ n * m = mul-le-mul_right m (div-mul-le_self n f) in
      omega (arith, one, two, mul_assoc q f m)

  -- n * m is below the next multiple of the unit, since f times both are so
  not_more : n * m < (n / f + 1) * unit
  not_more = elim (cases_lt (n * m) ((n / f + 1) * unit)) [
    | inl lt ↦ lt
    | inr le ↦
        let q = n / f in
        let one : (q + 1) * unit * f ≤ n * m * f = mul-le-mul_right f le in
        let two : n * (f * m) ≤ n * (unit + f) = mul-le-mul_left n most in
        let above : n + 1 ≤ (q + 1) * f = omega (arith, lt-div-mul-add {a = n} {b = f} (omega (arith, some))) in
        let three : (n + 1) * unit ≤ (q + 1) * f * unit = mul-le-mul_right unit above in
        absurd (omega (arith, one, two, three, few, mul_right_comm (q + 1) unit f, mul_right_comm n m f, mul_assoc n f m))
  ]

  pub product_divides : n * m / unit ≡ n / f
  product_divides =
      let least_unit : 0 < unit = omega (arith, few) in
      omega (arith, (le-div_iff_mul-le {k = unit} {x = n / f} {y = n * m} least_unit).1 not_less, (div-lt_iff_lt-mul {k = unit} {x = n * m} {y = n / f + 1} least_unit).1 not_more)
