-- Restoring in 16 bits, index by index.
use Rattle.std.proofs.Common.{◌≡◌, ℕ, zero, suc, ◌+◌, ◌-◌, ◌*◌, ◌/◌, ◌^◌, ◌<◌, ◌≤◌, get_or, sym, ap, subst, ◌∙◌, arith}
use Rattle.std.specs.Prelude.{◌==◌, if◌then◌else◌}
use Rattle.std.proofs.Math.Dec.{leb, leb→le}
use Rattle.std.proofs.Math.Nat.{mul-le-mul_right}
use Rattle.quant_factors.specs.Factors.{factor_of, offset_of, restored_of}
use Rattle.quant_factors.proofs.Tables.{passed}
use Rattle.quant_factors.proofs.QuantLemmas.{restored-zero, restored-some}
use Rattle.slice_decoder.specs.declared.short_restoring.Step.{Step}
use Rattle.slice_decoder.specs.declared.short_restoring.TheConstants.{LIMITS}
use Rattle.slice_decoder.specs.Steps.{restored_by, IsStep}

pub low_factor16 : (i : ℕ) → i < 54 → factor_of i + 1 ≤ 2 ^ 16
unfolding factor_of
low_factor16 i lt = leb→le _ _ (passed (λ k. leb (factor_of k + 1) (2 ^ 16)) 54 tt i lt)

pub low_offset16 : (i : ℕ) → i < 54 → offset_of i + 2 + 1 ≤ 2 ^ 16
unfolding factor_of offset_of
low_offset16 i lt = leb→le _ _ (passed (λ k. leb (offset_of k + 2 + 1) (2 ^ 16)) 54 tt i lt)

room_at : (i : ℕ) → i < 54 → get_or LIMITS i 0 * factor_of i + (offset_of i + 2) + 1 ≤ 2 ^ 16
unfolding factor_of offset_of
room_at i lt = leb→le _ _ (passed (λ k. leb (get_or LIMITS k 0 * factor_of k + (offset_of k + 2) + 1) (2 ^ 16)) 54 tt i lt)

past_at : (i : ℕ) → i < 54 → 2 ^ 16 ≤ (get_or LIMITS i 0 + 1) * factor_of i + (offset_of i + 2)
unfolding factor_of offset_of
past_at i lt = leb→le _ _ (passed (λ k. leb (2 ^ 16) ((get_or LIMITS k 0 + 1) * factor_of k + (offset_of k + 2))) 54 tt i lt)

high_at : (i : ℕ) → i < 74 → 2 ^ 16 ≤ 1 * factor_of (54 + i) + (offset_of (54 + i) + 2)
unfolding factor_of offset_of
high_at i lt = leb→le _ _ (passed (λ k. leb (2 ^ 16) (1 * factor_of (54 + k) + (offset_of (54 + k) + 2))) 74 tt i lt)

-- what is restored within a limit, and past it
low_at : (m i limit : ℕ) → m ≤ limit → limit * factor_of i + (offset_of i + 2) + 1 ≤ 2 ^ 16 → restored_of m i ≤ 2 ^ 14 - 1
low_at zero i limit le room = omega (arith, restored-zero i)
low_at (suc m) i limit le room =
    let product : suc m * factor_of i ≤ limit * factor_of i = mul-le-mul_right (factor_of i) le in
    omega (arith, restored-some (suc m) i (omega arith), product, room)

passes_at : (m i limit : ℕ) → limit < m → 2 ^ 16 ≤ (limit + 1) * factor_of i + (offset_of i + 2) → 2 ^ 14 ≤ restored_of m i
passes_at m i limit lt past =
    let product : (limit + 1) * factor_of i ≤ m * factor_of i = mul-le-mul_right (factor_of i) (omega (arith, lt)) in
    omega (arith, restored-some m i (omega (arith, lt)), product, past)

restored-same : (m i factor add : ℕ) → factor ≡ factor_of i → add ≡ offset_of i + 2 → restored_by factor add m ≡ restored_of m i
unfolding restored_of
restored-same m i factor add factor_is add_is =
    let sum : m * factor_of i + (offset_of i + 2) ≡ m * factor_of i + offset_of i + 2 = omega arith in
    ap (λ (f : ℕ). restored_by f add m) factor_is ∙ ap (λ (a : ℕ). restored_by (factor_of i) a m) add_is
    ∙ ap (λ (n : ℕ). if m == 0 then 0 else n / 4) sum

pub low-step : (i : ℕ) (s : Step) → i < 54 → s.factor ≡ factor_of i → s.add ≡ offset_of i + 2 → s.limit ≡ get_or LIMITS i 0 → IsStep i s
low-step i s lt factor_is add_is limit_is =
    let room : s.limit * factor_of i + (offset_of i + 2) + 1 ≤ 2 ^ 16 =
    subst (λ (n : ℕ). n * factor_of i + (offset_of i + 2) + 1 ≤ 2 ^ 16) (sym limit_is) (room_at i lt) in
    let past : 2 ^ 16 ≤ (s.limit + 1) * factor_of i + (offset_of i + 2) =
    subst (λ (n : ℕ). 2 ^ 16 ≤ (n + 1) * factor_of i + (offset_of i + 2)) (sym limit_is) (past_at i lt) in
    let product : s.limit * s.factor ≡ s.limit * factor_of i = ap (λ (f : ℕ). s.limit * f) factor_is in
    record {
      room = omega (arith, room, product, add_is);
      same = λ m le. restored-same m i s.factor s.add factor_is add_is;
      low = λ m le. low_at m i s.limit le room;
      past = λ m above. passes_at m i s.limit above past;
    }

-- at these nothing but 0 is restored in 16 bits
pub high-step : (i : ℕ) (s : Step) → 54 ≤ i → i ≤ 127 → s.factor ≡ 0 → s.add ≡ 0 → s.limit ≡ 0 → IsStep i s
high-step i s high most factor_is add_is limit_is =
    let whole : 54 + (i - 54) ≡ i = omega arith in
    let past : 2 ^ 16 ≤ 1 * factor_of i + (offset_of i + 2) =
    subst (λ (n : ℕ). 2 ^ 16 ≤ 1 * factor_of n + (offset_of n + 2)) whole (high_at (i - 54) (omega arith)) in
    let none : s.limit * s.factor ≡ 0 = omega (arith, ap (λ (n : ℕ). n * s.factor) limit_is) in
    record {
      room = omega (arith, none, add_is);
      same = λ m le. zero_same m s.factor s.add (omega (arith, le, limit_is));
      low = λ m le. zero_low m (omega (arith, le, limit_is));
      past = λ m above. passes_at m i 0 (omega (arith, above, limit_is)) past;
    }
  where
    zero_same : (m factor add : ℕ) → m ≡ 0 → restored_by factor add m ≡ restored_of m i
    zero_same m factor add is = ap (restored_by factor add) is ∙ sym (restored-zero i) ∙ ap (λ (n : ℕ). restored_of n i) (sym is)

    zero_low : (m : ℕ) → m ≡ 0 → restored_of m i ≤ 2 ^ 14 - 1
    zero_low m is = omega (arith, ap (λ (n : ℕ). restored_of n i) is, restored-zero i)
