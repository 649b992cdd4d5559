-- Eight numbers in two vectors, put apart.
use Rattle.std.proofs.Common.{◌≡◌, ℕ, ◌+◌, ◌-◌, ◌<◌, ◌≤◌, List, ◌++◌, length, get_or, take, drop, map, ℤ, pos, to_z, of_z, w32, refl, ap, ◌∙◌, inl, inr, arith}
use Rattle.std.proofs.lemmas.Bool.{cases_lt}
use Rattle.std.proofs.lemmas.List.{get_or-take, get_or-drop, get_or_append_left, length-take-le, length-drop, length-map, get_or-map, get_or-append_right}
use Rattle.std.proofs.lemmas.Simd.{length-chunk, get_or-chunk}
use lib.Lanes.{chunk}
use Rattle.dc_prediction.specs.Restoring.{IsNarrow}
use Rattle.slice_decoder.proofs.NarrowBands.{in-32-bits}

-- four numbers of a list, as a vector holds them
abbrev loaded : List ℤ → ℕ → ℕ → List ℕ
loaded values from to = map (of_z w32) (chunk 0 4 (take (to - from) (drop from values)))

length-part : (values : List ℤ) (from to : ℕ) → to ≡ from + 4 → to ≤ length values → length (chunk 0 4 (take (to - from) (drop from values))) ≡ 4
length-part values from to is le =
    let long : length (take (to - from) (drop from values)) ≡ to - from = length-take-le (to - from) (drop from values)
    (omega (arith, length-drop from values)) in
    length-chunk 0 4 (take (to - from) (drop from values)) (omega (arith, long))

lane : (values : List ℤ) (from to i : ℕ) → to ≡ from + 4 → i < 4 → to ≤ length values → get_or (loaded values from to) i 0 ≡ of_z w32
    (get_or values (from + i) (pos 0))
lane values from to i is lt le =
    let part : List ℤ = take (to - from) (drop from values) in
    let here : 0 + i ≡ i = omega arith in
    get_or-map (of_z w32) (chunk 0 4 part) i (pos 0) 0 (omega (arith, lt, length-part values from to is le))
    ∙ ap (of_z w32) (get_or-chunk 0 4 part i (pos 0) lt ∙ ap (λ (n : ℕ). get_or part n (pos 0)) here ∙ get_or-take (to - from) (drop from values) i (pos 0)
    (omega arith) ∙ get_or-drop from values i (pos 0))

length-loaded : (values : List ℤ) (from to : ℕ) → to ≡ from + 4 → to ≤ length values → length (loaded values from to) ≡ 4
length-loaded values from to is le = length-map (chunk 0 4 (take (to - from) (drop from values))) (of_z w32) ∙ length-part values from to is le

both : (values : List ℤ) (from i : ℕ) → i < 8 → from + 8 ≤ length values
    → get_or (loaded values from (from + 4) ++ loaded values (from + 4) (from + 8)) i 0 ≡ of_z w32 (get_or values (from + i) (pos 0))
both values from i lt le =
    let four : length (loaded values from (from + 4)) ≡ 4 = length-loaded values from (from + 4) refl (omega arith) in
    elim (cases_lt i 4) [
      | inl front ↦ get_or_append_left (loaded values from (from + 4)) (loaded values (from + 4) (from + 8)) 0 i (omega (arith, four)) ∙ lane values from
          (from + 4) i refl front (omega arith)
      | inr back ↦
          let place : from + 4 + (i - 4) ≡ from + i = omega arith in
          get_or-append_right (loaded values from (from + 4)) (loaded values (from + 4) (from + 8)) 4 i 0 four back
          ∙ lane values (from + 4) (from + 8) (i - 4) (omega arith) (omega arith) le
          ∙ ap (λ (n : ℕ). of_z w32 (get_or values n (pos 0))) place
    ]

-- a lane of two vectors that hold eight numbers
pub lane-at : (values : List ℤ) (from i : ℕ) → i < 8 → from + 8 ≤ length values → IsNarrow (get_or values (from + i) (pos 0))
    → to_z w32 (of_z w32 (to_z w32 (get_or (loaded values from (from + 4) ++ loaded values (from + 4) (from + 8)) i 0))) ≡ get_or values (from + i) (pos 0)
lane-at values from i lt le narrow =
    let v : ℤ = get_or values (from + i) (pos 0) in
    ap (λ (n : ℕ). to_z w32 (of_z w32 (to_z w32 n))) (both values from i lt le) ∙ ap (λ (z : ℤ). to_z w32 (of_z w32 z)) (in-32-bits v narrow)
    ∙ in-32-bits v narrow
