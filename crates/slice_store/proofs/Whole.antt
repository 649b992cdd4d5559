-- With a strip for each row of slices the numbers are as many as the padded component's places.
use Rattle.std.proofs.Common.{◌≡◌, refl, ap, sym, ◌∙◌, ℕ, zero, suc, Bool, false, ◌+◌, ◌-◌, ◌*◌, ◌/◌, ◌^◌, ◌≤◌, arith}
use Rattle.std.specs.Prelude.{◌==◌, if◌then◌else◌}
use Rattle.std.proofs.lemmas.Bool.Decides.{nat_tests}
use Rattle.std.proofs.lemmas.Nat.{div-mul-add, pow-add, pow_pos}
use Rattle.slice_geometry.specs.declared.Size.{Size}
use Rattle.slice_geometry.specs.Slicing.{Slicing}
use Rattle.slice_geometry.specs.Geometry.{band_size, band_length, padded_length}
use Rattle.slice_store.specs.Places.{IsCut}
use Rattle.slice_store.specs.Sides.{left, top, tall}
use Rattle.slice_store.specs.Room.{strip_start}
use Rattle.slice_store.proofs.Sizes.{rows_rise, all_left, all_top}
use Rattle.slice_store.proofs.Sums.{in_front, all_in_front}
use Rattle.slice_store.proofs.Starts.{numbers_all}

-- how many numbers of LL a padded length has
abbrev lowest : ℕ → ℕ → ℕ
lowest depth length = (length + 2 ^ depth - 1) / 2 ^ depth

two_more : (k : ℕ) → 2 ^ suc k ≡ 2 * 2 ^ k
two_more k = omega arith

pow_split : (d l : ℕ) → l ≤ d → 2 ^ d ≡ 2 ^ l * 2 ^ (d - l)
pow_split d l le =
    let e : d ≡ l + (d - l) = omega (arith, le) in
    ap (λ (n : ℕ). 2 ^ n) e ∙ pow-add 2 l (d - l)

-- a length over a power of two
over_power : (d l m : ℕ) → l ≤ d → 2 ^ d * m / 2 ^ (d - l) ≡ 2 ^ l * m
over_power d l m le =
    let p : ℕ = 2 ^ (d - l) in
    let turn : (a b c : ℕ) → a * b * c ≡ a * c * b + 0 = λ a b c. omega arith in
    ap (λ (n : ℕ). n / p) (ap (λ (n : ℕ). n * m) (pow_split d l le) ∙ turn (2 ^ l) p m) ∙ div-mul-add (2 ^ l * m) p 0 (pow_pos (d - l))

lowest_band : (depth length : ℕ) → band_length depth 0 length ≡ lowest depth length
lowest_band depth length =
    let e : 2 ^ depth * lowest depth length ≡ lowest depth length * 2 ^ depth + 0 = omega arith in
    ap (λ (n : ℕ). n / 2 ^ depth) e ∙ div-mul-add (lowest depth length) (2 ^ depth) 0 (pow_pos depth)

-- each level doubles
band_above : (depth level length : ℕ) → suc level ≤ depth → band_length depth (suc level) length ≡ 2 ^ level * lowest depth length
band_above depth level length le =
    let above : (suc level == 0) ≡ false = grind (arith, nat_tests) in
    let p : ℕ = padded_length depth length in
    let k : depth - suc level + 1 ≡ depth - level = omega (arith, le) in
    ap (λ (t : Bool). if t then p / 2 ^ depth else p / 2 ^ (depth - suc level + 1)) above
    ∙ ap (λ (n : ℕ). p / 2 ^ n) k ∙ over_power depth level (lowest depth length) (omega (arith, le))

module _ (s : Slicing) (size : Size) where
  -- of the bands of the levels up to this one, the numbers of the rows of slices above
  abbrev above : ℕ → ℕ → ℕ
  above zero sy = left s size 0 s.slices_x * top s size 0 sy
  above (suc level) sy = above level sy + 3 * (left s size (suc level) s.slices_x * top s size (suc level) sy)

  none_above : (level : ℕ) → above level 0 ≡ 0
  none_above zero =
      let e : top s size 0 0 ≡ 0 = omega arith in
      ap (λ (n : ℕ). left s size 0 s.slices_x * n) e ∙ omega arith
  none_above (suc level) =
      let e : top s size (suc level) 0 ≡ 0 = omega arith in
      let none : left s size (suc level) s.slices_x * top s size (suc level) 0 ≡ 0 = ap (λ (n : ℕ). left s size (suc level) s.slices_x * n) e ∙ omega arith in
      omega (arith, none, none_above level)

  -- how many numbers the bands of the levels up to this one have
  abbrev total : ℕ → ℕ
  total zero = (band_size s.depth 0 size).w * (band_size s.depth 0 size).h
  total (suc level) = total level + 3 * ((band_size s.depth (suc level) size).w * (band_size s.depth (suc level) size).h)

  total_is : (level : ℕ) → level ≤ s.depth → total level ≡ 2 ^ level * lowest s.depth size.w * (2 ^ level * lowest s.depth size.h)
  total_is zero le =
      let one : (a b : ℕ) → a * b ≡ 1 * a * (1 * b) = λ a b. omega arith in
      ap (λ (n : ℕ). n * (band_size s.depth 0 size).h) (lowest_band s.depth size.w) ∙ ap (λ (n : ℕ). lowest s.depth size.w * n) (lowest_band s.depth size.h)
      ∙ one (lowest s.depth size.w) (lowest s.depth size.h)
  total_is (suc level) le =
      let a : ℕ = 2 ^ level * lowest s.depth size.w in
      let b : ℕ = 2 ^ level * lowest s.depth size.h in
      let here : (band_size s.depth (suc level) size).w * (band_size s.depth (suc level) size).h ≡ a * b =
      ap (λ (n : ℕ). n * (band_size s.depth (suc level) size).h) (band_above s.depth level size.w le) ∙ ap (λ (n : ℕ). a * n) (band_above s.depth level size.h le) in
      let four : (p m n : ℕ) → p * m * (p * n) + 3 * (p * m * (p * n)) ≡ 2 * p * m * (2 * p * n) = λ p m n. omega arith in
      let double : 2 ^ suc level ≡ 2 * 2 ^ level = two_more level in
      omega (arith, total_is level (omega (arith, le)), here, four (2 ^ level) (lowest s.depth size.w) (lowest s.depth size.h)) ∙ ap (λ (p : ℕ). p * lowest s.depth size.w * (p * lowest s.depth size.h)) (sym double)

  module _ (cut : IsCut s size) where
    taller : (level sy : ℕ) → left s size level s.slices_x * top s size level (sy + 1) ≡ left s size level s.slices_x * top s size level sy + left s size level s.slices_x * tall s size level sy
    taller level sy =
        let e : top s size level (sy + 1) ≡ top s size level sy + tall s size level sy = omega (arith, rows_rise s size cut level sy) in
        let split : (a b c : ℕ) → a * (b + c) ≡ a * b + a * c = λ a b c. omega arith in
        ap (λ (n : ℕ). left s size level s.slices_x * n) e ∙ split (left s size level s.slices_x) (top s size level sy) (tall s size level sy)

    next_above : (level sy : ℕ) → above level (sy + 1) ≡ above level sy + in_front s size level s.slices_x sy
    next_above zero sy = taller 0 sy
    next_above (suc level) sy = omega (arith, next_above level sy, taller (suc level) sy)

    starts_above : (k : ℕ) → strip_start s size s.slices_y k ≡ above s.depth k
    starts_above zero = sym (none_above s.depth)
    starts_above (suc k) =
        let e : k + 1 ≡ suc k = omega arith in
        omega (arith, starts_above k, numbers_all s size s.slices_y k refl, all_in_front s size s.slices_x k cut.slices.some_across, next_above s.depth k) ∙ ap (λ (n : ℕ). above s.depth n) e

    all_above : (level : ℕ) → above level s.slices_y ≡ total level
    all_above zero = ap (λ (n : ℕ). n * top s size 0 s.slices_y) (all_left s size cut 0) ∙ ap (λ (n : ℕ). (band_size s.depth 0 size).w * n) (all_top s size cut 0)
    all_above (suc level) =
        let here : left s size (suc level) s.slices_x * top s size (suc level) s.slices_y ≡ (band_size s.depth (suc level) size).w * (band_size s.depth (suc level) size).h =
        ap (λ (n : ℕ). n * top s size (suc level) s.slices_y) (all_left s size cut (suc level)) ∙ ap (λ (n : ℕ). (band_size s.depth (suc level) size).w * n) (all_top s size cut (suc level)) in
        omega (arith, here, all_above level)

    pub all_strips : strip_start s size s.slices_y s.slices_y ≡ padded_length s.depth size.w * padded_length s.depth size.h
    all_strips = starts_above s.slices_y ∙ all_above s.depth ∙ total_is s.depth (omega arith)
