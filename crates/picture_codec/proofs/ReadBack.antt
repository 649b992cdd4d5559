-- A slice that was written is read back.
use Rattle.std.proofs.Common.{◌≡◌, ◌∙◌, sym, ap, refl, ℕ, ◌+◌, ◌-◌, ◌*◌, ◌≤◌, Bool, true, false, List, [], ◌++◌, length, take, drop, replicate, cond, arith, ℤ}
use Rattle.std.specs.Prelude.{nat_lt}
use Rattle.std.proofs.lemmas.Bool.{le-ltb}
use Rattle.std.proofs.lemmas.List.{append-nil, length-append, length-take, drop-drop}
use Rattle.std.proofs.Math.Seq.{take-append_seam, drop-append_seam}
use Rattle.bit_codes.specs.Bits.{bits_of, binary_after, digits_below}
use Rattle.bit_codes.proofs.CodeOf.{length-digits_below}
use Rattle.bit_codes.proofs.Numbers.{binary_after-digits}
use Rattle.bounded_blocks.specs.Writing.{codes_of, need, filled}
use Rattle.bounded_blocks.specs.Reading.{values}
use Rattle.bounded_blocks.proofs.OneList.{Spells-values}
use Rattle.bounded_blocks.proofs.OneText.{filled-spells}
use Rattle.bounded_blocks.proofs.Needs.{need-most}
use Rattle.slice_geometry.specs.Slicing.{length_bits}
use Rattle.slice_decoder.specs.Slice.{Slice}
use Rattle.slice_encoder.specs.TrialLaws.{AreSmallValues}
use Rattle.picture_codec.specs.Written.{WrittenIsRead}
use Rattle.slice_encoder.proofs.SliceBits.{filled_beyond, fit_from, two_least}

-- the front of two texts by its length, and what is behind it
front_of : (n : ℕ) (a b : List Bool) → length a ≡ n → take n (a ++ b) ≡ a
front_of n a b e = ap (λ (k : ℕ). take k (a ++ b)) (sym e) ∙ take-append_seam a b

back_of : (n : ℕ) (a b : List Bool) → length a ≡ n → drop n (a ++ b) ≡ b
back_of n a b e = ap (λ (k : ℕ). drop k (a ++ b)) (sym e) ∙ drop-append_seam a b

block_values : (vs : List ℤ) (n : ℕ) → AreSmallValues vs → need vs ≤ n → values (length vs) (filled n (codes_of vs)) ≡ vs
block_values vs n small le = Spells-values vs (filled n (codes_of vs)) (filled-spells vs n small le)

-- a slice from the bits of its parts
parts_of : (bits : List Bool) (m lumas colours index ny : ℕ) (head_a head_b luma colour : List Bool) (ys cs : List ℤ) → bits ≡ head_a ++ (head_b ++ (luma ++ colour)) → length head_a ≡ 7 → length head_b ≡ m → length luma ≡ ny
    → binary_after 0 head_a ≡ index → binary_after 0 head_b ≡ ny → values lumas luma ≡ ys → values (2 * colours) colour ≡ cs
    → (let luma_bits = binary_after 0 (take m (drop 7 bits)) in
    let blocks = drop (7 + m) bits in
    let too_long = nat_lt (length blocks) luma_bits in
    let s : Slice = record {
      qindex = binary_after 0 (take 7 bits);
      luma_bits = luma_bits;
      too_long = too_long;
      luma = cond too_long [] (values lumas (take luma_bits blocks));
      colour = cond too_long [] (values (2 * colours) (drop luma_bits blocks));
    } in s)
    ≡ record { qindex = index; luma_bits = ny; too_long = false; luma = ys; colour = cs }
parts_of bits m lumas colours index ny head_a head_b luma colour ys cs e la lb ll ia ib ly lc =
    let first : take 7 bits ≡ head_a = ap (take 7) e ∙ front_of 7 head_a (head_b ++ (luma ++ colour)) la in
    let rest : drop 7 bits ≡ head_b ++ (luma ++ colour) = ap (drop 7) e ∙ back_of 7 head_a (head_b ++ (luma ++ colour)) la in
    let second : take m (drop 7 bits) ≡ head_b = ap (take m) rest ∙ front_of m head_b (luma ++ colour) lb in
    let blocks : drop (7 + m) bits ≡ luma ++ colour = sym (drop-drop m 7 bits) ∙ ap (drop m) rest ∙ back_of m head_b (luma ++ colour) lb in
    let test : nat_lt (length (luma ++ colour)) ny ≡ false = le-ltb (length (luma ++ colour)) ny (omega (arith, length-append luma colour, ll)) in
    let y_bits : take ny (luma ++ colour) ≡ luma = front_of ny luma colour ll in
    let c_bits : drop ny (luma ++ colour) ≡ colour = back_of ny luma colour ll in
    rw (second, blocks, first, ia, ib, test, y_bits, c_bits, ly, lc) refl

pub written_is_read : WrittenIsRead
written_is_read bytes index n l some most small_y small_c pairs fit e =
    let m : ℕ = length_bits (length bytes) in
    let ny : ℕ = need l.luma in
    let nc : ℕ = need l.colour in
    let left : ℕ = 8 * length bytes - 7 - m - ny in
    let f = fit_from (length bytes) l fit in
    let y = take ny (codes_of l.luma) in
    let c = take nc (codes_of l.colour) ++ replicate (left - nc) true in
    let none : ny - ny ≡ 0 = omega arith in
    let y_is : filled ny (codes_of l.luma) ≡ y =
    filled_beyond ny (codes_of l.luma) (omega arith) ∙ ap (λ (k : ℕ). y ++ replicate k true) none ∙ append-nil y
    in
    let c_is : filled left (codes_of l.colour) ≡ c = filled_beyond left (codes_of l.colour) (omega (arith, f.both)) in
    parts_of (bits_of bytes) m (length l.luma) n index ny (digits_below 7 index) (digits_below m ny) y c l.luma l.colour e
    (length-digits_below 7 index) (length-digits_below m ny) (omega (arith, length-take ny (codes_of l.luma), need-most (codes_of l.luma)))
    (binary_after-digits 7 index (omega arith)) (binary_after-digits m ny (omega (arith, f.luma, two_least m)))
    (ap (values (length l.luma)) (sym y_is) ∙ block_values l.luma ny small_y (omega arith))
    (ap (λ (k : ℕ). values k c) (sym pairs) ∙ ap (values (length l.colour)) (sym c_is) ∙ block_values l.colour left small_c (omega (arith, f.both)))
