-- Texts that are put into a room one behind the other.
use Rattle.std.proofs.Common.{◌≡◌, ◌∙◌, refl, sym, ap, subst, ℕ, ◌+◌, ◌*◌, ◌<◌, ◌≤◌, Bool, List, [], ◌++◌, length, take, drop, get_or, append_assoc, arith, ℤ, pos, negsuc, of_z, to_z, w32, w64}
use Rattle.std.proofs.lemmas.List.{append-nil, length-append, take-append-drop}
use Rattle.std.proofs.lemmas.Grind.{flat_map-append}
use Rattle.std.proofs.lemmas.Int.{ints}
use Rattle.std.proofs.Math.Seq.{take-add}
use Rattle.bit_codes.specs.Bits.{bits_of, digits_below}
use Rattle.bit_codes.specs.Codes.{signed_code_of}
use Rattle.bounded_blocks.specs.Parts.{IsSmall}
use Rattle.bounded_blocks.specs.Writing.{codes_of}
use Rattle.bounded_blocks.proofs.CodeLengths.{codes_of-next}
use Rattle.slice_encoder.specs.declared.bit_queues.BitQueue.{BitQueue}
use Rattle.slice_encoder.specs.BlockValues.{IsIn32}
use Rattle.slice_encoder.specs.BitQueues.{bits_so_far, HasRoom, IsSent}

pub sent_nothing : (room : List ℕ) (q : BitQueue) → q.count < 8 → IsSent room q room q []
sent_nothing room q waits = record {
  same_length = refl;
  waits = waits;
  place = omega arith;
  written = sym (append-nil (bits_so_far room q));
}

pub sent_join : (room : List ℕ) (q : BitQueue) (room1 : List ℕ) (q1 : BitQueue) (room2 : List ℕ) (q2 : BitQueue) (x y : List Bool) → IsSent room q room1 q1 x → IsSent room1 q1 room2 q2 y → IsSent room q room2 q2 (x ++ y)
sent_join room q room1 q1 room2 q2 x y f g = record {
  same_length = g.same_length ∙ f.same_length;
  waits = g.waits;
  place = omega (arith, f.place, g.place, length-append x y);
  written = g.written ∙ ap (λ (t : List Bool). t ++ y) f.written ∙ append_assoc (bits_so_far room q) x y;
}

-- the same by other names of what it left
pub sent_as : (room : List ℕ) (q : BitQueue) (room1 : List ℕ) (q1 : BitQueue) (room2 : List ℕ) (q2 : BitQueue) (text : List Bool) → IsSent room q room1 q1 text → room2 ≡ room1 → q2 ≡ q1 → IsSent room q room2 q2 text
sent_as room q room1 q1 room2 q2 text f same_room same_queue = subst (λ (r : List ℕ). IsSent room q r q2 text) (sym same_room) (subst (λ (x : BitQueue). IsSent room q room1 x text) (sym same_queue) f)

-- what is left of a room behind a text
pub room_behind : (room : List ℕ) (q : BitQueue) (room1 : List ℕ) (q1 : BitQueue) (text : List Bool) (bits more : ℕ) → HasRoom (length room) q bits → IsSent room q room1 q1 text → length text + more ≤ bits → HasRoom (length room1) q1 more
room_behind room q room1 q1 text bits more has f le = record { waits = f.waits; inside = omega (arith, has.inside, f.place, f.same_length, le) }

-- for less there is room, too
pub room_for : (room : ℕ) (q : BitQueue) (bits less : ℕ) → HasRoom room q bits → less ≤ bits → HasRoom room q less
room_for room q bits less has le = record { waits = has.waits; inside = omega (arith, has.inside, le) }

-- a small value is a number of the code
pub told : (v : ℤ) → IsSmall v → to_z w64 (of_z w64 v) ≡ v
told (pos n) small = omega (arith, ints)
told (negsuc n) small = omega (arith, ints)

-- and one in 32 bits of that width, too
pub told_32 : (v : ℤ) → IsIn32 v → to_z w32 (of_z w32 v) ≡ v
told_32 (pos n) small = omega (arith, ints)
told_32 (negsuc n) small = omega (arith, ints)

pub small_32 : (v : ℤ) → IsIn32 v → IsSmall v
small_32 v small = omega (arith, small)

pub widened : (v z : ℤ) → IsIn32 v → z ≡ to_z w32 (of_z w32 v) → to_z w64 (of_z w64 z) ≡ v
widened v z small is = ap (λ (y : ℤ). to_z w64 (of_z w64 y)) (is ∙ told_32 v small) ∙ told v (small_32 v small)

-- the codes of the values from one place to another
pub codes_from : (vs : List ℤ) (n k : ℕ) → codes_of (take (n + k) vs) ≡ codes_of (take n vs) ++ codes_of (take k (drop n vs))
codes_from vs n k = ap codes_of (take-add n k vs) ∙ flat_map-append signed_code_of (take n vs) (take k (drop n vs))

-- the codes up to a place are no longer than all
pub codes_most : (vs : List ℤ) (n : ℕ) → length (codes_of (take n vs)) ≤ length (codes_of vs)
codes_most vs n =
    let whole : codes_of vs ≡ codes_of (take n vs) ++ codes_of (drop n vs) = sym (ap codes_of (take-append-drop n vs)) ∙ flat_map-append signed_code_of (take n vs) (drop n vs) in
    omega (arith, ap (λ (t : List Bool). length t) whole, length-append (codes_of (take n vs)) (codes_of (drop n vs)))

codes_two : (vs : List ℤ) (n : ℕ) → n + 1 < length vs → codes_of (take (n + 2) vs) ≡ codes_of (take n vs) ++ (signed_code_of (get_or vs n (pos 0)) ++ signed_code_of (get_or vs (n + 1) (pos 0)))
codes_two vs n inside =
    let v = get_or vs n (pos 0) in
    let w = get_or vs (n + 1) (pos 0) in
    let two : n + 2 ≡ n + 1 + 1 = omega arith in
    ap (λ (k : ℕ). codes_of (take k vs)) two
    ∙ codes_of-next vs (n + 1) inside
    ∙ ap (λ (t : List Bool). t ++ signed_code_of w) (codes_of-next vs n (omega (arith, inside)))
    ∙ append_assoc (codes_of (take n vs)) (signed_code_of v) (signed_code_of w)

codes_four : (vs : List ℤ) (n : ℕ) (front back : List Bool) → n + 3 < length vs
    → front ≡ signed_code_of (get_or vs n (pos 0)) ++ signed_code_of (get_or vs (n + 1) (pos 0))
    → back ≡ signed_code_of (get_or vs (n + 2) (pos 0)) ++ signed_code_of (get_or vs (n + 3) (pos 0))
    → codes_of (take (n + 4) vs) ≡ codes_of (take n vs) ++ (front ++ back)
codes_four vs n front back inside front_is back_is =
    let four : n + 4 ≡ n + 2 + 2 = omega arith in
    let three : n + 3 ≡ n + 2 + 1 = omega arith in
    let back_as : back ≡ signed_code_of (get_or vs (n + 2) (pos 0)) ++ signed_code_of (get_or vs (n + 2 + 1) (pos 0)) =
    back_is ∙ ap (λ (k : ℕ). signed_code_of (get_or vs (n + 2) (pos 0)) ++ signed_code_of (get_or vs k (pos 0))) three
    in
    ap (λ (k : ℕ). codes_of (take k vs)) four
    ∙ codes_two vs (n + 2) (omega (arith, inside))
    ∙ ap (λ (t : List Bool). codes_of (take (n + 2) vs) ++ t) (sym back_as)
    ∙ ap (λ (t : List Bool). t ++ back) (codes_two vs n (omega (arith, inside)) ∙ ap (λ (t : List Bool). codes_of (take n vs) ++ t) (sym front_is))
    ∙ append_assoc (codes_of (take n vs)) front back

-- ---- a list's codes, of which those of the first n values are put

module _ (vs : List ℤ) (n : ℕ) (room : List ℕ) (q : BitQueue) (room1 : List ℕ) (q1 : BitQueue) (f : IsSent room q room1 q1 (codes_of (take n vs))) where
  -- room for those of the next k
  pub room_next : (k : ℕ) → HasRoom (length room) q (length (codes_of vs)) → HasRoom (length room1) q1 (length (codes_of (take k (drop n vs))))
  room_next k has =
      room_behind room q room1 q1 (codes_of (take n vs)) (length (codes_of vs)) (length (codes_of (take k (drop n vs)))) has f
      (omega (arith, ap (λ (t : List Bool). length t) (codes_from vs n k), length-append (codes_of (take n vs)) (codes_of (take k (drop n vs))), codes_most vs (n + k)))

  pub room_one : n < length vs → HasRoom (length room) q (length (codes_of vs)) → HasRoom (length room1) q1 (length (signed_code_of (get_or vs n (pos 0))))
  room_one lt has =
      room_behind room q room1 q1 (codes_of (take n vs)) (length (codes_of vs)) (length (signed_code_of (get_or vs n (pos 0)))) has f
      (omega (arith, ap (λ (t : List Bool). length t) (codes_of-next vs n lt), length-append (codes_of (take n vs)) (signed_code_of (get_or vs n (pos 0))), codes_most vs (n + 1)))

  pub sent_next : (k : ℕ) (room2 : List ℕ) (q2 : BitQueue) → IsSent room1 q1 room2 q2 (codes_of (take k (drop n vs))) → IsSent room q room2 q2 (codes_of (take (n + k) vs))
  sent_next k room2 q2 g =
      subst (λ (t : List Bool). IsSent room q room2 q2 t) (sym (codes_from vs n k)) (sent_join room q room1 q1 room2 q2 (codes_of (take n vs)) (codes_of (take k (drop n vs))) f g)

  pub sent_one : n < length vs → (room2 : List ℕ) (q2 : BitQueue) → IsSent room1 q1 room2 q2 (signed_code_of (get_or vs n (pos 0))) → IsSent room q room2 q2 (codes_of (take (n + 1) vs))
  sent_one lt room2 q2 g =
      subst (λ (t : List Bool). IsSent room q room2 q2 t) (sym (codes_of-next vs n lt)) (sent_join room q room1 q1 room2 q2 (codes_of (take n vs)) (signed_code_of (get_or vs n (pos 0))) f g)

  module _ (front back : List Bool) (inside : n + 3 < length vs)
      (front_is : front ≡ signed_code_of (get_or vs n (pos 0)) ++ signed_code_of (get_or vs (n + 1) (pos 0)))
      (back_is : back ≡ signed_code_of (get_or vs (n + 2) (pos 0)) ++ signed_code_of (get_or vs (n + 3) (pos 0))) where
    pub room_four : HasRoom (length room) q (length (codes_of vs)) → HasRoom (length room1) q1 (length front + length back)
    room_four has =
        room_behind room q room1 q1 (codes_of (take n vs)) (length (codes_of vs)) (length front + length back) has f
        (omega (arith, ap (λ (t : List Bool). length t) (codes_four vs n front back inside front_is back_is), length-append (codes_of (take n vs)) (front ++ back), length-append front back, codes_most vs (n + 4)))

    pub sent_four : (room2 : List ℕ) (q2 : BitQueue) → IsSent room1 q1 room2 q2 (front ++ back) → IsSent room q room2 q2 (codes_of (take (n + 4) vs))
    sent_four room2 q2 g =
        subst (λ (t : List Bool). IsSent room q room2 q2 t) (sym (codes_four vs n front back inside front_is back_is)) (sent_join room q room1 q1 room2 q2 (codes_of (take n vs)) (front ++ back) f g)

-- where whole bytes are put, these stand in the room's first bytes
pub room_read : (room : List ℕ) (q : BitQueue) (n : ℕ) → q.count < 8 → 8 * q.whole + q.count ≡ 8 * n → bits_of (take n room) ≡ bits_so_far room q
room_read room q n waits place =
    let none : q.count ≡ 0 = omega (arith, waits, place) in
    let here : q.whole ≡ n = omega (arith, waits, place) in
    sym
    (ap (λ (k : ℕ). bits_of (take k room) ++ digits_below q.count q.number) here
    ∙ ap (λ (k : ℕ). bits_of (take n room) ++ digits_below k q.number) none
    ∙ append-nil (bits_of (take n room)))
