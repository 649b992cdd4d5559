-- What a look at values tells of how far their codes reach, and of what they need.
use Rattle.std.proofs.Common.{◌≡◌, ◌≢◌, ◌∙◌, sym, ap, subst, ℕ, zero, suc, ◌+◌, ◌-◌, ◌*◌, ◌<◌, ◌≤◌, Bool, List, [], ◌∷◌, ◌++◌, length, take, drop, replicate, true, append_assoc, get_or, arith, ℤ, pos}
use Rattle.std.proofs.Math.Seq.{take-append_seam, take-append-add, get_or-append_right}
use Rattle.std.proofs.lemmas.List.{take_all, take_more, take-append-le, take-append-drop, length-append}
use Rattle.std.proofs.lemmas.Grind.{flat_map-append}
use Rattle.bit_codes.specs.Bits.{digits_below}
use Rattle.bit_codes.specs.Codes.{signed_code_of}
use Rattle.bounded_blocks.specs.Parts.{IsSmall}
use Rattle.bounded_blocks.specs.Writing.{codes_of, need}
use Rattle.bounded_blocks.proofs.Needs.{codes-more, code-zero, need-most}
use Rattle.slice_geometry.specs.Slicing.{length_bits}
use Rattle.slice_encoder.specs.declared.looks.Look.{Look}
use Rattle.slice_encoder.specs.Gathering.{reach}
use Rattle.slice_encoder.specs.Looks.{IsLook}
use Rattle.slice_encoder.specs.Choice.{slice_bits}
use Rattle.slice_encoder.proofs.LastValues.{need_without, need_with}
use Rattle.slice_encoder.proofs.LastReaches.{reach_without, reach_to_last}

-- ---- values of which the last ones are zeros

module _ (vs : List ℤ) (n : ℕ) (zeros : (k : ℕ) → n ≤ k → k < length vs → get_or vs k (pos 0) ≡ pos 0) where
  need_more : (m : ℕ) → n + m ≤ length vs → need (take (n + m) vs) ≡ need (take n vs)
  need_more zero le = let same : n + 0 ≡ n = omega arith in ap (λ (k : ℕ). need (take k vs)) same
  need_more (suc m) le =
      let up : n + suc m ≡ n + m + 1 = omega arith in
      ap (λ (k : ℕ). need (take k vs)) up ∙ need_without vs (n + m) (omega (arith, le)) (zeros (n + m) (omega arith) (omega (arith, le))) ∙ need_more m (omega (arith, le))

  reach_more : (m : ℕ) → n + m ≤ length vs → reach (take (n + m) vs) 0 ≡ reach (take n vs) 0
  reach_more zero le = let same : n + 0 ≡ n = omega arith in ap (λ (k : ℕ). reach (take k vs) 0) same
  reach_more (suc m) le =
      let up : n + suc m ≡ n + m + 1 = omega arith in
      ap (λ (k : ℕ). reach (take k vs) 0) up ∙ reach_without vs (n + m) (omega (arith, le)) (zeros (n + m) (omega arith) (omega (arith, le))) ∙ reach_more m (omega (arith, le))

  codes_more : (m : ℕ) → n + m ≤ length vs → length (codes_of (take (n + m) vs)) ≡ length (codes_of (take n vs)) + m
  codes_more zero le = let same : n + 0 ≡ n = omega arith in omega (arith, ap (λ (k : ℕ). length (codes_of (take k vs))) same)
  codes_more (suc m) le =
      let up : n + suc m ≡ n + m + 1 = omega arith in
      let v : ℤ = get_or vs (n + m) (pos 0) in
      let front = take (n + m) vs in
      omega (
        arith,
        ap (λ (k : ℕ). length (codes_of (take k vs))) up,
        ap (λ (t : List ℤ). length (codes_of t)) (take_more vs (n + m) (pos 0) (omega (arith, le))),
        ap (λ (t : List Bool). length t) (codes-more front v),
        length-append (codes_of front) (signed_code_of v),
        ap (λ (z : ℤ). length (signed_code_of z)) (zeros (n + m) (omega arith) (omega (arith, le))),
        ap (λ (t : List Bool). length t) code-zero,
        codes_more m (omega (arith, le)),
      )

  all_taken : n ≤ length vs → take (n + (length vs - n)) vs ≡ vs
  all_taken le = take_all (n + (length vs - n)) vs (omega arith)

  pub need_front : n ≤ length vs → need vs ≡ need (take n vs)
  need_front le = sym (ap need (all_taken le)) ∙ need_more (length vs - n) (omega (arith, le))

  pub reach_of_front : n ≤ length vs → reach vs 0 ≡ reach (take n vs) 0
  reach_of_front le = sym (ap (λ (t : List ℤ). reach t 0) (all_taken le)) ∙ reach_more (length vs - n) (omega (arith, le))

  pub codes_front : n ≤ length vs → length (codes_of vs) ≡ length (codes_of (take n vs)) + (length vs - n)
  codes_front le = sym (ap (λ (t : List ℤ). length (codes_of t)) (all_taken le)) ∙ codes_more (length vs - n) (omega (arith, le))

-- ---- how far codes reach

pub look_reaches : (l : Look) (vs : List ℤ) → IsLook l vs → reach vs 0 ≡ l.last + 3 * l.some + 2 * l.more
look_reaches l vs is =
    omega (
      arith,
      reach_of_front vs l.last is.zeros is.most,
      reach_to_last vs l.last is.most is.some,
      codes_front vs l.last is.zeros is.most,
      is.bits,
      is.most,
    )

-- ---- what values need

module _ (front behind : List ℤ) where
  abbrev whole : List ℤ
  whole = front ++ behind

  here : (k : ℕ) → length front ≤ k → get_or (front ++ behind) k (pos 0) ≡ get_or behind (k - length front) (pos 0)
  here k le = get_or-append_right front behind k (pos 0) le

  -- where nothing is left of the others
  pub need_of_none : (l : Look) → IsLook l behind → l.last ≡ 0 → need (front ++ behind) ≡ need front
  need_of_none l is none =
      let size = length-append front behind in
      need_front (front ++ behind) (length front) (λ k le lt. here k le ∙ is.zeros (k - length front) (omega (arith, none)) (omega (arith, lt, le, size))) (omega (arith, size))
      ∙ ap need (take-append_seam front behind)

  -- where something is left of them, all bits but those at the end of the last one's code
  pub need_of_some : (l : Look) → IsLook l behind → (last : ℤ) → 0 < l.last → last ≡ get_or behind (l.last - 1) (pos 0) → IsSmall last → (ones : ℕ) → ones + need (last ∷ []) ≡ length (codes_of (last ∷ []))
      → length (codes_of front) + (l.last + 3 * l.some + 2 * l.more) - ones ≡ need (front ++ behind)
  need_of_some l is last some last_is small ones ones_are =
      let size = length-append front behind in
      let n : ℕ = length front + l.last in
      let at_end : ℕ = length front + l.last - 1 in
      let up : at_end + 1 ≡ n = omega (arith, some) in
      let inside : at_end < length (front ++ behind) = omega (arith, size, is.most, some) in
      let back : at_end - length front ≡ l.last - 1 = omega (arith, some) in
      let v_is : get_or (front ++ behind) at_end (pos 0) ≡ last = here at_end (omega (arith, some)) ∙ ap (λ (k : ℕ). get_or behind k (pos 0)) back ∙ sym last_is in
      let zeros = λ (k : ℕ) (le : n ≤ k) (lt : k < length (front ++ behind)). here k (omega (arith, le)) ∙ is.zeros (k - length front) (omega (arith, le)) (omega (arith, lt, le, size)) in
      let not_none : get_or (front ++ behind) at_end (pos 0) ≢ pos 0 = λ e. is.some some (sym last_is ∙ sym v_is ∙ e) in
      let v : ℤ = get_or (front ++ behind) at_end (pos 0) in
      omega (
        arith,
        need_front (front ++ behind) n zeros (omega (arith, size, is.most)),
        ap (λ (k : ℕ). need (take k (front ++ behind))) up,
        need_with (front ++ behind) at_end inside not_none (subst IsSmall (sym v_is) small),
        ap (λ (z : ℤ). need (z ∷ [])) v_is,
        codes_front (front ++ behind) n zeros (omega (arith, size, is.most)),
        ap (λ (k : ℕ). length (codes_of (take k (front ++ behind)))) up,
        ap (λ (t : List ℤ). length (codes_of t)) (take_more (front ++ behind) at_end (pos 0) inside),
        ap (λ (t : List Bool). length t) (codes-more (take at_end (front ++ behind)) v),
        length-append (codes_of (take at_end (front ++ behind))) (signed_code_of v),
        ap (λ (t : List Bool). length t) (codes-more [] v),
        ap (λ (z : ℤ). length (codes_of (z ∷ []))) v_is,
        ap (λ (t : List Bool). length t) (flat_map-append signed_code_of front behind),
        length-append (codes_of front) (codes_of behind),
        is.bits,
        is.most,
        size,
        ones_are,
      )

-- ---- a list without the zeros at its end

pub cut_need : (front behind : List ℤ) (l : Look) → IsLook l behind → need (front ++ take l.last behind) ≡ need (front ++ behind)
cut_need front behind l is =
    let size = length-append front behind in
    let n : ℕ = length front + l.last in
    let zeros = λ (k : ℕ) (le : n ≤ k) (lt : k < length (front ++ behind)). here front behind k (omega (arith, le)) ∙ is.zeros (k - length front) (omega (arith, le)) (omega (arith, lt, le, size)) in
    ap need (sym (take-append-add front behind l.last)) ∙ sym (need_front (front ++ behind) n zeros (omega (arith, size, is.most)))

-- all that is needed of its codes is that of the whole list's
pub cut_codes : (front behind : List ℤ) (l : Look) → IsLook l behind → take (need (front ++ take l.last behind)) (codes_of (front ++ take l.last behind)) ≡ take (need (front ++ behind)) (codes_of (front ++ behind))
cut_codes front behind l is =
    let short = front ++ take l.last behind in
    let rest = drop l.last behind in
    let joined : codes_of (front ++ behind) ≡ codes_of short ++ codes_of rest =
    ap (λ (t : List ℤ). codes_of (front ++ t)) (sym (take-append-drop l.last behind)) ∙ ap codes_of (sym (append_assoc front (take l.last behind) rest)) ∙ flat_map-append signed_code_of short rest
    in
    sym
    (ap (λ (n : ℕ). take n (codes_of (front ++ behind))) (sym (cut_need front behind l is))
    ∙ ap (λ (t : List Bool). take (need (front ++ take l.last behind)) t) joined
    ∙ take-append-le (need short) (codes_of short) (codes_of rest) (need-most (codes_of short)))

pub cut_slice : (bytes index : ℕ) (front1 behind1 front2 behind2 : List ℤ) (l1 l2 : Look) → IsLook l1 behind1 → IsLook l2 behind2
    → slice_bits bytes index (record { luma = front1 ++ take l1.last behind1; colour = front2 ++ take l2.last behind2 }) ≡ slice_bits bytes index (record { luma = front1 ++ behind1; colour = front2 ++ behind2 })
cut_slice bytes index front1 behind1 front2 behind2 l1 l2 is1 is2 =
    let m : ℕ = length_bits bytes in
    let y = need (front1 ++ take l1.last behind1) in
    let c = need (front2 ++ take l2.last behind2) in
    let y_is = cut_need front1 behind1 l1 is1 in
    let c_is = cut_need front2 behind2 l2 is2 in
    let ny = need (front1 ++ behind1) in
    let nc = need (front2 ++ behind2) in
    let text1 = take ny (codes_of (front1 ++ behind1)) in
    let text2 = take nc (codes_of (front2 ++ behind2)) in
    ap (λ (t : List Bool). digits_below 7 index ++ (digits_below m y ++ (t ++ (take c (codes_of (front2 ++ take l2.last behind2)) ++ replicate (8 * bytes - 7 - m - y - c) true)))) (cut_codes front1 behind1 l1 is1)
    ∙ ap (λ (t : List Bool). digits_below 7 index ++ (digits_below m y ++ (text1 ++ (t ++ replicate (8 * bytes - 7 - m - y - c) true)))) (cut_codes front2 behind2 l2 is2)
    ∙ ap (λ (n : ℕ). digits_below 7 index ++ (digits_below m n ++ (text1 ++ (text2 ++ replicate (8 * bytes - 7 - m - n - c) true)))) y_is
    ∙ ap (λ (n : ℕ). digits_below 7 index ++ (digits_below m ny ++ (text1 ++ (text2 ++ replicate (8 * bytes - 7 - m - ny - n) true)))) c_is
