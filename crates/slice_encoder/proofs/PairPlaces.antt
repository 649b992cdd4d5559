-- The places of values in the table of pairs, value by value.
use Rattle.std.proofs.Common.{◌≡◌, ◌∙◌, sym, ap, ℕ, ◌+◌, ◌*◌, ◌<◌, List, [], ◌∷◌, ◌++◌, length, take, set, arith, ℤ}
use Rattle.std.proofs.lemmas.List.{take_more_set, length-set, map-append}
use Rattle.slice_encoder.specs.CodeTables.{place_of, places_of_values}

-- one value more
pub places_more : (out : List ℤ) (places : List ℕ) (p : ℕ) (v : ℤ) (q : ℕ) → q ≡ place_of v → p < length out → p < length places
    → take p places ≡ places_of_values (take p out) → take (p + 1) (set places p q) ≡ places_of_values (take (p + 1) (set out p v))
places_more out places p v q q_is room room_places so_far =
    take_more_set places p q room_places
    ∙ ap (λ (t : List ℕ). t ++ q ∷ []) so_far
    ∙ ap (λ (n : ℕ). places_of_values (take p out) ++ n ∷ []) q_is
    ∙ sym (ap places_of_values (take_more_set out p v room) ∙ map-append place_of (take p out) (v ∷ []))

-- two values more
pub places_two_more : (out : List ℤ) (places : List ℕ) (p : ℕ) (v w : ℤ) (q r : ℕ) → q ≡ place_of v → r ≡ place_of w → 2 * p + 1 < length out → 2 * p + 1 < length places
    → take (2 * p) places ≡ places_of_values (take (2 * p) out)
    → take (2 * (p + 1)) (set (set places (2 * p) q) (2 * p + 1) r) ≡ places_of_values (take (2 * (p + 1)) (set (set out (2 * p) v) (2 * p + 1) w))
places_two_more out places p v w q r q_is r_is room room_places so_far =
    let two : 2 * (p + 1) ≡ 2 * p + 1 + 1 = omega arith in
    ap (λ (n : ℕ). take n (set (set places (2 * p) q) (2 * p + 1) r)) two
    ∙ places_more (set out (2 * p) v) (set places (2 * p) q) (2 * p + 1) w r r_is (omega (arith, room, length-set out (2 * p) v)) (omega (arith, room_places, length-set places (2 * p) q))
    (places_more out places (2 * p) v q q_is (omega (arith, room)) (omega (arith, room_places)) so_far)
    ∙ sym (ap (λ (n : ℕ). places_of_values (take n (set (set out (2 * p) v) (2 * p + 1) w))) two)

-- more values behind
pub places_joined : (front new more : List ℤ) (places behind : List ℕ) → places ≡ places_of_values front → more ≡ front ++ new → behind ≡ places ++ places_of_values new → behind ≡ places_of_values more
places_joined front new more places behind front_is more_is behind_is =
    behind_is ∙ ap (λ (t : List ℕ). t ++ places_of_values new) front_is ∙ sym (ap places_of_values more_is ∙ map-append place_of front new)
