-- Behind n pictures: the shapes and the places of the stream, which has one sequence or several.
use Rattle.std.proofs.Common.{◌≡◌, ℕ, zero, suc, ◌+◌, ◌-◌, ◌*◌, ◌/◌, ◌%◌, ◌^◌, ◌<◌, ◌≤◌, cond, ltb, eqb, Bool, true, false, Option, Some, None, List, ◌++◌, refl, sym, ap, subst, ◌∙◌, arith}
use Rattle.std.specs.Prelude.{◌&&◌}
use Rattle.std.proofs.Math.Nat.{zero-div, mod-lt}
use Rattle.std.proofs.lemmas.Nat.{div-add-mod', div-mul-add}
use Rattle.std.proofs.lemmas.Bool.{le-leb, leb-true, lt-ltb, eqb-true, eq-eqb, false≢true}
use Rattle.slice_geometry.specs.Slicing.{slice_count}
use Rattle.transform_params.specs.ParameterFields.{unit_length}
use Rattle.stream_rows.specs.Streams.{limit}
use Rattle.stream_writer.specs.EncodedStream.{begins_at, header_length, number_after, units_with}
use Rattle.stream_writer.specs.Writer.{StreamWriterSeen, pictures_among, head_bytes_before, due_shapes, due_units, begins_next, after_picture, HasRoom}
use Rattle.stream_writer.proofs.WrittenShapes.{total_due, pictures_due, last_due, plain_length}
use Rattle.vc2_words.specs.Settings.{Asked, later_sequences, asked_length}
use Rattle.vc2_cli.specs.Encode.{shapes_at, stream_place, previous_at, number_of_next, units_at, place_due, has_room}
use Rattle.vc2_cli.specs.EncodeTurn.{turn_behind, IsBehind}

-- ---- one picture more

pub place_first : (e : Asked) → stream_place e 0 ≡ header_length e.parts
place_first e = omega (arith, plain_length 0 (header_length e.parts))

pub place_next : (e : Asked) (n : ℕ) → stream_place e (suc n) ≡ place_due e n
place_next e n = total_due e.parts e.params (begins_at e.group n) (shapes_at e n) (stream_place e n)

pub previous_next : (e : Asked) (n : ℕ) → previous_at e (suc n) ≡ unit_length e.params
previous_next e n = last_due e.parts e.params (begins_at e.group n) (shapes_at e n) (stream_place e n)

pub number_next : (e : Asked) (n : ℕ) → number_after (number_of_next e n) ≡ number_of_next e (suc n)
number_next e n = omega arith

rises_by : (e : Asked) (k n m : ℕ) → m ≡ n + k → stream_place e n ≤ stream_place e m
rises_by e zero n m is = let same : m ≡ n = omega (arith, is) in omega (arith, ap (stream_place e) same)
rises_by e (suc k) n m is = omega (arith, place_next e n, rises_by e k (suc n) m (omega (arith, is)))

pub place_rises : (e : Asked) (n m : ℕ) → n ≤ m → stream_place e n ≤ stream_place e m
place_rises e n m le = rises_by e (m - n) n m (omega (arith, le))

-- where m pictures have room, each of them has
pub place_within : (e : Asked) (n m : ℕ) → suc n ≤ m → place_due e n ≤ stream_place e m
place_within e n m lt = omega (arith, place_next e n, place_rises e (suc n) m lt)

pub room_before : (e : Asked) (n m : ℕ) → suc n ≤ m → stream_place e m + 13 ≤ limit → has_room e n ≡ true
room_before e n m lt fits = le-leb (place_due e n + 13) limit (omega (arith, place_within e n m lt, fits))

-- ---- the writer

module _ (e : Asked) (some : 1 ≤ slice_count e.params.slicing) where
  pub position_is : (n : ℕ) → pictures_among (shapes_at e n) ≡ n
  position_is zero = refl
  position_is (suc n) = omega (arith, pictures_due e.parts e.params (begins_at e.group n) (shapes_at e n) (stream_place e n) some, position_is n)

  after_behind : (n : ℕ) → after_picture (turn_behind e n) ≡ turn_behind e (suc n)
  after_behind n = ap (λ (k : ℕ). record (turn_behind e n) { shapes = shapes_at e n ++ due_shapes e.parts e.params (begins_at e.group k) (stream_place e n) }) (position_is n)

  pub behind_next : (n : ℕ) (w w' : StreamWriterSeen) → IsBehind e n w → w' ≡ after_picture w → IsBehind e (n + 1) w'
  behind_next n w w' is after =
      let one : suc n ≡ n + 1 = omega arith in
      after ∙ ap after_picture is ∙ after_behind n ∙ ap (turn_behind e) one

  pub due_is : (n : ℕ) (w : StreamWriterSeen) (slices : List (List ℕ)) → IsBehind e n w → due_units w slices ≡ units_at e n slices
  due_is n w slices is =
      ap (λ (x : StreamWriterSeen). due_units x slices) is
      ∙ ap (λ (k : ℕ). units_with e.parts e.params (begins_at e.group k) (previous_at e n) ((e.first + k) % 2 ^ 32) slices) (position_is n)

  room_place : (n : ℕ) → stream_place e n + head_bytes_before e.parts (begins_next (turn_behind e n)) + unit_length e.params + 13 ≡ place_due e n + 13
  room_place n = ap (λ (k : ℕ). stream_place e n + head_bytes_before e.parts (begins_at e.group k) + unit_length e.params + 13) (position_is n)

  pub room_is : (n : ℕ) (w : StreamWriterSeen) → IsBehind e n w → HasRoom w → has_room e n ≡ true
  room_is n w is room = le-leb (place_due e n + 13) limit (subst (λ (k : ℕ). k ≤ limit) (room_place n) (subst HasRoom is room))

  pub room_of : (n : ℕ) (w : StreamWriterSeen) → IsBehind e n w → place_due e n + 13 ≤ limit → HasRoom w
  room_of n w is fits = subst HasRoom (sym is) (subst (λ (k : ℕ). k ≤ limit) (sym (room_place n)) fits)

  pub no_room_is : (n : ℕ) (w : StreamWriterSeen) → IsBehind e n w → (HasRoom w → ⊥) → has_room e n ≡ false
  no_room_is n w is none = by (has_room e n) refl
    where
      by : (room : Bool) → has_room e n ≡ room → room ≡ false
      by false t = refl
      by true t = absurd (none (room_of n w is (leb-true (place_due e n + 13) limit t)))

-- ---- how many sequences begin

quotient : (a w b n : ℕ) → n ≡ a * w + b → b < w → n / w ≡ a
quotient a w b n is lt = ap (λ (k : ℕ). k / w) is ∙ div-mul-add a w b lt

-- the quotient of the next number, which the divisor divides or not
next_whole : (m g : ℕ) → suc m % suc g ≡ 0 → suc m / suc g ≡ m / suc g + 1
next_whole m g none = by (suc m / suc g) refl
  where
    by : (q : ℕ) → suc m / suc g ≡ q → q ≡ m / suc g + 1
    by zero is = absurd (omega (arith, ap (λ (k : ℕ). k * suc g + suc m % suc g) is, div-add-mod' (suc m) (suc g), none))
    by (suc q) is =
        let whole : suc q * suc g + suc m % suc g ≡ suc m = ap (λ (k : ℕ). k * suc g + suc m % suc g) (sym is) ∙ div-add-mod' (suc m) (suc g) in
        omega (arith, quotient q (suc g) g m (omega (arith, whole, none)) (omega arith))

next_part : (m g : ℕ) → (suc m % suc g ≡ 0 → ⊥) → suc m / suc g ≡ m / suc g
next_part m g some =
    let r = suc m % suc g in
    let one : 1 ≤ r = positive r some in
    sym (quotient (suc m / suc g) (suc g) (r - 1) m (omega (arith, div-add-mod' (suc m) (suc g), one)) (omega (arith, mod-lt (suc m) {m = suc g} (omega arith), one)))
  where
    positive : (r : ℕ) → (r ≡ 0 → ⊥) → 1 ≤ r
    positive zero ne = absurd (ne refl)
    positive (suc r) ne = omega arith

later_first : (group : Option ℕ) → later_sequences group 0 ≡ 0
later_first None = refl
later_first (Some zero) = refl
later_first (Some (suc g)) = zero-div (suc g)

later_next : (group : Option ℕ) (n : ℕ) → later_sequences group (suc n) ≡ later_sequences group n + cond (begins_at group n) 1 0
later_next None n = omega arith
later_next (Some zero) n = omega arith
later_next (Some (suc g)) zero = omega arith
later_next (Some (suc g)) (suc m) =
    let up : suc (suc m) - 1 ≡ suc m = omega arith in
    let down : m ≡ suc m - 1 = omega arith in
    let some : true ≡ ltb 0 (suc m) = sym (lt-ltb 0 (suc m) (omega arith)) in
    ap (λ (k : ℕ). k / suc g) up ∙ by (eqb (suc m % suc g) 0) refl
    ∙ ap (λ (b : Bool). m / suc g + cond (b && eqb (suc m % suc g) 0) 1 0) some
    ∙ ap (λ (k : ℕ). k / suc g + cond (begins_at (Some (suc g)) (suc m)) 1 0) down
  where
    by : (whole : Bool) → eqb (suc m % suc g) 0 ≡ whole → suc m / suc g ≡ m / suc g + cond whole 1 0
    by true t = next_whole m g (eqb-true (suc m % suc g) 0 t)
    by false t = omega (arith, next_part m g (λ none. false≢true (sym t ∙ eq-eqb (suc m % suc g) 0 none)))

-- the bytes of a stream of n pictures
pub length_behind : (e : Asked) (n : ℕ) → stream_place e n + 13 ≡ asked_length e.parts e.params e.group n
length_behind e zero =
    let none = later_first e.group in
    omega (arith, place_first e, ap (λ (k : ℕ). (1 + k) * (header_length e.parts + 13)) none)
length_behind e (suc n) = by (length_behind e n) (begins_at e.group n) refl
  where
    ends : ℕ
    ends = header_length e.parts + 13

    more : (q size unit : ℕ) → ((1 + q) * size + n * unit) + size + unit ≡ (1 + (q + 1)) * size + suc n * unit
    more q size unit = grind arith

    same : (q size unit : ℕ) → ((1 + q) * size + n * unit) + unit ≡ (1 + (q + 0)) * size + suc n * unit
    same q size unit = grind arith

    by : stream_place e n + 13 ≡ asked_length e.parts e.params e.group n → (begins : Bool) → begins_at e.group n ≡ begins → stream_place e (suc n) + 13 ≡ asked_length e.parts e.params e.group (suc n)
    by turn_behind true t =
        let next = place_next e n ∙ ap (λ (b : Bool). stream_place e n + head_bytes_before e.parts b + unit_length e.params) t in
        let later = later_next e.group n ∙ ap (λ (b : Bool). later_sequences e.group n + cond b 1 0) t in
        let front : stream_place e (suc n) + 13 ≡ (stream_place e n + 13) + ends + unit_length e.params = omega (arith, next) in
        front ∙ ap (λ (k : ℕ). k + ends + unit_length e.params) turn_behind ∙ more (later_sequences e.group n) ends (unit_length e.params)
        ∙ ap (λ (k : ℕ). (1 + k) * ends + suc n * unit_length e.params) (sym later)
    by turn_behind false t =
        let next = place_next e n ∙ ap (λ (b : Bool). stream_place e n + head_bytes_before e.parts b + unit_length e.params) t in
        let later = later_next e.group n ∙ ap (λ (b : Bool). later_sequences e.group n + cond b 1 0) t in
        let front : stream_place e (suc n) + 13 ≡ (stream_place e n + 13) + unit_length e.params = omega (arith, next) in
        front ∙ ap (λ (k : ℕ). k + unit_length e.params) turn_behind ∙ same (later_sequences e.group n) ends (unit_length e.params)
        ∙ ap (λ (k : ℕ). (1 + k) * ends + suc n * unit_length e.params) (sym later)
