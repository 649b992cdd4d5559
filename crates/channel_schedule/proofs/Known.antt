-- What is known of sequences and groups of any length.
use Rattle.std.proofs.Common.{◌≡◌, ℕ, ◌+◌, ◌*◌, ◌≤◌, List, [], ◌∷◌, arith, ap, sym, subst, refl, mul_comm, inl, inr}
use Rattle.std.proofs.lemmas.List.{append-nil}
use Rattle.std.proofs.Math.Nat.{mul-add, mul-le-mul_right}
use Rattle.slice_geometry.specs.declared.unit_list.UnitShape.{UnitShape}
use Rattle.slice_geometry.specs.Slicing.{bytes_before}
use Rattle.slice_geometry.specs.UnitLengths.{IsUnitAllowed, ShapesInTurn, shape_length}
use Rattle.channel_schedule.specs.Slices.{slices_in, shape_pictures}
use Rattle.channel_schedule.specs.Repeats.{plain, units_repeated, sequence, length_of, stream_of_units, picture_slots, AreKnown, PicturesAreKnown, GroupsAreKnown}
use Rattle.channel_schedule.proofs.Units.{some_bytes, end_of-here}
use Rattle.channel_schedule.proofs.Periods.{Part, EndsInside, Repeats, are_known}
use Rattle.channel_schedule.proofs.Repeated.{AreAllowed, HaveNone, IsBlock, part, is_part, in_turn, repeats, pictures_all, stand_in_turn, length_of-append, length_of-repeated, allowed-append, allowed-repeated, slices-append, slices-repeated, pictures-append, pictures-repeated}

plain-allowed : (bytes : ℕ) → IsUnitAllowed (plain bytes)
plain-allowed bytes = record { some = omega arith; byte = omega arith; count = omega arith; share = omega arith }

plain-none : (bytes : ℕ) → HaveNone (plain bytes ∷ [])
plain-none bytes = record { slices = refl; pictures = refl; allowed = (plain-allowed bytes, tt) }

none : HaveNone []
none = record { slices = refl; pictures = refl; allowed = tt }

-- ---- pictures

module _ (picture : UnitShape) (idle : ℕ) (allowed : IsUnitAllowed picture) (some : 1 ≤ picture.slices) where
  one-picture : shape_pictures picture ≡ 1
  one-picture = omega arith

  picture-block : IsBlock (picture ∷ []) idle picture.slices (shape_length picture) (picture_slots picture idle)
  picture-block = record {
    slices_is = omega arith;
    bytes_is = omega arith;
    slots_is =
        let one : pictures_all (picture ∷ []) ≡ 1 = omega (arith, one-picture) in
        omega (arith, ap (λ (x : ℕ). idle * x) one);
    some_slices = some;
    some_bytes = omega (arith, some_bytes picture allowed);
    allowed = (allowed, tt);
  }

  module _ (header end : ℕ) where
    abbrev picture-part : Part
    picture-part = part (plain header ∷ []) (picture ∷ []) (plain end ∷ []) idle picture.slices (shape_length picture) (picture_slots picture idle) (plain-none header) (plain-none end) picture-block

    picture-ends : EndsInside picture-part
    picture-ends = record {
      last = λ i is.
          let here = end_of-here (record picture { start = 0 }) [] (shape_length picture + 0) i (omega arith) in
          omega (arith, here, ap (bytes_before picture.a picture.b) is);
    }

    pub pictures-known : AreKnown (λ n. stream_of_units (sequence header end picture n)) (record { num = shape_length picture; den = picture_slots picture idle }) idle picture.slices (picture_slots picture idle)
    pictures-known = are_known picture-part (λ n. stream_of_units (sequence header end picture n)) idle
        (is_part (plain header ∷ []) (picture ∷ []) (plain end ∷ []) idle picture.slices (shape_length picture) (picture_slots picture idle) (plain-none header) (plain-none end) picture-block)
        (inl picture-ends)
        (repeats (plain header ∷ []) (picture ∷ []) (plain end ∷ []) idle picture.slices (shape_length picture) (picture_slots picture idle) (plain-none header) (plain-none end) picture-block)
        (in_turn (plain header ∷ []) (picture ∷ []) (plain end ∷ []) idle picture.slices (shape_length picture) (picture_slots picture idle) (plain-none header) (plain-none end) picture-block)

-- ---- groups

module _ (header end : ℕ) (picture : UnitShape) (pictures idle : ℕ) (allowed : IsUnitAllowed picture) (some : 1 ≤ picture.slices) (more : 1 ≤ pictures) where
  abbrev group : List UnitShape
  group = sequence header end picture pictures

  group-slices : slices_in group ≡ pictures * picture.slices
  group-slices =
      let one : slices_in (picture ∷ []) ≡ picture.slices = omega arith in
      omega (arith, slices-append (units_repeated pictures (picture ∷ [])) (plain end ∷ []), slices-repeated pictures (picture ∷ []), ap (λ (x : ℕ). pictures * x) one)

  group-pictures : pictures_all group ≡ pictures
  group-pictures =
      let one : pictures_all (picture ∷ []) ≡ 1 = omega arith in
      omega (arith, pictures-append (units_repeated pictures (picture ∷ [])) (plain end ∷ []), pictures-repeated pictures (picture ∷ []), ap (λ (x : ℕ). pictures * x) one)

  group-long : 1 ≤ length_of group
  group-long =
      let most : 1 * length_of (picture ∷ []) ≤ pictures * length_of (picture ∷ []) = mul-le-mul_right (length_of (picture ∷ [])) more in
      omega (arith, length_of-append (units_repeated pictures (picture ∷ [])) (plain end ∷ []), length_of-repeated pictures (picture ∷ []), some_bytes picture allowed)

  group-allowed : AreAllowed group
  group-allowed = (plain-allowed header, allowed-append (units_repeated pictures (picture ∷ [])) (plain end ∷ []) (allowed-repeated pictures (picture ∷ []) (allowed, tt)) (plain-allowed end, tt))

  group-block : IsBlock group idle (pictures * picture.slices) (length_of group) (pictures * picture_slots picture idle)
  group-block = record {
    slices_is = sym group-slices;
    bytes_is = refl;
    slots_is = omega (arith, mul-add pictures picture.slices idle, mul_comm pictures idle, ap (λ (x : ℕ). idle * x) group-pictures);
    some_slices =
        let most : 1 * picture.slices ≤ pictures * picture.slices = mul-le-mul_right picture.slices more in
        omega arith;
    some_bytes = group-long;
    allowed = group-allowed;
  }

  abbrev group-part : Part
  group-part = part [] group [] idle (pictures * picture.slices) (length_of group) (pictures * picture_slots picture idle) none none group-block

  group-repeats : (n : ℕ) → Repeats group-part (stream_of_units (units_repeated n group)) idle n
  group-repeats n = subst (λ (us : List UnitShape). Repeats group-part (stream_of_units us) idle n) (append-nil (units_repeated n group))
      (repeats [] group [] idle (pictures * picture.slices) (length_of group) (pictures * picture_slots picture idle) none none group-block n)

  group-in_turn : (n : ℕ) → ShapesInTurn 0 (stream_of_units (units_repeated n group)).units (stream_of_units (units_repeated n group)).total
  group-in_turn n = stand_in_turn (units_repeated n group) 0 (length_of (units_repeated n group)) (omega arith) (allowed-repeated n group group-allowed)

  pub groups-known : AreKnown (λ n. stream_of_units (units_repeated n group)) (record { num = length_of group; den = pictures * picture_slots picture idle }) idle (pictures * picture.slices) (pictures * picture_slots picture idle)
  groups-known = are_known group-part (λ n. stream_of_units (units_repeated n group)) idle
      (is_part [] group [] idle (pictures * picture.slices) (length_of group) (pictures * picture_slots picture idle) none none group-block)
      (inr (record { before = refl; behind = refl })) group-repeats group-in_turn

pub pictures_known : PicturesAreKnown
pictures_known header end picture idle allowed some = pictures-known picture idle allowed some header end

pub groups_known : GroupsAreKnown
groups_known header end picture pictures idle allowed some more = groups-known header end picture pictures idle allowed some more
