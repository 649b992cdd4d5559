-- The shapes of units, one more.
use Rattle.std.proofs.Common.{◌≡◌, ℕ, ◌+◌, ◌%◌, ◌^◌, ◌≤◌, Bool, true, false, cond, ltb, List, [], ◌∷◌, ◌++◌, Option, refl, sym, ap, ◌∙◌, append_assoc, arith}
use Rattle.std.proofs.lemmas.Bool.{lt-ltb}
use Rattle.sequence_header.specs.declared.parts.HeaderParts.{HeaderParts}
use Rattle.slice_geometry.specs.declared.unit_list.UnitShape.{UnitShape}
use Rattle.slice_geometry.specs.UnitLengths as shapes
use Rattle.slice_geometry.specs.UnitLengths.{UnitShapesSeen}
use Rattle.slice_geometry.specs.Slicing.{slice_count}
use Rattle.transform_params.specs.Params.{Params}
use Rattle.transform_params.specs.ParameterFields.{unit_length}
use Rattle.parse_info.specs.Chain.{ChainSeen}
use Rattle.stream_writer.specs.declared.write_stop.WriteStop.{WriteStop}
use Rattle.stream_writer.specs.EncodedStream.{header_length}
use Rattle.stream_writer.specs.Writer.{total_length, pictures_among, last_length, plain_shape, picture_shape, head_bytes_before, due_shapes}
use Rattle.stream_writer.specs.WriterInside.{IsWriterSound}

pub total_push : (units : List UnitShape) (u : UnitShape) → total_length (units ++ u ∷ []) ≡ total_length units + shapes.shape_length u
total_push [] u = omega arith
total_push (v ∷ units) u = omega (arith, total_push units u)

pub pictures_push : (units : List UnitShape) (u : UnitShape) → pictures_among (units ++ u ∷ []) ≡ pictures_among units + cond (ltb 0 u.slices) 1 0
pictures_push [] u = omega arith
pictures_push (v ∷ units) u = omega (arith, pictures_push units u)

pub last_push : (before : ℕ) (units : List UnitShape) (u : UnitShape) → last_length before (units ++ u ∷ []) ≡ shapes.shape_length u
last_push before [] u = refl
last_push before (v ∷ units) u = last_push (shapes.shape_length v) units u

pub plain_length : (start size : ℕ) → shapes.shape_length (plain_shape start size) ≡ size
plain_length start size = omega arith

pub picture_length : (p : Params) (start : ℕ) → shapes.shape_length (picture_shape p start) ≡ unit_length p
picture_length p start = omega arith

pub one_more : (slices : ℕ) → 1 ≤ slices → cond {A = ℕ} (ltb 0 slices) 1 0 ≡ 1
one_more slices some = rw (lt-ltb 0 slices (omega (arith, some))) refl

-- ---- a picture's unit, and what stands before it

module _ (parts : HeaderParts) (p : Params) where
  -- where an end and a header stand before it, there are three more
  three_more : (units : List UnitShape) (a b c : UnitShape) → units ++ a ∷ b ∷ c ∷ [] ≡ ((units ++ a ∷ []) ++ b ∷ []) ++ c ∷ []
  three_more units a b c = sym (append_assoc (units ++ a ∷ []) (b ∷ []) (c ∷ []) ∙ append_assoc units (a ∷ []) (b ∷ c ∷ []))

  pub total_due : (begins : Bool) (units : List UnitShape) (place : ℕ) → total_length (units ++ due_shapes parts p begins place) ≡ total_length units + head_bytes_before parts begins + unit_length p
  total_due false units place = omega (arith, total_push units (picture_shape p (place + 0)), picture_length p (place + 0))
  total_due true units place =
      let a = plain_shape place 13 in
      let b = plain_shape (place + 13) (header_length parts) in
      let c = picture_shape p (place + head_bytes_before parts true) in
      let first = total_push units a in
      let second = total_push (units ++ a ∷ []) b in
      let third = total_push ((units ++ a ∷ []) ++ b ∷ []) c in
      ap total_length (three_more units a b c) ∙ omega (arith, first, second, third, plain_length place 13, plain_length (place + 13) (header_length parts), picture_length p (place + head_bytes_before parts true))

  pub pictures_due : (begins : Bool) (units : List UnitShape) (place : ℕ) → 1 ≤ slice_count p.slicing → pictures_among (units ++ due_shapes parts p begins place) ≡ pictures_among units + 1
  pictures_due false units place some = pictures_push units (picture_shape p (place + 0)) ∙ ap (λ n. pictures_among units + n) (one_more (slice_count p.slicing) some)
  pictures_due true units place some =
      let a = plain_shape place 13 in
      let b = plain_shape (place + 13) (header_length parts) in
      let c = picture_shape p (place + head_bytes_before parts true) in
      ap pictures_among (three_more units a b c) ∙ omega (arith, pictures_push units a, pictures_push (units ++ a ∷ []) b, pictures_push ((units ++ a ∷ []) ++ b ∷ []) c, one_more (slice_count p.slicing) some)

  pub last_due : (begins : Bool) (units : List UnitShape) (place : ℕ) → last_length 0 (units ++ due_shapes parts p begins place) ≡ unit_length p
  last_due false units place = last_push 0 units (picture_shape p (place + 0)) ∙ picture_length p (place + 0)
  last_due true units place =
      let a = plain_shape place 13 in
      let b = plain_shape (place + 13) (header_length parts) in
      let c = picture_shape p (place + head_bytes_before parts true) in
      ap (last_length 0) (three_more units a b c) ∙ last_push 0 ((units ++ a ∷ []) ++ b ∷ []) c ∙ picture_length p (place + head_bytes_before parts true)

-- ---- the fields of a writer

-- behind a unit without slices
pub sound_plain : (first number position size : ℕ) (chain chain' : ChainSeen) (units units' : UnitShapesSeen) (stop : Option WriteStop) (ended ended' : Bool) → IsWriterSound first chain number position units stop ended → units'.units ≡ units.units ++ plain_shape units.total size ∷ []
    → units'.total ≡ units.total + size → chain' ≡ record { place = chain.place + size; previous = size } → (ended' ≡ false → units'.total + 13 ≤ 2 ^ 40) → IsWriterSound first chain' number position units' stop ended'
sound_plain first number position size chain chain' units units' stop ended ended' s list total links room =
    let u = plain_shape units.total size in
    let long = plain_length units.total size in
    let pictures : pictures_among units.units ≡ pictures_among units'.units = omega (arith, pictures_push units.units u) ∙ ap pictures_among (sym list) in
    record {
      total = total ∙ omega (arith, s.total, total_push units.units u, long) ∙ ap total_length (sym list);
      place = ap (λ (l : ChainSeen). l.place) links ∙ omega (arith, s.place, total);
      previous = ap (λ (l : ChainSeen). l.previous) links ∙ sym (last_push 0 units.units u ∙ long) ∙ ap (last_length 0) (sym list);
      number_is = s.number_is ∙ ap (λ n. (first + n) % 2 ^ 32) pictures;
      position_is = s.position_is ∙ pictures;
      few = omega (arith, s.few, total);
      room = room;
    }

-- behind a picture and what is due before it
pub sound_picture : (parts : HeaderParts) (p : Params) (begins : Bool) (first number number' position : ℕ) (chain chain' : ChainSeen) (units units' : UnitShapesSeen) (stop : Option WriteStop) (ended : Bool) → IsWriterSound first chain number position units stop ended
    → units'.units ≡ units.units ++ due_shapes parts p begins units.total → units'.total ≡ units.total + head_bytes_before parts begins + unit_length p → chain' ≡ record { place = units'.total; previous = unit_length p } → number' ≡ (number + 1) % 2 ^ 32
    → 1 ≤ slice_count p.slicing → units'.total + 13 ≤ 2 ^ 40 → IsWriterSound first chain' number' (position + 1) units' stop ended
sound_picture parts p begins first number number' position chain chain' units units' stop ended s list total links next some room =
    let pictures : pictures_among units.units + 1 ≡ pictures_among units'.units = sym (pictures_due parts p begins units.units units.total some) ∙ ap pictures_among (sym list) in
    record {
      total = total ∙ omega (arith, s.total, total_due parts p begins units.units units.total) ∙ ap total_length (sym list);
      place = ap (λ (l : ChainSeen). l.place) links;
      previous = ap (λ (l : ChainSeen). l.previous) links ∙ sym (last_due parts p begins units.units units.total) ∙ ap (last_length 0) (sym list);
      number_is = next ∙ omega (arith, s.number_is, pictures);
      position_is = ap (λ n. n + 1) s.position_is ∙ pictures;
      few = omega (arith, s.few, total);
      room = λ e. room;
    }

-- over a list with room for more, whatever stop is kept
pub sound_kept : (first number position : ℕ) (chain : ChainSeen) (units units' : UnitShapesSeen) (stop stop' : Option WriteStop) (ended : Bool) → IsWriterSound first chain number position units stop ended → units'.units ≡ units.units → units'.total ≡ units.total
    → IsWriterSound first chain number position units' stop' ended
sound_kept first number position chain units units' stop stop' ended s list total = record {
  total = total ∙ s.total ∙ ap total_length (sym list);
  place = s.place ∙ sym total;
  previous = s.previous ∙ ap (last_length 0) (sym list);
  number_is = s.number_is ∙ ap (λ l. (first + pictures_among l) % 2 ^ 32) (sym list);
  position_is = s.position_is ∙ ap pictures_among (sym list);
  few = omega (arith, s.few, total);
  room = λ e. omega (arith, total, s.room e);
}
