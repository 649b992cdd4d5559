-- What the calls of a writer come to.
use Rattle.std.proofs.Common.{◌≡◌, ℕ, ◌+◌, ◌*◌, ◌%◌, ◌^◌, ◌<◌, ◌≤◌, Bool, true, false, List, [], ◌∷◌, ◌++◌, length, refl, sym, ap, subst, ◌∙◌, arith}
use Rattle.std.specs.List.{AllByRecursion}
use Rattle.std.proofs.lemmas.List.{length-append}
use Rattle.sequence_header.specs.declared.parts.HeaderParts.{HeaderParts}
use Rattle.sequence_header.proofs.Bounds.{header_short}
use Rattle.slice_geometry.specs.Slicing.{slice_count}
use Rattle.transform_params.specs.Params.{Params}
use Rattle.transform_params.specs.ParameterFields.{unit_length, AreLawfulParams}
use Rattle.stream_writer.specs.EncodedStream.{Settings, begins_at, header_length, header_unit, picture_unit, end_unit, number_after, units_before, length_before, units_with, units_behind, encoded, units_of, AreLawful, IsSliced, IsStreamOf}
use Rattle.stream_rows.specs.Streams.{limit}
use Rattle.stream_writer.specs.Writer.{StreamWriterSeen, next_place, next_previous, next_number, next_position, begins_next, head_bytes_before, writer_begun, after_picture, due_units, texts_from, HaveRoomInTurn}
use Rattle.stream_writer.proofs.EncodedUnits.{length-header_unit, length-picture_unit, length-end_unit}
use Rattle.stream_writer.proofs.EncodedStreams.{encoded_stream}
use Rattle.stream_writer.proofs.WrittenShapes.{total_due, pictures_due, last_due, plain_length}

some_slices : (p : Params) → AreLawfulParams p → 1 ≤ slice_count p.slicing
some_slices p f = product p.slicing.slices_x p.slicing.slices_y f.allowed.slices.some_across f.allowed.slices.some_down
  where
    product : (x y : ℕ) → 1 ≤ x → 1 ≤ y → 1 ≤ x * y
    product x y a b = grind arith

next_is : (w : StreamWriterSeen) → AreLawfulParams w.settings.params → next_number (after_picture w) ≡ number_after (next_number w)
next_is w f =
    let more = pictures_due w.settings.parts w.settings.params (begins_next w) w.shapes (next_place w) (some_slices w.settings.params f) in
    omega (arith, more)

position_is : (w : StreamWriterSeen) → AreLawfulParams w.settings.params → next_position (after_picture w) ≡ next_position w + 1
position_is w f = pictures_due w.settings.parts w.settings.params (begins_next w) w.shapes (next_place w) (some_slices w.settings.params f)

previous_is : (w : StreamWriterSeen) → next_previous (after_picture w) ≡ unit_length w.settings.params
previous_is w = last_due w.settings.parts w.settings.params (begins_next w) w.shapes (next_place w)

place_is : (w : StreamWriterSeen) → next_place (after_picture w) ≡ next_place w + head_bytes_before w.settings.parts (begins_next w) + unit_length w.settings.params
place_is w = total_due w.settings.parts w.settings.params (begins_next w) w.shapes (next_place w)

pub texts_are : (w : StreamWriterSeen) (position previous number : ℕ) (pictures : List (List (List ℕ))) → AreLawfulParams w.settings.params → next_position w ≡ position → next_previous w ≡ previous → next_number w ≡ number
    → texts_from w pictures ≡ units_behind w.settings position previous number pictures
texts_are w position previous number [] f k p n = ap end_unit p
texts_are w position previous number (slices ∷ pictures) f k p n =
    let s = w.settings in
    let behind = texts_from (after_picture w) pictures in
    ap (λ i. units_with s.parts s.params (begins_at s.group i) (next_previous w) (next_number w) slices ++ behind) k
    ∙ ap (λ i. units_with s.parts s.params (begins_at s.group position) i (next_number w) slices ++ behind) p
    ∙ ap (λ i. units_with s.parts s.params (begins_at s.group position) previous i slices ++ behind) n
    ∙ ap (λ l. units_with s.parts s.params (begins_at s.group position) previous number slices ++ l)
    (texts_are (after_picture w) (position + 1) (unit_length s.params) (number_after number) pictures f (position_is w f ∙ ap (λ i. i + 1) k) (previous_is w) (next_is w f ∙ ap number_after n))

pub calls_write : (s : Settings) (pictures : List (List (List ℕ))) → AreLawfulParams s.params → s.first < 2 ^ 32 → header_unit s.parts ++ texts_from (writer_begun s) pictures ≡ encoded s pictures
calls_write s pictures f fits = ap (λ l. header_unit s.parts ++ l) (texts_are (writer_begun s) 0 (header_length s.parts) s.first pictures f refl (plain_length 0 (header_length s.parts)) (omega (arith, fits)))

length-before : (parts : HeaderParts) (begins : Bool) (previous : ℕ) → length (units_before parts begins previous) ≡ head_bytes_before parts begins
length-before parts true previous = omega (arith, length-append (end_unit previous) (header_unit parts), length-end_unit previous, length-header_unit parts)
length-before parts false previous = refl

pub length-with : (parts : HeaderParts) (p : Params) (begins : Bool) (previous number : ℕ) (slices : List (List ℕ)) → AreLawfulParams p → IsSliced parts p slices → length (units_with parts p begins previous number slices) ≡ head_bytes_before parts begins + unit_length p
length-with parts p begins previous number slices f s =
    let unit = picture_unit p (length_before parts begins previous) number slices in
    omega (arith, length-append (units_before parts begins previous) unit, length-before parts begins previous, length-picture_unit parts p (length_before parts begins previous) number slices f s)

-- calls that have room write no more than the limit
within : (w : StreamWriterSeen) (pictures : List (List (List ℕ))) → AreLawfulParams w.settings.params → AllByRecursion (IsSliced w.settings.parts w.settings.params) pictures → next_place w + 13 ≤ limit → HaveRoomInTurn w pictures → next_place w + length (texts_from w pictures) ≤ limit
within w [] f s end room = omega (arith, end)
within w (slices ∷ pictures) f s end room =
    let due = due_units w slices in
    let long = length-with w.settings.parts w.settings.params (begins_next w) (next_previous w) (next_number w) slices f s.0 in
    let next = place_is w in
    let others = within (after_picture w) pictures f s.1 (omega (arith, next, room.0)) room.1 in
    omega (arith, length-append due (texts_from (after_picture w) pictures), long, next, others)

pub calls_stream : (s : Settings) (pictures : List (List (List ℕ))) → AreLawful s → AllByRecursion (IsSliced s.parts s.params) pictures → (s.parts.coding ≡ 1 → length pictures % 2 ≡ 0) → HaveRoomInTurn (writer_begun s) pictures
    → IsStreamOf (header_unit s.parts ++ texts_from (writer_begun s) pictures) (units_of s pictures)
calls_stream s pictures f sliced even room =
    let same = calls_write s pictures f.params f.first in
    let first : next_place (writer_begun s) ≡ header_length s.parts = omega (arith, plain_length 0 (header_length s.parts)) in
    let all = within (writer_begun s) pictures f.params sliced (omega (arith, first, header_short s.parts f.header)) room in
    let few : length (header_unit s.parts ++ texts_from (writer_begun s) pictures) ≤ limit = omega (arith, length-append (header_unit s.parts) (texts_from (writer_begun s) pictures), length-header_unit s.parts, first, all) in
    subst (λ l. IsStreamOf l (units_of s pictures)) (sym same) (encoded_stream s pictures f sliced even (subst (λ l. length l ≤ limit) same few))
