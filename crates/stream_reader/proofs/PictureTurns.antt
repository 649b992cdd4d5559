-- The parts of a picture's payload, by how each comes out.
use Rattle.std.proofs.Common.{◌≡◌, ◌≢◌, ℕ, suc, ◌+◌, ◌-◌, ◌*◌, ◌/◌, ◌%◌, ◌^◌, ◌<◌, ◌≤◌, Bool, true, false, not, cond, List, [], ◌∷◌, ◌++◌, length, take, drop, get_or, Option, Some, None, Result, Ok, Err, inl, inr, refl, sym, ap, subst, ◌∙◌, arith}
use Rattle.std.specs.Prelude.{◌&&◌, ◌||◌, ◌==◌}
use Rattle.std.specs.Int.{from_be_bytes, w32}
use Rattle.std.specs.Io.KnownBytes.{IsAtEnd}
use Rattle.std.proofs.lemmas.Bool.{cases_lt, le-ltb, lt-ltb}
use Rattle.std.proofs.lemmas.List.{length-append, length-take, take-append-drop, take-append-le, take_all}
use Rattle.run_theory.specs.Ran.{within}
use Rattle.bit_codes.specs.Bits.{Cursor, cursor_at, bits_of}
use Rattle.bit_codes.proofs.BitLemmas.{length-bits}
use Rattle.field_rows.specs.Rows.{some_bytes, Value, Bytes, bytes_in, Rule, ◌or_else◌, Rows, done, row, ◌>>=◌, Fault, read, word_under, bytes_under, renamed, first_broken, check_at, and_then, reading_unless}
use Rattle.field_rows.proofs.Pieces.{read-more_refused}
use Rattle.field_rows.proofs.Reading.{read-bind}
use Rattle.field_rows.proofs.Words.{read-check_at}
use Rattle.slice_geometry.specs.declared.PictureShape.{PictureShape}
use Rattle.slice_geometry.specs.Slicing.{IsAllowed, slice_count, bytes_before, slice_bytes, total_bytes}
use Rattle.slice_geometry.proofs.Shares.{bytes_before-rises}
use Rattle.sequence_header.specs.declared.parts.HeaderParts.{HeaderParts}
use Rattle.sequence_header.specs.Coding.{IsShapeOf}
use Rattle.transform_params.specs.declared.faults.TransformReason.{TransformReason}
use Rattle.transform_params.specs.declared.faults.TransformReason.TheVariants as transforms
use Rattle.transform_params.specs.Params as params
use Rattle.transform_params.specs.Params.{Params, params_rows}
use Rattle.slice_decoder.specs.declared.SliceFault.{SliceFault}
use Rattle.slice_decoder.specs.declared.SliceFault.TheVariants as faults
use Rattle.slice_decoder.specs.Slice.{slice_at, is_small}
use Rattle.slice_decoder.specs.Decoded.{IsRefused}
use Rattle.slice_geometry.specs.Frames.{Frame, frame_of}
use Rattle.picture_codec.specs.Decoding.{PictureDecoderSeen, HasTaken, IsTaken, IsSliceRefused, stack_of, wanted_of, column_of, row_of_slices, next_slice}
use Rattle.picture_codec.proofs.Taking.{took_none, took_more}
use Rattle.picture_codec.proofs.Steps.{column_in, number_is}
use Rattle.run_theory.specs.Grammar.{bytes_at}
use Rattle.run_theory.specs.Begun.{Begun, Needs, Moves, Got}
use Rattle.run_theory.proofs.Begins.{begun_held, begun_use, begun_same}
use Rattle.run_theory.proofs.Fields.{needs_row, moves_row, short_row, broken_row, all_fit}
use Rattle.stream_rows.specs.declared.reason.Reason.{Reason}
use Rattle.stream_rows.specs.declared.reason.Reason.TheVariants as reasons
use Rattle.unit_reader.specs.declared.stop.ReadStop.{ReadStop}
use Rattle.unit_reader.specs.declared.stop.ReadStop.TheVariants as stops
use Rattle.unit_reader.specs.declared.window.Halt.{Halt}
use Rattle.stream_rows.specs.Units.{is_truncated, Past, DataUnit, units, reason_of, transform_reason, has_fields, number_rules, share, slice_rules, slice_rows, next_checked, picture_payload, Picture, leads_behind}
use Rattle.stream_rows.specs.Streams.{limit, frame_under}
use Rattle.stream_reader.specs.declared.pictures.Shown.{Shown}
use Rattle.stream_reader.specs.Turns.{Takes, IsShown, IsTaker}
use Rattle.unit_reader.specs.Stops.{stop_of, StopsOver}
use Rattle.stream_reader.specs.UnitParts.{IsAtFirstSlice, TookSlices, slice_reason}
use Rattle.stream_rows.proofs.Frames.{frame_is}
use Rattle.stream_rows.proofs.UnitsLaws.{units_laws}
use Rattle.stream_reader.proofs.Reasons.{other_reason}
use Rattle.unit_reader.proofs.Stopping.{stops_lost, stops_short, stops_refused}
use Rattle.stream_rows.proofs.Groups.{group_moves, group_refused}
use Rattle.stream_rows.proofs.UnitGroups.{params_group}
use Rattle.bit_codes.proofs.Numbers.{bits_of-append}

-- ---- a field of so many bytes

-- it was asked for, and these bytes are held
pub record Asked (z : Past) (held0 : List ℕ) (rest0 rest2 : Option (List ℕ)) (n at : ℕ) (held2 : List ℕ) (rules : Value → List (Rule Reason)) (next : Value → Rows Reason DataUnit) : Type 0 where
  pub begun : Begun units z held0 rest0 rest2 at held2 (row (some_bytes n) None rules next)

field_needs : (n : ℕ) (rules : Value → List (Rule Reason)) (next : Value → Rows Reason DataUnit) → Needs units (row (some_bytes n) None rules next) n
field_needs n rules next = needs_row units units_laws n None rules next

asked : {z : Past} {held0 held1 : List ℕ} {rest0 rest1 : Option (List ℕ)} {at : ℕ} {left : Rows Reason DataUnit} (n : ℕ) (held2 : List ℕ) (rest2 : Option (List ℕ)) (rules : Value → List (Rule Reason)) (next : Value → Rows Reason DataUnit) → Begun units z held0 rest0 rest1 at held1 left
    → left ≡ row (some_bytes n) None rules next → Got n held1 held2 rest1 rest2 [] → Asked z held0 rest0 rest2 n at held2 rules next
asked n held2 rest2 rules next b e got = record { begun = begun_held units_laws n rest2 held2 (begun_same (row (some_bytes n) None rules next) b e) (field_needs n rules next) got }

pub field_short : {z : Past} {held0 held2 : List ℕ} {rest0 rest2 : Option (List ℕ)} {n at : ℕ} {rules : Value → List (Rule Reason)} {next : Value → Rows Reason DataUnit} (room place : ℕ) (stop : ReadStop Reason) → Asked z held0 rest0 rest2 n at held2 rules next → length held2 < n → IsAtEnd (within room rest2) → at + length held2 + room ≡ limit → place ≡ at
    → stop ≡ stops.Refused (record { place = place; reason = reasons.Truncated }) → StopsOver units z held0 rest0 rest2 room stop
field_short {held2 = held2} {n = n} {at = at} {rules = rules} {next = next} room place stop a few at_end total there e = stops_short units_laws room (8 * at) place reasons.Truncated stop a.begun (short_row units n rules next at held2 few) at_end total (omega (arith, there)) e

pub field_lost : {z : Past} {held0 held2 : List ℕ} {rest0 rest2 : Option (List ℕ)} {n at : ℕ} {rules : Value → List (Rule Reason)} {next : Value → Rows Reason DataUnit} (room : ℕ) (halt : Halt) (stop : ReadStop Reason) → Asked z held0 rest0 rest2 n at held2 rules next → length held2 < n → at + length held2 + room ≡ limit
    → stop ≡ stop_of halt → StopsOver units z held0 rest0 rest2 room stop
field_lost {n = n} {rules = rules} {next = next} room halt stop a few total e = stops_lost units_laws n room halt stop a.begun (field_needs n rules next) few total e

pub field_broken : {z : Past} {held0 held2 : List ℕ} {rest0 rest2 : Option (List ℕ)} {n at : ℕ} {rules : Value → List (Rule Reason)} {next : Value → Rows Reason DataUnit} (room place : ℕ) (reason : Reason) (stop : ReadStop Reason) → Asked z held0 rest0 rest2 n at held2 rules next → n ≤ length held2
    → ((i : ℕ) → get_or (take n held2) i 0 < 256) → first_broken (rules (Bytes (take n held2))) ≡ Some reason → reason ≢ reasons.Truncated → at + length held2 + room ≡ limit → place ≡ at → stop ≡ stops.Refused (record { place = place; reason = reason }) → StopsOver units z held0 rest0 rest2 room stop
field_broken {held2 = held2} {n = n} {at = at} {rules = rules} {next = next} room place reason stop a many fits broken other total there e =
    stops_refused units_laws room (8 * at) place reason stop a.begun
    (ap (λ l. read reason_of (row (some_bytes n) None rules next) (bytes_at at l)) (sym (take-append-drop n held2))
    ∙ broken_row units n rules next at (take n held2) (drop n held2) reason (omega (arith, length-take n held2, many)) (all_fit (take n held2) fits) broken)
    (other_reason reason other) total (omega (arith, there)) e

pub field_taken : {z : Past} {held0 held2 : List ℕ} {rest0 rest2 : Option (List ℕ)} {n at : ℕ} {rules : Value → List (Rule Reason)} {next : Value → Rows Reason DataUnit} → Asked z held0 rest0 rest2 n at held2 rules next → n ≤ length held2
    → ((i : ℕ) → get_or (take n held2) i 0 < 256) → first_broken (rules (Bytes (take n held2))) ≡ None → Begun units z held0 rest0 rest2 (at + n) (drop n held2) (next (Bytes (take n held2)))
field_taken {z} {held0} {held2} {rest0} {rest2} {n} {at} {rules} {next} a many fits holds =
    let long : length (take n held2) ≡ n = omega (arith, length-take n held2, many) in
    subst (λ p. Begun units z held0 rest0 rest2 (at + p) (drop n held2) (next (Bytes (take n held2)))) long
    (begun_use units_laws (take n held2) (drop n held2) (next (Bytes (take n held2))) a.begun (sym (take-append-drop n held2)) (moves_row units n rules next at (take n held2) long (all_fit (take n held2) fits) holds))

-- ---- the number of a picture

abbrev number_of : Value → ℕ
number_of v = from_be_bytes w32 (bytes_in v)

number_field : (rules : ℕ → List (Rule Reason)) (others : ℕ → Rows Reason DataUnit) → word_under rules >>= others ≡ row (some_bytes 4) None (λ v. rules (number_of v)) (λ v. others (number_of v))
unfolding word_under ◌>>=◌
number_field rules others = refl

pub number_asked : {z : Past} {held0 held1 : List ℕ} {rest0 rest1 : Option (List ℕ)} {at : ℕ} (held2 : List ℕ) (rest2 : Option (List ℕ)) (others : ℕ → Rows Reason DataUnit) → Begun units z held0 rest0 rest1 at held1 (word_under (number_rules z) >>= others) → Got 4 held1 held2 rest1 rest2 []
    → Asked z held0 rest0 rest2 4 at held2 (λ v. number_rules z (number_of v)) (λ v. others (number_of v))
number_asked {z = z} held2 rest2 others b got = asked 4 held2 rest2 (λ v. number_rules z (number_of v)) (λ v. others (number_of v)) b (number_field (number_rules z) others) got

-- no rule of a number is about its length
pub number_other : (z : Past) (n : ℕ) (reason : Reason) → first_broken (number_rules z n) ≡ Some reason → reason ≢ reasons.Truncated
number_other z n reason e = by (z.pictures == 0 || n == (z.last + 1) % 2 ^ 32) (has_fields z.first && z.pictures == 0 && n % 2 == 1) e
  where
    by : (a b : Bool) → cond a (cond (not b) None (Some reasons.FieldNumberOdd)) (Some reasons.PictureNumberWrong) ≡ Some reason → reason ≢ reasons.Truncated
    by false b e t = let other : Some reasons.PictureNumberWrong ≡ Some reasons.Truncated = e ∙ ap Some t in absurd cc
    by true true e t = let other : Some reasons.FieldNumberOdd ≡ Some reasons.Truncated = e ∙ ap Some t in absurd cc
    by true false e t = absurd cc

-- a number of four bytes, at the front of those that are held
pub number_at : (bytes front held : List ℕ) (n : ℕ) → n ≡ from_be_bytes w32 bytes → bytes ≡ take 4 front → front ≡ take 4 held → n ≡ from_be_bytes w32 (take 4 held)
number_at bytes front held n e same is = e ∙ ap (from_be_bytes w32) (same ∙ ap (take 4) is ∙ take_all 4 (take 4 held) (omega (arith, length-take 4 held)))

abbrev NumberAsked : Past → List ℕ → Option (List ℕ) → Option (List ℕ) → ℕ → List ℕ → (ℕ → Rows Reason DataUnit) → Type 0
NumberAsked z held0 rest0 rest2 at held2 others = Asked z held0 rest0 rest2 4 at held2 (λ v. number_rules z (number_of v)) (λ v. others (number_of v))

pub number_broken : {z : Past} {held0 held2 : List ℕ} {rest0 rest2 : Option (List ℕ)} {at : ℕ} (others : ℕ → Rows Reason DataUnit) (n room place : ℕ) (reason : Reason) (stop : ReadStop Reason) → NumberAsked z held0 rest0 rest2 at held2 others → 4 ≤ length held2
    → ((i : ℕ) → get_or (take 4 held2) i 0 < 256) → n ≡ from_be_bytes w32 (take 4 held2) → first_broken (number_rules z n) ≡ Some reason → at + length held2 + room ≡ limit → place ≡ at → stop ≡ stops.Refused (record { place = place; reason = reason }) → StopsOver units z held0 rest0 rest2 room stop
number_broken {z = z} others n room place reason stop a many fits number broken total there e =
    field_broken room place reason stop a many fits (ap (λ n. first_broken (number_rules z n)) (sym number) ∙ broken) (number_other z n reason broken) total there e

pub number_taken : {z : Past} {held0 held2 : List ℕ} {rest0 rest2 : Option (List ℕ)} {at : ℕ} (others : ℕ → Rows Reason DataUnit) (n : ℕ) (held3 : List ℕ) → NumberAsked z held0 rest0 rest2 at held2 others → 4 ≤ length held2
    → ((i : ℕ) → get_or (take 4 held2) i 0 < 256) → n ≡ from_be_bytes w32 (take 4 held2) → first_broken (number_rules z n) ≡ None → held3 ≡ drop 4 held2 → Begun units z held0 rest0 rest2 (at + 4) held3 (others n)
number_taken {z} {held0} {held2} {rest0} {rest2} {at} others n held3 a many fits number holds is =
    subst (λ l. Begun units z held0 rest0 rest2 (at + 4) l (others n)) (sym is)
    (subst (λ m. Begun units z held0 rest0 rest2 (at + 4) (drop 4 held2) (others m)) (sym number)
    (field_taken a many fits (ap (λ n. first_broken (number_rules z n)) (sym number) ∙ holds)))

-- ---- the transform parameters

abbrev pub params_then : (Params → Rows Reason DataUnit) → Rows Reason DataUnit
params_then others = renamed transform_reason params_rows >>= others

-- reading the parameters from bytes
abbrev pub params_read : List ℕ → Result (Params × Cursor) (Fault TransformReason)
params_read front = read params.reason_of params_rows (cursor_at front 0)

pub params_taken : {z : Past} {held0 held1 : List ℕ} {rest0 rest1 : Option (List ℕ)} {at : ℕ} (others : Params → Rows Reason DataUnit) (count long : ℕ) (front : List ℕ) (p : Params) → Begun units z held0 rest0 rest1 at held1 (params_then others)
    → front ≡ take count held1 → params_read front ≡ Ok (p, cursor_at front (8 * long)) → long ≤ length front → Begun units z held0 rest0 rest1 (at + long) (drop long held1) (others p)
params_taken {z} {held0} {held1} {rest0} {rest1} {at} others count long front p b is e inside =
    let piece : take long front ≡ take long held1 = ap (take long) is ∙ sym (take-append-le long (take count held1) (drop count held1) (omega (arith, inside, ap (λ (l : List ℕ). length l) is))) ∙ ap (take long) (take-append-drop count held1) in
    let size : length (take long held1) ≡ long = omega (arith, length-take long held1, inside, ap (λ (l : List ℕ). length l) is, length-take count held1) in
    subst (λ n. Begun units z held0 rest0 rest1 (at + n) (drop long held1) (others p)) size
    (begun_use units_laws (take long held1) (drop long held1) (others p) b (sym (take-append-drop long held1))
    (subst (λ l. Moves units (params_then others) at l (others p)) piece (group_moves params_group others at front p long e inside)))

-- a field is short in all that is held
pub params_short : (held1 : List ℕ) (at : ℕ) (others : Params → Rows Reason DataUnit) (count : ℕ) (front : List ℕ) (fault : Fault TransformReason) → front ≡ take count held1 → count ≡ length held1 → params_read front ≡ Err fault
    → read reason_of (params_then others) (bytes_at at held1) ≡ Err (record { place = 8 * at + fault.place; reason = transform_reason fault.reason })
params_short held1 at others count front fault is all e = group_refused params_group others at held1 fault (ap params_read (sym (is ∙ take_all count held1 (omega (arith, all)))) ∙ e)

refused_for : (place : ℕ) {r t : Reason} → r ≡ t → (let s : ReadStop Reason = stops.Refused (record { place = place; reason = r }) in s) ≡ stops.Refused (record { place = place; reason = t })
refused_for place e = ap (λ (r : Reason). let s : ReadStop Reason = stops.Refused (record { place = place; reason = r }) in s) e

transform_other : (reason : TransformReason) → is_truncated (transform_reason reason) ≡ false → reason ≢ transforms.Truncated
transform_other reason h e = let short : is_truncated (transform_reason reason) ≡ true = ap (λ r. is_truncated (transform_reason r)) e in absurd cc

pub params_refused : {z : Past} {held0 held1 : List ℕ} {rest0 rest1 : Option (List ℕ)} {at : ℕ} (others : Params → Rows Reason DataUnit) (count : ℕ) (front : List ℕ) (fault : Fault TransformReason) (room : ℕ) (reason : Reason) (stop : ReadStop Reason) → Begun units z held0 rest0 rest1 at held1 (params_then others)
    → front ≡ take count held1 → params_read front ≡ Err fault → is_truncated reason ≡ false → at + length held1 + room ≡ limit → reason ≡ transform_reason fault.reason → stop ≡ stops.Refused (record { place = at + fault.place / 8; reason = reason }) → StopsOver units z held0 rest0 rest1 room stop
params_refused {held1 = held1} {at = at} others count front fault room reason stop b is e other' total why s =
    let other : is_truncated (transform_reason fault.reason) ≡ false = ap is_truncated (sym why) ∙ other' in
    let more : bits_of front ++ bits_of (drop count held1) ≡ bits_of held1 = sym (bits_of-append front (drop count held1)) ∙ ap (λ l. bits_of (l ++ drop count held1)) is ∙ ap bits_of (take-append-drop count held1) in
    let here : params_read held1 ≡ Err fault = ap (λ (l : List Bool). read params.reason_of params_rows (record { place = 0; rest = l })) (sym more)
    ∙ read-more_refused params.reason_of params_rows (cursor_at front 0) fault (bits_of (drop count held1)) (record { whole = omega (arith, length-bits front) }) (transform_other fault.reason other) e in
    stops_refused units_laws room (8 * at + fault.place) (at + fault.place / 8) (transform_reason fault.reason) stop b (group_refused params_group others at held1 fault here)
    other total (omega arith) (s ∙ refused_for (at + fault.place / 8) why)

-- ---- the slices

-- The decoder took slices in order, and the rows of the others are left.
pub record SlicesSoFar (parts : HeaderParts) (z : Past) (held0 : List ℕ) (rest0 rest1 : Option (List ℕ)) (at : ℕ) (held1 : List ℕ) (others : List (List ℕ) → Rows Reason DataUnit) (p : Params) (d : PictureDecoderSeen) : Type 0 where
  pub so_far : List (List ℕ)
  pub has : HasTaken so_far d
  pub begun : Begun units z held0 rest0 rest1 at held1 (slice_rows parts p (slice_count p.slicing - length so_far) so_far >>= others)

pub slices_start : {z : Past} {held0 held1 : List ℕ} {rest0 rest1 : Option (List ℕ)} {at : ℕ} (parts : HeaderParts) (others : List (List ℕ) → Rows Reason DataUnit) (d : PictureDecoderSeen) → d.next ≡ 0
    → Begun units z held0 rest0 rest1 at held1 (slice_rows parts d.params (slice_count d.params.slicing) [] >>= others) → SlicesSoFar parts z held0 rest0 rest1 at held1 others d.params d
slices_start {z} {held0} {held1} {rest0} {rest1} {at} parts others d first b = record {
  so_far = [];
  has = record { number = first; each = λ k. took_none (frame_of d.shape) d.params k (stack_of d.bands k) };
  begun = subst (λ n. Begun units z held0 rest0 rest1 at held1 (slice_rows parts d.params n [] >>= others)) (omega arith) b;
}

-- how many bytes are wanted
pub wanted_is : (d : PictureDecoderSeen) (n : ℕ) → wanted_of d ≡ Some n → (d.next < slice_count d.params.slicing) × (n ≡ slice_bytes d.params.slicing.a d.params.slicing.b d.next)
wanted_is d n e = elim (cases_lt d.next (slice_count d.params.slicing)) [
  | inl lt ↦ (lt, let same : Some (slice_bytes d.params.slicing.a d.params.slicing.b d.next) ≡ Some n = sym (here lt) ∙ e in cc)
  | inr le ↦ absurd (let none : wanted_of d ≡ None = rw (le-ltb d.next (slice_count d.params.slicing) le) refl in cc)
]
  where
    here : d.next < slice_count d.params.slicing → wanted_of d ≡ Some (slice_bytes d.params.slicing.a d.params.slicing.b d.next)
    here lt = rw (lt-ltb d.next (slice_count d.params.slicing) lt) refl

none_wanted : (d : PictureDecoderSeen) → wanted_of d ≡ None → slice_count d.params.slicing ≤ d.next
none_wanted d e = elim (cases_lt d.next (slice_count d.params.slicing)) [
  | inr le ↦ le
  | inl lt ↦ absurd (let some : wanted_of d ≡ Some (slice_bytes d.params.slicing.a d.params.slicing.b d.next) = rw (lt-ltb d.next (slice_count d.params.slicing) lt) refl in cc)
]

-- the rules of the next slice, and the rows behind it
abbrev slice_rules_of : HeaderParts → Params → List (List ℕ) → Value → List (Rule Reason)
slice_rules_of parts p so_far v = slice_rules parts p (length so_far) (bytes_in v)

abbrev slices_behind : HeaderParts → Params → List (List ℕ) → (List (List ℕ) → Rows Reason DataUnit) → Value → Rows Reason DataUnit
slices_behind parts p so_far others v = slice_rows parts p (slice_count p.slicing - (length so_far + 1)) (so_far ++ bytes_in v ∷ []) >>= others

slice_field : (parts : HeaderParts) (p : Params) (left : ℕ) (so_far : List (List ℕ)) (others : List (List ℕ) → Rows Reason DataUnit)
    → slice_rows parts p (suc left) so_far >>= others ≡ row (some_bytes (share p (length so_far))) None (slice_rules_of parts p so_far) (λ v. slice_rows parts p left (so_far ++ bytes_in v ∷ []) >>= others)
unfolding slice_rows bytes_under ◌>>=◌
slice_field parts p left so_far others = refl

-- the next slice was asked for
pub record SliceAsked (parts : HeaderParts) (z : Past) (held0 : List ℕ) (rest0 rest2 : Option (List ℕ)) (n at : ℕ) (held2 : List ℕ) (others : List (List ℕ) → Rows Reason DataUnit) (p : Params) (d : PictureDecoderSeen) : Type 0 where
  pub so_far : List (List ℕ)
  pub has : HasTaken so_far d
  pub asked : Asked z held0 rest0 rest2 n at held2 (slice_rules_of parts p so_far) (slices_behind parts p so_far others)

pub slice_asked : {parts : HeaderParts} {z : Past} {held0 held1 : List ℕ} {rest0 rest1 : Option (List ℕ)} {at : ℕ} {others : List (List ℕ) → Rows Reason DataUnit} {p : Params} {d : PictureDecoderSeen} (n : ℕ) (held2 : List ℕ) (rest2 : Option (List ℕ)) → SlicesSoFar parts z held0 rest0 rest1 at held1 others p d
    → d.params ≡ p → Some n ≡ wanted_of d → Got n held1 held2 rest1 rest2 [] → SliceAsked parts z held0 rest0 rest2 n at held2 others p d
slice_asked {parts} {z} {held0} {held1} {rest0} {rest1} {at} {others} {p} {d} n held2 rest2 f same wants got =
    let w = wanted_is d n (sym wants) in
    let lt : length f.so_far < slice_count p.slicing = omega (arith, w.0, f.has.number, ap (λ p. slice_count p.slicing) same) in
    let size : n ≡ share p (length f.so_far) = w.1 ∙ ap (λ k. slice_bytes d.params.slicing.a d.params.slicing.b k) f.has.number ∙ ap (λ p. share p (length f.so_far)) same in
    let left : slice_count p.slicing - length f.so_far ≡ suc (slice_count p.slicing - (length f.so_far + 1)) = omega (arith, lt) in
    record {
      so_far = f.so_far;
      has = f.has;
      asked = asked n held2 rest2 (slice_rules_of parts p f.so_far) (slices_behind parts p f.so_far others) f.begun
          (ap (λ k. slice_rows parts p k f.so_far >>= others) left ∙ slice_field parts p (slice_count p.slicing - (length f.so_far + 1)) f.so_far others
          ∙ ap (λ k. row (some_bytes k) None (slice_rules_of parts p f.so_far) (slices_behind parts p f.so_far others)) (sym size)) got;
    }

-- the rules of a slice, under a frame
abbrev frame_rules : Params → Frame → ℕ → List ℕ → List (Rule Reason)
frame_rules p f n bytes =
    let s = p.slicing in
    let sx = n % s.slices_x in
    let sy = n / s.slices_x in
    let slice = slice_at s f.luma f.colour sx sy bytes in
    (not slice.too_long or_else reasons.LumaLengthTooLong)
    ∷ (is_small s f.luma f.colour sx sy p.matrix slice or_else reasons.CoefficientTooLarge) ∷ []

rules_same : (parts : HeaderParts) (p : Params) (d : PictureDecoderSeen) (so_far : List (List ℕ)) (bytes : List ℕ) → d.params ≡ p → frame_of d.shape ≡ frame_under parts → d.next ≡ length so_far → frame_rules d.params (frame_of d.shape) d.next bytes ≡ slice_rules parts p (length so_far) bytes
rules_same parts p d so_far bytes same frame number =
    ap (λ q. frame_rules q (frame_of d.shape) d.next bytes) same ∙ ap (λ f. frame_rules p f d.next bytes) frame ∙ ap (λ k. frame_rules p (frame_under parts) k bytes) number

broken_one : (long small : Bool) → long ≡ true → first_broken ((not long or_else reasons.LumaLengthTooLong) ∷ (small or_else reasons.CoefficientTooLarge) ∷ []) ≡ Some reasons.LumaLengthTooLong
broken_one long small e = rw e refl

broken_two : (long small : Bool) → long ≡ false → small ≡ false → first_broken ((not long or_else reasons.LumaLengthTooLong) ∷ (small or_else reasons.CoefficientTooLarge) ∷ []) ≡ Some reasons.CoefficientTooLarge
broken_two long small e h = rw (e, h) refl

broken_none : (long small : Bool) → long ≡ false → small ≡ true → first_broken ((not long or_else reasons.LumaLengthTooLong) ∷ (small or_else reasons.CoefficientTooLarge) ∷ []) ≡ None
broken_none long small e h = rw (e, h) refl

refused_breaks : (d : PictureDecoderSeen) (bytes : List ℕ) (fault : SliceFault) → IsRefused d.params.slicing d.shape (column_of d) (row_of_slices d) d.params.matrix (next_slice d bytes) fault → first_broken (frame_rules d.params (frame_of d.shape) d.next bytes) ≡ Some (slice_reason fault)
refused_breaks d bytes faults.LumaLengthTooLong why = broken_one _ _ why
refused_breaks d bytes faults.CoefficientTooLarge why = broken_two _ _ why.0 why.1

slice_other : (fault : SliceFault) → slice_reason fault ≢ reasons.Truncated
slice_other faults.LumaLengthTooLong e = cc
slice_other faults.CoefficientTooLarge e = cc

pub slice_broken : {parts : HeaderParts} {z : Past} {held0 held2 : List ℕ} {rest0 rest2 : Option (List ℕ)} {n at : ℕ} {others : List (List ℕ) → Rows Reason DataUnit} {p : Params} {d : PictureDecoderSeen} (room : ℕ) (bytes : List ℕ) (fault : SliceFault) (d' : PictureDecoderSeen) (reason : Reason) (stop : ReadStop Reason) → SliceAsked parts z held0 rest0 rest2 n at held2 others p d
    → d.params ≡ p → frame_of d.shape ≡ frame_under parts → n ≤ length held2 → bytes ≡ take n held2 → ((i : ℕ) → get_or bytes i 0 < 256) → IsSliceRefused bytes fault d d' → at + length held2 + room ≡ limit
    → reason ≡ slice_reason fault → stop ≡ stops.Refused (record { place = at; reason = reason }) → StopsOver units z held0 rest0 rest2 room stop
slice_broken {parts} {held2 = held2} {n = n} {at = at} {p = p} {d = d} room bytes fault d' reason stop a same frame many is fits refused total why e =
    let broken : first_broken (slice_rules parts p (length a.so_far) (take n held2)) ≡ Some (slice_reason fault) =
    ap (λ l. first_broken (slice_rules parts p (length a.so_far) l)) (sym is) ∙ ap first_broken (sym (rules_same parts p d a.so_far bytes same frame a.has.number)) ∙ refused_breaks d bytes fault refused.why in
    field_broken room at (slice_reason fault) stop a.asked many (subst (λ l. (i : ℕ) → get_or l i 0 < 256) is fits) broken (slice_other fault) total refl (e ∙ refused_for at why)

has_more : (so_far : List (List ℕ)) (bytes : List ℕ) (old new : PictureDecoderSeen) → IsAllowed old.params.slicing → old.next < slice_count old.params.slicing → HasTaken so_far old → IsTaken bytes old new → HasTaken (so_far ++ bytes ∷ []) new
has_more so_far bytes old new allowed lt has taken =
    let s = old.params.slicing in
    let n = old.next in
    let after : PictureDecoderSeen = record old { bands = new.bands; next = n + 1 } in
    let more : HasTaken (so_far ++ bytes ∷ []) after = record {
      number = omega (arith, has.number, length-append so_far (bytes ∷ []));
      each = λ k. took_more (frame_of old.shape) old.params so_far bytes k (n % s.slices_x) (n / s.slices_x) (stack_of old.bands k) (stack_of new.bands k) allowed.slices (column_in s n lt) (number_is s n lt ∙ has.number) (has.each k) (taken.each k);
    } in
    subst (λ (d : PictureDecoderSeen). HasTaken (so_far ++ bytes ∷ []) d) (sym taken.state) more

pub slice_taken : {parts : HeaderParts} {z : Past} {held0 held2 : List ℕ} {rest0 rest2 : Option (List ℕ)} {n at : ℕ} {others : List (List ℕ) → Rows Reason DataUnit} {p : Params} {d : PictureDecoderSeen} (bytes : List ℕ) (d' : PictureDecoderSeen) (held3 : List ℕ) (at' : ℕ) → SliceAsked parts z held0 rest0 rest2 n at held2 others p d
    → d.params ≡ p → frame_of d.shape ≡ frame_under parts → IsAllowed p.slicing → Some n ≡ wanted_of d → n ≤ length held2 → bytes ≡ take n held2 → ((i : ℕ) → get_or bytes i 0 < 256) → IsTaken bytes d d' → held3 ≡ drop n held2 → at' ≡ at + n → SlicesSoFar parts z held0 rest0 rest2 at' held3 others p d'
slice_taken {parts} {z} {held0} {held2} {rest0} {rest2} {n} {at} {others} {p} {d} bytes d' held3 at' a same frame allowed wants many is fits taken behind further =
    let w = wanted_is d n (sym wants) in
    let holds : first_broken (slice_rules parts p (length a.so_far) (take n held2)) ≡ None =
    ap (λ l. first_broken (slice_rules parts p (length a.so_far) l)) (sym is) ∙ ap first_broken (sym (rules_same parts p d a.so_far bytes same frame a.has.number)) ∙ broken_none _ _ taken.fits taken.small in
    let next = field_taken a.asked many (subst (λ l. (i : ℕ) → get_or l i 0 < 256) is fits) holds in
    let size : length a.so_far + 1 ≡ length (a.so_far ++ bytes ∷ []) = omega (arith, length-append a.so_far (bytes ∷ [])) in
    record {
      so_far = a.so_far ++ bytes ∷ [];
      has = has_more a.so_far bytes d d' (subst (λ q. IsAllowed q.slicing) (sym same) allowed) w.0 a.has taken;
      begun = subst (λ k. Begun units z held0 rest0 rest2 k held3 (slice_rows parts p (slice_count p.slicing - length (a.so_far ++ bytes ∷ [])) (a.so_far ++ bytes ∷ []) >>= others)) (sym further)
          (subst (λ l. Begun units z held0 rest0 rest2 (at + n) l (slice_rows parts p (slice_count p.slicing - length (a.so_far ++ bytes ∷ [])) (a.so_far ++ bytes ∷ []) >>= others)) (sym behind)
          (subst (λ k. Begun units z held0 rest0 rest2 (at + n) (drop n held2) (slice_rows parts p (slice_count p.slicing - k) (a.so_far ++ bytes ∷ []) >>= others)) size
          (subst (λ l. Begun units z held0 rest0 rest2 (at + n) (drop n held2) (slice_rows parts p (slice_count p.slicing - (length a.so_far + 1)) (a.so_far ++ l ∷ []) >>= others)) (sym is) next)));
    }

-- where the next slice begins
pub slice_place : (p : Params) (d d' : PictureDecoderSeen) (bytes : List ℕ) (n place at at' : ℕ) → IsAllowed p.slicing → d.params ≡ p → Some n ≡ wanted_of d → IsTaken bytes d d' → at ≡ place + bytes_before p.slicing.a p.slicing.b d.next → at' ≡ at + n
    → (at' ≡ place + bytes_before p.slicing.a p.slicing.b d'.next) × (d'.next ≤ slice_count p.slicing)
slice_place p d d' bytes n place at at' allowed same wants taken there further =
    let w = wanted_is d n (sym wants) in
    let number : d'.next ≡ d.next + 1 = ap (λ d. d.next) taken.state in
    let size : n ≡ slice_bytes p.slicing.a p.slicing.b d.next = w.1 ∙ ap (λ q. slice_bytes q.slicing.a q.slicing.b d.next) same in
    let rises = bytes_before-rises p.slicing.a p.slicing.b d.next (d.next + 1) allowed.share.some (omega arith) in
    (omega (arith, there, further, size, rises, ap (bytes_before p.slicing.a p.slicing.b) number), omega (arith, number, w.0, ap (λ q. slice_count q.slicing) same))

pub all_bytes : (p : Params) (d : PictureDecoderSeen) (place at : ℕ) → d.params ≡ p → wanted_of d ≡ None → d.next ≤ slice_count p.slicing → at ≡ place + bytes_before p.slicing.a p.slicing.b d.next → at ≡ place + total_bytes p.slicing
all_bytes p d place at same none few there =
    let all : d.next ≡ slice_count p.slicing = omega (arith, few, none_wanted d none, ap (λ q. slice_count q.slicing) same) in
    there ∙ ap (λ n. place + bytes_before p.slicing.a p.slicing.b n) all

no_slices : (parts : HeaderParts) (p : Params) (so_far : List (List ℕ)) (others : List (List ℕ) → Rows Reason DataUnit) → slice_rows parts p 0 so_far >>= others ≡ others so_far
unfolding slice_rows ◌>>=◌
no_slices parts p so_far others = refl

-- all were taken
pub slices_done : {parts : HeaderParts} {z : Past} {held0 held1 : List ℕ} {rest0 rest1 : Option (List ℕ)} {at : ℕ} {others : List (List ℕ) → Rows Reason DataUnit} {p : Params} {d : PictureDecoderSeen} (behind : ℕ) → SlicesSoFar parts z held0 rest0 rest1 at held1 others p d
    → d.params ≡ p → wanted_of d ≡ None → at ≡ behind → TookSlices z held0 rest0 rest1 behind held1 others d
slices_done {parts} {z} {held0} {held1} {rest0} {rest1} {at} {others} {p} {d} behind f same none there =
    let all : slice_count p.slicing - length f.so_far ≡ 0 = omega (arith, none_wanted d none, f.has.number, ap (λ p. slice_count p.slicing) same) in
    record {
      slices = f.so_far;
      has = f.has;
      begun = subst (λ k. Begun units z held0 rest0 rest1 k held1 (others f.so_far)) there
          (begun_same (others f.so_far) f.begun (ap (λ k. slice_rows parts p k f.so_far >>= others) all ∙ no_slices parts p f.so_far others));
    }

-- ---- the whole payload

-- the rows behind a picture's number, behind its transform parameters, and behind its slices
abbrev pub behind_slices : Past → ℕ → HeaderParts → ℕ → Params → List (List ℕ) → Rows Reason DataUnit
behind_slices z next parts number p slices = next_checked z next >>= λ length. done (Picture parts number p slices)

abbrev pub behind_params : Past → ℕ → HeaderParts → ℕ → Params → Rows Reason DataUnit
behind_params z next parts number p = slice_rows parts p (slice_count p.slicing) [] >>= behind_slices z next parts number p

abbrev pub behind_number : Past → ℕ → HeaderParts → ℕ → Rows Reason DataUnit
behind_number z next parts number = params_then (behind_params z next parts number)

payload_is : (z : Past) (next : ℕ) (parts : HeaderParts) → picture_payload z next parts ≡ word_under (number_rules z) >>= behind_number z next parts
unfolding picture_payload
payload_is z next parts = refl

pub payload_begun : {z : Past} {held0 held1 : List ℕ} {rest0 rest1 : Option (List ℕ)} {at : ℕ} (next : ℕ) (parts : HeaderParts) → Begun units z held0 rest0 rest1 at held1 (picture_payload z next parts) → Begun units z held0 rest0 rest1 at held1 (word_under (number_rules z) >>= behind_number z next parts)
payload_begun {z = z} next parts b = begun_same (word_under (number_rules z) >>= behind_number z next parts) b (payload_is z next parts)

pub begun_at : {z : Past} {held0 held1 : List ℕ} {rest0 rest1 : Option (List ℕ)} {at : ℕ} {left : Rows Reason DataUnit} (at' : ℕ) → Begun units z held0 rest0 rest1 at held1 left → at' ≡ at → Begun units z held0 rest0 rest1 at' held1 left
begun_at {z} {held0} {held1} {rest0} {rest1} {left = left} at' b same = subst (λ n. Begun units z held0 rest0 rest1 n held1 left) (sym same) b

-- the slices by the decoder's own parameters
pub slices_begun : {z : Past} {held0 held1 : List ℕ} {rest0 rest1 : Option (List ℕ)} {at : ℕ} (parts : HeaderParts) (p q : Params) (others : List (List ℕ) → Rows Reason DataUnit) → Begun units z held0 rest0 rest1 at held1 (slice_rows parts p (slice_count p.slicing) [] >>= others) → q ≡ p
    → Begun units z held0 rest0 rest1 at held1 (slice_rows parts q (slice_count q.slicing) [] >>= others)
slices_begun {z} {held0} {held1} {rest0} {rest1} {at} parts p q others b same = subst (λ q. Begun units z held0 rest0 rest1 at held1 (slice_rows parts q (slice_count q.slicing) [] >>= others)) (sym same) b

-- the decoder makes pictures of the header's shape
pub ready_frame : (parts header : HeaderParts) (shape : PictureShape) (p : Params) (d : PictureDecoderSeen) → IsAtFirstSlice shape p d → IsShapeOf shape header → header ≡ parts → frame_of d.shape ≡ frame_under parts
ready_frame parts header shape p d ready is same = ready.frame ∙ frame_is header shape is ∙ ap frame_under same

-- the check of the next offset
next_read : (z : Past) (next at span : ℕ) (others : ℕ → Rows Reason DataUnit) (bytes : List ℕ) → at ≡ z.place + span
    → read reason_of (next_checked z next >>= others) (bytes_at at bytes) ≡ and_then {A = ℕ × Cursor} (reading_unless (8 * (z.place + 5)) (first_broken ((leads_behind next span or_else reasons.OffsetWrong) ∷ [])) (Ok (8 * at, bytes_at at bytes))) (λ x. read reason_of (others x.0) x.1)
unfolding next_checked
next_read z next at span others bytes there =
    let rules = λ (here : ℕ). ((next == 0 || next == here / 8 - z.place) or_else reasons.OffsetWrong) ∷ [] in
    let size : 8 * at / 8 - z.place ≡ span = omega (arith, there) in
    read-bind reason_of (check_at (8 * (z.place + 5)) rules) others (bytes_at at bytes)
    ∙ ap (λ (r : Result (ℕ × Cursor) (Fault Reason)). and_then r (λ x. read reason_of (others x.0) x.1)) (read-check_at reason_of (8 * (z.place + 5)) rules (bytes_at at bytes)
    ∙ ap (λ n. reading_unless (8 * (z.place + 5)) (first_broken ((leads_behind next n or_else reasons.OffsetWrong) ∷ [])) (Ok (8 * at, bytes_at at bytes))) size)

pub next_wrong : {z : Past} {held0 held1 : List ℕ} {rest0 rest1 : Option (List ℕ)} {at : ℕ} (others : ℕ → Rows Reason DataUnit) (next span room place : ℕ) (stop : ReadStop Reason) → Begun units z held0 rest0 rest1 at held1 (next_checked z next >>= others)
    → at ≡ z.place + span → leads_behind next span ≡ false → at + length held1 + room ≡ limit → place ≡ z.place + 5 → stop ≡ stops.Refused (record { place = place; reason = reasons.OffsetWrong }) → StopsOver units z held0 rest0 rest1 room stop
next_wrong {z} {held1 = held1} {at = at} others next span room place stop b there wrong total field e =
    stops_refused units_laws room (8 * (z.place + 5)) place reasons.OffsetWrong stop b (next_read z next at span others held1 there ∙ rw wrong refl) refl total (omega (arith, field)) e

pub next_right : {z : Past} {held0 held1 : List ℕ} {rest0 rest1 : Option (List ℕ)} {at : ℕ} (others : ℕ → Rows Reason DataUnit) (next span : ℕ) → Begun units z held0 rest0 rest1 at held1 (next_checked z next >>= others)
    → at ≡ z.place + span → leads_behind next span ≡ true → Begun units z held0 rest0 rest1 at held1 (others (8 * at))
next_right {z} {held0} {held1} {rest0} {rest1} {at} others next span b there right =
    subst (λ n. Begun units z held0 rest0 rest1 n held1 (others (8 * at))) (omega arith)
    (begun_use units_laws [] held1 (others (8 * at)) b refl (record { moves = λ more. next_read z next at span others more there ∙ rw right (ap (λ n. read reason_of (others (8 * at)) (bytes_at n more)) (omega arith)) }))

-- the unit is taken
pub picture_taken : {z : Past} {held0 held1 : List ℕ} {rest0 rest1 : Option (List ℕ)} {at : ℕ} (parts : HeaderParts) (shown : Shown) (p : Params) (slices : List (List ℕ)) (room : ℕ) → Begun units z held0 rest0 rest1 at held1 (done (Picture parts shown.number p slices))
    → at ≡ z.place + (shown.head + total_bytes p.slicing) → shown.head + total_bytes p.slicing < 2 ^ 32 → at + length held1 + room ≡ limit → shown.layout ≡ p.slicing → IsTaker parts p slices shown.decoder → Takes z held0 rest0 rest1 room held1 (IsShown parts shown)
picture_taken {z} {at = at} parts shown p slices room b there few total layout taker = record {
  unit = Picture parts shown.number p slices;
  at = at;
  begun = b;
  such = (record { params = p; slices = slices; is_picture = refl; layout = layout; head = omega (arith, there, b.partway.at_is); taker = taker }, omega (arith, few, there, b.partway.at_is));
  total = total;
}
