-- The cut of a skimmed stream is a skimmed stream.
use Rattle.std.proofs.Common.{◌≡◌, ◌⊎◌, inl, inr, ℕ, zero, suc, ◌+◌, ◌/◌, ◌%◌, ◌^◌, ◌<◌, ◌≤◌, Bool, true, false, not, cond, List, [], ◌∷◌, ◌++◌, length, map, drop, Option, Some, None, Result, Ok, Err, refl, sym, ap, subst, ◌∙◌, append_assoc, append-nil, arith}
use Rattle.std.specs.Prelude.{◌==◌, ◌&&◌, ◌||◌, nat_le, nat_lt}
use Rattle.std.specs.List.{AllByRecursion}
use Rattle.std.proofs.lemmas.Bool.{eq-eqb, ne_eqb, eqb-true, leb-true, ltb-true, le-leb, lt-ltb}
use Rattle.std.proofs.lemmas.List.{length-append}
use Rattle.bit_codes.specs.Bits.{Cursor}
use Rattle.field_rows.specs.Rows.{◌or_else◌, first_broken, Fault, is_nil}
use Rattle.parse_info.specs.declared.TheConstants.{HEAD_SIZE}
use Rattle.parse_info.specs.declared.Code.TheVariants.{EndOfSequence}
use Rattle.sequence_header.specs.declared.parts.HeaderParts.{HeaderParts}
use Rattle.transform_params.specs.Params.{Params}
use Rattle.run_theory.specs.Grammar.{Behind, Inner, Final, unit_at}
use Rattle.run_theory.specs.Fronts.{Stands, Finishes, size_to, front_behind, front_by, front_of}
use Rattle.stream_rows.specs.declared.reason.Reason.{Reason}
use Rattle.stream_rows.specs.declared.reason.Reason.TheVariants as reasons
use Rattle.stream_rows.specs.Units.{Past, nothing_yet, First, DataUnit, Sequence, Repeated, Picture, Skipped, End, unit_behind, has_fields, code_rules, previous_rules, number_rules, after}
use Rattle.stream_rows.specs.Streams.{UnitRows}
use Rattle.stream_cut.specs.Skim.{skim_rows, skim_grammar}
use Rattle.stream_writer.specs.EncodedStream.{end_unit}
use Rattle.stream_cut.specs.Cut.{Frames, is_in, cut_header_unit, cut_picture_unit, Cutting, nothing_cut, frame_now, payload_of, header_due, length_ahead, end_due, cut_text, cut_next, or_else_some, closing_by, closing, Piece, front_from, left_from, cut_of}
use Rattle.stream_cut.specs.CutLaws.{piece_bytes, StandWith, IsStreamWith, shapes_of_cut, shapes_read, HasShapes, units_of_cut}
use Rattle.stream_cut.proofs.CutPieces.{header_piece, end_piece, picture_piece, header_pieces, end_pieces, cut_pieces, closing_pieces, pieces_from, length-header, length-picture, made_append, from_made, shapes_counted}
use Rattle.stream_cut.proofs.Fields.{IsBytes}
use Rattle.stream_writer.proofs.EncodedParts.{no_previous}
use Rattle.stream_cut.proofs.UnitsRead.{IsHeader, IsPicture, Facts, unit_read, unit_long}
use Rattle.stream_cut.proofs.Written.{moves_header_unit, moves_picture_unit, moves_end_unit, Found, found_more, found_end, end_code}

-- ---- what stands in front says of its payload

pub by_reading : (z : Past) (bs : List ℕ) (n : ℕ) (unit : DataUnit) (r : Result (DataUnit × Cursor) (Fault Reason)) → unit_at skim_grammar z bs ≡ r → front_by skim_grammar (λ fault. fault) false bs r ≡ Stands n unit → (behind : Cursor) × (unit_at skim_grammar z bs ≡ Ok (unit, behind)) × (n ≡ size_to bs behind)
by_reading z bs n unit (Ok x) e k = let s = stood (unit_behind x.0) (is_nil x.1.rest && true) (size_to bs x.1) n x.0 unit k in (x.1, e ∙ ap (λ u. Ok (u, x.1)) s.0, sym s.1)
  where
    stood : (b : Behind) (empty : Bool) (m n : ℕ) (made unit : DataUnit) → front_behind {R = Reason} b empty m made ≡ Stands n unit → (made ≡ unit) × (m ≡ n)
    stood Inner empty m n made unit k = (cc, cc)
    stood Final true m n made unit k = absurd cc
    stood Final false m n made unit k = (cc, cc)
by_reading z bs n unit (Err fault) e k = absurd cc

pub last_reading : (z : Past) (bs : List ℕ) (n : ℕ) (unit : DataUnit) (r : Result (DataUnit × Cursor) (Fault Reason)) → unit_at skim_grammar z bs ≡ r → front_by skim_grammar (λ fault. fault) false bs r ≡ Finishes n unit → (behind : Cursor) × (unit_at skim_grammar z bs ≡ Ok (unit, behind)) × (n ≡ size_to bs behind) × (unit_behind unit ≡ Final)
last_reading z bs n unit (Ok x) e k = let s = stood (unit_behind x.0) refl (is_nil x.1.rest && true) (size_to bs x.1) n x.0 unit k in (x.1, e ∙ ap (λ u. Ok (u, x.1)) s.0, sym s.1, ap unit_behind (sym s.0) ∙ s.2)
  where
    stood : (b : Behind) → unit_behind x.0 ≡ b → (empty : Bool) (m n : ℕ) (made unit : DataUnit) → front_behind {R = Reason} b empty m made ≡ Finishes n unit → (made ≡ unit) × (m ≡ n) × (unit_behind x.0 ≡ Final)
    stood Inner e empty m n made unit k = absurd cc
    stood Final e true m n made unit k = (cc, cc, e)
    stood Final e false m n made unit k = absurd cc
last_reading z bs n unit (Err fault) e k = absurd cc

pub facts_of : (z : Past) (bytes more : List ℕ) (unit : DataUnit) → IsBytes (bytes ++ more) → front_of skim_grammar z (bytes ++ more) ≡ Stands (length bytes) unit → Facts z (drop 13 bytes) unit
facts_of z bytes more unit fits k =
    let r = by_reading z (bytes ++ more) (length bytes) unit (unit_at skim_grammar z (bytes ++ more)) refl k in
    unit_read z (bytes ++ more) unit r.0 fits r.1 bytes more refl r.2

pub only_end : (unit : DataUnit) → unit_behind unit ≡ Final → unit ≡ End
only_end (Sequence parts) e = absurd cc
only_end Repeated e = absurd cc
only_end (Picture parts number p slices) e = absurd cc
only_end Skipped e = absurd cc
only_end End e = refl

pub end_facts : (z : Past) (bytes : List ℕ) (unit : DataUnit) → IsBytes bytes → front_of skim_grammar z bytes ≡ Finishes (length bytes) unit → Facts z (drop 13 bytes) End
end_facts z bytes unit fits k =
    let r = last_reading z bytes (length bytes) unit (unit_at skim_grammar z bytes) refl k in
    subst (Facts z (drop 13 bytes)) (only_end unit r.3) (unit_read z bytes unit r.0 fits r.1 bytes [] (sym (append-nil bytes)) r.2)

-- ---- the frames

in_range : (frames : Frames) (f : ℕ) → is_in frames f ≡ true → (frames.from ≤ f) × (f < frames.to)
in_range frames f e = by (nat_le frames.from f) (nat_lt f frames.to) refl refl e
  where
    by : (a b : Bool) → nat_le frames.from f ≡ a → nat_lt f frames.to ≡ b → (a && b) ≡ true → (frames.from ≤ f) × (f < frames.to)
    by true true g h e = (leb-true frames.from f g, ltb-true f frames.to h)
    by true false g h e = absurd cc
    by false b g h e = absurd cc

is_in_range : (frames : Frames) (f : ℕ) → frames.from ≤ f → f < frames.to → is_in frames f ≡ true
is_in_range frames f g h = rw (le-leb frames.from f g, lt-ltb f frames.to h) refl

clash : (b : Bool) → b ≡ true → b ≡ false → ⊥
clash b e f = let g : true ≡ false = sym e ∙ f in cc

-- behind a frame that isn't one of them, though their first has come, there are none
none_behind : (frames : Frames) (f g : ℕ) → frames.from ≤ f → is_in frames f ≡ false → f ≤ g → is_in frames g ≡ true → ⊥
none_behind frames f g from out le e = clash (is_in frames f) (is_in_range frames f from (omega (arith, (in_range frames g e).1))) out

-- ---- between two units

-- the cut is between two of its sequences, or before the first
record Apart (frames : Frames) (z : Past) (w : Cutting) (z' : Past) : Type 0 where
  none : z'.first ≡ None
  pictures : z'.pictures ≡ 0
  previous : first_broken (previous_rules z' 0) ≡ None
  -- no frame is chosen of which a field has gone by
  whole : has_fields z.first ≡ true → is_in frames (frame_now z w) ≡ true → z.pictures % 2 ≡ 0

-- the cut is inside a sequence
record Inside (frames : Frames) (z : Past) (w : Cutting) (z' : Past) (previous : ℕ) : Type 0 where
  first : First
  there : z.first ≡ Some first
  first' : First
  there' : z'.first ≡ Some first'
  same : first'.parts ≡ first.parts
  true_one : previous ≡ z'.previous
  short : previous < 2 ^ 32
  some : 0 < z'.pictures
  begun : 0 < z.pictures
  behind : frames.from ≤ frame_now z w
  number : is_in frames (frame_now z w) ≡ true → z'.last ≡ z.last
  even : has_fields z.first ≡ true → z'.pictures % 2 ≡ cond (is_in frames (frame_now z w)) (z.pictures % 2) 0

abbrev Stays : Frames → Past → Cutting → Past → Option ℕ → Type 0
Stays frames z w z' None = Apart frames z w z'
Stays frames z w z' (Some previous) = Inside frames z w z' previous

-- what holds of the input's units so far and the cut's
record Between (frames : Frames) (z : Past) (w : Cutting) (z' : Past) : Type 0 where
  has_first : (f : First) → z.first ≡ Some f → (g : First) × (w.first ≡ Some g)
  header : (f : First) → z.first ≡ Some f → IsHeader f.parts f.payload
  first_header : (f : First) → w.first ≡ Some f → IsHeader f.parts f.payload
  none_yet : z.first ≡ None → z.pictures ≡ 0
  numbers : has_fields z.first ≡ true → 0 < z.pictures → (z.last + 1) % 2 ≡ z.pictures % 2
  written : z'.place ≡ w.written
  state : Stays frames z w z' w.previous

-- what the rest of the cut is: nothing, behind the end of a sequence, or units up to an end
abbrev Rest : Cutting → Past → List ℕ → List Piece → Type 0
Rest w z' text found = ((w.previous ≡ None) × (text ≡ []) × (found ≡ []) × (0 < z'.place)) ⊎ Found z' text found

some_none : {A : Type 0} (o : Option A) (a : A) → o ≡ Some a → o ≡ None → ⊥
some_none {A} o a e f = let c : (let s : Option A = Some a in s) ≡ None = sym e ∙ f in cc

some_some : {A : Type 0} (o : Option A) (a b : A) → o ≡ Some a → o ≡ Some b → a ≡ b
some_some {A} o a b e f = let c : (let s : Option A = Some a in s) ≡ Some b = sym e ∙ f in cc

-- ---- the end of the stream

odd_refused : (z : Past) (first : First) → z.first ≡ Some first → first.parts.coding == 1 ≡ true → z.pictures % 2 ≡ 1 → first_broken (code_rules z EndOfSequence) ≡ Some reasons.HalfFrame
odd_refused z first there fields odd = rw (there, fields, odd) refl

even_end : (z : Past) (first : First) → z.first ≡ Some first → first_broken (code_rules z EndOfSequence) ≡ None → has_fields z.first ≡ true → z.pictures % 2 ≡ 0
even_end z first there code fields = by (z.pictures % 2) refl (omega arith)
  where
    by : (r : ℕ) → z.pictures % 2 ≡ r → r < 2 → z.pictures % 2 ≡ 0
    by zero e lt = e
    by (suc zero) e lt = absurd (let c : (let s : Option Reason = Some reasons.HalfFrame in s) ≡ None = sym (odd_refused z first there (sym (ap has_fields there) ∙ fields) e) ∙ code in cc)
    by (suc (suc n)) e lt = absurd (omega (arith, lt))

-- the end of a sequence of the cut may stand
ends_whole : (frames : Frames) (z : Past) (w : Cutting) (z' : Past) (previous : ℕ) (f : Inside frames z w z' previous) → (has_fields z.first ≡ true → z.pictures % 2 ≡ 0) → first_broken (code_rules z' EndOfSequence) ≡ None
ends_whole frames z w z' previous f even = end_code z' f.first' f.there' (λ e. both (is_in frames (frame_now z w)) (f.even (fields e)) (even (fields e)))
  where
    fields : has_fields z'.first ≡ true → has_fields z.first ≡ true
    fields e = ap has_fields f.there ∙ ap (λ (q : HeaderParts). q.coding == 1) (sym f.same) ∙ sym (ap has_fields f.there') ∙ e

    both : (b : Bool) → z'.pictures % 2 ≡ cond b (z.pictures % 2) 0 → z.pictures % 2 ≡ 0 → z'.pictures % 2 ≡ 0
    both true e h = e ∙ h
    both false e h = e

header_some : (payload : List ℕ) → 0 < length (cut_header_unit payload)
header_some payload = omega arith

picture_some : (previous : ℕ) (payload : List ℕ) → 0 < length (cut_picture_unit previous payload)
picture_some previous payload = omega arith

end_some : (previous : ℕ) → 0 < length (end_unit previous)
end_some previous = omega arith

-- where no picture was chosen
empty_found : (frames : Frames) (z : Past) (w : Cutting) (z' : Past) (first : First) → Apart frames z w z' → IsHeader first.parts first.payload → Found z' (cut_header_unit first.payload ++ end_unit (HEAD_SIZE + length first.payload)) (header_piece first.parts first.payload ∷ end_piece (HEAD_SIZE + length first.payload) ∷ [])
empty_found frames z w z' first a h =
    let unit = cut_header_unit first.payload in
    let behind = after z' (Sequence first.parts) unit in
    let its : First = record { parts = first.parts; payload = drop 13 unit } in
    found_more z' (Sequence first.parts) unit (end_unit (HEAD_SIZE + length first.payload)) (end_piece (HEAD_SIZE + length first.payload) ∷ []) (moves_header_unit z' first.parts first.payload a.none a.previous h) (header_some first.payload)
    (found_end behind (end_unit (HEAD_SIZE + length first.payload))
    (moves_end_unit behind its (HEAD_SIZE + length first.payload) refl (sym (length-header first.payload)) (omega (arith, h.most)) (end_code behind its refl (λ e. ap (λ (n : ℕ). n % 2) a.pictures)))
    (end_some (HEAD_SIZE + length first.payload)))

at_end : (frames : Frames) (z : Past) (w : Cutting) (z' : Past) (bytes : List ℕ) → Between frames z w z' → Facts z (drop 13 bytes) End → Rest w z' (closing w) (closing_pieces w.previous w.written w.first)
at_end frames z w z' bytes b f = by w.previous w.written w.first refl refl refl b.state
  where
    by : (previous : Option ℕ) (written : ℕ) (first : Option First) → w.previous ≡ previous → w.written ≡ written → w.first ≡ first → Stays frames z w z' previous → Rest w z' (closing_by previous written first) (closing_pieces previous written first)
    by (Some previous) written first e g h s =
        inr (found_end z' (end_unit previous) (moves_end_unit z' s.first' previous s.there' s.true_one s.short (ends_whole frames z w z' previous s (even_end z f.0 f.1 f.2))) (end_some previous))
    by None zero (Some first) e g h s = inr (empty_found frames z w z' first s (b.first_header first h))
    by None zero None e g h s = let k = b.has_first f.0 f.1 in absurd (some_none w.first k.0 k.1 h)
    by None (suc n) first e g h s = inl (e, refl, refl, omega (arith, b.written, g))

-- ---- a unit that writes nothing

abbrev Goes : Frames → Past → Cutting → DataUnit → List ℕ → Past → Type 0
Goes frames z w unit bytes z' = Between frames (after z unit bytes) (cut_next frames z w unit bytes) z'

some_first : (o : Option First) (a : First) → (g : First) × (or_else_some o a ≡ Some g)
some_first None a = (a, refl)
some_first (Some first) a = (first, refl)

first_of : (o : Option First) (a f : First) → ((f : First) → o ≡ Some f → IsHeader f.parts f.payload) → IsHeader a.parts a.payload → or_else_some o a ≡ Some f → IsHeader f.parts f.payload
first_of None a f h k e = subst (λ (q : First). IsHeader q.parts q.payload) (some_some (Some a) a f refl e) k
first_of (Some first) a f h k e = h f e

behind_header : (frames : Frames) (z : Past) (w : Cutting) (z' : Past) (parts : HeaderParts) (bytes : List ℕ) → Between frames z w z' → z.first ≡ None → IsHeader parts (drop 13 bytes) → Goes frames z w (Sequence parts) bytes z'
behind_header frames z w z' parts bytes b none h =
    let its : First = record { parts = parts; payload = drop 13 bytes } in
    record {
      has_first = λ f e. some_first w.first its;
      header = λ f e. subst (λ (q : First). IsHeader q.parts q.payload) (some_some (Some its) its f refl e) h;
      first_header = λ f e. first_of w.first its f b.first_header h e;
      none_yet = λ e. absurd (some_none (Some its) its refl e);
      numbers = λ e some. absurd (omega (arith, some, b.none_yet none));
      written = b.written;
      state = by w.previous b.state;
    }
  where
    by : (o : Option ℕ) → Stays frames z w z' o → Stays frames (after z (Sequence parts) bytes) (cut_next frames z w (Sequence parts) bytes) z' o
    by None s = record { none = s.none; pictures = s.pictures; previous = s.previous; whole = λ e k. ap (λ (n : ℕ). n % 2) (b.none_yet none) }
    by (Some previous) s = absurd (some_none z.first s.first s.there none)

-- what looks like another state is in the same place of the cut
abbrev Alike : Past → Past → Type 0
Alike z y = (y.first ≡ z.first) × (y.pictures ≡ z.pictures) × (y.last ≡ z.last)

behind_other : (frames : Frames) (z : Past) (w : Cutting) (z' : Past) (n m : ℕ) → Between frames z w z' → Between frames (record z { place = n; previous = m }) w z'
behind_other frames z w z' n m b = record {
  has_first = b.has_first;
  header = b.header;
  first_header = b.first_header;
  none_yet = b.none_yet;
  numbers = b.numbers;
  written = b.written;
  state = by w.previous b.state;
}
  where
    by : (o : Option ℕ) → Stays frames z w z' o → Stays frames (record z { place = n; previous = m }) w z' o
    by None s = record { none = s.none; pictures = s.pictures; previous = s.previous; whole = s.whole }
    by (Some previous) s = record {
      first = s.first;
      there = s.there;
      first' = s.first';
      there' = s.there';
      same = s.same;
      true_one = s.true_one;
      short = s.short;
      some = s.some;
      begun = s.begun;
      behind = s.behind;
      number = s.number;
      even = s.even;
    }

-- ---- numbers and frames behind a picture

passes_number : (none same odd fields : Bool) → first_broken (((none || same) or_else reasons.PictureNumberWrong) ∷ (not (fields && none && odd) or_else reasons.FieldNumberOdd) ∷ []) ≡ None → ((none || same) ≡ true) × (fields ≡ true → none ≡ true → odd ≡ false)
passes_number true same true true e = absurd cc
passes_number true same false true e = (refl, λ f n. refl)
passes_number true same odd false e = (refl, λ f n. absurd cc)
passes_number false true odd fields e = (refl, λ f n. absurd cc)
passes_number false false odd fields e = absurd cc

-- the number of a picture that isn't the first
number_next : (z : Past) (number : ℕ) → first_broken (number_rules z number) ≡ None → 0 < z.pictures → number ≡ (z.last + 1) % 2 ^ 32
number_next z number rule some =
    let p = passes_number (z.pictures == 0) (number == (z.last + 1) % 2 ^ 32) (number % 2 == 1) (has_fields z.first) rule in
    eqb-true number ((z.last + 1) % 2 ^ 32) (by (z.pictures == 0) (ne_eqb z.pictures 0 (λ q. omega (arith, some, q))) p.0)
  where
    by : (none : Bool) {same : Bool} → none ≡ false → (none || same) ≡ true → same ≡ true
    by true e h = absurd cc
    by false e h = h

-- that of a field is as even as its place
number_even : (frames : Frames) (z : Past) (w : Cutting) (z' : Past) (number : ℕ) → Between frames z w z' → first_broken (number_rules z number) ≡ None → has_fields z.first ≡ true → number % 2 ≡ z.pictures % 2
number_even frames z w z' number b rule fields = by z.pictures refl
  where
    first_one : z.pictures ≡ 0 → number % 2 ≡ 0
    first_one none =
        let p = passes_number (z.pictures == 0) (number == (z.last + 1) % 2 ^ 32) (number % 2 == 1) (has_fields z.first) rule in
        let odd : (number % 2 == 1) ≡ false = p.1 fields (eq-eqb z.pictures 0 none) in
        two (number % 2) odd (omega arith)
      where
        two : (r : ℕ) → (r == 1) ≡ false → r < 2 → r ≡ 0
        two zero e lt = refl
        two (suc zero) e lt = absurd (let c : true ≡ false = e in cc)
        two (suc (suc n)) e lt = absurd (omega (arith, lt))

    by : (n : ℕ) → z.pictures ≡ n → number % 2 ≡ z.pictures % 2
    by zero e = omega (arith, first_one e, e)
    by (suc n) e =
        let some : 0 < z.pictures = omega (arith, e) in
        omega (arith, number_next z number rule some, b.numbers fields some)

-- the frame of the next picture is the same or a later one
frame_rises : (fields : Bool) (n : ℕ) → cond fields (n / 2) n ≤ cond fields ((n + 1) / 2) (n + 1)
frame_rises true n = omega arith
frame_rises false n = omega arith

-- ---- a picture

module _ (frames : Frames) (z : Past) (w : Cutting) (parts : HeaderParts) (number : ℕ) (p : Params) (slices : List (List ℕ)) (bytes : List ℕ) where
  abbrev unit : DataUnit
  unit = Picture parts number p slices

  abbrev next : Past
  next = after z unit bytes

  -- the frame stays where only one of its fields has gone by
  frame_stays : has_fields z.first ≡ true → z.pictures % 2 ≡ 0 → frame_now next w ≡ frame_now z w
  frame_stays fields even =
      ap (λ c. w.frames + cond c ((z.pictures + 1) / 2) (z.pictures + 1)) fields
      ∙ omega (arith, even)
      ∙ sym (ap (λ c. w.frames + cond c (z.pictures / 2) z.pictures) fields)

  rises : frame_now z w ≤ frame_now next w
  rises = omega (arith, frame_rises (has_fields z.first) z.pictures)

  numbers_next : (z' : Past) → Between frames z w z' → first_broken (number_rules z number) ≡ None → has_fields z.first ≡ true → 0 < z.pictures + 1 → (number + 1) % 2 ≡ (z.pictures + 1) % 2
  numbers_next z' b rule fields some = omega (arith, number_even frames z w z' number b rule fields)

  odd_one : (n : ℕ) → (n % 2 ≡ 0 → ⊥) → (n + 1) % 2 ≡ 0
  odd_one n h = by (n % 2) refl
    where
      by : (r : ℕ) → n % 2 ≡ r → (n + 1) % 2 ≡ 0
      by zero e = absurd (h e)
      by (suc zero) e = omega (arith, e)
      by (suc (suc r)) e = absurd (omega (arith, e))

  -- one that isn't chosen
  behind_unchosen : (z' : Past) (first : First) → Between frames z w z' → z.first ≡ Some first → first_broken (number_rules z number) ≡ None → is_in frames (frame_now z w) ≡ false → Between frames next w z'
  behind_unchosen z' first b there rule out = record {
    has_first = b.has_first;
    header = b.header;
    first_header = b.first_header;
    none_yet = λ e. absurd (some_none z.first first there e);
    numbers = numbers_next z' b rule;
    written = b.written;
    state = by w.previous b.state;
  }
    where
      by : (o : Option ℕ) → Stays frames z w z' o → Stays frames next w z' o
      by None s = record {
        none = s.none;
        pictures = s.pictures;
        previous = s.previous;
        whole = λ fields k. odd_one z.pictures (λ even. clash (is_in frames (frame_now z w)) (ap (is_in frames) (sym (frame_stays fields even)) ∙ k) out);
      }
      by (Some previous) s = record {
        first = s.first;
        there = s.there;
        first' = s.first';
        there' = s.there';
        same = s.same;
        true_one = s.true_one;
        short = s.short;
        some = s.some;
        begun = omega arith;
        behind = omega (arith, s.behind, rises);
        number = λ k. absurd (none_behind frames (frame_now z w) (frame_now next w) s.behind out rises k);
        even = λ fields. even (is_in frames (frame_now next w)) refl (s.even fields ∙ ap (λ c. cond c (z.pictures % 2) 0) out);
      }
        where
          even : (c : Bool) → is_in frames (frame_now next w) ≡ c → z'.pictures % 2 ≡ 0 → z'.pictures % 2 ≡ cond c ((z.pictures + 1) % 2) 0
          even true k e = absurd (none_behind frames (frame_now z w) (frame_now next w) s.behind out rises k)
          even false k e = e

  -- the cut is ready for one that is chosen
  record Ready (first : First) (y : Past) (previous : ℕ) : Type 0 where
    first' : First
    there' : y.first ≡ Some first'
    same : first'.parts ≡ first.parts
    true_one : previous ≡ y.previous
    short : previous < 2 ^ 32
    rule : first_broken (number_rules y number) ≡ None
    even : has_fields z.first ≡ true → y.pictures % 2 ≡ z.pictures % 2

  chosen_next : ℕ → Cutting
  chosen_next n = record w { written = n; previous = Some (HEAD_SIZE + length (drop HEAD_SIZE bytes)) }

  behind_chosen : (z' y : Past) (first : First) (previous n : ℕ) → Between frames z w z' → z.first ≡ Some first → first_broken (number_rules z number) ≡ None → is_in frames (frame_now z w) ≡ true → IsPicture parts number p slices (drop 13 bytes) → Ready first y previous
      → n ≡ y.place + length (cut_picture_unit previous (drop 13 bytes)) → Between frames next (chosen_next n) (after y unit (cut_picture_unit previous (drop 13 bytes)))
  unfolding chosen_next
  behind_chosen z' y first previous n b there rule chosen h r total = record {
    has_first = b.has_first;
    header = b.header;
    first_header = b.first_header;
    none_yet = λ e. absurd (some_none z.first first there e);
    numbers = numbers_next z' b rule;
    written = sym total;
    state = record {
      first = first;
      there = there;
      first' = r.first';
      there' = r.there';
      same = r.same;
      true_one = sym (length-picture previous (drop 13 bytes));
      short = h.most;
      some = omega arith;
      begun = omega arith;
      behind = omega (arith, (in_range frames (frame_now z w) chosen).0, rises);
      number = λ k. refl;
      even = λ fields. even (is_in frames (frame_now next w)) refl fields;
    };
  }
    where
      even : (c : Bool) → is_in frames (frame_now next w) ≡ c → has_fields z.first ≡ true → (y.pictures + 1) % 2 ≡ cond c ((z.pictures + 1) % 2) 0
      even true k fields = omega (arith, r.even fields)
      even false k fields = omega (arith, r.even fields, odd_one z.pictures (λ e. clash (is_in frames (frame_now next w)) (ap (is_in frames) (frame_stays fields e) ∙ chosen) k))

  picture_found : (y : Past) (first : First) (previous n : ℕ) (text : List ℕ) (found : List Piece) → first.parts ≡ parts → IsPicture parts number p slices (drop 13 bytes) → Ready first y previous
      → Rest (chosen_next n) (after y unit (cut_picture_unit previous (drop 13 bytes))) text found → Found y (cut_picture_unit previous (drop 13 bytes) ++ text) (picture_piece unit previous bytes ∷ found)
  unfolding chosen_next
  picture_found y first previous n text found of h r (inl e) = absurd (some_none (Some (HEAD_SIZE + length (drop HEAD_SIZE bytes))) (HEAD_SIZE + length (drop HEAD_SIZE bytes)) refl e.0)
  picture_found y first previous n text found of h r (inr f) =
      found_more y unit (cut_picture_unit previous (drop 13 bytes)) text found
      (moves_picture_unit y r.first' parts number p slices previous (drop 13 bytes) r.there' (r.same ∙ of) r.true_one r.short r.rule h)
      (picture_some previous (drop 13 bytes)) f

  -- where the cut is inside the sequence
  ready_inside : (z' : Past) (first : First) (previous : ℕ) → Inside frames z w z' previous → z.first ≡ Some first → first_broken (number_rules z number) ≡ None → is_in frames (frame_now z w) ≡ true → Ready first z' previous
  ready_inside z' first previous s there rule chosen = record {
    first' = s.first';
    there' = s.there';
    same = s.same ∙ ap (λ (f : First). f.parts) (some_some z.first s.first first s.there there);
    true_one = s.true_one;
    short = s.short;
    rule = any_order (has_fields z'.first) (z'.pictures == 0) (number == (z'.last + 1) % 2 ^ 32) (number % 2 == 1) (ne_eqb z'.pictures 0 (λ q. omega (arith, q, s.some)))
        (eq-eqb number ((z'.last + 1) % 2 ^ 32) (number_next z number rule s.begun ∙ ap (λ n. (n + 1) % 2 ^ 32) (sym (s.number chosen))));
    even = λ fields. s.even fields ∙ ap (λ c. cond c (z.pictures % 2) 0) chosen;
  }
    where
      any_order : (fields none same odd : Bool) → none ≡ false → same ≡ true → first_broken (((none || same) or_else reasons.PictureNumberWrong) ∷ (not (fields && none && odd) or_else reasons.FieldNumberOdd) ∷ []) ≡ None
      any_order true none same odd e h = rw (e, h) refl
      any_order false none same odd e h = rw (e, h) refl

  -- and where it begins one
  ready_apart : (z' : Past) (first : First) → Between frames z w z' → Apart frames z w z' → z.first ≡ Some first → first.parts ≡ parts → first_broken (number_rules z number) ≡ None → is_in frames (frame_now z w) ≡ true
      → Ready first (after z' (Sequence parts) (cut_header_unit first.payload)) (HEAD_SIZE + length first.payload)
  ready_apart z' first b s there of rule chosen = record {
    first' = record { parts = parts; payload = drop 13 (cut_header_unit first.payload) };
    there' = refl;
    same = sym of;
    true_one = sym (length-header first.payload);
    short = omega (arith, (b.header first there).most);
    rule = first_order (parts.coding == 1) (z'.pictures == 0) (number == (z'.last + 1) % 2 ^ 32) (number % 2 == 1) (eq-eqb z'.pictures 0 s.pictures)
        (λ e. let fields : has_fields z.first ≡ true = ap has_fields there ∙ ap (λ (q : HeaderParts). q.coding == 1) of ∙ e in
        ne_eqb (number % 2) 1 (λ (q : number % 2 ≡ 1). omega (arith, q, number_even frames z w z' number b rule fields, s.whole fields chosen)));
    even = λ fields. omega (arith, s.pictures, s.whole fields chosen);
  }
    where
      first_order : (fields none same odd : Bool) → none ≡ true → (fields ≡ true → odd ≡ false) → first_broken (((none || same) or_else reasons.PictureNumberWrong) ∷ (not (fields && none && odd) or_else reasons.FieldNumberOdd) ∷ []) ≡ None
      first_order true none same odd e h = rw (e, h refl) refl
      first_order false none same odd e h = rw e refl

  -- what follows it
  abbrev Follows : List ℕ → List Piece → Type 0
  Follows text found = (v : Past) → Goes frames z w unit bytes v → Rest (cut_next frames z w unit bytes) v text found

  -- the header's unit and the picture's, where the cut begins the sequence
  abbrev its_header : First → List ℕ
  its_header first = cut_header_unit first.payload

  abbrev its_picture : First → List ℕ
  its_picture first = cut_picture_unit (HEAD_SIZE + length first.payload) (drop 13 bytes)

  abbrev begun_at : Past → First → Past
  begun_at z' first = after z' (Sequence parts) (its_header first)

  chosen_by : (z' : Past) (first : First) (text : List ℕ) (found : List Piece) → Between frames z w z' → z.first ≡ Some first → first.parts ≡ parts → first_broken (number_rules z number) ≡ None → IsPicture parts number p slices (drop 13 bytes) → is_in frames (frame_now z w) ≡ true
      → (o : Option ℕ) → Stays frames z w z' o
      → ((n : ℕ) (v : Past) → n ≡ w.written + length (header_due z o ++ cut_picture_unit (length_ahead z o) (drop 13 bytes)) → Between frames next (chosen_next n) v → Rest (chosen_next n) v text found)
      → Found z' ((header_due z o ++ cut_picture_unit (length_ahead z o) (drop 13 bytes)) ++ text) ((header_pieces parts z o ++ picture_piece unit (length_ahead z o) bytes ∷ []) ++ found)
  chosen_by z' first text found b there of rule h chosen (Some previous) s more =
      let r = ready_inside z' first previous s there rule chosen in
      let n = w.written + length (cut_picture_unit previous (drop 13 bytes)) in
      picture_found z' first previous n text found of h r
      (more n (after z' unit (cut_picture_unit previous (drop 13 bytes))) refl (behind_chosen z' z' first previous n b there rule chosen h r (omega (arith, b.written))))
  chosen_by z' first text found b there of rule h chosen None s more =
      let hu = its_header first in
      let pu = its_picture first in
      let y = begun_at z' first in
      let previous = HEAD_SIZE + length first.payload in
      let n = w.written + length (hu ++ pu) in
      let r = ready_apart z' first b s there of rule chosen in
      let payload : payload_of z.first ≡ first.payload = ap payload_of there in
      subst (λ l. Found z' ((cut_header_unit l ++ cut_picture_unit (HEAD_SIZE + length l) (drop 13 bytes)) ++ text) (header_piece parts l ∷ picture_piece unit (HEAD_SIZE + length l) bytes ∷ found)) (sym payload)
      (subst (λ l. Found z' l (header_piece parts first.payload ∷ picture_piece unit previous bytes ∷ found)) (sym (append_assoc hu pu text))
      (found_more z' (Sequence parts) hu (pu ++ text) (picture_piece unit previous bytes ∷ found)
      (moves_header_unit z' parts first.payload s.none s.previous (subst (λ q. IsHeader q first.payload) of (b.header first there))) (header_some first.payload)
      (picture_found y first previous n text found of h r
      (more n (after y unit pu) (ap (λ l. w.written + length (cut_header_unit l ++ cut_picture_unit (HEAD_SIZE + length l) (drop 13 bytes))) (sym payload)) (behind_chosen z' y first previous n b there rule chosen h r (omega (arith, b.written, length-append hu pu)))))))

  -- any picture
  abbrev due : List ℕ
  due = header_due z w.previous ++ cut_picture_unit (length_ahead z w.previous) (drop HEAD_SIZE bytes)

  behind_picture : (z' : Past) (text : List ℕ) (found : List Piece) → Between frames z w z' → Facts z (drop 13 bytes) unit → Follows text found → Rest w z' (cut_text frames z w unit bytes ++ text) (cut_pieces frames z w unit bytes ++ found)
  unfolding chosen_next
  behind_picture z' text found b f follows = by (is_in frames (frame_now z w)) refl
    where
      by : (c : Bool) → is_in frames (frame_now z w) ≡ c → Rest w z' (cut_text frames z w unit bytes ++ text) (cut_pieces frames z w unit bytes ++ found)
      by true e =
          let same_text : cut_text frames z w unit bytes ≡ due = ap (λ c. cond c due []) e in
          let same_found : cut_pieces frames z w unit bytes ≡ header_pieces parts z w.previous ++ picture_piece unit (length_ahead z w.previous) bytes ∷ [] = ap (λ c. cond c (header_pieces parts z w.previous ++ picture_piece unit (length_ahead z w.previous) bytes ∷ []) []) e in
          let next_is : (n : ℕ) → n ≡ w.written + length due → cut_next frames z w unit bytes ≡ chosen_next n = λ n same. ap (λ c. cond c (chosen_next (w.written + length (cut_text frames z w unit bytes))) w) e ∙ ap (λ l. chosen_next (w.written + length l)) same_text ∙ ap chosen_next (sym same) in
          let more : (n : ℕ) (v : Past) → n ≡ w.written + length due → Between frames next (chosen_next n) v → Rest (chosen_next n) v text found = λ n v same h. subst (λ q. Rest q v text found) (next_is n same) (follows v (subst (λ q. Between frames next q v) (sym (next_is n same)) h)) in
          inr (subst (λ l. Found z' (l ++ text) (cut_pieces frames z w unit bytes ++ found)) (sym same_text)
          (subst (λ l. Found z' (due ++ text) (l ++ found)) (sym same_found)
          (chosen_by z' f.0 text found b f.1 f.2 f.3 f.4 e w.previous b.state more)))
      by false e =
          let no_text : cut_text frames z w unit bytes ≡ [] = ap (λ c. cond c due []) e in
          let no_found : cut_pieces frames z w unit bytes ≡ [] = ap (λ c. cond c (header_pieces parts z w.previous ++ picture_piece unit (length_ahead z w.previous) bytes ∷ []) []) e in
          let same : cut_next frames z w unit bytes ≡ w = ap (λ c. cond c (chosen_next (w.written + length (cut_text frames z w unit bytes))) w) e in
          subst (λ l. Rest w z' (l ++ text) (cut_pieces frames z w unit bytes ++ found)) (sym no_text)
          (subst (λ l. Rest w z' text (l ++ found)) (sym no_found)
          (subst (λ q. Rest q z' text found) same (follows z' (subst (λ q. Between frames next q z') (sym same) (behind_unchosen z' f.0 b f.1 f.3 e)))))

-- ---- the end of a sequence, behind which another one follows

behind_end : (frames : Frames) (z : Past) (w : Cutting) (z' : Past) (bytes : List ℕ) (text : List ℕ) (found : List Piece) → Between frames z w z' → Facts z (drop 13 bytes) End
    → ((v : Past) → Goes frames z w End bytes v → Rest (cut_next frames z w End bytes) v text found) → Rest w z' (end_due w.previous ++ text) (end_pieces w.previous ++ found)
behind_end frames z w z' bytes text found b f follows = by w.previous refl b.state
  where
    goes : (v : Past) → v.first ≡ None → v.pictures ≡ 0 → first_broken (previous_rules v 0) ≡ None → v.place ≡ w.written + length (end_due w.previous) → Goes frames z w End bytes v
    goes v none pictures previous place = record {
      has_first = λ g e. absurd (some_none None g e refl);
      header = λ g e. absurd (some_none None g e refl);
      first_header = b.first_header;
      none_yet = λ e. refl;
      numbers = λ e some. absurd (omega (arith, some));
      written = place;
      state = record { none = none; pictures = pictures; previous = previous; whole = λ e k. refl };
    }

    joined : (previous : ℕ) (s : Inside frames z w z' previous) → Rest (cut_next frames z w End bytes) (after z' End (end_unit previous)) text found → Found z' (end_unit previous ++ text) (end_piece previous ∷ found)
    joined previous s r =
        let m = moves_end_unit z' s.first' previous s.there' s.true_one s.short (ends_whole frames z w z' previous s (even_end z f.0 f.1 f.2)) in
        elim r [
          | inl e ↦ subst (λ l. Found z' (end_unit previous ++ text) (end_piece previous ∷ l)) (sym e.2) (subst (λ l. Found z' l (end_piece previous ∷ [])) (sym (ap (λ l. end_unit previous ++ l) e.1 ∙ append-nil (end_unit previous))) (found_end z' (end_unit previous) m (end_some previous)))
          | inr g ↦ found_more z' End (end_unit previous) text found m (end_some previous) g
        ]

    by : (o : Option ℕ) → w.previous ≡ o → Stays frames z w z' o → Rest w z' (end_due o ++ text) (end_pieces o ++ found)
    by None e s =
        let r = follows z' (goes z' s.none s.pictures s.previous (omega (arith, b.written, ap (λ o. length (end_due o)) e))) in
        elim r [
          | inl q ↦ inl (e, q.1, q.2, q.3)
          | inr g ↦ inr g
        ]
    by (Some previous) e s =
        let v = after z' End (end_unit previous) in
        inr (joined previous s (follows v (goes v refl refl (no_previous v refl) (omega (arith, b.written, ap (λ o. length (end_due o)) e)))))

-- ---- all units

behind_unit : (frames : Frames) (z : Past) (w : Cutting) (z' : Past) (unit : DataUnit) (bytes text : List ℕ) (found : List Piece) → Between frames z w z' → Facts z (drop 13 bytes) unit
    → ((v : Past) → Goes frames z w unit bytes v → Rest (cut_next frames z w unit bytes) v text found) → Rest w z' (cut_text frames z w unit bytes ++ text) (cut_pieces frames z w unit bytes ++ found)
behind_unit frames z w z' (Sequence parts) bytes text found b f follows = follows z' (behind_header frames z w z' parts bytes b f.0 f.1)
behind_unit frames z w z' Repeated bytes text found b f follows = follows z' (behind_other frames z w z' (z.place + length bytes) (length bytes) b)
behind_unit frames z w z' Skipped bytes text found b f follows = follows z' (behind_other frames z w z' (z.place + length bytes) (length bytes) b)
behind_unit frames z w z' (Picture parts number p slices) bytes text found b f follows = behind_picture frames z w parts number p slices bytes z' text found b f follows
behind_unit frames z w z' End bytes text found b f follows = behind_end frames z w z' bytes text found b f follows

pub fit_behind : (a b : List ℕ) → IsBytes (a ++ b) → IsBytes b
fit_behind [] b f = f
fit_behind (x ∷ a) b f = fit_behind a b f.1

rest_from : (frames : Frames) (pieces : List Piece) (z : Past) (w : Cutting) (z' left : Past) (last : Piece) → IsBytes (piece_bytes pieces ++ last.bytes) → StandWith skim_rows z pieces last.bytes left → front_of skim_grammar left last.bytes ≡ Finishes (length last.bytes) last.unit → Between frames z w z'
    → (let w' = left_from frames z w pieces in Rest w z' (front_from frames z w pieces ++ closing w') (pieces_from frames z w pieces ++ closing_pieces w'.previous w'.written w'.first))
rest_from frames [] z w z' left last fits units end b = at_end frames z w z' last.bytes b (end_facts z last.bytes last.unit fits (subst (λ (x : Past). front_of skim_grammar x last.bytes ≡ Finishes (length last.bytes) last.unit) (sym units) end))
rest_from frames (p ∷ pieces) z w z' left last fits units end b =
    let z1 = after z p.unit p.bytes in
    let w1 = cut_next frames z w p.unit p.bytes in
    let w' = left_from frames z1 w1 pieces in
    let all = piece_bytes pieces ++ last.bytes in
    let fits' : IsBytes (p.bytes ++ all) = subst IsBytes (append_assoc p.bytes (piece_bytes pieces) last.bytes) fits in
    let f = facts_of z p.bytes all p.unit fits' units.0 in
    let text = front_from frames z1 w1 pieces in
    let found = pieces_from frames z1 w1 pieces in
    let here = behind_unit frames z w z' p.unit p.bytes (text ++ closing w') (found ++ closing_pieces w'.previous w'.written w'.first) b f
    (λ v h. rest_from frames pieces z1 w1 v left last (fit_behind p.bytes all fits') units.1 end h) in
    subst (λ l. Rest w z' l (pieces_from frames z w (p ∷ pieces) ++ closing_pieces w'.previous w'.written w'.first)) (sym (append_assoc (cut_text frames z w p.unit p.bytes) text (closing w')))
    (subst (λ l. Rest w z' (cut_text frames z w p.unit p.bytes ++ (text ++ closing w')) l) (sym (append_assoc (cut_pieces frames z w p.unit p.bytes) found (closing_pieces w'.previous w'.written w'.first))) here)

at_start : (frames : Frames) → Between frames nothing_yet nothing_cut nothing_yet
at_start frames = record {
  has_first = λ f e. absurd (some_none None f e refl);
  header = λ f e. absurd (some_none None f e refl);
  first_header = λ f e. absurd (some_none None f e refl);
  none_yet = λ e. refl;
  numbers = λ e some. absurd (omega (arith, some));
  written = refl;
  state = record { none = refl; pictures = refl; previous = refl; whole = λ e k. refl };
}

-- the units of a cut with their bytes
pub cut_found_by : (frames : Frames) (bytes : List ℕ) (pieces : List Piece) (last : Piece) → IsBytes bytes → IsStreamWith skim_rows nothing_yet bytes pieces last
    → (let w' = left_from frames nothing_yet nothing_cut pieces in Found nothing_yet (cut_of frames pieces) (pieces_from frames nothing_yet nothing_cut pieces ++ closing_pieces w'.previous w'.written w'.first))
cut_found_by frames bytes pieces last fits s =
    let r = rest_from frames pieces nothing_yet nothing_cut nothing_yet s.left last (subst IsBytes s.parts fits) s.units s.end (at_start frames) in
    elim r [
      | inl e ↦ absurd (omega (arith, e.3))
      | inr f ↦ f
    ]

-- The bytes are a stream of these units with their bytes.
pub record IsStreamOfPieces (rows : UnitRows) (bytes : List ℕ) (units : List DataUnit) : Type 0 where
  pub pieces : List Piece
  pub last : Piece
  pub stream : IsStreamWith rows nothing_yet bytes pieces last
  pub found : map (λ (p : Piece). p.unit) pieces ++ last.unit ∷ [] ≡ units

-- the cut of a skimmed stream is one
pub cuts_to_a_skimmed_stream : (frames : Frames) (bytes : List ℕ) (pieces : List Piece) (last : Piece) → IsBytes bytes → IsStreamWith skim_rows nothing_yet bytes pieces last → IsStreamOfPieces skim_rows (cut_of frames pieces) (units_of_cut frames pieces)
cuts_to_a_skimmed_stream frames bytes pieces last fits s =
    let f = cut_found_by frames bytes pieces last fits s in
    record {
      pieces = f.pieces;
      last = f.last;
      stream = f.stream;
      found = sym (made_append f.pieces (f.last ∷ [])) ∙ ap (λ l. map (λ (p : Piece). p.unit) l) f.units ∙ from_made frames pieces nothing_yet nothing_cut;
    }

-- each unit has a head
pub all_long : (pieces : List Piece) (z left : Past) (tail : List ℕ) → IsBytes (piece_bytes pieces ++ tail) → StandWith skim_rows z pieces tail left → AllByRecursion (λ (p : Piece). 13 ≤ length p.bytes) pieces
all_long [] z left tail fits f = tt
all_long (p ∷ pieces) z left tail fits f =
    let all = piece_bytes pieces ++ tail in
    let fits' : IsBytes (p.bytes ++ all) = subst IsBytes (append_assoc p.bytes (piece_bytes pieces) tail) fits in
    let r = by_reading z (p.bytes ++ all) (length p.bytes) p.unit (unit_at skim_grammar z (p.bytes ++ all)) refl f.0 in
    (omega (arith, unit_long z (p.bytes ++ all) p.unit r.0 fits' r.1, r.2), all_long pieces (after z p.unit p.bytes) left tail (fit_behind p.bytes all fits') f.1)

-- the shapes that a reader of it finds
pub cut_has_shapes : (frames : Frames) (bytes : List ℕ) (pieces : List Piece) (last : Piece) → IsBytes bytes → IsStreamWith skim_rows nothing_yet bytes pieces last → HasShapes (cut_of frames pieces) (shapes_of_cut frames pieces)
cut_has_shapes frames bytes pieces last fits s =
    let f = cut_found_by frames bytes pieces last fits s in
    record {
      pieces = f.pieces;
      last = f.last;
      stream = f.stream;
      read = ap (shapes_read nothing_yet) f.units ∙ shapes_counted frames pieces nothing_yet nothing_cut nothing_yet refl (all_long pieces nothing_yet s.left last.bytes (subst IsBytes s.parts fits) s.units);
    }
