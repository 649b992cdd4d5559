-- What is written is a stream.
use Rattle.std.proofs.Common.{◌≡◌, ℕ, ◌+◌, zero, suc, ◌-◌, ◌*◌, ◌/◌, ◌%◌, ◌^◌, ◌<◌, ◌≤◌, Bool, true, false, not, List, [], ◌∷◌, ◌++◌, length, map, take, drop, Option, Some, None, refl, sym, ap, subst, ◌∙◌, append_assoc, append-nil, mul_assoc, arith}
use Rattle.std.specs.Prelude.{◌==◌, ◌&&◌, ◌||◌, nat_lt}
use Rattle.std.specs.List.{AllByRecursion, concat}
use Rattle.std.specs.Int.{w32, to_be_bytes}
use Rattle.std.proofs.lemmas.Bool.{eq-eqb, ne_eqb, eqb-true}
use Rattle.std.proofs.lemmas.List.{take_at}
use Rattle.bit_codes.specs.Bits.{bits_of, bytes_of, zeros_to_byte_end}
use Rattle.bit_codes.proofs.BitLemmas.{length-bits}
use Rattle.bit_codes.proofs.Numbers.{bits_of-append}
use Rattle.bit_codes.proofs.ByteLemmas.{bytes_of-bits_of, bytes_of-fit}
use Rattle.field_rows.specs.Rows.{Value, done, ◌or_else◌, first_broken}
use Rattle.field_rows.specs.Given.{value_bits}
use Rattle.field_rows.specs.Standing.{Stand}
use Rattle.field_rows.proofs.Answers.{found_fields}
use Rattle.field_rows.proofs.Reading.{read-done}
use Rattle.parse_info.specs.declared.Code.TheVariants.{SequenceHeader, EndOfSequence, LowDelayPicture}
use Rattle.parse_info.specs.declared.ParseInfo.{ParseInfo}
use Rattle.parse_info.specs.Head.{head_bytes}
use Rattle.parse_info.proofs.WrittenHeads.{word_fits, head_fits}
use Rattle.sequence_header.specs.declared.parts.HeaderParts.{HeaderParts}
use Rattle.sequence_header.specs.Bytes.{header_len, header_text, header_bytes}
use Rattle.sequence_header.proofs.Bounds.{header_short}
use Rattle.transform_params.specs.Params.{Params}
use Rattle.transform_params.specs.ParameterFields as written_params
use Rattle.transform_params.specs.ParameterFields.{bit_length, unit_length, params_bytes, AreLawfulParams}
use Rattle.run_theory.specs.Grammar.{bytes_at}
use Rattle.run_theory.specs.Begun.{Moves}
use Rattle.stream_rows.specs.declared.reason.Reason.TheVariants as reasons
use Rattle.stream_rows.specs.Units.{First, Past, nothing_yet, DataUnit, Sequence, Repeated, Picture, Skipped, End, reason_of, code_rules, number_rules, unit_rows, after, units}
use Rattle.stream_rows.specs.Streams.{bytes_between, ends, Entry, Units, IsStreamFromBy, limit, frame_under}
use Rattle.stream_writer.specs.StreamPictures.{pictures_of}
use Rattle.picture_codec.specs.Samples.{picture_of}
use Rattle.picture_codec.specs.Encoding.{picture_bytes}
use Rattle.stream_writer.specs.EncodedStream.{header_length, header_unit, picture_unit, end_unit, number_after, begins_at, units_before, length_before, units_with, units_behind, Settings, encoded, found_before, pictures_under, units_of, AreSlices, IsSliced, IsGroup, AreLawful, IsStreamOf}
use Rattle.transform_params.proofs.Bounds.{unit_small}
use Rattle.stream_writer.proofs.EncodedParts.{no_previous}
use Rattle.stream_writer.proofs.EncodedUnits.{length-header_unit, length-picture_unit, moves_header_unit, moves_picture_unit, moves_end_unit}

-- ---- all of it is bytes

abbrev Fit : List ℕ → Type 0
Fit bytes = AllByRecursion (λ b. b < 256) bytes

fit_append : (a b : List ℕ) → Fit a → Fit b → Fit (a ++ b)
fit_append [] b f g = g
fit_append (x ∷ a) b f g = (f.0, fit_append a b f.1 g)

header_fits : (parts : HeaderParts) → Fit (header_unit parts)
header_fits parts = fit_append (head_bytes (record { code = SequenceHeader; next = 13 + header_len parts; previous = 0 })) (header_bytes parts) (head_fits (record { code = SequenceHeader; next = 13 + header_len parts; previous = 0 })) (bytes_of-fit (header_text parts))

slices_fit : (parts : HeaderParts) (p : Params) (n : ℕ) (slices : List (List ℕ)) → AreSlices parts p n slices → Fit (concat slices)
slices_fit parts p n [] f = tt
slices_fit parts p n (slice ∷ slices) f = fit_append slice (concat slices) f.0.fit (slices_fit parts p (n + 1) slices f.1)

picture_fits : (parts : HeaderParts) (p : Params) (previous number : ℕ) (slices : List (List ℕ)) → IsSliced parts p slices → Fit (picture_unit p previous number slices)
picture_fits parts p previous number slices f =
    let info : ParseInfo = record { code = LowDelayPicture; next = unit_length p; previous = previous } in
    fit_append (head_bytes info) (picture_bytes p number slices) (head_fits info)
    (fit_append (to_be_bytes w32 number) (params_bytes p ++ concat slices) (word_fits number)
    (fit_append (params_bytes p) (concat slices) (bytes_of-fit (value_bits (written_params.fields_of p) ++ zeros_to_byte_end (bit_length p))) (slices_fit parts p 0 slices f.each)))

before_fits : (parts : HeaderParts) (begins : Bool) (previous : ℕ) → Fit (units_before parts begins previous)
before_fits parts true previous = fit_append (end_unit previous) (header_unit parts) (head_fits (record { code = EndOfSequence; next = 0; previous = previous })) (header_fits parts)
before_fits parts false previous = tt

units_fit : (s : Settings) (position previous number : ℕ) (pictures : List (List (List ℕ))) → AllByRecursion (IsSliced s.parts s.params) pictures → Fit (units_behind s position previous number pictures)
units_fit s position previous number [] f = head_fits (record { code = EndOfSequence; next = 0; previous = previous })
units_fit s position previous number (slices ∷ pictures) f =
    let begins = begins_at s.group position in
    let before = units_before s.parts begins previous in
    let unit = picture_unit s.params (length_before s.parts begins previous) number slices in
    fit_append (before ++ unit) (units_behind s (position + 1) (unit_length s.params) (number_after number) pictures)
    (fit_append before unit (before_fits s.parts begins previous) (picture_fits s.parts s.params (length_before s.parts begins previous) number slices f.0))
    (units_fit s (position + 1) (unit_length s.params) (number_after number) pictures f.1)

pub encoded_fits : (s : Settings) (pictures : List (List (List ℕ))) → AllByRecursion (IsSliced s.parts s.params) pictures → Fit (encoded s pictures)
encoded_fits s pictures f = fit_append (header_unit s.parts) (units_behind s 0 (header_length s.parts) s.first pictures) (header_fits s.parts) (units_fit s 0 (header_length s.parts) s.first pictures f)

-- ---- a unit before others

-- from a state on the bytes are these units and the end
record Found (z : Past) (bytes : List ℕ) (found : List DataUnit) : Type 0 where
  entries : List Entry
  last : Entry
  stream : IsStreamFromBy unit_rows z (bytes_at z.place bytes) entries last
  units : map (λ (e : Entry). e.unit) entries ≡ found
  ends : last.unit ≡ End

between : (place : ℕ) (bytes more : List ℕ) → Fit bytes → bytes_between (bytes_at place (bytes ++ more)) (bytes_at (place + length bytes) more) ≡ bytes
between place bytes more f =
    let long : 8 * (place + length bytes) - 8 * place ≡ 8 * length bytes = omega arith in
    ap (λ n. bytes_of (take n (bits_of (bytes ++ more)))) long
    ∙ ap (λ l. bytes_of (take (8 * length bytes) l)) (bits_of-append bytes more)
    ∙ ap bytes_of (take_at (bits_of bytes) (bits_of more) (8 * length bytes) (length-bits bytes))
    ∙ bytes_of-bits_of bytes f

place_after : (z : Past) (unit : DataUnit) (bytes : List ℕ) → (after z unit bytes).place ≡ z.place + length bytes
place_after z (Sequence parts) bytes = refl
place_after z Repeated bytes = refl
place_after z (Picture parts number params slices) bytes = refl
place_after z Skipped bytes = refl
place_after z End bytes = refl

pub stands : (z : Past) (unit : DataUnit) (bytes more : List ℕ) → Moves units (unit_rows z) z.place bytes (done unit) → (vs : List Value) × Stand (unit_rows z) vs (bytes_at z.place (bytes ++ more)) unit (bytes_at (z.place + length bytes) more)
stands z unit bytes more m =
    let behind = bytes_at (z.place + length bytes) more in
    found_fields reason_of (unit_rows z) (bytes_at z.place (bytes ++ more)) unit behind (m.moves more ∙ read-done reason_of unit behind)

found_more : (z : Past) (unit : DataUnit) (bytes more : List ℕ) (found : List DataUnit) → Moves units (unit_rows z) z.place bytes (done unit) → ends unit (bytes_at (z.place + length bytes) more) ≡ false → Fit bytes → Found (after z unit bytes) more found → Found z (bytes ++ more) (unit ∷ found)
found_more z unit bytes more found m no_end fits f =
    let s = stands z unit bytes more m in
    let entry : Entry = record { fields = s.0; unit = unit } in
    let mid = bytes_at (z.place + length bytes) more in
    let there : bytes_at (after z unit bytes).place more ≡ mid = ap (λ n. bytes_at n more) (place_after z unit bytes) in
    let left : after z unit (bytes_between (bytes_at z.place (bytes ++ more)) mid) ≡ after z unit bytes = ap (after z unit) (between z.place bytes more fits) in
    record {
      entries = entry ∷ f.entries;
      last = f.last;
      stream = record {
        left = f.stream.left;
        mid = f.stream.mid;
        behind = f.stream.behind;
        units = (mid, s.1, no_end, subst (λ x. Units x mid f.entries f.stream.left f.stream.mid) (sym left) (subst (λ c. Units (after z unit bytes) c f.entries f.stream.left f.stream.mid) there f.stream.units));
        end = f.stream.end;
        last_one = f.stream.last_one;
      };
      units = ap (λ l. unit ∷ l) f.units;
      ends = f.ends;
    }

pub end_stands : (z : Past) (bytes : List ℕ) → Moves units (unit_rows z) z.place bytes (done End) → (vs : List Value) × Stand (unit_rows z) vs (bytes_at z.place bytes) End (bytes_at (z.place + length bytes) [])
end_stands z bytes m =
    let behind = bytes_at (z.place + length bytes) [] in
    let s = stands z End bytes [] m in
    (s.0, subst (λ c. Stand (unit_rows z) s.0 c End behind) (ap (bytes_at z.place) (append-nil bytes)) s.1)

found_end : (z : Past) (bytes : List ℕ) → Moves units (unit_rows z) z.place bytes (done End) → Found z bytes []
found_end z bytes m =
    let s = end_stands z bytes m in
    record {
      entries = [];
      last = record { fields = s.0; unit = End };
      stream = record {
        left = z;
        mid = bytes_at z.place bytes;
        behind = bytes_at (z.place + length bytes) [];
        units = (refl, refl);
        end = s.1;
        last_one = refl;
      };
      units = refl;
      ends = refl;
    }

-- ---- between two units

-- the state behind a unit of so many bytes, before the picture of this number at a position
pub record Going (parts : HeaderParts) (z : Past) (previous number position : ℕ) : Type 0 where
  pub first : First
  pub there : z.first ≡ Some first
  pub of : first.parts ≡ parts
  pub true_one : previous ≡ z.previous
  pub holds : first_broken (number_rules z number) ≡ None
  -- a sequence of fields begins at an even position and with an even number
  pub even_pictures : parts.coding ≡ 1 → z.pictures % 2 ≡ position % 2
  pub even_number : parts.coding ≡ 1 → number % 2 ≡ position % 2

pub picture_code : (z : Past) (first : First) → z.first ≡ Some first → first_broken (code_rules z LowDelayPicture) ≡ None
picture_code z first there = rw there refl

whole_frame : (fields odd : Bool) → (fields ≡ true → odd ≡ false) → not (true && fields && odd) ≡ true
whole_frame true true h = sym (h refl)
whole_frame true false h = refl
whole_frame false odd h = refl

pub end_code : (z : Past) (first : First) → z.first ≡ Some first → (first.parts.coding ≡ 1 → z.pictures % 2 ≡ 0) → first_broken (code_rules z EndOfSequence) ≡ None
end_code z first there even =
    rw (there, whole_frame (first.parts.coding == 1) (z.pictures % 2 == 1) (λ e. ne_eqb (z.pictures % 2) 1 (λ (q : z.pictures % 2 ≡ 1). omega (arith, q, even (eqb-true first.parts.coding 1 e))))) refl

any_order : (fields none same odd : Bool) → (none ≡ false) → (same ≡ true) → first_broken (((none || same) or_else reasons.PictureNumberWrong) ∷ (not (fields && none && odd) or_else reasons.FieldNumberOdd) ∷ []) ≡ None
any_order true none same odd e h = rw (e, h) refl
any_order false none same odd e h = rw (e, h) refl

first_order : (fields same odd : Bool) → (fields ≡ true → odd ≡ false) → first_broken (((true || same) or_else reasons.PictureNumberWrong) ∷ (not (fields && true && odd) or_else reasons.FieldNumberOdd) ∷ []) ≡ None
first_order true same odd h = rw (h refl) refl
first_order false same odd h = refl

-- the state behind a picture
pub going_on : (parts : HeaderParts) (p : Params) (z : Past) (previous number position : ℕ) (slices : List (List ℕ)) → AreLawfulParams p → IsSliced parts p slices → (g : Going parts z previous number position)
    → Going parts (after z (Picture g.first.parts number p slices) (picture_unit p previous number slices)) (unit_length p) (number_after number) (position + 1)
going_on parts p z previous number position slices f s g = record {
  first = g.first;
  there = g.there;
  of = g.of;
  true_one = sym (length-picture_unit parts p previous number slices f s);
  holds = rw g.there (any_order (g.first.parts.coding == 1) (z.pictures + 1 == 0) (number_after number == (number + 1) % 2 ^ 32) (number_after number % 2 == 1) (ne_eqb (z.pictures + 1) 0 (λ q. omega arith)) (eq-eqb (number_after number) ((number + 1) % 2 ^ 32) refl));
  even_pictures = λ e. omega (arith, g.even_pictures e);
  even_number = λ e. omega (arith, g.even_number e);
}

-- and behind the first unit of a sequence, whose first picture has an even number where pictures are fields
going_first : (parts : HeaderParts) (z : Past) (number position : ℕ) → z.pictures ≡ 0 → (parts.coding ≡ 1 → position % 2 ≡ 0) → (parts.coding ≡ 1 → number % 2 ≡ position % 2)
    → Going parts (after z (Sequence parts) (header_unit parts)) (header_length parts) number position
going_first parts z number position none even_position even_number = record {
  first = record { parts = parts; payload = drop 13 (header_unit parts) };
  there = refl;
  of = refl;
  true_one = sym (length-header_unit parts);
  holds = rw none (first_order (parts.coding == 1) (number == (z.last + 1) % 2 ^ 32) (number % 2 == 1) (λ e. let c : parts.coding ≡ 1 = eqb-true parts.coding 1 e in ne_eqb (number % 2) 1 (λ (q : number % 2 ≡ 1). omega (arith, q, even_number c, even_position c))));
  even_pictures = λ e. omega (arith, none, even_position e);
  even_number = even_number;
}

-- behind the header of the first sequence
pub going_start : (s : Settings) → AreLawful s → Going s.parts (after nothing_yet (Sequence s.parts) (header_unit s.parts)) (header_length s.parts) s.first 0
going_start s f = going_first s.parts nothing_yet s.first 0 refl (λ e. refl) (λ e. omega (arith, f.even e))

-- the header's unit is short
pub header_small : (s : Settings) → AreLawful s → header_length s.parts < 2 ^ 32
header_small s f = omega (arith, header_short s.parts f.header)

-- what is left behind the end of a sequence
abbrev pub ended : Past → ℕ → Past
ended z previous = after z End (end_unit previous)

-- behind the header of a later one
pub going_later : (parts : HeaderParts) (z : Past) (previous number position : ℕ) → Going parts z previous number position → (parts.coding ≡ 1 → position % 2 ≡ 0)
    → Going parts (after (ended z previous) (Sequence parts) (header_unit parts)) (header_length parts) number position
going_later parts z previous number position g even = going_first parts (ended z previous) number position refl even g.even_number

-- where pictures are fields, a new sequence begins at an even position
second : (a b : Bool) → a && b ≡ true → b ≡ true
second true b e = e
second false b e = absurd cc

even_product : (half q : ℕ) → (2 * half * q) % 2 ≡ 0
even_product half q = omega (arith, mul_assoc 2 half q)

pub begins_even : (coding : ℕ) (group : Option ℕ) (position : ℕ) → IsGroup coding group → begins_at group position ≡ true → coding ≡ 1 → position % 2 ≡ 0
begins_even coding None position f b e = absurd cc
begins_even coding (Some zero) position f b e = absurd (omega (arith, f.0))
begins_even coding (Some (suc n)) position f b e =
    let none : position % suc n ≡ 0 = eqb-true (position % suc n) 0 (second (nat_lt 0 position) (position % suc n == 0) b) in
    let half = suc n / 2 in
    let q = position / suc n in
    let double : suc n ≡ 2 * half = omega (arith, f.1 e) in
    let whole : position ≡ suc n * q = omega (arith, none) in
    let product : position ≡ 2 * half * q = whole ∙ ap (λ m. m * q) double in
    omega (arith, product, even_product half q)

-- ---- a picture, and what stands before it

module _ (s : Settings) (f : AreLawful s) (slices : List (List ℕ)) (sliced : IsSliced s.parts s.params slices) where
  -- what follows it
  abbrev Follows : ℕ → ℕ → List ℕ → List DataUnit → Type 0
  Follows number position more found = (z : Past) → Going s.parts z (unit_length s.params) (number_after number) (position + 1) → Found z more found

  picture_found : (z : Past) (previous number position : ℕ) (more : List ℕ) (found : List DataUnit) → previous < 2 ^ 32 → number < 2 ^ 32 → Going s.parts z previous number position → Follows number position more found
      → Found z (picture_unit s.params previous number slices ++ more) (Picture s.parts number s.params slices ∷ found)
  picture_found z previous number position more found short fits g others =
      let p = s.params in
      let of : IsSliced g.first.parts p slices = subst (λ q. IsSliced q p slices) (sym g.of) sliced in
      let m = moves_picture_unit z g.first p previous number slices g.there f.params of g.true_one short fits (unit_small p f.params) (picture_code z g.first g.there) g.holds in
      let unit = picture_unit p previous number slices in
      subst (λ q. Found z (unit ++ more) (Picture q number p slices ∷ found)) g.of
      (found_more z (Picture g.first.parts number p slices) unit more found m refl (picture_fits s.parts p previous number slices sliced) (others _ (going_on s.parts p z previous number position slices f.params sliced g)))

  with_before : (begins : Bool) (z : Past) (previous number position : ℕ) (more : List ℕ) (found : List DataUnit) → begins_at s.group position ≡ begins → previous < 2 ^ 32 → number < 2 ^ 32 → Going s.parts z previous number position
      → Follows number position more found → Found z (units_with s.parts s.params begins previous number slices ++ more) (found_before s.parts begins ++ Picture s.parts number s.params slices ∷ found)
  with_before false z previous number position more found b short fits g others = picture_found z previous number position more found short fits g others
  with_before true z previous number position more found b short fits g others =
      let even = begins_even s.parts.coding s.group position f.group b in
      let small = header_small s f in
      let unit = picture_unit s.params (header_length s.parts) number slices in
      let behind = picture_found (after (ended z previous) (Sequence s.parts) (header_unit s.parts)) (header_length s.parts) number position more found small fits (going_later s.parts z previous number position g even) others in
      let header = found_more (ended z previous) (Sequence s.parts) (header_unit s.parts) (unit ++ more) (Picture s.parts number s.params slices ∷ found)
      (moves_header_unit (ended z previous) s.parts refl (no_previous (ended z previous) refl) f.header small) refl (header_fits s.parts) behind in
      let end = found_more z End (end_unit previous) (header_unit s.parts ++ (unit ++ more)) (Sequence s.parts ∷ Picture s.parts number s.params slices ∷ found)
      (moves_end_unit z g.first previous g.there g.true_one short (end_code z g.first g.there (λ e. let c = ap (λ (q : HeaderParts). q.coding) (sym g.of) ∙ e in g.even_pictures c ∙ even c))) refl
      (head_fits (record { code = EndOfSequence; next = 0; previous = previous })) header in
      subst (λ l. Found z l (End ∷ Sequence s.parts ∷ Picture s.parts number s.params slices ∷ found))
      (ap (λ l. end_unit previous ++ l) (sym (append_assoc (header_unit s.parts) unit more)) ∙ sym (append_assoc (end_unit previous) (header_unit s.parts ++ unit) more) ∙ ap (λ l. l ++ more) (sym (append_assoc (end_unit previous) (header_unit s.parts) unit))) end

pictures_found : (s : Settings) → AreLawful s → (pictures : List (List (List ℕ))) (z : Past) (previous number position : ℕ) → previous < 2 ^ 32 → number < 2 ^ 32 → Going s.parts z previous number position
    → AllByRecursion (IsSliced s.parts s.params) pictures → (s.parts.coding ≡ 1 → (position + length pictures) % 2 ≡ 0) → Found z (units_behind s position previous number pictures) (pictures_under s position number pictures)
pictures_found s f [] z previous number position short fits g sliced even =
    found_end z (end_unit previous) (moves_end_unit z g.first previous g.there g.true_one short (end_code z g.first g.there (λ e. let c = ap (λ (q : HeaderParts). q.coding) (sym g.of) ∙ e in omega (arith, even c, g.even_pictures c))))
pictures_found s f (slices ∷ pictures) z previous number position short fits g sliced even =
    with_before s f slices sliced.0 (begins_at s.group position) z previous number position (units_behind s (position + 1) (unit_length s.params) (number_after number) pictures) (pictures_under s (position + 1) (number_after number) pictures) refl short fits g
    (λ z' h. pictures_found s f pictures z' (unit_length s.params) (number_after number) (position + 1) (unit_small s.params f.params) (omega arith) h sliced.1 (λ e. omega (arith, even e)))

-- the law
pub encoded_stream : (s : Settings) (pictures : List (List (List ℕ))) → AreLawful s → AllByRecursion (IsSliced s.parts s.params) pictures → (s.parts.coding ≡ 1 → length pictures % 2 ≡ 0)
    → length (encoded s pictures) ≤ limit → IsStreamOf (encoded s pictures) (units_of s pictures)
encoded_stream s pictures f sliced even within =
    let unit = header_unit s.parts in
    let small = header_small s f in
    let others = pictures_found s f pictures (after nothing_yet (Sequence s.parts) unit) (header_length s.parts) s.first 0 small f.first (going_start s f) sliced (λ e. omega (arith, even e)) in
    let all = found_more nothing_yet (Sequence s.parts) unit (units_behind s 0 (header_length s.parts) s.first pictures) (pictures_under s 0 s.first pictures) (moves_header_unit nothing_yet s.parts refl refl f.header small) refl (header_fits s.parts) others in
    record {
      entries = all.entries;
      last = all.last;
      stream = record { within = within; stream = all.stream };
      found = all.units;
      ends = all.ends;
    }

-- ---- the pictures of what is written

no_more_shown : (parts : HeaderParts) (begins : Bool) (found : List DataUnit) → pictures_of (found_before parts begins ++ found) ≡ pictures_of found
no_more_shown parts true found = refl
no_more_shown parts false found = refl

shown_under : (s : Settings) (position number : ℕ) (pictures : List (List (List ℕ)))
    → pictures_of (pictures_under s position number pictures) ≡ map (λ slices. (frame_under s.parts, picture_of (frame_under s.parts) s.params slices)) pictures
shown_under s position number [] = refl
shown_under s position number (slices ∷ pictures) =
    no_more_shown s.parts (begins_at s.group position) (Picture s.parts number s.params slices ∷ pictures_under s (position + 1) (number_after number) pictures)
    ∙ ap (λ l. (frame_under s.parts, picture_of (frame_under s.parts) s.params slices) ∷ l) (shown_under s (position + 1) (number_after number) pictures)

pub encoded_pictures : (s : Settings) (pictures : List (List (List ℕ))) → pictures_of (units_of s pictures) ≡ map (λ slices. (frame_under s.parts, picture_of (frame_under s.parts) s.params slices)) pictures
encoded_pictures s pictures = shown_under s 0 s.first pictures
