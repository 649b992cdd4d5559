-- Transform parameters that were read: their bytes, and the bounds of their slices.
use Rattle.std.proofs.Common.{◌≡◌, ℕ, ◌+◌, ◌*◌, ◌/◌, ◌%◌, ◌^◌, ◌≤◌, Bool, true, false, List, [], ◌∷◌, length, drop, None, Result, Ok, Err, refl, sym, ap, subst, ◌∙◌, arith}
use Rattle.std.specs.Prelude.{nat_le, ◌&&◌}
use Rattle.std.specs.Int.{is_in_range}
use Rattle.std.proofs.lemmas.Bool.{leb-true}
use Rattle.bit_codes.specs.Bits.{Cursor, cursor_at, bits_of}
use Rattle.bit_codes.proofs.BitLemmas.{length-bits}
use Rattle.field_rows.specs.Rows.{Value, ◌or_else◌, Rows, done, Fault, read, renamed, first_broken, number_value, number, within, number_under, byte_end, whole_bytes}
use Rattle.field_rows.specs.Standing.{Stand}
use Rattle.field_rows.specs.Moved.{moved, moved_answer, renamed_answer}
use Rattle.field_rows.proofs.Answers.{Stand-read, found_fields}
use Rattle.field_rows.proofs.Words.{split-bits}
use Rattle.slice_geometry.specs.Slicing.{Slicing, slice_count, total_bytes}
use Rattle.transform_params.specs.declared.faults.TransformReason.{TransformReason}
use Rattle.transform_params.specs.declared.faults.TransformReason.TheVariants.{DepthRefused, SlicesRefused, ShareRefused}
use Rattle.sequence_header.specs.declared.parts.HeaderParts.{HeaderParts}
use Rattle.sequence_header.specs.Header as header
use Rattle.sequence_header.specs.Header.{header_fields, header_rows}
use Rattle.transform_params.specs.Params as params
use Rattle.transform_params.specs.Params.{Params, wavelet_rows, slices_y_rows, denominator_rows, slicing_rows, matrix_rows, params_fields, params_rows}
use Rattle.bit_codes.specs.declared.CodeFault.{CodeFault}
use Rattle.field_rows.proofs.Moves.{read-renamed, read-moved}
use Rattle.run_theory.specs.Grammar.{Grammar, bytes_at}
use Rattle.run_theory.proofs.Whole.{EndsWhole-whole_bytes, behind-bytes}
use Rattle.stream_rows.specs.declared.reason.Reason.{Reason}
use Rattle.stream_rows.specs.Units.{reason_of, header_reason, transform_reason, units}
use Rattle.stream_rows.proofs.Groups.{IsGroup}
use Rattle.stream_rows.proofs.UnitGroups.{header_group, params_group}
use Rattle.stream_cut.proofs.Fields.{split}

-- ---- the bounds

-- each slice has a byte, and they have few in all
pub record AreFew (s : Slicing) : Type 0 where
  pub some : 1 ≤ s.b
  pub byte : s.b ≤ s.a
  pub count : slice_count s ≤ 2 ^ 20
  pub total : total_bytes s ≤ 2 ^ 28

both : (a b : Bool) → (a && b) ≡ true → (a ≡ true) × (b ≡ true)
both true true e = (refl, refl)
both true false e = absurd cc
both false b e = absurd cc

asked : (r : TransformReason) (b : Bool) → first_broken ((b or_else r) ∷ []) ≡ None → b ≡ true
asked r true e = refl
asked r false e = absurd cc

few_by : (count a : ℕ) (vs : List Value) (c : Cursor) (b : ℕ) (behind : Cursor) → Stand (denominator_rows count a) vs c b behind → (1 ≤ b) × (b ≤ a) × (count * a / b ≤ 2 ^ 28)
unfolding denominator_rows number_under
few_by count a [] c b behind k = absurd k
few_by count a (v ∷ []) c b behind k =
    let h = asked ShareRefused _ k.2 in
    let one = both (nat_le 1 (number_value v)) _ h in
    let two = both (nat_le (number_value v) a) _ one.1 in
    subst (λ n. (1 ≤ n) × (n ≤ a) × (count * a / n ≤ 2 ^ 28)) k.3.0 (leb-true 1 (number_value v) one.0, leb-true (number_value v) a two.0, leb-true (count * a / number_value v) (2 ^ 28) two.1)
few_by count a (v ∷ w ∷ vs) c b behind k = absurd k.3

count_by : (across : ℕ) (vs : List Value) (c : Cursor) (down : ℕ) (behind : Cursor) → Stand (slices_y_rows across) vs c down behind → across * down ≤ 2 ^ 20
unfolding slices_y_rows number_under
count_by across [] c down behind k = absurd k
count_by across (v ∷ []) c down behind k =
    let h = asked SlicesRefused _ k.2 in
    let one = both (is_in_range 1 8192 (number_value v)) _ h in
    subst (λ n. across * n ≤ 2 ^ 20) k.3.0 (leb-true (across * number_value v) (2 ^ 20) one.1)
count_by across (v ∷ w ∷ vs) c down behind k = absurd k.3

pub made : (R : Type 0) {A : Type 0} (a b : A) (vs : List Value) (c behind : Cursor) → Stand {R = R} (done a) vs c b behind → a ≡ b
made R a b [] c behind k = k.0
made R a b (v ∷ vs) c behind k = absurd k

few_slicing : (vs : List Value) (c : Cursor) (s : Slicing) (behind : Cursor) → Stand slicing_rows vs c s behind → AreFew s
unfolding slicing_rows
few_slicing vs c s behind k =
    let d = split (within 0 4 DepthRefused) _ vs c s behind k in
    let x = split (within 1 8192 SlicesRefused) _ d.more d.mid s behind d.others in
    let y = split (slices_y_rows x.a) _ x.more x.mid s behind x.others in
    let a = split number _ y.more y.mid s behind y.others in
    let b = split (denominator_rows (x.a * y.a) a.a) _ a.more a.mid s behind a.others in
    let few = few_by (x.a * y.a) a.a b.fields a.mid b.a b.mid b.stand in
    let is : Slicing = record { depth = d.a; slices_x = x.a; slices_y = y.a; a = a.a; b = b.a } in
    subst AreFew (made TransformReason is s b.more b.mid behind b.others) (record { some = few.0; byte = few.1; count = count_by x.a y.fields x.mid y.a y.mid y.stand; total = few.2 })

pub few_params : (vs : List Value) (c : Cursor) (p : Params) (behind : Cursor) → Stand params_rows vs c p behind → AreFew p.slicing
unfolding params_rows params_fields whole_bytes
few_params vs c p behind k =
    let w = split params_fields _ vs c p behind k in
    let e = split byte_end _ w.more w.mid p behind w.others in
    let i = split wavelet_rows _ w.fields c w.a w.mid w.stand in
    let s = split slicing_rows _ i.more i.mid w.a w.mid i.others in
    let m = split (matrix_rows s.a.depth) _ s.more s.mid w.a w.mid s.others in
    let is : Params = record { wavelet = i.a; slicing = s.a; matrix = m.a } in
    let same : is ≡ p = made TransformReason is w.a m.more m.mid w.mid m.others ∙ made TransformReason w.a p e.more e.mid behind e.others in
    subst (λ (q : Params). AreFew q.slicing) same (few_slicing s.fields i.mid s.a s.mid s.stand)

-- ---- their bytes

-- (stream_rows has this, for itself)
pub group_read : {Z R U S A : Type 0} {g : Grammar Z R U} {name : S → R} {reason_of : CodeFault → S} {rows : Rows S A} → IsGroup g name reason_of rows → (at : ℕ) (bytes : List ℕ)
    → read g.reason_of (renamed name rows) (bytes_at at bytes) ≡ renamed_answer name (moved_answer at (read reason_of rows (cursor_at bytes 0)))
group_read {g = g} {name = name} {reason_of = reason_of} {rows = rows} group at bytes =
    read-renamed name reason_of g.reason_of group.names rows (bytes_at at bytes)
    ∙ ap (λ (p : ℕ). renamed_answer name (read reason_of rows (record { place = p; rest = bits_of bytes }))) (omega arith)
    ∙ ap (renamed_answer name) (read-moved reason_of rows at (cursor_at bytes 0) group.movable.movable)

-- A group of rows that stands in a unit: so many bytes are its own, and it is read from these wherever they stand.
pub record GroupIn {S A : Type 0} (others : CodeFault → S) (rows : Rows S A) (at : ℕ) (bs : List ℕ) (a : A) (mid : Cursor) : Type 0 where
  pub long : ℕ
  pub inside : long ≤ length bs
  pub read : read others rows (cursor_at bs 0) ≡ Ok (a, cursor_at bs (8 * long))
  pub behind : mid ≡ bytes_at (at + long) (drop long bs)

pub group_in : {S A : Type 0} (name : S → Reason) (others : CodeFault → S) (rows : Rows S A) → IsGroup units name others rows → ((bs : List ℕ) (a : A) (c : Cursor) → read others rows (cursor_at bs 0) ≡ Ok (a, c) → c.place % 8 ≡ 0)
    → (at : ℕ) (bs : List ℕ) (vs : List Value) (a : A) (mid : Cursor) → Stand (renamed name rows) vs (bytes_at at bs) a mid → GroupIn others rows at bs a mid
group_in {S} {A} name others rows group ends at bs vs a mid k =
    by (read others rows (cursor_at bs 0)) refl (sym (group_read group at bs) ∙ Stand-read reason_of (renamed name rows) vs (bytes_at at bs) a mid k)
  where
    by : (r : Result (A × Cursor) (Fault S)) → read others rows (cursor_at bs 0) ≡ r → renamed_answer name (moved_answer at r) ≡ Ok (a, mid) → GroupIn others rows at bs a mid
    by (Err f) e h = absurd cc
    by (Ok x) e h =
        let pair : (x.0, moved at x.1) ≡ (a, mid) = cc in
        let same : x.0 ≡ a = ap (λ (y : A × Cursor). y.0) pair in
        let there : moved at x.1 ≡ mid = ap (λ (y : A × Cursor). y.1) pair in
        let b = behind-bytes others rows 0 bs x.0 x.1 e (ends bs x.0 x.1 e) in
        let c : ℕ → List Bool → Cursor = λ p r. record { place = p; rest = r } in
        record {
          long = b.0;
          inside = b.1;
          read = e ∙ ap (λ q. Ok (q, x.1)) same ∙ ap (λ d. Ok (a, d)) (b.2 ∙ ap (c (8 * (0 + b.0))) (sym (split-bits b.0 bs b.1).1) ∙ ap (λ n. c n (drop (8 * b.0) (bits_of bs))) (omega arith));
          behind = sym there ∙ ap (moved at) b.2 ∙ ap (λ n. c n (bits_of (drop b.0 bs))) (omega arith);
        }

params_end : (bs : List ℕ) (p : Params) (c : Cursor) → read params.reason_of params_rows (cursor_at bs 0) ≡ Ok (p, c) → c.place % 8 ≡ 0
unfolding params_rows
params_end bs p c e = (EndsWhole-whole_bytes params.reason_of params_fields).ends (cursor_at bs 0) c p refl (omega (arith, length-bits bs)) e

header_end : (bs : List ℕ) (p : HeaderParts) (c : Cursor) → read header.reason_of header_rows (cursor_at bs 0) ≡ Ok (p, c) → c.place % 8 ≡ 0
unfolding header_rows
header_end bs p c e = (EndsWhole-whole_bytes header.reason_of header_fields).ends (cursor_at bs 0) c p refl (omega (arith, length-bits bs)) e

pub params_in : (at : ℕ) (bs : List ℕ) (vs : List Value) (p : Params) (mid : Cursor) → Stand (renamed transform_reason params_rows) vs (bytes_at at bs) p mid → GroupIn params.reason_of params_rows at bs p mid
params_in at bs vs p mid k = group_in transform_reason params.reason_of params_rows params_group params_end at bs vs p mid k

pub header_in : (at : ℕ) (bs : List ℕ) (vs : List Value) (p : HeaderParts) (mid : Cursor) → Stand (renamed header_reason header_rows) vs (bytes_at at bs) p mid → GroupIn header.reason_of header_rows at bs p mid
header_in at bs vs p mid k = group_in header_reason header.reason_of header_rows header_group header_end at bs vs p mid k

pub few_in : (bs : List ℕ) (p : Params) (c : Cursor) → read params.reason_of params_rows (cursor_at bs 0) ≡ Ok (p, c) → AreFew p.slicing
few_in bs p c e =
    let f = found_fields params.reason_of params_rows (cursor_at bs 0) p c e in
    few_params f.0 (cursor_at bs 0) p c f.1
