-- Streams and refusals by their fields, and by their units with their bytes.
use Rattle.std.proofs.Common.{◌≡◌, ℕ, ◌+◌, ◌-◌, ◌<◌, ◌≤◌, Bool, true, false, ◌&&◌, List, [], ◌∷◌, ◌++◌, length, map, take, drop, Ok, refl, sym, ap, subst, ◌∙◌, append_assoc, append-nil, arith}
use Rattle.std.proofs.lemmas.List.{length-take, length-drop, length-append, take-append-drop, take_at, take_all}
use Rattle.bit_codes.specs.Bits.{Cursor, cursor_at}
use Rattle.field_rows.specs.Rows.{Value, Fault, is_nil}
use Rattle.field_rows.specs.Standing.{Stand, IsRefused}
use Rattle.field_rows.proofs.Answers.{Stand-read, found_fields}
use Rattle.run_theory.specs.Grammar.{Behind, Inner, Final, ends_by, bytes_at, unit_at}
use Rattle.run_theory.specs.Fronts.{Stands, Finishes, size_to, front_behind, front_by, front_within}
use Rattle.run_theory.proofs.FrontLaws.{front_near, front_before, front_past}
use Rattle.stream_rows.specs.declared.reason.Reason.{Reason}
use Rattle.stream_rows.specs.Units.{Past, nothing_yet, DataUnit, unit_behind, reason_of, after}
use Rattle.stream_rows.specs.Streams.{bytes_between, ends, Entry, UnitsBy, IsStreamFromBy, IsRefusalFromBy, limit, past_limit, IsFaultBy, WithinLimit, PastLimit, BehindLimit}
use Rattle.stream_rows.proofs.StreamLaws.{stands_front, refused_front, last_cut, full_front}
use Rattle.stream_rows.proofs.Answering.{IsBytes, fit_drop, near, between, after-place, unit-taken, last-front, all-near, behind_limit}
use Rattle.stream_cut.specs.Skim.{skim_rows, skim_grammar, IsSkimStream}
use Rattle.stream_cut.specs.Cut.{Piece}
use Rattle.stream_cut.specs.CutLaws.{piece_bytes, StandWith, StandWithin, IsStreamWith, HasPieces, HasPiecesBefore, PiecesStandWithin}
use Rattle.stream_cut.proofs.SkimTables.{skim_table}
use Rattle.stream_cut.proofs.Cuts.{by_reading, last_reading, fit_behind}

-- ---- the bytes of units that stand

abbrev entries : List Entry → List DataUnit
entries es = map (λ (e : Entry). e.unit) es

abbrev made : List Piece → List DataUnit
made pieces = map (λ (p : Piece). p.unit) pieces

-- units that stand by their fields, with their bytes
record Cutup (z : Past) (v : List ℕ) (es : List Entry) (z' : Past) (c' : Cursor) : Type 0 where
  pieces : List Piece
  tail : List ℕ
  parts : v ≡ piece_bytes pieces ++ tail
  at : c' ≡ bytes_at z'.place (near z' tail)
  stand : StandWithin z pieces tail z'
  same : made pieces ≡ entries es
  fits : IsBytes tail
  total : z'.place + length tail ≡ z.place + length v
  small : z'.place ≤ limit

cut_up : (es : List Entry) (z z' : Past) (v : List ℕ) (c' : Cursor) → z.place ≤ limit → IsBytes v → UnitsBy skim_rows z (bytes_at z.place (near z v)) es z' c' → Cutup z v es z' c'
cut_up [] z z' v c' le fits f = record {
  pieces = [];
  tail = v;
  parts = refl;
  at = sym f.1 ∙ ap (λ (x : Past). bytes_at x.place (near x v)) f.0;
  stand = f.0;
  same = refl;
  fits = fits;
  total = ap (λ (x : Past). x.place + length v) (sym f.0);
  small = subst (λ (x : Past). x.place ≤ limit) f.0 le;
}
cut_up (e ∷ es) z z' v c' le fits f =
    let t = unit-taken skim_rows skim_table z v e.fields e.unit f.0 fits f.1 f.2 in
    let bytes = take t.size v in
    let rest = drop t.size v in
    let inside : t.size ≤ length v = omega (arith, t.inside, length-take (limit - z.place) v) in
    let long : length bytes ≡ t.size = omega (arith, length-take t.size v, inside) in
    let others : UnitsBy skim_rows t.left (bytes_at t.left.place (near t.left rest)) es z' c'
    = subst (λ (c : Cursor). UnitsBy skim_rows t.left c es z' c') t.at (subst (λ (x : Past). UnitsBy skim_rows x f.0 es z' c') (sym t.is_left) f.3) in
    let m = cut_up es t.left z' rest c' (omega (arith, t.place, t.inside, length-take (limit - z.place) v)) (fit_drop t.size v fits) others in
    let whole : v ≡ bytes ++ (piece_bytes m.pieces ++ m.tail) = sym (take-append-drop t.size v) ∙ ap (λ l. bytes ++ l) m.parts in
    let front : front_within limit past_limit skim_grammar z v ≡ Stands (length bytes) e.unit = t.front ∙ ap (λ n. Stands n e.unit) (sym long) in
    record {
      pieces = record { unit = e.unit; bytes = bytes } ∷ m.pieces;
      tail = m.tail;
      parts = whole ∙ sym (append_assoc bytes (piece_bytes m.pieces) m.tail);
      at = m.at;
      stand = (subst (λ l. front_within limit past_limit skim_grammar z l ≡ Stands (length bytes) e.unit) whole front, subst (λ (x : Past). StandWithin x m.pieces m.tail z') (sym t.taken) m.stand);
      same = ap (λ l. e.unit ∷ l) m.same;
      fits = m.fits;
      total = omega (arith, m.total, t.place, inside, length-drop t.size v);
      small = m.small;
    }

-- units that stand within the limit stand
stand_with : (pieces : List Piece) (z left : Past) (tail : List ℕ) → z.place + length (piece_bytes pieces ++ tail) ≤ limit → StandWithin z pieces tail left → StandWith skim_rows z pieces tail left
stand_with [] z left tail few f = f
stand_with (p ∷ pieces) z left tail few f =
    let all = piece_bytes pieces ++ tail in
    let joined : length ((p.bytes ++ piece_bytes pieces) ++ tail) ≡ length p.bytes + length all = ap length (append_assoc p.bytes (piece_bytes pieces) tail) ∙ length-append p.bytes all in
    let here : length (p.bytes ++ all) ≤ limit - z.place = omega (arith, few, joined, length-append p.bytes all) in
    (sym (front_before limit past_limit skim_grammar z (p.bytes ++ all) here) ∙ f.0, stand_with pieces (after z p.unit p.bytes) left tail (omega (arith, few, joined, after-place z p.unit p.bytes)) f.1)

-- the units of an input within the limit
cut_whole : (es : List Entry) (z' : Past) (bytes : List ℕ) (c' : Cursor) → length bytes ≤ limit → IsBytes bytes → UnitsBy skim_rows nothing_yet (cursor_at bytes 0) es z' c' → (m : Cutup nothing_yet bytes es z' c') × (length m.tail ≤ limit - z'.place) × (c' ≡ bytes_at z'.place m.tail)
cut_whole es z' bytes c' le fits f =
    let m = cut_up es nothing_yet z' bytes c' (omega arith) fits (subst (λ l. UnitsBy skim_rows nothing_yet (bytes_at 0 l) es z' c') (sym (all-near bytes le)) f) in
    let few : length m.tail ≤ limit - z'.place = omega (arith, m.total, m.small, le) in
    (m, few, m.at ∙ ap (bytes_at z'.place) (take_all (limit - z'.place) m.tail few))

-- A stream by its fields is one by its units with their bytes.
pub has_pieces : (bytes : List ℕ) (es : List Entry) (last : Entry) → IsBytes bytes → IsSkimStream bytes es last → HasPieces bytes es last
has_pieces bytes es last fits s =
    let f = s.stream in
    let w = cut_whole es f.left bytes f.mid s.within fits f.units in
    let m = w.0 in
    record {
      pieces = m.pieces;
      last_piece = record { unit = last.unit; bytes = m.tail };
      stream = record {
        left = f.left;
        parts = m.parts;
        units = stand_with m.pieces nothing_yet f.left m.tail (omega (arith, ap (λ (l : List ℕ). length l) m.parts, s.within)) m.stand;
        end = last-front skim_rows skim_table f.left m.tail last f.behind (subst (λ (c : Cursor). Stand (skim_rows f.left) last.fields c last.unit f.behind) w.2 f.end) f.last_one;
      };
      same = m.same;
      last_same = refl;
    }

-- units that stand in an input that is no longer than the limit stand within it
stand_within : (pieces : List Piece) (z left : Past) (tail : List ℕ) → z.place + length (piece_bytes pieces ++ tail) ≤ limit → StandWith skim_rows z pieces tail left → StandWithin z pieces tail left × (left.place + length tail ≤ limit)
stand_within [] z left tail few f = (f, subst (λ (x : Past). x.place + length tail ≤ limit) f few)
stand_within (p ∷ pieces) z left tail few f =
    let all = piece_bytes pieces ++ tail in
    let joined : length ((p.bytes ++ piece_bytes pieces) ++ tail) ≡ length p.bytes + length all = ap length (append_assoc p.bytes (piece_bytes pieces) tail) ∙ length-append p.bytes all in
    let here : length (p.bytes ++ all) ≤ limit - z.place = omega (arith, few, joined, length-append p.bytes all) in
    let others = stand_within pieces (after z p.unit p.bytes) left tail (omega (arith, few, joined, after-place z p.unit p.bytes)) f.1 in
    ((front_before limit past_limit skim_grammar z (p.bytes ++ all) here ∙ f.0, others.0), others.1)

pub pieces_stand_within : PiecesStandWithin
pieces_stand_within bytes es last s units =
    let w = units.stream in
    let tail = units.last_piece.bytes in
    let few = subst (λ (l : List ℕ). length l ≤ limit) w.parts s.within in
    let within = stand_within units.pieces nothing_yet w.left tail (omega (arith, few)) w.units in
    (within.0, front_before limit past_limit skim_grammar w.left tail (omega (arith, within.1)) ∙ w.end)

-- ---- a refusal

bytes_more : (pieces : List Piece) (p : Piece) (tail : List ℕ) → piece_bytes pieces ++ (p.bytes ++ tail) ≡ piece_bytes (pieces ++ p ∷ []) ++ tail
bytes_more [] p tail = ap (λ l. l ++ tail) (sym (append-nil p.bytes))
bytes_more (q ∷ pieces) p tail =
    let more = pieces ++ p ∷ [] in
    append_assoc q.bytes (piece_bytes pieces) (p.bytes ++ tail) ∙ ap (λ l. q.bytes ++ l) (bytes_more pieces p tail) ∙ sym (append_assoc q.bytes (piece_bytes more) tail)

-- one unit more
stand_more : (pieces : List Piece) (z left : Past) (p : Piece) (tail : List ℕ) → StandWithin z pieces (p.bytes ++ tail) left → front_within limit past_limit skim_grammar left (p.bytes ++ tail) ≡ Stands (length p.bytes) p.unit
    → StandWithin z (pieces ++ p ∷ []) tail (after left p.unit p.bytes)
stand_more [] z left p tail f e = (subst (λ (x : Past). front_within limit past_limit skim_grammar x (p.bytes ++ tail) ≡ Stands (length p.bytes) p.unit) (sym f) e, ap (λ (x : Past). after x p.unit p.bytes) f)
stand_more (q ∷ pieces) z left p tail f e =
    let joined : piece_bytes pieces ++ (p.bytes ++ tail) ≡ piece_bytes (pieces ++ p ∷ []) ++ tail = bytes_more pieces p tail in
    (subst (λ l. front_within limit past_limit skim_grammar z (q.bytes ++ l) ≡ Stands (length q.bytes) q.unit) joined f.0, stand_more pieces (after z q.unit q.bytes) left p tail f.1 e)

-- within the limit
before_within : (bytes : List ℕ) (es : List Entry) (fields : List Value) (fault : Fault Reason) → IsBytes bytes → length bytes ≤ limit → IsRefusalFromBy skim_rows nothing_yet (cursor_at bytes 0) es fields fault → HasPiecesBefore bytes es fault
before_within bytes es fields fault fits le f =
    let w = cut_whole es f.left bytes f.mid le fits f.units in
    let m = w.0 in
    record {
      pieces = m.pieces;
      tail = m.tail;
      left = f.left;
      parts = m.parts;
      units = m.stand;
      refused = front_near limit past_limit skim_grammar f.left m.tail w.1
          ∙ refused_front skim_rows skim_table f.left m.tail false fields fault (subst (λ (c : Cursor). IsRefused reason_of (skim_rows f.left) fields c fault) w.2 f.refused);
      same = m.same;
    }

-- past it, in front of it
before_far : (bytes : List ℕ) (es : List Entry) (fields : List Value) (fault : Fault Reason) → IsBytes bytes → limit < length bytes → IsRefusalFromBy skim_rows nothing_yet (cursor_at (take limit bytes) 0) es fields fault → HasPiecesBefore bytes es (past_limit fault)
before_far bytes es fields fault fits lt f =
    let m = cut_up es nothing_yet f.left bytes f.mid (omega arith) fits f.units in
    let more : limit - f.left.place < length m.tail = omega (arith, m.total, m.small, lt) in
    record {
      pieces = m.pieces;
      tail = m.tail;
      left = f.left;
      parts = m.parts;
      units = m.stand;
      refused = front_past limit past_limit skim_grammar f.left m.tail more
          ∙ refused_front skim_rows skim_table f.left (near f.left m.tail) true fields fault (subst (λ (c : Cursor). IsRefused reason_of (skim_rows f.left) fields c fault) m.at f.refused);
      same = m.same;
    }

-- past it, behind a stream up to it
before_more : (bytes : List ℕ) (others : List Entry) (last : Entry) → IsBytes bytes → limit < length bytes → IsStreamFromBy skim_rows nothing_yet (cursor_at (take limit bytes) 0) others last
    → HasPiecesBefore bytes (others ++ last ∷ []) behind_limit
before_more bytes others last fits lt f =
    let m = cut_up others nothing_yet f.left bytes f.mid (omega arith) fits f.units in
    let more : limit - f.left.place < length m.tail = omega (arith, m.total, m.small, lt) in
    let here = near f.left m.tail in
    let rest = drop (limit - f.left.place) m.tail in
    let size : length here ≡ limit - f.left.place = omega (arith, more, length-take (limit - f.left.place) m.tail) in
    let p : Piece = record { unit = last.unit; bytes = here } in
    let tail_is : m.tail ≡ here ++ rest = sym (take-append-drop (limit - f.left.place) m.tail) in
    let front : front_within limit past_limit skim_grammar f.left m.tail ≡ Stands (length here) last.unit
    = front_past limit past_limit skim_grammar f.left m.tail more ∙ last_cut skim_rows skim_table f.left here last.fields last.unit f.behind (subst (λ (c : Cursor). Stand (skim_rows f.left) last.fields c last.unit f.behind) m.at f.end) f.last_one in
    let left = after f.left last.unit here in
    let place : left.place ≡ limit = after-place f.left last.unit here ∙ omega (arith, size, m.small) in
    record {
      pieces = m.pieces ++ p ∷ [];
      tail = rest;
      left = left;
      parts = m.parts ∙ ap (λ l. piece_bytes m.pieces ++ l) tail_is ∙ bytes_more m.pieces p rest;
      units = stand_more m.pieces nothing_yet f.left p rest (subst (λ l. StandWithin nothing_yet m.pieces l f.left) tail_is m.stand) (subst (λ l. front_within limit past_limit skim_grammar f.left l ≡ Stands (length here) last.unit) tail_is front);
      refused = full_front skim_rows skim_table left rest place (omega (arith, size, more, length-drop (limit - f.left.place) m.tail));
      same = made_more m.pieces p ∙ ap (λ l. l ++ last.unit ∷ []) m.same ∙ sym (entries_more others last);
    }
  where
    made_more : (pieces : List Piece) (p : Piece) → made (pieces ++ p ∷ []) ≡ made pieces ++ p.unit ∷ []
    made_more [] p = refl
    made_more (q ∷ pieces) p = ap (λ l. q.unit ∷ l) (made_more pieces p)

    entries_more : (es : List Entry) (e : Entry) → entries (es ++ e ∷ []) ≡ entries es ++ e.unit ∷ []
    entries_more [] e = refl
    entries_more (d ∷ es) e = ap (λ l. d.unit ∷ l) (entries_more es e)

pub has_pieces_before : (bytes : List ℕ) (es : List Entry) (fault : Fault Reason) → IsBytes bytes → IsFaultBy skim_rows bytes es fault → HasPiecesBefore bytes es fault
has_pieces_before bytes es fault fits (WithinLimit le fields f) = before_within bytes es fields fault fits le f
has_pieces_before bytes es fault fits (PastLimit lt fields before f e) = subst (HasPiecesBefore bytes es) (sym e) (before_far bytes es fields before fits lt f)
has_pieces_before bytes es fault fits (BehindLimit lt others last f is e) =
    subst (HasPiecesBefore bytes es) (sym e) (subst (λ (l : List Entry). HasPiecesBefore bytes l behind_limit) (sym is) (before_more bytes others last fits lt f))

-- ---- and back

-- a skimmed stream of exactly these units
pub record IsMadeOf (bytes : List ℕ) (pieces : List Piece) (last : Piece) : Type 0 where
  pub es : List Entry
  pub last_entry : Entry
  pub stream : IsSkimStream bytes es last_entry
  pub same : map (λ (e : Entry). e.unit) es ≡ map (λ (p : Piece). p.unit) pieces
  pub last_same : last_entry.unit ≡ last.unit

-- the fields of a unit in front
record Stood (z : Past) (bytes more : List ℕ) (unit : DataUnit) : Type 0 where
  fields : List Value
  stand : Stand (skim_rows z) fields (bytes_at z.place (bytes ++ more)) unit (bytes_at (z.place + length bytes) more)
  between : bytes_between (bytes_at z.place (bytes ++ more)) (bytes_at (z.place + length bytes) more) ≡ bytes

stood_by : (z : Past) (bytes more : List ℕ) (unit : DataUnit) (behind : Cursor) → IsBytes (bytes ++ more) → unit_at skim_grammar z (bytes ++ more) ≡ Ok (unit, behind) → length bytes ≡ size_to (bytes ++ more) behind → Stood z bytes more unit
stood_by z bytes more unit behind fits e size =
    let all = bytes ++ more in
    let f = found_fields reason_of (skim_rows z) (bytes_at z.place all) unit behind e in
    let h = stands_front skim_rows skim_table z all f.0 unit behind f.1 in
    let n : h.size ≡ length bytes = sym (size ∙ h.is_size) in
    let there : behind ≡ bytes_at (z.place + length bytes) more = h.at ∙ ap (λ k. bytes_at (z.place + k) (drop k all)) n ∙ ap (bytes_at (z.place + length bytes)) (drop-all bytes more) in
    record {
      fields = f.0;
      stand = subst (λ (c : Cursor). Stand (skim_rows z) f.0 (bytes_at z.place all) unit c) there f.1;
      between = ap (bytes_between (bytes_at z.place all)) (sym there ∙ h.at) ∙ between z.place h.size all h.inside fits ∙ ap (λ k. take k all) n ∙ take_at bytes more (length bytes) refl;
    }
  where
    drop-all : (a b : List ℕ) → drop (length a) (a ++ b) ≡ b
    drop-all [] b = refl
    drop-all (x ∷ a) b = drop-all a b

-- what follows a unit that may be the last
stands_on : (unit : DataUnit) (behind : Cursor) (n m : ℕ) → front_behind {R = Reason} (unit_behind unit) (is_nil behind.rest && true) m unit ≡ Stands n unit → ends unit behind ≡ false
stands_on unit behind n m e = by (unit_behind unit) (is_nil behind.rest) e
  where
    by : (b : Behind) (empty : Bool) → front_behind {R = Reason} b (empty && true) m unit ≡ Stands n unit → ends_by b empty ≡ false
    by Inner empty e = refl
    by Final true e = absurd cc
    by Final false e = refl

finishes_on : (unit : DataUnit) (behind : Cursor) (n m : ℕ) → front_behind {R = Reason} (unit_behind unit) (is_nil behind.rest && true) m unit ≡ Finishes n unit → ends unit behind ≡ true
finishes_on unit behind n m e = by (unit_behind unit) (is_nil behind.rest) e
  where
    by : (b : Behind) (empty : Bool) → front_behind {R = Reason} b (empty && true) m unit ≡ Finishes n unit → ends_by b empty ≡ true
    by Inner empty e = absurd cc
    by Final true e = refl
    by Final false e = absurd cc

-- units with their bytes, by their fields
record Uncut (z : Past) (pieces : List Piece) (tail : List ℕ) (z' : Past) : Type 0 where
  es : List Entry
  same : entries es ≡ made pieces
  units : UnitsBy skim_rows z (bytes_at z.place (piece_bytes pieces ++ tail)) es z' (bytes_at z'.place tail)

uncut : (pieces : List Piece) (z z' : Past) (tail : List ℕ) → IsBytes (piece_bytes pieces ++ tail) → StandWith skim_rows z pieces tail z' → Uncut z pieces tail z'
uncut [] z z' tail fits f = record { es = []; same = refl; units = (f, ap (λ (x : Past). bytes_at x.place tail) f) }
uncut (p ∷ pieces) z z' tail fits f =
    let all = piece_bytes pieces ++ tail in
    let joined : (p.bytes ++ piece_bytes pieces) ++ tail ≡ p.bytes ++ all = append_assoc p.bytes (piece_bytes pieces) tail in
    let fits' : IsBytes (p.bytes ++ all) = subst IsBytes joined fits in
    let r = by_reading z (p.bytes ++ all) (length p.bytes) p.unit (unit_at skim_grammar z (p.bytes ++ all)) refl f.0 in
    let s = stood_by z p.bytes all p.unit r.0 fits' r.1 r.2 in
    let next = after z p.unit p.bytes in
    let mid = bytes_at (z.place + length p.bytes) all in
    let m = uncut pieces next z' tail (fit_behind p.bytes all fits') f.1 in
    let there : bytes_at next.place all ≡ mid = ap (λ n. bytes_at n all) (after-place z p.unit p.bytes) in
    let still : ends p.unit mid ≡ false = stands_on p.unit mid (length p.bytes) (size_to (p.bytes ++ all) mid) (ap (front_by skim_grammar (λ fault. fault) false (p.bytes ++ all)) (sym (Stand-read reason_of (skim_rows z) s.fields (bytes_at z.place (p.bytes ++ all)) p.unit mid s.stand)) ∙ f.0) in
    let here : UnitsBy skim_rows z (bytes_at z.place (p.bytes ++ all)) (record { fields = s.fields; unit = p.unit } ∷ m.es) z' (bytes_at z'.place tail) =
    (mid, s.stand, still, subst (λ l. UnitsBy skim_rows (after z p.unit l) mid m.es z' (bytes_at z'.place tail)) (sym s.between) (subst (λ c. UnitsBy skim_rows next c m.es z' (bytes_at z'.place tail)) there m.units)) in
    record {
      es = record { fields = s.fields; unit = p.unit } ∷ m.es;
      same = ap (λ l. p.unit ∷ l) m.same;
      units = subst (λ l. UnitsBy skim_rows z (bytes_at z.place l) (record { fields = s.fields; unit = p.unit } ∷ m.es) z' (bytes_at z'.place tail)) (sym joined) here;
    }

pub made_of : (bytes : List ℕ) (pieces : List Piece) (last : Piece) → IsBytes bytes → length bytes ≤ limit → IsStreamWith skim_rows nothing_yet bytes pieces last → IsMadeOf bytes pieces last
made_of bytes pieces last fits within s =
    let fits' = subst IsBytes s.parts fits in
    let u = uncut pieces nothing_yet s.left last.bytes fits' s.units in
    let r = last_reading s.left last.bytes (length last.bytes) last.unit (unit_at skim_grammar s.left last.bytes) refl s.end in
    let f = found_fields reason_of (skim_rows s.left) (bytes_at s.left.place last.bytes) last.unit r.0 r.1 in
    record {
      es = u.es;
      last_entry = record { fields = f.0; unit = last.unit };
      stream = record {
        within = within;
        stream = record {
          left = s.left;
          mid = bytes_at s.left.place last.bytes;
          behind = r.0;
          units = subst (λ l. UnitsBy skim_rows nothing_yet (bytes_at 0 l) u.es s.left (bytes_at s.left.place last.bytes)) (sym s.parts) u.units;
          end = f.1;
          last_one = finishes_on last.unit r.0 (length last.bytes) (size_to last.bytes r.0) (ap (front_by skim_grammar (λ fault. fault) false last.bytes) (sym r.1) ∙ s.end);
        };
      };
      same = u.same;
      last_same = refl;
    }
