-- What the walk of a cut writes is the cut by its sequences.
use Rattle.std.specs.Prelude.{nat_lt, not, ◌&&◌}
use Rattle.std.proofs.Common.{◌≡◌, ℕ, zero, suc, ◌+◌, ◌-◌, ◌<◌, ◌≤◌, ◌==◌, Bool, true, false, cond, Option, Some, None, Result, Ok, Err, List, [], ◌∷◌, ◌++◌, length, take, drop, refl, sym, ap, subst, ◌∙◌, arith, append-nil, append_assoc}
use Rattle.std.proofs.lemmas.List.{length-append, length-take}
use Rattle.stream_rows.specs.Units.{Past, First, nothing_yet, DataUnit, Sequence, Repeated, Picture, Skipped, End, after, unit_behind}
use Rattle.stream_writer.specs.EncodedStream.{end_unit}
use Rattle.stream_rows.proofs.Answering.{IsBytes}
use Rattle.stream_cut.specs.Skim.{skim_rows, skim_grammar}
use Rattle.bit_codes.specs.Bits.{Cursor}
use Rattle.field_rows.specs.Rows.{Fault, is_nil}
use Rattle.std.proofs.Math.Seq.{take-append-add}
use Rattle.stream_rows.specs.declared.reason.Reason.{Reason}
use Rattle.stream_rows.specs.Streams.{limit, past_limit}
use Rattle.run_theory.specs.Fronts.{Stands, Finishes, size_to, front_behind, front_by, front_of, front_within}
use Rattle.run_theory.specs.Grammar.{Behind, Inner, Final, unit_at}
use Rattle.stream_cut.specs.Cut.{Frames, is_in, cut_header_unit, cut_picture_unit, empty_cut, Cutting, nothing_cut, frame_now, payload_of, header_due, length_ahead, end_due, or_else_some, cut_text, cut_next, closing_by, Piece, front_from, left_from, cut_front}
use Rattle.stream_cut.specs.CutLaws.{piece_bytes, StandWith, StandWithin}
use Rattle.stream_cut.specs.Sequences.{sequence_payloads, has_end, frames_in, chosen_if, chosen_of, pictures_behind, sequence_cut, sequences_cut, first_payload, or_empty, CutsBySequences, CutFrontsBySequences}
use Rattle.stream_cut.proofs.Fields.{fit_take}
use Rattle.stream_cut.proofs.UnitsRead.{Facts, unit_read}
use Rattle.stream_cut.proofs.Running.{counted_from}
use Rattle.stream_cut.proofs.CutPieces.{length-header}
use Rattle.stream_cut.proofs.Cuts.{facts_of, fit_behind, last_reading, only_end, end_facts}

-- a header begins a sequence, and pictures and ends stand in one
abbrev Fits : Option First → DataUnit → Type 0
Fits None (Sequence parts) = Unit {0}
Fits None Repeated = Unit {0}
Fits None (Picture parts number p slices) = ⊥
Fits None Skipped = Unit {0}
Fits None End = ⊥
Fits (Some s) (Sequence parts) = ⊥
Fits (Some s) Repeated = Unit {0}
Fits (Some s) (Picture parts number p slices) = Unit {0}
Fits (Some s) Skipped = Unit {0}
Fits (Some s) End = Unit {0}

abbrev Follow : Past → List Piece → Type 0
Follow z [] = Unit {0}
Follow z (p ∷ pieces) = Fits z.first p.unit × Follow (after z p.unit p.bytes) pieces

fits_by : (first : Option First) (unit : DataUnit) (payload : List ℕ) (z : Past) → z.first ≡ first → Facts z payload unit → Fits first unit
fits_by None (Sequence parts) payload z e f = tt
fits_by None Repeated payload z e f = tt
fits_by None (Picture parts number p slices) payload z e f = let same : None ≡ Some f.0 = sym e ∙ f.1 in absurd cc
fits_by None Skipped payload z e f = tt
fits_by None End payload z e f = let same : None ≡ Some f.0 = sym e ∙ f.1 in absurd cc
fits_by (Some s) (Sequence parts) payload z e f = let same : None ≡ Some s = sym f.0 ∙ e in absurd cc
fits_by (Some s) Repeated payload z e f = tt
fits_by (Some s) (Picture parts number p slices) payload z e f = tt
fits_by (Some s) Skipped payload z e f = tt
fits_by (Some s) End payload z e f = tt

follows : (pieces : List Piece) (z left : Past) (last : Piece) → IsBytes (piece_bytes pieces ++ last.bytes) → StandWith skim_rows z pieces last.bytes left
    → front_of skim_grammar left last.bytes ≡ Finishes (length last.bytes) last.unit → Follow z (pieces ++ last ∷ []) × (last.unit ≡ End)
follows [] z left last fits units end =
    let is : last.unit ≡ End = only_end last.unit (last_reading left last.bytes (length last.bytes) last.unit (unit_at skim_grammar left last.bytes) refl end).3 in
    let facts : Facts z (drop 13 last.bytes) last.unit = subst (λ (x : Past). Facts x (drop 13 last.bytes) last.unit) (sym units) (subst (Facts left (drop 13 last.bytes)) (sym is) (end_facts left last.bytes last.unit fits end)) in
    ((fits_by z.first last.unit (drop 13 last.bytes) z refl facts, tt), is)
follows (p ∷ pieces) z left last fits units end =
    let all = piece_bytes pieces ++ last.bytes in
    let fits' : IsBytes (p.bytes ++ all) = subst IsBytes (append_assoc p.bytes (piece_bytes pieces) last.bytes) fits in
    let more = follows pieces (after z p.unit p.bytes) left last (fit_behind p.bytes all fits') units.1 end in
    ((fits_by z.first p.unit (drop 13 p.bytes) z refl (facts_of z p.bytes all p.unit fits' units.0), more.0), more.1)

front_follows : (a b : List Piece) (z : Past) → Follow z (a ++ b) → Follow z a
front_follows [] b z f = tt
front_follows (p ∷ a) b z f = (f.0, front_follows a b (after z p.unit p.bytes) f.1)

module _ (frames : Frames) where
  -- ---- what is due behind what units leave

  -- the rest of a sequence, by whether something of it is written
  abbrev rest_of : List ℕ → Option ℕ → List (List ℕ) → Bool → List ℕ
  rest_of header None payloads over = sequence_cut header payloads over
  rest_of header (Some previous) payloads over = pictures_behind previous payloads over

  -- of the sequence that isn't over
  abbrev going : Option First → ℕ → ℕ → Option ℕ → List Piece → List ℕ
  going None before n previous pieces = []
  going (Some s) before n previous pieces =
      rest_of s.payload previous (chosen_of frames (s.parts.coding == 1) before n (sequence_payloads pieces)) (has_end pieces)

  -- the frame with which the next sequence begins
  abbrev begun : Option First → ℕ → ℕ → List Piece → ℕ
  begun None before n pieces = before
  begun (Some s) before n pieces = before + frames_in (s.parts.coding == 1) (n + length (sequence_payloads pieces))

  abbrev due : Option First → ℕ → ℕ → Option ℕ → List Piece → List ℕ
  due first before n previous pieces = going first before n previous pieces ++ sequences_cut frames (begun first before n pieces) pieces

  abbrev at : Past → Option First → ℕ → Past
  at z first n = record z { first = first; pictures = n }

  -- outside of a sequence nothing is left of one
  abbrev IsFresh : Option First → ℕ → Option ℕ → Type 0
  IsFresh None n previous = (n ≡ 0) × (previous ≡ None)
  IsFresh (Some s) n previous = Unit {0}

  -- a picture that is chosen, behind what is written
  chosen_writes : (z : Past) (s : First) (n : ℕ) (payload : List ℕ) (payloads : List (List ℕ)) (over : Bool) (others front : List ℕ)
      → front ≡ pictures_behind (13 + length payload) payloads over ++ others
      → (previous : Option ℕ) → (header_due (at z (Some s) n) previous ++ cut_picture_unit (length_ahead (at z (Some s) n) previous) payload) ++ front
      ≡ rest_of s.payload previous (payload ∷ payloads) over ++ others
  chosen_writes z s n payload payloads over others front e None =
      let a = cut_header_unit s.payload in
      let b = cut_picture_unit (13 + length s.payload) payload in
      let c = pictures_behind (13 + length payload) payloads over in
      ap (λ l. (a ++ b) ++ l) e ∙ append_assoc a b (c ++ others) ∙ ap (λ l. a ++ l) (sym (append_assoc b c others)) ∙ sym (append_assoc a (b ++ c) others)
  chosen_writes z s n payload payloads over others front e (Some previous) =
      let b = cut_picture_unit previous payload in
      let c = pictures_behind (13 + length payload) payloads over in
      ap (λ l. b ++ l) e ∙ sym (append_assoc b c others)

  -- a picture, chosen or not
  picture_writes : (z : Past) (s : First) (n : ℕ) (w v : Cutting) (payload : List ℕ) (rest : List (List ℕ)) (over : Bool) (others : List ℕ) (front : Cutting → List ℕ)
      → front w ≡ rest_of s.payload w.previous rest over ++ others → front v ≡ pictures_behind (13 + length payload) rest over ++ others → (b : Bool)
      → cond b (header_due (at z (Some s) n) w.previous ++ cut_picture_unit (length_ahead (at z (Some s) n) w.previous) payload) [] ++ front (cond b v w)
      ≡ rest_of s.payload w.previous (chosen_if b payload rest) over ++ others
  picture_writes z s n w v payload rest over others front kept more false = kept
  picture_writes z s n w v payload rest over others front kept more true = chosen_writes z s n payload rest over others (front v) more w.previous

  -- the end of a sequence
  end_writes : (header front : List ℕ) (previous : Option ℕ) → end_due previous ++ front ≡ rest_of header previous [] true ++ front
  end_writes header front None = refl
  end_writes header front (Some previous) = refl

  -- what units write behind any others
  abbrev Write : List Piece → Type 0
  Write pieces = (z : Past) (first : Option First) (n : ℕ) (w : Cutting) → Follow (at z first n) pieces → IsFresh first n w.previous
      → front_from frames (at z first n) w pieces ≡ due first w.frames n w.previous pieces

  unit_writes : (unit : DataUnit) (bytes : List ℕ) (pieces : List Piece) → Write pieces → (z : Past) (first : Option First) (n : ℕ) (w : Cutting)
      → Fits first unit → Follow (after (at z first n) unit bytes) pieces → IsFresh first n w.previous
      → front_from frames (at z first n) w (record { unit = unit; bytes = bytes } ∷ pieces) ≡ due first w.frames n w.previous (record { unit = unit; bytes = bytes } ∷ pieces)
  unit_writes (Sequence parts) bytes pieces go z None n w fits f fresh =
      let s : First = record { parts = parts; payload = drop 13 bytes } in
      let fields = parts.coding == 1 in
      let rest = go (after (at z None n) (Sequence parts) bytes) (Some s) n (cut_next frames (at z None n) w (Sequence parts) bytes) f tt in
      let payloads = sequence_payloads pieces in
      let count : ℕ = length payloads in
      rest
      ∙ ap (λ (o : Option ℕ). rest_of s.payload o (chosen_of frames fields w.frames n payloads) (has_end pieces) ++ sequences_cut frames (w.frames + frames_in fields (n + count)) pieces) fresh.1
      ∙ ap (λ (k : ℕ). rest_of s.payload None (chosen_of frames fields w.frames k payloads) (has_end pieces) ++ sequences_cut frames (w.frames + frames_in fields (k + count)) pieces) fresh.0
      ∙ ap (λ (k : ℕ). rest_of s.payload None (chosen_of frames fields w.frames 0 payloads) (has_end pieces) ++ sequences_cut frames (w.frames + frames_in fields k) pieces) (omega arith)
  unit_writes Repeated bytes pieces go z None n w fits f fresh = go (after (at z None n) Repeated bytes) None n w f fresh
  unit_writes Skipped bytes pieces go z None n w fits f fresh = go (after (at z None n) Skipped bytes) None n w f fresh
  unit_writes (Picture parts number p slices) bytes pieces go z None n w fits f fresh = absurd fits
  unit_writes End bytes pieces go z None n w fits f fresh = absurd fits
  unit_writes (Sequence parts) bytes pieces go z (Some s) n w fits f fresh = absurd fits
  unit_writes Repeated bytes pieces go z (Some s) n w fits f fresh = go (after (at z (Some s) n) Repeated bytes) (Some s) n w f tt
  unit_writes Skipped bytes pieces go z (Some s) n w fits f fresh = go (after (at z (Some s) n) Skipped bytes) (Some s) n w f tt
  unit_writes End bytes pieces go z (Some s) n w fits f fresh =
      let fields = s.parts.coding == 1 in
      let v = cut_next frames (at z (Some s) n) w End bytes in
      let rest = go (after (at z (Some s) n) End bytes) None 0 v f (refl, refl) in
      let none : n ≡ n + 0 = omega arith in
      ap (λ l. end_due w.previous ++ l) rest
      ∙ end_writes s.payload (sequences_cut frames (w.frames + frames_in fields n) pieces) w.previous
      ∙ ap (λ (k : ℕ). rest_of s.payload w.previous [] true ++ sequences_cut frames (w.frames + frames_in fields k) pieces) none
  unit_writes (Picture parts number p slices) bytes pieces go z (Some s) n w fits f fresh =
      let fields = s.parts.coding == 1 in
      let unit = Picture parts number p slices in
      let here = at z (Some s) n in
      let z1 = after here unit bytes in
      let payload = drop 13 bytes in
      let payloads = sequence_payloads pieces in
      let rest = chosen_of frames fields w.frames (n + 1) payloads in
      let over = has_end pieces in
      let others = sequences_cut frames (w.frames + frames_in fields ((n + 1) + length payloads)) pieces in
      let v = record w { written = w.written + length (cut_text frames here w unit bytes); previous = Some (13 + length payload) } in
      let count : (n + 1) + length payloads ≡ n + suc (length payloads) = omega arith in
      picture_writes z s n w v payload rest over others (λ (c : Cutting). front_from frames z1 c pieces)
      (go z1 (Some s) (n + 1) w f tt) (go z1 (Some s) (n + 1) v f tt) (is_in frames (frame_now here w))
      ∙ ap (λ (k : ℕ). rest_of s.payload w.previous (chosen_of frames fields w.frames n (payload ∷ payloads)) over ++ sequences_cut frames (w.frames + frames_in fields k) pieces) count

  write : (pieces : List Piece) → Write pieces
  write [] z None n w f fresh = refl
  write [] z (Some s) n w f fresh = by w.previous
    where
      by : (o : Option ℕ) → [] ≡ rest_of s.payload o [] false ++ []
      by None = refl
      by (Some previous) = refl
  write (p ∷ pieces) z first n w f fresh = unit_writes p.unit p.bytes pieces (write pieces) z first n w f.0 f.1 fresh

  -- ---- the end of the stream

  -- the stream's first header is kept
  first_kept : (pieces : List Piece) (z : Past) (w : Cutting) (s : First) → w.first ≡ Some s → (left_from frames z w pieces).first ≡ Some s
  first_kept [] z w s e = e
  first_kept (p ∷ pieces) z w s e = first_kept pieces (after z p.unit p.bytes) (cut_next frames z w p.unit p.bytes) s (one p.unit)
    where
      both : (b : Bool) (v : Cutting) → v.first ≡ Some s → (cond b v w).first ≡ Some s
      both true v f = f
      both false v f = e

      one : (unit : DataUnit) → (cut_next frames z w unit p.bytes).first ≡ Some s
      one (Sequence parts) = ap (λ (o : Option First). or_else_some o (record { parts = parts; payload = drop 13 p.bytes })) e
      one Repeated = e
      one Skipped = e
      one End = e
      one (Picture parts number q slices) =
          both (is_in frames (frame_now z w)) (record w { written = w.written + length (cut_text frames z w (Picture parts number q slices) p.bytes); previous = Some (13 + length (drop 13 p.bytes)) }) e

  -- what units leave
  abbrev past_behind : Past → List Piece → Past
  past_behind z [] = z
  past_behind z (p ∷ pieces) = past_behind (after z p.unit p.bytes) pieces

  -- of two lists of units
  front_append : (a b : List Piece) (z : Past) (w : Cutting) → front_from frames z w (a ++ b) ≡ front_from frames z w a ++ front_from frames (past_behind z a) (left_from frames z w a) b
  front_append [] b z w = refl
  front_append (p ∷ a) b z w =
      let text = cut_text frames z w p.unit p.bytes in
      let z1 = after z p.unit p.bytes in
      let v = cut_next frames z w p.unit p.bytes in
      ap (λ l. text ++ l) (front_append a b z1 v) ∙ sym (append_assoc text (front_from frames z1 v a) (front_from frames (past_behind z1 a) (left_from frames z1 v a) b))

  -- what was written of a sequence is something
  abbrev IsSome : Cutting → Type 0
  IsSome w = (previous : ℕ) → w.previous ≡ Some previous → 0 < w.written

  some_kept : (pieces : List Piece) (z : Past) (w : Cutting) → IsSome w → IsSome (left_from frames z w pieces)
  some_kept [] z w some = some
  some_kept (p ∷ pieces) z w some = some_kept pieces (after z p.unit p.bytes) (cut_next frames z w p.unit p.bytes) (one p.unit)
    where
      payload : List ℕ
      payload = drop 13 p.bytes

      text_some : (previous : Option ℕ) → w.previous ≡ previous → 0 < w.written + length (header_due z previous ++ cut_picture_unit (length_ahead z previous) (drop 13 p.bytes))
      text_some None e = omega (arith, length-header (payload_of z.first), length-append (cut_header_unit (payload_of z.first)) (cut_picture_unit (length_ahead z None) (drop 13 p.bytes)))
      text_some (Some previous) e = omega (arith, some previous e)

      chosen : (b : Bool) → IsSome (cond b (record w { written = w.written + length (cond b (header_due z w.previous ++ cut_picture_unit (length_ahead z w.previous) (drop 13 p.bytes)) []); previous = Some (13 + length (drop 13 p.bytes)) }) w)
      chosen true = λ previous is. text_some w.previous refl
      chosen false = some

      one : (unit : DataUnit) → IsSome (cut_next frames z w unit p.bytes)
      one (Sequence parts) = some
      one Repeated = some
      one Skipped = some
      one End = λ previous is. absurd cc
      one (Picture parts number q slices) = chosen (is_in frames (frame_now z w))

  -- a text of the whole stream, by what is left before the last end
  ends_with : (header front : List ℕ) (previous : Option ℕ) (written : ℕ) (first : Option First) → written ≡ length front → ((n : ℕ) → previous ≡ Some n → 0 < written)
      → (s : First) → first ≡ Some s → s.payload ≡ header
      → front ++ closing_by previous written first ≡ or_empty header (front ++ (end_due previous ++ []))
  ends_with header [] (Some n) written first count some s is same = absurd (omega (arith, some n refl, count))
  ends_with header (byte ∷ front) (Some n) written first count some s is same = ap (λ l. byte ∷ (front ++ l)) (sym (append-nil (end_unit n)))
  ends_with header [] None zero None count some s is same = absurd cc
  ends_with header [] None zero (Some first) count some s is same = let e : first ≡ s = cc in ap (λ l. empty_cut l) (ap (λ (x : First). x.payload) e ∙ same)
  ends_with header [] None (suc k) first count some s is same = absurd (omega (arith, count))
  ends_with header (byte ∷ front) None zero first count some s is same = absurd (omega (arith, count))
  ends_with header (byte ∷ front) None (suc k) first count some s is same = refl

  -- the first header of a stream
  abbrev HasFirst : Past → Cutting → List Piece → List ℕ → Type 0
  HasFirst z w pieces payload = (s : First) × ((left_from frames z w pieces).first ≡ Some s) × (s.payload ≡ payload)

  -- of units behind others
  abbrev FirstIs : List Piece → Piece → ℕ → Type 0
  FirstIs pieces last n = (z : Past) (w : Cutting) → w.first ≡ None → Follow (at z None n) (pieces ++ last ∷ []) → HasFirst (at z None n) w pieces (first_payload pieces)

  first_by : (unit : DataUnit) (bytes : List ℕ) (pieces : List Piece) (last : Piece) (n : ℕ) → FirstIs pieces last n → (z : Past) (w : Cutting) → w.first ≡ None → Fits None unit
      → Follow (after (at z None n) unit bytes) (pieces ++ last ∷ []) → HasFirst (at z None n) w (record { unit = unit; bytes = bytes } ∷ pieces) (first_payload (record { unit = unit; bytes = bytes } ∷ pieces))
  first_by (Sequence parts) bytes pieces last n go z w none fits more =
      let s : First = record { parts = parts; payload = drop 13 bytes } in
      (s, first_kept pieces (after (at z None n) (Sequence parts) bytes) (cut_next frames (at z None n) w (Sequence parts) bytes) s (ap (λ (o : Option First). or_else_some o s) none), refl)
  first_by Repeated bytes pieces last n go z w none fits more = go (after (at z None n) Repeated bytes) w none more
  first_by (Picture parts number q slices) bytes pieces last n go z w none fits more = absurd fits
  first_by Skipped bytes pieces last n go z w none fits more = go (after (at z None n) Skipped bytes) w none more
  first_by End bytes pieces last n go z w none fits more = absurd fits

  first_is : (pieces : List Piece) (last : Piece) (n : ℕ) → last.unit ≡ End → FirstIs pieces last n
  first_is [] last n is z w none f = absurd (subst (Fits None) is f.0)
  first_is (p ∷ pieces) last n is z w none f = first_by p.unit p.bytes pieces last n (first_is pieces last n is) z w none f.0 f.1

pub cuts_by_sequences : CutsBySequences
cuts_by_sequences frames bytes pieces last fits s =
    let f = follows pieces nothing_yet s.left last (subst IsBytes s.parts fits) s.units s.end in
    let w = left_from frames nothing_yet nothing_cut pieces in
    let first = first_is frames pieces last 0 f.1 nothing_yet nothing_cut refl f.0 in
    let count : w.written ≡ length (cut_front frames pieces) = counted_from frames pieces nothing_yet nothing_cut ∙ omega arith in
    let z = past_behind frames nothing_yet pieces in
    let tail : front_from frames z w (last ∷ []) ≡ end_due w.previous ++ [] = ap (λ (u : DataUnit). front_from frames z w (record { unit = u; bytes = last.bytes } ∷ [])) f.1 in
    record {
      front = write frames pieces nothing_yet None 0 nothing_cut (front_follows pieces (last ∷ []) nothing_yet f.0) (refl, refl);
      whole = ends_with frames (first_payload pieces) (cut_front frames pieces) w.previous w.written w.first count
          (some_kept frames pieces nothing_yet nothing_cut (λ previous is. absurd cc)) first.0 first.1 first.2
          ∙ ap (or_empty (first_payload pieces)) (ap (λ l. cut_front frames pieces ++ l) (sym tail) ∙ sym (front_append frames pieces (last ∷ []) nothing_yet nothing_cut)
          ∙ write frames (pieces ++ last ∷ []) nothing_yet None 0 nothing_cut f.0 (refl, refl));
    }

-- ---- in front of an input

within_reading : (z : Past) (cut : Bool) (bs : List ℕ) (n : ℕ) (unit : DataUnit) (r : Result (DataUnit × Cursor) (Fault Reason)) → unit_at skim_grammar z bs ≡ r → front_by skim_grammar past_limit cut bs r ≡ Stands n unit
    → (behind : Cursor) × (unit_at skim_grammar z bs ≡ Ok (unit, behind)) × (n ≡ size_to bs behind)
within_reading z cut bs n unit (Ok x) e k = let s = stood (unit_behind x.0) (is_nil x.1.rest && not cut) (size_to bs x.1) n x.0 unit k in (x.1, e ∙ ap (λ u. Ok (u, x.1)) s.0, sym s.1)
  where
    stood : (b : Behind) (empty : Bool) (m n : ℕ) (made unit : DataUnit) → front_behind {R = Reason} b empty m made ≡ Stands n unit → (made ≡ unit) × (m ≡ n)
    stood Inner empty m n made unit k = (cc, cc)
    stood Final true m n made unit k = absurd cc
    stood Final false m n made unit k = (cc, cc)
within_reading z cut bs n unit (Err fault) e k = absurd cc

facts_within : (z : Past) (bytes more : List ℕ) (unit : DataUnit) → IsBytes (bytes ++ more) → front_within limit past_limit skim_grammar z (bytes ++ more) ≡ Stands (length bytes) unit → Facts z (drop 13 bytes) unit
facts_within z bytes more unit fits k =
    let room = limit - z.place in
    let bs = take room (bytes ++ more) in
    let r = within_reading z (nat_lt room (length (bytes ++ more))) bs (length bytes) unit (unit_at skim_grammar z bs) refl k in
    let inside : length bytes ≤ room = omega (arith, r.2, length-take room (bytes ++ more)) in
    let all : room ≡ length bytes + (room - length bytes) = omega (arith, inside) in
    let parts : bs ≡ bytes ++ take (room - length bytes) more = ap (λ (m : ℕ). take m (bytes ++ more)) all ∙ take-append-add bytes more (room - length bytes) in
    unit_read z bs unit r.0 (fit_take room (bytes ++ more) fits) r.1 bytes (take (room - length bytes) more) parts r.2

follows_within : (pieces : List Piece) (z left : Past) (tail : List ℕ) → IsBytes (piece_bytes pieces ++ tail) → StandWithin z pieces tail left → Follow z pieces
follows_within [] z left tail fits units = tt
follows_within (p ∷ pieces) z left tail fits units =
    let all = piece_bytes pieces ++ tail in
    let fits' : IsBytes (p.bytes ++ all) = subst IsBytes (append_assoc p.bytes (piece_bytes pieces) tail) fits in
    (fits_by z.first p.unit (drop 13 p.bytes) z refl (facts_within z p.bytes all p.unit fits' units.0), follows_within pieces (after z p.unit p.bytes) left tail (fit_behind p.bytes all fits') units.1)

pub cut_fronts_by_sequences : CutFrontsBySequences
cut_fronts_by_sequences frames pieces tail left fits units = write frames pieces nothing_yet None 0 nothing_cut (follows_within pieces nothing_yet left tail fits units) (refl, refl)
