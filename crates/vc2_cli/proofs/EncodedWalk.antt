-- A command that writes nothing for a unit, over an encoded stream picture by picture, with what stands before each.
use Rattle.std.proofs.Common.{◌≡◌, ℕ, ◌+◌, ◌%◌, ◌^◌, ◌<◌, ◌≤◌, Bool, true, false, List, [], ◌++◌, length, refl, sym, ap, subst, ◌∙◌, append_assoc, arith}
use Rattle.std.proofs.lemmas.List.{length-append}
use Rattle.field_rows.specs.Rows.{done}
use Rattle.sequence_header.specs.declared.parts.HeaderParts.{HeaderParts}
use Rattle.transform_params.specs.ParameterFields.{unit_length}
use Rattle.transform_params.proofs.Bounds.{unit_small}
use Rattle.run_theory.specs.Walk.{Answer, answer_from, before}
use Rattle.run_theory.specs.Grammar.{bytes_at}
use Rattle.run_theory.specs.Begun.{Moves}
use Rattle.run_theory.specs.Fronts.{Between, Command}
use Rattle.stream_rows.specs.declared.reason.Reason.{Reason}
use Rattle.stream_rows.specs.Units.{Past, nothing_yet, DataUnit, Sequence, Picture, End, unit_rows, after, units}
use Rattle.stream_rows.specs.Streams.{ends, limit}
use Rattle.stream_rows.proofs.Answering.{machine}
use Rattle.stream_writer.specs.EncodedStream.{Settings, begins_at, header_length, header_unit, picture_unit, end_unit, number_after, units_with, AreLawful, IsSliced}
use Rattle.stream_writer.specs.Writer.{head_bytes_before}
use Rattle.stream_writer.proofs.EncodedParts.{no_previous}
use Rattle.stream_writer.proofs.EncodedUnits.{length-header_unit, length-picture_unit, length-end_unit, moves_header_unit, moves_picture_unit, moves_end_unit}
use Rattle.stream_writer.proofs.EncodedStreams.{Going, ended, picture_code, end_code, going_on, going_later, begins_even, header_small}
use Rattle.stream_writer.proofs.EncodedAnswers.{one_unit, last_unit}

module _ {W E : Type 0} (command : Command Past Reason DataUnit W E) (quiet : (z : Past) (own : W) (unit : DataUnit) (bytes : List ℕ) → command.text z own unit bytes ≡ []) (s : Settings) (f : AreLawful s) where
  abbrev pub behind_unit : Between Past W → DataUnit → List ℕ → Between Past W
  behind_unit b unit bytes = record { past = after b.past unit bytes; own = command.next b.past b.own unit bytes }

  no_text : (a : Answer E) → before [] a ≡ a
  no_text a = refl

  one_more : (b : Between Past W) (unit : DataUnit) (bytes more : List ℕ) → Moves units (unit_rows b.past) b.past.place bytes (done unit) → ends unit (bytes_at (b.past.place + length bytes) more) ≡ false → b.past.place + length (bytes ++ more) ≤ limit
      → answer_from (machine command) b (bytes ++ more) ≡ answer_from (machine command) (behind_unit b unit bytes) more
  one_more b unit bytes more m no_end within =
      let rest = answer_from (machine command) (behind_unit b unit bytes) more in
      one_unit command b.past b.own unit bytes more m no_end within ∙ ap (λ (t : List ℕ). before t rest) (quiet b.past b.own unit bytes) ∙ no_text rest

  -- the first header
  pub front_first : (own : W) (more : List ℕ) → length (header_unit s.parts ++ more) ≤ limit
      → answer_from (machine command) (record { past = nothing_yet; own = own }) (header_unit s.parts ++ more) ≡ answer_from (machine command) (behind_unit (record { past = nothing_yet; own = own }) (Sequence s.parts) (header_unit s.parts)) more
  front_first own more within =
      one_more (record { past = nothing_yet; own = own }) (Sequence s.parts) (header_unit s.parts) more (moves_header_unit nothing_yet s.parts refl refl f.header (header_small s f)) refl (omega (arith, within))

  -- behind the units that are due with a picture
  abbrev pub behind_header : Between Past W → ℕ → Between Past W
  behind_header b previous = behind_unit (behind_unit b End (end_unit previous)) (Sequence s.parts) (header_unit s.parts)

  abbrev pub behind_picture : Between Past W → ℕ → ℕ → List (List ℕ) → Between Past W
  behind_picture b previous number slices = behind_unit b (Picture s.parts number s.params slices) (picture_unit s.params previous number slices)

  abbrev pub behind_due : Bool → Between Past W → ℕ → ℕ → List (List ℕ) → Between Past W
  behind_due false b previous number slices = behind_picture b previous number slices
  behind_due true b previous number slices = behind_picture (behind_header b previous) (header_length s.parts) number slices

  module _ (slices : List (List ℕ)) (sliced : IsSliced s.parts s.params slices) (number position : ℕ) (fits : number < 2 ^ 32) where
    front_picture : (b : Between Past W) (previous : ℕ) (more : List ℕ) → previous < 2 ^ 32 → Going s.parts b.past previous number position → b.past.place + length (picture_unit s.params previous number slices ++ more) ≤ limit
        → answer_from (machine command) b (picture_unit s.params previous number slices ++ more) ≡ answer_from (machine command) (behind_picture b previous number slices) more
    front_picture b previous more short g within =
        let p = s.params in
        let of : IsSliced g.first.parts p slices = subst (λ (q : HeaderParts). IsSliced q p slices) (sym g.of) sliced in
        let m = moves_picture_unit b.past g.first p previous number slices g.there f.params of g.true_one short fits (unit_small p f.params) (picture_code b.past g.first g.there) g.holds in
        let unit = picture_unit p previous number slices in
        subst (λ (q : HeaderParts). answer_from (machine command) b (unit ++ more) ≡ answer_from (machine command) (behind_unit b (Picture q number p slices) unit) more) g.of
        (one_more b (Picture g.first.parts number p slices) unit more m refl within)

    going_picture : (b : Between Past W) (previous : ℕ) → Going s.parts b.past previous number position → Going s.parts (behind_picture b previous number slices).past (unit_length s.params) (number_after number) (position + 1)
    going_picture b previous g =
        let unit = picture_unit s.params previous number slices in
        subst (λ (q : HeaderParts). Going s.parts (after b.past (Picture q number s.params slices) unit) (unit_length s.params) (number_after number) (position + 1)) g.of (going_on s.parts s.params b.past previous number position slices f.params sliced g)

    pub going_due : (begins : Bool) (b : Between Past W) (previous : ℕ) → begins_at s.group position ≡ begins → Going s.parts b.past previous number position → Going s.parts (behind_due begins b previous number slices).past (unit_length s.params) (number_after number) (position + 1)
    going_due false b previous is g = going_picture b previous g
    going_due true b previous is g = going_picture (behind_header b previous) (header_length s.parts) (going_later s.parts b.past previous number position g (begins_even s.parts.coding s.group position f.group is))

    pub due_place : (begins : Bool) (b : Between Past W) (previous : ℕ) → (behind_due begins b previous number slices).past.place ≡ b.past.place + head_bytes_before s.parts begins + unit_length s.params
    due_place false b previous = omega (arith, length-picture_unit s.parts s.params previous number slices f.params sliced)
    due_place true b previous = omega (arith, length-end_unit previous, length-header_unit s.parts, length-picture_unit s.parts s.params (header_length s.parts) number slices f.params sliced)

    pub front_due : (begins : Bool) (b : Between Past W) (previous : ℕ) (more : List ℕ) → begins_at s.group position ≡ begins → previous < 2 ^ 32 → Going s.parts b.past previous number position → b.past.place + length (units_with s.parts s.params begins previous number slices ++ more) ≤ limit
        → answer_from (machine command) b (units_with s.parts s.params begins previous number slices ++ more) ≡ answer_from (machine command) (behind_due begins b previous number slices) more
    front_due false b previous more is short g within = front_picture b previous more short g within
    front_due true b previous more is short g within =
        let even = begins_even s.parts.coding s.group position f.group is in
        let small = header_small s f in
        let end = end_unit previous in
        let header = header_unit s.parts in
        let unit = picture_unit s.params (header_length s.parts) number slices in
        let parts : ((end ++ header) ++ unit) ++ more ≡ end ++ (header ++ (unit ++ more)) = append_assoc (end ++ header) unit more ∙ append_assoc end header (unit ++ more) in
        let all : b.past.place + length (end ++ (header ++ (unit ++ more))) ≤ limit = subst (λ (l : List ℕ). b.past.place + length l ≤ limit) parts within in
        let behind_end = length-append end (header ++ (unit ++ more)) in
        let behind = length-append header (unit ++ more) in
        let ended_here = behind_unit b End end in
        ap (answer_from (machine command) b) parts
        ∙ one_more b End end (header ++ (unit ++ more))
        (moves_end_unit b.past g.first previous g.there g.true_one short (end_code b.past g.first g.there (λ e. let c = ap (λ (q : HeaderParts). q.coding) (sym g.of) ∙ e in g.even_pictures c ∙ even c))) refl all
        ∙ one_more ended_here (Sequence s.parts) header (unit ++ more) (moves_header_unit (ended b.past previous) s.parts refl (no_previous (ended b.past previous) refl) f.header small) refl (omega (arith, all, behind_end))
        ∙ front_picture (behind_header b previous) (header_length s.parts) more small (going_later s.parts b.past previous number position g even) (omega (arith, all, behind_end, behind))

  -- the last end
  pub front_last : (b : Between Past W) (previous number position : ℕ) → previous < 2 ^ 32 → Going s.parts b.past previous number position → (s.parts.coding ≡ 1 → position % 2 ≡ 0) → b.past.place + 13 ≤ limit
      → answer_from (machine command) b (end_unit previous) ≡ record { ending = (command.finished b.past b.own End (end_unit previous)).ending; text = []; last = (command.finished b.past b.own End (end_unit previous)).last }
  front_last b previous number position short g even within =
      last_unit command b.past b.own (end_unit previous)
      (moves_end_unit b.past g.first previous g.there g.true_one short (end_code b.past g.first g.there (λ e. let c = ap (λ (q : HeaderParts). q.coding) (sym g.of) ∙ e in g.even_pictures c ∙ even c)))
      (omega (arith, within, length-end_unit previous))
