-- A picture that is skimmed, from its beginning on.
use Rattle.std.proofs.Common.{◌≡◌, ℕ, ◌+◌, ◌-◌, ◌*◌, ◌<◌, ◌≤◌, true, false, List, [], ◌∷◌, ◌++◌, length, take, drop, Option, Some, Result, Ok, Err, inl, inr, refl, sym, ap, subst, ◌∙◌, append-nil, arith}
use Rattle.std.proofs.lemmas.List.{length-append, length-take, take-append-drop, nil_from_length}
use Rattle.std.proofs.lemmas.Bool.{cases_lt}
use Rattle.std.specs.Io.KnownBytes.{IsAtEnd}
use Rattle.run_theory.specs.Ran.{within}
use Rattle.field_rows.specs.Rows.{◌or_else◌, Rows, done, ◌>>=◌, read, first_broken, reading_unless}
use Rattle.field_rows.proofs.Reading.{read-done}
use Rattle.sequence_header.specs.declared.parts.HeaderParts.{HeaderParts}
use Rattle.slice_geometry.specs.Slicing.{IsAllowed, slice_count, bytes_before, total_bytes}
use Rattle.slice_geometry.proofs.Shares.{bytes_before-rises, bytes_before-zero}
use Rattle.transform_params.specs.Views.{params_of}
use Rattle.run_theory.specs.Grammar.{bytes_at}
use Rattle.run_theory.specs.Begun.{Begun, Got, Moves, Needs}
use Rattle.run_theory.proofs.Begins.{begun_use, begun_use-gone, begun_held, begun_held-gone, got_back}
use Rattle.unit_reader.specs.declared.stop.ReadStop.{ReadStop}
use Rattle.unit_reader.specs.declared.stop.ReadStop.TheVariants as stops
use Rattle.unit_reader.specs.declared.window.Halt.{Halt}
use Rattle.unit_reader.specs.declared.window.Halt.TheVariants as halts
use Rattle.unit_reader.specs.Asking.{WindowSeen}
use Rattle.unit_reader.specs.Reading.{UnitOver}
use Rattle.unit_reader.specs.Stops.{stop_of, StopsOver, limit}
use Rattle.unit_reader.proofs.Stopping.{stops_lost, stops_short, stops_refused, stops_due}
use Rattle.stream_rows.specs.declared.reason.Reason.{Reason}
use Rattle.stream_rows.specs.declared.reason.Reason.TheVariants as reasons
use Rattle.stream_rows.specs.Units.{Past, First, DataUnit, Sequence, Repeated, Picture, End, reason_of, next_checked, leads_behind}
use Rattle.stream_cut.specs.declared.opening.PictureOpening.{PictureOpening}
use Rattle.stream_cut.specs.declared.opening.Opening.{Opening}
use Rattle.stream_cut.specs.declared.opening.Opening.TheVariants as openings
use Rattle.stream_cut.specs.declared.table.Found.{Found}
use Rattle.stream_cut.specs.declared.table.Found.TheVariants as founds
use Rattle.stream_cut.specs.declared.table.PictureFound.{PictureFound}
use Rattle.stream_cut.specs.Keeping.{IsCutSlice}
use Rattle.stream_cut.specs.SkimTable.{SkimTableSeen, IsSkimFoundBy, KeepsSkimHeader}
use Rattle.stream_cut.specs.Opening.{Opened, OpensSequence, OpensRepeated, OpensEnd, Opens, open_rows}
use Rattle.stream_cut.proofs.RestRows.{rest_rows}
use Rattle.stream_cut.specs.Skim.{skim_slices, skim_grammar, skim_rows}
use Rattle.stream_cut.specs.SkimGrammar.{skimmed_laws}
use Rattle.stream_rows.proofs.CheckedRows.{read-checked_unit}
use Rattle.stream_cut.proofs.OpenMoves.{opening_moves}
use Rattle.stream_cut.proofs.SliceBytes.{slices_move, slices_need, slices_short}

-- the check behind the slices, and the rows from the slices on
abbrev pub checked : Past → ℕ → DataUnit → Rows Reason DataUnit
checked z next unit = next_checked z next >>= λ length. done unit

abbrev pub left_of : Past → HeaderParts → PictureOpening → Rows Reason DataUnit
left_of z parts picture = skim_slices (params_of picture.params) (slice_count picture.params.layout) [] >>= λ slices. checked z picture.next (Picture parts picture.number (params_of picture.params) slices)

-- ---- behind the beginning

pub record IsOpen (z : Past) (held0 held behind : List ℕ) (rest0 rest1 : Option (List ℕ)) (picture : PictureOpening) (size : ℕ) : Type 0 where
  pub first : First
  pub some : z.first ≡ Some first
  pub begun : Begun skim_grammar z held0 rest0 rest1 (z.place + size) behind (left_of z first.parts picture)
  pub gone : begun.gone ≡ take size held
  pub inside : size ≤ length held
  pub least : 13 ≤ size
  pub most : size ≤ 600

pub opens_picture : {z : Past} {held0 held behind : List ℕ} {rest0 rest1 : Option (List ℕ)} (picture : PictureOpening) (size : ℕ) → Opens z held (openings.Picture picture) size → behind ≡ drop size held → Begun skim_grammar z held0 rest0 rest1 z.place held (skim_rows z) → IsOpen z held0 held behind rest0 rest1 picture size
unfolding rest_rows
opens_picture {z} {held0} {held} {behind} {rest0} {rest1} picture size o e b =
    let n = o.1 in
    let first = o.2.0 in
    let here = ap (λ k. read reason_of (open_rows z) (bytes_at k held)) (let same : z.place ≡ z.place + 0 = omega arith in same) ∙ o.6 ∙ ap (λ k. Ok (o.0, bytes_at k (drop n held))) (omega arith) in
    let moves : Moves skim_grammar (skim_rows z) z.place (take n held) (left_of z first.parts picture) = subst (λ x. Moves skim_grammar (skim_rows z) z.place (take n held) (rest_rows z x)) o.2.2 (opening_moves z held o.0 n here o.4) in
    let split = sym (take-append-drop n held) in
    let used = begun_use skimmed_laws (take n held) (drop n held) (left_of z first.parts picture) b split moves in
    let none : b.gone ≡ [] = nil_from_length b.gone (omega (arith, b.partway.at_is)) in
    let gone : used.gone ≡ take n held = begun_use-gone skimmed_laws (take n held) (drop n held) (left_of z first.parts picture) b split moves ∙ ap (λ l. l ++ take n held) none in
    let both = subst (λ p. (u : Begun skim_grammar z held0 rest0 rest1 p (drop n held) (left_of z first.parts picture)) × (u.gone ≡ take n held)) (omega (arith, length-take n held, o.4)) (used, gone) in
    subst (λ l. IsOpen z held0 held l rest0 rest1 picture size) (sym e) (subst (λ n. IsOpen z held0 held (drop n held) rest0 rest1 picture n) (omega (arith, o.3)) (record { first = first; some = o.2.1; begun = both.0; gone = both.1; inside = o.4; least = omega (arith, o.5.0); most = omega (arith, o.5.1) }))

-- a unit that is whole in its beginning
pub record IsWholeOpen (z : Past) (held0 held behind : List ℕ) (rest0 rest1 : Option (List ℕ)) (unit : DataUnit) (size : ℕ) : Type 0 where
  pub begun : Begun skim_grammar z held0 rest0 rest1 (z.place + size) behind (done unit)
  pub gone : begun.gone ≡ take size held

pub opens_whole : {z : Past} {held0 held behind : List ℕ} {rest0 rest1 : Option (List ℕ)} (opening : Opening) (unit : DataUnit) (size : ℕ) (o : Opens z held opening size) → rest_rows z o.0 ≡ done unit → behind ≡ drop size held → Begun skim_grammar z held0 rest0 rest1 z.place held (skim_rows z)
    → IsWholeOpen z held0 held behind rest0 rest1 unit size
opens_whole {z} {held0} {held} {behind} {rest0} {rest1} opening unit size o whole e b =
    let n = o.1 in
    let here = ap (λ k. read reason_of (open_rows z) (bytes_at k held)) (let same : z.place ≡ z.place + 0 = omega arith in same) ∙ o.6 ∙ ap (λ k. Ok (o.0, bytes_at k (drop n held))) (omega arith) in
    let moves : Moves skim_grammar (skim_rows z) z.place (take n held) (done unit) = subst (λ rows. Moves skim_grammar (skim_rows z) z.place (take n held) rows) whole (opening_moves z held o.0 n here o.4) in
    let split = sym (take-append-drop n held) in
    let used = begun_use skimmed_laws (take n held) (drop n held) (done unit) b split moves in
    let none : b.gone ≡ [] = nil_from_length b.gone (omega (arith, b.partway.at_is)) in
    let gone : used.gone ≡ take n held = begun_use-gone skimmed_laws (take n held) (drop n held) (done unit) b split moves ∙ ap (λ l. l ++ take n held) none in
    let both = subst (λ p. (u : Begun skim_grammar z held0 rest0 rest1 p (drop n held) (done unit)) × (u.gone ≡ take n held)) (omega (arith, length-take n held, o.4)) (used, gone) in
    subst (λ l. IsWholeOpen z held0 held l rest0 rest1 unit size) (sym e) (subst (λ n. IsWholeOpen z held0 held (drop n held) rest0 rest1 unit n) (omega (arith, o.3)) (record { begun = both.0; gone = both.1 }))

pub sequence_whole : (z : Past) (opened : Opened) (parts : HeaderParts) → opened ≡ OpensSequence parts → rest_rows z opened ≡ done (Sequence parts)
unfolding rest_rows
sequence_whole z opened parts e = ap (rest_rows z) e

pub repeated_whole : (z : Past) (opened : Opened) → opened ≡ OpensRepeated → rest_rows z opened ≡ done Repeated
unfolding rest_rows
repeated_whole z opened e = ap (rest_rows z) e

pub end_whole : (z : Past) (opened : Opened) → opened ≡ OpensEnd → rest_rows z opened ≡ done End
unfolding rest_rows
end_whole z opened e = ap (rest_rows z) e

-- ---- where the slices stop

needs : (z : Past) (parts : HeaderParts) (picture : PictureOpening) → 1 ≤ picture.params.layout.b → Needs skim_grammar (left_of z parts picture) (total_bytes picture.params.layout)
needs z parts picture some = slices_need (params_of picture.params) _ some

-- the bytes that are kept and those that are held
still : {z : Past} {held0 held1 held2 gone : List ℕ} {rest0 rest1 : Option (List ℕ)} {at : ℕ} (parts : HeaderParts) (picture : PictureOpening) (rest2 : Option (List ℕ)) → 1 ≤ picture.params.layout.b → Begun skim_grammar z held0 rest0 rest1 at held1 (left_of z parts picture)
    → Got (total_bytes picture.params.layout) held1 held2 rest1 rest2 gone → Begun skim_grammar z held0 rest0 rest2 at (gone ++ held2) (left_of z parts picture)
still {z = z} {held2 = held2} {gone = gone} parts picture rest2 some b got = begun_held skimmed_laws (total_bytes picture.params.layout) rest2 (gone ++ held2) b (needs z parts picture some) (got_back got)

-- the input has ended in them
pub slices_ended : {z : Past} {held0 held1 held2 gone : List ℕ} {rest0 rest1 : Option (List ℕ)} {at : ℕ} (parts : HeaderParts) (picture : PictureOpening) (rest2 : Option (List ℕ)) (room cut place : ℕ) (stop : ReadStop Reason) → 1 ≤ picture.params.layout.b
    → Begun skim_grammar z held0 rest0 rest1 at held1 (left_of z parts picture) → Got (total_bytes picture.params.layout) held1 held2 rest1 rest2 gone → held2 ≡ [] → length gone < total_bytes picture.params.layout → IsAtEnd (within room rest2) → at + length gone + room ≡ limit
    → IsCutSlice picture.params.layout (length gone) cut → place ≡ at + cut → stop ≡ stops.Refused (record { place = place; reason = reasons.Truncated }) → StopsOver skim_grammar z held0 rest0 rest2 room stop
slices_ended {z} {held0} {held1} {held2} {gone} {rest0} {rest1} {at} parts picture rest2 room cut place stop some b got none few at_end total is_cut there e =
    let p = params_of picture.params in
    let zero = bytes_before-zero p.slicing.a p.slicing.b in
    let begins : 0 + slice_count p.slicing ≡ slice_count p.slicing = omega arith in
    let all = ap (bytes_before p.slicing.a p.slicing.b) begins in
    let s = slices_short p (slice_count p.slicing) [] (λ slices. checked z picture.next (Picture parts picture.number p slices)) at gone some (omega (arith, few, zero, all)) in
    let empty : gone ++ held2 ≡ gone = ap (λ l. gone ++ l) none ∙ append-nil gone in
    let same : bytes_before p.slicing.a p.slicing.b s.slice ≡ cut = cut_same p.slicing.a p.slicing.b s.slice is_cut.slice (length gone) some (omega (arith, s.begins, zero)) (omega (arith, s.ends, zero)) (omega (arith, is_cut.begins, is_cut.is_at)) is_cut.ends ∙ sym is_cut.is_at in
    stops_short skimmed_laws room (8 * (at + (bytes_before p.slicing.a p.slicing.b s.slice - bytes_before p.slicing.a p.slicing.b 0))) place reasons.Truncated stop
    (subst (λ l. Begun skim_grammar z held0 rest0 rest2 at l (left_of z parts picture)) empty (still parts picture rest2 some b got))
    s.short at_end total (omega (arith, same, zero, there)) e
  where
    cut_same : (a b m n there : ℕ) → 1 ≤ b → bytes_before a b m ≤ there → there < bytes_before a b (m + 1) → bytes_before a b n ≤ there → there < bytes_before a b (n + 1) → bytes_before a b m ≡ bytes_before a b n
    cut_same a b m n there some m_least m_most n_least n_most = elim (cases_lt m n) [
      | inl less ↦ absurd (omega (arith, m_most, n_least, bytes_before-rises a b (m + 1) n some (omega (arith, less))))
      | inr more ↦ elim (cases_lt n m) [
        | inl less ↦ absurd (omega (arith, n_most, m_least, bytes_before-rises a b (n + 1) m some (omega (arith, less))))
        | inr same ↦ ap (bytes_before a b) (omega (arith, more, same))
      ]
    ]

-- no more bytes came
pub slices_halted : {z : Past} {held0 held1 held2 gone : List ℕ} {rest0 rest1 : Option (List ℕ)} {at : ℕ} (parts : HeaderParts) (picture : PictureOpening) (rest2 : Option (List ℕ)) (room : ℕ) (halt : Halt) (stop : ReadStop Reason) → 1 ≤ picture.params.layout.b
    → Begun skim_grammar z held0 rest0 rest1 at held1 (left_of z parts picture) → Got (total_bytes picture.params.layout) held1 held2 rest1 rest2 gone → (halt ≡ halts.ReadFault → (length gone < total_bytes picture.params.layout) × (held2 ≡ [])) → at + length gone + length held2 + room ≡ limit
    → stop ≡ stop_of halt → StopsOver skim_grammar z held0 rest0 rest2 room stop
slices_halted {z} {held0} {held1} {held2} {gone} {rest0} {rest1} {at} parts picture rest2 room halts.ReadFault stop some b got lost total e =
    let l = lost refl in
    stops_lost skimmed_laws (total_bytes picture.params.layout) room halts.ReadFault stop (still parts picture rest2 some b got) (needs z parts picture some) (omega (arith, l.0, length-append gone held2, ap (λ (l : List ℕ). length l) l.1)) (omega (arith, total, length-append gone held2)) e
slices_halted {z} {held0} {held1} {held2} {gone} {rest0} {rest1} {at} parts picture rest2 room halts.NoMemory stop some b got lost total e =
    subst (StopsOver skim_grammar z held0 rest0 rest2 room) (sym e) (stops_due room (still parts picture rest2 some b got) (omega (arith, total, length-append gone held2)))

-- ---- behind the slices

pub record IsSliced (z : Past) (held0 held2 : List ℕ) (rest0 rest2 : Option (List ℕ)) (before gone : List ℕ) (at : ℕ) (parts : HeaderParts) (picture : PictureOpening) : Type 0 where
  pub slices : List (List ℕ)
  pub begun : Begun skim_grammar z held0 rest0 rest2 (at + length gone) held2 (checked z picture.next (Picture parts picture.number (params_of picture.params) slices))
  pub all : begun.gone ≡ before ++ gone

pub slices_passed : {z : Past} {held0 held1 held2 gone : List ℕ} {rest0 rest1 : Option (List ℕ)} {at : ℕ} (parts : HeaderParts) (picture : PictureOpening) (rest2 : Option (List ℕ)) → 1 ≤ picture.params.layout.b
    → (b : Begun skim_grammar z held0 rest0 rest1 at held1 (left_of z parts picture)) → Got (total_bytes picture.params.layout) held1 held2 rest1 rest2 gone → length gone ≡ total_bytes picture.params.layout → IsSliced z held0 held2 rest0 rest2 b.gone gone at parts picture
slices_passed {z} {held0} {held1} {held2} {gone} {rest0} {rest1} {at} parts picture rest2 some b got enough =
    let n = total_bytes picture.params.layout in
    let m = slices_move (params_of picture.params) (λ slices. checked z picture.next (Picture parts picture.number (params_of picture.params) slices)) at gone some enough in
    let left = checked z picture.next (Picture parts picture.number (params_of picture.params) m.0) in
    let whole = begun_held skimmed_laws n rest2 (gone ++ held2) b (needs z parts picture some) (got_back got) in
    record {
      slices = m.0;
      begun = begun_use skimmed_laws gone held2 left whole refl m.1;
      all = begun_use-gone skimmed_laws gone held2 left whole refl m.1 ∙ ap (λ l. l ++ gone) (begun_held-gone skimmed_laws n rest2 (gone ++ held2) b (needs z parts picture some) (got_back got));
    }

-- the next offset leads elsewhere
pub offset_refused : {z : Past} {held0 held1 : List ℕ} {rest0 rest1 : Option (List ℕ)} (room next n place : ℕ) (unit : DataUnit) (stop : ReadStop Reason) → Begun skim_grammar z held0 rest0 rest1 (z.place + n) held1 (checked z next unit) → leads_behind next n ≡ false
    → z.place + n + length held1 + room ≡ limit → place ≡ z.place + 5 → stop ≡ stops.Refused (record { place = place; reason = reasons.OffsetWrong }) → StopsOver skim_grammar z held0 rest0 rest1 room stop
offset_refused {z} {held0} {held1} {rest0} {rest1} room next n place unit stop b leads total there e =
    stops_refused skimmed_laws room (8 * (z.place + 5)) place reasons.OffsetWrong stop b
    (read-checked_unit z next n unit held1 ∙ ap (λ b. reading_unless (8 * (z.place + 5)) (first_broken ((b or_else reasons.OffsetWrong) ∷ [])) (Ok (unit, bytes_at (z.place + n) held1))) leads)
    refl total (omega (arith, there)) e

-- it leads behind the unit
pub offset_moves : (z : Past) (next n : ℕ) (unit : DataUnit) → leads_behind next n ≡ true → Moves skim_grammar (checked z next unit) (z.place + n) [] (done unit)
offset_moves z next n unit leads = record {
  moves = λ more.
      read-checked_unit z next n unit more
      ∙ ap (λ b. reading_unless (8 * (z.place + 5)) (first_broken ((b or_else reasons.OffsetWrong) ∷ [])) (Ok (unit, bytes_at (z.place + n) more))) leads
      ∙ sym (read-done reason_of unit (bytes_at (z.place + n) more)) ∙ ap (λ p. read reason_of (done unit) (bytes_at p more)) (omega arith);
}

-- ---- how the unit comes out

abbrev pub Over : SkimTableSeen → SkimTableSeen → List ℕ → Option (List ℕ) → Option (List ℕ) → WindowSeen → Result Found (ReadStop Reason) → Type 0
Over before now held0 rest0 rest1 window result = UnitOver skim_grammar (IsSkimFoundBy before now) (λ held0 rest0 held stop. KeepsSkimHeader before now held) before.past held0 rest0 rest1 window result

pub stopped : (before now : SkimTableSeen) (held0 : List ℕ) (rest0 rest1 : Option (List ℕ)) (window : WindowSeen) (stop : ReadStop Reason) (result : Result Found (ReadStop Reason)) → StopsOver skim_grammar before.past held0 rest0 rest1 window.room stop → now.header ≡ before.header → now.shape ≡ before.shape → length window.held ≤ 8192 → result ≡ Err stop
    → Over before now held0 rest0 rest1 window result
stopped before now held0 rest0 rest1 window stop result over header shape few is = subst (Over before now held0 rest0 rest1 window) (sym is) (over, record { header = header; shape = shape; few = few })

pub not_kept : (before now : SkimTableSeen) {held0 held : List ℕ} {rest0 rest1 : Option (List ℕ)} (window : WindowSeen) (stop : ReadStop Reason) (result : Result Found (ReadStop Reason)) → Begun skim_grammar before.past held0 rest0 rest1 before.past.place held (skim_rows before.past) → window.held ≡ held
    → before.past.place + length held + window.room ≡ limit → length held ≤ 8192 → now.header ≡ before.header → now.shape ≡ before.shape → stop ≡ stops.NoMemory → result ≡ Err stop → Over before now held0 rest0 rest1 window result
not_kept before now {held0} {held} {rest0} {rest1} window stop result b same total few header shape none is =
    stopped before now held0 rest0 rest1 window stops.NoMemory result (stops_due window.room b total) header shape (omega (arith, few, ap (λ (l : List ℕ). length l) same)) (is ∙ ap Err none)

pub picture_found : (before now : SkimTableSeen) {held0 : List ℕ} {rest0 rest1 : Option (List ℕ)} (first : First) (picture : PictureOpening) (n size : ℕ) (front gone : List ℕ) (slices : List (List ℕ)) (window : WindowSeen) (found : PictureFound) (result : Result Found (ReadStop Reason))
    → (b : Begun skim_grammar before.past held0 rest0 rest1 (before.past.place + n) window.held (checked before.past picture.next (Picture first.parts picture.number (params_of picture.params) slices))) → b.gone ≡ front ++ gone → before.past.first ≡ Some first → length front ≡ size → 13 ≤ size → size ≤ 600
    → length gone ≡ total_bytes picture.params.layout → n ≡ size + total_bytes picture.params.layout → leads_behind picture.next n ≡ true → IsAllowed picture.params.layout → now.past ≡ before.past → now.header ≡ before.header → now.shape ≡ before.shape → now.unit ≡ front ++ gone
    → found.number ≡ picture.number → found.head ≡ size → found.slices ≡ slice_count picture.params.layout → found.a ≡ picture.params.layout.a → found.b ≡ picture.params.layout.b → before.past.place + n + length window.held + window.room ≡ limit → result ≡ Ok (founds.Picture found)
    → Over before now held0 rest0 rest1 window result
picture_found before now {held0} {rest0} {rest1} first picture n size front gone slices window found result b all some long least most enough sum leads allowed past header shape kept number head count a_is b_is total is =
    let p = params_of picture.params in
    let unit = Picture first.parts picture.number p slices in
    let moves = offset_moves before.past picture.next n unit leads in
    let begun = begun_use skimmed_laws [] window.held (done unit) b refl moves in
    let bytes : begun.gone ≡ front ++ gone = begun_use-gone skimmed_laws [] window.held (done unit) b refl moves ∙ append-nil b.gone ∙ all in
    let sizes : length begun.gone ≡ size + total_bytes picture.params.layout = omega (arith, ap (λ (l : List ℕ). length l) bytes, length-append front gone, long, enough) in
    subst (Over before now held0 rest0 rest1 window) (sym is) (record {
      unit = unit;
      at = before.past.place + n + 0;
      begun = begun;
      such = record {
        past = past;
        header = header;
        shape = shape;
        is_found = (first, p, slices, some, ap (λ k. Picture first.parts k p slices) (sym number), count, a_is, b_is, omega (arith, sizes, head), allowed);
        kept = kept ∙ sym bytes;
        long = omega (arith, sizes, least);
        short = omega (arith, sizes, most, allowed.share.total);
      };
      total = omega (arith, total);
    })
