-- Other data, whose payload is skipped.
use Rattle.std.proofs.Common.{◌≡◌, ℕ, ◌+◌, ◌-◌, ◌*◌, ◌^◌, ◌<◌, ◌≤◌, true, false, List, ◌++◌, length, take, drop, Option, None, Ok, Err, refl, sym, ap, subst, ◌∙◌, append-nil, arith}
use Rattle.std.proofs.lemmas.List.{length-append, length-take, take-append-drop}
use Rattle.field_rows.specs.Rows.{done, read, ◌>>=◌, bytes_under}
use Rattle.run_theory.specs.Grammar.{bytes_at}
use Rattle.run_theory.specs.Begun.{Begun, Needs, Moves}
use Rattle.run_theory.proofs.Begins.{begun_more, begun_held, begun_use, got_back}
use Rattle.run_theory.proofs.Fields.{needs_row, moves_blind, short_row}
use Rattle.unit_reader.specs.declared.stop.ReadStop.{ReadStop}
use Rattle.unit_reader.specs.declared.stop.ReadStop.TheVariants as stops
use Rattle.unit_reader.specs.declared.window.Halt.{Halt}
use Rattle.unit_reader.specs.Asking.{WindowSeen, Dropped}
use Rattle.unit_reader.specs.Stops.{stop_of, StopsOver, limit}
use Rattle.unit_reader.proofs.Stopping.{stops_lost, stops_short}
use Rattle.stream_rows.specs.declared.reason.Reason.{Reason}
use Rattle.stream_rows.specs.declared.reason.Reason.TheVariants as reasons
use Rattle.stream_rows.specs.Units.{Past, Skipped, skipped_payload, reason_of}
use Rattle.stream_cut.specs.declared.opening.Opening.TheVariants as openings
use Rattle.stream_cut.specs.declared.table.Found.TheVariants as founds
use Rattle.stream_cut.specs.Opening.{Opens, open_rows}
use Rattle.stream_cut.proofs.RestRows.{rest_rows}
use Rattle.stream_cut.specs.Skim.{skim_grammar, skim_rows}
use Rattle.stream_cut.specs.SkimGrammar.{skimmed_laws}
use Rattle.stream_cut.specs.SkimTable.{SkimTableSeen}
use Rattle.stream_cut.proofs.OpenMoves.{opening_moves}
use Rattle.stream_cut.proofs.PictureTurns.{Over}

pub record IsSkipping (z : Past) (held0 held behind : List ℕ) (rest0 rest1 : Option (List ℕ)) (next size : ℕ) : Type 0 where
  pub begun : Begun skim_grammar z held0 rest0 rest1 (z.place + size) behind (skipped_payload next)
  pub inside : size ≤ length held
  pub head : size ≡ 13

pub opens_skipped : {z : Past} {held0 held behind : List ℕ} {rest0 rest1 : Option (List ℕ)} (next size : ℕ) → Opens z held (openings.Skipped next) size → behind ≡ drop size held → Begun skim_grammar z held0 rest0 rest1 z.place held (skim_rows z) → IsSkipping z held0 held behind rest0 rest1 next size
unfolding rest_rows skipped_payload
opens_skipped {z} {held0} {held} {behind} {rest0} {rest1} next size o e b =
    let n = o.1 in
    let here = ap (λ k. read reason_of (open_rows z) (bytes_at k held)) (let same : z.place ≡ z.place + 0 = omega arith in same) ∙ o.6 ∙ ap (λ k. Ok (o.0, bytes_at k (drop n held))) (omega arith) in
    let moves : Moves skim_grammar (skim_rows z) z.place (take n held) (skipped_payload next) = subst (λ x. Moves skim_grammar (skim_rows z) z.place (take n held) (rest_rows z x)) o.2.0 (opening_moves z held o.0 n here o.4) in
    let used = begun_use skimmed_laws (take n held) (drop n held) (skipped_payload next) b (sym (take-append-drop n held)) moves in
    let at = subst (λ p. Begun skim_grammar z held0 rest0 rest1 p (drop n held) (skipped_payload next)) (let same : z.place + length (take n held) ≡ z.place + n = omega (arith, length-take n held, o.4) in same) used in
    subst (λ l. IsSkipping z held0 held l rest0 rest1 next size) (sym e) (subst (λ n. IsSkipping z held0 held (drop n held) rest0 rest1 next n) (let same : n ≡ size = omega (arith, o.3) in same) (record { begun = at; inside = o.4; head = omega (arith, o.3, o.2.1) }))

skips_need : (next : ℕ) → Needs skim_grammar (skipped_payload next) (next - 13)
unfolding skipped_payload ◌>>=◌ bytes_under
skips_need next = needs_row skim_grammar skimmed_laws (next - 13) None _ _

pub skips_whole : (before : SkimTableSeen) {held0 : List ℕ} {rest0 rest1 : Option (List ℕ)} {place : ℕ} {old new : WindowSeen} (next : ℕ) (rest2 : Option (List ℕ)) (d : Dropped (next - 13) old new rest1 rest2 (Ok true)) → Begun skim_grammar before.past held0 rest0 rest1 place old.held (skipped_payload next) → place ≡ before.past.place + 13 → next < 2 ^ 32
    → place + length old.held + old.room ≡ limit → Over before before held0 rest0 rest2 new (Ok founds.Skipped)
unfolding skipped_payload ◌>>=◌ bytes_under
skips_whole before {held0} {rest0} {rest1} {place} {old} {new} next rest2 d b behind few total =
    let long = d.enough refl in
    let begun = begun_more skimmed_laws (next - 13) rest2 new.held d.gone (done Skipped) b (skips_need next) d.got (moves_blind skim_grammar (next - 13) _ _ place d.gone (done Skipped) long (λ v. refl) (λ v. refl)) in
    record {
      unit = Skipped;
      at = place + length d.gone;
      begun = begun;
      such = record { past = refl; header = refl; shape = refl; is_found = refl; kept = refl; long = omega (arith, begun.partway.at_is, behind, long); short = omega (arith, begun.partway.at_is, behind, long, few) };
      total = omega (arith, d.room, total);
    }

pub skips_short : {z : Past} {held0 : List ℕ} {rest0 rest1 : Option (List ℕ)} {place : ℕ} {old new : WindowSeen} (next : ℕ) (rest2 : Option (List ℕ)) (stop : ReadStop Reason) (d : Dropped (next - 13) old new rest1 rest2 (Ok false)) → Begun skim_grammar z held0 rest0 rest1 place old.held (skipped_payload next)
    → place + length old.held + old.room ≡ limit → stop ≡ stops.Refused (record { place = place; reason = reasons.Truncated }) → StopsOver skim_grammar z held0 rest0 rest2 new.room stop
unfolding skipped_payload ◌>>=◌ bytes_under
skips_short {z} {held0} {rest0} {rest1} {place} {old} {new} next rest2 stop d b total e =
    let s = d.short refl in
    let all : d.gone ++ new.held ≡ d.gone = ap (λ l. d.gone ++ l) s.1 ∙ append-nil d.gone in
    stops_short skimmed_laws new.room (8 * place) place reasons.Truncated stop (begun_held skimmed_laws (next - 13) rest2 (d.gone ++ new.held) b (skips_need next) (got_back d.got))
    (short_row skim_grammar (next - 13) _ _ place (d.gone ++ new.held) (omega (arith, s.0, ap (λ (l : List ℕ). length l) all))) s.2 (omega (arith, d.room, total, length-append d.gone new.held)) (omega arith) e

pub skips_lost : {z : Past} {held0 : List ℕ} {rest0 rest1 : Option (List ℕ)} {place : ℕ} {old new : WindowSeen} (next : ℕ) (rest2 : Option (List ℕ)) (halt : Halt) (stop : ReadStop Reason) (d : Dropped (next - 13) old new rest1 rest2 (Err halt)) → Begun skim_grammar z held0 rest0 rest1 place old.held (skipped_payload next)
    → place + length old.held + old.room ≡ limit → stop ≡ stop_of halt → StopsOver skim_grammar z held0 rest0 rest2 new.room stop
skips_lost {z} {held0} {rest0} {rest1} {place} {old} {new} next rest2 halt stop d b total e =
    let s = d.err in
    let all : d.gone ++ new.held ≡ d.gone = ap (λ l. d.gone ++ l) s.1 ∙ append-nil d.gone in
    stops_lost skimmed_laws (next - 13) new.room halt stop (begun_held skimmed_laws (next - 13) rest2 (d.gone ++ new.held) b (skips_need next) (got_back d.got)) (skips_need next) (omega (arith, s.0, ap (λ (l : List ℕ). length l) all))
    (omega (arith, d.room, total, length-append d.gone new.held)) e
