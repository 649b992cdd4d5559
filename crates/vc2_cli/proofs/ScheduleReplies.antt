-- The replies of `check` with a schedule to streams and refusals.
use Rattle.std.proofs.Common.{◌≡◌, ℕ, zero, suc, ◌+◌, ◌-◌, ◌<◌, ◌≤◌, Bool, true, false, List, [], ◌∷◌, ◌++◌, length, take, drop, refl, sym, ap, subst, ◌∙◌, arith, append_assoc, append-nil}
use Rattle.std.proofs.lemmas.List.{length-take, length-drop, take_all, drop-take}
use Rattle.bit_codes.specs.Bits.{Cursor, bits_of, bytes_of, cursor_at}
use Rattle.bit_codes.proofs.BitLemmas.{length-bits}
use Rattle.bit_codes.proofs.ByteLemmas.{bytes_of-bits_of}
use Rattle.field_rows.specs.Rows.{Value, is_nil}
use Rattle.field_rows.specs.Standing.{Stand}
use Rattle.field_rows.proofs.Answers.{Stand-read}
use Rattle.field_rows.proofs.Words.{split-bits}
use Rattle.slice_geometry.specs.declared.unit_list.UnitShape.{UnitShape}
use Rattle.channel_schedule.specs.declared.schedule.Schedule.{Schedule}
use Rattle.channel_schedule.specs.declared.schedule.Outcome.{Outcome}
use Rattle.channel_schedule.specs.declared.schedule.Outcome.TheVariants as outcomes
use Rattle.channel_schedule.specs.Courses.{course_of, count_in}
use Rattle.channel_schedule.proofs.Unique.{one_outcome}
use Rattle.run_theory.specs.Walk.{Answer, answer_from, answer_to, after_step}
use Rattle.run_theory.proofs.Walks.{answer_step}
use Rattle.run_theory.specs.Grammar.{bytes_at}
use Rattle.run_theory.specs.Fronts.{Front, Stands, Finishes, Rests, Refuses, front_within, Between, step_by}
use Rattle.run_theory.proofs.FrontLaws.{front_stands, front_before, within_laws, step-stands}
use Rattle.run_theory.proofs.Whole.{behind-bytes}
use Rattle.stream_rows.specs.declared.reason.Reason.{Reason}
use Rattle.stream_rows.specs.Refusals.{Refusal}
use Rattle.stream_rows.specs.Units.{Past, nothing_yet, DataUnit, Sequence, Repeated, Picture, Skipped, End, reason_of, unit_rows, after, units}
use Rattle.stream_rows.specs.Streams.{bytes_between, ends, Entry, total, Units, IsStream, IsRefusal, limit, past_limit}
use Rattle.stream_rows.specs.Laws.{HasUnit}
use Rattle.stream_rows.proofs.UnitsLaws.{units_laws}
use Rattle.stream_rows.proofs.Whole.{unit_whole}
use Rattle.stream_rows.proofs.FrontIs.{front_is}
use Rattle.stream_rows.proofs.Answering.{near, after-place}
use Rattle.stream_reader.specs.Turns.{shape_of}
use Rattle.vc2_cli.specs.declared.status.Ending.{Ending}
use Rattle.vc2_cli.specs.declared.status.Ending.TheVariants.{Done, Scheduled, Refused}
use Rattle.vc2_cli.specs.declared.status.Status.TheVariants as status
use Rattle.vc2_cli.specs.Endings.{replayed_close}
use Rattle.vc2_cli.specs.Decode.{unit_pictures, unit_slices, Counts, nothing_counted, counts_with, check_machine, checking}
use Rattle.vc2_cli.specs.Scheduled.{Replayed, nothing_replayed, shapes_in, outcome_of, replaying, replay_machine}
use Rattle.vc2_cli.specs.Reply.{status_of, reply_of}
use Rattle.vc2_cli.specs.StreamReplies.{AreBytes, refused_reply}
use Rattle.vc2_cli.specs.ScheduleReplies.{shapes_over, shapes_of, ComesTo, scheduled_reply, IsScheduled}
use Rattle.vc2_cli.proofs.Decoding.{check_laws}
use Rattle.vc2_cli.proofs.Replaying.{replay_laws}
use Rattle.vc2_cli.proofs.StreamReplies.{is_checked}

-- ---- a unit that stands

-- so many of the bytes are its own
record InFront (z : Past) (t : List ℕ) (unit : DataUnit) (mid : Cursor) : Type 0 where
  size : ℕ
  inside : size ≤ length t
  at : mid ≡ bytes_at (z.place + size) (drop size t)
  has : (is_last : Bool) → ends unit mid ≡ is_last → HasUnit z t size unit is_last

in_front : (z : Past) (t : List ℕ) (vs : List Value) (unit : DataUnit) (mid : Cursor) → Stand (unit_rows z) vs (bytes_at z.place t) unit mid → InFront z t unit mid
in_front z t vs unit mid f =
    let read = Stand-read reason_of (unit_rows z) vs (bytes_at z.place t) unit mid f in
    let aligned = (unit_whole z).ends (bytes_at z.place t) mid unit (omega arith) (omega (arith, length-bits t)) read in
    let b = behind-bytes reason_of (unit_rows z) z.place t unit mid read aligned in
    record { size = b.0; inside = b.1; at = b.2; has = λ is_last e. record { fields = vs; behind = mid; stand = f; last = e; along = ap (λ (c : Cursor). c.place) b.2 } }

-- behind the last one nothing is left
ends_empty : (unit : DataUnit) (behind : Cursor) → ends unit behind ≡ true → is_nil behind.rest ≡ true
ends_empty (Sequence parts) behind e = absurd cc
ends_empty Repeated behind e = absurd cc
ends_empty (Picture parts number params slices) behind e = absurd cc
ends_empty Skipped behind e = absurd cc
ends_empty End behind e = e

rest_none : (bits : List Bool) → is_nil bits ≡ true → length bits ≡ 0
rest_none [] e = refl
rest_none (b ∷ bits) e = absurd cc

fit_drop : (n : ℕ) (bytes : List ℕ) → AreBytes bytes → AreBytes (drop n bytes)
fit_drop zero bytes f = f
fit_drop (suc n) [] f = f
fit_drop (suc n) (b ∷ bytes) f = fit_drop n bytes f.1

fit_take : (n : ℕ) (bytes : List ℕ) → AreBytes bytes → AreBytes (take n bytes)
fit_take zero bytes f = tt
fit_take (suc n) [] f = tt
fit_take (suc n) (b ∷ bytes) f = (f.0, fit_take n bytes f.1)

-- they lie between the cursors before and behind it
between : (place size : ℕ) (t : List ℕ) → size ≤ length t → AreBytes t → bytes_between (bytes_at place t) (bytes_at (place + size) (drop size t)) ≡ take size t
between place size t le fits =
    ap (λ (n : ℕ). bytes_of (take n (bits_of t))) (omega arith) ∙ ap bytes_of (split-bits size t le).0 ∙ bytes_of-bits_of (take size t) (fit_take size t fits)

near-drop : (n size : ℕ) (v : List ℕ) → size ≤ n → drop size (take n v) ≡ take (n - size) (drop size v)
near-drop n size v le = ap (λ m. drop size (take m v)) (omega arith) ∙ drop-take size (n - size) v

near-take : (n size : ℕ) (v : List ℕ) → size ≤ n → take size (take n v) ≡ take size v
near-take n zero v le = refl
near-take zero (suc size) v le = absurd (omega (arith, le))
near-take (suc n) (suc size) [] le = refl
near-take (suc n) (suc size) (b ∷ v) le = ap (λ (l : List ℕ). b ∷ l) (near-take n size v (omega (arith, le)))

module _ (schedule : Schedule) where
  abbrev at : Past → Replayed → Between Past Replayed
  at z own = record { past = z; own = own }

  abbrev more : Past → Replayed → DataUnit → List ℕ → Replayed
  more z own unit bytes = (replaying schedule).next z own unit bytes

  -- ---- behind the units of a stream

  abbrev own_over : (z : Past) (c : Cursor) (es : List Entry) (z' : Past) (c' : Cursor) → Units z c es z' c' → Replayed → Replayed
  own_over z c [] z' c' u own = own
  own_over z c (e ∷ es) z' c' u own = own_over (after z e.unit (bytes_between c u.0)) u.0 es z' c' u.3 (more z own e.unit (bytes_between c u.0))

  abbrev own_of : Replayed → ℕ → ℕ → List UnitShape → Replayed
  own_of own pictures slices shapes = record { schedule = own.schedule; pictures = pictures; slices = slices; shapes = shapes }

  own_is : (es : List Entry) (z : Past) (c : Cursor) (z' : Past) (c' : Cursor) (u : Units z c es z' c') (own : Replayed)
      → own_over z c es z' c' u own ≡ own_of own (own.pictures + total unit_pictures es) (own.slices + total unit_slices es) (own.shapes ++ shapes_over z c es z' c' u)
  own_is [] z c z' c' u own =
      let p : own.pictures ≡ own.pictures + 0 = omega arith in
      let s : own.slices ≡ own.slices + 0 = omega arith in
      ap (λ (n : ℕ). own_of own n own.slices own.shapes) p
      ∙ ap (λ (n : ℕ). own_of own (own.pictures + 0) n own.shapes) s
      ∙ ap (λ (l : List UnitShape). own_of own (own.pictures + 0) (own.slices + 0) l) (sym (append-nil own.shapes))
  own_is (e ∷ es) z c z' c' u own =
      let bytes = bytes_between c u.0 in
      let here = shape_of z e.unit bytes in
      let others = shapes_over (after z e.unit bytes) u.0 es z' c' u.3 in
      let p : own.pictures + unit_pictures e.unit + total unit_pictures es ≡ own.pictures + (unit_pictures e.unit + total unit_pictures es) = omega arith in
      let s : own.slices + unit_slices e.unit + total unit_slices es ≡ own.slices + (unit_slices e.unit + total unit_slices es) = omega arith in
      own_is es (after z e.unit bytes) u.0 z' c' u.3 (more z own e.unit bytes)
      ∙ ap (λ (n : ℕ). own_of own n (own.slices + unit_slices e.unit + total unit_slices es) ((own.shapes ++ here ∷ []) ++ others)) p
      ∙ ap (λ (n : ℕ). own_of own (own.pictures + (unit_pictures e.unit + total unit_pictures es)) n ((own.shapes ++ here ∷ []) ++ others)) s
      ∙ ap (λ (l : List UnitShape). own_of own (own.pictures + (unit_pictures e.unit + total unit_pictures es)) (own.slices + (unit_slices e.unit + total unit_slices es)) l) (append_assoc own.shapes (here ∷ []) others)

  record Walked (z : Past) (own : Replayed) (v : List ℕ) (z' : Past) (c' : Cursor) (own' : Replayed) : Type 0 where
    tail : List ℕ
    there : c' ≡ bytes_at z'.place (near z' tail)
    fits : AreBytes tail
    total_is : z'.place + length tail ≡ z.place + length v
    small : z'.place ≤ limit
    same : answer_from (replay_machine schedule) (at z own) v ≡ answer_from (replay_machine schedule) (at z' own') tail

  one_more : (z : Past) (own : Replayed) (v : List ℕ) (unit : DataUnit) (size : ℕ) → front_within limit past_limit units z v ≡ Stands size unit
      → answer_from (replay_machine schedule) (at z own) v ≡ answer_from (replay_machine schedule) (at (after z unit (take size v)) (more z own unit (take size v))) (drop size v)
  one_more z own v unit size front =
      answer_step (replay_machine schedule) (replay_laws schedule) (at z own) v
      ∙ ap (λ s. after_step s (λ size left. answer_from (replay_machine schedule) left (drop size v))) (step-stands limit past_limit units units_laws nothing_yet (replaying schedule) z own v size unit front)

  walked : (es : List Entry) (z : Past) (c : Cursor) (z' : Past) (c' : Cursor) (u : Units z c es z' c') (own : Replayed) (v : List ℕ) → c ≡ bytes_at z.place (near z v) → z.place ≤ limit → AreBytes v
      → Walked z own v z' c' (own_over z c es z' c' u own)
  walked [] z c z' c' u own v here le fits =
      subst (λ (x : Past). Walked z own v x c' own) u.0 (record { tail = v; there = sym u.1 ∙ here; fits = fits; total_is = refl; small = le; same = refl })
  walked (e ∷ es) z c z' c' u own v here le fits =
      let room = limit - z.place in
      let bytes = bytes_between c u.0 in
      let left = after z e.unit bytes in
      let i = in_front z (near z v) e.fields e.unit u.0 (subst (λ (k : Cursor). Stand (unit_rows z) e.fields k e.unit u.0) here u.1) in
      let front : front_within limit past_limit units z v ≡ Stands i.size e.unit = front_stands limit past_limit units units_laws z v i.size e.unit ((front_is z (near z v) (Stands i.size e.unit)).1 (i.has false u.2)) in
      let inside : i.size ≤ room = omega (arith, i.inside, length-take room v) in
      let within : i.size ≤ length v = omega (arith, i.inside, length-take room v) in
      let own_bytes : take i.size v ≡ bytes =
      sym (ap (λ (k : Cursor). bytes_between k u.0) here ∙ ap (bytes_between (bytes_at z.place (near z v))) i.at ∙ between z.place i.size (near z v) i.inside (fit_take room v fits) ∙ near-take room i.size v inside) in
      let many : length bytes ≡ i.size = omega (arith, ap (λ (l : List ℕ). length l) own_bytes, length-take i.size v, within) in
      let place : left.place ≡ z.place + i.size = after-place z e.unit bytes ∙ ap (λ (n : ℕ). z.place + n) many in
      let next : u.0 ≡ bytes_at left.place (near left (drop i.size v)) =
      i.at ∙ ap (λ (p : ℕ). bytes_at p (drop i.size (near z v))) (sym place) ∙ ap (bytes_at left.place) (near-drop room i.size v inside ∙ ap (λ (n : ℕ). take n (drop i.size v)) (omega (arith, place))) in
      let w = walked es left u.0 z' c' u.3 (more z own e.unit bytes) (drop i.size v) next (omega (arith, place, inside, le)) (fit_drop i.size v fits) in
      record {
        tail = w.tail;
        there = w.there;
        fits = w.fits;
        total_is = omega (arith, w.total_is, place, within, length-drop i.size v);
        small = w.small;
        same = one_more z own v e.unit i.size front
            ∙ ap (λ (l : List ℕ). answer_from (replay_machine schedule) (at (after z e.unit l) (more z own e.unit l)) (drop i.size v)) own_bytes ∙ w.same;
      }

  -- ---- a stream

  abbrev closing : ℕ → ℕ → ℕ → Outcome → Answer Ending
  closing pictures slices size outcome = let close = replayed_close pictures slices size outcome in record { ending = close.ending; text = []; last = close.last }

  outcome_is : (units : List UnitShape) (size : ℕ) (outcome : Outcome) → ComesTo schedule units size outcome → outcome_of schedule units size ≡ outcome
  outcome_is units size outcome is =
      let shapes = shapes_in units size in
      sym ((one_outcome (course_of shapes schedule.rate schedule.idle schedule.delay) schedule.size (count_in shapes)).only outcome is)

  replied : (bytes : List ℕ) → AreBytes bytes → (es : List Entry) (last : Entry) (is : IsStream bytes es last) (outcome : Outcome) → ComesTo schedule (shapes_of bytes es last is) (length bytes) outcome
      → reply_of [] (answer_to (replay_machine schedule) bytes) ≡ scheduled_reply bytes es outcome
  replied bytes fits es last is outcome comes =
      let s = is.stream in
      let start = nothing_replayed schedule in
      let whole : near nothing_yet bytes ≡ bytes = take_all limit bytes is.within in
      let w = walked es nothing_yet (cursor_at bytes 0) s.left s.mid s.units start bytes (ap (bytes_at 0) (sym whole)) (omega arith) fits in
      let z = s.left in
      let t = w.tail in
      let few : length t ≤ limit - z.place = omega (arith, w.total_is, w.small, is.within) in
      let here : s.mid ≡ bytes_at z.place t = w.there ∙ ap (bytes_at z.place) (take_all (limit - z.place) t few) in
      let i = in_front z t last.fields last.unit s.behind (subst (λ (k : Cursor). Stand (unit_rows z) last.fields k last.unit s.behind) here s.end) in
      let front : front_within limit past_limit units z t ≡ Finishes i.size last.unit =
      front_before limit past_limit units z t few ∙ (front_is z t (Finishes i.size last.unit)).1 (i.has true s.last_one) in
      let own = own_over nothing_yet (cursor_at bytes 0) es s.left s.mid s.units start in
      let last_bytes : take i.size t ≡ bytes_between s.mid s.behind =
      sym (ap (λ (k : Cursor). bytes_between k s.behind) here ∙ ap (bytes_between (bytes_at z.place t)) i.at ∙ between z.place i.size t i.inside w.fits) in
      let ended = λ (o : Replayed) (l : List ℕ). closing o.pictures o.slices (z.place + length l) (outcome_of o.schedule (o.shapes ++ shape_of z last.unit l ∷ []) (z.place + length l)) in
      let answer : answer_to (replay_machine schedule) bytes ≡ ended own (take i.size t) =
      w.same ∙ answer_step (replay_machine schedule) (replay_laws schedule) (at z own) t
      ∙ ap (λ (f : Front Reason DataUnit). after_step (step_by units (replaying schedule) z own t f) (λ size left. answer_from (replay_machine schedule) left (drop size t))) front in
      let all : z.place + length (bytes_between s.mid s.behind) ≡ length bytes =
      (let none = rest_none s.behind.rest (ends_empty last.unit s.behind s.last_one) in
      let end : length s.behind.rest ≡ length (bits_of (drop i.size t)) = ap (λ (k : Cursor). length k.rest) i.at in
      omega (arith, none, end, length-bits (drop i.size t), length-drop i.size t, i.inside, w.total_is, ap (λ (l : List ℕ). length l) last_bytes, length-take i.size t)) in
      let pictures : 0 + total unit_pictures es ≡ total unit_pictures es = omega arith in
      let slices : 0 + total unit_slices es ≡ total unit_slices es = omega arith in
      let shapes = shapes_of bytes es last is in
      ap (reply_of []) (answer ∙ ap (ended own) last_bytes
      ∙ ap (λ (o : Replayed). ended o (bytes_between s.mid s.behind)) (own_is es nothing_yet (cursor_at bytes 0) s.left s.mid s.units start)
      ∙ ap (λ (n : ℕ). closing (0 + total unit_pictures es) (0 + total unit_slices es) n (outcome_of schedule shapes n)) all
      ∙ ap (λ (n : ℕ). closing n (0 + total unit_slices es) (length bytes) (outcome_of schedule shapes (length bytes))) pictures
      ∙ ap (λ (n : ℕ). closing (total unit_pictures es) n (length bytes) (outcome_of schedule shapes (length bytes))) slices
      ∙ ap (closing (total unit_pictures es) (total unit_slices es) (length bytes)) (outcome_is shapes (length bytes) outcome comes))

  -- ---- a refusal: where `check` refuses, so it does with a schedule

  abbrev refused : Refusal → Answer Ending
  refused refusal = record { ending = Refused refusal; text = []; last = [] }

  refuses : (turns : ℕ) (z : Past) (counts : Counts) (own : Replayed) (v : List ℕ) (refusal : Refusal) → length v < turns
      → (answer_from check_machine (record { past = z; own = counts }) v).ending ≡ Refused refusal → answer_from (replay_machine schedule) (at z own) v ≡ refused refusal
  refuses zero z counts own v refusal few h = absurd (omega (arith, few))
  refuses (suc turns) z counts own v refusal few h =
      by (λ size unit bytes is h. refuses turns (after z unit bytes) (counts_with counts unit) (more z own unit bytes) (drop size v) refusal
      (let fronts = within_laws limit past_limit units units_laws in omega (arith, few, length-drop size v, fronts.some z v size unit is, fronts.inside z v size unit is)) h)
      (front_within limit past_limit units z v) refl (sym (ap (λ (a : Answer Ending). a.ending) (answer_step check_machine check_laws (record { past = z; own = counts }) v)) ∙ h)
    where
      by : ((size : ℕ) (unit : DataUnit) (bytes : List ℕ) → front_within limit past_limit units z v ≡ Stands size unit
          → (answer_from check_machine (record { past = after z unit bytes; own = counts_with counts unit }) (drop size v)).ending ≡ Refused refusal
          → answer_from (replay_machine schedule) (at (after z unit bytes) (more z own unit bytes)) (drop size v) ≡ refused refusal)
          → (front : Front Reason DataUnit) → front_within limit past_limit units z v ≡ front
          → (after_step (step_by units checking z counts v front) (λ size left. answer_from check_machine left (drop size v))).ending ≡ Refused refusal
          → answer_from (replay_machine schedule) (at z own) v ≡ refused refusal
      by others (Stands size unit) is h = one_more z own v unit size is ∙ others size unit (take size v) is h
      by others (Finishes size unit) is h = absurd cc
      by others Rests is h = absurd cc
      by others (Refuses fault) is h =
          answer_step (replay_machine schedule) (replay_laws schedule) (at z own) v
          ∙ ap (λ (f : Front Reason DataUnit). after_step (step_by units (replaying schedule) z own v f) (λ size left. answer_from (replay_machine schedule) left (drop size v))) is
          ∙ ap (λ (e : Ending). let a : Answer Ending = record { ending = e; text = []; last = [] } in a) h

-- a status that is a refusal is that of a refusal
refused_by : (ending : Ending) (refusal : Refusal) → status_of ending ≡ status.Refused refusal → ending ≡ Refused refusal
refused_by (Done note) refusal e = absurd cc
refused_by (Scheduled outcomes.Runs) refusal e = absurd cc
refused_by (Scheduled (outcomes.Late slot have need)) refusal e = absurd cc
refused_by (Scheduled (outcomes.Overfull slot fill size)) refusal e = absurd cc
refused_by (Refused other) refusal e = let same : other ≡ refusal = cc in ap Refused same

is_refused : (schedule : Schedule) (bytes : List ℕ) → AreBytes bytes → (refusal : Refusal) → IsRefusal bytes refusal → reply_of [] (answer_to (replay_machine schedule) bytes) ≡ refused_reply [] refusal
is_refused schedule bytes fits refusal r =
    let ending : (answer_to check_machine bytes).ending ≡ Refused refusal = refused_by (answer_to check_machine bytes).ending refusal (ap (λ r. r.status) ((is_checked bytes fits).refusal refusal r)) in
    ap (reply_of []) (refuses schedule (length bytes + 1) nothing_yet nothing_counted (nothing_replayed schedule) bytes refusal (omega arith) ending)

pub is_scheduled : (schedule : Schedule) (bytes : List ℕ) → AreBytes bytes → IsScheduled schedule bytes
is_scheduled schedule bytes fits = record {
  stream = λ es last is outcome comes. replied schedule bytes fits es last is outcome comes;
  refusal = λ refusal r. is_refused schedule bytes fits refusal r;
}
