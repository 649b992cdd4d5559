-- What a command over the units answers to a stream, and to bytes that are refused.
use Rattle.std.proofs.Common.{◌≡◌, ℕ, zero, suc, ◌+◌, ◌-◌, ◌*◌, ◌<◌, ◌≤◌, true, false, List, [], ◌∷◌, ◌++◌, length, take, drop, refl, sym, ap, subst, ◌∙◌, arith, append_assoc, append-nil}
use Rattle.std.specs.List.{AllByRecursion}
use Rattle.std.proofs.lemmas.List.{length-take, length-drop, take_all, drop-take}
use Rattle.bit_codes.specs.Bits.{Cursor, bits_of, bytes_of, cursor_at}
use Rattle.bit_codes.proofs.ByteLemmas.{bytes_of-bits_of}
use Rattle.field_rows.specs.Rows.{Value, Fault}
use Rattle.field_rows.specs.Standing.{Stand, IsRefused}
use Rattle.field_rows.proofs.Words.{split-bits}
use Rattle.run_theory.specs.Walk.{Machine, IsMachine, Ends, Answer, answer_from, answer_to, before, after_step}
use Rattle.run_theory.proofs.Walks.{answer_step}
use Rattle.run_theory.specs.Grammar.{bytes_at, unit_at}
use Rattle.run_theory.specs.Fronts.{Close, Front, Stands, Finishes, Refuses, front_by, front_of, front_within, Between, Command, step_by, machine_of}
use Rattle.run_theory.proofs.FrontLaws.{front_stands, front_near, front_before, front_past, step-stands, machine_laws}
use Rattle.stream_rows.specs.declared.reason.Reason.{Reason}
use Rattle.stream_rows.specs.declared.reason.Reason.TheVariants as reasons
use Rattle.stream_rows.specs.Refusals.{Refusal}
use Rattle.stream_rows.specs.Units.{Past, nothing_yet, DataUnit, Sequence, Repeated, Picture, Skipped, End, reason_of, unit_rows, after}
use Rattle.stream_rows.specs.Streams.{bytes_between, ends, Entry, UnitRows, units_by, UnitsBy, IsStreamFromBy, IsRefusalFromBy, limit, IsStreamBy, past_limit, IsFaultBy, WithinLimit, PastLimit, BehindLimit, IsRefusalBy}
use Rattle.stream_rows.proofs.Tables.{IsTable}
use Rattle.stream_rows.proofs.StreamLaws.{stands_front, refused_front, last_cut, full_front}

abbrev pub IsBytes : List ℕ → Type 0
IsBytes bytes = AllByRecursion (λ b. b < 256) bytes

pub fit_drop : (n : ℕ) (bytes : List ℕ) → IsBytes bytes → IsBytes (drop n bytes)
fit_drop zero bytes f = f
fit_drop (suc n) [] f = f
fit_drop (suc n) (b ∷ bytes) f = fit_drop n bytes f.1

pub fit_take : (n : ℕ) (bytes : List ℕ) → IsBytes bytes → IsBytes (take n bytes)
fit_take zero bytes f = tt
fit_take (suc n) [] f = tt
fit_take (suc n) (b ∷ bytes) f = (f.0, fit_take n bytes f.1)

-- the machine of a command over the units of these rows, and over those of streams
abbrev pub machine_over : {W E : Type 0} → UnitRows → Command Past Reason DataUnit W E → Machine (Between Past W) E
machine_over rows command = machine_of limit past_limit (units_by rows) nothing_yet command

abbrev pub machine : {W E : Type 0} → Command Past Reason DataUnit W E → Machine (Between Past W) E
machine command = machine_over unit_rows command

-- A command whose texts and whose own state hang on the units alone, and on what these left to it.
pub record IsPlain {W E : Type 0} (command : Command Past Reason DataUnit W E) : Type 0 where
  pub text : W → DataUnit → List ℕ
  pub is_text : (z : Past) (own : W) (unit : DataUnit) (bytes : List ℕ) → command.text z own unit bytes ≡ text own unit
  pub step : W → DataUnit → W
  pub is_step : (z : Past) (own : W) (unit : DataUnit) (bytes : List ℕ) → command.next z own unit bytes ≡ step own unit

-- the texts of units, and what they leave to the command
abbrev pub texts : {W : Type 0} → (W → DataUnit → List ℕ) → (W → DataUnit → W) → W → List Entry → List ℕ
texts text step own [] = []
texts text step own (e ∷ es) = text own e.unit ++ texts text step (step own e.unit) es

abbrev pub own_behind : {W : Type 0} → (W → DataUnit → W) → W → List Entry → W
own_behind step own [] = own
own_behind step own (e ∷ es) = own_behind step (step own e.unit) es

-- the bytes that are left, without those past the limit
abbrev pub near : Past → List ℕ → List ℕ
near z v = take (limit - z.place) v

pub after-place : (z : Past) (unit : DataUnit) (bytes : List ℕ) → (after z unit bytes).place ≡ z.place + length bytes
after-place z (Sequence parts) bytes = refl
after-place z Repeated bytes = refl
after-place z (Picture parts number params slices) bytes = refl
after-place z Skipped bytes = refl
after-place z End bytes = refl

-- the bytes of a unit that stands
pub between : (place size : ℕ) (t : List ℕ) → size ≤ length t → IsBytes t → bytes_between (bytes_at place t) (bytes_at (place + size) (drop size t)) ≡ take size t
between place size t le fits =
    ap (λ n. bytes_of (take n (bits_of t))) (omega arith) ∙ ap bytes_of (split-bits size t le).0 ∙ bytes_of-bits_of (take size t) (fit_take size t fits)

near-drop : (n size : ℕ) (v : List ℕ) → size ≤ n → drop size (take n v) ≡ take (n - size) (drop size v)
near-drop n size v le = ap (λ m. drop size (take m v)) (omega arith) ∙ drop-take size (n - size) v

near-take : (n size : ℕ) (v : List ℕ) → size ≤ length (take n v) → take size (take n v) ≡ take size v
near-take zero zero v le = refl
near-take zero (suc size) v le = absurd (omega arith)
near-take (suc n) zero v le = refl
near-take (suc n) (suc size) [] le = refl
near-take (suc n) (suc size) (b ∷ v) le = ap (λ l. b ∷ l) (near-take n size v (omega arith))

before-before : {E : Type 0} (a b : List ℕ) (x : Answer E) → before a (before b x) ≡ before (a ++ b) x
before-before a b x = ap (λ l. record { ending = x.ending; text = l; last = x.last }) (sym (append_assoc a b x.text))

-- the answer of a command without an opening, by its ending behind units
abbrev pub ending-of : {W E : Type 0} (command : Command Past Reason DataUnit W E) → Past → W → Close E → List ℕ → Answer E
ending-of command z own close text = record { ending = close.ending; text = command.opening ++ text; last = close.last }

pub all-near : (bytes : List ℕ) → length bytes ≤ limit → near nothing_yet bytes ≡ bytes
all-near bytes le = take_all limit bytes le

-- what is refused where the bytes before the limit are a stream
abbrev pub behind_limit : Fault Reason
behind_limit = record { place = 8 * limit; reason = reasons.StreamTooLong }

module _ (rows : UnitRows) (table : IsTable rows) where
  -- A unit that stands is taken, and what follows it lies near.
  pub record Taken (z : Past) (v : List ℕ) (unit : DataUnit) (mid : Cursor) : Type 0 where
    pub size : ℕ
    pub inside : size ≤ length (near z v)
    pub some : 0 < size
    pub left : Past
    pub is_left : left ≡ after z unit (bytes_between (bytes_at z.place (near z v)) mid)
    pub at : mid ≡ bytes_at left.place (near left (drop size v))
    pub place : left.place ≡ z.place + size
    pub front : front_within limit past_limit (units_by rows) z v ≡ Stands size unit
    pub taken : after z unit (take size v) ≡ left

  pub unit-taken : (z : Past) (v : List ℕ) (vs : List Value) (unit : DataUnit) (mid : Cursor) → IsBytes v → Stand (rows z) vs (bytes_at z.place (near z v)) unit mid → ends unit mid ≡ false → Taken z v unit mid
  unit-taken z v vs unit mid fits f no_end =
      let t = near z v in
      let g = stands_front rows table z t vs unit mid f in
      let is : bytes_between (bytes_at z.place t) mid ≡ take g.size v
      = ap (λ (c : Cursor). bytes_between (bytes_at z.place t) c) g.at ∙ between z.place g.size t g.inside (fit_take (limit - z.place) v fits) ∙ near-take (limit - z.place) g.size v g.inside in
      let left = after z unit (take g.size v) in
      let size : length (take g.size v) ≡ g.size = omega (arith, length-take g.size v, length-take (limit - z.place) v, g.inside) in
      let place : left.place ≡ z.place + g.size = after-place z unit (take g.size v) ∙ ap (λ n. z.place + n) size in
      let near_size : g.size ≤ limit - z.place = omega (arith, length-take (limit - z.place) v, g.inside) in
      record {
        size = g.size;
        inside = g.inside;
        some = g.some;
        left = left;
        is_left = ap (after z unit) (sym is);
        at = g.at ∙ ap (λ p. bytes_at p (drop g.size t)) (sym place) ∙ ap (bytes_at left.place) (near-drop (limit - z.place) g.size v near_size ∙ ap (λ n. take n (drop g.size v)) (omega (arith, place)));
        place = place;
        front = front_stands limit past_limit (units_by rows) table.grammar z v g.size unit (g.front ∙ (rw no_end refl));
        taken = refl;
      }

  -- Units that stand one after another: what follows them, and the answer by that.
  pub record Stood {W E : Type 0} (command : Command Past Reason DataUnit W E) (plain : IsPlain command) (z : Past) (own : W) (v : List ℕ) (es : List Entry) (z' : Past) (c' : Cursor) : Type 0 where
    pub tail : List ℕ
    pub at : c' ≡ bytes_at z'.place (near z' tail)
    pub fits : IsBytes tail
    pub total : z'.place + length tail ≡ z.place + length v
    pub small : z'.place ≤ limit
    pub same : answer_from (machine_over rows command) (record { past = z; own = own }) v ≡ before (texts plain.text plain.step own es) (answer_from (machine_over rows command) (record { past = z'; own = own_behind plain.step own es }) tail)

  pub laws_of : {W E : Type 0} (command : Command Past Reason DataUnit W E) → IsMachine (machine_over rows command)
  laws_of command = machine_laws limit past_limit (units_by rows) nothing_yet command table.grammar

  one-more : {W E : Type 0} (command : Command Past Reason DataUnit W E) (plain : IsPlain command) (z : Past) (own : W) (v : List ℕ) (unit : DataUnit) (size : ℕ) → front_within limit past_limit (units_by rows) z v ≡ Stands size unit
      → answer_from (machine_over rows command) (record { past = z; own = own }) v ≡ before (plain.text own unit) (answer_from (machine_over rows command) (record { past = after z unit (take size v); own = plain.step own unit }) (drop size v))
  one-more command plain z own v unit size e =
      let bytes = take size v in
      answer_step (machine_over rows command) (laws_of command) (record { past = z; own = own }) v
      ∙ ap (λ s. after_step s (λ size left. answer_from (machine_over rows command) left (drop size v))) (step-stands limit past_limit (units_by rows) table.grammar nothing_yet command z own v size unit e)
      ∙ ap (λ l. before l (answer_from (machine_over rows command) (record { past = after z unit bytes; own = command.next z own unit bytes }) (drop size v))) (plain.is_text z own unit bytes)
      ∙ ap (λ w. before (plain.text own unit) (answer_from (machine_over rows command) (record { past = after z unit bytes; own = w }) (drop size v))) (plain.is_step z own unit bytes)

  pub units-stood : {W E : Type 0} (command : Command Past Reason DataUnit W E) (plain : IsPlain command) (es : List Entry) (z : Past) (own : W) (z' : Past) (v : List ℕ) (c' : Cursor) → z.place ≤ limit → IsBytes v
      → UnitsBy rows z (bytes_at z.place (near z v)) es z' c' → Stood command plain z own v es z' c'
  units-stood command plain [] z own z' v c' le fits f =
      subst (λ (x : Past). Stood command plain z own v [] x c') f.0 (record { tail = v; at = sym f.1; fits = fits; total = refl; small = le; same = refl })
  units-stood {W} command plain (e ∷ es) z own z' v c' le fits f =
      let t = unit-taken z v e.fields e.unit f.0 fits f.1 f.2 in
      let rest : UnitsBy rows t.left (bytes_at t.left.place (near t.left (drop t.size v))) es z' c'
      = subst (λ (c : Cursor). UnitsBy rows t.left c es z' c') t.at (subst (λ (x : Past). UnitsBy rows x f.0 es z' c') (sym t.is_left) f.3) in
      let own' = plain.step own e.unit in
      let more = units-stood command plain es t.left own' z' (drop t.size v) c' (omega (arith, t.place, t.inside, length-take (limit - z.place) v)) (fit_drop t.size v fits) rest in
      record {
        tail = more.tail;
        at = more.at;
        fits = more.fits;
        total = omega (arith, more.total, t.place, t.inside, length-take (limit - z.place) v, length-drop t.size v);
        small = more.small;
        same = one-more command plain z own v e.unit t.size t.front
            ∙ ap (λ (x : Past). let b : Between Past W = record { past = x; own = own' } in before (plain.text own e.unit) (answer_from (machine_over rows command) b (drop t.size v))) t.taken ∙ ap (before (plain.text own e.unit)) more.same
            ∙ before-before (plain.text own e.unit) (texts plain.text plain.step own' es) (answer_from (machine_over rows command) (record { past = z'; own = own_behind plain.step own' es }) more.tail);
      }

  -- what the units so far and the ending behind them make
  joined : {W E : Type 0} (command : Command Past Reason DataUnit W E) (plain : IsPlain command) (z' : Past) (v : List ℕ) (es : List Entry) (c' : Cursor) (front : Front Reason DataUnit) (close : Close E) (s : Stood command plain nothing_yet command.start v es z' c') → front_within limit past_limit (units_by rows) z' s.tail ≡ front
      → (let own = own_behind plain.step command.start es in step_by (units_by rows) command z' own s.tail front ≡ Ends close.ending close.last)
      → answer_to (machine_over rows command) v ≡ ending-of command z' (own_behind plain.step command.start es) close (texts plain.text plain.step command.start es)
  joined {W} command plain z' v es c' front close s here ends =
      let own = own_behind plain.step command.start es in
      let b : Between Past W = record { past = z'; own = own } in
      let last = close.last in
      ap (before command.opening) (s.same
      ∙ ap (before (texts plain.text plain.step command.start es)) (answer_step (machine_over rows command) (laws_of command) b s.tail
      ∙ ap (λ p. after_step p (λ size left. answer_from (machine_over rows command) left (drop size s.tail))) (ap (step_by (units_by rows) command z' own s.tail) here ∙ ends)))
      ∙ ap (λ l. record { ending = close.ending; text = command.opening ++ l; last = last }) (append-nil (texts plain.text plain.step command.start es))

  -- the last unit, which ends the stream, in front of bytes
  pub last-front : (z : Past) (t : List ℕ) (last : Entry) (behind : Cursor) → Stand (rows z) last.fields (bytes_at z.place t) last.unit behind → ends last.unit behind ≡ true → front_of (units_by rows) z t ≡ Finishes (length t) last.unit
  last-front z t last behind f e =
      let g = stands_front rows table z t last.fields last.unit behind f in
      g.front ∙ (rw e (ap (λ n. Finishes n last.unit) (omega (arith, g.inside, ap (λ (l : List ℕ). length l) (g.whole e), length-drop g.size t))))

  -- A stream: its units' texts, and the ending of a stream that is finished, whose last unit is what is left of the bytes.
  pub answer_stream : {W E : Type 0} (command : Command Past Reason DataUnit W E) (plain : IsPlain command) (bytes : List ℕ) (es : List Entry) (last : Entry) → IsBytes bytes → (s : IsStreamBy rows bytes es last)
      → (left : List ℕ) × (s.stream.left.place + length left ≡ length bytes)
      × (let own = own_behind plain.step command.start es in answer_to (machine_over rows command) bytes ≡ ending-of command s.stream.left own (command.finished s.stream.left own last.unit left) (texts plain.text plain.step command.start es))
  answer_stream command plain bytes es last fits s =
      let whole = all-near bytes s.within in
      let f = s.stream in
      let stood = units-stood command plain es nothing_yet command.start f.left bytes f.mid (omega arith) fits (subst (λ l. UnitsBy rows nothing_yet (bytes_at 0 l) es f.left f.mid) (sym whole) f.units) in
      let few : length stood.tail ≤ limit - f.left.place = omega (arith, stood.total, stood.small, s.within) in
      let all : near f.left stood.tail ≡ stood.tail = take_all (limit - f.left.place) stood.tail few in
      let front : front_of (units_by rows) f.left (near f.left stood.tail) ≡ Finishes (length (near f.left stood.tail)) last.unit
      = last-front f.left (near f.left stood.tail) last f.behind (subst (λ (c : Cursor). Stand (rows f.left) last.fields c last.unit f.behind) stood.at f.end) f.last_one in
      let here : front_within limit past_limit (units_by rows) f.left stood.tail ≡ Finishes (length stood.tail) last.unit
      = front_before limit past_limit (units_by rows) f.left stood.tail few ∙ ap (front_of (units_by rows) f.left) (sym all) ∙ front ∙ ap (λ (l : List ℕ). Finishes (length l) last.unit) all in
      let own = own_behind plain.step command.start es in (
        stood.tail,
        omega (arith, stood.total),
        joined command plain f.left bytes es f.mid (Finishes (length stood.tail) last.unit) (command.finished f.left own last.unit stood.tail) stood here
            (ap (λ l. let close = command.finished f.left own last.unit l in Ends close.ending close.last) (take_all (length stood.tail) stood.tail (omega arith))),
      )

  -- A refusal behind units: the texts of these, and the ending of a refusal.
  abbrev pub Refuses-behind : {W E : Type 0} (command : Command Past Reason DataUnit W E) → IsPlain command → List ℕ → List Entry → Fault Reason → Type 0
  Refuses-behind command plain bytes es fault =
      let own = own_behind plain.step command.start es in
      (z : Past) × (answer_to (machine_over rows command) bytes ≡ ending-of command z own (command.refused z own fault) (texts plain.text plain.step command.start es))

  -- within the limit
  answer_within : {W E : Type 0} (command : Command Past Reason DataUnit W E) (plain : IsPlain command) (bytes : List ℕ) (es : List Entry) (fields : List Value) (fault : Fault Reason) → IsBytes bytes → length bytes ≤ limit
      → IsRefusalFromBy rows nothing_yet (cursor_at bytes 0) es fields fault → Refuses-behind command plain bytes es fault
  answer_within command plain bytes es fields fault fits le f =
      let stood = units-stood command plain es nothing_yet command.start f.left bytes f.mid (omega arith) fits (subst (λ l. UnitsBy rows nothing_yet (bytes_at 0 l) es f.left f.mid) (sym (all-near bytes le)) f.units) in
      let few : length stood.tail ≤ limit - f.left.place = omega (arith, stood.total, stood.small, le) in
      let all : near f.left stood.tail ≡ stood.tail = take_all (limit - f.left.place) stood.tail few in
      let front : front_by (units_by rows) past_limit false stood.tail (unit_at (units_by rows) f.left stood.tail) ≡ Refuses fault
      = refused_front rows table f.left stood.tail false fields fault (subst (λ l. IsRefused reason_of (rows f.left) fields (bytes_at f.left.place l) fault) all (subst (λ (c : Cursor). IsRefused reason_of (rows f.left) fields c fault) stood.at f.refused)) in
      let here : front_within limit past_limit (units_by rows) f.left stood.tail ≡ Refuses fault
      = front_near limit past_limit (units_by rows) f.left stood.tail few ∙ front in
      (f.left, joined command plain f.left bytes es f.mid (Refuses fault) (command.refused f.left (own_behind plain.step command.start es) fault) stood here refl)

  -- past it, by what stands in front of what is near
  answer_far : {W E : Type 0} (command : Command Past Reason DataUnit W E) (plain : IsPlain command) (bytes : List ℕ) (es : List Entry) (left : Past) (mid : Cursor) (fault : Fault Reason) → IsBytes bytes → limit < length bytes
      → UnitsBy rows nothing_yet (cursor_at (take limit bytes) 0) es left mid → ((t : List ℕ) → mid ≡ bytes_at left.place t → left.place + length t ≡ limit → front_by (units_by rows) past_limit true t (unit_at (units_by rows) left t) ≡ Refuses fault)
      → Refuses-behind command plain bytes es fault
  answer_far command plain bytes es left mid fault fits lt f g =
      let stood = units-stood command plain es nothing_yet command.start left bytes mid (omega arith) fits f in
      let more : limit - left.place < length stood.tail = omega (arith, stood.total, stood.small, lt) in
      let here : front_within limit past_limit (units_by rows) left stood.tail ≡ Refuses fault
      = front_past limit past_limit (units_by rows) left stood.tail more ∙ g (near left stood.tail) stood.at (omega (arith, more, stood.small, length-take (limit - left.place) stood.tail)) in
      (left, joined command plain left bytes es mid (Refuses fault) (command.refused left (own_behind plain.step command.start es) fault) stood here refl)

  -- one unit more
  stood_more : {W E : Type 0} {command : Command Past Reason DataUnit W E} {plain : IsPlain command} {z : Past} {own : W} {v : List ℕ} {es : List Entry} {z' : Past} {c' : Cursor} (last : Entry) (size : ℕ) (s : Stood command plain z own v es z' c') → front_within limit past_limit (units_by rows) z' s.tail ≡ Stands size last.unit → size ≤ length s.tail → z'.place + size ≤ limit
      → (let left = after z' last.unit (take size s.tail) in Stood command plain z own v (es ++ last ∷ []) left (bytes_at left.place (near left (drop size s.tail))))
  stood_more {W} {command = command} {plain = plain} {z = z} {own = own} {v = v} {es = es} {z' = z'} last size s front inside few =
      let bytes = take size s.tail in
      let left = after z' last.unit bytes in
      let place : left.place ≡ z'.place + size = after-place z' last.unit bytes ∙ omega (arith, length-take size s.tail, inside) in
      let own' = own_behind plain.step own es in
      record {
        tail = drop size s.tail;
        at = refl;
        fits = fit_drop size s.tail s.fits;
        total = omega (arith, s.total, place, inside, length-drop size s.tail);
        small = omega (arith, place, few);
        same = s.same ∙ ap (before (texts plain.text plain.step own es)) (one-more command plain z' own' s.tail last.unit size front)
            ∙ before-before (texts plain.text plain.step own es) (plain.text own' last.unit) (answer_from (machine_over rows command) (record { past = left; own = plain.step own' last.unit }) (drop size s.tail))
            ∙ ap (λ l. before l (answer_from (machine_over rows command) (record { past = left; own = plain.step own' last.unit }) (drop size s.tail))) (sym (texts_more plain.text plain.step own es last))
            ∙ ap (λ (w : W). let b : Between Past W = record { past = left; own = w } in before (texts plain.text plain.step own (es ++ last ∷ [])) (answer_from (machine_over rows command) b (drop size s.tail))) (sym (own_more plain.step own es last));
      }
    where
      texts_more : (text : W → DataUnit → List ℕ) (step : W → DataUnit → W) (own : W) (es : List Entry) (last : Entry) → texts text step own (es ++ last ∷ []) ≡ texts text step own es ++ text (own_behind step own es) last.unit
      texts_more text step own [] last = append-nil (text own last.unit)
      texts_more text step own (e ∷ es) last = ap (λ l. text own e.unit ++ l) (texts_more text step (step own e.unit) es last) ∙ sym (append_assoc (text own e.unit) (texts text step (step own e.unit) es) (text (own_behind step (step own e.unit) es) last.unit))

      own_more : (step : W → DataUnit → W) (own : W) (es : List Entry) (last : Entry) → own_behind step own (es ++ last ∷ []) ≡ step (own_behind step own es) last.unit
      own_more step own [] last = refl
      own_more step own (e ∷ es) last = own_more step (step own e.unit) es last

  -- The bytes before the limit are a stream, and more follow.
  answer_behind : {W E : Type 0} (command : Command Past Reason DataUnit W E) (plain : IsPlain command) (bytes : List ℕ) (others : List Entry) (last : Entry) → IsBytes bytes → limit < length bytes → IsStreamFromBy rows nothing_yet (cursor_at (take limit bytes) 0) others last
      → Refuses-behind command plain bytes (others ++ last ∷ []) behind_limit
  unfolding stood_more
  answer_behind command plain bytes others last fits lt f =
      let stood = units-stood command plain others nothing_yet command.start f.left bytes f.mid (omega arith) fits f.units in
      let t = near f.left stood.tail in
      let more : limit - f.left.place < length stood.tail = omega (arith, stood.total, stood.small, lt) in
      let size : length t ≡ limit - f.left.place = omega (arith, more, length-take (limit - f.left.place) stood.tail) in
      let front : front_within limit past_limit (units_by rows) f.left stood.tail ≡ Stands (length t) last.unit
      = front_past limit past_limit (units_by rows) f.left stood.tail more ∙ last_cut rows table f.left t last.fields last.unit f.behind (subst (λ (c : Cursor). Stand (rows f.left) last.fields c last.unit f.behind) stood.at f.end) f.last_one in
      let all = stood_more last (length t) stood front (omega (arith, size, more)) (omega (arith, size, stood.small)) in
      let left = after f.left last.unit (take (length t) stood.tail) in
      let place : left.place ≡ limit = after-place f.left last.unit (take (length t) stood.tail) ∙ omega (arith, size, more, stood.small, length-take (length t) stood.tail) in
      let here = full_front rows table left (drop (length t) stood.tail) place (omega (arith, size, more, length-drop (length t) stood.tail)) in
      let own = own_behind plain.step command.start (others ++ last ∷ []) in
      (left, joined command plain left bytes (others ++ last ∷ []) (bytes_at left.place (near left (drop (length t) stood.tail))) (Refuses behind_limit) (command.refused left own behind_limit) all here refl)

  answer_fault : {W E : Type 0} (command : Command Past Reason DataUnit W E) (plain : IsPlain command) (bytes : List ℕ) (es : List Entry) (fault : Fault Reason) → IsBytes bytes → IsFaultBy rows bytes es fault → Refuses-behind command plain bytes es fault
  answer_fault command plain bytes es fault fits (WithinLimit le fields f) = answer_within command plain bytes es fields fault fits le f
  answer_fault command plain bytes es fault fits (PastLimit lt fields first f e) =
      answer_far command plain bytes es f.left f.mid fault fits lt f.units
      (λ t at total. refused_front rows table f.left t true fields first (subst (λ (c : Cursor). IsRefused reason_of (rows f.left) fields c first) at f.refused) ∙ ap (λ x. Refuses x) (sym e))
  answer_fault command plain bytes es fault fits (BehindLimit lt others last f is e) =
      subst (λ (x : Fault Reason). Refuses-behind command plain bytes es x) (sym e) (subst (λ (l : List Entry). Refuses-behind command plain bytes l behind_limit) (sym is) (answer_behind command plain bytes others last fits lt f))

  pub answer_refusal : {W E : Type 0} (command : Command Past Reason DataUnit W E) (plain : IsPlain command) (bytes : List ℕ) (refusal : Refusal) → IsBytes bytes → (r : IsRefusalBy rows bytes refusal) → Refuses-behind command plain bytes r.units r.fault
  answer_refusal command plain bytes refusal fits r = answer_fault command plain bytes r.units r.fault fits r.is
