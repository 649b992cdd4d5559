-- A unit that stands is skimmed to the same unit, and one whose slices break no rule stands.
use Rattle.std.proofs.Common.{◌≡◌, ℕ, zero, suc, ◌+◌, ◌-◌, true, List, [], ◌∷◌, ◌++◌, length, Option, Some, None, refl, sym, ap, subst, ◌∙◌, append_assoc, append-nil, arith}
use Rattle.std.specs.List.{AllByRecursion}
use Rattle.bit_codes.specs.Bits.{Cursor, cursor_at}
use Rattle.field_rows.specs.Rows.{Value, Rows, done, row, ◌>>=◌, bytes_under, bytes_in, check_at, word_under, renamed, first_broken}
use Rattle.field_rows.specs.Standing.{Stand}
use Rattle.parse_info.specs.declared.Code.{Code}
use Rattle.parse_info.specs.declared.Code.TheVariants.{SequenceHeader, EndOfSequence, Auxiliary, Padding, LowDelayPicture}
use Rattle.parse_info.specs.declared.ParseInfo.{ParseInfo}
use Rattle.sequence_header.specs.declared.parts.HeaderParts.{HeaderParts}
use Rattle.transform_params.specs.Params.{Params, params_rows}
use Rattle.slice_geometry.specs.Slicing.{slice_count}
use Rattle.stream_rows.specs.declared.reason.Reason.{Reason}
use Rattle.parse_info.specs.declared.TheConstants.{HEAD_SIZE}
use Rattle.sequence_header.specs.Header.{header_rows}
use Rattle.stream_rows.specs.Units.{Past, nothing_yet, First, DataUnit, Sequence, Repeated, Picture, Skipped, End, header_reason, transform_reason, number_rules, next_checked, slice_rules, slice_rows, unit_head, first_payload, repeated_payload, skipped_payload, picture_payload, payload_of, payload_rows, unit_rows, after}
use Rattle.stream_rows.specs.Streams.{bytes_between, ends, Entry, UnitsBy, Units, IsStream}
use Rattle.stream_cut.specs.Skim.{skim_slices, skim_picture, skim_payload_of, skim_payload, skim_rows, IsSkimStream}
use Rattle.stream_cut.specs.SkimLaws.{SlicesHold, UnitHolds, SkimsToTheSame}

-- ---- rows behind others

-- what stands behind rows stands behind them in another way
pub Stand-behind : {R A B : Type 0} (rows : Rows R A) (f g : A → Rows R B) (vs : List Value) (c : Cursor) (b : B) (behind : Cursor) → ((a : A) (ws : List Value) (mid : Cursor) → Stand (f a) ws mid b behind → Stand (g a) ws mid b behind)
    → Stand (rows >>= f) vs c b behind → Stand (rows >>= g) vs c b behind
unfolding ◌>>=◌
Stand-behind (done a) f g vs c b behind h k = h a vs c k
Stand-behind (row s at rules next) f g [] c b behind h k = absurd k
Stand-behind (row s at rules next) f g (v ∷ vs) c b behind h k = (k.0, k.1, k.2, Stand-behind (next v) f g vs k.0 b behind h k.3)

-- what made the rows before them
pub record Behind {R A B : Type 0} (f : A → Rows R B) (b : B) (behind : Cursor) (a : A) : Type 0 where
  pub fields : List Value
  pub mid : Cursor
  pub stand : Stand (f a) fields mid b behind

-- ---- slices

-- slices that stand are skimmed
skims_slices : (parts : HeaderParts) (p : Params) (left : ℕ) (so_far : List (List ℕ)) (next : List (List ℕ) → Rows Reason DataUnit) (vs : List Value) (c : Cursor) (u : DataUnit) (behind : Cursor)
    → Stand (slice_rows parts p left so_far >>= next) vs c u behind → Stand (skim_slices p left so_far >>= next) vs c u behind
unfolding slice_rows skim_slices bytes_under ◌>>=◌
skims_slices parts p zero so_far next vs c u behind k = k
skims_slices parts p (suc left) so_far next [] c u behind k = absurd k
skims_slices parts p (suc left) so_far next (v ∷ vs) c u behind k =
    (k.0, k.1, refl, skims_slices parts p left (so_far ++ bytes_in v ∷ []) next vs k.0 u behind k.3)

-- the slices that a picture was made of: those so far, and more
record Made (so_far : List (List ℕ)) (next : List (List ℕ) → Rows Reason DataUnit) (u : DataUnit) (behind : Cursor) : Type 0 where
  more : List (List ℕ)
  made : Behind next u behind (so_far ++ more)

made_of : (p : Params) (left : ℕ) (so_far : List (List ℕ)) (next : List (List ℕ) → Rows Reason DataUnit) (vs : List Value) (c : Cursor) (u : DataUnit) (behind : Cursor)
    → Stand (skim_slices p left so_far >>= next) vs c u behind → Made so_far next u behind
unfolding skim_slices bytes_under ◌>>=◌
made_of p zero so_far next vs c u behind k =
    record { more = []; made = subst (Behind next u behind) (sym (append-nil so_far)) (record { fields = vs; mid = c; stand = k }) }
made_of p (suc left) so_far next [] c u behind k = absurd k
made_of p (suc left) so_far next (v ∷ vs) c u behind k =
    let m = made_of p left (so_far ++ bytes_in v ∷ []) next vs k.0 u behind k.3 in
    record { more = bytes_in v ∷ m.more; made = subst (Behind next u behind) (append_assoc so_far (bytes_in v ∷ []) m.more) m.made }

-- the rules of the slice behind those so far
holds_at : (parts : HeaderParts) (p : Params) (n : ℕ) (so_far : List (List ℕ)) (slice : List ℕ) (more : List (List ℕ)) → SlicesHold parts p n ((so_far ++ slice ∷ []) ++ more) → first_broken (slice_rules parts p (n + length so_far) slice) ≡ None
holds_at parts p n [] slice more h = ap (λ k. first_broken (slice_rules parts p k slice)) (omega arith) ∙ h.0
holds_at parts p n (s ∷ so_far) slice more h = ap (λ k. first_broken (slice_rules parts p k slice)) (omega arith) ∙ holds_at parts p (n + 1) so_far slice more h.1

-- skimmed slices that break no rule stand
stands_slices : (parts : HeaderParts) (p : Params) (left : ℕ) (so_far : List (List ℕ)) (next : List (List ℕ) → Rows Reason DataUnit) (vs : List Value) (c : Cursor) (u : DataUnit) (behind : Cursor)
    → ((slices : List (List ℕ)) → Behind next u behind slices → SlicesHold parts p 0 slices)
    → Stand (skim_slices p left so_far >>= next) vs c u behind → Stand (slice_rows parts p left so_far >>= next) vs c u behind
unfolding slice_rows skim_slices bytes_under ◌>>=◌
stands_slices parts p zero so_far next vs c u behind h k = k
stands_slices parts p (suc left) so_far next [] c u behind h k = absurd k
stands_slices parts p (suc left) so_far next (v ∷ vs) c u behind h k =
    let m = made_of p left (so_far ++ bytes_in v ∷ []) next vs k.0 u behind k.3 in
    let held = h ((so_far ++ bytes_in v ∷ []) ++ m.more) m.made in
    let one : first_broken (slice_rules parts p (length so_far) (bytes_in v)) ≡ None = ap (λ n. first_broken (slice_rules parts p n (bytes_in v))) (omega arith) ∙ holds_at parts p 0 so_far (bytes_in v) m.more held in
    (k.0, k.1, one, stands_slices parts p left (so_far ++ bytes_in v ∷ []) next vs k.0 u behind h k.3)

-- ---- pictures

abbrev closing : Past → ℕ → HeaderParts → ℕ → Params → List (List ℕ) → Rows Reason DataUnit
closing z next parts number p slices = next_checked z next >>= λ length. done (Picture parts number p slices)

skims_picture : (z : Past) (next : ℕ) (parts : HeaderParts) (vs : List Value) (c : Cursor) (u : DataUnit) (behind : Cursor) → Stand (picture_payload z next parts) vs c u behind → Stand (skim_picture z next parts) vs c u behind
unfolding picture_payload skim_picture
skims_picture z next parts vs c u behind k =
    Stand-behind (word_under (number_rules z)) _ _ vs c u behind
    (λ number ws mid j. Stand-behind (renamed transform_reason params_rows) _ _ ws mid u behind
    (λ p xs at i. skims_slices parts p (slice_count p.slicing) [] (closing z next parts number p) xs at u behind i) j) k

-- the unit that a check of no bits closes
closed : (z : Past) (next : ℕ) (parts : HeaderParts) (number : ℕ) (p : Params) (slices : List (List ℕ)) (u : DataUnit) (behind : Cursor) → Behind (closing z next parts number p) u behind slices → Picture parts number p slices ≡ u
unfolding next_checked check_at ◌>>=◌
closed z next parts number p slices u behind b = by b.fields b.stand
  where
    by : (vs : List Value) → Stand (closing z next parts number p slices) vs b.mid u behind → Picture parts number p slices ≡ u
    by [] k = absurd k
    by (v ∷ []) k = k.3.0
    by (v ∷ w ∷ vs) k = absurd k.3

stands_picture : (z : Past) (next : ℕ) (parts : HeaderParts) (vs : List Value) (c : Cursor) (u : DataUnit) (behind : Cursor) → UnitHolds u → Stand (skim_picture z next parts) vs c u behind → Stand (picture_payload z next parts) vs c u behind
unfolding picture_payload skim_picture
stands_picture z next parts vs c u behind h k =
    Stand-behind (word_under (number_rules z)) _ _ vs c u behind
    (λ number ws mid j. Stand-behind (renamed transform_reason params_rows) _ _ ws mid u behind
    (λ p xs at i. stands_slices parts p (slice_count p.slicing) [] (closing z next parts number p) xs at u behind
    (λ slices b. subst UnitHolds (sym (closed z next parts number p slices u behind b)) h) i) j) k

-- ---- units

skims_payload_of : (z : Past) (first : First) (next : ℕ) (code : Code) (vs : List Value) (c : Cursor) (u : DataUnit) (behind : Cursor) → Stand (payload_of z first next code) vs c u behind → Stand (skim_payload_of z first next code) vs c u behind
unfolding payload_of skim_payload_of
skims_payload_of z first next SequenceHeader vs c u behind k = k
skims_payload_of z first next EndOfSequence vs c u behind k = k
skims_payload_of z first next Auxiliary vs c u behind k = k
skims_payload_of z first next Padding vs c u behind k = k
skims_payload_of z first next LowDelayPicture vs c u behind k = skims_picture z next first.parts vs c u behind k

skims_payload : (z : Past) (first : Option First) (head : ParseInfo) (vs : List Value) (c : Cursor) (u : DataUnit) (behind : Cursor) → Stand (payload_rows z first head) vs c u behind → Stand (skim_payload z first head) vs c u behind
unfolding payload_rows skim_payload
skims_payload z None head vs c u behind k = k
skims_payload z (Some first) head vs c u behind k = skims_payload_of z first head.next head.code vs c u behind k

pub skims_unit : (z : Past) (vs : List Value) (c : Cursor) (u : DataUnit) (behind : Cursor) → Stand (unit_rows z) vs c u behind → Stand (skim_rows z) vs c u behind
unfolding unit_rows skim_rows
skims_unit z vs c u behind k = Stand-behind (unit_head z) (payload_rows z z.first) (skim_payload z z.first) vs c u behind (λ head ws mid j. skims_payload z z.first head ws mid u behind j) k

stands_payload_of : (z : Past) (first : First) (next : ℕ) (code : Code) (vs : List Value) (c : Cursor) (u : DataUnit) (behind : Cursor) → UnitHolds u → Stand (skim_payload_of z first next code) vs c u behind → Stand (payload_of z first next code) vs c u behind
unfolding payload_of skim_payload_of
stands_payload_of z first next SequenceHeader vs c u behind h k = k
stands_payload_of z first next EndOfSequence vs c u behind h k = k
stands_payload_of z first next Auxiliary vs c u behind h k = k
stands_payload_of z first next Padding vs c u behind h k = k
stands_payload_of z first next LowDelayPicture vs c u behind h k = stands_picture z next first.parts vs c u behind h k

stands_payload : (z : Past) (first : Option First) (head : ParseInfo) (vs : List Value) (c : Cursor) (u : DataUnit) (behind : Cursor) → UnitHolds u → Stand (skim_payload z first head) vs c u behind → Stand (payload_rows z first head) vs c u behind
unfolding payload_rows skim_payload
stands_payload z None head vs c u behind h k = k
stands_payload z (Some first) head vs c u behind h k = stands_payload_of z first head.next head.code vs c u behind h k

pub stands_unit : (z : Past) (vs : List Value) (c : Cursor) (u : DataUnit) (behind : Cursor) → UnitHolds u → Stand (skim_rows z) vs c u behind → Stand (unit_rows z) vs c u behind
unfolding unit_rows skim_rows
stands_unit z vs c u behind h k = Stand-behind (unit_head z) (skim_payload z z.first) (payload_rows z z.first) vs c u behind (λ head ws mid j. stands_payload z z.first head ws mid u behind h j) k

-- ---- streams

skims_units : (es : List Entry) (z z' : Past) (c c' : Cursor) → Units z c es z' c' → UnitsBy skim_rows z c es z' c'
skims_units [] z z' c c' f = f
skims_units (e ∷ es) z z' c c' f = (f.0, skims_unit z e.fields c e.unit f.0 f.1, f.2, skims_units es (after z e.unit (bytes_between c f.0)) z' f.0 c' f.3)

stands_units : (es : List Entry) (z z' : Past) (c c' : Cursor) → AllByRecursion (λ (e : Entry). UnitHolds e.unit) es → UnitsBy skim_rows z c es z' c' → Units z c es z' c'
stands_units [] z z' c c' h f = f
stands_units (e ∷ es) z z' c c' h f = (f.0, stands_unit z e.fields c e.unit f.0 h.0 f.1, f.2, stands_units es (after z e.unit (bytes_between c f.0)) z' f.0 c' h.1 f.3)

-- an end has no slices
end_holds : (u : DataUnit) (c : Cursor) → ends u c ≡ true → UnitHolds u
end_holds (Sequence parts) c e = absurd cc
end_holds Repeated c e = absurd cc
end_holds (Picture parts number p slices) c e = absurd cc
end_holds Skipped c e = absurd cc
end_holds End c e = tt

-- the slices of a stream's units break no rule
slices_held : (parts : HeaderParts) (p : Params) (left : ℕ) (so_far : List (List ℕ)) (next : List (List ℕ) → Rows Reason DataUnit) (vs : List Value) (c : Cursor) (u : DataUnit) (behind : Cursor) → SlicesHold parts p 0 so_far
    → Stand (slice_rows parts p left so_far >>= next) vs c u behind → (slices : List (List ℕ)) × SlicesHold parts p 0 slices × Behind next u behind slices
unfolding slice_rows bytes_under ◌>>=◌
slices_held parts p zero so_far next vs c u behind h k = (so_far, h, record { fields = vs; mid = c; stand = k })
slices_held parts p (suc left) so_far next [] c u behind h k = absurd k
slices_held parts p (suc left) so_far next (v ∷ vs) c u behind h k =
    slices_held parts p left (so_far ++ bytes_in v ∷ []) next vs k.0 u behind (longer 0 so_far (subst (λ n. first_broken (slice_rules parts p n (bytes_in v)) ≡ None) (omega arith) k.2) h) k.3
  where
    longer : (n : ℕ) (l : List (List ℕ)) → first_broken (slice_rules parts p (n + length l) (bytes_in v)) ≡ None → SlicesHold parts p n l → SlicesHold parts p n (l ++ bytes_in v ∷ [])
    longer n [] e h = (ap (λ m. first_broken (slice_rules parts p m (bytes_in v))) (omega arith) ∙ e, tt)
    longer n (s ∷ l) e h = (h.0, longer (n + 1) l (ap (λ m. first_broken (slice_rules parts p m (bytes_in v))) (omega arith) ∙ e) h.1)

-- any value of rows that stand before others
stood_before : {R A B : Type 0} (rows : Rows R A) (f : A → Rows R B) (vs : List Value) (c : Cursor) (b : B) (behind : Cursor) → Stand (rows >>= f) vs c b behind → (a : A) × Behind f b behind a
unfolding ◌>>=◌
stood_before (done a) f vs c b behind k = (a, record { fields = vs; mid = c; stand = k })
stood_before (row s at rules next) f [] c b behind k = absurd k
stood_before (row s at rules next) f (v ∷ vs) c b behind k = stood_before (next v) f vs k.0 b behind k.3

picture_holds : (z : Past) (next : ℕ) (parts : HeaderParts) (vs : List Value) (c : Cursor) (u : DataUnit) (behind : Cursor) → Stand (picture_payload z next parts) vs c u behind → UnitHolds u
unfolding picture_payload
picture_holds z next parts vs c u behind k =
    let n = stood_before (word_under (number_rules z)) _ vs c u behind k in
    let p = stood_before (renamed transform_reason params_rows) _ n.1.fields n.1.mid u behind n.1.stand in
    let s = slices_held parts p.0 (slice_count p.0.slicing) [] (closing z next parts n.0 p.0) p.1.fields p.1.mid u behind tt p.1.stand in
    subst UnitHolds (closed z next parts n.0 p.0 s.0 u behind s.2) s.1

-- ---- other units have no slices

closes : (z : Past) (next : ℕ) (unit u : DataUnit) (vs : List Value) (c behind : Cursor) → Stand (next_checked z next >>= λ length. done unit) vs c u behind → unit ≡ u
unfolding next_checked check_at ◌>>=◌
closes z next unit u [] c behind k = absurd k
closes z next unit u (v ∷ []) c behind k = k.3.0
closes z next unit u (v ∷ w ∷ vs) c behind k = absurd k.3

made_last : (unit u : DataUnit) (vs : List Value) (c behind : Cursor) → Stand {R = Reason} (done unit) vs c u behind → unit ≡ u
made_last unit u [] c behind k = k.0
made_last unit u (v ∷ vs) c behind k = absurd k

payload_of_holds : (z : Past) (first : First) (next : ℕ) (code : Code) (vs : List Value) (c : Cursor) (u : DataUnit) (behind : Cursor) → Stand (payload_of z first next code) vs c u behind → UnitHolds u
unfolding payload_of repeated_payload skipped_payload
payload_of_holds z first next SequenceHeader vs c u behind k =
    let b = stood_before (bytes_under (length first.payload) _) _ vs c u behind k in
    subst UnitHolds (closes z next Repeated u b.1.fields b.1.mid behind b.1.stand) tt
payload_of_holds z first next EndOfSequence vs c u behind k = subst UnitHolds (made_last End u vs c behind k) tt
payload_of_holds z first next Auxiliary vs c u behind k =
    let b = stood_before (bytes_under (next - HEAD_SIZE) _) _ vs c u behind k in
    subst UnitHolds (made_last Skipped u b.1.fields b.1.mid behind b.1.stand) tt
payload_of_holds z first next Padding vs c u behind k =
    let b = stood_before (bytes_under (next - HEAD_SIZE) _) _ vs c u behind k in
    subst UnitHolds (made_last Skipped u b.1.fields b.1.mid behind b.1.stand) tt
payload_of_holds z first next LowDelayPicture vs c u behind k = picture_holds z next first.parts vs c u behind k

payload_holds : (z : Past) (first : Option First) (head : ParseInfo) (vs : List Value) (c : Cursor) (u : DataUnit) (behind : Cursor) → Stand (payload_rows z first head) vs c u behind → UnitHolds u
unfolding payload_rows first_payload
payload_holds z None head vs c u behind k =
    let b = stood_before (renamed header_reason header_rows) _ vs c u behind k in
    subst UnitHolds (closes z head.next (Sequence b.0) u b.1.fields b.1.mid behind b.1.stand) tt
payload_holds z (Some first) head vs c u behind k = payload_of_holds z first head.next head.code vs c u behind k

pub unit_holds : (z : Past) (vs : List Value) (c : Cursor) (u : DataUnit) (behind : Cursor) → Stand (unit_rows z) vs c u behind → UnitHolds u
unfolding unit_rows
unit_holds z vs c u behind k =
    let b = stood_before (unit_head z) (payload_rows z z.first) vs c u behind k in
    payload_holds z z.first b.0 b.1.fields b.1.mid u behind b.1.stand

all_hold : (es : List Entry) (z z' : Past) (c c' : Cursor) → Units z c es z' c' → AllByRecursion (λ (e : Entry). UnitHolds e.unit) es
all_hold [] z z' c c' f = tt
all_hold (e ∷ es) z z' c c' f = (unit_holds z e.fields c e.unit f.0 f.1, all_hold es (after z e.unit (bytes_between c f.0)) z' f.0 c' f.3)

-- the law
pub skims : (bytes : List ℕ) → SkimsToTheSame bytes
skims bytes es last = (to, from)
  where
    to : IsStream bytes es last → IsSkimStream bytes es last × AllByRecursion (λ (e : Entry). UnitHolds e.unit) es
    to s =
        let f = s.stream in (
          record {
            within = s.within;
            stream = record {
              left = f.left;
              mid = f.mid;
              behind = f.behind;
              units = skims_units es nothing_yet f.left (cursor_at bytes 0) f.mid f.units;
              end = skims_unit f.left last.fields f.mid last.unit f.behind f.end;
              last_one = f.last_one;
            };
          },
          all_hold es nothing_yet f.left (cursor_at bytes 0) f.mid f.units,
        )

    from : IsSkimStream bytes es last × AllByRecursion (λ (e : Entry). UnitHolds e.unit) es → IsStream bytes es last
    from (s, h) =
        let f = s.stream in
        record {
          within = s.within;
          stream = record {
            left = f.left;
            mid = f.mid;
            behind = f.behind;
            units = stands_units es nothing_yet f.left (cursor_at bytes 0) f.mid h f.units;
            end = stands_unit f.left last.fields f.mid last.unit f.behind (end_holds last.unit f.behind f.last_one) f.end;
            last_one = f.last_one;
          };
        }
