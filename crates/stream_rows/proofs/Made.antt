-- Of whatever rows make something is so, and so of the units of streams and of those before a fault.
use Rattle.std.proofs.Common.{◌≡◌, ℕ, ◌-◌, subst, sym, Bool, true, false, Option, Some, None, List, [], ◌∷◌, ◌++◌, length, take, map, Result, Ok, Err, ap, refl, if◌then◌else◌, ◌⊎◌, inl, inr}
use Rattle.std.specs.Prelude.{unwrap_or, nat_lt}
use Rattle.bit_codes.specs.declared.CodeFault.{CodeFault}
use Rattle.bit_codes.specs.Bits.{Cursor}
use Rattle.field_rows.specs.Rows.{Value, Fault, ◌or_else◌, Rule, first_broken, Rows, done, row, ◌>>=◌, renamed, field_at, and_then, reading_unless, read}
use Rattle.field_rows.specs.Standing.{Stand}
use Rattle.run_theory.specs.Grammar.{Behind, Inner, Final, unit_at}
use Rattle.run_theory.specs.Fronts.{Stands, front_behind, front_by, front_within}
use Rattle.stream_rows.specs.declared.reason.Reason.{Reason}
use Rattle.stream_rows.specs.Refusals.{Refusal}
use Rattle.stream_rows.specs.Units.{Past, DataUnit, Sequence, Repeated, Picture, Skipped, End, nothing_yet, after, unit_behind, unit_rows, units}
use Rattle.stream_rows.specs.Streams.{Entry, Units, bytes_between, limit, past_limit, IsStream, IsFault, WithinLimit, PastLimit, BehindLimit, IsRefusal}

-- of whatever the rows make this is so
abbrev pub AllMade : {R A : Type 0} → (A → Type 0) → Rows R A → Type 0
AllMade P (done a) = P a
AllMade P (row s at rules next) = (v : Value) → first_broken (rules v) ≡ None → AllMade P (next v)

pub record Make {R A : Type 0} (P : A → Type 0) (rows : Rows R A) : Type 0 where
  pub all : AllMade P rows

-- rows, and then others of which it is so where it is so of what these make
all_bind : {R A B : Type 0} (P : A → Type 0) (Q : B → Type 0) (rows : Rows R A) (next : A → Rows R B) → AllMade P rows → ((a : A) → P a → Make Q (next a)) → AllMade Q (rows >>= next)
unfolding ◌>>=◌
all_bind P Q (done a) next m f = (f a m).all
all_bind P Q (row s at rules others) next m f = λ v kept. all_bind P Q (others v) next (m v kept) f

pub bind : {R A B : Type 0} (P : A → Type 0) (Q : B → Type 0) {rows : Rows R A} {next : A → Rows R B} → Make P rows → ((a : A) → P a → Make Q (next a)) → Make Q (rows >>= next)
bind P Q {rows} {next} m f = record { all = all_bind P Q rows next m.all f }

-- and where it is so of the others, whatever these make
all_skip : {R A B : Type 0} (Q : B → Type 0) (rows : Rows R A) (next : A → Rows R B) → ((a : A) → Make Q (next a)) → AllMade Q (rows >>= next)
unfolding ◌>>=◌
all_skip Q (done a) next f = (f a).all
all_skip Q (row s at rules others) next f = λ v kept. all_skip Q (others v) next f

pub skip : {R A B : Type 0} (Q : B → Type 0) (rows : Rows R A) {next : A → Rows R B} → ((a : A) → Make Q (next a)) → Make Q (rows >>= next)
skip Q rows {next} f = record { all = all_skip Q rows next f }

-- rules under other names are kept where they were
held : {R : Type 0} (holds : Bool) (reason : R) (rules : List (Rule R)) {S : Type 0} (other : S) (others : List (Rule S)) → (if holds then first_broken others else Some other) ≡ None
    → (first_broken others ≡ None → first_broken rules ≡ None) → (if holds then first_broken rules else Some reason) ≡ None
held true reason rules other others kept f = f kept
held false reason rules other others kept f = absurd (let broken : Some other ≡ None = kept in cc)

name_kept : {R S : Type 0} (name : R → S) (rules : List (Rule R)) → first_broken (map (λ rule. rule.holds or_else name rule.reason) rules) ≡ None → first_broken rules ≡ None
name_kept name [] kept = refl
name_kept name (rule ∷ rules) kept = held rule.holds rule.reason rules (name rule.reason) (map (λ rule. rule.holds or_else name rule.reason) rules) kept (name_kept name rules)

pub all_named : {R S A : Type 0} (P : A → Type 0) (name : R → S) (rows : Rows R A) → AllMade P rows → AllMade P (renamed name rows)
unfolding renamed
all_named P name (done a) m = m
all_named P name (row s at rules next) m = λ v kept. all_named P name (next v) (m v (name_kept name (rules v) kept))

-- what stands is made by the rows
pub stood : {R A : Type 0} (P : A → Type 0) (rows : Rows R A) (vs : List Value) (c : Cursor) (a : A) (behind : Cursor) → AllMade P rows → Stand rows vs c a behind → P a
stood P (done made) [] c a behind m s = subst P s.0 m
stood P (done made) (v ∷ vs) c a behind m s = absurd s
stood P (row spelling at rules next) [] c a behind m s = absurd s
stood P (row spelling at rules next) (v ∷ vs) c a behind m s = stood P (next v) vs s.0 a behind (m v s.2) s.3

-- and so is what is read
ok_same : {A E : Type 0} (a b : A) → (let r : Result A E = Ok a in r) ≡ Ok b → a ≡ b
ok_same a b e = cc

pub read_made : {R A : Type 0} (P : A → Type 0) (reason_of : CodeFault → R) (rows : Rows R A) (c : Cursor) (x : A × Cursor) → AllMade P rows → read reason_of rows c ≡ Ok x → P x.0
unfolding read
read_made P reason_of (done a) c x all e = subst P (ap (λ y. y.0) (ok_same (a, c) x e)) all
read_made {R} {A} P reason_of (row s at rules next) c x all e = by_field (λ v d kept f. read_made P reason_of (next v) d x (all v kept) f) (field_at reason_of s c) e
  where
    by_rules : ((v : Value) (d : Cursor) → first_broken (rules v) ≡ None → read reason_of (next v) d ≡ Ok x → P x.0) → (v : Value) (d : Cursor) (place : ℕ) (broken : Option R) → first_broken (rules v) ≡ broken
        → reading_unless place broken (read reason_of (next v) d) ≡ Ok x → P x.0
    by_rules go v d place (Some reason) is e = absurd cc
    by_rules go v d place None is e = go v d is e

    by_field : ((v : Value) (d : Cursor) → first_broken (rules v) ≡ None → read reason_of (next v) d ≡ Ok x → P x.0) → (field : Result (Value × Cursor) (Fault R))
        → and_then field (λ y. reading_unless (unwrap_or at c.place) (first_broken (rules y.0)) (read reason_of (next y.0) y.1)) ≡ Ok x → P x.0
    by_field go (Err fault) e = absurd cc
    by_field go (Ok y) e = by_rules go y.0 y.1 (unwrap_or at c.place) (first_broken (rules y.0)) refl e

-- ---- units

-- of each unit, behind what those before it leave
abbrev pub AreSuch : (Past → DataUnit → Type 0) → Past → List Entry → Type 0
AreSuch P z [] = Unit {0}
AreSuch P z (e ∷ es) = (bytes : List ℕ) × P z e.unit × AreSuch P (after z e.unit bytes) es

stands_same : {R U : Type 0} (b : Behind) (empty : Bool) (size size' : ℕ) (made unit : U) → front_behind {R = R} b empty size made ≡ Stands size' unit → made ≡ unit
stands_same Inner empty size size' made unit e = cc
stands_same Final true size size' made unit e = absurd cc
stands_same Final false size size' made unit e = cc

module _ (P : Past → DataUnit → Type 0) (made : (z : Past) → Make (P z) (unit_rows z)) where
  -- the unit that stands in front of bytes
  front_such : (z : Past) (bytes : List ℕ) (size : ℕ) (unit : DataUnit) → front_within limit past_limit units z bytes ≡ Stands size unit → P z unit
  front_such z bytes size unit e = by (unit_at units z there) refl e
    where
      there : List ℕ
      there = take (limit - z.place) bytes

      by : (read : Result (DataUnit × Cursor) (Fault Reason)) → unit_at units z there ≡ read → front_by units past_limit (nat_lt (limit - z.place) (length bytes)) there read ≡ Stands size unit → P z unit
      by (Err fault) is e = absurd cc
      by (Ok x) is e =
          let same = stands_same _ _ _ size x.0 unit e in
          subst (P z) same (read_made (P z) (units).reason_of (unit_rows z) _ x (made z).all is)

  -- a unit that is the last one, or stands in front of its bytes and of others
  pub passed_such : (z : Past) (bytes : List ℕ) (unit : DataUnit) → P z End → (unit_behind unit ≡ Final) ⊎ ((still : List ℕ) × (front_within limit past_limit units z (bytes ++ still) ≡ Stands (length bytes) unit)) → P z unit
  passed_such z bytes unit last (inr stands) = front_such z (bytes ++ stands.0) (length bytes) unit stands.1
  passed_such z bytes End last (inl final) = last
  passed_such z bytes (Sequence parts) last (inl final) = absurd cc
  passed_such z bytes Repeated last (inl final) = absurd cc
  passed_such z bytes (Picture parts number params slices) last (inl final) = absurd cc
  passed_such z bytes Skipped last (inl final) = absurd cc

  stood_such : (z : Past) (vs : List Value) (c : Cursor) (unit : DataUnit) (mid : Cursor) → Stand (unit_rows z) vs c unit mid → P z unit
  stood_such z vs c unit mid s = stood (P z) (unit_rows z) vs c unit mid (made z).all s

  -- units one after another
  units_such : (es : List Entry) (z : Past) (c : Cursor) (z' : Past) (c' : Cursor) → Units z c es z' c' → AreSuch P z es
  units_such [] z c z' c' f = tt
  units_such (e ∷ es) z c z' c' f = (bytes_between c f.0, stood_such z e.fields c e.unit f.0 f.1, units_such es (after z e.unit (bytes_between c f.0)) f.0 z' c' f.3)

  one_more : (es : List Entry) (last : Entry) (z : Past) (c : Cursor) (z' : Past) (c' : Cursor) → Units z c es z' c' → P z' last.unit → AreSuch P z (es ++ last ∷ [])
  one_more [] last z c z' c' f u = ([], subst (λ (x : Past). P x last.unit) (sym f.0) u, tt)
  one_more (e ∷ es) last z c z' c' f u = (bytes_between c f.0, stood_such z e.fields c e.unit f.0 f.1, one_more es last (after z e.unit (bytes_between c f.0)) f.0 z' c' f.3 u)

  -- those of a stream, and those before a fault
  pub stream_such : (bytes : List ℕ) (es : List Entry) (last : Entry) → IsStream bytes es last → AreSuch P nothing_yet es
  stream_such bytes es last s = units_such es _ _ _ _ s.stream.units

  fault_such : (bytes : List ℕ) (es : List Entry) (fault : Fault Reason) → IsFault bytes es fault → AreSuch P nothing_yet es
  fault_such bytes es fault (WithinLimit le fields r) = units_such es _ _ _ _ r.units
  fault_such bytes es fault (PastLimit lt fields before r is) = units_such es _ _ _ _ r.units
  fault_such bytes es fault (BehindLimit lt others last s es_is is) =
      subst (AreSuch P nothing_yet) (sym es_is) (one_more others last _ _ _ _ s.units (stood_such s.left last.fields s.mid last.unit s.behind s.end))

  pub refusal_such : (bytes : List ℕ) (refusal : Refusal) (r : IsRefusal bytes refusal) → AreSuch P nothing_yet r.units
  refusal_such bytes refusal r = fault_such bytes r.units r.fault r.is
