-- What fields that stand in bytes say of the bytes.
use Rattle.std.proofs.Common.{◌≡◌, ℕ, ◌+◌, ◌*◌, ◌≤◌, Bool, true, false, cond, ltb, List, [], ◌∷◌, length, take, drop, Option, Some, None, Result, Ok, Err, refl, sym, ap, ◌∙◌, arith}
use Rattle.std.proofs.lemmas.Bool.{ltb-false}
use Rattle.bit_codes.specs.declared.CodeFault.{CodeFault}
use Rattle.bit_codes.specs.declared.CodeFault.TheVariants as codes
use Rattle.bit_codes.specs.Bits.{Cursor, bits_of, bytes_of}
use Rattle.bit_codes.proofs.BitLemmas.{length-bits}
use Rattle.bit_codes.proofs.ByteLemmas.{bytes_of-bits_of}
use Rattle.field_rows.specs.Rows.{Value, Bytes, Rule, Rows, done, row, ◌>>=◌, some_bytes, here, spelled, first_broken}
use Rattle.field_rows.specs.Standing.{StandsAt, Stand}
use Rattle.field_rows.proofs.Spellings.{field_is}
use Rattle.field_rows.proofs.Words.{split-bits}
use Rattle.run_theory.specs.Grammar.{bytes_at}
pub use Rattle.stream_rows.proofs.Answering.{IsBytes, fit_take, fit_drop}

-- so many bytes at a place
pub record Field (n at : ℕ) (bs : List ℕ) (v : Value) (mid : Cursor) : Type 0 where
  pub inside : n ≤ length bs
  pub value : v ≡ Bytes (take n bs)
  pub behind : mid ≡ bytes_at (at + n) (drop n bs)

value_of : Result (Value × Cursor) CodeFault → Value → Value
value_of (Ok x) v = x.0
value_of (Err e) v = v

mid_of : Result (Value × Cursor) CodeFault → Cursor → Cursor
mid_of (Ok x) c = x.1
mid_of (Err e) c = c

pub byte_field : (n at : ℕ) (bs : List ℕ) (v : Value) (mid : Cursor) → IsBytes bs → StandsAt (some_bytes n) v (bytes_at at bs) mid → Field n at bs v mid
unfolding spelled value_of mid_of
byte_field n at bs v mid fits f = by (ltb (length (bits_of bs)) (8 * n)) refl (field_is (some_bytes n) v (bytes_at at bs) mid f)
  where
    by : (short : Bool) → ltb (length (bits_of bs)) (8 * n) ≡ short
        → cond {A = Result (Value × Cursor) CodeFault} short (Err codes.Short) (Ok (Bytes (bytes_of (take (8 * n) (bits_of bs))), record { place = 8 * at + 8 * n; rest = drop (8 * n) (bits_of bs) })) ≡ Ok (v, mid) → Field n at bs v mid
    by true e h = absurd cc
    by false e h =
        let le : n ≤ length bs = omega (arith, ltb-false (length (bits_of bs)) (8 * n) e, length-bits bs) in
        let q = split-bits n bs le in
        let c : ℕ → List Bool → Cursor = λ p r. record { place = p; rest = r } in
        record {
          inside = le;
          value = sym (ap (λ r. value_of r v) h) ∙ ap (λ l. Bytes (bytes_of l)) q.0 ∙ ap Bytes (bytes_of-bits_of (take n bs) (fit_take n bs fits));
          behind = sym (ap (λ r. mid_of r mid) h) ∙ ap (c (8 * at + 8 * n)) q.1 ∙ ap (λ p. c p (bits_of (drop n bs))) (omega arith);
        }

-- a field of no bits
pub no_bits : (v : Value) (c mid : Cursor) → StandsAt here v c mid → c ≡ mid
unfolding spelled mid_of
no_bits v c mid f = ap (λ r. mid_of r c) (field_is here v c mid f)

-- ---- rows behind others

-- what stands behind rows stands behind them in another way
pub Stand-behind : {R A B : Type 0} (rows : Rows R A) (f g : A → Rows R B) (vs : List Value) (c : Cursor) (b : B) (behind : Cursor) → ((a : A) (ws : List Value) (mid : Cursor) → Stand (f a) ws mid b behind → Stand (g a) ws mid b behind)
    → Stand (rows >>= f) vs c b behind → Stand (rows >>= g) vs c b behind
unfolding ◌>>=◌
Stand-behind (done a) f g vs c b behind h k = h a vs c k
Stand-behind (row s at rules next) f g [] c b behind h k = absurd k
Stand-behind (row s at rules next) f g (v ∷ vs) c b behind h k = (k.0, k.1, k.2, Stand-behind (next v) f g vs k.0 b behind h k.3)

-- rows that stand, and others that stand behind them
pub record Split {R A B : Type 0} (rows : Rows R A) (f : A → Rows R B) (c : Cursor) (b : B) (behind : Cursor) : Type 0 where
  pub a : A
  pub fields : List Value
  pub mid : Cursor
  pub stand : Stand rows fields c a mid
  pub more : List Value
  pub others : Stand (f a) more mid b behind

pub split : {R A B : Type 0} (rows : Rows R A) (f : A → Rows R B) (vs : List Value) (c : Cursor) (b : B) (behind : Cursor) → Stand (rows >>= f) vs c b behind → Split rows f c b behind
unfolding ◌>>=◌
split (done a) f vs c b behind k = record { a = a; fields = []; mid = c; stand = (refl, refl); more = vs; others = k }
split (row s at rules next) f [] c b behind k = absurd k
split (row s at rules next) f (v ∷ vs) c b behind k =
    let x = split (next v) f vs k.0 b behind k.3 in
    record { a = x.a; fields = v ∷ x.fields; mid = x.mid; stand = (k.0, k.1, k.2, x.stand); more = x.more; others = x.others }

-- rules behind one that holds
pub others_hold : {R : Type 0} (rule : Rule R) (rules : List (Rule R)) → first_broken (rule ∷ rules) ≡ None → first_broken rules ≡ None
others_hold {R = R} rule rules e = by rule.holds e
  where
    by : (b : Bool) → cond {A = Option R} b (first_broken rules) (Some rule.reason) ≡ None → first_broken rules ≡ None
    by true e = e
    by false e = absurd cc
