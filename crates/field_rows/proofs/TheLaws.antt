-- The laws, put together.
use Rattle.std.proofs.Common.{◌≡◌, ℕ, Bool, List, Result, Ok, Err, inl, inr, refl, ap}
use Rattle.bit_codes.specs.declared.CodeFault.{CodeFault}
use Rattle.bit_codes.specs.Bits.{Cursor}
use Rattle.field_rows.specs.Rows.{Value, Rows, Fault, read}
use Rattle.field_rows.specs.Pieces.{EndsWithAByte}
use Rattle.field_rows.specs.Moved.{IsMovable}
use Rattle.field_rows.specs.RowLaws.{ReadsWhatStands, HasOneRowAnswer, IgnoresMore, ReadsTheSameMoved, ReadsTheSameRenamed, IsReadAgain, HasFaultWithin}
use Rattle.field_rows.proofs.Answers.{Stand-read, IsRefused-read, found_fields, found_refusal, Stand-one}
use Rattle.field_rows.proofs.Pieces.{read-more, read-more_refused}
use Rattle.field_rows.proofs.Moves.{read-moved, read-renamed}
use Rattle.field_rows.proofs.Written.{read-written}
use Rattle.field_rows.proofs.Within.{read-within_bits}

pub reads_what_stands : {R A : Type 0} (reason_of : CodeFault → R) (rows : Rows R A) (c : Cursor) → ReadsWhatStands reason_of rows c
reads_what_stands reason_of rows c = record {
  value = λ a behind. (λ e. found_fields reason_of rows c a behind e, λ f. Stand-read reason_of rows f.0 c a behind f.1);
  fault = λ f. (λ e. found_refusal reason_of rows c f e, λ g. IsRefused-read reason_of rows g.0 c f g.1);
}

-- two answers of one reading
same_value : {A E : Type 0} (a b : A) (c d : Cursor) (r : Result (A × Cursor) E) → r ≡ Ok (a, c) → r ≡ Ok (b, d) → (a ≡ b) × (c ≡ d)
same_value {A = A} a b c d r e f = let both : (a, c) ≡ (b, d) = cc in (ap (λ (x : A × Cursor). x.0) both, ap (λ (x : A × Cursor). x.1) both)

same_fault : {A E : Type 0} (f g : E) (r : Result A E) → r ≡ Err f → r ≡ Err g → f ≡ g
same_fault f g r e h = cc

not_both : {A E : Type 0} (a : A) (f : E) (r : Result A E) → r ≡ Ok a → r ≡ Err f → ⊥
not_both a f r e h = cc

pub one_answer : {R A : Type 0} (reason_of : CodeFault → R) (rows : Rows R A) (c : Cursor) → HasOneRowAnswer reason_of rows c
one_answer {R = R} {A = A} reason_of rows c = go (read reason_of rows c) refl
  where
    go : (r : Result (A × Cursor) (Fault R)) → read reason_of rows c ≡ r → HasOneRowAnswer reason_of rows c
    go (Ok x) e =
        let found = found_fields reason_of rows c x.0 x.1 e in
        inl (
          found.0,
          x.0,
          x.1,
          found.1,
          λ vs a behind f. let s = same_value x.0 a x.1 behind (read reason_of rows c) e (Stand-read reason_of rows vs c a behind f) in (Stand-one rows found.0 vs c x.0 a x.1 behind found.1 f, s.0, s.1),
          λ vs f g. not_both x f (read reason_of rows c) e (IsRefused-read reason_of rows vs c f g),
        )
    go (Err fault) e =
        let found = found_refusal reason_of rows c fault e in
        inr (
          found.0,
          fault,
          found.1,
          λ vs f g. same_fault fault f (read reason_of rows c) e (IsRefused-read reason_of rows vs c f g),
          λ vs a behind f. not_both (a, behind) fault (read reason_of rows c) (Stand-read reason_of rows vs c a behind f) e,
        )

pub ignores_more : {R A : Type 0} (reason_of : CodeFault → R) (rows : Rows R A) (c : Cursor) (bits : List Bool) → EndsWithAByte c → IgnoresMore reason_of rows c bits
ignores_more reason_of rows c bits whole = record {
  value = λ a behind e. read-more reason_of rows c a behind bits whole e;
  fault = λ f other e. read-more_refused reason_of rows c f bits whole other e;
}

pub moved_the_same : {R A : Type 0} (reason_of : CodeFault → R) (rows : Rows R A) (bytes : ℕ) (c : Cursor) → IsMovable rows → ReadsTheSameMoved reason_of rows bytes c
moved_the_same reason_of rows bytes c movable = read-moved reason_of rows bytes c movable.movable

pub renamed_the_same : {R S A : Type 0} (name : R → S) (reason_of : CodeFault → R) (others : CodeFault → S) (rows : Rows R A) (c : Cursor) → ((e : CodeFault) → others e ≡ name (reason_of e)) → ReadsTheSameRenamed name reason_of others rows c
renamed_the_same name reason_of others rows c same = read-renamed name reason_of others same rows c

pub read_again : {R A : Type 0} (reason_of : CodeFault → R) (rows : Rows R A) (vs : List Value) (a : A) (place : ℕ) (rest : List Bool) → IsReadAgain reason_of rows vs a place rest
read_again reason_of rows vs a place rest kinds passed = read-written reason_of rows vs place rest a kinds passed

pub fault_within : {R A : Type 0} (reason_of : CodeFault → R) (rows : Rows R A) (c : Cursor) → IsMovable rows → HasFaultWithin reason_of rows c
fault_within reason_of rows c movable f e = read-within_bits reason_of rows c f movable.movable e
