-- Steps of a reader: a field whose value is known, and rows behind their flag.
use Rattle.std.proofs.Common.{◌≡◌, true, false, Some, None, Result, Ok, Err, subst, refl, ◌∙◌}
use Rattle.bit_codes.specs.declared.CodeFault.{CodeFault}
use Rattle.bit_codes.specs.Bits.{Cursor}
use Rattle.field_rows.specs.Rows.{Rows, ◌>>=◌, Fault, read, if_set}
use Rattle.field_rows.proofs.Reading.{read-if_set, then_ok}

-- the rows so far were read, and made this
pub then_as : {R A B : Type 0} (reason_of : CodeFault → R) (rows : Rows R A) (next : A → Rows R B) (c mid : Cursor) (a b : A) (total : Result (B × Cursor) (Fault R)) → read reason_of rows c ≡ Ok (a, mid) → a ≡ b → read reason_of (next b) mid ≡ total → read reason_of (rows >>= next) c ≡ total
then_as {A = A} reason_of rows next c mid a b total h e k = then_ok reason_of rows next c mid b total (subst (λ (x : A). read reason_of rows c ≡ Ok (x, mid)) e h) k

-- the flag is set, or it isn't
pub set_ok : {R A : Type 0} (reason_of : CodeFault → R) (rows : Rows R A) (c mid : Cursor) (a : A) → read reason_of rows c ≡ Ok (a, mid) → read reason_of (if_set true rows) c ≡ Ok (Some a, mid)
set_ok reason_of rows c mid a h = read-if_set reason_of true rows c ∙ rw h refl

pub set_err : {R A : Type 0} (reason_of : CodeFault → R) (rows : Rows R A) (c : Cursor) (f : Fault R) → read reason_of rows c ≡ Err f → read reason_of (if_set true rows) c ≡ Err f
set_err reason_of rows c f h = read-if_set reason_of true rows c ∙ rw h refl

pub unset : {R A : Type 0} (reason_of : CodeFault → R) (rows : Rows R A) (c : Cursor) → read reason_of (if_set false rows) c ≡ Ok (None, c)
unset reason_of rows c = read-if_set reason_of false rows c
