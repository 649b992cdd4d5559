-- The laws of rows: what holds of every table.
use Rattle.std.specs.Prelude.{◌≡◌, ◌≢◌, ◌↔◌, ◌⊎◌, ℕ, ◌+◌, ◌≤◌, Bool, List, [], ◌++◌, length, Ok, Err}
use Rattle.bit_codes.specs.declared.CodeFault.{CodeFault}
use Rattle.bit_codes.specs.declared.CodeFault.TheVariants as codes
use Rattle.bit_codes.specs.Bits.{Cursor}
use Rattle.field_rows.specs.Rows.{Value, Rows, Fault, read, renamed}
use Rattle.field_rows.specs.Standing.{Stand, IsRefused}
use Rattle.field_rows.specs.Pieces.{with_more}
use Rattle.field_rows.specs.Moved.{moved, moved_answer, renamed_answer}
use Rattle.field_rows.specs.Given.{checked, value_bits, AreOfKind}

-- Reading gives a value exactly where fields stand that make it, and a fault exactly where the rows are refused with it.
pub record ReadsWhatStands {R A : Type 0} (reason_of : CodeFault → R) (rows : Rows R A) (c : Cursor) : Type 0 where
  pub value : (a : A) (behind : Cursor) → (read reason_of rows c ≡ Ok (a, behind))
      ↔ ((vs : List Value) × Stand rows vs c a behind)
  pub fault : (f : Fault R) → (read reason_of rows c ≡ Err f) ↔ ((vs : List Value) × IsRefused reason_of rows vs c f)

-- Either fields stand, and they alone, with one value and one cursor behind them, and nothing is refused;
-- or there is one refusal, and no fields stand.
abbrev pub HasOneRowAnswer : {R A : Type 0} → (CodeFault → R) → Rows R A → Cursor → Type 0
HasOneRowAnswer {R = R} {A = A} reason_of rows c =
    ((vs : List Value) × (a : A) × (behind : Cursor) × Stand rows vs c a behind
    × ((vs' : List Value) (a' : A) (behind' : Cursor) → Stand rows vs' c a' behind' → (vs ≡ vs') × (a ≡ a') × (behind ≡ behind'))
    × ((vs' : List Value) (f : Fault R) → IsRefused reason_of rows vs' c f → ⊥))
    ⊎ ((vs : List Value) × (f : Fault R) × IsRefused reason_of rows vs c f
    × ((vs' : List Value) (f' : Fault R) → IsRefused reason_of rows vs' c f' → f ≡ f')
    × ((vs' : List Value) (a : A) (behind : Cursor) → Stand rows vs' c a behind → ⊥))

-- Bits behind change nothing, once rows are read or refused for another reason than shortness. The bits end with a byte.
pub record IgnoresMore {R A : Type 0} (reason_of : CodeFault → R) (rows : Rows R A) (c : Cursor) (bits : List Bool) : Type 0 where
  pub value : (a : A) (behind : Cursor) → read reason_of rows c ≡ Ok (a, behind)
      → read reason_of rows (with_more c bits) ≡ Ok (a, with_more behind bits)
  pub fault : (f : Fault R) → f.reason ≢ reason_of codes.Short → read reason_of rows c ≡ Err f
      → read reason_of rows (with_more c bits) ≡ Err f

-- The same rows as many bytes further on, with places counted from there. They ask for no place and name none.
abbrev pub ReadsTheSameMoved : {R A : Type 0} → (CodeFault → R) → Rows R A → ℕ → Cursor → Type 0
ReadsTheSameMoved reason_of rows bytes c = read reason_of rows (moved bytes c) ≡ moved_answer bytes (read reason_of rows c)

-- The same rows under other names of reasons.
abbrev pub ReadsTheSameRenamed : {R S A : Type 0} → (R → S) → (CodeFault → R) → (CodeFault → S) → Rows R A → Cursor → Type 0
ReadsTheSameRenamed name reason_of others rows c = read others (renamed name rows) c ≡ renamed_answer name (read reason_of rows c)

-- Fields of the rows' kinds that pass the check are read again from what is written for them, whatever follows.
abbrev pub IsReadAgain : {R A : Type 0} → (CodeFault → R) → Rows R A → List Value → A → ℕ → List Bool → Type 0
IsReadAgain reason_of rows vs a place rest =
    AreOfKind rows vs → checked rows vs ≡ Ok (a, [])
    → read reason_of rows (record { place = place; rest = value_bits vs ++ rest })
    ≡ Ok (a, record { place = place + length (value_bits vs); rest = rest })

-- A fault's place lies within the bits, their end included.
abbrev pub HasFaultWithin : {R A : Type 0} → (CodeFault → R) → Rows R A → Cursor → Type 0
HasFaultWithin {R = R} reason_of rows c = (f : Fault R) → read reason_of rows c ≡ Err f → f.place ≤ c.place + length c.rest
