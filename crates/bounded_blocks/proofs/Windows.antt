-- What look-ups in a window read of a block.
use Rattle.std.proofs.Common.{◌≡◌, zero, suc, ℕ, ◌+◌, ◌-◌, ◌*◌, ◌/◌, ◌%◌, ◌^◌, ◌<◌, ◌≤◌, min, Bool, true, List, [], ◌∷◌, ◌++◌, length, get_or, take, drop, replicate, append-nil, inl, inr, refl, sym, ap, subst, ◌∙◌, arith}
use Rattle.std.specs.Prelude.{ℤ, ◌==◌}
use Rattle.std.proofs.lemmas.Bool.{cases_lt}
use Rattle.std.specs.Int.{bit_at}
use Rattle.std.proofs.lemmas.Nat.{shr-shr}
use Rattle.std.proofs.lemmas.List.{drop-append-le, length-take, get_or-drop, drop_all}
use Rattle.bit_codes.specs.Bits.{bit, bits_of, digits_below}
use Rattle.bit_codes.proofs.CodeOf.{length-digits_below}
use Rattle.bounded_blocks.specs.Parts.{block_of, ReadsValues}
use Rattle.bounded_blocks.specs.declared.window.Window.{Window}
use Rattle.bounded_blocks.specs.Windows.{IsWindowAt}
use Rattle.bounded_blocks.proofs.BlockLemmas.{block_of-drop}
use Rattle.bounded_blocks.proofs.Ones.{values_same, left_is_dropped}
use Rattle.bounded_blocks.proofs.WindowBits.{shifted_bit}

-- the last digits of a number, all of them ones
ones_are : (k n : ℕ) → ((i : ℕ) → i < k → bit n (k - 1 - i) ≡ true) → replicate k true ≡ digits_below k n
ones_are zero n same = refl
ones_are (suc k) n same =
    let at : k ≡ suc k - 1 - 0 = omega arith in
    ap (λ (x : Bool). x ∷ replicate k true) (sym (ap (bit n) at ∙ same 0 (omega arith)))
    ∙ ap (λ (y : List Bool). bit n k ∷ y) (ones_are k n (λ i lt. let on : k - 1 - i ≡ suc k - 1 - suc i = omega arith in ap (bit n) on ∙ same (suc i) (omega arith)))

-- the first bits of a block and of the ones behind it, where they are a number's last digits
front_is : (k n : ℕ) (b : List Bool) → ((i : ℕ) → i < k → bit n (k - 1 - i) ≡ get_or b i true) → b ++ replicate (k - length b) true ≡ digits_below k n ++ drop k b
front_is zero n b same = let none : 0 - length b ≡ 0 = omega arith in ap (λ (j : ℕ). b ++ replicate j true) none ∙ append-nil b
front_is (suc k) n [] same =
    let all : suc k - length {A = Bool} [] ≡ suc k = omega arith in
    ap (λ (j : ℕ). replicate j true) all ∙ ones_are (suc k) n same ∙ sym (append-nil (digits_below (suc k) n))
front_is (suc k) n (x ∷ b) same =
    let at : k ≡ suc k - 1 - 0 = omega arith in
    let less : suc k - length (x ∷ b) ≡ k - length b = omega arith in
    let first : x ≡ bit n k = sym (ap (bit n) at ∙ same 0 (omega arith)) in
    ap (λ (j : ℕ). x ∷ (b ++ replicate j true)) less ∙ ap (λ (y : Bool). y ∷ (b ++ replicate (k - length b) true)) first
    ∙ ap (λ (y : List Bool). bit n k ∷ y) (front_is k n b (λ i lt. let on : k - 1 - i ≡ suc k - 1 - suc i = omega arith in ap (bit n) on ∙ same (suc i) (omega arith)))

-- What reads a block with ones behind it reads the block.
reads-cut : (n k used : ℕ) (b : List Bool) (vs : List ℤ) → used ≤ length b + k → ReadsValues n (b ++ replicate k true) vs (drop used (b ++ replicate k true)) → ReadsValues n b vs (drop used b)
reads-cut n k used b vs room r = record {
  same = sym (values_same n k b) ∙ r.same;
  behind = left_is_dropped n k used b room r.behind;
  small = r.small;
}

-- what reads a number's last digits, whatever follows them, reads a block that begins with them, or with a front of them that ones follow
codes-read : (k n count short : ℕ) (vs : List ℤ) (b : List Bool) → short ≤ k
    → ((rest : List Bool) → ReadsValues count (digits_below k n ++ rest) vs (drop short (digits_below k n) ++ rest))
    → ((i : ℕ) → i < k → bit n (k - 1 - i) ≡ get_or b i true) → ReadsValues count b vs (drop short b)
codes-read k n count short vs b few begin same =
    let ones = replicate (k - length b) true in
    let digits = digits_below k n in
    let whole : b ++ ones ≡ digits ++ drop k b = front_is k n b same in
    let left : drop short (b ++ ones) ≡ drop short digits ++ drop k b = ap (drop short) whole ∙ drop-append-le short digits (drop k b) (omega (arith, few, length-digits_below k n)) in
    reads-cut count (k - length b) short b vs (omega (arith, few))
    (subst (λ (x : List Bool). ReadsValues count (b ++ ones) vs x) (sym left)
    (subst (λ (x : List Bool). ReadsValues count x vs (drop short digits ++ drop k b)) (sym whole) (begin (drop k b))))

-- what is left of a block past its end too
pub block_of-drop_any : (n : ℕ) (bytes : List ℕ) (place end : ℕ) → drop n (block_of bytes place end) ≡ block_of bytes (place + n) end
block_of-drop_any n bytes place end = elim (cases_lt end (place + n)) [
  | inl past ↦
      let none : end - (place + n) ≡ 0 = omega arith in
      drop_all n (block_of bytes place end) (omega (arith, length-take (end - place) (drop place (bits_of bytes)))) ∙ sym (ap (λ (m : ℕ). take m (drop (place + n) (bits_of bytes))) none)
  | inr inside ↦ block_of-drop n bytes place end inside
]

-- a block from a place past its end on
pub block_of-cut : (bytes : List ℕ) (place end : ℕ) → block_of bytes (min place end) end ≡ block_of bytes place end
block_of-cut bytes place end = elim (cases_lt place end) [
  | inl inside ↦ ap (λ (p : ℕ). block_of bytes p end) (let e : min place end ≡ place = omega arith in e)
  | inr past ↦
      let here : end - min place end ≡ 0 = omega arith in
      let there : end - place ≡ 0 = omega arith in
      ap (λ (m : ℕ). take m (drop (min place end) (bits_of bytes))) here ∙ sym (ap (λ (m : ℕ). take m (drop place (bits_of bytes))) there)
]

top_bit : (k word i : ℕ) → i < k → k ≤ 64 → bit (word / 2 ^ (64 - k)) (k - 1 - i) ≡ bit word (63 - i)
top_bit k word i lt most =
    let at : 64 - k + (k - 1 - i) ≡ 63 - i = omega arith in
    ap (λ (b : ℕ). b == 1) (ap (λ (n : ℕ). n % 2) (shr-shr word (64 - k) (k - 1 - i)) ∙ ap (bit_at word) at)

-- so does a window that shows as many
pub window-reads : (k count short : ℕ) (vs : List ℤ) (w : Window) (bytes : List ℕ) (end : ℕ) → short ≤ k
    → ((rest : List Bool) → ReadsValues count (digits_below k (w.word / 2 ^ (64 - k)) ++ rest) vs (drop short (digits_below k (w.word / 2 ^ (64 - k))) ++ rest))
    → k ≤ w.shown → IsWindowAt bytes end w → ReadsValues count (block_of bytes w.place end) vs (block_of bytes (w.place + short) end)
window-reads k count short vs w bytes end few begin shown at =
    subst (λ (x : List Bool). ReadsValues count (block_of bytes w.place end) vs x) (block_of-drop_any short bytes w.place end)
    (codes-read k (w.word / 2 ^ (64 - k)) count short vs (block_of bytes w.place end) few begin
    (λ i lt. top_bit k w.word i lt (omega (arith, at.most)) ∙ at.shows i (omega arith)))

-- the bits that a window shows further on
pub shows-behind : (w : Window) (by i : ℕ) (bytes : List ℕ) (end : ℕ) → IsWindowAt bytes end w → by ≤ w.shown → i < w.shown - by
    → bit (w.word * 2 ^ by % 2 ^ 64) (63 - i) ≡ get_or (block_of bytes (w.place + by) end) i true
shows-behind w by i bytes end at le lt =
    let add : i + by ≡ by + i = omega arith in
    shifted_bit w.word by i (omega (arith, at.most)) ∙ at.shows (i + by) (omega arith) ∙ ap (λ (n : ℕ). get_or (block_of bytes w.place end) n true) add
    ∙ sym (get_or-drop by (block_of bytes w.place end) i true) ∙ ap (λ (x : List Bool). get_or x i true) (block_of-drop_any by bytes w.place end)
