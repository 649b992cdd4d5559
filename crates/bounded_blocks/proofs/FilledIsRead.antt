-- What is filled is read.
use Rattle.std.proofs.Common.{◌≡◌, ◌∙◌, sym, ap, ℕ, ◌-◌, ◌≤◌, Bool, true, List, ◌++◌, length, take, drop, replicate, append_assoc, arith, ℤ}
use Rattle.std.specs.List.{All}
use Rattle.std.proofs.lemmas.List.{length-take}
use Rattle.std.proofs.Math.Seq.{take-append_seam, drop-append_seam}
use Rattle.bit_codes.specs.Bits.{bits_of, bits_before, bits_behind}
use Rattle.bit_codes.proofs.BitLemmas.{length-bits}
use Rattle.bounded_blocks.specs.Parts.{block_of, IsSmall}
use Rattle.bounded_blocks.specs.Reading.{values}
use Rattle.bounded_blocks.specs.Writing.{codes_of, need, filled, IsInside, Puts, Finishes}
use Rattle.bounded_blocks.proofs.OneList.{Spells-values}
use Rattle.bounded_blocks.proofs.OneText.{length-filled, filled-spells}

-- the part of a list that stands between two others
middle_part : (n m : ℕ) (a b c : List Bool) → length a ≡ n → length b ≡ m → take m (drop n (a ++ (b ++ c))) ≡ b
middle_part n m a b c la lb =
    ap (λ (k : ℕ). take m (drop k (a ++ (b ++ c)))) (sym la) ∙ ap (take m) (drop-append_seam a (b ++ c))
    ∙ ap (λ (k : ℕ). take k (b ++ c)) (sym lb) ∙ take-append_seam b c

-- a block that was put and finished holds the text, cut or with ones behind it
pub block_of-finished : (bytes put finished : List ℕ) (from place end : ℕ) (text : List Bool) → IsInside bytes from end → Puts end from bytes place put text → Finishes end place put finished
    → block_of finished from end ≡ filled (end - from) text
block_of-finished bytes put finished from place end text inside puts ones =
    let n : ℕ = end - from in
    let rest : end - place ≡ n - length text = omega (arith, puts.moved, inside.order) in
    let behind = bits_behind end put in
    let front = bits_before from bytes in
    let whole : bits_of finished ≡ front ++ (filled n text ++ behind) =
    ones
    ∙ ap (λ (t : List Bool). t ++ (replicate (end - place) true ++ behind)) puts.written
    ∙ ap (λ (k : ℕ). (front ++ take n text) ++ (replicate k true ++ behind)) rest
    ∙ append_assoc front (take n text) (replicate (n - length text) true ++ behind)
    ∙ ap (λ (t : List Bool). front ++ t) (sym (append_assoc (take n text) (replicate (n - length text) true) behind)) in
    let long : length front ≡ from = omega (arith, length-take from (bits_of bytes), length-bits bytes, inside.order, inside.inside) in
    ap (λ (t : List Bool). take n (drop from t)) whole ∙ middle_part from n front (filled n text) behind long (length-filled n text)

pub filled_is_read : (bytes put finished : List ℕ) (from place end : ℕ) (vs : List ℤ) → All IsSmall vs → need vs ≤ end - from → IsInside bytes from end
    → Puts end from bytes place put (codes_of vs) → Finishes end place put finished → values (length vs) (block_of finished from end) ≡ vs
filled_is_read bytes put finished from place end vs small le inside puts ones =
    ap (values (length vs)) (block_of-finished bytes put finished from place end (codes_of vs) inside puts ones)
    ∙ Spells-values vs (filled (end - from) (codes_of vs)) (filled-spells vs (end - from) small le)
