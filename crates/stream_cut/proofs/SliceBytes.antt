-- The slices of a picture that is skimmed, over their bytes.
use Rattle.std.proofs.Common.{◌≡◌, ℕ, zero, suc, ◌+◌, ◌-◌, ◌*◌, ◌<◌, ◌≤◌, inl, inr, List, [], ◌∷◌, ◌++◌, length, take, drop, None, Err, ap, ◌∙◌, arith}
use Rattle.std.proofs.lemmas.Bool.{cases_lt, le-ltb}
use Rattle.std.proofs.lemmas.List.{length-append, length-drop, take-append-le, drop-append-le}
use Rattle.bit_codes.specs.Bits.{bits_of, bytes_of}
use Rattle.bit_codes.proofs.BitLemmas.{length-bits}
use Rattle.field_rows.specs.Rows.{some_bytes, Value, Bytes, Rows, row, ◌>>=◌, bytes_under, read, field_at, spelled}
use Rattle.field_rows.proofs.Words.{split-bits}
use Rattle.slice_geometry.specs.Slicing.{slice_count, bytes_before, total_bytes}
use Rattle.slice_geometry.proofs.Shares.{bytes_before-rises, bytes_before-zero}
use Rattle.transform_params.specs.Params.{Params}
use Rattle.run_theory.specs.Grammar.{bytes_at, is_settled_by}
use Rattle.run_theory.specs.Begun.{Needs, Moves}
use Rattle.run_theory.proofs.Fields.{short_row}
use Rattle.stream_rows.specs.declared.reason.Reason.{Reason}
use Rattle.stream_rows.specs.declared.reason.Reason.TheVariants as reasons
use Rattle.stream_rows.specs.Units.{DataUnit, reason_of, share}
use Rattle.stream_cut.specs.Skim.{skim_slices, skim_grammar}

-- the bytes of the first n slices
abbrev before : Params → ℕ → ℕ
before p n = bytes_before p.slicing.a p.slicing.b n

-- ---- where they are all there

-- behind a field that is there, whatever its bytes hold
goes : (n : ℕ) (next : Value → Rows Reason DataUnit) (at : ℕ) (bytes : List ℕ) → n ≤ length bytes
    → read reason_of (row (some_bytes n) None (λ v. []) next) (bytes_at at bytes) ≡ read reason_of (next (Bytes (bytes_of (bits_of (take n bytes))))) (bytes_at (at + n) (drop n bytes))
unfolding read field_at spelled
goes n next at bytes le =
    let q = split-bits n bytes le in
    rw (le-ltb (length (bits_of bytes)) (8 * n) (omega (arith, length-bits bytes)), q.0, q.1)
    (ap (λ p. read reason_of (next (Bytes (bytes_of (bits_of (take n bytes))))) (record { place = p; rest = bits_of (drop n bytes) })) (omega arith))

-- all slices, behind those so far
all_slices : Params → ℕ → List (List ℕ) → List ℕ → List (List ℕ)
all_slices p zero so_far bytes = so_far
all_slices p (suc left) so_far bytes =
    let size = share p (length so_far) in
    all_slices p left (so_far ++ bytes_of (bits_of (take size bytes)) ∷ []) (drop size bytes)

slices_pass : (p : Params) (left : ℕ) (so_far : List (List ℕ)) (next : List (List ℕ) → Rows Reason DataUnit) (at : ℕ) (piece more : List ℕ) → 1 ≤ p.slicing.b → before p (length so_far) + length piece ≡ before p (length so_far + left)
    → read reason_of (skim_slices p left so_far >>= next) (bytes_at at (piece ++ more)) ≡ read reason_of (next (all_slices p left so_far piece)) (bytes_at (at + length piece) more)
unfolding all_slices skim_slices bytes_under ◌>>=◌
slices_pass p zero so_far next at piece more some e = by piece (omega (arith, e, ap (before p) (let same : length so_far + 0 ≡ length so_far = omega arith in same)))
  where
    by : (piece : List ℕ) → length piece ≡ 0 → read reason_of (next so_far) (bytes_at at (piece ++ more)) ≡ read reason_of (next so_far) (bytes_at (at + length piece) more)
    by [] none = ap (λ n. read reason_of (next so_far) (bytes_at n more)) (omega arith)
    by (b ∷ piece) none = absurd (omega (arith, none))
slices_pass p (suc left) so_far next at piece more some e =
    let n = length so_far in
    let size = share p n in
    let rises = bytes_before-rises p.slicing.a p.slicing.b n (n + 1) some (omega arith) in
    let far = bytes_before-rises p.slicing.a p.slicing.b (n + 1) (n + suc left) some (omega arith) in
    let enough : size ≤ length piece = omega (arith, e, rises, far) in
    let slice = bytes_of (bits_of (take size piece)) in
    let longer : length (so_far ++ slice ∷ []) ≡ n + 1 = omega (arith, length-append so_far (slice ∷ [])) in
    let here = ap (before p) longer in
    let all : length (so_far ++ slice ∷ []) + left ≡ n + suc left = omega (arith, longer) in
    let others = slices_pass p left (so_far ++ slice ∷ []) next (at + size) (drop size piece) more some (omega (arith, e, rises, enough, here, length-drop size piece, ap (before p) all)) in
    goes size _ at (piece ++ more) (omega (arith, enough, length-append piece more))
    ∙ ap (λ l. read reason_of (skim_slices p left (so_far ++ bytes_of (bits_of l) ∷ []) >>= next) (bytes_at (at + size) (drop size (piece ++ more)))) (take-append-le size piece more enough)
    ∙ ap (λ l. read reason_of (skim_slices p left (so_far ++ slice ∷ []) >>= next) (bytes_at (at + size) l)) (drop-append-le size piece more enough)
    ∙ others
    ∙ ap (λ q. read reason_of (next (all_slices p left (so_far ++ slice ∷ []) (drop size piece))) (bytes_at q more)) (omega (arith, enough, length-drop size piece))

-- the rows of all slices are moved over their bytes
pub slices_move : (p : Params) (next : List (List ℕ) → Rows Reason DataUnit) (at : ℕ) (piece : List ℕ) → 1 ≤ p.slicing.b → length piece ≡ total_bytes p.slicing
    → (slices : List (List ℕ)) × Moves skim_grammar (skim_slices p (slice_count p.slicing) [] >>= next) at piece (next slices)
slices_move p next at piece some long =
    let count = slice_count p.slicing in
    let none : 0 + count ≡ count = omega arith in
    (all_slices p count [] piece, record { moves = λ more. slices_pass p count [] next at piece more some (omega (arith, long, bytes_before-zero p.slicing.a p.slicing.b, ap (before p) none)) })

-- ---- where they aren't

-- Slices from one on are short: this one is the first that isn't whole, and the refusal stands where it begins.
pub record ShortSlices (p : Params) (left : ℕ) (so_far : List (List ℕ)) (next : List (List ℕ) → Rows Reason DataUnit) (at : ℕ) (bytes : List ℕ) : Type 0 where
  pub slice : ℕ
  pub least : length so_far ≤ slice
  pub most : slice < length so_far + left
  pub begins : before p slice ≤ before p (length so_far) + length bytes
  pub ends : before p (length so_far) + length bytes < before p (slice + 1)
  pub short : read reason_of (skim_slices p left so_far >>= next) (bytes_at at bytes) ≡ Err (record { place = 8 * (at + (before p slice - before p (length so_far))); reason = reasons.Truncated })

pub slices_short : (p : Params) (left : ℕ) (so_far : List (List ℕ)) (next : List (List ℕ) → Rows Reason DataUnit) (at : ℕ) (bytes : List ℕ) → 1 ≤ p.slicing.b → before p (length so_far) + length bytes < before p (length so_far + left) → ShortSlices p left so_far next at bytes
unfolding skim_slices bytes_under ◌>>=◌
slices_short p zero so_far next at bytes some few =
    let same : length so_far + 0 ≡ length so_far = omega arith in
    absurd (omega (arith, few, ap (before p) same))
slices_short p (suc left) so_far next at bytes some few =
    let n = length so_far in
    let size = share p n in
    let rises = bytes_before-rises p.slicing.a p.slicing.b n (n + 1) some (omega arith) in
    elim (cases_lt (length bytes) size) [
      | inl less ↦ record {
        slice = n;
        least = omega arith;
        most = omega arith;
        begins = omega arith;
        ends = omega (arith, less, rises);
        short = short_row skim_grammar size _ _ at bytes less ∙ ap (λ q. Err (record { place = q; reason = reasons.Truncated })) (omega arith);
      }
      | inr enough ↦
          let value = bytes_of (bits_of (take size bytes)) in
          let longer : length (so_far ++ value ∷ []) ≡ n + 1 = omega (arith, length-append so_far (value ∷ [])) in
          let here = ap (before p) longer in
          let same : n + 1 + left ≡ n + suc left = omega arith in
          let more : length (so_far ++ value ∷ []) + left ≡ n + suc left = omega (arith, longer) in
          let others = slices_short p left (so_far ++ value ∷ []) next (at + size) (drop size bytes) some (omega (arith, few, rises, enough, here, length-drop size bytes, ap (before p) more)) in
          let behind = bytes_before-rises p.slicing.a p.slicing.b (n + 1) others.slice some (omega (arith, others.least, longer)) in
          record {
            slice = others.slice;
            least = omega (arith, others.least, longer);
            most = omega (arith, others.most, longer);
            begins = omega (arith, others.begins, here, rises, enough, length-drop size bytes);
            ends = omega (arith, others.ends, here, rises, enough, length-drop size bytes);
            short = goes size _ at bytes enough ∙ others.short ∙ ap (λ q. Err (record { place = q; reason = reasons.Truncated })) (omega (arith, here, rises, behind));
          }
    ]

-- so they need all their bytes
pub slices_need : (p : Params) (next : List (List ℕ) → Rows Reason DataUnit) → 1 ≤ p.slicing.b → Needs skim_grammar (skim_slices p (slice_count p.slicing) [] >>= next) (total_bytes p.slicing)
slices_need p next some = record {
  needs = λ place bytes short.
      let none : 0 + slice_count p.slicing ≡ slice_count p.slicing = omega arith in
      let s = slices_short p (slice_count p.slicing) [] next place bytes some (omega (arith, short, bytes_before-zero p.slicing.a p.slicing.b, ap (before p) none)) in
      ap (is_settled_by skim_grammar) s.short;
}
