-- What is read of a block by one step more.
use Rattle.std.proofs.Common.{◌≡◌, ℕ, ◌+◌, ◌^◌, ◌<◌, ◌≤◌, min, Bool, List, [], ◌∷◌, ◌++◌, length, map, take, slice_set, ℤ, sym, ap, subst, ◌∙◌, arith}
use Rattle.std.proofs.lemmas.List.{take_more_set, length-map, map-set}
use Rattle.std.specs.Int.RustNames.{unsigned_abs}
use Rattle.bounded_blocks.specs.Reading.{value_at}
use Rattle.bounded_blocks.specs.Parts.{block_of, IsSmall, ReadsValues, AreWithin}
use Rattle.bounded_blocks.specs.Windows.{IsWindowAt, HoldsRead}
use Rattle.bounded_blocks.specs.declared.window.Window.{Window}
use Rattle.bounded_blocks.proofs.ReadLemmas.{Reads-join, Reads-one, all-append, take-part}
use Rattle.bounded_blocks.proofs.Windows.{block_of-cut}

-- the first of some values that were put
pub reads-some : (m k n : ℕ) (whole mid left : List Bool) (out new vs : List ℤ) → k ≤ length out → n ≤ m → take (k + m) new ≡ take k out ++ vs
    → ReadsValues k whole (take k out) mid → ReadsValues n mid (take n vs) left → ReadsValues (k + n) whole (take (k + n) new) left
reads-some m k n whole mid left out new vs inside few put before read =
    subst (λ (x : List ℤ). ReadsValues (k + n) whole x left) (sym (take-part m out new vs k n inside few put)) (Reads-join k n whole mid left (take k out) (take n vs) before read)

-- one value that was put
pub reads-single : (k : ℕ) (whole mid left : List Bool) (out new : List ℤ) (v : ℤ) → take (k + 1) new ≡ take k out ++ v ∷ []
    → ReadsValues k whole (take k out) mid → v ≡ (value_at mid).0 → IsSmall (value_at mid).0 → (value_at mid).1 ≡ left → ReadsValues (k + 1) whole (take (k + 1) new) left
reads-single k whole mid left out new v put before is small behind =
    subst (λ (x : List ℤ). ReadsValues (k + 1) whole x left) (sym put) (Reads-join k 1 whole mid left (take k out) (v ∷ []) before (Reads-one mid left v is small behind))

-- what was read, up to the place that a single value is read at
pub before-single : (bytes : List ℕ) (start end n here there now : ℕ) (vs : List ℤ) → now ≡ min here end → block_of bytes here end ≡ block_of bytes there end → ReadsValues n (block_of bytes start end) vs (block_of bytes there end)
    → ReadsValues n (block_of bytes start end) vs (block_of bytes now end)
before-single bytes start end n here there now vs is same read =
    subst (λ (x : List Bool). ReadsValues n (block_of bytes start end) vs x) (sym (ap (λ (p : ℕ). block_of bytes p end) is ∙ block_of-cut bytes here end ∙ same)) read

-- the same behind another window at the same bits
pub holds-from : (most : ℕ) (bytes : List ℕ) (start end n : ℕ) (out : List ℤ) (w v : Window) → IsWindowAt bytes end v → block_of bytes v.place end ≡ block_of bytes w.place end
    → HoldsRead most bytes start end n out w → HoldsRead most bytes start end n out v
holds-from most bytes start end n out w v at same held = record {
  at = at;
  read = subst (λ (x : List Bool). ReadsValues n (block_of bytes start end) (take n out) x) (sym same) held.read;
  within = held.within;
}

-- one value that was put into numbers of any width
pub single-held : {X : Type 0} (value : X → ℤ) (most k : ℕ) (whole mid left : List Bool) (out : List X) (v : X) → k < length out → most ≤ 2 ^ 36
    → ReadsValues k whole (take k (map value out)) mid → AreWithin most (take k (map value out))
    → value v ≡ (value_at mid).0 → unsigned_abs (value_at mid).0 ≤ most → (value_at mid).1 ≡ left
    → ReadsValues (k + 1) whole (take (k + 1) (map value (slice_set out k v))) left × AreWithin most (take (k + 1) (map value (slice_set out k v)))
single-held value most k whole mid left out v lt few before low is small behind =
    let put : take (k + 1) (map value (slice_set out k v)) ≡ take k (map value out) ++ value v ∷ [] =
    ap (take (k + 1)) (map-set value out k v) ∙ take_more_set (map value out) k (value v) (omega (arith, lt, length-map out value)) in (
      reads-single k whole mid left (map value out) (map value (slice_set out k v)) (value v) put before is (omega (arith, small, few)) behind,
      subst (AreWithin most) (sym put)
          (all-append (λ z. unsigned_abs z ≤ most) (take k (map value out)) (value v ∷ []) low (subst (λ (z : ℤ). unsigned_abs z ≤ most) (sym is) small, tt)),
    )
