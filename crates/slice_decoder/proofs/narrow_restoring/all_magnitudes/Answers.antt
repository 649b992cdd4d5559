use Rattle.std.proofs.Common.{◌≡◌, get_or, pos, unsigned_abs, to_z, of_z, w32, ap, inl, inr, arith}
use Rattle.std.proofs.lemmas.Bool.{cases_eq}
use Rattle.std.proofs.lemmas.Int.{to_z-of_z, fits_signed_from_abs}
use Rattle.std.proofs.lemmas.Nat.{le_or_l, le_or_r}
use Rattle.slice_decoder.proofs.narrow_restoring.all_magnitudes.Goals as goal

pub loop-k-preserved : goal.loop-k-preserved
loop-k-preserved c =
    let l = c.loop-k in
    let values = c.args.values.now in
    let here = get_or values l.k (pos 0) in
    let next = c.unsigned_abs-all.result in
    let same : to_z w32 (of_z w32 here) ≡ here = to_z-of_z w32 here (fits_signed_from_abs w32 here (omega (arith, c.requires l.k))) in
    record {
      all = λ j lt. elim (cases_eq j l.k) [
        | inl at ↦ omega (
          arith,
          le_or_r l.all next,
          c.unsigned_abs-all.ensures.value,
          ap unsigned_abs same,
          ap
              (λ n. unsigned_abs (get_or values n (pos 0))) at,
        )
        | inr ne ↦ omega (arith, le_or_l l.all next, l.invariant.all j (omega arith))
      ];
    }
