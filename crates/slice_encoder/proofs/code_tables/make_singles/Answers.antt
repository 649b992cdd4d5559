use Rattle.std.proofs.Common.{◌∙◌, ℕ, pos, arith}
use Rattle.std.proofs.lemmas.List.{length-set}
use Rattle.std.specs.Prelude.{◌-ℤ◌}
use Rattle.bit_codes.specs.Codes.{signed_code_of}
use Rattle.slice_encoder.specs.CodeTables.{IsEntry}
use Rattle.slice_encoder.proofs.CodeTables.{entries_more}
use Rattle.slice_encoder.proofs.code_tables.make_singles.Goals as goal

pub loop-place-preserved : goal.loop-place-preserved
loop-place-preserved c =
    let l = c.loop-place in
    let entry = c.single_at.result in
    let Is = λ (p : ℕ) (e : ℕ). IsEntry e (signed_code_of (pos p -ℤ pos 512)) in
    record {
      count = length-set l.entries.items l.place entry ∙ l.invariant.count;
      so_far = entries_more Is l.entries.items l.place entry (omega (arith, c.loop-place-test.true, l.invariant.count)) c.single_at.ensures l.invariant.so_far;
    }

pub returns : goal.returns
returns c =
    let l = c.loop-place in
    record { count = l.invariant.count; each = λ p below. l.invariant.so_far p (omega (arith, c.loop-place-test.false, below)) }
