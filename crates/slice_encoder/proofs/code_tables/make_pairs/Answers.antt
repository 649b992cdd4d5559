use Rattle.std.proofs.Common.{◌∙◌, ℕ, ◌/◌, ◌%◌, arith}
use Rattle.std.proofs.lemmas.List.{length-set}
use Rattle.slice_encoder.specs.CodeTables.{IsPairEntry}
use Rattle.slice_encoder.proofs.CodeTables.{entries_more}
use Rattle.slice_encoder.proofs.code_tables.make_pairs.Goals as goal

pub loop-place-preserved : goal.loop-place-preserved
loop-place-preserved c =
    let l = c.loop-place in
    let entry = c.pair_at.result in
    let Is = λ (p : ℕ) (e : ℕ). IsPairEntry e (p / 64) (p % 64) in
    record {
      count = length-set l.entries.items l.place entry ∙ l.invariant.count;
      so_far = entries_more Is l.entries.items l.place entry (omega (arith, c.loop-place-test.true, l.invariant.count)) c.pair_at.ensures l.invariant.so_far;
    }

pub returns : goal.returns
returns c =
    let l = c.loop-place in
    record { count = l.invariant.count; each = λ p below. l.invariant.so_far p (omega (arith, c.loop-place-test.false, below)) }
