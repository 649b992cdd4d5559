use Rattle.std.proofs.Common.{◌<◌, ◌^◌, ℕ, sym, subst, ◌∙◌, arith}
use Rattle.std.proofs.Math.Nat.{mod-lt}
use Rattle.std.proofs.lemmas.Grind.{get_or_default_zero}
use Rattle.picture_codec.proofs.Tables.{positive}
use Rattle.trial_video.proofs.generating.fill_row.Goals as goal

pub returns-clause-below : goal.returns-clause-below
returns-clause-below c = λ k d inside.
    subst (λ (v : ℕ). v < 2 ^ c.args.depth) (sym (get_or_default_zero c.loop-x.row k d inside ∙ c.loop-x.invariant.done k (omega (arith, inside, c.loop-x-test.false, c.loop-x.invariant.len)))) (mod-lt _ (positive c.args.depth))
