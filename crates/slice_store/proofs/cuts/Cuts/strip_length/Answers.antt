use Rattle.std.proofs.Common.{ap, sym, ◌∙◌, arith}
use Rattle.slice_store.specs.Places.{numbers_before}
use Rattle.slice_store.proofs.Starts.{numbers_all, numbers_few}
use Rattle.slice_store.proofs.cuts.Cuts.strip_length.Goals as goal

pub returns-clause-value : goal.returns-clause-value
returns-clause-value c =
    let s = c.args.self.now.slicing in
    c.row_room.ensures.value ∙ sym (numbers_few s c.args.self.now.size c.args.strips c.args.k (λ all. omega (arith, all, c.if-strips-down.false, c.down.ensures)))

pub returns-then-strips-down-clause-value : goal.returns-then-strips-down-clause-value
returns-then-strips-down-clause-value c =
    let s = c.args.self.now.slicing in
    let size = c.args.self.now.size in
    c.numbers_before.ensures.value ∙ ap (λ n. numbers_before s size n c.args.k) c.across.ensures
    ∙ sym (numbers_all s size c.args.strips c.args.k (omega (arith, c.if-strips-down.true, c.down.ensures)))
