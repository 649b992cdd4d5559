use Rattle.std.proofs.Common.{◌≡◌, ℕ, ◌+◌, ◌-◌, get_or, true, ap, ◌∙◌, arith}
use Rattle.bounded_blocks.specs.Parts.{block_of}
use Rattle.bounded_blocks.proofs.Windows.{shows-behind}
use Rattle.bounded_blocks.proofs.window.behind.Goals as goal

pub returns-clause-at : goal.returns-clause-at
returns-clause-at c bytes end at =
    let w = c.args.window in
    let by = c.args.length in
    let less : w.shown - c.from.result ≡ w.shown - by = omega (arith, c.from.ensures) in
    let on : w.place + by ≡ w.place + c.from-2.result = omega (arith, c.from-2.ensures) in
    record {
      most = omega (arith, at.most);
      near = omega (arith, at.near, c.requires.shown, c.from.ensures, c.from-2.ensures);
      shows = λ i lt. shows-behind w by i bytes end at c.requires.shown (omega (arith, lt, less)) ∙ ap (λ (p : ℕ). get_or (block_of bytes p end) i true) on;
    }
