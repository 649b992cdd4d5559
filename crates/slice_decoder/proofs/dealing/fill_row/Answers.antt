use Rattle.std.proofs.Common.{◌<◌, length, sym, ◌∙◌, arith}
use Rattle.slice_decoder.proofs.Dealt.{row-false, row-small, row-at, row-behind}
use Rattle.slice_decoder.proofs.dealing.fill_row.Goals as goal

pub returns-then-not-fill-clause-small : goal.returns-then-not-fill-clause-small
returns-then-not-fill-clause-small c =
    sym (row-false c.args.block.now (length c.args.row.now) c.args.index c.requires (c.fill.ensures.huge c.if-not-fill.true))

pub returns-clause-small : goal.returns-clause-small
returns-clause-small c =
    let reads = c.fill.ensures.filled c.if-not-fill.false in
    c.dequantise.ensures.small ∙ row-small c.args.block.now c.fill.new.self (length c.args.row.now) c.args.index c.fill.new.out reads

pub returns-clause-left : goal.returns-clause-left
returns-clause-left c good =
    row-behind c.args.block.now c.fill.new.self (length c.args.row.now) c.args.index c.fill.new.out (c.fill.ensures.filled c.if-not-fill.false)

pub returns-clause-values : goal.returns-clause-values
returns-clause-values c good k lt =
    let inside : k < length c.fill.new.out = omega arith in
    c.dequantise.ensures.values good k inside
    ∙ row-at c.args.block.now c.fill.new.self (length c.args.row.now) c.args.index k c.fill.new.out (c.fill.ensures.filled c.if-not-fill.false) inside
