use Rattle.std.proofs.Common.{◌∙◌, List, [], get_or, ℤ, sym, subst, arith}
use Rattle.std.proofs.lemmas.List.{get_or_default}
use Rattle.bit_codes.specs.Bits.{digits_below}
use Rattle.bounded_blocks.specs.CodeTable.{Begin, codes_of, no_head}
use Rattle.bounded_blocks.specs.declared.code_table.Head.{Head}
use Rattle.bounded_blocks.proofs.code_table.CodeTable.entry.Goals as goal

pub returns : goal.returns
returns c =
    let values = c.self.inside.values.items in
    let heads = c.self.inside.heads.items in
    let k = c.args.bits in
    let of_values = c.index.ensures ∙ get_or_default values k c.index.result.now [] (omega (arith, c.self.invariant.values_count, c.requires)) in
    let of_heads = c.index-2.ensures ∙ get_or_default heads k c.index-2.result.now no_head (omega (arith, c.self.invariant.heads_count, c.requires)) in
    subst (λ (vs : List ℤ). Begin (codes_of vs c.index-2.result.now) (digits_below 12 k)) (sym of_values)
    (subst (λ (h : Head). Begin (codes_of (get_or values k []) h) (digits_below 12 k)) (sym of_heads) (c.self.invariant.right k c.requires))
