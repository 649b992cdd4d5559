use Rattle.std.proofs.Common.{arith}
use Rattle.slice_encoder.proofs.CodeTables.{entry_small, entry_is}
use Rattle.slice_encoder.proofs.code_tables.entry_of.Goals as goal

pub overflow_mul-result : goal.overflow_mul-result
overflow_mul-result c = omega (arith, entry_small c.args.text.number c.args.text.length c.requires.small c.requires.few)

pub overflow_add-result : goal.overflow_add-result
overflow_add-result c = omega (arith, c.requires.few, entry_small c.args.text.number c.args.text.length c.requires.small c.requires.few)

pub returns : goal.returns
returns c = entry_is c.args.text c.requires.few c.requires.small
