use Rattle.std.proofs.Common.{arith}
use Rattle.slice_encoder.proofs.QueueBits.{shifted_fits, shifted_digits}
use Rattle.slice_encoder.proofs.bit_queues.waiting.Goals as goal

pub overflow_add-result-2 : goal.overflow_add-result-2
overflow_add-result-2 c = omega (arith, shifted_fits c.args.queue.number c.args.n c.args.number (omega (arith, c.requires.few)) c.requires.small)

pub returns-clause-text : goal.returns-clause-text
returns-clause-text c = shifted_digits c.args.queue.count c.args.n c.args.queue.number c.args.number c.requires.few c.requires.small
