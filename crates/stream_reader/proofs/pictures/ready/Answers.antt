use Rattle.stream_reader.proofs.Ready.{frame_same, params_same, ready_again}
use Rattle.stream_reader.proofs.pictures.ready.Goals as goal

pub returns-then-eq-2-clause-ready : goal.returns-then-eq-2-clause-ready
returns-then-eq-2-clause-ready c =
    ready_again c.in-Some.decoder c.restart.new.self c.shape.result.now c.args.shape.now c.params.result.now c.args.params.now c.restart.ensures c.shape.ensures c.params.ensures
    (frame_same c.shape.result.now c.args.shape.now c.eq.result c.if-eq.true c.eq.ensures)
    (params_same c.params.result.now c.args.params.now c.eq-then-eq.result c.if-eq-2.true c.eq-then-eq.ensures)
