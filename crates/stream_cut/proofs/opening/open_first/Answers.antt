use Rattle.std.proofs.Common.{sym}
use Rattle.stream_cut.proofs.OpeningReads.{first_refused, first_offset, first_stands}
use Rattle.stream_cut.proofs.opening.open_first.Goals as goal

pub returns-in-Err : goal.returns-in-Err
returns-in-Err c = λ z at. first_refused z c.args.next c.args.place c.in-Err.fault.bit c.in-Err.fault.reason c.header_reason.result c.args.bytes.now c.refused.result at c.in-Err.ensures.exact c.header_reason.ensures c.refused.ensures

pub returns-then-not-leads_behind : goal.returns-then-not-leads_behind
returns-then-not-leads_behind c = λ z at. first_offset z c.args.next c.args.place c.in-Ok.read.1 c.in-Ok.read.0 c.args.bytes.now c.refused-then-not-leads_behind.result at c.in-Ok.ensures.exact.0 c.in-Ok.ensures.exact.1 (sym c.if-not-leads_behind.ensures) c.refused-then-not-leads_behind.ensures

pub returns : goal.returns
returns c = λ z at. first_stands z c.args.next c.args.place c.in-Ok.read.1 c.in-Ok.read.0 c.args.bytes.now c.in-Ok.ensures.exact.0 c.in-Ok.ensures.exact.1 (sym c.if-not-leads_behind.ensures)
