-- What stops a writer's begin stops its start.
use Rattle.std.proofs.Common.{ℕ, List, Option, Err}
use Rattle.stream_writer.specs.declared.write_stop.WriteStop.{WriteStop}
use Rattle.stream_writer.specs.declared.write_stop.WriteStop.TheVariants as stops
use Rattle.stream_writer.specs.EncodedStream.{Settings, header_unit}
use Rattle.stream_writer.specs.Writer.{StreamWriterSeen, IsSteepOkUnder, Starts, Wrote, EndStops, WriteCause}

pub stopped_starts : (s : Settings) (out0 out1 : Option (List ℕ)) (stop : WriteStop) → IsSteepOkUnder s → Wrote (header_unit s.parts) out0 out1 (Err stop) → EndStops (Err stop) → Starts s out0 out1 (Err stop)
stopped_starts s out0 out1 stops.OutFault steep wrote why = (steep, wrote)
stopped_starts s out0 out1 stops.MatrixTooSteep steep wrote why = absurd why
stopped_starts s out0 out1 stops.NoMemory steep wrote why = (steep, wrote)
stopped_starts s out0 out1 stops.StreamTooLong steep wrote why = absurd why

pub stopped_cause : (before now : ℕ) (stop : WriteStop) → WriteCause {X = Unit {0}} before now (Err stop) → WriteCause {X = StreamWriterSeen} before now (Err stop)
stopped_cause before now stops.OutFault h = h
stopped_cause before now stops.MatrixTooSteep h = h
stopped_cause before now stops.NoMemory h = h
stopped_cause before now stops.StreamTooLong h = h
