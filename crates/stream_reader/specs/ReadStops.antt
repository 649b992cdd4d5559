-- How the reading of a stream stops: as that of any table, with the reasons of a stream.
use Rattle.unit_reader.specs.declared.stop.ReadStop.{ReadStop as AnyStop}
use Rattle.stream_rows.specs.declared.reason.Reason.{Reason}

-- why reading stopped
abbrev pub ReadStop : Type 0
ReadStop = AnyStop Reason
