-- Bytes that are judged by the definitions.
use Rattle.std.specs.Prelude.{◌≡◌, ℕ, List}
use Rattle.stream_reader.specs.declared.judging.Verdict.{Verdict}
use Rattle.stream_reader.specs.declared.judging.Verdict.TheVariants as verdicts
use Rattle.stream_reader.specs.ReadStops.{ReadStop}
use Rattle.unit_reader.specs.declared.stop.ReadStop.TheVariants as stops
use Rattle.stream_rows.specs.Streams.{Entry, IsStream, IsRefusal}

-- what bytes are
abbrev pub IsVerdict : List ℕ → Verdict → Type 0
IsVerdict bytes verdicts.Stream = (es : List Entry) × (last : Entry) × IsStream bytes es last
IsVerdict bytes (verdicts.Refused refusal) = IsRefusal bytes refusal

-- the verdict where a reader stops
abbrev pub IsStopVerdict : ReadStop → Verdict → Type 0
IsStopVerdict (stops.Refused refusal) verdict = verdict ≡ verdicts.Refused refusal
IsStopVerdict stop verdict = ⊥
