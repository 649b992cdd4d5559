use Rattle.std.proofs.Common.{◌≡◌, ◌≤◌, ◌-◌, length, take}
use Rattle.std.specs.Io.KnownBytes.{Appends}
use Rattle.raw_video.specs.RawText.{text_of}
use Rattle.raw_video.proofs.writing.write_samples.Given as goal

abbrev pub invariant-loop-done : goal.invariant-loop-done
invariant-loop-done g l =
    let written = g.K.Sink.written in
    let faults = g.K.Sink.faults in
    record {
      in_samples : l.done ≤ length l.samples;
      grew : Appends (written l.fn.sink) (written l.sink) (text_of l.wide (take l.done l.samples));
      steady : faults l.sink ≡ faults l.fn.sink;
    }

abbrev pub decreases-loop-done : goal.decreases-loop-done
decreases-loop-done g l = length l.samples - l.done
