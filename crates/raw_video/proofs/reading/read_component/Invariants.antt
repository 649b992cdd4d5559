use Rattle.std.proofs.Common.{◌≡◌, ◌≢◌, ◌*◌, ◌^◌, min, length, take, replicate, Ok}
use Rattle.slice_geometry.specs.declared.Component.{Component}
use Rattle.picture_codec.specs.Samples.{component_shown, width_of, height_of, sample_bits}
use Rattle.raw_video.specs.Reading.{ReadsSamples}
use Rattle.raw_video.proofs.reading.read_component.Given as goal

abbrev pub invariant-loop-piece : goal.invariant-loop-piece
invariant-loop-piece g l =
    let rest = g.S.Source.rest in
    let faults = g.S.Source.faults in
    let done = min l.count (l.most * l.piece) in
    record {
      bytes_long : length l.bytes ≡ 4096;
      long : length l.samples ≡ 4096;
      same_shape : l.picture.shape ≡ l.fn.picture.shape;
      many : length (component_shown l.picture l.c).cells ≡ l.count;
      size : height_of l.picture l.c * width_of l.picture l.c ≡ l.count;
      below : 2 ^ sample_bits l.picture l.c ≡ l.bound;
      so_far : ReadsSamples l.wide l.start l.room (replicate done l.bound) (rest l.fn.src) (rest l.src) (take done (component_shown l.picture l.c).cells) (Ok tt);
      others : (other : Component) → other ≢ l.c → component_shown l.picture other ≡ component_shown l.fn.picture other;
      steady : faults l.src ≡ faults l.fn.src;
    }
