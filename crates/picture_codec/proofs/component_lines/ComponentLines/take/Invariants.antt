use Rattle.std.proofs.Common.{◌≡◌, pos}
use Rattle.slice_geometry.specs.Frames.{frame_of}
use Rattle.slice_geometry.specs.Geometry.{padded_length}
use Rattle.transform_params.specs.Views.{params_of}
use Rattle.lifting.specs.RowAnalysis.{HasCome, ShowsFinished, HoldAnalysisIn}
use Rattle.picture_codec.specs.Pictures.{size_of}
use Rattle.picture_codec.specs.Samples.{component_shown, sample_bits}
use Rattle.picture_codec.specs.Encoding.{centred}
use Rattle.picture_codec.specs.EncoderInside.{AreLinesOf, bands_of}
use Rattle.picture_codec.proofs.component_lines.ComponentLines.take.Given as goal

abbrev pub ghost-take_line : goal.ghost-take_line
ghost-take_line a = centred (sample_bits a.picture.now a.c) (size_of (frame_of a.picture.now.shape) a.c) (component_shown a.picture.now a.c)

abbrev pub invariant-loop-y : goal.invariant-loop-y
invariant-loop-y l =
    let size = size_of (frame_of l.picture.shape) l.fn.c in
    let g = centred (sample_bits l.picture l.fn.c) size (component_shown l.picture l.fn.c) in
    record {
      lines : AreLinesOf (params_of l.params) size l.self;
      came : l.self.analysis.came ≡ l.y;
      rows : HasCome (λ v. v) (pos 0) g l.self.analysis;
      shown : ShowsFinished g l.self.analysis (bands_of l.self);
      whole : l.y ≡ padded_length l.params.layout.depth size.h → HoldAnalysisIn l.params.wavelet (bands_of l.self) (padded_length l.params.layout.depth size.w) (padded_length l.params.layout.depth size.h) g;
    }
