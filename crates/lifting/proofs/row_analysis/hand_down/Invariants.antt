use Rattle.std.proofs.Common.{◌≡◌, ℕ, ◌<◌}
use Rattle.planes.specs.Raster.{at}
use Rattle.planes.specs.Subbands.{band_of, AgreeInSizes}
use Rattle.lifting.specs.Bands.{lowest}
use Rattle.lifting.specs.RowAnalysis.{ShowsLevels, coming_at}
use Rattle.lifting.proofs.RowsInTurn.{HaveTaken}
use Rattle.lifting.proofs.row_analysis.hand_down.Given as goal

abbrev pub ghost-take_next : goal.ghost-take_next
ghost-take_next g a = coming_at a.wavelet g.c a.j

abbrev pub invariant-loop-j : goal.invariant-loop-j
invariant-loop-j G l =
    let stack = G.S.RowSink.stack in
    record {
      taken : HaveTaken G.T.Number.value G.T.Number.none l.wavelet G.c l.j l.fn.levels l.levels;
      opened : G.S.RowSink.is_open l.sink;
      stays : G.S.RowSink.stays l.fn.sink l.sink;
      agree : AgreeInSizes (stack l.fn.sink) (stack l.sink);
      shown : ShowsLevels l.wavelet G.c l.fn.levels (stack l.fn.sink) → ShowsLevels l.wavelet G.c l.levels (stack l.sink);
      lowest : (y x : ℕ) → y < lowest G.c.depth G.c.h → x < lowest G.c.depth G.c.w → at (band_of (stack l.sink) 0 0) y x ≡ at (band_of (stack l.fn.sink) 0 0) y x;
    }
