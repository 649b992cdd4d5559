use Rattle.std.proofs.Common.{◌≡◌, ◌∙◌}
use Rattle.stream_rows.proofs.Frames.{frame_is}
use Rattle.vc2_words.specs.Settings.{Asked}
use Rattle.vc2_words.specs.Shown.{shown}
use Rattle.vc2_cli.specs.Trial.{nothing_compared, trial_worst}
use Rattle.vc2_cli.specs.TrialTurn.{comparison_of}
use Rattle.vc2_cli.proofs.TrialCompared.{begins_as, compared_here, is_compared}
use Rattle.vc2_cli.proofs.comparing.compare_video.Goals as goal

pub found_worst-requires : goal.found_worst-requires
found_worst-requires c =
    let a = c.args in
    let s : Asked = shown a.settings.now in
    let start_is : comparison_of c.new-2.result a.part.pictures 0 ≡ nothing_compared s a.part = begins_as s a.part c.new-2.result c.picture_shape-shape.result c.new-2.ensures (frame_is s.parts c.picture_shape-shape.result c.picture_shape-shape.ensures) in
    let e = compared_here s a.part c.requires.lawful c.requires.steep (comparison_of c.new-2.result a.part.pictures 0) c.new-src.result start_is (c.new-src.ensures ∙ c.requires.stream) in
    (trial_worst s a.part, is_compared _ _ c.new-src.result (trial_worst s a.part) c.run_units-outcome.result c.run_units-outcome.ensures.runs.ran c.run_units-outcome.ensures.runs.cause e)

pub returns-in-Ok-made : goal.returns-in-Ok-made
returns-in-Ok-made c =
    let a = c.args in
    let s : Asked = shown a.settings.now in
    let start_is : comparison_of c.new-2.result a.part.pictures 0 ≡ nothing_compared s a.part = begins_as s a.part c.new-2.result c.picture_shape-shape.result c.new-2.ensures (frame_is s.parts c.picture_shape-shape.result c.picture_shape-shape.ensures) in
    let e = compared_here s a.part c.requires.lawful c.requires.steep (comparison_of c.new-2.result a.part.pictures 0) c.new-src.result start_is (c.new-src.ensures ∙ c.requires.stream) in
    c.found_worst.ensures (trial_worst s a.part) (is_compared _ _ c.new-src.result (trial_worst s a.part) c.run_units-outcome.result c.run_units-outcome.ensures.runs.ran c.run_units-outcome.ensures.runs.cause e)
