use Rattle.std.proofs.Common.{◌≡◌, ◌+◌, ◌^◌, ℕ, List, ◌++◌, length, replicate, Option, Result, sym, subst, ◌∙◌, arith}
use Rattle.std.proofs.lemmas.Grind.{common_steps}
use Rattle.std.proofs.lemmas.Result.{err_from_is_err_and}
use Rattle.slice_geometry.specs.declared.Component.TheVariants.{Luma, C1, C2}
use Rattle.slice_geometry.specs.declared.PictureShape.{PictureShape}
use Rattle.slice_geometry.specs.Frames.{frame_of}
use Rattle.picture_codec.specs.Samples.{SamplesSeen, component_shown}
use Rattle.raw_video.specs.RawText.{is_wide}
use Rattle.raw_video.specs.RawParse.{luma_count, colour_count, sample_bounds}
use Rattle.raw_video.specs.Reading.{ReadsSamples}
use Rattle.raw_video.specs.declared.reading.Halt.{Halt}
use Rattle.raw_video.proofs.ComponentTurns.{luma_halted, c1_halted, c2_read}
use Rattle.raw_video.proofs.reading.read_samples.Goals as goal

pub returns-in_err-read_component-clause-read : goal.returns-in_err-read_component-clause-read
returns-in_err-read_component-clause-read g c =
    let rest = g.S.Source.rest in
    let f = frame_of c.args.picture.now.shape in
    let p = err_from_is_err_and c.from_residual.result c.from_residual.ensures.1 in
    rw (p.1, p.2)
    (luma_halted f c.args.room (rest c.args.src.now) (rest c.read_component.new.src) (component_shown c.read_component.new.picture Luma).cells _ _ c.in_err-read_component.ensures.read)

-- a colour component's read, by the picture's shape and the place where it begins
of_shape : (shape shape' : PictureShape) (start start' room : ℕ) (rest0 rest1 : Option (List ℕ)) (samples : List ℕ) (result : Result (Unit {0}) Halt) → shape ≡ shape' → start ≡ start'
    → ReadsSamples (is_wide (frame_of shape)) start room (replicate (colour_count (frame_of shape)) (2 ^ shape.colour_depth)) rest0 rest1 samples result
    → ReadsSamples (is_wide (frame_of shape')) start' room (replicate (colour_count (frame_of shape')) (2 ^ shape'.colour_depth)) rest0 rest1 samples result
of_shape shape shape' start start' room rest0 rest1 samples result same place r =
    subst (λ (s : PictureShape). ReadsSamples (is_wide (frame_of s)) start' room (replicate (colour_count (frame_of s)) (2 ^ s.colour_depth)) rest0 rest1 samples result) same
    (subst (λ (k : ℕ). ReadsSamples (is_wide (frame_of shape)) k room (replicate (colour_count (frame_of shape)) (2 ^ shape.colour_depth)) rest0 rest1 samples result) place r)

pub returns-in_err-read_component-2-clause-read : goal.returns-in_err-read_component-2-clause-read
returns-in_err-read_component-2-clause-read g c =
    let rest = g.S.Source.rest in
    let shape = c.args.picture.now.shape in
    let p1 = c.read_component.new.picture in
    let p2 = c.read_component-2.new.picture in
    let p = err_from_is_err_and c.from_residual-in_err-read_component-2.result c.from_residual-in_err-read_component-2.ensures.1 in
    let second = of_shape p1.shape shape _ _ c.args.room (rest c.read_component.new.src) (rest c.read_component-2.new.src) (component_shown p2 C1).cells _ c.in_ok-read_component.ensures.same_shape c.samples-luma.ensures.count c.in_err-read_component-2.ensures.read in
    rw (p.1, p.2)
    (c1_halted (frame_of shape) c.args.room (rest c.args.src.now) (rest c.read_component.new.src) (component_shown p1 Luma).cells c.in_ok-read_component.ensures.read (rest c.read_component-2.new.src) (component_shown p2 C1).cells _ _ second)

pub returns-clause-read : goal.returns-clause-read
returns-clause-read g c =
    let rest = g.S.Source.rest in
    let shape = c.args.picture.now.shape in
    let p1 = c.read_component.new.picture in
    let p2 = c.read_component-2.new.picture in
    let p3 = c.read_component-3.new.picture in
    let place : length c.samples-luma.result.now + length c.samples-colour.result.now ≡ luma_count (frame_of shape) + colour_count (frame_of shape) = omega (arith, c.samples-luma.ensures.count, c.samples-colour.ensures.count) in
    let second = of_shape p1.shape shape _ _ c.args.room (rest c.read_component.new.src) (rest c.read_component-2.new.src) (component_shown p2 C1).cells _ c.in_ok-read_component.ensures.same_shape c.samples-luma.ensures.count c.in_ok-read_component-2.ensures.read in
    let third = of_shape p2.shape shape _ _ c.args.room (rest c.read_component-2.new.src) (rest c.read_component-3.new.src) (component_shown p3 C2).cells _ (c.in_ok-read_component-2.ensures.same_shape ∙ c.in_ok-read_component.ensures.same_shape) place c.read_component-3.ensures.read in
    let luma : component_shown p3 Luma ≡ component_shown p1 Luma = c.read_component-3.ensures.others Luma (λ e. cc) ∙ c.in_ok-read_component-2.ensures.others Luma (λ e. cc) in
    let c1 : component_shown p3 C1 ≡ component_shown p2 C1 = c.read_component-3.ensures.others C1 (λ e. cc) in
    let all = c2_read (frame_of shape) c.args.room (rest c.args.src.now) (rest c.read_component.new.src) (component_shown p1 Luma).cells c.in_ok-read_component.ensures.read (rest c.read_component-2.new.src) (rest c.read_component-3.new.src) (component_shown p2 C1).cells (component_shown p3 C2).cells c.read_component-3.result second third in
    subst (λ (r : SamplesSeen). ReadsSamples (is_wide (frame_of shape)) 0 c.args.room (sample_bounds (frame_of shape)) (rest c.args.src.now) (rest c.read_component-3.new.src) (r.cells ++ (p3.samples.c1.cells ++ p3.samples.c2.cells)) c.read_component-3.result) (sym luma)
    (subst (λ (r : SamplesSeen). ReadsSamples (is_wide (frame_of shape)) 0 c.args.room (sample_bounds (frame_of shape)) (rest c.args.src.now) (rest c.read_component-3.new.src) ((component_shown p1 Luma).cells ++ (r.cells ++ p3.samples.c2.cells)) c.read_component-3.result) (sym c1) all)

pub read_component-requires-3-clause-inside : goal.read_component-requires-3-clause-inside
read_component-requires-3-clause-inside c = grind (arith, common_steps)

pub read_component-requires-2-clause-inside : goal.read_component-requires-2-clause-inside
read_component-requires-2-clause-inside c = grind (arith, common_steps)

pub returns-clause-cause : goal.returns-clause-cause
returns-clause-cause c = grind (arith, common_steps)

pub returns-in_err-read_component-2-clause-cause : goal.returns-in_err-read_component-2-clause-cause
returns-in_err-read_component-2-clause-cause c = grind (arith, common_steps)

pub read_component-requires-3-clause-start_few : goal.read_component-requires-3-clause-start_few
read_component-requires-3-clause-start_few c = grind (arith, common_steps)

pub returns-in_err-read_component-clause-cause : goal.returns-in_err-read_component-clause-cause
returns-in_err-read_component-clause-cause c = grind (arith, common_steps)
