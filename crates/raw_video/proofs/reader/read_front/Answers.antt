use Rattle.std.proofs.Common.{◌≡◌, ◌+◌, ◌-◌, ◌*◌, ◌^◌, ℕ, Option, List, ◌++◌, length, refl, ap, sym, subst, ◌∙◌, Err, arith}
use Rattle.std.proofs.lemmas.Grind.{common_steps}
use Rattle.slice_geometry.specs.declared.PictureShape.{PictureShape}
use Rattle.slice_geometry.specs.Frames.{frame_of}
use Rattle.raw_video.specs.RawText.{is_wide}
use Rattle.raw_video.specs.RawParse.{sample_size, sample_bounds, picture_from}
use Rattle.raw_video.specs.Reading.{ReadsSamples}
use Rattle.raw_video.specs.declared.reading.Halt.{Halt}
use Rattle.raw_video.specs.declared.reading.Halt.TheVariants.{Large}
use Rattle.raw_video.proofs.Fronts.{read_picture, read_large}
use Rattle.raw_video.proofs.ComponentTurns.{number_few, size_few, seen_is}
use Rattle.raw_video.proofs.reader.read_front.Goals as goal

-- what halted the read of the samples
halted : (shape : PictureShape) (room : ℕ) (rest0 rest1 : Option (List ℕ)) (cells : List ℕ) (halt : Halt) (n : ℕ) → halt ≡ Large n
    → ReadsSamples (is_wide (frame_of shape)) 0 room (sample_bounds (frame_of shape)) rest0 rest1 cells (Err halt) → ReadsSamples (is_wide (frame_of shape)) 0 room (sample_bounds (frame_of shape)) rest0 rest1 cells (Err (Large n))
halted shape room rest0 rest1 cells halt n is r = subst (λ (h : Halt). ReadsSamples (is_wide (frame_of shape)) 0 room (sample_bounds (frame_of shape)) rest0 rest1 cells (Err h)) is r

pub bytes_of-requires : goal.bytes_of-requires
bytes_of-requires g c =
    let rest = g.S.Source.rest in
    let shape = c.args.picture.now.shape in
    number_few shape _ c.in-Err-Large.k (rest c.args.src.now) (rest c.read_samples.new.src) _ (halted shape _ _ _ _ c.in-Err-Large.field-0 c.in-Err-Large.k c.in-Err-Large.field-0-is c.in-Err-Large.ensures.read)

pub overflow_add-result : goal.overflow_add-result
overflow_add-result g c =
    let rest = g.S.Source.rest in
    let shape = c.args.picture.now.shape in
    let few = number_few shape _ c.in-Err-Large.k (rest c.args.src.now) (rest c.read_samples.new.src) _ (halted shape _ _ _ _ c.in-Err-Large.field-0 c.in-Err-Large.k c.in-Err-Large.field-0-is c.in-Err-Large.ensures.read) in
    omega (arith, few, size_few c.are_wide-wide.result c.in-Err-Large.k, c.bytes_of.ensures, c.requires)

pub returns-in-Ok-clause-front : goal.returns-in-Ok-clause-front
returns-in-Ok-clause-front g c =
    let rest = g.S.Source.rest in
    let shape = c.args.picture.now.shape in
    let p = c.read_samples.new.picture in
    let cells = p.samples.luma.cells ++ (p.samples.c1.cells ++ p.samples.c2.cells) in
    let count = λ (n : ℕ) (l : List ℕ) (l' : List ℕ) (e : l ≡ l') (m : length l ≡ n). (let is : length l' ≡ n = ap (λ (x : List ℕ). length x) (sym e) ∙ m in is) in
    let seen = seen_is p c.samples.ensures.width c.samples.ensures.height c.samples-in-Ok.ensures.width c.samples-in-Ok.ensures.height c.samples-in-Ok-2.ensures.width c.samples-in-Ok-2.ensures.height
    (count _ _ _ c.samples.ensures.value c.samples.ensures.count) (count _ _ _ c.samples-in-Ok.ensures.value c.samples-in-Ok.ensures.count) in
    let is : picture_from (frame_of shape) cells ≡ p.samples = ap (λ (s : PictureShape). picture_from (frame_of s) cells) (sym c.in-Ok.ensures.same_shape) ∙ seen in
    read_picture (frame_of shape) c.args.place c.requires (rest c.args.src.now) (rest c.read_samples.new.src) cells p.samples refl is c.in-Ok.ensures.read

pub returns-in-Err-Large-clause-front : goal.returns-in-Err-Large-clause-front
returns-in-Err-Large-clause-front g c =
    let rest = g.S.Source.rest in
    let shape = c.args.picture.now.shape in
    let p = c.read_samples.new.picture in
    let r = halted shape _ _ _ _ c.in-Err-Large.field-0 c.in-Err-Large.k c.in-Err-Large.field-0-is c.in-Err-Large.ensures.read in
    let wide = c.are_wide-wide.ensures ∙ ap (λ (s : PictureShape). is_wide (frame_of s)) (c.shape.ensures ∙ c.in-Err-Large.ensures.same_shape) in
    let at : c.args.place + c.bytes_of.result ≡ c.args.place + sample_size (is_wide (frame_of shape)) * c.in-Err-Large.k = ap (λ (n : ℕ). c.args.place + n) (c.bytes_of.ensures ∙ ap (λ w. sample_size w * c.in-Err-Large.k) wide) in
    read_large (frame_of shape) c.args.place c.requires (rest c.args.src.now) (rest c.read_samples.new.src) _ p.samples c.in-Err-Large.k (c.args.place + c.bytes_of.result) at r

pub returns-in-Err-Ended-clause-front : goal.returns-in-Err-Ended-clause-front
returns-in-Err-Ended-clause-front g c =
    let rest = g.S.Source.rest in
    let f = frame_of c.args.picture.now.shape in
    let p = c.read_samples.new.picture.samples in
    let cells = p.luma.cells ++ (p.c1.cells ++ p.c2.cells) in
    c.without_picture.ensures.front f (rest c.args.src.now) cells p
    (subst (λ (h : Halt). ReadsSamples (is_wide f) 0 (2 ^ 40 - c.args.place) (sample_bounds f) (rest c.args.src.now) (rest c.read_samples.new.src) cells (Err h)) c.in-Err-Ended.field-0-is c.in-Err-Ended.ensures.read)

pub returns-in-Err-ReadFault-clause-front : goal.returns-in-Err-ReadFault-clause-front
returns-in-Err-ReadFault-clause-front c = grind (arith, common_steps)

pub returns-in-Err-Large-clause-cause : goal.returns-in-Err-Large-clause-cause
returns-in-Err-Large-clause-cause c = grind (arith, common_steps)

pub returns-in-Ok-clause-cause : goal.returns-in-Ok-clause-cause
returns-in-Ok-clause-cause c = grind (arith, common_steps)

pub returns-in-Err-Ended-clause-cause : goal.returns-in-Err-Ended-clause-cause
returns-in-Err-Ended-clause-cause c = grind (arith, common_steps)

pub returns-in-Err-ReadFault-clause-cause : goal.returns-in-Err-ReadFault-clause-cause
returns-in-Err-ReadFault-clause-cause c = grind (arith, common_steps)

pub without_picture-requires : goal.without_picture-requires
without_picture-requires c = grind (arith, common_steps)

pub overflow_sub-place : goal.overflow_sub-place
overflow_sub-place c = omega arith
