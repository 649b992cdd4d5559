use Rattle.std.proofs.Common.{◌+◌, true, false, length, sym, ◌∙◌, arith}
use Rattle.bit_codes.proofs.BitLemmas.{length-rest}
use Rattle.slice_geometry.specs.Slicing.{length_bits}
use Rattle.slice_geometry.proofs.LengthBits.{length_bits-fit}
use Rattle.slice_decoder.proofs.Dealt.{and-left, and-right}
use Rattle.slice_decoder.proofs.Decodes.{lt_tests, both-small, can-restore, holds-slice, bands-restored}
use Rattle.slice_decoder.proofs.SliceSteps.{SliceRead, IsHeaded, AreLowest, luma_of, colour_of, luma_block, colour_block, headed, others-kept}
use Rattle.slice_decoder.proofs.decode_slice.Goals as goal

pub overflow_sub-left-2 : goal.overflow_sub-left-2
overflow_sub-left-2 c =
    omega (arith, c.length_bits.ensures, length_bits-fit (length c.args.bytes.now) c.requires.some)

pub returns-then-head-left-clause-decoded : goal.returns-then-head-left-clause-decoded
returns-then-head-left-clause-decoded c =
    lt_tests _ _ (omega (arith, c.if-head-left.true, c.length_bits.ensures, c.head_of-head.ensures.luma_bits, length-rest c.args.bytes.now (7 + length_bits (length c.args.bytes.now))))

pub read_blocks-requires-clause-fits : goal.read_blocks-requires-clause-fits
read_blocks-requires-clause-fits c =
    omega (arith, c.if-head-left.false, c.length_bits.ensures, length_bits-fit (length c.args.bytes.now) c.requires.some)

pub read_blocks-requires-clause-job : goal.read_blocks-requires-clause-job
read_blocks-requires-clause-job c = record {
  luma_rects = c.level_rects-luma_rects.ensures;
  colour_rects = c.level_rects-colour_rects.ensures;
  across = c.requires.across;
  down = c.requires.down;
  qindex = c.head_of-head.ensures.small;
  entries = c.requires.entries;
}

pub read_blocks-requires-clause-luma_sizes : goal.read_blocks-requires-clause-luma_sizes
read_blocks-requires-clause-luma_sizes c = record { depth = c.requires.ready.luma.depth; sizes = c.requires.ready.luma.sizes }

pub read_blocks-requires-clause-c1_sizes : goal.read_blocks-requires-clause-c1_sizes
read_blocks-requires-clause-c1_sizes c = record { depth = c.requires.ready.c1.depth; sizes = c.requires.ready.c1.sizes }

pub read_blocks-requires-clause-c2_sizes : goal.read_blocks-requires-clause-c2_sizes
read_blocks-requires-clause-c2_sizes c = record { depth = c.requires.ready.c2.depth; sizes = c.requires.ready.c2.sizes }

pub returns-then-not-read_blocks-clause-decoded : goal.returns-then-not-read_blocks-clause-decoded
returns-then-not-read_blocks-clause-decoded c =
    let r : SliceRead = record { slicing = c.args.layout.now; shape = c.args.shape.now; sx = c.args.sx; sy = c.args.sy; matrix = c.args.matrix.now; bytes = c.args.bytes.now; head = c.head_of-head.result } in
    let head : IsHeaded r = headed r (omega (arith, c.if-head-left.false, c.length_bits.ensures, length_bits-fit (length c.args.bytes.now) c.requires.some)) c.head_of-head.ensures.qindex c.head_of-head.ensures.luma_bits in
    (head.fits, both-small _ _ _ _ false head.values.of_luma head.values.of_colour (sym c.if-not-read_blocks.true ∙ c.read_blocks.ensures.small))

pub returns-then-not-read_blocks-clause-others : goal.returns-then-not-read_blocks-clause-others
returns-then-not-read_blocks-clause-others c =
    let r : SliceRead = record { slicing = c.args.layout.now; shape = c.args.shape.now; sx = c.args.sx; sy = c.args.sy; matrix = c.args.matrix.now; bytes = c.args.bytes.now; head = c.head_of-head.result } in
    others-kept r c.args.bands.now c.read_blocks.new.bands c.read_blocks.ensures.luma_keeps c.read_blocks.ensures.c1_keeps c.read_blocks.ensures.c2_keeps

pub restore-requires : goal.restore-requires
restore-requires c =
    let r : SliceRead = record { slicing = c.args.layout.now; shape = c.args.shape.now; sx = c.args.sx; sy = c.args.sy; matrix = c.args.matrix.now; bytes = c.args.bytes.now; head = c.head_of-head.result } in
    let lowest : AreLowest r c.lowest_of-luma.result c.lowest_of-colour.result = record { luma_is = c.lowest_of-luma.ensures _ _ _ _ c.level_rects-luma_rects.ensures; colour_is = c.lowest_of-colour.ensures _ _ _ _ c.level_rects-colour_rects.ensures } in
    let good = c.if-not-read_blocks.false in
    can-restore 1 0 (luma_of r) (luma_block r) c.args.bands.now.luma c.read_blocks.new.bands.luma c.lowest_of-luma.result (omega arith) lowest.luma_is c.depth-depth.ensures.allowed.depth c.args.shape.now.luma_fits
    c.requires.across c.requires.down c.requires.ready.luma (c.read_blocks.ensures.luma_holds good) (and-left _ _ (sym (sym good ∙ c.read_blocks.ensures.small)))

pub restore-requires-2 : goal.restore-requires-2
restore-requires-2 c =
    let r : SliceRead = record { slicing = c.args.layout.now; shape = c.args.shape.now; sx = c.args.sx; sy = c.args.sy; matrix = c.args.matrix.now; bytes = c.args.bytes.now; head = c.head_of-head.result } in
    let lowest : AreLowest r c.lowest_of-luma.result c.lowest_of-colour.result = record { luma_is = c.lowest_of-luma.ensures _ _ _ _ c.level_rects-luma_rects.ensures; colour_is = c.lowest_of-colour.ensures _ _ _ _ c.level_rects-colour_rects.ensures } in
    let good = c.if-not-read_blocks.false in
    can-restore 2 0 (colour_of r) (colour_block r) c.args.bands.now.c1 c.read_blocks.new.bands.c1 c.lowest_of-colour.result (omega arith) lowest.colour_is c.depth-depth.ensures.allowed.depth c.args.shape.now.colour_fits
    c.requires.across c.requires.down c.requires.ready.c1 (c.read_blocks.ensures.c1_holds good) (and-right _ _ (sym (sym good ∙ c.read_blocks.ensures.small)))

pub restore-requires-3 : goal.restore-requires-3
restore-requires-3 c =
    let r : SliceRead = record { slicing = c.args.layout.now; shape = c.args.shape.now; sx = c.args.sx; sy = c.args.sy; matrix = c.args.matrix.now; bytes = c.args.bytes.now; head = c.head_of-head.result } in
    let lowest : AreLowest r c.lowest_of-luma.result c.lowest_of-colour.result = record { luma_is = c.lowest_of-luma.ensures _ _ _ _ c.level_rects-luma_rects.ensures; colour_is = c.lowest_of-colour.ensures _ _ _ _ c.level_rects-colour_rects.ensures } in
    let good = c.if-not-read_blocks.false in
    can-restore 2 1 (colour_of r) (colour_block r) c.args.bands.now.c2 c.read_blocks.new.bands.c2 c.lowest_of-colour.result (omega arith) lowest.colour_is c.depth-depth.ensures.allowed.depth c.args.shape.now.colour_fits
    c.requires.across c.requires.down c.requires.ready.c2 (c.read_blocks.ensures.c2_holds good) (and-right _ _ (sym (sym good ∙ c.read_blocks.ensures.small)))

pub returns-clause-decoded : goal.returns-clause-decoded
returns-clause-decoded c =
    let r : SliceRead = record { slicing = c.args.layout.now; shape = c.args.shape.now; sx = c.args.sx; sy = c.args.sy; matrix = c.args.matrix.now; bytes = c.args.bytes.now; head = c.head_of-head.result } in
    let head : IsHeaded r = headed r (omega (arith, c.if-head-left.false, c.length_bits.ensures, length_bits-fit (length c.args.bytes.now) c.requires.some)) c.head_of-head.ensures.qindex c.head_of-head.ensures.luma_bits in
    let lowest : AreLowest r c.lowest_of-luma.result c.lowest_of-colour.result = record { luma_is = c.lowest_of-luma.ensures _ _ _ _ c.level_rects-luma_rects.ensures; colour_is = c.lowest_of-colour.ensures _ _ _ _ c.level_rects-colour_rects.ensures } in
    let read = c.read_blocks.ensures in
    let good = c.if-not-read_blocks.false in
    record {
      qindex = head.qindex;
      luma_bits = head.luma_bits;
      fits = head.fits;
      small = both-small _ _ _ _ true head.values.of_luma head.values.of_colour (sym good ∙ read.small);
      luma = holds-slice 1 0 (luma_of r) (luma_block r) c.args.bands.now.luma c.read_blocks.new.bands.luma c.restore.new.bands c.lowest_of-luma.result _ (omega arith) lowest.luma_is head.values.of_luma (read.luma_holds good) c.restore.ensures.restored c.restore.ensures.others;
      c1 = holds-slice 2 0 (colour_of r) (colour_block r) c.args.bands.now.c1 c.read_blocks.new.bands.c1 c.restore-2.new.bands c.lowest_of-colour.result _ (omega arith) lowest.colour_is head.values.of_colour (read.c1_holds good) c.restore-2.ensures.restored c.restore-2.ensures.others;
      c2 = holds-slice 2 1 (colour_of r) (colour_block r) c.args.bands.now.c2 c.read_blocks.new.bands.c2 c.restore-3.new.bands c.lowest_of-colour.result _ (omega arith) lowest.colour_is head.values.of_colour (read.c2_holds good) c.restore-3.ensures.restored c.restore-3.ensures.others;
    }

pub returns-clause-others : goal.returns-clause-others
returns-clause-others c =
    let r : SliceRead = record { slicing = c.args.layout.now; shape = c.args.shape.now; sx = c.args.sx; sy = c.args.sy; matrix = c.args.matrix.now; bytes = c.args.bytes.now; head = c.head_of-head.result } in
    let lowest : AreLowest r c.lowest_of-luma.result c.lowest_of-colour.result = record { luma_is = c.lowest_of-luma.ensures _ _ _ _ c.level_rects-luma_rects.ensures; colour_is = c.lowest_of-colour.ensures _ _ _ _ c.level_rects-colour_rects.ensures } in
    others-kept r c.args.bands.now (record { luma = c.restore.new.bands; c1 = c.restore-2.new.bands; c2 = c.restore-3.new.bands })
    (bands-restored (luma_of r) c.args.bands.now.luma c.read_blocks.new.bands.luma c.restore.new.bands c.lowest_of-luma.result lowest.luma_is c.read_blocks.ensures.luma_keeps c.restore.ensures.depth c.restore.ensures.restored c.restore.ensures.others)
    (bands-restored (colour_of r) c.args.bands.now.c1 c.read_blocks.new.bands.c1 c.restore-2.new.bands c.lowest_of-colour.result lowest.colour_is c.read_blocks.ensures.c1_keeps c.restore-2.ensures.depth c.restore-2.ensures.restored c.restore-2.ensures.others)
    (bands-restored (colour_of r) c.args.bands.now.c2 c.read_blocks.new.bands.c2 c.restore-3.new.bands c.lowest_of-colour.result lowest.colour_is c.read_blocks.ensures.c2_keeps c.restore-3.ensures.depth c.restore-3.ensures.restored c.restore-3.ensures.others)
