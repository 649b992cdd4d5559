use Rattle.std.proofs.Common.{◌+◌, ◌^◌, pos, length, arith}
use Rattle.bit_codes.proofs.BitLemmas.{length-rest}
use Rattle.planes.specs.Subbands.{BandStack}
use Rattle.slice_geometry.specs.Slicing.{length_bits}
use Rattle.slice_geometry.proofs.LengthBits.{length_bits-fit}
use Rattle.slice_decoder.specs.Narrow.{trio_of, trio_by}
use Rattle.slice_decoder.proofs.Decodes.{lt_tests}
use Rattle.slice_decoder.proofs.SliceSteps.{SliceRead, IsHeaded, AreLowest, headed, wide-after-reading, others-after-reading, lie-in-lowest, wide-where-stopped, others-after-restoring, decoded-slice}
use Rattle.slice_decoder.proofs.narrow_slice.decode_narrow.Goals as goal

pub overflow_sub-left-2 : goal.overflow_sub-left-2
overflow_sub-left-2 c =
    omega (arith, c.length_bits.ensures, length_bits-fit (length c.args.coded.bytes.now) c.requires.some)

pub returns-then-head-left-clause-decoded : goal.returns-then-head-left-clause-decoded
returns-then-head-left-clause-decoded c =
    lt_tests _ _ (omega (arith, c.if-head-left.true, c.length_bits.ensures, c.head_of-head.ensures.luma_bits, length-rest c.args.coded.bytes.now (7 + length_bits (length c.args.coded.bytes.now))))

pub read_blocks-requires-clause-fits : goal.read_blocks-requires-clause-fits
read_blocks-requires-clause-fits c =
    omega (arith, c.if-head-left.false, c.length_bits.ensures, length_bits-fit (length c.args.coded.bytes.now) c.requires.some)

pub read_blocks-requires-clause-job : goal.read_blocks-requires-clause-job
read_blocks-requires-clause-job c = record {
  luma_rects = c.level_rects-luma_rects.ensures;
  colour_rects = c.level_rects-colour_rects.ensures;
  across = c.requires.across;
  down = c.requires.down;
  qindex = c.head_of-head.ensures.small;
  entries = c.requires.entries;
}

pub read_blocks-requires-clause-luma_sizes : goal.read_blocks-requires-clause-luma_sizes
read_blocks-requires-clause-luma_sizes c = record { depth = c.requires.ready.luma.depth; sizes = c.requires.ready.luma.sizes }

pub read_blocks-requires-clause-c1_sizes : goal.read_blocks-requires-clause-c1_sizes
read_blocks-requires-clause-c1_sizes c = record { depth = c.requires.ready.c1.depth; sizes = c.requires.ready.c1.sizes }

pub read_blocks-requires-clause-c2_sizes : goal.read_blocks-requires-clause-c2_sizes
read_blocks-requires-clause-c2_sizes c = record { depth = c.requires.ready.c2.depth; sizes = c.requires.ready.c2.sizes }

pub returns-then-not-read_blocks-clause-decoded : goal.returns-then-not-read_blocks-clause-decoded
returns-then-not-read_blocks-clause-decoded c =
    let r : SliceRead = record { slicing = c.args.coded.layout.now; shape = c.args.coded.shape.now; sx = c.args.coded.sx; sy = c.args.coded.sy; matrix = c.args.coded.matrix.now; bytes = c.args.coded.bytes.now; head = c.head_of-head.result } in
    let head : IsHeaded r = headed r (omega (arith, c.if-head-left.false, c.length_bits.ensures, length_bits-fit (length c.args.coded.bytes.now) c.requires.some)) c.head_of-head.ensures.qindex c.head_of-head.ensures.luma_bits in
    wide-after-reading (pos (2 ^ 18)) (length c.args.buffer.now) (length c.read_ahead.new.kept) r (trio_of c.args.bands.now) (trio_of c.read_blocks.new.bands) (trio_of c.read_blocks.new.bands) head c.read_ahead.auto.kept c.if-not-read_blocks.ensures.read

pub returns-then-not-read_blocks-clause-others : goal.returns-then-not-read_blocks-clause-others
returns-then-not-read_blocks-clause-others c =
    let r : SliceRead = record { slicing = c.args.coded.layout.now; shape = c.args.coded.shape.now; sx = c.args.coded.sx; sy = c.args.coded.sy; matrix = c.args.coded.matrix.now; bytes = c.args.coded.bytes.now; head = c.head_of-head.result } in
    others-after-reading (pos (2 ^ 18)) (length c.read_ahead.new.kept) r (trio_of c.args.bands.now) (trio_of c.read_blocks.new.bands) _ c.read_blocks.ensures.read

pub restore_all-requires-clause-inside : goal.restore_all-requires-clause-inside
restore_all-requires-clause-inside c =
    let r : SliceRead = record { slicing = c.args.coded.layout.now; shape = c.args.coded.shape.now; sx = c.args.coded.sx; sy = c.args.coded.sy; matrix = c.args.coded.matrix.now; bytes = c.args.coded.bytes.now; head = c.head_of-head.result } in
    let lowest : AreLowest r c.lowest_of-luma.result c.lowest_of-colour.result = record { luma_is = c.lowest_of-luma.ensures _ _ _ _ c.level_rects-luma_rects.ensures; colour_is = c.lowest_of-colour.ensures _ _ _ _ c.level_rects-colour_rects.ensures } in
    lie-in-lowest (pos (2 ^ 18)) (length c.read_ahead.new.kept) r (trio_of c.args.bands.now) (trio_of c.read_blocks.new.bands) c.lowest_of-luma.result c.lowest_of-colour.result lowest c.requires.across c.requires.down
    (record { depth = c.requires.ready.luma.depth; sizes = c.requires.ready.luma.sizes }) (record { depth = c.requires.ready.c1.depth; sizes = c.requires.ready.c1.sizes }) (record { depth = c.requires.ready.c2.depth; sizes = c.requires.ready.c2.sizes })
    c.if-not-read_blocks.ensures.read

pub returns-then-not-restore_all-clause-decoded : goal.returns-then-not-restore_all-clause-decoded
returns-then-not-restore_all-clause-decoded c =
    let r : SliceRead = record { slicing = c.args.coded.layout.now; shape = c.args.coded.shape.now; sx = c.args.coded.sx; sy = c.args.coded.sy; matrix = c.args.coded.matrix.now; bytes = c.args.coded.bytes.now; head = c.head_of-head.result } in
    let head : IsHeaded r = headed r (omega (arith, c.if-head-left.false, c.length_bits.ensures, length_bits-fit (length c.args.coded.bytes.now) c.requires.some)) c.head_of-head.ensures.qindex c.head_of-head.ensures.luma_bits in
    let lowest : AreLowest r c.lowest_of-luma.result c.lowest_of-colour.result = record { luma_is = c.lowest_of-luma.ensures _ _ _ _ c.level_rects-luma_rects.ensures; colour_is = c.lowest_of-colour.ensures _ _ _ _ c.level_rects-colour_rects.ensures } in
    wide-where-stopped (pos (2 ^ 18)) (length c.read_ahead.new.kept) r (trio_of c.args.bands.now) (trio_of c.read_blocks.new.bands) (trio_by (λ (b : BandStack). b) c.restore_all.new.luma c.restore_all.new.c1 c.restore_all.new.c2) c.lowest_of-luma.result c.lowest_of-colour.result lowest c.if-not-read_blocks.ensures.read
    (length c.args.buffer.now) head (c.restore_all.ensures.stopped c.if-not-restore_all.true)

pub returns-then-not-restore_all-clause-others : goal.returns-then-not-restore_all-clause-others
returns-then-not-restore_all-clause-others c =
    let r : SliceRead = record { slicing = c.args.coded.layout.now; shape = c.args.coded.shape.now; sx = c.args.coded.sx; sy = c.args.coded.sy; matrix = c.args.coded.matrix.now; bytes = c.args.coded.bytes.now; head = c.head_of-head.result } in
    let lowest : AreLowest r c.lowest_of-luma.result c.lowest_of-colour.result = record { luma_is = c.lowest_of-luma.ensures _ _ _ _ c.level_rects-luma_rects.ensures; colour_is = c.lowest_of-colour.ensures _ _ _ _ c.level_rects-colour_rects.ensures } in
    others-after-restoring (pos (2 ^ 18)) (length c.read_ahead.new.kept) r (trio_of c.args.bands.now) (trio_of c.read_blocks.new.bands) (trio_by (λ (b : BandStack). b) c.restore_all.new.luma c.restore_all.new.c1 c.restore_all.new.c2) c.lowest_of-luma.result c.lowest_of-colour.result lowest c.if-not-read_blocks.ensures.read
    c.restore_all.ensures.keeps

pub returns-clause-decoded : goal.returns-clause-decoded
returns-clause-decoded c =
    let r : SliceRead = record { slicing = c.args.coded.layout.now; shape = c.args.coded.shape.now; sx = c.args.coded.sx; sy = c.args.coded.sy; matrix = c.args.coded.matrix.now; bytes = c.args.coded.bytes.now; head = c.head_of-head.result } in
    let head : IsHeaded r = headed r (omega (arith, c.if-head-left.false, c.length_bits.ensures, length_bits-fit (length c.args.coded.bytes.now) c.requires.some)) c.head_of-head.ensures.qindex c.head_of-head.ensures.luma_bits in
    let lowest : AreLowest r c.lowest_of-luma.result c.lowest_of-colour.result = record { luma_is = c.lowest_of-luma.ensures _ _ _ _ c.level_rects-luma_rects.ensures; colour_is = c.lowest_of-colour.ensures _ _ _ _ c.level_rects-colour_rects.ensures } in
    decoded-slice (pos (2 ^ 18)) (length c.read_ahead.new.kept) r (trio_of c.args.bands.now) (trio_of c.read_blocks.new.bands) (trio_by (λ (b : BandStack). b) c.restore_all.new.luma c.restore_all.new.c1 c.restore_all.new.c2) c.lowest_of-luma.result c.lowest_of-colour.result lowest c.if-not-read_blocks.ensures.read
    head (c.restore_all.ensures.restored c.if-not-restore_all.false) c.restore_all.ensures.keeps

pub returns-clause-others : goal.returns-clause-others
returns-clause-others c =
    let r : SliceRead = record { slicing = c.args.coded.layout.now; shape = c.args.coded.shape.now; sx = c.args.coded.sx; sy = c.args.coded.sy; matrix = c.args.coded.matrix.now; bytes = c.args.coded.bytes.now; head = c.head_of-head.result } in
    let lowest : AreLowest r c.lowest_of-luma.result c.lowest_of-colour.result = record { luma_is = c.lowest_of-luma.ensures _ _ _ _ c.level_rects-luma_rects.ensures; colour_is = c.lowest_of-colour.ensures _ _ _ _ c.level_rects-colour_rects.ensures } in
    others-after-restoring (pos (2 ^ 18)) (length c.read_ahead.new.kept) r (trio_of c.args.bands.now) (trio_of c.read_blocks.new.bands) (trio_by (λ (b : BandStack). b) c.restore_all.new.luma c.restore_all.new.c1 c.restore_all.new.c2) c.lowest_of-luma.result c.lowest_of-colour.result lowest c.if-not-read_blocks.ensures.read
    c.restore_all.ensures.keeps
