use Rattle.std.proofs.Common.{◌+◌, ◌∙◌, length, refl, ap, arith}
use Rattle.bit_codes.proofs.BitLemmas.{length-rest}
use Rattle.slice_store.specs.declared.short_bands.TheConstants.{MAX_SHORT}
use Rattle.slice_store.specs.ShortBands.{short_stack}
use Rattle.slice_geometry.specs.Slicing.{length_bits}
use Rattle.slice_geometry.specs.SliceOrder.{area}
use Rattle.slice_geometry.proofs.LengthBits.{length_bits-fit}
use Rattle.slice_decoder.specs.Narrow.{trio_by}
use Rattle.slice_decoder.specs.Short.{shown_trio}
use Rattle.slice_decoder.proofs.Decodes.{lt_tests}
use Rattle.slice_decoder.proofs.ShortTakes.{cut_sizes, cut_depth, column-inside, row-inside, cut-rect, cut-low}
use Rattle.slice_decoder.proofs.SliceSteps.{SliceRead, IsHeaded, AreLowest, headed, wide-after-reading, others-after-reading, lie-in-lowest, wide-where-stopped, others-after-restoring, decoded-slice}
use Rattle.slice_decoder.proofs.short_slice.decode_short.Goals as goal

pub overflow_sub-left-2 : goal.overflow_sub-left-2
overflow_sub-left-2 c =
    omega (arith, c.length_bits.ensures, length_bits-fit (length c.args.coded.bytes.now) c.requires.some)

pub returns-then-head-left-clause-decoded : goal.returns-then-head-left-clause-decoded
returns-then-head-left-clause-decoded c =
    lt_tests _ _ (omega (arith, c.if-head-left.true, c.length_bits.ensures, c.head_of-head.ensures.luma_bits, length-rest c.args.coded.bytes.now (7 + length_bits (length c.args.coded.bytes.now))))

pub read_blocks-requires-clause-fits : goal.read_blocks-requires-clause-fits
read_blocks-requires-clause-fits c =
    omega (arith, c.if-head-left.false, c.length_bits.ensures, length_bits-fit (length c.args.coded.bytes.now) c.requires.some)

pub read_blocks-requires-clause-cut : goal.read_blocks-requires-clause-cut
read_blocks-requires-clause-cut c = record { luma = c.requires.cut.luma; c1 = c.requires.cut.c1; c2 = c.requires.cut.c2 }

pub read_blocks-requires-clause-luma_job : goal.read_blocks-requires-clause-luma_job
read_blocks-requires-clause-luma_job c = record {
  lowest = c.rect.ensures.value ∙ cut-rect c.args.coded.layout.now c.args.coded.shape.now.luma c.args.bands.now.luma c.args.coded.sx c.args.coded.sy 0 c.requires.cut.luma;
  low = cut-low c.args.coded.layout.now c.args.coded.shape.now.luma c.args.bands.now.luma c.args.coded.sx c.args.coded.sy 0 c.rect.result c.requires.cut.luma c.rect.ensures.cut c.rect.ensures.value c.requires.across c.requires.down;
  areas = λ level le. c.areas-luma_areas.ensures.value level (omega (arith, le, cut_depth _ _ _ c.requires.cut.luma)) ∙ ap area (cut-rect c.args.coded.layout.now c.args.coded.shape.now.luma c.args.bands.now.luma c.args.coded.sx c.args.coded.sy level c.requires.cut.luma);
  few = c.areas-luma_areas.ensures.few;
  across = c.requires.across;
  down = c.requires.down;
  qindex = c.head_of-head.ensures.small;
  entries = c.requires.entries;
}

pub read_blocks-requires-clause-colour_job : goal.read_blocks-requires-clause-colour_job
read_blocks-requires-clause-colour_job c = record {
  lowest = c.rect-2.ensures.value ∙ cut-rect c.args.coded.layout.now c.args.coded.shape.now.colour c.args.bands.now.c1 c.args.coded.sx c.args.coded.sy 0 c.requires.cut.c1;
  low = cut-low c.args.coded.layout.now c.args.coded.shape.now.colour c.args.bands.now.c1 c.args.coded.sx c.args.coded.sy 0 c.rect-2.result c.requires.cut.c1 c.rect-2.ensures.cut c.rect-2.ensures.value c.requires.across c.requires.down;
  areas = λ level le. c.areas-colour_areas.ensures.value level (omega (arith, le, cut_depth _ _ _ c.requires.cut.c1)) ∙ ap area (cut-rect c.args.coded.layout.now c.args.coded.shape.now.colour c.args.bands.now.c1 c.args.coded.sx c.args.coded.sy level c.requires.cut.c1);
  few = c.areas-colour_areas.ensures.few;
  across = c.requires.across;
  down = c.requires.down;
  qindex = c.head_of-head.ensures.small;
  entries = c.requires.entries;
}

pub returns-then-not-read_blocks-clause-decoded : goal.returns-then-not-read_blocks-clause-decoded
returns-then-not-read_blocks-clause-decoded c =
    let r : SliceRead = record { slicing = c.args.coded.layout.now; shape = c.args.coded.shape.now; sx = c.args.coded.sx; sy = c.args.coded.sy; matrix = c.args.coded.matrix.now; bytes = c.args.coded.bytes.now; head = c.head_of-head.result } in
    let head : IsHeaded r = headed r (omega (arith, c.if-head-left.false, c.length_bits.ensures, length_bits-fit (length c.args.coded.bytes.now) c.requires.some)) c.head_of-head.ensures.qindex c.head_of-head.ensures.luma_bits in
    wide-after-reading MAX_SHORT c.args.room.now c.args.room.now r (shown_trio c.args.bands.now) (shown_trio c.read_blocks.new.bands) (shown_trio c.read_blocks.new.bands) head refl c.if-not-read_blocks.ensures.read

pub returns-then-not-read_blocks-clause-others : goal.returns-then-not-read_blocks-clause-others
returns-then-not-read_blocks-clause-others c =
    let r : SliceRead = record { slicing = c.args.coded.layout.now; shape = c.args.coded.shape.now; sx = c.args.coded.sx; sy = c.args.coded.sy; matrix = c.args.coded.matrix.now; bytes = c.args.coded.bytes.now; head = c.head_of-head.result } in
    others-after-reading MAX_SHORT c.args.room.now r (shown_trio c.args.bands.now) (shown_trio c.read_blocks.new.bands) _ c.read_blocks.ensures.read

pub restore_all-requires-clause-inside : goal.restore_all-requires-clause-inside
restore_all-requires-clause-inside c =
    let r : SliceRead = record { slicing = c.args.coded.layout.now; shape = c.args.coded.shape.now; sx = c.args.coded.sx; sy = c.args.coded.sy; matrix = c.args.coded.matrix.now; bytes = c.args.coded.bytes.now; head = c.head_of-head.result } in
    let lowest : AreLowest r c.rect.result c.rect-2.result = record { luma_is = c.rect.ensures.value ∙ cut-rect c.args.coded.layout.now c.args.coded.shape.now.luma c.args.bands.now.luma c.args.coded.sx c.args.coded.sy 0 c.requires.cut.luma; colour_is = c.rect-2.ensures.value ∙ cut-rect c.args.coded.layout.now c.args.coded.shape.now.colour c.args.bands.now.c1 c.args.coded.sx c.args.coded.sy 0 c.requires.cut.c1 } in
    lie-in-lowest MAX_SHORT c.args.room.now r (shown_trio c.args.bands.now) (shown_trio c.read_blocks.new.bands) c.rect.result c.rect-2.result lowest c.requires.across c.requires.down
    (record { depth = cut_depth _ _ _ c.requires.cut.luma; sizes = cut_sizes _ _ _ c.requires.cut.luma }) (record { depth = cut_depth _ _ _ c.requires.cut.c1; sizes = cut_sizes _ _ _ c.requires.cut.c1 }) (record { depth = cut_depth _ _ _ c.requires.cut.c2; sizes = cut_sizes _ _ _ c.requires.cut.c2 })
    c.if-not-read_blocks.ensures.read

pub returns-then-not-restore_all-clause-decoded : goal.returns-then-not-restore_all-clause-decoded
returns-then-not-restore_all-clause-decoded c =
    let r : SliceRead = record { slicing = c.args.coded.layout.now; shape = c.args.coded.shape.now; sx = c.args.coded.sx; sy = c.args.coded.sy; matrix = c.args.coded.matrix.now; bytes = c.args.coded.bytes.now; head = c.head_of-head.result } in
    let head : IsHeaded r = headed r (omega (arith, c.if-head-left.false, c.length_bits.ensures, length_bits-fit (length c.args.coded.bytes.now) c.requires.some)) c.head_of-head.ensures.qindex c.head_of-head.ensures.luma_bits in
    let lowest : AreLowest r c.rect.result c.rect-2.result = record { luma_is = c.rect.ensures.value ∙ cut-rect c.args.coded.layout.now c.args.coded.shape.now.luma c.args.bands.now.luma c.args.coded.sx c.args.coded.sy 0 c.requires.cut.luma; colour_is = c.rect-2.ensures.value ∙ cut-rect c.args.coded.layout.now c.args.coded.shape.now.colour c.args.bands.now.c1 c.args.coded.sx c.args.coded.sy 0 c.requires.cut.c1 } in
    wide-where-stopped MAX_SHORT c.args.room.now r (shown_trio c.args.bands.now) (shown_trio c.read_blocks.new.bands) (trio_by short_stack c.restore_all.new.luma c.restore_all.new.c1 c.restore_all.new.c2) c.rect.result c.rect-2.result lowest c.if-not-read_blocks.ensures.read
    c.args.room.now head (c.restore_all.ensures.stopped c.if-not-restore_all.true)

pub returns-then-not-restore_all-clause-others : goal.returns-then-not-restore_all-clause-others
returns-then-not-restore_all-clause-others c =
    let r : SliceRead = record { slicing = c.args.coded.layout.now; shape = c.args.coded.shape.now; sx = c.args.coded.sx; sy = c.args.coded.sy; matrix = c.args.coded.matrix.now; bytes = c.args.coded.bytes.now; head = c.head_of-head.result } in
    let lowest : AreLowest r c.rect.result c.rect-2.result = record { luma_is = c.rect.ensures.value ∙ cut-rect c.args.coded.layout.now c.args.coded.shape.now.luma c.args.bands.now.luma c.args.coded.sx c.args.coded.sy 0 c.requires.cut.luma; colour_is = c.rect-2.ensures.value ∙ cut-rect c.args.coded.layout.now c.args.coded.shape.now.colour c.args.bands.now.c1 c.args.coded.sx c.args.coded.sy 0 c.requires.cut.c1 } in
    others-after-restoring MAX_SHORT c.args.room.now r (shown_trio c.args.bands.now) (shown_trio c.read_blocks.new.bands) (trio_by short_stack c.restore_all.new.luma c.restore_all.new.c1 c.restore_all.new.c2) c.rect.result c.rect-2.result lowest c.if-not-read_blocks.ensures.read
    c.restore_all.ensures.keeps

pub returns-clause-decoded : goal.returns-clause-decoded
returns-clause-decoded c =
    let r : SliceRead = record { slicing = c.args.coded.layout.now; shape = c.args.coded.shape.now; sx = c.args.coded.sx; sy = c.args.coded.sy; matrix = c.args.coded.matrix.now; bytes = c.args.coded.bytes.now; head = c.head_of-head.result } in
    let head : IsHeaded r = headed r (omega (arith, c.if-head-left.false, c.length_bits.ensures, length_bits-fit (length c.args.coded.bytes.now) c.requires.some)) c.head_of-head.ensures.qindex c.head_of-head.ensures.luma_bits in
    let lowest : AreLowest r c.rect.result c.rect-2.result = record { luma_is = c.rect.ensures.value ∙ cut-rect c.args.coded.layout.now c.args.coded.shape.now.luma c.args.bands.now.luma c.args.coded.sx c.args.coded.sy 0 c.requires.cut.luma; colour_is = c.rect-2.ensures.value ∙ cut-rect c.args.coded.layout.now c.args.coded.shape.now.colour c.args.bands.now.c1 c.args.coded.sx c.args.coded.sy 0 c.requires.cut.c1 } in
    decoded-slice MAX_SHORT c.args.room.now r (shown_trio c.args.bands.now) (shown_trio c.read_blocks.new.bands) (trio_by short_stack c.restore_all.new.luma c.restore_all.new.c1 c.restore_all.new.c2) c.rect.result c.rect-2.result lowest c.if-not-read_blocks.ensures.read
    head (c.restore_all.ensures.restored c.if-not-restore_all.false) c.restore_all.ensures.keeps

pub returns-clause-others : goal.returns-clause-others
returns-clause-others c =
    let r : SliceRead = record { slicing = c.args.coded.layout.now; shape = c.args.coded.shape.now; sx = c.args.coded.sx; sy = c.args.coded.sy; matrix = c.args.coded.matrix.now; bytes = c.args.coded.bytes.now; head = c.head_of-head.result } in
    let lowest : AreLowest r c.rect.result c.rect-2.result = record { luma_is = c.rect.ensures.value ∙ cut-rect c.args.coded.layout.now c.args.coded.shape.now.luma c.args.bands.now.luma c.args.coded.sx c.args.coded.sy 0 c.requires.cut.luma; colour_is = c.rect-2.ensures.value ∙ cut-rect c.args.coded.layout.now c.args.coded.shape.now.colour c.args.bands.now.c1 c.args.coded.sx c.args.coded.sy 0 c.requires.cut.c1 } in
    others-after-restoring MAX_SHORT c.args.room.now r (shown_trio c.args.bands.now) (shown_trio c.read_blocks.new.bands) (trio_by short_stack c.restore_all.new.luma c.restore_all.new.c1 c.restore_all.new.c2) c.rect.result c.rect-2.result lowest c.if-not-read_blocks.ensures.read
    c.restore_all.ensures.keeps

pub returns-then-not-restore_all-clause-cut : goal.returns-then-not-restore_all-clause-cut
returns-then-not-restore_all-clause-cut c = record {
  luma = c.restore_all.ensures.luma_sound c.args.coded.layout.now c.args.coded.shape.now.luma c.read_blocks.ensures.cut.luma;
  c1 = c.restore_all.ensures.c1_sound c.args.coded.layout.now c.args.coded.shape.now.colour c.read_blocks.ensures.cut.c1;
  c2 = c.restore_all.ensures.c2_sound c.args.coded.layout.now c.args.coded.shape.now.colour c.read_blocks.ensures.cut.c2;
}

pub returns-clause-cut : goal.returns-clause-cut
returns-clause-cut c = record {
  luma = c.restore_all.ensures.luma_sound c.args.coded.layout.now c.args.coded.shape.now.luma c.read_blocks.ensures.cut.luma;
  c1 = c.restore_all.ensures.c1_sound c.args.coded.layout.now c.args.coded.shape.now.colour c.read_blocks.ensures.cut.c1;
  c2 = c.restore_all.ensures.c2_sound c.args.coded.layout.now c.args.coded.shape.now.colour c.read_blocks.ensures.cut.c2;
}

pub rect-requires-clause-across : goal.rect-requires-clause-across
rect-requires-clause-across c = column-inside _ _ c.args.bands.now.luma c.args.coded.sx c.requires.cut.luma c.requires.across

pub rect-requires-clause-down : goal.rect-requires-clause-down
rect-requires-clause-down c = row-inside _ _ c.args.bands.now.luma c.args.coded.sy c.requires.cut.luma c.requires.down

pub areas-luma_areas-requires-clause-across : goal.areas-luma_areas-requires-clause-across
areas-luma_areas-requires-clause-across c = column-inside _ _ c.args.bands.now.luma c.args.coded.sx c.requires.cut.luma c.requires.across

pub areas-luma_areas-requires-clause-down : goal.areas-luma_areas-requires-clause-down
areas-luma_areas-requires-clause-down c = row-inside _ _ c.args.bands.now.luma c.args.coded.sy c.requires.cut.luma c.requires.down

pub rect-requires-2-clause-across : goal.rect-requires-2-clause-across
rect-requires-2-clause-across c = column-inside _ _ c.args.bands.now.c1 c.args.coded.sx c.requires.cut.c1 c.requires.across

pub rect-requires-2-clause-down : goal.rect-requires-2-clause-down
rect-requires-2-clause-down c = row-inside _ _ c.args.bands.now.c1 c.args.coded.sy c.requires.cut.c1 c.requires.down

pub areas-colour_areas-requires-clause-across : goal.areas-colour_areas-requires-clause-across
areas-colour_areas-requires-clause-across c = column-inside _ _ c.args.bands.now.c1 c.args.coded.sx c.requires.cut.c1 c.requires.across

pub areas-colour_areas-requires-clause-down : goal.areas-colour_areas-requires-clause-down
areas-colour_areas-requires-clause-down c = row-inside _ _ c.args.bands.now.c1 c.args.coded.sy c.requires.cut.c1 c.requires.down
