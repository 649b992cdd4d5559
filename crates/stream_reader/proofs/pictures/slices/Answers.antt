use Rattle.std.proofs.Common.{◌+◌, ℕ, List, length, arith, sym, ap, subst, ◌∙◌, refl}
use Rattle.std.proofs.lemmas.List.{length-drop}
use Rattle.slice_geometry.specs.Slicing.{IsAllowed, bytes_before, total_bytes}
use Rattle.slice_geometry.proofs.Shares.{bytes_before-zero}
use Rattle.slice_geometry.specs.Frames.{frame_of}
use Rattle.stream_reader.proofs.PictureTurns.{field_short, field_lost, slices_start, slice_asked, slice_broken, slice_taken, slice_place, slices_done, all_bytes}
use Rattle.stream_reader.specs.Held.{greatest_share}
use Rattle.unit_reader.proofs.Gets.{got_most}
use Rattle.stream_reader.proofs.HeldTurns.{drop_most, share_most}
use Rattle.stream_reader.proofs.pictures.slices.Goals as goal

pub loop-share-init : goal.loop-share-init
loop-share-init g c = record {
  so_far = λ parts z frame others held0 rest0 b. slices_start parts others c.args.decoder.now c.requires.first b;
  at_is = omega (arith, bytes_before-zero c.args.decoder.now.params.slicing.a c.args.decoder.now.params.slicing.b, ap (bytes_before c.args.decoder.now.params.slicing.a c.args.decoder.now.params.slicing.b) c.requires.first);
  total = c.requires.place;
  shape = refl;
  params = refl;
  unrefused = c.requires.unrefused;
  held = omega (arith, c.requires.few);
  few = omega (arith, c.requires.first);
  allowed = subst (λ p. IsAllowed p.slicing) c.params.ensures c.depth.ensures.allowed;
  steady = refl;
}

pub returns-in-Ok-false-clause-part : goal.returns-in-Ok-false-clause-part
returns-in-Ok-false-clause-part g c = λ parts z frame others held0 rest0 b.
    let inv = c.loop-share.invariant in
    let short = c.hold.ensures.short (c.in-Ok-false.is ∙ cc) in
    let a = slice_asked c.in-Some.share c.hold.new.self.held (g.S.Source.rest c.hold.new.src) (inv.so_far parts z frame others held0 rest0 b) inv.params c.in-Some.ensures c.hold.ensures.got in
    field_short c.hold.new.self.room c.loop-share.at c.refused.result a.asked short.0 short.1 (omega (arith, inv.total, c.hold.ensures.room)) refl c.refused.ensures

pub returns-in-Err-clause-part : goal.returns-in-Err-clause-part
returns-in-Err-clause-part g c = λ parts z frame others held0 rest0 b.
    let inv = c.loop-share.invariant in
    let a = slice_asked c.in-Some.share c.hold.new.self.held (g.S.Source.rest c.hold.new.src) (inv.so_far parts z frame others held0 rest0 b) inv.params c.in-Some.ensures c.hold.ensures.got in
    field_lost c.hold.new.self.room c.in-Err.halt c.stop_of.result a.asked c.in-Err.ensures.err (omega (arith, inv.total, c.hold.ensures.room)) c.stop_of.ensures

pub returns-in-Err-slice-clause-part : goal.returns-in-Err-slice-clause-part
returns-in-Err-slice-clause-part g c = λ parts z frame others held0 rest0 b.
    let inv = c.loop-share.invariant in
    let a = slice_asked c.in-Some.share c.hold.new.self.held (g.S.Source.rest c.hold.new.src) (inv.so_far parts z frame others held0 rest0 b) inv.params c.in-Some.ensures c.hold.ensures.got in
    slice_broken c.hold.new.self.room c.front.result.now c.in-Err-slice.fault c.slice.new.self c.slice_reason.result c.refused-in-Err-slice.result a inv.params (ap frame_of inv.shape ∙ frame)
    (c.hold.ensures.enough (c.in-Ok-true.is ∙ cc)) c.front.ensures.value c.front.ensures.fits c.in-Err-slice.ensures (omega (arith, inv.total, c.hold.ensures.room)) c.slice_reason.ensures c.refused-in-Err-slice.ensures

pub loop-share-preserved : goal.loop-share-preserved
loop-share-preserved g c =
    let inv = c.loop-share.invariant in
    let p = c.args.decoder.now.params in
    let many = c.hold.ensures.enough (c.in-Ok-true.is ∙ cc) in
    let taken = c.in_default-slice.ensures in
    let place = slice_place p c.loop-share.decoder c.slice.new.self c.front.result.now c.in-Some.share c.args.place c.loop-share.at (c.loop-share.at + c.from-at.result) inv.allowed inv.params c.in-Some.ensures taken inv.at_is (omega (arith, c.from-at.ensures)) in
    record {
      so_far = λ parts z frame others held0 rest0 b.
          let a = slice_asked c.in-Some.share c.hold.new.self.held (g.S.Source.rest c.hold.new.src) (inv.so_far parts z frame others held0 rest0 b) inv.params c.in-Some.ensures c.hold.ensures.got in
          slice_taken c.front.result.now c.slice.new.self c.advance.new.self.held (c.loop-share.at + c.from-at.result) a inv.params (ap frame_of inv.shape ∙ frame) inv.allowed c.in-Some.ensures many c.front.ensures.value c.front.ensures.fits taken c.advance.ensures.held (omega (arith, c.from-at.ensures));
      at_is = place.0;
      total = omega (arith, inv.total, c.hold.ensures.room, many, c.from-at.ensures, c.advance.ensures.room, length-drop c.in-Some.share c.hold.new.self.held, ap (λ (l : List ℕ). length l) c.advance.ensures.held);
      shape = ap (λ d. d.shape) taken.state ∙ inv.shape;
      params = ap (λ d. d.params) taken.state ∙ inv.params;
      unrefused = ap (λ d. d.refused) taken.state ∙ inv.unrefused;
      held = drop_most c.in-Some.share (8192 + greatest_share p.slicing) c.hold.new.self.held c.advance.new.self.held c.advance.ensures.held (got_most (8192 + greatest_share c.args.decoder.now.params.slicing) c.hold.ensures.got c.loop-share.invariant.held (omega (arith, share_most c.args.decoder.now.params c.loop-share.decoder c.in-Some.share c.loop-share.invariant.params c.in-Some.ensures)));
      few = place.1;
      allowed = inv.allowed;
      steady = cc (c.in-Ok-true.ensures.cause, inv.steady);
    }

pub returns-clause-part : goal.returns-clause-part
returns-clause-part g c = λ parts z frame others held0 rest0 b.
    let inv = c.loop-share.invariant in
    slices_done (c.args.place + total_bytes c.args.decoder.now.params.slicing) (inv.so_far parts z frame others held0 rest0 b) inv.params (sym c.in_default.ensures)
    (all_bytes c.args.decoder.now.params c.loop-share.decoder c.args.place c.loop-share.at inv.params (sym c.in_default.ensures) inv.few inv.at_is)

pub returns-in-Ok-false-clause-held : goal.returns-in-Ok-false-clause-held
returns-in-Ok-false-clause-held g c = got_most (8192 + greatest_share c.args.decoder.now.params.slicing) c.hold.ensures.got c.loop-share.invariant.held (omega (arith, share_most c.args.decoder.now.params c.loop-share.decoder c.in-Some.share c.loop-share.invariant.params c.in-Some.ensures))

pub returns-in-Err-clause-held : goal.returns-in-Err-clause-held
returns-in-Err-clause-held g c = got_most (8192 + greatest_share c.args.decoder.now.params.slicing) c.hold.ensures.got c.loop-share.invariant.held (omega (arith, share_most c.args.decoder.now.params c.loop-share.decoder c.in-Some.share c.loop-share.invariant.params c.in-Some.ensures))

pub returns-in-Err-slice-clause-held : goal.returns-in-Err-slice-clause-held
returns-in-Err-slice-clause-held g c = got_most (8192 + greatest_share c.args.decoder.now.params.slicing) c.hold.ensures.got c.loop-share.invariant.held (omega (arith, share_most c.args.decoder.now.params c.loop-share.decoder c.in-Some.share c.loop-share.invariant.params c.in-Some.ensures))
