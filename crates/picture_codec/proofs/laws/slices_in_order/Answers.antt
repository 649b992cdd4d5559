use Rattle.std.proofs.Common.{◌+◌, ◌%◌, ◌/◌, ◌++◌, ◌∷◌, [], sym, subst, ◌∙◌, arith}
use Rattle.std.proofs.lemmas.List.{length-append}
use Rattle.slice_geometry.specs.Frames.{frame_of}
use Rattle.picture_codec.specs.Decoding.{PictureDecoderSeen, HasTaken, stack_of}
use Rattle.picture_codec.proofs.Taking.{took_none, took_more}
use Rattle.picture_codec.proofs.Steps.{column_in, number_is}
use Rattle.picture_codec.proofs.laws.slices_in_order.Goals as goal

pub returns-clause-start : goal.returns-clause-start
returns-clause-start c = λ d first. record { number = first; each = λ k. took_none (frame_of d.shape) d.params k (stack_of d.bands k) }

pub returns-clause-step : goal.returns-clause-step
returns-clause-step c = λ slices bytes old new allowed lt has taken.
    let s = old.params.slicing in
    let n = old.next in
    let after : PictureDecoderSeen = record old { bands = new.bands; next = n + 1 } in
    let number = number_is s n lt ∙ has.number in
    let more : HasTaken (slices ++ bytes ∷ []) after = record {
      number = omega (arith, has.number, length-append slices (bytes ∷ []));
      each = λ k. took_more (frame_of old.shape) old.params slices bytes k (n % s.slices_x) (n / s.slices_x) (stack_of old.bands k) (stack_of new.bands k) allowed.slices (column_in s n lt) number (has.each k) (taken.each k);
    } in
    subst (λ (d : PictureDecoderSeen). HasTaken (slices ++ bytes ∷ []) d) (sym taken.state) more
