use Rattle.std.proofs.Common.{◌≡◌, sym, ap, subst, ◌∙◌, arith}
use Rattle.std.proofs.lemmas.Grind.{common_steps}
use Rattle.planes.specs.declared.Trio.{Trio}
use Rattle.planes.specs.declared.NarrowTrio.{NarrowTrio}
use Rattle.slice_decoder.specs.Decoded.{AreReady, AllKeepOthers}
use Rattle.slice_decoder.specs.Narrow.{trio_of}
use Rattle.picture_codec.specs.DecodedBands.{AllAgree, LateSeen}
use Rattle.picture_codec.proofs.BothWidths.{wide_serve, narrow_serve, all_ready_after, all_keep_both, narrow_agree, wide_agree, copies_agree}
use Rattle.picture_codec.proofs.row_bands.RowBands.decode.Goals as goal

pub invariant_of-self : goal.invariant_of-self
invariant_of-self c =
    let s = c.args.layout.now in
    let shape = c.args.shape.now in
    let sx = c.args.sx in
    let sy = c.args.sy in
    let narrow = c.self.inside.narrow.bands in
    let wide = c.self.inside.wide.bands in
    let seen : c.args.self.now.bands ≡ wide = sym (ap (λ (b : LateSeen Trio). b.bands) c.self.view_is) ∙ wide_serve c.self.inside.is_wide wide narrow c.if-self.true in
    let ready = subst (λ (b : Trio). AreReady s shape sx sy b) seen c.requires.ready in
    record {
      sizes = wide_agree s shape sx sy narrow wide c.decode.new.self.bands c.decode.ensures.others ready c.self.invariant.sizes;
      made = λ serve. c.decode.ensures.made;
      both = c.self.invariant.both;
    }

pub invariant_of-self-in-Ok-Some : goal.invariant_of-self-in-Ok-Some
invariant_of-self-in-Ok-Some c =
    let s = c.args.layout.now in
    let shape = c.args.shape.now in
    let sx = c.args.sx in
    let sy = c.args.sy in
    let narrow = c.self.inside.narrow.bands in
    let wide = c.self.inside.wide.bands in
    let new = c.decode_narrow.new.self.bands in
    let seen : c.args.self.now.bands ≡ trio_of narrow = sym (ap (λ (b : LateSeen Trio). b.bands) c.self.view_is) ∙ narrow_serve c.self.inside.is_wide wide narrow c.if-self.false in
    let ready = subst (λ (b : Trio). AreReady s shape sx sy b) seen c.requires.ready in
    record {
      sizes = narrow_agree s shape sx sy narrow new wide c.in-Ok-Some.ensures.others ready c.self.invariant.sizes;
      made = c.self.invariant.made;
      both = λ serve. c.in-Ok-Some.ensures.made;
    }

pub invariant_of-self-in-Err : goal.invariant_of-self-in-Err
invariant_of-self-in-Err c =
    let s = c.args.layout.now in
    let shape = c.args.shape.now in
    let sx = c.args.sx in
    let sy = c.args.sy in
    let narrow = c.self.inside.narrow.bands in
    let wide = c.self.inside.wide.bands in
    let new = c.decode_narrow.new.self.bands in
    let seen : c.args.self.now.bands ≡ trio_of narrow = sym (ap (λ (b : LateSeen Trio). b.bands) c.self.view_is) ∙ narrow_serve c.self.inside.is_wide wide narrow c.if-self.false in
    let ready = subst (λ (b : Trio). AreReady s shape sx sy b) seen c.requires.ready in
    record {
      sizes = narrow_agree s shape sx sy narrow new wide c.in-Err.ensures.others ready c.self.invariant.sizes;
      made = c.self.invariant.made;
      both = λ serve. c.in-Err.ensures.made;
    }

pub widen-requires : goal.widen-requires
widen-requires c =
    let s = c.args.layout.now in
    let shape = c.args.shape.now in
    let sx = c.args.sx in
    let sy = c.args.sy in
    let narrow = c.self.inside.narrow.bands in
    let wide = c.self.inside.wide.bands in
    let new = c.decode_narrow.new.self.bands in
    let seen : c.args.self.now.bands ≡ trio_of narrow = sym (ap (λ (b : LateSeen Trio). b.bands) c.self.view_is) ∙ narrow_serve c.self.inside.is_wide wide narrow c.if-self.false in
    let ready = subst (λ (b : Trio). AreReady s shape sx sy b) seen c.requires.ready in
    subst (λ (n : NarrowTrio). AllAgree n wide) (sym c.bands.ensures.value)
    (narrow_agree s shape sx sy narrow new wide c.in-Ok-None.ensures.others ready c.self.invariant.sizes)

pub decode-requires-in-Ok-None-clause-ready : goal.decode-requires-in-Ok-None-clause-ready
decode-requires-in-Ok-None-clause-ready c =
    let s = c.args.layout.now in
    let shape = c.args.shape.now in
    let sx = c.args.sx in
    let sy = c.args.sy in
    let narrow = c.self.inside.narrow.bands in
    let wide = c.self.inside.wide.bands in
    let new = c.decode_narrow.new.self.bands in
    let seen : c.args.self.now.bands ≡ trio_of narrow = sym (ap (λ (b : LateSeen Trio). b.bands) c.self.view_is) ∙ narrow_serve c.self.inside.is_wide wide narrow c.if-self.false in
    let ready = subst (λ (b : Trio). AreReady s shape sx sy b) seen c.requires.ready in
    let copied : c.widen.new.self.bands ≡ trio_of new = ap (λ (w : LateSeen Trio). w.bands) c.widen.ensures ∙ ap (λ (n : NarrowTrio). trio_of n) c.bands.ensures.value in
    subst (λ (b : Trio). AreReady s shape sx sy b) (sym copied) (all_ready_after s shape sx sy (trio_of narrow) (trio_of new) c.in-Ok-None.ensures.others ready)

pub invariant_of-self-in-Ok-None : goal.invariant_of-self-in-Ok-None
invariant_of-self-in-Ok-None c =
    let s = c.args.layout.now in
    let shape = c.args.shape.now in
    let sx = c.args.sx in
    let sy = c.args.sy in
    let narrow = c.self.inside.narrow.bands in
    let wide = c.self.inside.wide.bands in
    let new = c.decode_narrow.new.self.bands in
    let seen : c.args.self.now.bands ≡ trio_of narrow = sym (ap (λ (b : LateSeen Trio). b.bands) c.self.view_is) ∙ narrow_serve c.self.inside.is_wide wide narrow c.if-self.false in
    let ready = subst (λ (b : Trio). AreReady s shape sx sy b) seen c.requires.ready in
    let copied : c.widen.new.self.bands ≡ trio_of new = ap (λ (w : LateSeen Trio). w.bands) c.widen.ensures ∙ ap (λ (n : NarrowTrio). trio_of n) c.bands.ensures.value in
    let after = c.widen.new.self.bands in
    let ready_copied = subst (λ (b : Trio). AreReady s shape sx sy b) (sym copied) (all_ready_after s shape sx sy (trio_of narrow) (trio_of new) c.in-Ok-None.ensures.others ready) in
    let agree = subst (λ (b : Trio). AllAgree new b) (sym copied) (copies_agree new) in
    record {
      sizes = wide_agree s shape sx sy new after c.decode-in-Ok-None.new.self.bands c.decode-in-Ok-None.ensures.others ready_copied agree;
      made = λ serve. c.decode-in-Ok-None.ensures.made;
      both = λ serve. c.in-Ok-None.ensures.made;
    }

pub returns-in-Ok-None-clause-others : goal.returns-in-Ok-None-clause-others
returns-in-Ok-None-clause-others c =
    let s = c.args.layout.now in
    let shape = c.args.shape.now in
    let sx = c.args.sx in
    let sy = c.args.sy in
    let narrow = c.self.inside.narrow.bands in
    let wide = c.self.inside.wide.bands in
    let new = c.decode_narrow.new.self.bands in
    let seen : c.args.self.now.bands ≡ trio_of narrow = sym (ap (λ (b : LateSeen Trio). b.bands) c.self.view_is) ∙ narrow_serve c.self.inside.is_wide wide narrow c.if-self.false in
    let ready = subst (λ (b : Trio). AreReady s shape sx sy b) seen c.requires.ready in
    let copied : c.widen.new.self.bands ≡ trio_of new = ap (λ (w : LateSeen Trio). w.bands) c.widen.ensures ∙ ap (λ (n : NarrowTrio). trio_of n) c.bands.ensures.value in
    let last = c.decode-in-Ok-None.new.self.bands in
    let keeps = subst (λ (b : Trio). AllKeepOthers s shape sx sy b last) copied c.decode-in-Ok-None.ensures.others in
    subst (λ (b : Trio). AllKeepOthers s shape sx sy b last) (sym seen) (all_keep_both s shape sx sy (trio_of narrow) (trio_of new) last c.in-Ok-None.ensures.others keeps)

pub returns-in-Ok-Some-clause-decoded : goal.returns-in-Ok-Some-clause-decoded
returns-in-Ok-Some-clause-decoded c = grind (arith, common_steps)
