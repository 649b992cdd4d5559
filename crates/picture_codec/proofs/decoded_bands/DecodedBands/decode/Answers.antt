use Rattle.std.proofs.Common.{◌≡◌, length, sym, ap, subst, ◌∙◌}
use Rattle.std.proofs.lemmas.List.{with_items_is}
use Rattle.planes.specs.declared.Trio.{Trio}
use Rattle.slice_store.specs.declared.short_bands.ShortTrio.{ShortTrio}
use Rattle.slice_decoder.specs.Decoded.{AreReady, AllKeepOthers}
use Rattle.slice_decoder.specs.Short.{shown_trio}
use Rattle.picture_codec.specs.ShortSlices.{AllShowTheSame, AreBeside}
use Rattle.picture_codec.proofs.BothWidths.{all_ready_after, all_keep_both}
use Rattle.picture_codec.proofs.Gathered.{short_serve, rows_serve, all-same-keep}
use Rattle.picture_codec.proofs.decoded_bands.DecodedBands.decode.Goals as goal

pub decode-requires-clause-ready : goal.decode-requires-clause-ready
decode-requires-clause-ready c =
    let s = c.args.params.now.layout in
    let shape = c.args.shape.now in
    let sx = c.args.sx in
    let sy = c.args.sy in
    let rows = c.self.inside.rows.bands in
    let seen : c.args.self.now ≡ rows = sym c.self.view_is ∙ rows_serve c.self.inside.is_short (shown_trio c.self.inside.short) rows c.if-not-self.true in
    subst (λ (b : Trio). AreReady s shape sx sy b) seen c.requires.ready

pub returns-then-not-self-clause-others : goal.returns-then-not-self-clause-others
returns-then-not-self-clause-others c =
    let s = c.args.params.now.layout in
    let shape = c.args.shape.now in
    let sx = c.args.sx in
    let sy = c.args.sy in
    let rows = c.self.inside.rows.bands in
    let seen : c.args.self.now ≡ rows = sym c.self.view_is ∙ rows_serve c.self.inside.is_short (shown_trio c.self.inside.short) rows c.if-not-self.true in
    let new = c.decode.new.self.bands in
    subst (λ (b : Trio). AllKeepOthers s shape sx sy c.args.self.now b) (sym (rows_serve c.self.inside.is_short (shown_trio c.self.inside.short) new c.if-not-self.true))
    (subst (λ (b : Trio). AllKeepOthers s shape sx sy b new) (sym seen) c.decode.ensures.others)

pub decode-requires-2-clause-ready : goal.decode-requires-2-clause-ready
decode-requires-2-clause-ready c =
    let s = c.args.params.now.layout in
    let shape = c.args.shape.now in
    let sx = c.args.sx in
    let sy = c.args.sy in
    let short = c.self.inside.short in
    let seen : c.args.self.now ≡ shown_trio short = sym c.self.view_is ∙ short_serve c.self.inside.is_short (shown_trio short) c.self.inside.rows.bands c.if-not-self.false in
    let ready = subst (λ (b : Trio). AreReady s shape sx sy b) seen c.requires.ready in
    ready

pub returns-in-Ok-Some-clause-others : goal.returns-in-Ok-Some-clause-others
returns-in-Ok-Some-clause-others c =
    let s = c.args.params.now.layout in
    let shape = c.args.shape.now in
    let sx = c.args.sx in
    let sy = c.args.sy in
    let short = c.self.inside.short in
    let seen : c.args.self.now ≡ shown_trio short = sym c.self.view_is ∙ short_serve c.self.inside.is_short (shown_trio short) c.self.inside.rows.bands c.if-not-self.false in
    let ready = subst (λ (b : Trio). AreReady s shape sx sy b) seen c.requires.ready in
    let new = shown_trio c.decode-2.new.self in
    subst (λ (b : Trio). AllKeepOthers s shape sx sy c.args.self.now b) (sym (short_serve c.self.inside.is_short new c.self.inside.rows.bands c.if-not-self.false))
    (subst (λ (b : Trio). AllKeepOthers s shape sx sy b new) (sym seen) c.in-Ok-Some.ensures.others)

pub invariant_of-self-in-Ok-Some : goal.invariant_of-self-in-Ok-Some
invariant_of-self-in-Ok-Some c =
    record {
      room = c.self.invariant.room;
      beside = λ serve. c.in-Ok-Some.ensures.beside c.self.inside.rows.bands (c.self.invariant.beside serve);
      made = c.self.invariant.made;
    }

pub returns-in-Err-clause-others : goal.returns-in-Err-clause-others
returns-in-Err-clause-others c =
    let s = c.args.params.now.layout in
    let shape = c.args.shape.now in
    let sx = c.args.sx in
    let sy = c.args.sy in
    let short = c.self.inside.short in
    let seen : c.args.self.now ≡ shown_trio short = sym c.self.view_is ∙ short_serve c.self.inside.is_short (shown_trio short) c.self.inside.rows.bands c.if-not-self.false in
    let ready = subst (λ (b : Trio). AreReady s shape sx sy b) seen c.requires.ready in
    let new = shown_trio c.decode-2.new.self in
    subst (λ (b : Trio). AllKeepOthers s shape sx sy c.args.self.now b) (sym (short_serve c.self.inside.is_short new c.self.inside.rows.bands c.if-not-self.false))
    (subst (λ (b : Trio). AllKeepOthers s shape sx sy b new) (sym seen) c.in-Err.ensures.others)

pub invariant_of-self-in-Err : goal.invariant_of-self-in-Err
invariant_of-self-in-Err c =
    record {
      room = c.self.invariant.room;
      beside = λ serve. c.in-Err.ensures.beside c.self.inside.rows.bands (c.self.invariant.beside serve);
      made = c.self.invariant.made;
    }

pub take-requires-clause-beside : goal.take-requires-clause-beside
take-requires-clause-beside c =
    subst (λ (b : ShortTrio). AreBeside b c.self.inside.rows.bands) (sym c.bands.ensures.value)
    (c.in-Ok-None.ensures.beside c.self.inside.rows.bands (c.self.invariant.beside c.if-not-self.false))

pub decode-requires-in-Ok-None-clause-ready : goal.decode-requires-in-Ok-None-clause-ready
decode-requires-in-Ok-None-clause-ready c =
    let s = c.args.params.now.layout in
    let shape = c.args.shape.now in
    let sx = c.args.sx in
    let sy = c.args.sy in
    let short = c.self.inside.short in
    let seen : c.args.self.now ≡ shown_trio short = sym c.self.view_is ∙ short_serve c.self.inside.is_short (shown_trio short) c.self.inside.rows.bands c.if-not-self.false in
    let ready = subst (λ (b : Trio). AreReady s shape sx sy b) seen c.requires.ready in
    let read = shown_trio c.decode-2.new.self in
    let taken = c.take.new.self.bands in
    let keeps = c.in-Ok-None.ensures.others in
    let ready_read = all_ready_after s shape sx sy (shown_trio short) read keeps ready in
    let kept = all-same-keep s shape sx sy read taken ready_read
    (subst (λ (b : ShortTrio). AllShowTheSame (shown_trio b) taken) c.bands.ensures.value c.take.ensures.same) in
    all_ready_after s shape sx sy read taken kept ready_read

pub returns-in-Ok-None-clause-others : goal.returns-in-Ok-None-clause-others
returns-in-Ok-None-clause-others c =
    let s = c.args.params.now.layout in
    let shape = c.args.shape.now in
    let sx = c.args.sx in
    let sy = c.args.sy in
    let short = c.self.inside.short in
    let seen : c.args.self.now ≡ shown_trio short = sym c.self.view_is ∙ short_serve c.self.inside.is_short (shown_trio short) c.self.inside.rows.bands c.if-not-self.false in
    let ready = subst (λ (b : Trio). AreReady s shape sx sy b) seen c.requires.ready in
    let read = shown_trio c.decode-2.new.self in
    let taken = c.take.new.self.bands in
    let keeps = c.in-Ok-None.ensures.others in
    let ready_read = all_ready_after s shape sx sy (shown_trio short) read keeps ready in
    let kept = all-same-keep s shape sx sy read taken ready_read
    (subst (λ (b : ShortTrio). AllShowTheSame (shown_trio b) taken) c.bands.ensures.value c.take.ensures.same) in
    let last = c.decode-in-Ok-None.new.self.bands in
    subst (λ (b : Trio). AllKeepOthers s shape sx sy b last) (sym seen)
    (all_keep_both s shape sx sy (shown_trio short) read last keeps
    (all_keep_both s shape sx sy read taken last kept c.decode-in-Ok-None.ensures.others))

pub invariant_of-self-in-Ok-None : goal.invariant_of-self-in-Ok-None
invariant_of-self-in-Ok-None c =
    let row = c.self.inside.row in
    let count : length c.take.new.row ≡ length row.items = c.take.auto.row ∙ ap length c.as_mut_slice.ensures.value in
    record {
      room = ap length (with_items_is row c.take.new.row (count ∙ sym row.ok.0)) ∙ count ∙ c.self.invariant.room;
      beside = λ serve. absurd cc;
      made = λ none. c.decode-in-Ok-None.ensures.made;
    }
