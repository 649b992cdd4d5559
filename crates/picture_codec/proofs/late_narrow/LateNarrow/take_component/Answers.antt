use Rattle.std.proofs.Common.{◌≡◌, ◌∙◌, sym, ap, subst, Bool, true, arith}
use Rattle.std.specs.Prelude.{if◌then◌else◌}
use Rattle.planes.specs.declared.NarrowTrio.{NarrowTrio}
use Rattle.slice_geometry.proofs.Lengths.{padded_most}
use Rattle.slice_decoder.specs.Narrow.{trio_of, AreNarrowBands}
use Rattle.slice_decoder.specs.Short.{shown_trio}
use Rattle.picture_codec.specs.DecodedBands.{AllAgree, narrow_of, LateSeen, late_of}
use Rattle.picture_codec.proofs.TakenRows.{late-made, same-agrees}
use Rattle.picture_codec.proofs.late_narrow.LateNarrow.take_component.Goals as goal

pub invariant_of-self : goal.invariant_of-self
invariant_of-self c =
    let made : c.self.inside.is_made ≡ true = ap (λ (b : LateSeen NarrowTrio). b.is_made) c.self.view_is ∙ ap (λ (b : LateSeen NarrowTrio). b.is_made) c.make.ensures in
    let held = subst (λ (b : Bool). AreNarrowBands (if b then c.self.inside.made else narrow_of (late_of c.self.inside.late))) made c.self.invariant.small in
    late-made c.self.inside.late (record { luma = c.widen.new.bands; c1 = c.self.inside.made.c1; c2 = c.self.inside.made.c2 }) c.self.inside.is_made made
    (record { luma = c.widen.ensures.within; c1 = held.c1; c2 = held.c2 })

pub invariant_of-self-in-C1 : goal.invariant_of-self-in-C1
invariant_of-self-in-C1 c =
    let made : c.self.inside.is_made ≡ true = ap (λ (b : LateSeen NarrowTrio). b.is_made) c.self.view_is ∙ ap (λ (b : LateSeen NarrowTrio). b.is_made) c.make.ensures in
    let held = subst (λ (b : Bool). AreNarrowBands (if b then c.self.inside.made else narrow_of (late_of c.self.inside.late))) made c.self.invariant.small in
    late-made c.self.inside.late (record { luma = c.self.inside.made.luma; c1 = c.widen-in-C1.new.bands; c2 = c.self.inside.made.c2 }) c.self.inside.is_made made
    (record { luma = held.luma; c1 = c.widen-in-C1.ensures.within; c2 = held.c2 })

pub invariant_of-self-in-C2 : goal.invariant_of-self-in-C2
invariant_of-self-in-C2 c =
    let made : c.self.inside.is_made ≡ true = ap (λ (b : LateSeen NarrowTrio). b.is_made) c.self.view_is ∙ ap (λ (b : LateSeen NarrowTrio). b.is_made) c.make.ensures in
    let held = subst (λ (b : Bool). AreNarrowBands (if b then c.self.inside.made else narrow_of (late_of c.self.inside.late))) made c.self.invariant.small in
    late-made c.self.inside.late (record { luma = c.self.inside.made.luma; c1 = c.self.inside.made.c1; c2 = c.widen-in-C2.new.bands }) c.self.inside.is_made made
    (record { luma = held.luma; c1 = held.c1; c2 = c.widen-in-C2.ensures.within })

pub returns-in-Luma-clause-beside : goal.returns-in-Luma-clause-beside
returns-in-Luma-clause-beside c =
    let made : c.self.inside.is_made ≡ true = ap (λ (b : LateSeen NarrowTrio). b.is_made) c.self.view_is ∙ ap (λ (b : LateSeen NarrowTrio). b.is_made) c.make.ensures in
    let serve : (new : NarrowTrio) → (if c.self.inside.is_made then new else narrow_of (late_of c.self.inside.late)) ≡ new =
    λ new. ap (λ (b : Bool). if b then new else narrow_of (late_of c.self.inside.late)) made in
    let bands_are : c.args.self.now.bands ≡ c.self.inside.made =
    sym (ap (λ (b : LateSeen NarrowTrio). b.bands) c.make.ensures) ∙ sym (ap (λ (b : LateSeen NarrowTrio). b.bands) c.self.view_is) ∙ serve c.self.inside.made in
    let beside = subst (λ (b : NarrowTrio). AllAgree (narrow_of (shown_trio c.args.short.now)) (trio_of b)) bands_are c.requires.beside in
    subst (λ (b : NarrowTrio). AllAgree (narrow_of (shown_trio c.args.short.now)) (trio_of b)) (sym (serve (record { luma = c.widen.new.bands; c1 = c.self.inside.made.c1; c2 = c.self.inside.made.c2 })))
    (record { luma = same-agrees (shown_trio c.args.short.now).luma c.widen.new.bands c.widen.ensures.same; c1 = beside.c1; c2 = beside.c2 })

pub returns-in-C1-clause-beside : goal.returns-in-C1-clause-beside
returns-in-C1-clause-beside c =
    let made : c.self.inside.is_made ≡ true = ap (λ (b : LateSeen NarrowTrio). b.is_made) c.self.view_is ∙ ap (λ (b : LateSeen NarrowTrio). b.is_made) c.make.ensures in
    let serve : (new : NarrowTrio) → (if c.self.inside.is_made then new else narrow_of (late_of c.self.inside.late)) ≡ new =
    λ new. ap (λ (b : Bool). if b then new else narrow_of (late_of c.self.inside.late)) made in
    let bands_are : c.args.self.now.bands ≡ c.self.inside.made =
    sym (ap (λ (b : LateSeen NarrowTrio). b.bands) c.make.ensures) ∙ sym (ap (λ (b : LateSeen NarrowTrio). b.bands) c.self.view_is) ∙ serve c.self.inside.made in
    let beside = subst (λ (b : NarrowTrio). AllAgree (narrow_of (shown_trio c.args.short.now)) (trio_of b)) bands_are c.requires.beside in
    subst (λ (b : NarrowTrio). AllAgree (narrow_of (shown_trio c.args.short.now)) (trio_of b)) (sym (serve (record { luma = c.self.inside.made.luma; c1 = c.widen-in-C1.new.bands; c2 = c.self.inside.made.c2 })))
    (record { luma = beside.luma; c1 = same-agrees (shown_trio c.args.short.now).c1 c.widen-in-C1.new.bands c.widen-in-C1.ensures.same; c2 = beside.c2 })

pub returns-in-C2-clause-beside : goal.returns-in-C2-clause-beside
returns-in-C2-clause-beside c =
    let made : c.self.inside.is_made ≡ true = ap (λ (b : LateSeen NarrowTrio). b.is_made) c.self.view_is ∙ ap (λ (b : LateSeen NarrowTrio). b.is_made) c.make.ensures in
    let serve : (new : NarrowTrio) → (if c.self.inside.is_made then new else narrow_of (late_of c.self.inside.late)) ≡ new =
    λ new. ap (λ (b : Bool). if b then new else narrow_of (late_of c.self.inside.late)) made in
    let bands_are : c.args.self.now.bands ≡ c.self.inside.made =
    sym (ap (λ (b : LateSeen NarrowTrio). b.bands) c.make.ensures) ∙ sym (ap (λ (b : LateSeen NarrowTrio). b.bands) c.self.view_is) ∙ serve c.self.inside.made in
    let beside = subst (λ (b : NarrowTrio). AllAgree (narrow_of (shown_trio c.args.short.now)) (trio_of b)) bands_are c.requires.beside in
    subst (λ (b : NarrowTrio). AllAgree (narrow_of (shown_trio c.args.short.now)) (trio_of b)) (sym (serve (record { luma = c.self.inside.made.luma; c1 = c.self.inside.made.c1; c2 = c.widen-in-C2.new.bands })))
    (record { luma = beside.luma; c1 = beside.c1; c2 = same-agrees (shown_trio c.args.short.now).c2 c.widen-in-C2.new.bands c.widen-in-C2.ensures.same })

pub widen-requires-clause-room : goal.widen-requires-clause-room
widen-requires-clause-room c =
    let slices = c.args.short.now.luma.slices in
    let cut = c.shows.ensures.sound.cut in
    omega (arith, padded_most slices.slicing.depth slices.size.w cut.depth cut.size.width, c.requires.room)

pub widen-requires-in-C1-clause-room : goal.widen-requires-in-C1-clause-room
widen-requires-in-C1-clause-room c =
    let slices = c.args.short.now.c1.slices in
    let cut = c.shows-in-C1.ensures.sound.cut in
    omega (arith, padded_most slices.slicing.depth slices.size.w cut.depth cut.size.width, c.requires.room)

pub widen-requires-in-C2-clause-room : goal.widen-requires-in-C2-clause-room
widen-requires-in-C2-clause-room c =
    let slices = c.args.short.now.c2.slices in
    let cut = c.shows-in-C2.ensures.sound.cut in
    omega (arith, padded_most slices.slicing.depth slices.size.w cut.depth cut.size.width, c.requires.room)
