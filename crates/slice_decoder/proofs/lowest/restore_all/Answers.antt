use Rattle.std.proofs.Common.{◌≡◌, ◌∙◌, true, false, refl, sym, inl, inr}
use Rattle.planes.specs.declared.Rect.{Rect}
use Rattle.planes.specs.Subbands.{BandStack}
use Rattle.slice_decoder.specs.Narrow.{LowestKeeps}
use Rattle.slice_decoder.proofs.lowest.restore_all.Goals.{then-restore, else-restore}
use Rattle.slice_decoder.proofs.lowest.restore_all.Goals as goal

-- bands that stay
all_stay : (rect : Rect) (b : BandStack) → LowestKeeps rect b b
all_stay rect b = record {
  depth = refl;
  keeps = record { same_width = refl; same_height = refl; outside = λ y x out. refl };
  others = λ k some. refl;
}

pub restore-requires-clause-x_inside : goal.restore-requires-clause-x_inside
restore-requires-clause-x_inside g c = c.requires.inside.luma_x

pub restore-requires-clause-y_inside : goal.restore-requires-clause-y_inside
restore-requires-clause-y_inside g c = c.requires.inside.luma_y

pub restore-requires-clause-sound : goal.restore-requires-clause-sound
restore-requires-clause-sound g c = c.requires.luma_sound

pub restore-requires-then-restore-clause-x_inside : goal.restore-requires-then-restore-clause-x_inside
restore-requires-then-restore-clause-x_inside g c = c.requires.inside.c1_x

pub restore-requires-then-restore-clause-y_inside : goal.restore-requires-then-restore-clause-y_inside
restore-requires-then-restore-clause-y_inside g c = c.requires.inside.c1_y

pub restore-requires-then-restore-clause-sound : goal.restore-requires-then-restore-clause-sound
restore-requires-then-restore-clause-sound g c = c.requires.c1_sound

pub restore-requires-then-restore-2-clause-x_inside : goal.restore-requires-then-restore-2-clause-x_inside
restore-requires-then-restore-2-clause-x_inside g c = c.requires.inside.c2_x

pub restore-requires-then-restore-2-clause-y_inside : goal.restore-requires-then-restore-2-clause-y_inside
restore-requires-then-restore-2-clause-y_inside g c = c.requires.inside.c2_y

pub restore-requires-then-restore-2-clause-sound : goal.restore-requires-then-restore-2-clause-sound
restore-requires-then-restore-2-clause-sound g c = c.requires.c2_sound

pub returns-then-restore-2-clause-restored : goal.returns-then-restore-2-clause-restored
returns-then-restore-2-clause-restored g c = λ e.
    elim c.if-restore.branch [
      | then-restore w ↦ record {
        luma = c.restore.ensures.restored w.if-restore.true;
        c1 = rw w.c1-is (w.restore-then-restore.ensures.restored (sym w.value-is ∙ c.if-restore-2.true));
        c2 = c.restore-then-restore-2.ensures.restored e;
      }
      | else-restore w ↦ absurd (let q : false ≡ true = sym w.if-restore.false ∙ sym w.value-is ∙ c.if-restore-2.true in cc)
    ]

pub returns-then-restore-2-clause-stopped : goal.returns-then-restore-2-clause-stopped
returns-then-restore-2-clause-stopped g c = λ e. inr (inr (c.restore-then-restore-2.ensures.stopped e))

pub returns-then-restore-2-clause-keeps : goal.returns-then-restore-2-clause-keeps
returns-then-restore-2-clause-keeps g c = record {
  luma = c.restore.ensures.keeps;
  c1 = elim c.if-restore.branch [ then-restore w ↦ rw w.c1-is w.restore-then-restore.ensures.keeps | else-restore w ↦ rw w.c1-is (all_stay c.args.colour_rect (g.B.LowestRows.seen c.args.c1.now)) ];
  c2 = c.restore-then-restore-2.ensures.keeps;
}

pub returns-then-restore-2-clause-luma_sound : goal.returns-then-restore-2-clause-luma_sound
returns-then-restore-2-clause-luma_sound g c = c.restore.ensures.sound

pub returns-then-restore-2-clause-c1_sound : goal.returns-then-restore-2-clause-c1_sound
returns-then-restore-2-clause-c1_sound g c = elim c.if-restore.branch [ then-restore w ↦ rw w.c1-is w.restore-then-restore.ensures.sound | else-restore w ↦ rw w.c1-is (g.met.B.LowestRows.untouched c.args.c1.now c.requires.c1_sound) ]

pub returns-then-restore-2-clause-c2_sound : goal.returns-then-restore-2-clause-c2_sound
returns-then-restore-2-clause-c2_sound g c = c.restore-then-restore-2.ensures.sound

pub returns-else-restore-2-clause-restored : goal.returns-else-restore-2-clause-restored
returns-else-restore-2-clause-restored g c = λ e. absurd (let q : false ≡ true = sym c.if-restore-2.false ∙ e in cc)

pub returns-else-restore-2-clause-stopped : goal.returns-else-restore-2-clause-stopped
returns-else-restore-2-clause-stopped g c = λ e.
    elim c.if-restore.branch [
      | then-restore w ↦ inr (inl (rw w.c1-is (w.restore-then-restore.ensures.stopped (sym w.value-is ∙ c.if-restore-2.false))))
      | else-restore w ↦ inl (c.restore.ensures.stopped w.if-restore.false)
    ]

pub returns-else-restore-2-clause-keeps : goal.returns-else-restore-2-clause-keeps
returns-else-restore-2-clause-keeps g c = record {
  luma = c.restore.ensures.keeps;
  c1 = elim c.if-restore.branch [ then-restore w ↦ rw w.c1-is w.restore-then-restore.ensures.keeps | else-restore w ↦ rw w.c1-is (all_stay c.args.colour_rect (g.B.LowestRows.seen c.args.c1.now)) ];
  c2 = all_stay c.args.colour_rect (g.B.LowestRows.seen c.args.c2.now);
}

pub returns-else-restore-2-clause-luma_sound : goal.returns-else-restore-2-clause-luma_sound
returns-else-restore-2-clause-luma_sound g c = c.restore.ensures.sound

pub returns-else-restore-2-clause-c1_sound : goal.returns-else-restore-2-clause-c1_sound
returns-else-restore-2-clause-c1_sound g c = elim c.if-restore.branch [ then-restore w ↦ rw w.c1-is w.restore-then-restore.ensures.sound | else-restore w ↦ rw w.c1-is (g.met.B.LowestRows.untouched c.args.c1.now c.requires.c1_sound) ]

pub returns-else-restore-2-clause-c2_sound : goal.returns-else-restore-2-clause-c2_sound
returns-else-restore-2-clause-c2_sound g c = g.met.B.LowestRows.untouched c.args.c2.now c.requires.c2_sound
