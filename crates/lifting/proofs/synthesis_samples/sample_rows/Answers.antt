use Rattle.std.proofs.Common.{◌∙◌, refl, ℕ, suc, ◌+◌, ◌*◌, ◌<◌, arith, inl, inr}
use Rattle.std.proofs.Math.Nat.{mul-le-mul_right, suc-mul}
use Rattle.std.proofs.lemmas.Bool.{cases_eq}
use Rattle.lifting.proofs.synthesis_samples.sample_rows.Goals as goal

pub loop-up-preserved : goal.loop-up-preserved
loop-up-preserved g c =
    let i = c.loop-up.invariant in
    let row = c.sample_next.ensures in
    let v = c.args.up.now in
    let old = c.loop-up.up in
    let w : ℕ = c.args.area.w in
    record {
      same_level = record {
        wavelet = row.same_level.wavelet ∙ i.same_level.wavelet;
        w = row.same_level.w ∙ i.same_level.w;
        h = row.same_level.h ∙ i.same_level.h;
        ring = row.same_level.ring ∙ i.same_level.ring;
        same_ring = row.same_level.same_ring ∙ i.same_level.same_ring;
      };
      is_open = row.open;
      came = row.counts.0 ∙ i.came;
      has = row.after;
      count = row.count ∙ i.count;
      done = λ y x ly lh lx. elim (cases_eq y old.given) [
        | inl here ↦ rw here (row.row (omega (arith, here, lh)) x lx ∙ rw (i.same_level.wavelet, i.same_level.h, i.same_level.w) refl)
        | inr ne ↦
            let above : y < old.given = omega (arith, ly, row.counts.1) in
            row.above (y * w + x) (omega (arith, lx, suc-mul y w, mul-le-mul_right {m = suc y} {n = old.given} w (omega arith))) ∙ i.done y x above lh lx
      ];
    }
