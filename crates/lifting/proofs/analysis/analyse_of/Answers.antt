use Rattle.std.proofs.Common.{rules, ◌≡◌, ◌∙◌, refl, sym, ap, subst, ℕ, ◌+◌, ◌-◌, ◌*◌, ◌^◌, ◌<◌, arith}
use Rattle.std.proofs.lemmas.Grind.{common_steps}
use Rattle.planes.specs.Valued.{grid_of}
use Rattle.planes.specs.Raster.{height}
use Rattle.planes.specs.Subbands.{with_band}
use Rattle.lifting.specs.Bands.{lowest, coefficients_in}
use Rattle.lifting.specs.Transform.{Grid, remaining, analysis}
use Rattle.lifting.specs.Ranges.{GridWithin, SameBands}
use Rattle.lifting.proofs.Levels.{whole_size, lowest_fits, sizes_stay, lowest_columns, lowest_rows, columns_of, rows_of, sizes_after}
use Rattle.lifting.proofs.LevelsDown.{same_sizes_after, left_small, left_next, dealt_next, all_dealt}
use Rattle.lifting.proofs.analysis.analyse_of.Goals as goal

-- by the sizes of the definition
whole_small : (h w depth : ℕ) (rows columns : ℕ) (m : ℕ) (g : Grid) → h * 2 ^ depth ≡ rows → w * 2 ^ depth ≡ columns → GridWithin rows columns m g → GridWithin (h * 2 ^ depth) (w * 2 ^ depth) m g
whole_small h w depth rows columns m g eh ew small y x ly lx = small y x (omega arith) (omega arith)

pub loop-j-init : goal.loop-j-init
unfolding remaining
loop-j-init G c = record {
  same_size = (refl, refl);
  same_size_scratch = (refl, refl);
  same_sizes = sizes_stay c.args.bands.now;
  left = λ y x ly lx. refl;
  dealt = λ n lt le. absurd (omega arith);
}

pub analyse_next-requires : goal.analyse_next-requires
analyse_next-requires G c κs within =
    let q = c.requires.sizes in
    let b = c.args.bands.now in
    let p = c.args.plane.now in
    let j = c.loop-j.j in
    let n : ℕ = b.depth - (j + 1) in
    let inside : j < b.depth = omega (arith, c.depth-depth.ensures.value, c.loop-j-test.true) in
    let level : c.depth-depth.result - j ≡ n + 1 = omega (arith, c.depth-depth.ensures.value) in
    let h = lowest b.depth (height p) in
    let w = lowest b.depth p.w in
    let eh : c.h-h.result ≡ h * 2 ^ n = c.h-h.ensures.value ∙ rows_of b c.loop-j.bands p.w (height p) q.whole_columns q.whole_rows q.bands c.loop-j.invariant.same_sizes _ n level (omega arith) 1 (omega arith) (omega arith) c.band-band.result.now c.band-band.ensures in
    let ew : c.w-w.result ≡ w * 2 ^ n = c.w-w.ensures.value ∙ columns_of b c.loop-j.bands p.w (height p) q.whole_columns q.whole_rows q.bands c.loop-j.invariant.same_sizes _ n level (omega arith) 1 (omega arith) (omega arith) c.band-band.result.now c.band-band.ensures in
    let small = left_small c.args.wavelet h w b.depth (grid_of G.T.Number.value G.T.Number.none p) j n c.h-h.result c.w-w.result (grid_of G.T.Number.value G.T.Number.none c.loop-j.plane) (omega arith) inside eh ew c.loop-j.invariant.left
    (whole_small h w b.depth (height p) p.w (2 ^ 15) (grid_of G.T.Number.value G.T.Number.none p) (whole_size (height p) b.depth q.whole_rows) (whole_size p.w b.depth q.whole_columns) c.requires.small)
    (omega (arith, c.depth-depth.ensures)) in (
      search rules,
      (
        search rules,
        (
          omega (arith, level),
          (
            omega (arith, level, c.loop-j.invariant.same_sizes.depth),
            (λ y x ly lx. refl, (small, (grind (arith, common_steps), (grind (arith, common_steps), (grind (arith, common_steps), (grind (arith, common_steps), (search rules, search rules))))))),
          ),
        ),
      ),
    )

pub loop-j-preserved : goal.loop-j-preserved
loop-j-preserved G c =
    let q = c.requires.sizes in
    let b = c.args.bands.now in
    let p = c.args.plane.now in
    let s = c.args.scratch.now in
    let j = c.loop-j.j in
    let i = c.loop-j.invariant in
    let done = c.analyse_next.ensures in
    let n : ℕ = b.depth - (j + 1) in
    let inside : j < b.depth = omega (arith, c.depth-depth.ensures.value, c.loop-j-test.true) in
    let level : c.depth-depth.result - j ≡ n + 1 = omega (arith, c.depth-depth.ensures.value) in
    let h = lowest b.depth (height p) in
    let w = lowest b.depth p.w in
    let eh : c.h-h.result ≡ h * 2 ^ n = c.h-h.ensures.value ∙ rows_of b c.loop-j.bands p.w (height p) q.whole_columns q.whole_rows q.bands i.same_sizes _ n level (omega arith) 1 (omega arith) (omega arith) c.band-band.result.now c.band-band.ensures in
    let ew : c.w-w.result ≡ w * 2 ^ n = c.w-w.ensures.value ∙ columns_of b c.loop-j.bands p.w (height p) q.whole_columns q.whole_rows q.bands i.same_sizes _ n level (omega arith) 1 (omega arith) (omega arith) c.band-band.result.now c.band-band.ensures in
    record {
      same_size = sizes_after p c.loop-j.plane c.analyse_next.new.plane i.same_size done.same_size;
      same_size_scratch = sizes_after s c.loop-j.scratch c.analyse_next.new.scratch i.same_size_scratch done.same_size_scratch;
      same_sizes = same_sizes_after b c.loop-j.bands c.analyse_next.new.bands i.same_sizes done.same_sizes;
      left = left_next c.args.wavelet h w b.depth (grid_of G.T.Number.value G.T.Number.none p) j n c.h-h.result c.w-w.result (grid_of G.T.Number.value G.T.Number.none c.loop-j.plane) (omega arith) inside eh ew i.left (grid_of G.T.Number.value G.T.Number.none c.analyse_next.new.plane) done.left;
      dealt =
          dealt_next c.args.wavelet h w b.depth (grid_of G.T.Number.value G.T.Number.none p) j n c.h-h.result c.w-w.result (grid_of G.T.Number.value G.T.Number.none c.loop-j.plane) (omega arith) inside eh ew i.left
          G.T.Number.value G.T.Number.none c.loop-j.bands c.analyse_next.new.bands _ (omega (arith, level)) i.same_sizes.depth done.others done.dealt i.dealt;
    }

pub copy_corner-requires : goal.copy_corner-requires
copy_corner-requires G c =
    let q = c.requires.sizes in
    let b = c.args.bands.now in
    let p = c.args.plane.now in
    let i = c.loop-j.invariant in
    let wide = lowest_columns b c.loop-j.bands p.w (height p) q.whole_columns q.whole_rows q.bands i.same_sizes c.band_mut-lowest.result.now c.band_mut-lowest.ensures.value in
    let high = lowest_rows b c.loop-j.bands p.w (height p) q.whole_columns q.whole_rows q.bands i.same_sizes c.band_mut-lowest.result.now c.band_mut-lowest.ensures.value in
    record {
      fits = (omega (arith, c.w-across.ensures), omega (arith, c.w-across.ensures, wide, lowest_fits p.w b.depth q.whole_columns, i.same_size.0));
      high = (omega (arith, c.h-down.ensures), omega (arith, c.h-down.ensures, high, lowest_fits (height p) b.depth q.whole_rows, i.same_size.1));
    }

pub returns-clause-coefficients : goal.returns-clause-coefficients
returns-clause-coefficients G c =
    let q = c.requires.sizes in
    let b = c.args.bands.now in
    let p = c.args.plane.now in
    let i = c.loop-j.invariant in
    let h = lowest b.depth (height p) in
    let w = lowest b.depth p.w in
    let all : c.loop-j.j ≡ b.depth = omega (arith, c.depth-depth.ensures.value) in
    let eh : height c.band_mut-lowest.result.now ≡ h = lowest_rows b c.loop-j.bands p.w (height p) q.whole_columns q.whole_rows q.bands i.same_sizes c.band_mut-lowest.result.now c.band_mut-lowest.ensures.value in
    let ew : c.band_mut-lowest.result.now.w ≡ w = lowest_columns b c.loop-j.bands p.w (height p) q.whole_columns q.whole_rows q.bands i.same_sizes c.band_mut-lowest.result.now c.band_mut-lowest.ensures.value in
    let dealt : SameBands h w b.depth (coefficients_in G.T.Number.value G.T.Number.none (with_band c.loop-j.bands 0 0 c.copy_corner.new.dst)) (analysis c.args.wavelet h w b.depth (grid_of G.T.Number.value G.T.Number.none p)) =
    all_dealt G.T.Number.value G.T.Number.none c.args.wavelet h w b.depth (grid_of G.T.Number.value G.T.Number.none p) c.loop-j.j all (grid_of G.T.Number.value G.T.Number.none c.loop-j.plane) i.left c.loop-j.bands i.dealt c.copy_corner.new.dst c.band_mut-lowest.ensures.there
    (λ y x ly lx. let first : y ≡ 0 + y = omega arith in ap (λ (n : ℕ). grid_of G.T.Number.value G.T.Number.none c.copy_corner.new.dst n x) first ∙ c.copy_corner.ensures.copied y x (omega (arith, eh, c.h-down.ensures)) (omega (arith, ew, c.w-across.ensures))) in
    subst (λ (d : ℕ). SameBands (lowest d (height p)) (lowest d p.w) d (coefficients_in G.T.Number.value G.T.Number.none (with_band c.loop-j.bands 0 0 c.copy_corner.new.dst)) (analysis c.args.wavelet (lowest d (height p)) (lowest d p.w) d (grid_of G.T.Number.value G.T.Number.none p)))
    (sym i.same_sizes.depth) dealt

pub overflow_sub-level : goal.overflow_sub-level
overflow_sub-level c = grind (arith, common_steps)
