use Rattle.std.proofs.Common.{◌≡◌, ◌∙◌, ℕ, ◌+◌, ◌-◌, min, ap, sym, arith, pos}
use Rattle.std.specs.Prelude.{slice_index}
use Rattle.planes.specs.Valued.{valued}
use Rattle.slice_encoder.proofs.Cuts.{cut_rises, band_filled, part_filled}
use Rattle.slice_encoder.specs.Limits.{limit_at, places_in}
use Rattle.slice_encoder.proofs.limits.fill_part.Goals as goal

pub fill-requires-clause-inside : goal.fill-requires-clause-inside
fill-requires-clause-inside g c =
    let l = c.loop-b in
    let key = c.args.key.now in
    omega (arith, c.from-to.ensures, cut_rises key c.requires.cut l.b key.front (omega (arith, c.loop-b-test.true, l.auto.b-end)) (omega arith), c.requires.room, l.invariant.same_length)

pub loop-b-preserved : goal.loop-b-preserved
loop-b-preserved g c =
    let l = c.loop-b in
    let a = c.args in
    let key = a.key.now in
    let next : l.b + 1 - 1 ≡ l.b = omega arith in
    let limit_is = c.limit_of.ensures ∙ ap (λ (q : ℕ). pos (min (limit_at (a.k + 1) q) g.T.Magnitude.greatest)) c.quantiser.ensures.value in
    record {
      from_is = c.from-to.ensures ∙ ap (λ (n : ℕ). slice_index key.ends n) (sym next);
      same_length = c.fill.auto.limits ∙ l.invariant.same_length;
      done = band_filled key a.index g.T.Magnitude.greatest a.k l.b l.from c.from-to.result (g.T.Number.value c.limit_of.result) (valued g.T.Number.value g.T.Number.none l.limits) (valued g.T.Number.value g.T.Number.none c.fill.new.limits) c.requires.cut (omega (arith, l.auto.b)) (omega (arith, c.loop-b-test.true, l.auto.b-end)) l.invariant.from_is c.from-to.ensures limit_is
          c.fill.ensures.inside c.fill.ensures.before l.invariant.done;
    }

pub padded-requires : goal.padded-requires
padded-requires g c =
    let l = c.loop-b in
    let key = c.args.key.now in
    let last : l.b - 1 ≡ key.front = omega (arith, c.loop-b-test.false, l.auto.b-end) in
    let from_is : l.from ≡ places_in key = l.invariant.from_is ∙ ap (λ (n : ℕ). slice_index key.ends n) last in
    omega (arith, from_is, c.requires.room, c.requires.few)

pub returns : goal.returns
returns g c =
    let l = c.loop-b in
    let a = c.args in
    let key = a.key.now in
    let at : l.b ≡ key.front + 1 = omega (arith, c.loop-b-test.false, l.auto.b-end) in
    let last : l.b - 1 ≡ key.front = omega (arith, at) in
    let from_is : l.from ≡ places_in key = l.invariant.from_is ∙ ap (λ (n : ℕ). slice_index key.ends n) last in
    let whole : min 4294967295 g.T.Magnitude.greatest ≡ g.T.Magnitude.greatest = omega (arith, g.met.T.Magnitude.greatest_law) in
    part_filled key a.index g.T.Magnitude.greatest a.k l.from (valued g.T.Number.value g.T.Number.none l.limits) (valued g.T.Number.value g.T.Number.none c.fill-2.new.limits) c.requires.cut from_is
    (λ p low high. c.fill-2.ensures.inside p low (omega (arith, high, c.padded.ensures.value)) ∙ c.clipped.ensures ∙ ap pos whole)
    c.fill-2.ensures.before
    (λ b p one le low high. l.invariant.done b p one (omega (arith, le, at)) low high)
