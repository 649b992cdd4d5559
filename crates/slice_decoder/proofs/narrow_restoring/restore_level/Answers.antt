use Rattle.std.proofs.Common.{◌≡◌, ◌+◌, ◌*◌, ◌^◌, ◌≤◌, ℤ, refl, sym, subst, ◌∙◌, arith}
use Rattle.std.specs.Int.RustNames.{unsigned_abs}
use Rattle.quant_factors.specs.Factors.{factor_of}
use Rattle.slice_decoder.proofs.RestoredBands.{restored-at}
use Rattle.slice_decoder.proofs.narrow_restoring.restore_level.Goals as goal

abbrev IsNarrow : ℤ → Type 0
IsNarrow z = unsigned_abs z ≤ 2 ^ 18

pub restore_band-requires-2-clause-narrow : goal.restore_band-requires-2-clause-narrow
restore_band-requires-2-clause-narrow c j le = subst IsNarrow (sym (c.restore_band.ensures.rest j le)) (c.requires.narrow j (omega (arith, le)))

pub restore_band-requires-2-clause-low : goal.restore_band-requires-2-clause-low
restore_band-requires-2-clause-low c low i most j le =
    subst (λ (v : ℤ). (unsigned_abs v + 1) * factor_of i ≤ 2 ^ 20) (sym (c.restore_band.ensures.rest j le)) (c.requires.low low i most j (omega (arith, le)))

pub returns-then-not-restore_band-clause-stopped : goal.returns-then-not-restore_band-clause-stopped
returns-then-not-restore_band-clause-stopped c e each p vs are held = c.restore_band.ensures.stopped c.if-not-restore_band.true each p vs are.first held

pub returns-then-not-restore_band-2-clause-stopped : goal.returns-then-not-restore_band-2-clause-stopped
returns-then-not-restore_band-2-clause-stopped c e each p vs are held =
    c.restore_band-2.ensures.stopped c.if-not-restore_band-2.true each p vs are.second
    (c.restore_band.ensures.more c.if-not-restore_band.false each p vs are.first held)

pub restore_band-requires-3-clause-narrow : goal.restore_band-requires-3-clause-narrow
restore_band-requires-3-clause-narrow c j le =
    subst IsNarrow (sym (c.restore_band-2.ensures.rest j le ∙ c.restore_band.ensures.rest j (omega (arith, le)))) (c.requires.narrow j (omega (arith, le)))

pub restore_band-requires-3-clause-low : goal.restore_band-requires-3-clause-low
restore_band-requires-3-clause-low c low i most j le =
    subst (λ (v : ℤ). (unsigned_abs v + 1) * factor_of i ≤ 2 ^ 20) (sym (c.restore_band-2.ensures.rest j le ∙ c.restore_band.ensures.rest j (omega (arith, le))))
    (c.requires.low low i most j (omega (arith, le)))

pub returns-clause-more : goal.returns-clause-more
returns-clause-more c good each p vs are held =
    let k = c.args.k in
    let from = c.args.from in
    let n = c.args.count in
    let two : k + 1 + 1 ≡ k + 2 = omega arith in
    let three : k + 2 + 1 ≡ k + 3 = omega arith in
    let all : from + n + n + n ≡ from + 3 * n = omega arith in
    let first = c.restore_band.ensures.more c.if-not-restore_band.false each p vs are.first held in
    let second = restored-at (2 ^ 18) each p (k + 1 + 1) (k + 2) (from + n + n) (from + n + n) vs c.restore_band-2.new.values two refl
    (c.restore_band-2.ensures.more c.if-not-restore_band-2.false each p vs are.second first) in
    restored-at (2 ^ 18) each p (k + 2 + 1) (k + 3) (from + n + n + n) (from + 3 * n) vs c.restore_band-3.new.values three all
    (c.restore_band-3.ensures.more good each p vs are.third second)

pub returns-clause-stopped : goal.returns-clause-stopped
returns-clause-stopped c bad each p vs are held =
    let k = c.args.k in
    let n = c.args.count in
    let two : k + 1 + 1 ≡ k + 2 = omega arith in
    let second = restored-at (2 ^ 18) each p (k + 1 + 1) (k + 2) (c.args.from + n + n) (c.args.from + n + n) vs c.restore_band-2.new.values two refl
    (c.restore_band-2.ensures.more c.if-not-restore_band-2.false each p vs are.second
    (c.restore_band.ensures.more c.if-not-restore_band.false each p vs are.first held)) in
    c.restore_band-3.ensures.stopped bad each p vs are.third second
