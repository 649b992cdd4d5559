use Rattle.std.proofs.Common.{rules, ◌≡◌, ◌∙◌, sym, ap, subst, ℕ, suc, ◌+◌, ◌-◌, ◌*◌, ◌^◌, ◌<◌, ◌≤◌, length, arith, inl, inr}
use Rattle.std.proofs.lemmas.Bool.{cases_lt}
use Rattle.std.proofs.lemmas.List.{get_or_read_under, get_or_append_left, get_or-append_right}
use Rattle.planes.specs.Valued.{valued}
use Rattle.lifting.specs.LevelRows.{pairs_whole}
use Rattle.lifting.specs.Ranges.{GridWithin}
use Rattle.lifting.specs.RowAnalysis.{LevelSeen, level_at, no_level, IsReadyRing, RowsWait, IsMadeRow}
use Rattle.lifting.proofs.row_analysis.take_next.Goals as goal

pub pair-pair-requires-clause-ready : goal.pair-pair-requires-clause-ready
pair-pair-requires-clause-ready g c =
    let q = c.requires.1.1 in
    let s = c.split_at_mut-front.ensures in
    let i : ℕ = c.args.j - 1 in
    let is : c.index-above-j.result ≡ level_at c.args.levels.now i =
    get_or_read_under c.split_at_mut-front.result.0.now i c.args.j c.index-above-j.result no_level c.index-above-j.is (omega (arith, c.if-j-eq0.false)) (sym s.front_len)
    ∙ s.by_index.0 i no_level (omega (arith, c.if-j-eq0.false)) in
    subst IsReadyRing (sym is) (q.1.0 i (omega (arith, q.0)))

pub take_first-requires-2 : goal.take_first-requires-2
take_first-requires-2 g c κs within =
    let q = c.requires.1.1 in
    let s = c.split_at_mut-front.ensures in
    let k = c.args.wavelet in
    let i : ℕ = c.args.j - 1 in
    let next : c.args.j ≡ suc i = omega (arith, c.if-j-eq0.false) in
    let pair = c.pair-pair.ensures in
    let above = q.1.1.1.1.1.1.1.1 i next in
    let Level = LevelSeen g.row.T.Denot in
    let is : c.index-above-j.result ≡ level_at c.args.levels.now i =
    get_or_read_under c.split_at_mut-front.result.0.now i c.args.j c.index-above-j.result no_level c.index-above-j.is (omega (arith, next)) (sym s.front_len)
    ∙ s.by_index.0 i no_level (omega (arith, next)) in
    let here : c.args.j + 0 ≡ c.args.j = omega arith in
    let back : level_at c.args.levels.now c.args.j ≡ level_at c.split_at_mut-front.result.1.now 0 =
    sym (s.by_index.1 0 no_level ∙ ap (level_at c.args.levels.now) here) in
    let made = subst (λ (l : Level). IsMadeRow g.T.Number.value g.T.Number.none 0 0 l c.pair-pair.result.ll.now) is pair.ll in
    let wide : length c.pair-pair.result.ll.now ≡ 2 * (level_at c.args.levels.now c.args.j).w = pair.long.0 ∙ ap (λ (l : Level). l.w) is ∙ above.columns in (
      search rules,
      (
        search rules,
        (
          omega (arith, s.back_len, q.0),
          (
            subst IsReadyRing back (q.1.0 c.args.j q.0),
            (
              subst (λ (l : Level). l.made ≡ pairs_whole k l.h l.came) back q.1.1.0,
              (
                subst (λ (l : Level). l.came < 2 * l.h) back q.1.1.1.0,
                (
                  subst (λ (l : Level). 2 * l.w ≤ length c.pair-pair.result.ll.now) back (omega (arith, wide)),
                  (
                    subst (λ (l : Level). (x : ℕ) → x < 2 * l.w → valued g.T.Number.value g.T.Number.none c.pair-pair.result.ll.now x ≡ g.g l.came x) back
                        (λ x lx. let lw : x < (level_at c.args.levels.now i).w = omega (arith, lx, above.columns) in
                        made k above.grid above.waits x lw ∙ above.row x lw ∙ ap (λ (n : ℕ). g.g n x) (sym above.next)),
                    (
                      subst (λ (l : Level). GridWithin (2 * l.h) (2 * l.w) (2 ^ 25) g.g) back q.1.1.1.1.0,
                      subst (RowsWait g.T.Number.value g.T.Number.none k g.g) back q.1.1.1.1.1.0,
                    ),
                  ),
                ),
              ),
            ),
          ),
        ),
      ),
    )

pub returns-clause-others : goal.returns-clause-others
returns-clause-others g c i ne =
    let s = c.split_at_mut-front.ensures in
    let j = c.args.j in
    let front = c.split_at_mut-front.result.0.now in
    let new = c.take_first-2.new.levels in
    elim (cases_lt i j) [
      | inl below ↦ get_or_append_left front new no_level i (omega (arith, below, s.front_len)) ∙ s.by_index.0 i no_level below
      | inr above ↦
          let behind : j + (i - j) ≡ i = omega (arith, above) in
          get_or-append_right front new j i no_level s.front_len above ∙ c.take_first-2.ensures.others (i - j) (omega (arith, ne, above)) ∙ s.by_index.1 (i - j) no_level ∙ ap (level_at c.args.levels.now) behind
    ]
