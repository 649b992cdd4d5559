use Rattle.std.proofs.Common.{rules, ◌≡◌, ◌∙◌, refl, sym, ap, subst, ℕ, ◌+◌, ◌*◌, ◌^◌, ◌<◌, ◌≤◌, List, length, arith, inl}
use Rattle.std.proofs.lemmas.List.{with_items_is}
use Rattle.std.specs.Vec.{with_items}
use Rattle.planes.specs.Raster.{height}
use Rattle.planes.specs.Subbands.{BandExists, band_of, HaveSizes}
use Rattle.planes.specs.Valued.{valued}
use Rattle.lifting.specs.RowAnalysis.{RowAnalysisSeen, LevelSeen, level_at, HasCome, ShowsFinished, ShowsLevels, ShowsLowest, AreInTurn, RowsHaveCome, Coming, coming_in, rows_behind}
use Rattle.lifting.specs.Ranges.{GridWithin}
use Rattle.lifting.proofs.Levels.{whole_at_zero}
use Rattle.lifting.proofs.RowsDone.{same_coming, first_w, first_h, coming_to, whole_shown, bare_in_turn, bare_shown}
use Rattle.lifting.proofs.row_analysis.RowAnalysis.put_row.Goals as goal

pub put_row-requires-clause-inside : goal.put_row-requires-clause-inside
put_row-requires-clause-inside g c =
    let q = c.requires.1.1.1 in
    let s = c.self.inside in
    let k = s.wavelet in
    let stack = g.S.RowSink.stack in
    let b0 = stack c.args.sink.now in
    let is = sym c.self.view_is in
    let Seen = RowAnalysisSeen g.row.T.Denot in
    let value = g.T.Number.value in
    let none = g.T.Number.none in
    let turn = c.self.invariant in
    let old = s.levels.items in
    let more : s.came < s.h = subst (λ (a : Seen). a.came < a.h) is q.0 in
    let depth : b0.depth ≡ length old = subst (λ (a : Seen). b0.depth ≡ length a.levels) is q.1.1.1.1.1.1.0 in
    let sizes : HaveSizes b0 s.w s.h = subst (λ (a : Seen). HaveSizes b0 a.w a.h) is q.1.1.1.1.1.1.1 in
    let bare : length old ≡ 0 = search rules in
    let flat : b0.depth ≡ 0 = depth ∙ bare in
    let ex : BandExists b0.depth 0 0 = inl (refl, refl) in
    let wide : (band_of b0 0 0).w ≡ s.w = sizes.widths 0 0 ex ∙ whole_at_zero s.w b0.depth flat in
    let high : height (band_of b0 0 0) ≡ s.h = sizes.heights 0 0 ex ∙ whole_at_zero s.h b0.depth flat in
    omega (arith, high, more)

pub put_row-requires-clause-wide : goal.put_row-requires-clause-wide
put_row-requires-clause-wide g c =
    let q = c.requires.1.1.1 in
    let s = c.self.inside in
    let k = s.wavelet in
    let stack = g.S.RowSink.stack in
    let b0 = stack c.args.sink.now in
    let is = sym c.self.view_is in
    let Seen = RowAnalysisSeen g.row.T.Denot in
    let value = g.T.Number.value in
    let none = g.T.Number.none in
    let turn = c.self.invariant in
    let old = s.levels.items in
    let more : s.came < s.h = subst (λ (a : Seen). a.came < a.h) is q.0 in
    let depth : b0.depth ≡ length old = subst (λ (a : Seen). b0.depth ≡ length a.levels) is q.1.1.1.1.1.1.0 in
    let sizes : HaveSizes b0 s.w s.h = subst (λ (a : Seen). HaveSizes b0 a.w a.h) is q.1.1.1.1.1.1.1 in
    let bare : length old ≡ 0 = search rules in
    let flat : b0.depth ≡ 0 = depth ∙ bare in
    let ex : BandExists b0.depth 0 0 = inl (refl, refl) in
    let wide : (band_of b0 0 0).w ≡ s.w = sizes.widths 0 0 ex ∙ whole_at_zero s.w b0.depth flat in
    let high : height (band_of b0 0 0) ≡ s.h = sizes.heights 0 0 ex ∙ whole_at_zero s.h b0.depth flat in
    let long : s.w ≤ length c.args.row.now = subst (λ (a : Seen). a.w ≤ length c.args.row.now) is q.1.0 in
    omega (arith, wide, long)

pub returns-then-is_empty-clause-shown : goal.returns-then-is_empty-clause-shown
returns-then-is_empty-clause-shown g c shown =
    let q = c.requires.1.1.1 in
    let s = c.self.inside in
    let k = s.wavelet in
    let stack = g.S.RowSink.stack in
    let b0 = stack c.args.sink.now in
    let is = sym c.self.view_is in
    let Seen = RowAnalysisSeen g.row.T.Denot in
    let value = g.T.Number.value in
    let none = g.T.Number.none in
    let turn = c.self.invariant in
    let old = s.levels.items in
    let more : s.came < s.h = subst (λ (a : Seen). a.came < a.h) is q.0 in
    let depth : b0.depth ≡ length old = subst (λ (a : Seen). b0.depth ≡ length a.levels) is q.1.1.1.1.1.1.0 in
    let sizes : HaveSizes b0 s.w s.h = subst (λ (a : Seen). HaveSizes b0 a.w a.h) is q.1.1.1.1.1.1.1 in
    let bare : length old ≡ 0 = search rules in
    let flat : b0.depth ≡ 0 = depth ∙ bare in
    let ex : BandExists b0.depth 0 0 = inl (refl, refl) in
    let wide : (band_of b0 0 0).w ≡ s.w = sizes.widths 0 0 ex ∙ whole_at_zero s.w b0.depth flat in
    let high : height (band_of b0 0 0) ≡ s.h = sizes.heights 0 0 ex ∙ whole_at_zero s.h b0.depth flat in
    let is_row = subst (λ (a : Seen). (x : ℕ) → x < a.w → valued value none c.args.row.now x ≡ g.g a.came x) is q.1.1.0 in
    let before = subst (λ (a : Seen). ShowsFinished g.g a b0) is shown in
    record {
      levels = λ j lt. absurd (omega (arith, lt, bare));
      lowest = bare_shown k g.g s.w s.h s.came old bare (valued value none c.args.row.now) b0 (stack c.put_row.new.self) wide high more c.put_row.ensures.put is_row before.lowest;
    }

pub returns-then-is_empty-clause-whole : goal.returns-then-is_empty-clause-whole
returns-then-is_empty-clause-whole g c last shown =
    let q = c.requires.1.1.1 in
    let s = c.self.inside in
    let k = s.wavelet in
    let stack = g.S.RowSink.stack in
    let b0 = stack c.args.sink.now in
    let is = sym c.self.view_is in
    let Seen = RowAnalysisSeen g.row.T.Denot in
    let value = g.T.Number.value in
    let none = g.T.Number.none in
    let turn = c.self.invariant in
    let old = s.levels.items in
    let more : s.came < s.h = subst (λ (a : Seen). a.came < a.h) is q.0 in
    let depth : b0.depth ≡ length old = subst (λ (a : Seen). b0.depth ≡ length a.levels) is q.1.1.1.1.1.1.0 in
    let sizes : HaveSizes b0 s.w s.h = subst (λ (a : Seen). HaveSizes b0 a.w a.h) is q.1.1.1.1.1.1.1 in
    let bare : length old ≡ 0 = search rules in
    let flat : b0.depth ≡ 0 = depth ∙ bare in
    let ex : BandExists b0.depth 0 0 = inl (refl, refl) in
    let wide : (band_of b0 0 0).w ≡ s.w = sizes.widths 0 0 ex ∙ whole_at_zero s.w b0.depth flat in
    let high : height (band_of b0 0 0) ≡ s.h = sizes.heights 0 0 ex ∙ whole_at_zero s.h b0.depth flat in
    whole_shown k g.g s.w s.h (s.came + 1) old (bare_in_turn k g.g s.w s.h s.came old bare turn more) last (stack c.put_row.new.self) (sym c.put_row.ensures.put.sizes.same_depth ∙ depth) shown.levels shown.lowest

pub hand_down-requires : goal.hand_down-requires
hand_down-requires g c κs within =
    let q = c.requires.1.1.1 in
    let s = c.self.inside in
    let k = s.wavelet in
    let stack = g.S.RowSink.stack in
    let b0 = stack c.args.sink.now in
    let is = sym c.self.view_is in
    let Seen = RowAnalysisSeen g.row.T.Denot in
    let value = g.T.Number.value in
    let none = g.T.Number.none in
    let turn = c.self.invariant in
    let old = s.levels.items in
    let more : s.came < s.h = subst (λ (a : Seen). a.came < a.h) is q.0 in
    let depth : b0.depth ≡ length old = subst (λ (a : Seen). b0.depth ≡ length a.levels) is q.1.1.1.1.1.1.0 in
    let sizes : HaveSizes b0 s.w s.h = subst (λ (a : Seen). HaveSizes b0 a.w a.h) is q.1.1.1.1.1.1.1 in
    let is_row = subst (λ (a : Seen). (x : ℕ) → x < a.w → valued value none c.args.row.now x ≡ g.g a.came x) is q.1.1.0 in
    let D = c.deref_mut.result.now in
    let val = c.deref_mut.ensures.value in
    let turnD : AreInTurn k s.w s.h s.came D = subst (AreInTurn k s.w s.h s.came) (sym val) turn in
    let bare : length old ≡ 0 → ⊥ = search rules in
    let some : 0 < length D = omega (arith, bare, ap length val) in
    let fw = first_w k s.w s.h s.came D turnD some in
    let fh = first_h k s.w s.h s.came D turnD some in
    let fc : (level_at D 0).came ≡ s.came = turnD.next 0 some in
    let first : coming_in g.g D ≡ coming_to s.w s.h g.g D = same_coming g.g D s.w s.h fw fh in
    let long : s.w ≤ length c.args.row.now = subst (λ (a : Seen). a.w ≤ length c.args.row.now) is q.1.0 in
    let small : GridWithin s.h s.w (2 ^ 15) g.g = subst (λ (a : Seen). GridWithin a.h a.w (2 ^ 15) g.g) is q.1.1.1.0 in
    let come : RowsHaveCome value none k (coming_to s.w s.h g.g D) D =
    subst (λ (ls : List (LevelSeen g.row.T.Denot)). RowsHaveCome value none k (coming_to s.w s.h g.g ls) ls) (sym val) (subst (HasCome value none g.g) is q.1.1.1.1.0) in (
      search rules,
      (
        search rules,
        (
          search rules,
          (
            some,
            (
              refl,
              (
                rw (fw, fh, fc) turnD,
                (
                  omega (arith, fc, fh, more),
                  (
                    omega (arith, fw, long),
                    (
                      λ x lx. is_row x (omega (arith, lx, fw)) ∙ ap (λ (n : ℕ). g.g n x) (sym fc),
                      (
                        λ y x ly lx. small y x (omega (arith, ly, fh)) (omega (arith, lx, fw)),
                        (
                          subst (λ (m : Coming). RowsHaveCome value none k m D) (sym first) come,
                          (q.1.1.1.1.1.0, (depth ∙ ap length (sym val), rw (fw, fh) sizes)),
                        ),
                      ),
                    ),
                  ),
                ),
              ),
            ),
          ),
        ),
      ),
    )

pub invariant_of-self-2 : goal.invariant_of-self-2
invariant_of-self-2 g c =
    let q = c.requires.1.1.1 in
    let s = c.self.inside in
    let k = s.wavelet in
    let stack = g.S.RowSink.stack in
    let b0 = stack c.args.sink.now in
    let is = sym c.self.view_is in
    let Seen = RowAnalysisSeen g.row.T.Denot in
    let value = g.T.Number.value in
    let none = g.T.Number.none in
    let turn = c.self.invariant in
    let old = s.levels.items in
    let more : s.came < s.h = subst (λ (a : Seen). a.came < a.h) is q.0 in
    let depth : b0.depth ≡ length old = subst (λ (a : Seen). b0.depth ≡ length a.levels) is q.1.1.1.1.1.1.0 in
    let sizes : HaveSizes b0 s.w s.h = subst (λ (a : Seen). HaveSizes b0 a.w a.h) is q.1.1.1.1.1.1.1 in
    let D = c.deref_mut.result.now in
    let val = c.deref_mut.ensures.value in
    let turnD : AreInTurn k s.w s.h s.came D = subst (AreInTurn k s.w s.h s.came) (sym val) turn in
    let bare : length old ≡ 0 → ⊥ = search rules in
    let some : 0 < length D = omega (arith, bare, ap length val) in
    let fw = first_w k s.w s.h s.came D turnD some in
    let fh = first_h k s.w s.h s.came D turnD some in
    let fc : (level_at D 0).came ≡ s.came = turnD.next 0 some in
    let first : coming_in g.g D ≡ coming_to s.w s.h g.g D = same_coming g.g D s.w s.h fw fh in
    let N = c.hand_down.new.levels in
    let done = c.hand_down.ensures in
    let I : (with_items s.levels N).items ≡ N = with_items_is s.levels N (done.count ∙ ap length val ∙ sym s.levels.ok.0) in
    let then : coming_in g.g D ≡ coming_to s.w s.h g.g N = first ∙ ap (λ (d : ℕ). record { depth = d; w = s.w; h = s.h; grid = g.g }) (sym done.count) in
    let turnN : AreInTurn k s.w s.h (s.came + 1) N =
    subst (λ (n : ℕ). AreInTurn k s.w s.h (n + 1) N) fc (subst (λ (n : ℕ). AreInTurn k s.w n ((level_at D 0).came + 1) N) fh (subst (λ (n : ℕ). AreInTurn k n (2 * (level_at D 0).h) ((level_at D 0).came + 1) N) fw done.turn)) in
    subst (AreInTurn k s.w s.h (s.came + 1)) (sym I) turnN

pub returns-clause-after : goal.returns-clause-after
returns-clause-after g c =
    let q = c.requires.1.1.1 in
    let s = c.self.inside in
    let k = s.wavelet in
    let stack = g.S.RowSink.stack in
    let b0 = stack c.args.sink.now in
    let is = sym c.self.view_is in
    let Seen = RowAnalysisSeen g.row.T.Denot in
    let value = g.T.Number.value in
    let none = g.T.Number.none in
    let turn = c.self.invariant in
    let old = s.levels.items in
    let more : s.came < s.h = subst (λ (a : Seen). a.came < a.h) is q.0 in
    let depth : b0.depth ≡ length old = subst (λ (a : Seen). b0.depth ≡ length a.levels) is q.1.1.1.1.1.1.0 in
    let sizes : HaveSizes b0 s.w s.h = subst (λ (a : Seen). HaveSizes b0 a.w a.h) is q.1.1.1.1.1.1.1 in
    let D = c.deref_mut.result.now in
    let val = c.deref_mut.ensures.value in
    let turnD : AreInTurn k s.w s.h s.came D = subst (AreInTurn k s.w s.h s.came) (sym val) turn in
    let bare : length old ≡ 0 → ⊥ = search rules in
    let some : 0 < length D = omega (arith, bare, ap length val) in
    let fw = first_w k s.w s.h s.came D turnD some in
    let fh = first_h k s.w s.h s.came D turnD some in
    let fc : (level_at D 0).came ≡ s.came = turnD.next 0 some in
    let first : coming_in g.g D ≡ coming_to s.w s.h g.g D = same_coming g.g D s.w s.h fw fh in
    let N = c.hand_down.new.levels in
    let done = c.hand_down.ensures in
    let I : (with_items s.levels N).items ≡ N = with_items_is s.levels N (done.count ∙ ap length val ∙ sym s.levels.ok.0) in
    let then : coming_in g.g D ≡ coming_to s.w s.h g.g N = first ∙ ap (λ (d : ℕ). record { depth = d; w = s.w; h = s.h; grid = g.g }) (sym done.count) in
    let turnN : AreInTurn k s.w s.h (s.came + 1) N =
    subst (λ (n : ℕ). AreInTurn k s.w s.h (n + 1) N) fc (subst (λ (n : ℕ). AreInTurn k s.w n ((level_at D 0).came + 1) N) fh (subst (λ (n : ℕ). AreInTurn k n (2 * (level_at D 0).h) ((level_at D 0).came + 1) N) fw done.turn)) in
    subst (λ (ls : List (LevelSeen g.row.T.Denot)). RowsHaveCome value none k (coming_to s.w s.h g.g ls) ls) (sym I) (subst (λ (m : Coming). RowsHaveCome value none k m N) then done.come)

pub returns-clause-shown : goal.returns-clause-shown
returns-clause-shown g c shown =
    let q = c.requires.1.1.1 in
    let s = c.self.inside in
    let k = s.wavelet in
    let stack = g.S.RowSink.stack in
    let b0 = stack c.args.sink.now in
    let is = sym c.self.view_is in
    let Seen = RowAnalysisSeen g.row.T.Denot in
    let value = g.T.Number.value in
    let none = g.T.Number.none in
    let turn = c.self.invariant in
    let old = s.levels.items in
    let more : s.came < s.h = subst (λ (a : Seen). a.came < a.h) is q.0 in
    let depth : b0.depth ≡ length old = subst (λ (a : Seen). b0.depth ≡ length a.levels) is q.1.1.1.1.1.1.0 in
    let sizes : HaveSizes b0 s.w s.h = subst (λ (a : Seen). HaveSizes b0 a.w a.h) is q.1.1.1.1.1.1.1 in
    let D = c.deref_mut.result.now in
    let val = c.deref_mut.ensures.value in
    let turnD : AreInTurn k s.w s.h s.came D = subst (AreInTurn k s.w s.h s.came) (sym val) turn in
    let bare : length old ≡ 0 → ⊥ = search rules in
    let some : 0 < length D = omega (arith, bare, ap length val) in
    let fw = first_w k s.w s.h s.came D turnD some in
    let fh = first_h k s.w s.h s.came D turnD some in
    let fc : (level_at D 0).came ≡ s.came = turnD.next 0 some in
    let first : coming_in g.g D ≡ coming_to s.w s.h g.g D = same_coming g.g D s.w s.h fw fh in
    let N = c.hand_down.new.levels in
    let done = c.hand_down.ensures in
    let I : (with_items s.levels N).items ≡ N = with_items_is s.levels N (done.count ∙ ap length val ∙ sym s.levels.ok.0) in
    let then : coming_in g.g D ≡ coming_to s.w s.h g.g N = first ∙ ap (λ (d : ℕ). record { depth = d; w = s.w; h = s.h; grid = g.g }) (sym done.count) in
    let turnN : AreInTurn k s.w s.h (s.came + 1) N =
    subst (λ (n : ℕ). AreInTurn k s.w s.h (n + 1) N) fc (subst (λ (n : ℕ). AreInTurn k s.w n ((level_at D 0).came + 1) N) fh (subst (λ (n : ℕ). AreInTurn k n (2 * (level_at D 0).h) ((level_at D 0).came + 1) N) fw done.turn)) in
    let before = subst (λ (a : Seen). ShowsFinished g.g a b0) is shown in
    let b' = stack c.hand_down.new.sink in
    let levels : ShowsLevels k (coming_in g.g D) D b0 =
    subst (λ (m : Coming). ShowsLevels k m D b0) (sym first) (subst (λ (ls : List (LevelSeen g.row.T.Denot)). ShowsLevels k (coming_to s.w s.h g.g ls) ls b0) (sym val) before.levels) in
    let low : ShowsLowest k (coming_in g.g D) (rows_behind (level_at D 0).came D (length D)) b0 =
    subst (λ (n : ℕ). ShowsLowest k (coming_in g.g D) (rows_behind n D (length D)) b0) (sym fc)
    (subst (λ (m : Coming). ShowsLowest k m (rows_behind s.came D (length D)) b0) (sym first) (subst (λ (ls : List (LevelSeen g.row.T.Denot)). ShowsLowest k (coming_to s.w s.h g.g ls) (rows_behind s.came ls (length ls)) b0) (sym val) before.lowest)) in
    let low_then : ShowsLowest k (coming_to s.w s.h g.g N) (rows_behind (s.came + 1) N (length N)) b' =
    subst (λ (n : ℕ). ShowsLowest k (coming_to s.w s.h g.g N) (rows_behind (n + 1) N (length N)) b') fc
    (subst (λ (m : Coming). ShowsLowest k m (rows_behind ((level_at D 0).came + 1) N m.depth) b') then (done.lowest low)) in
    record {
      levels = subst (λ (ls : List (LevelSeen g.row.T.Denot)). ShowsLevels k (coming_to s.w s.h g.g ls) ls b') (sym I) (subst (λ (m : Coming). ShowsLevels k m N b') then (done.levels levels));
      lowest = subst (λ (ls : List (LevelSeen g.row.T.Denot)). ShowsLowest k (coming_to s.w s.h g.g ls) (rows_behind (s.came + 1) ls (length ls)) b') (sym I) low_then;
    }

pub returns-clause-whole : goal.returns-clause-whole
returns-clause-whole g c last shown =
    let q = c.requires.1.1.1 in
    let s = c.self.inside in
    let k = s.wavelet in
    let stack = g.S.RowSink.stack in
    let b0 = stack c.args.sink.now in
    let is = sym c.self.view_is in
    let Seen = RowAnalysisSeen g.row.T.Denot in
    let value = g.T.Number.value in
    let none = g.T.Number.none in
    let turn = c.self.invariant in
    let old = s.levels.items in
    let more : s.came < s.h = subst (λ (a : Seen). a.came < a.h) is q.0 in
    let depth : b0.depth ≡ length old = subst (λ (a : Seen). b0.depth ≡ length a.levels) is q.1.1.1.1.1.1.0 in
    let sizes : HaveSizes b0 s.w s.h = subst (λ (a : Seen). HaveSizes b0 a.w a.h) is q.1.1.1.1.1.1.1 in
    let D = c.deref_mut.result.now in
    let val = c.deref_mut.ensures.value in
    let turnD : AreInTurn k s.w s.h s.came D = subst (AreInTurn k s.w s.h s.came) (sym val) turn in
    let bare : length old ≡ 0 → ⊥ = search rules in
    let some : 0 < length D = omega (arith, bare, ap length val) in
    let fw = first_w k s.w s.h s.came D turnD some in
    let fh = first_h k s.w s.h s.came D turnD some in
    let fc : (level_at D 0).came ≡ s.came = turnD.next 0 some in
    let first : coming_in g.g D ≡ coming_to s.w s.h g.g D = same_coming g.g D s.w s.h fw fh in
    let N = c.hand_down.new.levels in
    let done = c.hand_down.ensures in
    let I : (with_items s.levels N).items ≡ N = with_items_is s.levels N (done.count ∙ ap length val ∙ sym s.levels.ok.0) in
    let then : coming_in g.g D ≡ coming_to s.w s.h g.g N = first ∙ ap (λ (d : ℕ). record { depth = d; w = s.w; h = s.h; grid = g.g }) (sym done.count) in
    let turnN : AreInTurn k s.w s.h (s.came + 1) N =
    subst (λ (n : ℕ). AreInTurn k s.w s.h (n + 1) N) fc (subst (λ (n : ℕ). AreInTurn k s.w n ((level_at D 0).came + 1) N) fh (subst (λ (n : ℕ). AreInTurn k n (2 * (level_at D 0).h) ((level_at D 0).came + 1) N) fw done.turn)) in
    let items = (with_items s.levels N).items in
    whole_shown k g.g s.w s.h (s.came + 1) items (subst (AreInTurn k s.w s.h (s.came + 1)) (sym I) turnN) last (stack c.hand_down.new.sink)
    (sym done.sizes.same_depth ∙ depth ∙ ap length (sym val) ∙ sym done.count ∙ ap length (sym I)) shown.levels shown.lowest
