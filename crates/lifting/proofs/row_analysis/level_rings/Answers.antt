use Rattle.std.proofs.Common.{◌≡◌, ◌∙◌, sym, ap, subst, ℕ, suc, ◌+◌, ◌/◌, ◌^◌, length, [], ◌∷◌, arith, inl, inr, length-append}
use Rattle.std.proofs.Math.Seq.{get_or-append_seam}
use Rattle.std.proofs.lemmas.Bool.{cases_eq}
use Rattle.std.proofs.lemmas.List.{get_or_append_left}
use Rattle.lifting.specs.RowAnalysis.{LevelSeen, no_level, IsUnused}
use Rattle.lifting.proofs.RowsBegin.{some_at}
use Rattle.lifting.proofs.row_analysis.level_rings.Goals as goal

pub new-requires-clause-some : goal.new-requires-clause-some
new-requires-clause-some g c =
    let next : c.loop-j.j + 1 ≡ suc c.loop-j.j = omega arith in
    rw next (some_at c.args.w c.args.depth c.requires.w_whole c.loop-j.j (omega (arith, c.loop-j-test.true, c.loop-j.auto.j-end)) c.requires.some)

pub loop-j-preserved : goal.loop-j-preserved
loop-j-preserved g c =
    let i = c.loop-j.invariant in
    let j = c.loop-j.j in
    let old = c.loop-j.levels.items in
    let more = c.in_ok-push.ensures.items in
    let made = c.in_ok-new.field-0 in
    let w = c.args.w in
    let h = c.args.h in
    record {
      count = ap length more ∙ length-append old (made ∷ []) ∙ omega (arith, i.count);
      each = λ n ln. rw more (elim (cases_eq n j) [
        | inl e ↦
            let at : n ≡ length old = omega (arith, e, i.count) in
            let next : j + 1 ≡ suc n = omega (arith, e) in
            rw at (subst (λ (l : LevelSeen g.row.T.Denot). IsUnused (w / 2 ^ suc (length old)) (h / 2 ^ suc (length old)) l) (sym (get_or-append_seam old made [] no_level))
            (subst (λ (m : ℕ). IsUnused (w / 2 ^ m) (h / 2 ^ m) made) (next ∙ ap suc at) c.in_ok-new.ensures))
        | inr ne ↦
            subst (IsUnused (w / 2 ^ suc n) (h / 2 ^ suc n)) (sym (get_or_append_left old (made ∷ []) no_level n (omega (arith, ne, ln, i.count)))) (i.each n (omega (arith, ne, ln)))
      ]);
    }
