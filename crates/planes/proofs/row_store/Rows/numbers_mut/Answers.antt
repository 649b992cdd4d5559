use Rattle.std.proofs.Common.{◌≡◌, refl, ap, ◌∙◌, sym, ℕ, ◌+◌, ◌-◌, ◌*◌, length, List, arith}
use Rattle.std.specs.Prelude.{slice_range}
use Rattle.std.proofs.lemmas.Grind.{common_steps}
use Rattle.std.proofs.lemmas.List.{take_all}
use Rattle.planes.specs.Raster.{height}
use Rattle.planes.specs.Inside.{shown, numbers_of}
use Rattle.planes.proofs.RowLoans.{height_is, numbers_shown, all_given}
use Rattle.planes.proofs.row_store.Rows.numbers_mut.Goals as goal

pub part_mut-requires : goal.part_mut-requires
part_mut-requires g c = omega (arith, c.start_of.ensures, c.restore.ensures.count)

pub returns : goal.returns
returns g c =
    let p = c.self.inside in let q = c.args.self.now in let xs = c.restore.new.numbers in let n = c.start_of.result in
    let same = c.restore.ensures.same ∙ ap (λ s. shown p.w p.h p.numbers p.lent s) c.deref.ensures.value in
    let all : xs ≡ numbers_of q = numbers_shown p q c.self.view_is xs c.restore.ensures.count same in
    let whole : c.part_mut.result.now ≡ xs = c.part_mut.ensures.value ∙ take_all (0 + n - 0) xs (omega (arith, c.start_of.ensures, c.restore.ensures.count)) in (
      (refl {a = c.part_mut.result.ghost_name}, all_given p q c.self.view_is xs n c.restore.new.lent c.restore.ensures.none c.start_of.ensures c.restore.ensures.count all),
      record {
        writes_back = tt;
        value = whole ∙ all;
        len = ap length whole ∙ c.restore.ensures.count ∙ ap (λ (h : ℕ). h * p.w) (height_is p q c.self.view_is) ∙ ap (λ r. height q * r.w) c.self.view_is;
      },
    )

pub restore-requires-clause-width : goal.restore-requires-clause-width
restore-requires-clause-width g c = grind (arith, common_steps)

pub invariant_of-self-lent : goal.invariant_of-self-lent
invariant_of-self-lent c = grind (arith, common_steps)
