use Rattle.std.proofs.Common.{ap, sym, subst, ◌∙◌, ℕ, ℤ}
use Rattle.slice_geometry.specs.declared.Size.{Size}
use Rattle.slice_store.specs.Store.{Store}
use Rattle.slice_store.specs.Room.{AreStarts}
use Rattle.slice_store.proofs.Starts.{same_starts}
use Rattle.slice_store.proofs.tests.rings_are_widened.Goals as goal

pub widen-requires : goal.widen-requires
widen-requires g c =
    let n = c.store_of-narrow.ensures in
    let w = c.store_of-wide.ensures in
    let same = c.put_run.ensures.same in
    let narrow = c.store_of-narrow.result in
    let wide = c.store_of-wide.result in
    let layout = c.small_layout-layout.result in
    let size : Size = record { w = 5; h = 6 } in
    let strips = n.strips ∙ sym w.strips in
    record {
      slicing = w.cut ∙ sym n.cut ∙ sym (ap (λ (u : Store ℤ). u.slicing) same);
      size = w.size ∙ sym n.size ∙ sym (ap (λ (u : Store ℤ). u.size) same);
      strips = sym strips ∙ sym (ap (λ (u : Store ℤ). u.strips) same);
      starts = same_starts wide.starts narrow.starts layout size wide.strips w.starts (subst (λ (k : ℕ). AreStarts narrow.starts layout size k) strips n.starts) ∙ sym (ap (λ (u : Store ℤ). u.starts) same);
    }
