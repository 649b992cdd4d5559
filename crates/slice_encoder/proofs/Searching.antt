-- Trying one index after another.
use Rattle.std.proofs.Common.{◌≡◌, ◌∙◌, sym, ap, subst, ℕ, ◌+◌, ◌-◌, ◌*◌, ◌<◌, Bool, false, List, arith, inl, inr, ℤ}
use Rattle.std.proofs.lemmas.Bool.{cases_eq}
use Rattle.planes.specs.Numbers.{Within}
use Rattle.planes.specs.Raster.{Raster, at}
use Rattle.planes.specs.declared.ThreePlanes.{ThreePlanes}
use Rattle.slice_encoder.specs.declared.search.Trying.{Trying}
use Rattle.slice_encoder.specs.Trials.{CodedComponent, CodedPicture, luma_of, c1_of, c2_of, Lists}
use Rattle.slice_encoder.specs.Tries.{tried_lists}
use Rattle.slice_encoder.specs.Choice.{fits}
use Rattle.slice_encoder.specs.TrialLaws.{most_coefficient}
use Rattle.slice_encoder.specs.Buffers.{HoldsLists, HoldsTrial, high_lists}
use Rattle.slice_encoder.specs.Ready.{IsReadyToWrite, AreReadyToWrite}
use Rattle.slice_encoder.proofs.Others.{KeepsOthers, AllKeepOthers}
use Rattle.slice_encoder.proofs.Again.{lists_again}

one_ready : (c : CodedComponent) (d sx sy : ℕ) (old mid : Raster ℤ) → IsReadyToWrite c d sx sy old → KeepsOthers c sx sy old mid → IsReadyToWrite c d sx sy mid
one_ready c d sx sy old mid r k = record {
  depth = r.depth;
  sizes = r.sizes;
  small = r.small;
  kept_size = (k.same_width ∙ r.kept_size.0, k.same_height ∙ r.kept_size.1);
  outside = λ y x here.
      let all = r.outside y x here in
      let same = λ (j i : ℕ) (not : _) (w : Within (3 * most_coefficient c.slicing.depth d + 2) (at old j i)). subst (λ v. Within (3 * most_coefficient c.slicing.depth d + 2) v) (sym (k.places j i not)) w in
      record {
        left = λ some not. same y (x - 1) not (all.left some not);
        above = λ some not. same (y - 1) x not (all.above some not);
        corner = λ some more not. same (y - 1) (x - 1) not (all.corner some more not);
      };
}

pub ready_again : (j : CodedPicture) (sx sy : ℕ) (old mid : ThreePlanes) → AreReadyToWrite j sx sy old → AllKeepOthers j sx sy old mid → AreReadyToWrite j sx sy mid
ready_again j sx sy old mid r k = record {
  across = r.across;
  down = r.down;
  entries = r.entries;
  luma = one_ready (luma_of j) j.frame.luma_depth sx sy old.luma mid.luma r.luma k.luma;
  c1 = one_ready (c1_of j) j.frame.colour_depth sx sy old.c1 mid.c1 r.c1 k.c1;
  c2 = one_ready (c2_of j) j.frame.colour_depth sx sy old.c2 mid.c2 r.c2 k.c2;
}

module _ (j : CodedPicture) (bytes sx sy index : ℕ) (old mid : ThreePlanes) (t : Trying) (luma colour : List ℤ) (k : AllKeepOthers j sx sy old mid) (h : HoldsTrial j mid sx sy index bytes t luma colour) where
  pub holds_again : HoldsTrial j old sx sy index bytes t luma colour
  holds_again = subst (λ (l : Lists). HoldsLists l (high_lists j index sx sy) bytes t luma colour) (lists_again j sx sy index old mid k) h

  pub fit_again : (b : Bool) → t.fits ≡ b → fits bytes (tried_lists j old sx sy index) ≡ b
  fit_again b e = sym holds_again.fit ∙ e

pub refused_again : (j : CodedPicture) (bytes sx sy index : ℕ) (old mid : ThreePlanes) → AllKeepOthers j sx sy old mid → fits bytes (tried_lists j mid sx sy index) ≡ false → fits bytes (tried_lists j old sx sy index) ≡ false
refused_again j bytes sx sy index old mid k refused = sym (ap (fits bytes) (lists_again j sx sy index old mid k)) ∙ refused

pub refuted_more : (test : ℕ → Bool) (index : ℕ) → ((i : ℕ) → i < index → test i ≡ false) → test index ≡ false → (i : ℕ) → i < index + 1 → test i ≡ false
refuted_more test index before here i lt = elim (cases_eq i index) [
  | inl e ↦ ap test e ∙ here
  | inr ne ↦ before i (omega arith)
]
