-- A slice that is lent again, whole: what its holder leaves is read at the slice's own length.
-- Assumes `Logic`.
use Rattle.std.proofs.Common.{◌≡◌, ℕ, List, [], ◌∷◌, length, refl, sym, ap, ◌∙◌, MutBor}
use seplogic.Ra.Ura.{Ura}
use mir.Syntax.{Lifetime}
use mir.Val.{Val}
use base.Logic.{SProp, ent, sep, ex, emp, guard}
use base.Stored.{coded_list}
use base.Fml.{Lft, GName, Share, flft, fobs, fbor}
use types.Logic.{Logic, sem}
use types.Kit.{‵, ◌⊛◌, raw, ◌$◌, ◌∵◌, !, qed, move, keep, fsplit, fsplit3, fjoin, updating, await, later, some, use1, use2, group, pick, now, show, done, split3, rewrite, feq_l, feq_i, check}
use types.SemTy.{cells, Arr, Body}
use types.Follow.{takes_part}
use types.Mut.{open_ref}
use denote.RattleType.{RattleType}
use denote.Memory.{mem}
use denote.Array.{Array}
use denote.Shadow.{pure_l}
use denote.Slice.{MutSlice, Room, slice_val, mut_slice_at, mut_slice_vals}
use denote.Steps.{nothing}
use denote.Follow.{follows}
use denote.FollowSlice.{heres_id, slice_of}
use Rattle.planes.specs.Raster.{over}
use Rattle.planes.proofs.RasterLemmas.{over_whole}

module _ {M : Type 1} {𝓤 : Ura M} (𝓛 : Logic 𝓤) (ℓ : Lifetime) (κ : Lft) (q : Share) (R : RattleType) (r : MutBor (List R.Denot)) (vs : List Val) where
  open 𝓛 use {H, A}

  abbrev b : ℕ
  b = r.ref_ptr.0

  abbrev o : ℕ
  o = r.ref_ptr.1

  abbrev xs : List R.Denot
  xs = r.now

  abbrev γ : GName
  γ = r.ghost_name

  back : (ws : List R.Denot) → ent 𝓤 (sep 𝓤 (sem 𝓛 ((Arr (mem R) (length xs)).own_at ws b o)) (emp 𝓤)) (sem 𝓛 ((Arr (mem R) (length xs)).own_at (over xs ws) b o))
  back ws = qed 𝓛 (‵ ((Arr (mem R) (length xs)).own_at ws b o) ∷ raw (emp 𝓤) ∷ []) ∵ fsplit ! $ feq_l ! (λ e.
      rewrite ! 0 (λ (l : List R.Denot). ‵ (cells (mem R) l b o)) (sym (over_whole xs ws e)) refl $
      feq_i ! ℕ (length (over xs ws)) (length xs) (ap length (over_whole xs ws e) ∙ e) $ fjoin ! $ keep ! (0 ∷ []) $ done !)

  -- the slice under a new name, the token, and what it ends as
  abbrev pub Whole : GName → SProp 𝓤
  Whole δ = guard 𝓤 ((vs ≡ mut_slice_vals r) × Room R (length xs)) (sep 𝓤 (sem 𝓛 ((MutSlice ℓ κ R).own_val (record { ref_ptr = (b, o); ghost_name = δ; now = xs }) (slice_val (b, o) (length xs) ∷ []))) (sep 𝓤 (A.lft κ q) (sem 𝓛 (follows (Array R 0) (Array R 0) γ δ (over xs)))))

  pub lends_whole : ent 𝓤 (sep 𝓤 (sem 𝓛 ((MutSlice ℓ κ R).own_val r vs)) (A.lft κ q)) (H.⇛ (ex 𝓤 Whole))
  lends_whole = qed 𝓛 (‵ ((MutSlice ℓ κ R).own_val r vs) ∷ ‵ (flft κ q) ∷ []) ∵ updating ! $ fsplit3 ! $ pure_l ! (mut_slice_at R r vs) (λ p.
      rewrite ! 0 (λ (l : List R.Denot). ‵ (fobs γ ((coded_list R.coded).code l))) (heres_id R xs) refl $
      open_ref ! tt (Arr (mem R) (length xs)) {b = b} {o = o} $ nothing ! $ move ! (2 ∷ 3 ∷ 4 ∷ 1 ∷ 0 ∷ []) $ group ! 5 $
      use1 𝓛 (later (some (λ (δ : GName). ‵ (fobs δ ((coded_list R.coded).code xs)) ⊛ ‵ (fbor κ (Body (Arr (mem R) (length xs)) b o δ)) ⊛ ‵ (flft κ q) ⊛ ‵ (follows (Array R 0) (Array R 0) γ δ (over xs)))))
      (takes_part 𝓛 (Arr (mem R) (length xs)) (Arr (mem R) (length xs)) (over xs) κ q b o b o γ (emp 𝓤) back ((coded_list R.coded).code xs) ((coded_list R.coded).code xs) xs) $ await ! tt $ pick ! (λ δ. split3 ! $
      use2 𝓛 (‵ ((MutSlice ℓ κ R).own_val (record { ref_ptr = (b, o); ghost_name = δ; now = xs }) (slice_val (b, o) (length xs) ∷ []))) (slice_of 𝓛 R ℓ κ b o δ xs p.1) $ now ! $ show ! Whole δ $ check ! p $ done !))
