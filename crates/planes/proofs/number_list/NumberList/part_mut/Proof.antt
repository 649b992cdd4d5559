-- `part_mut` lends what `run_mut` lends, and cuts what its holder leaves to the part's length.
use Rattle.std.proofs.Common.{◌≡◌, ◌+◌, List, [], ◌∷◌, length, refl, ap, w64, MutBor}
use Rattle.std.proofs.raw_atomic.Walks.{proved}
use Rattle.std.specs.Prelude.{slice_range}
use mir.Syntax.{Args, Fn, a_type, named}
use mir.MapTy.{inst_fn}
use base.Logic.{id⊢}
use base.Fml.{GName, ftrue, flft}
use contract.Monad.{fact}
use contract.Running.{tables}
use types.Kit.{‵, raw, ◌⊛◌, some, later, given, ◌$◌, ◌∵◌, !, qed, done, move, drop, use1, use2, split, split3, join, fjoin, pick, learn, await, rewrite, suffices, frame, group}
use types.Run.{enter, addr, stop, no_more, and_then, returns}
use types.ByLocal.{alloc_all, pass_all, free_all, look_at, get, through, sets, lands_as}
use denote.Array.{Array}
use denote.Builtin.{usize}
use denote.Exit.{yes, no}
use denote.Follow.{follows, follows_then}
use denote.Param.{layouts}
use denote.Plain.{uint_vals, uint_Tells}
use denote.RattleType.{RattleType}
use denote.Ref.{mut_vals, mut_Tells}
use denote.Signature.{plain, mut_ref_to}
use denote.Slice.{MutSlice, Room, slice_val, mut_slice_vals}
use denote.Steps.{nothing, heard, only}
use denote.Triple.Call.{calls_at}
use denote.Triple.Clauses.{Lasts, lasts}
use denote.Triple.Spec.{triple_of}
use denote.Triple.Table.{framed}
use denote.Triple.Walked.{Stays, says, stay_dropped, Goes-dropped, Goes-spent_ref, ends_at}
use Rattle.planes.specs.Raster.{over}
use Rattle.planes.specs.LendingParts.{with_part_from}
use Rattle.planes.proofs.SliceLends.{lends_whole}
use Rattle.planes.specs.contracts.number_list.NumberList.{the_row}
use Rattle.planes.specs.contracts.number_list.NumberList.part_mut as f
use Rattle.planes.specs.contracts.number_list.run_mut as g
use Rattle.planes.proofs.number_list.run_mut.Met.{met}
use Rattle.planes.proofs.number_list.NumberList.part_mut.Statement.{statement}
use Rattle.planes.proofs.number_list.NumberList.part_mut.Code as code

module _ (X : RattleType) where
  abbrev given_types : Args
  given_types = layouts (a_type ∷ []) (X, tt)

  abbrev function : Fn
  function = inst_fn given_types code.function

  abbrev R : RattleType
  R = f.T-row X

  abbrev N : RattleType
  N = the_row R

  abbrev stayed : Stays (f.ended X).signature.params (f.ended X).kept
  stayed = (stay_dropped (mut_ref_to (0 ∷ []) tt (plain (λ _. N))) no, (stay_dropped (plain (λ _. usize)) yes, (stay_dropped (plain (λ _. usize)) yes, tt)))

pub part_mut_spec : {M : Type 1} → statement M
part_mut_spec 𝓤 𝓛 𝓜 𝓡 wired X L =
    let c = f.clauses X 𝓛 𝓜.mem 𝓡.returns in
    let goes = Goes-dropped 𝓛 2 (plain (λ _. usize)) yes (λ κs x w. refl) in
    proved 𝓛 (f.ended X) (stayed X) c 𝓜 𝓡 (Goes-spent_ref 𝓛 2 (0 ∷ []) tt (plain (λ _. N X)), (goes, (goes, tt)))
    (f.Key.name (given_types X)) (function X) (code.unfolded 𝓤 𝓛.H 𝓜 𝓡 wired (X, tt))
    (λ κs. (mut_vals, (uint_vals w64, (uint_vals w64, tt)))) (λ κs. (mut_Tells (named 0) κs.0 (N X), (uint_Tells w64, (uint_Tells w64, tt))))
    (λ κs qs bounds a _ are.
    let κ = κs.0 in let q = qs.0 in let T = R X in let s = a.0 in let i = a.1.0 in let n = a.1.1.0 in
    let xs : List T.Denot = slice_range s.now i (i + n) in
    let G = triple_of 𝓛 (g.signature X) (g.spec X 𝓛 𝓜.mem 𝓡.returns) in
    let z : G.Ghost = ((κs, qs, bounds, a, (mut_vals s, (uint_vals w64 i, (uint_vals w64 n, tt)))), tt) in
    qed 𝓛 (raw (G.pre z) ∷ []) ∵ enter ! _ _ _ _ _ $
    alloc_all ! (λ l. pass_all ! refl ((tt, tt), ((tt, record { fits = are.1.0.1 }), ((tt, record { fits = are.1.1.0.1 }), tt))) $
    sets ! (addr ! (through ! refl (stop !))) refl (tt, tt) $
    calls_at ! (framed 𝓤 𝓛.H 𝓜 (tables 𝓤 𝓛.H 𝓜 𝓡 𝓡.env)) G (met 𝓤 𝓛 𝓜 𝓡 (code.calls-planes::number_list::run_mut 𝓡.env wired) X L) z
    (and_then ! (get ! refl) (and_then ! (get ! refl) (and_then ! (get ! refl) (no_more !)))) (λ v.
    use1 𝓛 (later (some (λ (r : MutBor (List T.Denot)). ((‵ (flft κ q) ⊛ ‵ (flft κs.1.0 qs.1.0) ⊛ ‵ ftrue) ⊛ ‵ ((MutSlice (named 0) κ T).own_val r (v ∷ []))) ⊛
    some (λ (ws : Lasts (g.ended X) κs a). ‵ (lasts (g.ended X) κs a ws) ⊛ ‵ (follows (N X) (Array T 0) s.ghost_name r.ghost_name (with_part_from s.now i)) ⊛ raw (fact 𝓤 (r.now ≡ xs)))))) (id⊢ 𝓤 _) $
    await ! tt $ pick ! (λ r. split ! $ split ! $ split3 ! $ move ! (3 ∷ 0 ∷ []) $
    -- [the slice; its token; the other token; nothing; the rest]
    use2 𝓛 (later (some (λ (δ : GName). given (((v ∷ []) ≡ mut_slice_vals r) × Room T (length r.now)) (‵ ((MutSlice (named 0) κ T).own_val (record { ref_ptr = r.ref_ptr; ghost_name = δ; now = r.now }) (mut_slice_vals r)) ⊛ ‵ (flft κ q) ⊛ ‵ (follows (Array T 0) (Array T 0) r.ghost_name δ (over r.now))))))
    (lends_whole 𝓛 (named 0) κ q T r (v ∷ [])) $ await ! tt $ pick ! (λ δ. learn ! (λ known. split3 ! $
    move ! (5 ∷ []) $ pick ! (λ ws. split3 ! $ drop ! $ move ! (1 ∷ []) $ heard ! _ (λ value.
    -- [what the numbers end as; the slice; its token; what the slice ends as; the other token; nothing]
    rewrite ! 3 (λ (l : List T.Denot). ‵ (follows (Array T 0) (Array T 0) r.ghost_name δ (over l))) value refl $ move ! (0 ∷ 3 ∷ []) $
    use2 𝓛 (‵ (follows (N X) (Array T 0) s.ghost_name δ (λ w. with_part_from s.now i (over xs w)))) (follows_then 𝓛 (N X) (Array T 0) (Array T 0) (with_part_from s.now i) (over xs) s.ghost_name r.ghost_name δ) $
    lands_as ! (ap only known.0) refl (tt, (tt, (record { fits = known.1.0 }, tt))) $
    returns ! (look_at ! 0 refl) $ free_all ! refl $
    suffices ! _ (ends_at 𝓛 (f.ended X) (stayed X) c z (slice_val r.ref_ptr (length r.now)) (record { ref_ptr = r.ref_ptr; ghost_name = δ; now = r.now }) (tt, (tt, (tt, tt))) (tt, (tt, (tt, tt)))) $
    move ! (2 ∷ 3 ∷ 4 ∷ []) $ group ! 3 $ move ! (2 ∷ []) $
    nothing ! $ nothing ! $ fjoin ! $ nothing ! $ fjoin ! $ nothing ! $ fjoin ! $ join ! $ move ! (1 ∷ 0 ∷ []) $ join ! $ frame ! $ says ! value $ done !))))))))
