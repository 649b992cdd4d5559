use Rattle.std.proofs.Common.{◌≡◌, ℕ, ◌<◌, ◌^◌, get_or, pos}
use Rattle.planes.specs.Bounded.{IsWithin}
use Rattle.planes.specs.Valued.{valued}
use Rattle.slice_store.proofs.gathered.take_row.Given as goal

abbrev pub invariant-loop-x : goal.invariant-loop-x
invariant-loop-x G l = record {
  value : (i : ℕ) → i < l.x → valued G.T.Number.value G.T.Number.none l.to i ≡ get_or l.row i (pos 0);
  within : (i : ℕ) → i < l.x → IsWithin (pos (2 ^ 18)) (valued G.T.Number.value G.T.Number.none l.to i);
}
