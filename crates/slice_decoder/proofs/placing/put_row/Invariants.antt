use Rattle.std.proofs.Common.{◌≡◌, ℕ, ◌+◌, ◌-◌, ◌*◌, ◌<◌, ◌≤◌, ◌⊎◌}
use Rattle.planes.specs.Valued.{valued}
use Rattle.slice_decoder.proofs.placing.put_row.Given as goal

abbrev pub invariant-loop-x : goal.invariant-loop-x
invariant-loop-x g l =
    let row = valued g.T.Number.value g.T.Number.none in
    record {
      begun : l.start ≤ l.x;
      inside : (j : ℕ) → l.start ≤ j → j < l.x → row l.row j ≡ valued g.V.Number.value g.V.Number.none l.values (l.at + (g.row.EACH * (j - l.start) + l.from));
      outside : (j : ℕ) → (j < l.start) ⊎ (l.x ≤ j) → row l.row j ≡ row l.fn.row j;
    }
