use Rattle.std.proofs.Common.{◌≡◌, ℕ, ◌*◌, ◌<◌, ◌≤◌, length}
use Rattle.slice_encoder.specs.Limits.{IsFinest, IsLimitPart, limits_in}
use Rattle.slice_encoder.proofs.limits.LimitRow.learn.Given as goal

abbrev pub invariant-loop-k : goal.invariant-loop-k
invariant-loop-k G l = record {
  key_is : l.self-inside.key ≡ l.key;
  index_is : l.self-inside.index ≡ l.index;
  room_is : l.self-inside.room ≡ l.room;
  room_same : l.room ≡ l.fn.self.room;
  low : l.self-inside.finest ≤ 127;
  least : IsFinest l.key l.index l.self-inside.finest;
  count : length l.self-inside.limits.items ≡ G.T.Magnitude.LIMITS * l.room;
  done : (j : ℕ) → j < l.k → IsLimitPart (limits_in G.T.Number.value G.T.Number.none l.self-inside.limits.items l.room j) G.T.Magnitude.greatest l.key l.index j;
}
