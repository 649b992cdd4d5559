-- A sink with room for one stream: it never fails, and what a writer stops for is want of memory.
use Rattle.std.proofs.Common.{◌≡◌, ℕ, ◌+◌, ◌≤◌, List, ◌∷◌, ◌++◌, length, Err, ap, subst, ◌∙◌, arith}
use Rattle.std.specs.Io.KnownBytes.{Appends}
use Rattle.std.proofs.lemmas.List.{length-append}
use Rattle.vc2_io.specs.Outside.{Rose, GrewShort}
use Rattle.vc2_io.specs.Memory.{MemSinkSeen}
use Rattle.vc2_io.proofs.Short.{IsProperPrefix-shorter}
use Rattle.stream_writer.specs.EncodedStream.{Settings, header_unit, end_unit}
use Rattle.stream_writer.specs.Writer.{StreamWriterSeen, next_previous, due_units, HasRoom, WritesPicture, WritesEnd, WriteCause, Starts, IsSteepOkUnder}
use Rattle.stream_writer.specs.declared.write_stop.WriteStop.{WriteStop}
use Rattle.stream_writer.specs.declared.write_stop.WriteStop.TheVariants as stops
use Rattle.vc2_cli.specs.TrialTurn.{FailsWhenFull, told_of_sink, IsWant}

-- ---- what a call leaves

-- a list that grew at its end
pub grew_rest : (s s' : MemSinkSeen) (piece : List ℕ) → Appends (told_of_sink s) (told_of_sink s') piece → (s'.room ≡ s.room) × (s'.bytes ≡ s.bytes ++ piece)
grew_rest s s' piece grew =
    let all : s'.room ∷ s'.bytes ≡ s.room ∷ (s.bytes ++ piece) = grew in
    let room : s'.room ≡ s.room = cc in
    let bytes : s'.bytes ≡ s.bytes ++ piece = cc in
    (room, bytes)

-- ---- it never fails

never_short : (s s' : MemSinkSeen) (text : List ℕ) → FailsWhenFull s → FailsWhenFull s' → GrewShort (told_of_sink s) (told_of_sink s') text → length s.bytes + length text ≤ s.room → Rose s.failures s'.failures → ⊥
never_short s s' text full full' g fits rose =
    let part = g.0 in
    let grown = grew_rest s s' part g.2 in
    let long : length s'.bytes ≡ length s.bytes + length part = ap (λ (l : List ℕ). length l) grown.1 ∙ length-append s.bytes part in
    let none : s.failures ≡ 0 = full.steady (omega (arith, IsProperPrefix-shorter part text g.1, fits)) in
    let none' : s'.failures ≡ 0 = full'.steady (omega (arith, IsProperPrefix-shorter part text g.1, fits, long, grown.0)) in
    let risen : Rose 0 0 = subst (λ (k : ℕ). Rose k 0) none (subst (λ (k : ℕ). Rose s.failures k) none' rose) in
    omega (arith, risen)

-- ---- what a writer stops for

pub start_stop : (settings : Settings) (s s' : MemSinkSeen) (stop : WriteStop) → IsSteepOkUnder settings → FailsWhenFull s → FailsWhenFull s' → Starts settings (told_of_sink s) (told_of_sink s') (Err stop) → WriteCause {X = StreamWriterSeen} s.failures s'.failures (Err stop)
    → length s.bytes + length (header_unit settings.parts) ≤ s.room → IsWant stop
start_stop settings s s' stops.OutFault steep full full' starts why fits = absurd (never_short s s' (header_unit settings.parts) full full' starts.1 fits why.1)
start_stop settings s s' stops.MatrixTooSteep steep full full' starts why fits = absurd (starts.0 steep)
start_stop settings s s' stops.StreamTooLong steep full full' starts why fits = absurd starts
start_stop settings s s' stops.NoMemory steep full full' starts why fits = tt

pub picture_stop : (w w' : StreamWriterSeen) (slices : List (List ℕ)) (s s' : MemSinkSeen) (stop : WriteStop) → HasRoom w → FailsWhenFull s → FailsWhenFull s' → WritesPicture w w' slices (told_of_sink s) (told_of_sink s') (Err stop) → WriteCause {X = Unit {0}} s.failures s'.failures (Err stop)
    → length s.bytes + length (due_units w slices) ≤ s.room → IsWant stop
picture_stop w w' slices s s' stops.OutFault room full full' wrote why fits = absurd (never_short s s' (due_units w slices) full full' wrote.wrote fits why.1)
picture_stop w w' slices s s' stops.MatrixTooSteep room full full' wrote why fits = absurd wrote.why
picture_stop w w' slices s s' stops.StreamTooLong room full full' wrote why fits = absurd (wrote.why room)
picture_stop w w' slices s s' stops.NoMemory room full full' wrote why fits = tt

pub end_stop : (w w' : StreamWriterSeen) (s s' : MemSinkSeen) (stop : WriteStop) → FailsWhenFull s → FailsWhenFull s' → WritesEnd w w' (told_of_sink s) (told_of_sink s') (Err stop) → WriteCause {X = Unit {0}} s.failures s'.failures (Err stop)
    → length s.bytes + length (end_unit (next_previous w)) ≤ s.room → IsWant stop
end_stop w w' s s' stops.OutFault full full' wrote why fits = absurd (never_short s s' (end_unit (next_previous w)) full full' wrote.wrote fits why.1)
end_stop w w' s s' stops.MatrixTooSteep full full' wrote why fits = absurd wrote.why
end_stop w w' s s' stops.StreamTooLong full full' wrote why fits = absurd wrote.why
end_stop w w' s s' stops.NoMemory full full' wrote why fits = tt
