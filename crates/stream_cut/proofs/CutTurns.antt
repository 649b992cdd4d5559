-- Texts that a cut writes piece by piece.
use Rattle.std.proofs.Common.{◌≡◌, ℕ, ◌+◌, ◌≤◌, List, ◌++◌, length, drop, Option, Some, None, Result, Ok, Err, refl, ap, ◌∙◌, arith}
use Rattle.std.specs.Prelude.{OnOk, OnErr}
use Rattle.std.proofs.lemmas.List.{length-drop}
use Rattle.vc2_io.proofs.Short.{GrewShort-first}
use Rattle.run_theory.specs.declared.Halt.{Halt}
use Rattle.run_theory.specs.declared.Halt.TheVariants as halts
use Rattle.run_theory.specs.Runs.{WritesText}
use Rattle.parse_info.specs.declared.Code.TheVariants.{LowDelayPicture}
use Rattle.parse_info.specs.declared.ParseInfo.{ParseInfo}
use Rattle.parse_info.specs.Head.{head_bytes}
use Rattle.stream_rows.specs.Units.{First}
use Rattle.stream_cut.specs.Cut.{Cutting, closing, empty_cut, cut_picture_unit}

pub on_ok : {X E A B : Type 0} (r : Result X E) → (A → B) → OnOk r A → OnOk r B
on_ok (Ok x) f a = f a
on_ok (Err e) f a = a

pub on_err : {X E A B : Type 0} (r : Result X E) → (A → B) → OnErr r A → OnErr r B
on_err (Ok x) f a = a
on_err (Err e) f a = f a

-- the first of two texts isn't written whole
pub writes_first : (X Y : Type 0) (halt : Halt) (a b : Option (List ℕ)) (first second : List ℕ) → WritesText {X = X} first a b (Err halt) → WritesText {X = Y} (first ++ second) a b (Err halt)
writes_first X Y halts.ReadFault a b first second w = absurd w
writes_first X Y halts.OutFault a b first second w = GrewShort-first a b first second w
writes_first X Y halts.NoMemory a b first second w = w

pub closing_empty : (cut : Cutting) (first : First) → cut.previous ≡ None → cut.written ≡ 0 → cut.first ≡ Some first → closing cut ≡ empty_cut first.payload
closing_empty cut first p w f = rw (p, w, f) refl

pub picture_is : (unit payload : List ℕ) (n previous before : ℕ) → payload ≡ drop 13 unit → n ≡ length unit → 13 ≤ length unit → previous ≡ before
    → (let info : ParseInfo = record { code = LowDelayPicture; next = n; previous = previous } in head_bytes info ++ payload ≡ cut_picture_unit before (drop 13 unit))
picture_is unit payload n previous before same long some e =
    let info : ℕ → ℕ → ParseInfo = λ n previous. record { code = LowDelayPicture; next = n; previous = previous } in
    ap (λ k. head_bytes (info k previous) ++ payload) (let m : n ≡ 13 + length (drop 13 unit) = omega (arith, length-drop 13 unit, long, some) in m)
    ∙ ap (λ q. head_bytes (info (13 + length (drop 13 unit)) q) ++ payload) e
    ∙ ap (λ l. head_bytes (info (13 + length (drop 13 unit)) before) ++ l) same
