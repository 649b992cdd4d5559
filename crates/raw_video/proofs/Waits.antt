-- Texts that come behind what waits, one after another.
use Rattle.std.proofs.Common.{◌≡◌, ◌≤◌, ◌+◌, ℕ, List, [], ◌++◌, length, take, Option, arith, sym, ap, ◌∙◌, append_assoc, append-nil}
use Rattle.std.proofs.Math.Seq.{take-append-add}
use Rattle.std.proofs.lemmas.List.{length-take, take-append-le}
use Rattle.std.specs.Io.KnownBytes.{Appends}
use Rattle.vc2_io.specs.Outside.{GrewShort}
use Rattle.vc2_io.proofs.Known.{Appends-then, Appends-along, Appends-none}
use Rattle.vc2_io.proofs.Short.{GrewShort-first, GrewShort-second, GrewShort-along}
use Rattle.raw_video.specs.Waiting.{PassesOn}

-- no text
pub passes_nothing : (out0 out1 : Option (List ℕ)) (p : List ℕ) → out1 ≡ out0 → PassesOn out0 out1 p p []
passes_nothing out0 out1 p same = record { gone = []; wrote = Appends-none out0 out1 (sym same); all = append-nil p }

pub passes_along : (out0 out1 : Option (List ℕ)) (p q s t : List ℕ) → s ≡ t → PassesOn out0 out1 p q s → PassesOn out0 out1 p q t
passes_along out0 out1 p q s t e a = record { gone = a.gone; wrote = a.wrote; all = ap (λ (l : List ℕ). p ++ l) (sym e) ∙ a.all }

module _ (out0 out1 : Option (List ℕ)) (p q s : List ℕ) (a : PassesOn out0 out1 p q s) where
  -- another text
  pub passes_then : (out2 : Option (List ℕ)) (r t : List ℕ) → PassesOn out1 out2 q r t → PassesOn out0 out2 p r (s ++ t)
  passes_then out2 r t b = record {
    gone = a.gone ++ b.gone;
    wrote = Appends-then out0 out1 out2 a.gone b.gone a.wrote b.wrote;
    all =
        sym (append_assoc p s t) ∙ ap (λ (l : List ℕ). l ++ t) a.all ∙ append_assoc a.gone q t
        ∙ ap (λ (l : List ℕ). a.gone ++ l) b.all ∙ sym (append_assoc a.gone b.gone r);
  }

  -- another text, in which a write failed
  pub short_then : (out2 : Option (List ℕ)) (t : List ℕ) → GrewShort out1 out2 (q ++ t) → GrewShort out0 out2 (p ++ (s ++ t))
  short_then out2 t short =
      GrewShort-along out0 out2 (a.gone ++ (q ++ t)) (p ++ (s ++ t))
      (sym (append_assoc a.gone q t) ∙ ap (λ (l : List ℕ). l ++ t) (sym a.all) ∙ append_assoc p s t)
      (GrewShort-second out0 out1 out2 a.gone (q ++ t) a.wrote short)

-- and more behind it
pub short_more : (out0 out1 : Option (List ℕ)) (p s t : List ℕ) → GrewShort out0 out1 (p ++ s) → GrewShort out0 out1 (p ++ (s ++ t))
short_more out0 out1 p s t short = GrewShort-along out0 out1 ((p ++ s) ++ t) (p ++ (s ++ t)) (append_assoc p s t) (GrewShort-first out0 out1 (p ++ s) t short)

-- at last the sink takes all that waits
module _ (out0 out1 : Option (List ℕ)) (q s : List ℕ) (a : PassesOn out0 out1 [] q s) (out2 : Option (List ℕ)) where
  pub passes_all : Appends out1 out2 q → Appends out0 out2 s
  passes_all wrote = Appends-along out0 out2 (a.gone ++ q) s (sym a.all) (Appends-then out0 out1 out2 a.gone q a.wrote wrote)

  pub short_at_last : GrewShort out1 out2 q → GrewShort out0 out2 s
  short_at_last short = GrewShort-along out0 out2 (a.gone ++ q) s (sym a.all) (GrewShort-second out0 out1 out2 a.gone q a.wrote short)

-- room was made for a row, and it came behind what waits
pub passes_row : (out0 out1 : Option (List ℕ)) (p q row waits : List ℕ) → PassesOn out0 out1 p q [] → waits ≡ q ++ row → PassesOn out0 out1 p waits row
passes_row out0 out1 p q row waits a is = record {
  gone = a.gone;
  wrote = a.wrote;
  all =
      ap (λ (l : List ℕ). l ++ row) (sym (append-nil p) ∙ a.all) ∙ append_assoc a.gone q row
      ∙ ap (λ (l : List ℕ). a.gone ++ l) (sym is);
}

-- bytes that are put behind those that wait
pub waits_behind : (buffer new rest : List ℕ) (len more : ℕ) → len ≤ length buffer → more ≤ length new → take (len + more) (take len buffer ++ (new ++ rest)) ≡ take len buffer ++ take more new
waits_behind buffer new rest len more inside fits =
    let a = take len buffer in
    let long : length a ≡ len = omega (arith, length-take len buffer, inside) in
    ap (λ (n : ℕ). take (n + more) (a ++ (new ++ rest))) (sym long) ∙ take-append-add a (new ++ rest) more
    ∙ ap (λ (l : List ℕ). a ++ l) (take-append-le more new rest fits)
