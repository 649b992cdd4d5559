-- The sizes and depths of a header that passes lie within the limits of a picture.
use Rattle.std.proofs.Common.{◌≡◌, ℕ, zero, suc, ◌+◌, ◌-◌, ◌*◌, ◌/◌, ◌%◌, ◌^◌, ◌<◌, ◌≤◌, Bool, true, false, cond, eqb, not, ◌&&◌, ◌||◌, Option, Some, None, refl, sym, ap, subst, ◌∙◌, inl, inr, arith}
use Rattle.std.specs.Int.{is_in_range}
use Rattle.std.proofs.lemmas.Bool.{leb-true, cases_lt}
use Rattle.bit_codes.specs.Codes.{intlog2}
use Rattle.bit_codes.proofs.Digits.{intlog2-is}
use Rattle.field_rows.specs.Given.{Pass}
use Rattle.field_rows.specs.Rows.{first_broken}
use Rattle.slice_geometry.specs.Shape.{IsSize, IsDepth}
use Rattle.slice_geometry.specs.declared.Size.{Size}
use Rattle.sequence_header.specs.declared.parts.HeaderReason.{HeaderReason}
use Rattle.sequence_header.specs.declared.parts.HeaderParts.{HeaderParts}
use Rattle.sequence_header.specs.declared.parts.SignalField.{SignalField}
use Rattle.sequence_header.specs.declared.parts.SignalField.TheVariants as signals
use Rattle.sequence_header.specs.Header.{height_rules, size_rows, sampling_rules, sampling_rows, signal_rows, coding_rules, coding_rows}
use Rattle.sequence_header.specs.HeaderFields.{size_fields, sampling_fields, signal_fields, coding_fields, frame_size}
use Rattle.sequence_header.specs.Checking.{PassesRules}
use Rattle.sequence_header.specs.Coding.{signal_range, picture_height, luma_size, colour_size}
use Rattle.sequence_header.proofs.Failing.{width_fail, height_fail, sampling_fail, signal_fail, luma_fail, colour_fail, coding_fail}
use Rattle.field_rows.proofs.Passing.{above_range, below_range}
use Rattle.std.proofs.lemmas.Bool.{eqb-true, ne_eqb, eq-eqb}
use Rattle.std.proofs.lemmas.Nat.{mul-le, leading_length}
use Rattle.std.proofs.Math.Nat.{pow-le-pow_right}
use Rattle.sequence_header.proofs.Indices.{not_both}

true_not_false : {P : Type 0} (b : Bool) → b ≡ true → b ≡ false → P
true_not_false b e f = absurd (let both : true ≡ false = sym e ∙ f in cc)

in_range : (low high n : ℕ) → is_in_range low high n ≡ true → (low ≤ n) × (n ≤ high)
in_range low high n e = elim (cases_lt n low) [
  | inl lt ↦ true_not_false _ e (below_range low high n lt)
  | inr le ↦ elim (cases_lt high n) [ inl lt ↦ true_not_false _ e (above_range low high n lt) | inr le2 ↦ (le, le2) ]
]

or_right : (a b : Bool) → (a || b) ≡ true → a ≡ false → b ≡ true
or_right true b e f = absurd cc
or_right false b e f = e

pub and_both : (a b : Bool) → (a && b) ≡ true → (a ≡ true) × (b ≡ true)
and_both true b e = (refl, e)
and_both false b e = absurd cc

not_true : (b : Bool) → b ≡ true → not b ≡ false
not_true b e = rw e refl

width_in : (size : Size) → Pass size_rows (size_fields size) size → (1 ≤ size.w) × (size.w ≤ 8192)
width_in size p = go (is_in_range 1 8192 size.w) refl
  where
    go : (b : Bool) → is_in_range 1 8192 size.w ≡ b → (1 ≤ size.w) × (size.w ≤ 8192)
    go true e = in_range 1 8192 size.w e
    go false e = absurd (not_both _ _ _ _ p (width_fail size e))

-- what passes breaks no rule
height_kept : (size : Size) → Pass size_rows (size_fields size) size → first_broken (height_rules size.w size.h) ≡ None
height_kept size p = go (first_broken (height_rules size.w size.h)) refl
  where
    go : (broken : Option HeaderReason) → first_broken (height_rules size.w size.h) ≡ broken → first_broken (height_rules size.w size.h) ≡ None
    go None e = e
    go (Some reason) e = absurd (not_both _ _ _ _ p (height_fail size reason (width_in size p).0 (width_in size p).1 e))

sampling_kept : (size : Size) (index : ℕ) → Pass (sampling_rows size) (sampling_fields index) index → first_broken (sampling_rules size index) ≡ None
sampling_kept size index p = go (first_broken (sampling_rules size index)) refl
  where
    go : (broken : Option HeaderReason) → first_broken (sampling_rules size index) ≡ broken → first_broken (sampling_rules size index) ≡ None
    go None e = e
    go (Some reason) e = absurd (not_both _ _ _ _ p (sampling_fail size index reason e))

coding_kept : (size : Size) (sampling coding : ℕ) → Pass (coding_rows size sampling) (coding_fields coding) coding → first_broken (coding_rules size sampling coding) ≡ None
coding_kept size sampling coding p = go (first_broken (coding_rules size sampling coding)) refl
  where
    go : (broken : Option HeaderReason) → first_broken (coding_rules size sampling coding) ≡ broken → first_broken (coding_rules size sampling coding) ≡ None
    go None e = e
    go (Some reason) e = absurd (not_both _ _ _ _ p (coding_fail size sampling coding reason e))

kept : (b : Bool) (rest : Option HeaderReason) (reason : HeaderReason) → cond b rest (Some reason) ≡ None → (b ≡ true) × (rest ≡ None)
kept true rest reason e = (refl, e)
kept false rest reason e = absurd cc

pub size_fits : (size : Size) → Pass size_rows (size_fields size) size → IsSize size.w size.h
size_fits size p =
    let w = width_in size p in
    let rule = (kept _ _ _ (height_kept size p)).0 in
    let both = and_both _ _ rule in
    let h = in_range 1 8192 size.h both.0 in
    record { some_columns = w.0; width = w.1; some_rows = h.0; height = h.1; product = leb-true (size.w * size.h) (2 ^ 24) both.1 }

-- the colour of a frame with this sampling has whole columns and rows
even_columns : (size : Size) (index : ℕ) → first_broken (sampling_rules size index) ≡ None → 1 ≤ index → size.w % 2 ≡ 0
even_columns size index e some =
    let second = (kept _ _ _ (kept _ _ _ e).1).0 in
    eqb-true (size.w % 2) 0 (or_right _ _ second (ne_eqb index 0 (λ q. omega arith)))

even_rows : (size : Size) (index : ℕ) → first_broken (sampling_rules size index) ≡ None → index ≡ 2 → size.h % 2 ≡ 0
even_rows size index e two =
    let third = (kept _ _ _ (kept _ _ _ (kept _ _ _ e).1).1).0 in
    eqb-true (size.h % 2) 0 (or_right _ _ third (not_true _ (eq-eqb index 2 two)))

fields_rule : (size : Size) (sampling coding : ℕ) → first_broken (coding_rules size sampling coding) ≡ None → coding ≡ 1 → (eqb (size.h % 2) 0 ≡ true) × ((not (eqb sampling 2) || eqb (size.h % 4) 0) ≡ true)
fields_rule size sampling coding e one =
    let second = (kept _ _ _ (kept _ _ _ e).1).0 in
    and_both _ _ (or_right _ _ second (ne_eqb coding 0 (λ q. omega arith)))

even_fields : (size : Size) (sampling coding : ℕ) → first_broken (coding_rules size sampling coding) ≡ None → coding ≡ 1 → size.h % 2 ≡ 0
even_fields size sampling coding e one = eqb-true (size.h % 2) 0 (fields_rule size sampling coding e one).0

even_field_rows : (size : Size) (sampling coding : ℕ) → first_broken (coding_rules size sampling coding) ≡ None → coding ≡ 1 → sampling ≡ 2 → size.h % 4 ≡ 0
even_field_rows size sampling coding e one two = eqb-true (size.h % 4) 0 (or_right _ _ (fields_rule size sampling coding e one).1 (not_true _ (eq-eqb sampling 2 two)))

-- a smaller size fits
smaller : (w h w' h' : ℕ) → IsSize w h → 1 ≤ w' → w' ≤ w → 1 ≤ h' → h' ≤ h → IsSize w' h'
smaller w h w' h' f a b c d = record {
  some_columns = a;
  width = omega (arith, f.width);
  some_rows = c;
  height = omega (arith, f.height);
  product = omega (arith, f.product, mul-le w' h' w h b d);
}

some_from : (n : ℕ) → eqb n 0 ≡ false → 1 ≤ n
some_from zero e = absurd (let both : true ≡ false = e in cc)
some_from (suc n) e = omega arith

halved_some : (n m : ℕ) → m ≡ n / 2 → n % 2 ≡ 0 → 1 ≤ n → 1 ≤ m
halved_some n m e even some = omega arith

halved_most : (n m h : ℕ) → m ≡ n / 2 → n ≤ h → m ≤ h
halved_most n m h e most = omega arith

bounded : (n m : ℕ) → 1 ≤ n → n ≤ 65535 → n < 2 ^ m → 2 ^ m ≤ 2 * n + 1 → (1 ≤ m) × (m ≤ 16)
bounded n zero some most below above = absurd (omega arith)
bounded n (suc m) some most below above = (
  omega arith,
  elim (cases_lt 16 (suc m)) [
    | inl lt ↦ absurd (let two : 0 < 2 = omega arith in let up : 17 ≤ suc m = omega arith in omega (arith, pow-le-pow_right {n = 2} two {i = 17} {j = suc m} up))
    | inr le ↦ le
  ],
)

record IsHalved (p : HeaderParts) : Type 0 where
  some : 1 ≤ picture_height p
  most : picture_height p ≤ p.height
  even : p.sampling ≡ 2 → picture_height p % 2 ≡ 0

halved : (p : HeaderParts) → PassesRules p → IsHalved p
halved p q = go (eqb p.coding 1) refl
  where
    size : IsSize p.width p.height
    size = size_fits (frame_size p) q.size

    rule : first_broken (coding_rules (frame_size p) p.sampling p.coding) ≡ None
    rule = coding_kept (frame_size p) p.sampling p.coding q.coding

    go : (b : Bool) → eqb p.coding 1 ≡ b → IsHalved p
    go true e =
        let one : p.coding ≡ 1 = eqb-true p.coding 1 e in
        let height : picture_height p ≡ p.height / 2 = rw e refl in
        let even : p.height % 2 ≡ 0 = even_fields (frame_size p) p.sampling p.coding rule one in
        record {
          some = omega (arith, height, even, size.some_rows);
          most = omega (arith, height);
          even = λ two. let four : p.height % 4 ≡ 0 = even_field_rows (frame_size p) p.sampling p.coding rule one two in ap (λ (n : ℕ). n % 2) height ∙ omega arith;
        }
    go false e =
        let height : picture_height p ≡ p.height = rw e refl in
        record {
          some = omega (arith, height, size.some_rows);
          most = omega (arith, height);
          even = λ two. ap (λ (n : ℕ). n % 2) height ∙ even_rows (frame_size p) p.sampling (sampling_kept (frame_size p) p.sampling q.sampling) two;
        }

pub luma_fits : (p : HeaderParts) → PassesRules p → IsSize (luma_size p).w (luma_size p).h
luma_fits p q =
    let size = size_fits (frame_size p) q.size in
    let h = halved p q in
    smaller p.width p.height p.width (picture_height p) size size.some_columns (omega arith) h.some h.most

columns : (p : HeaderParts) → PassesRules p → (1 ≤ (colour_size p).w) × ((colour_size p).w ≤ p.width)
columns p q = go (eqb p.sampling 0) refl
  where
    size : IsSize p.width p.height
    size = size_fits (frame_size p) q.size

    go : (b : Bool) → eqb p.sampling 0 ≡ b → (1 ≤ (colour_size p).w) × ((colour_size p).w ≤ p.width)
    go true e = let w : (colour_size p).w ≡ p.width = rw e refl in (omega (arith, w, size.some_columns), omega (arith, w))
    go false e =
        let w : (colour_size p).w ≡ p.width / 2 = rw e refl in
        let some : 1 ≤ p.sampling = some_from p.sampling e in
        let even : p.width % 2 ≡ 0 = even_columns (frame_size p) p.sampling (sampling_kept (frame_size p) p.sampling q.sampling) some in
        (omega (arith, w, even, size.some_columns), omega (arith, w))

rows : (p : HeaderParts) → PassesRules p → (1 ≤ (colour_size p).h) × ((colour_size p).h ≤ p.height)
rows p q = go (eqb p.sampling 2) refl
  where
    half : IsHalved p
    half = halved p q

    go : (b : Bool) → eqb p.sampling 2 ≡ b → (1 ≤ (colour_size p).h) × ((colour_size p).h ≤ p.height)
    go true e =
        let h : (colour_size p).h ≡ picture_height p / 2 = rw e refl in
        let even : picture_height p % 2 ≡ 0 = half.even (eqb-true p.sampling 2 e) in
        let most : picture_height p ≤ p.height = half.most in
        let some : 1 ≤ picture_height p = half.some in
        (halved_some (picture_height p) (colour_size p).h h even some, halved_most (picture_height p) (colour_size p).h p.height h most)
    go false e = let h : (colour_size p).h ≡ picture_height p = rw e refl in (subst (λ (n : ℕ). 1 ≤ n) (sym h) half.some, subst (λ (n : ℕ). n ≤ p.height) (sym h) half.most)

pub colour_fits : (p : HeaderParts) → PassesRules p → IsSize (colour_size p).w (colour_size p).h
colour_fits p q =
    let size = size_fits (frame_size p) q.size in
    let w = columns p q in
    let h = rows p q in
    smaller p.width p.height (colour_size p).w (colour_size p).h size w.0 w.1 h.0 h.1

pub depth_fits : (n : ℕ) → 1 ≤ n → n ≤ 65535 → IsDepth (intlog2 (n + 1))
depth_fits n some most =
    let digits = leading_length 32 n (omega arith) in
    let back : n + 1 - 1 ≡ n = omega arith in
    let log : intlog2 (n + 1) ≡ digits.0 = intlog2-is (n + 1) digits.0 (rw back digits.2) (rw back digits.3) (omega (arith, digits.1)) in
    let m = bounded n digits.0 some most digits.2 digits.3 in
    record { some = omega (arith, log, m.0); most = omega (arith, log, m.1) }

pub record HasExcursions (s : SignalField) : Type 0 where
  pub some_luma : 1 ≤ (signal_range s).luma_excursion
  pub luma : (signal_range s).luma_excursion ≤ 65535
  pub some_colour : 1 ≤ (signal_range s).colour_excursion
  pub colour : (signal_range s).colour_excursion ≤ 65535

preset_excursions : (n : ℕ) → 1 ≤ n → n ≤ 4 → HasExcursions (signals.Index n)
preset_excursions zero some most = absurd (omega arith)
preset_excursions (suc zero) some most = record { some_luma = omega arith; luma = omega arith; some_colour = omega arith; colour = omega arith }
preset_excursions (suc (suc zero)) some most = record { some_luma = omega arith; luma = omega arith; some_colour = omega arith; colour = omega arith }
preset_excursions (suc (suc (suc zero))) some most = record { some_luma = omega arith; luma = omega arith; some_colour = omega arith; colour = omega arith }
preset_excursions (suc (suc (suc (suc zero)))) some most = record { some_luma = omega arith; luma = omega arith; some_colour = omega arith; colour = omega arith }
preset_excursions (suc (suc (suc (suc (suc n))))) some most = absurd (omega arith)

pub excursions : (s : SignalField) → Pass signal_rows (signal_fields s) s → HasExcursions s
excursions (signals.Index n) p = go (is_in_range 1 4 n) refl
  where
    go : (b : Bool) → is_in_range 1 4 n ≡ b → HasExcursions (signals.Index n)
    go true e = preset_excursions n (in_range 1 4 n e).0 (in_range 1 4 n e).1
    go false e = absurd (not_both _ _ _ _ p (signal_fail n e))
excursions (signals.Custom r) p = go (is_in_range 1 65535 r.luma_excursion) refl
  where
    colour : (b : Bool) → is_in_range 1 65535 r.colour_excursion ≡ b → (1 ≤ r.luma_excursion) × (r.luma_excursion ≤ 65535) → HasExcursions (signals.Custom r)
    colour true e l = record { some_luma = l.0; luma = l.1; some_colour = (in_range 1 65535 r.colour_excursion e).0; colour = (in_range 1 65535 r.colour_excursion e).1 }
    colour false e l = absurd (not_both _ _ _ _ p (colour_fail r l.0 l.1 e))

    go : (b : Bool) → is_in_range 1 65535 r.luma_excursion ≡ b → HasExcursions (signals.Custom r)
    go true e = colour (is_in_range 1 65535 r.colour_excursion) refl (in_range 1 65535 r.luma_excursion e)
    go false e = absurd (not_both _ _ _ _ p (luma_fail r e))
