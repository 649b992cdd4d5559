-- The frames of fields under a header have the header's own size.
use Rattle.std.proofs.Common.{◌≡◌, ℕ, ◌*◌, ◌/◌, ◌%◌, Bool, true, false, cond, eqb, not, ◌||◌, Option, Some, None, refl, sym, subst, arith}
use Rattle.std.proofs.lemmas.Bool.{eqb-true, eq-eqb, ne_eqb, false≢true}
use Rattle.field_rows.specs.Given.{Pass}
use Rattle.field_rows.specs.Rows.{first_broken}
use Rattle.slice_geometry.specs.declared.Size.{Size}
use Rattle.slice_geometry.specs.Shape.{IsSize}
use Rattle.sequence_header.specs.declared.parts.HeaderReason.{HeaderReason}
use Rattle.sequence_header.specs.declared.parts.HeaderParts.{HeaderParts}
use Rattle.sequence_header.specs.Header.{coding_rules, coding_rows}
use Rattle.sequence_header.specs.HeaderFields.{coding_fields, frame_size}
use Rattle.sequence_header.specs.Checking.{PassesRules}
use Rattle.sequence_header.specs.Coding.{picture_height, luma_size, colour_size}
use Rattle.sequence_header.proofs.Failing.{coding_fail}
use Rattle.sequence_header.proofs.Indices.{not_both}
use Rattle.sequence_header.proofs.Groups.{coding_pass}
use Rattle.sequence_header.proofs.Shapes.{luma_fits, colour_fits, and_both}

coding_kept : (size : Size) (sampling coding : ℕ) → Pass (coding_rows size sampling) (coding_fields coding) coding → first_broken (coding_rules size sampling coding) ≡ None
coding_kept size sampling coding p = go (first_broken (coding_rules size sampling coding)) refl
  where
    go : (broken : Option HeaderReason) → first_broken (coding_rules size sampling coding) ≡ broken → first_broken (coding_rules size sampling coding) ≡ None
    go None e = e
    go (Some reason) e = absurd (not_both _ _ _ _ p (coding_fail size sampling coding reason e))

kept : (b : Bool) (rest : Option HeaderReason) (reason : HeaderReason) → cond b rest (Some reason) ≡ None → (b ≡ true) × (rest ≡ None)
kept true rest reason e = (refl, e)
kept false rest reason e = absurd cc

or_right : (a b : Bool) → (a || b) ≡ true → a ≡ false → b ≡ true
or_right true b e f = absurd (false≢true (sym f))
or_right false b e f = e

not_true : (b : Bool) → b ≡ true → not b ≡ false
not_true true e = refl
not_true false e = absurd (false≢true e)

-- a frame of fields has whole fields, and so has its colour
pub record HasFields (p : HeaderParts) : Type 0 where
  pub even : p.height % 2 ≡ 0
  pub quarters : p.sampling ≡ 2 → p.height % 4 ≡ 0

pub has_fields : (p : HeaderParts) → PassesRules p → p.coding ≡ 1 → HasFields p
has_fields p q one =
    let rule = coding_kept (frame_size p) p.sampling p.coding q.coding in
    let second = (kept _ _ _ (kept _ _ _ rule).1).0 in
    let both = and_both _ _ (or_right _ _ second (ne_eqb p.coding 0 (λ e. other e))) in
    record {
      even = eqb-true (p.height % 2) 0 both.0;
      quarters = λ two. eqb-true (p.height % 4) 0 (or_right _ _ both.1 (not_true _ (eq-eqb p.sampling 2 two)));
    }
  where
    other : p.coding ≡ 0 → ⊥
    other e = omega (arith, e, one)

-- the same header of frames
abbrev pub of_frames : HeaderParts → HeaderParts
of_frames p = record p { coding = 0 }

frames_pass : (p : HeaderParts) → PassesRules p → PassesRules (of_frames p)
frames_pass p q = record {
  version = q.version;
  size = q.size;
  sampling = q.sampling;
  scan = q.scan;
  rate = q.rate;
  aspect = q.aspect;
  clean = q.clean;
  signal = q.signal;
  colour = q.colour;
  coding = coding_pass (frame_size p) p.sampling 0 refl;
}

field_height : (p : HeaderParts) → p.coding ≡ 1 → picture_height p ≡ p.height / 2
field_height p one = let is : eqb p.coding 1 ≡ true = eq-eqb p.coding 1 one in rw is refl

twice_luma : (p : HeaderParts) → PassesRules p → p.coding ≡ 1 → 2 * (luma_size p).h ≡ p.height
twice_luma p q one = omega (arith, field_height p one, (has_fields p q one).even)

twice_colour : (p : HeaderParts) → PassesRules p → p.coding ≡ 1 → 2 * (colour_size p).h ≡ (colour_size (of_frames p)).h
twice_colour p q one = by (eqb p.sampling 2) refl
  where
    has : HasFields p
    has = has_fields p q one

    by : (two : Bool) → eqb p.sampling 2 ≡ two → 2 * cond two (picture_height p / 2) (picture_height p) ≡ cond two (p.height / 2) p.height
    by true is = omega (arith, field_height p one, has.quarters (eqb-true p.sampling 2 is))
    by false is = omega (arith, field_height p one, has.even)

-- twice the heights of fields are heights of a picture
pub luma_doubled : (p : HeaderParts) → PassesRules p → p.coding ≡ 1 → IsSize (luma_size p).w (2 * (luma_size p).h)
luma_doubled p q one = subst (λ (h : ℕ). IsSize p.width h) (sym (twice_luma p q one)) (luma_fits (of_frames p) (frames_pass p q))

pub colour_doubled : (p : HeaderParts) → PassesRules p → p.coding ≡ 1 → IsSize (colour_size p).w (2 * (colour_size p).h)
colour_doubled p q one = subst (λ (h : ℕ). IsSize (colour_size p).w h) (sym (twice_colour p q one)) (colour_fits (of_frames p) (frames_pass p q))
