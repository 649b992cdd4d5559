-- Rows that take what bands of 16 bits show.
use Rattle.std.proofs.Common.{◌≡◌, ℕ, refl, sym, subst, ◌∙◌}
use Rattle.std.specs.Prelude.{Bool, true, false, if◌then◌else◌, ℤ}
use Rattle.planes.specs.Subbands.{BandStack, BandExists, AgreeInSizes}
use Rattle.planes.specs.declared.Trio.{Trio}
use Rattle.planes.specs.declared.NarrowTrio.{NarrowTrio}
use Rattle.planes.specs.declared.LateTrio.{LateTrio}
use Rattle.slice_store.specs.Gathered.{ShowTheSame}
use Rattle.slice_decoder.specs.Narrow.{trio_of, AreNarrowBands}
use Rattle.picture_codec.specs.DecodedBands.{AllAgree, IsLateNarrow, LateSeen, AreRowsKept}
use Rattle.picture_codec.proofs.Gathered.{all-agree-on}

-- bands that are made need no memory
pub late-made : (late : LateTrio ℤ) (made : NarrowTrio) (is_made : Bool) → is_made ≡ true → AreNarrowBands made → IsLateNarrow late made is_made
late-made late made true is small = record { rowless = λ none. absurd (let clash : true ≡ false = none in cc); small = small }
late-made late made false is small = absurd (let clash : false ≡ true = is in cc)

-- bands that show the same have the same sizes
pub same-agrees : (a b : BandStack) → ShowTheSame a b → AgreeInSizes a b
same-agrees a b same = record {
  same_depth = sym same.same_depth;
  widths = λ level orient e. sym (same.widths level orient e);
  heights = λ level orient e. sym (same.heights level orient e);
}

-- bands whose sizes are those of bands that serve
pub narrow-beside : (short narrow : NarrowTrio) (wide : Trio) (is_wide : Bool) → AllAgree narrow wide → AllAgree short (if is_wide then wide else trio_of narrow) → AllAgree short (trio_of narrow)
narrow-beside short narrow wide true sizes beside = all-agree-on short wide narrow (trio_of narrow) refl beside sizes
narrow-beside short narrow wide false sizes beside = beside

sizes-stay : (short before after wide : BandStack) → AgreeInSizes short before → AgreeInSizes short after → AgreeInSizes before wide → AgreeInSizes after wide
sizes-stay short before after wide first second agree =
    let E : (level orient : ℕ) → BandExists after.depth level orient → BandExists short.depth level orient = λ level orient e. subst (λ (d : ℕ). BandExists d level orient) (sym second.same_depth) e in
    let F : (level orient : ℕ) → BandExists after.depth level orient → BandExists before.depth level orient = λ level orient e. subst (λ (d : ℕ). BandExists d level orient) first.same_depth (E level orient e) in
    record {
      same_depth = sym second.same_depth ∙ first.same_depth ∙ agree.same_depth;
      widths = λ level orient e. sym (second.widths level orient (E level orient e)) ∙ first.widths level orient (E level orient e) ∙ agree.widths level orient (F level orient e);
      heights = λ level orient e. sym (second.heights level orient (E level orient e)) ∙ first.heights level orient (E level orient e) ∙ agree.heights level orient (F level orient e);
    }

-- rows that bands of 16 bits stand beside, before and after
pub beside-kept : (short : NarrowTrio) (before after : LateSeen NarrowTrio) (wide : LateSeen Trio) → AllAgree short (trio_of before.bands) → AllAgree short (trio_of after.bands) → AllAgree before.bands wide.bands → AreRowsKept after wide false
beside-kept short before after wide first second agree = record {
  sizes = record {
    luma = sizes-stay short.luma before.bands.luma after.bands.luma wide.bands.luma first.luma second.luma agree.luma;
    c1 = sizes-stay short.c1 before.bands.c1 after.bands.c1 wide.bands.c1 first.c1 second.c1 agree.c1;
    c2 = sizes-stay short.c2 before.bands.c2 after.bands.c2 wide.bands.c2 first.c2 second.c2 agree.c2;
  };
  made = λ serve. absurd (let clash : false ≡ true = serve in cc);
  both = λ serve. absurd (let clash : false ≡ true = serve in cc);
}
