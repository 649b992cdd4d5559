-- The last rule of the words is the encoder's: the matrix leaves index 127 coarse enough.
use Rattle.std.proofs.Common.{◌≡◌, ℕ, ◌+◌, ◌*◌, ◌≤◌, leb, Bool, true, false, get_or, subst, sym, refl, ◌∙◌, arith}
use Rattle.std.proofs.lemmas.Bool.{le-leb, leb-true}
use Rattle.std.proofs.lemmas.List.Sums.{AllPass-from_list_all, list_all-from_AllPass}
use Rattle.std.proofs.lemmas.Grind.{get_or_default_zero}
use Rattle.planes.specs.Subbands.{band_index}
use Rattle.slice_geometry.specs.SliceOrder.{level_of, orient_of}
use Rattle.slice_geometry.proofs.NumberedBands.{band-exists, index-numbered}
use Rattle.slice_decoder.proofs.Whole.{is_band}
use Rattle.transform_params.specs.ParameterFields.{AreLawfulParams}
use Rattle.vc2_words.specs.Settings.{Asked}
use Rattle.slice_encoder.specs.TrialLaws.{IsSteepOk}
use Rattle.stream_writer.specs.Writer.{IsSteepOkUnder}
use Rattle.vc2_cli.specs.Encode.{written_under}
use Rattle.vc2_cli.specs.Words.{greater_depth, is_steep_ok}

module _ (s : Asked) (f : AreLawfulParams s.params) where
  abbrev leaves_room : ℕ → Bool
  leaves_room entry = leb (entry + 4 * (greater_depth s + 2 + 3 * s.params.slicing.depth)) 127

  pub steep_from_ok : is_steep_ok s ≡ true → IsSteepOkUnder (written_under s)
  steep_from_ok steep level orient exists =
      let b = is_band s.params.slicing.depth level orient exists in
      leb-true _ 127 (AllPass-from_list_all leaves_room s.params.matrix.entries steep (band_index level orient) 0 (omega (arith, b.below, f.count)))

  pub ok_from_steep : IsSteepOkUnder (written_under s) → is_steep_ok s ≡ true
  ok_from_steep steep = list_all-from_AllPass leaves_room s.params.matrix.entries (λ k d inside.
      let there : get_or s.params.matrix.entries (band_index (level_of k) (orient_of k)) 0 + 4 * (greater_depth s + 2 + 3 * s.params.slicing.depth) ≤ 127
      = steep (level_of k) (orient_of k) (band-exists s.params.slicing.depth k (omega (arith, inside, f.count))) in
      let here : get_or s.params.matrix.entries k 0 + 4 * (greater_depth s + 2 + 3 * s.params.slicing.depth) ≤ 127 = subst (λ (i : ℕ). get_or s.params.matrix.entries i 0 + 4 * (greater_depth s + 2 + 3 * s.params.slicing.depth) ≤ 127) (index-numbered k) there in
      le-leb _ 127 (subst (λ (v : ℕ). v + 4 * (greater_depth s + 2 + 3 * s.params.slicing.depth) ≤ 127) (sym (get_or_default_zero s.params.matrix.entries k d inside)) here))

-- a test that is true exactly where the encoder's rule holds
pub steep_ok_answer : (s : Asked) → AreLawfulParams s.params → (depth signal : ℕ) (result : Bool) → depth ≡ s.params.slicing.depth → signal ≡ greater_depth s → (result ≡ true → IsSteepOk depth signal s.params.matrix)
    → (IsSteepOk depth signal s.params.matrix → result ≡ true) → result ≡ is_steep_ok s
steep_ok_answer s f depth signal result deep great to from = by result (is_steep_ok s) refl refl
  where
    there : IsSteepOk depth signal s.params.matrix → IsSteepOkUnder (written_under s)
    there ok = subst (λ (k : ℕ). IsSteepOk k (greater_depth s) s.params.matrix) deep (subst (λ (k : ℕ). IsSteepOk depth k s.params.matrix) great ok)

    here : IsSteepOkUnder (written_under s) → IsSteepOk depth signal s.params.matrix
    here ok = subst (λ (k : ℕ). IsSteepOk depth k s.params.matrix) (sym great) (subst (λ (k : ℕ). IsSteepOk k (greater_depth s) s.params.matrix) (sym deep) ok)

    by : (a b : Bool) → result ≡ a → is_steep_ok s ≡ b → result ≡ is_steep_ok s
    by true b e q = e ∙ sym (ok_from_steep s f (there (to e)))
    by false true e q = absurd (let w : false ≡ true = sym e ∙ from (here (steep_from_ok s f q)) in cc)
    by false false e q = e ∙ sym q
