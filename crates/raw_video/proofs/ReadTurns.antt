-- Samples that are read one part after another.
use Rattle.std.proofs.Common.{◌≡◌, ℕ, zero, suc, ◌+◌, ◌*◌, ◌%◌, ◌<◌, ◌≤◌, cond, ltb, Bool, true, false, List, [], ◌∷◌, ◌++◌, length, take, replicate, Option, Some, None, Result, Ok, Err, refl, sym, ap, subst, ◌∙◌, arith, append-nil, append_assoc}
use Rattle.std.specs.List.{All}
use Rattle.std.proofs.lemmas.Bool.{ltb-true}
use Rattle.std.proofs.lemmas.List.{length-append}
use Rattle.vc2_io.specs.declared.TheConstants.{READ_SIZE}
use Rattle.vc2_io.proofs.Known.{Consumes-then, Consumes-none}
use Rattle.raw_video.specs.RawParse.{sample_size, samples_in, later, first_large}
use Rattle.raw_video.specs.Reading.{SamplesAre, ReadsSamples, IsSoon}
use Rattle.raw_video.specs.declared.reading.Halt.{Halt}
use Rattle.raw_video.specs.declared.reading.Halt.TheVariants.{Ended, Large, ReadFault}
use Rattle.raw_video.proofs.SampleLaws.{later_by, samples-append, length-samples, large-behind, large-stays}

pub size_add : (wide : Bool) (a b : ℕ) → sample_size wide * (a + b) ≡ sample_size wide * a + sample_size wide * b
size_add false a b = omega arith
size_add true a b = omega arith

-- how many samples whole bytes make
pub whole_count : (wide : Bool) (bytes : List ℕ) (n : ℕ) → length bytes ≡ sample_size wide * n → length (samples_in wide bytes) ≡ n
whole_count false bytes n e = omega (arith, e)
whole_count true bytes n e = omega (arith, e, length-samples bytes)

pub whole_even : (wide : Bool) (bytes : List ℕ) (n : ℕ) → length bytes ≡ sample_size wide * n → wide ≡ true → length bytes % 2 ≡ 0
whole_even false bytes n e h = absurd cc
whole_even true bytes n e h = omega (arith, e)

pub short_count : (wide : Bool) (bytes : List ℕ) (n : ℕ) → length bytes < sample_size wide * n → length (samples_in wide bytes) ≤ n
short_count false bytes n lt = omega (arith, lt)
short_count true bytes n lt = omega (arith, lt, length-samples bytes)

-- ---- the first that is too large

pub none_later : (r : Option ℕ) → later r ≡ None → r ≡ None
none_later None e = refl
none_later (Some k) e = absurd cc

pub none_of_nothing : (bounds : List ℕ) → first_large bounds [] ≡ None
none_of_nothing [] = refl
none_of_nothing (b ∷ bounds) = refl

pub none_extend : (bounds others samples : List ℕ) → first_large bounds samples ≡ None → length samples ≤ length bounds → first_large (bounds ++ others) samples ≡ None
none_extend bounds others [] e few = none_of_nothing (bounds ++ others)
none_extend [] others (v ∷ samples) e few = absurd (omega arith)
none_extend (b ∷ bounds) others (v ∷ samples) e few = by (ltb v b) (λ h. none_extend bounds others samples h (omega arith)) e
  where
    by : (below : Bool) → (first_large bounds samples ≡ None → first_large (bounds ++ others) samples ≡ None) → cond below (later (first_large bounds samples)) (Some 0) ≡ None → cond below (later (first_large (bounds ++ others) samples)) (Some 0) ≡ None
    by true more h = ap later (more (none_later (first_large bounds samples) h))
    by false more h = absurd cc

pub some_extend : (bounds others samples : List ℕ) (k : ℕ) → first_large bounds samples ≡ Some k → first_large (bounds ++ others) samples ≡ Some k
some_extend bounds others samples k some = ap (first_large (bounds ++ others)) (sym (append-nil samples)) ∙ large-stays bounds samples others [] k some

later_is : (r : Option ℕ) (k : ℕ) → later r ≡ Some k → (j : ℕ) × (r ≡ Some j) × (k ≡ j + 1)
later_is None k e = absurd cc
later_is (Some j) k e = (j, refl, let same : Some (j + 1) ≡ Some k = cc in cc)

-- it is one of the samples, and has a bound
pub large_inside : (bounds samples : List ℕ) (k : ℕ) → first_large bounds samples ≡ Some k → (k < length samples) × (k < length bounds)
large_inside [] samples k e = absurd cc
large_inside (b ∷ bounds) [] k e = absurd cc
large_inside (b ∷ bounds) (v ∷ samples) k e = by (ltb v b) (large_inside bounds samples) e
  where
    by : (below : Bool) → ((j : ℕ) → first_large bounds samples ≡ Some j → (j < length samples) × (j < length bounds)) → cond below (later (first_large bounds samples)) (Some 0) ≡ Some k → (k < length (v ∷ samples)) × (k < length (b ∷ bounds))
    by true more h =
        let l = later_is (first_large bounds samples) k h in
        let m = more l.0 l.1 in
        (omega (arith, l.2, m.0), omega (arith, l.2, m.1))
    by false more h =
        let same : Some 0 ≡ Some k = h in
        let zero_is : 0 ≡ k = cc in
        (omega (arith, zero_is), omega (arith, zero_is))

pub all_cons : (bound v : ℕ) (samples : List ℕ) → v < bound → All (λ v. v < bound) samples → All (λ v. v < bound) (v ∷ samples)
all_cons bound v samples here rest zero d lt = here
all_cons bound v samples here rest (suc k) d lt = rest k d (omega arith)

-- where none is, all are below
pub all_below_one : (bound : ℕ) (samples : List ℕ) → first_large (replicate (length samples) bound) samples ≡ None → All (λ v. v < bound) samples
all_below_one bound [] e = λ k d lt. absurd (omega arith)
all_below_one bound (v ∷ samples) e = by (ltb v bound) refl (all_below_one bound samples) e
  where
    by : (below : Bool) → ltb v bound ≡ below → (first_large (replicate (length samples) bound) samples ≡ None → All (λ v. v < bound) samples) → cond below (later (first_large (replicate (length samples) bound) samples)) (Some 0) ≡ None → All (λ v. v < bound) (v ∷ samples)
    by true t more h = all_cons bound v samples (ltb-true v bound t) (more (none_later (first_large (replicate (length samples) bound) samples) h))
    by false t more h = absurd cc

-- behind whole samples of which none is
large_then : (wide : Bool) (bounds others : List ℕ) (first then : List ℕ) → length first ≡ sample_size wide * length bounds → first_large bounds (samples_in wide first) ≡ None
    → first_large (bounds ++ others) (samples_in wide (first ++ then)) ≡ later_by (length bounds) (first_large others (samples_in wide then))
large_then wide bounds others first then long none =
    let count = whole_count wide first (length bounds) long in
    ap (first_large (bounds ++ others)) (samples-append wide first then (whole_even wide first (length bounds) long))
    ∙ large-behind bounds (samples_in wide first) others (samples_in wide then) (sym count) none
    ∙ ap (λ (n : ℕ). later_by n (first_large others (samples_in wide then))) count

-- ---- no sample that is too large but in the last read

nothing_large : (wide : Bool) (bounds : List ℕ) → first_large bounds (samples_in wide []) ≡ None
nothing_large false bounds = none_of_nothing bounds
nothing_large true bounds = none_of_nothing bounds

pub soon_at_once : (wide : Bool) (bounds taken : List ℕ) → length taken ≤ READ_SIZE → IsSoon wide bounds taken
soon_at_once wide bounds taken few = record { sure = []; last = taken; parts = refl; few = few; none = nothing_large wide bounds }

few_samples : (wide : Bool) (bytes : List ℕ) (n : ℕ) → length bytes ≤ sample_size wide * n → length (samples_in wide bytes) ≤ n
few_samples false bytes n le = omega (arith, le)
few_samples true bytes n le = omega (arith, le, length-samples bytes)

soon_first : (wide : Bool) (bounds others taken : List ℕ) → length taken ≤ sample_size wide * length bounds → IsSoon wide bounds taken → IsSoon wide (bounds ++ others) taken
soon_first wide bounds others taken few s = record {
  sure = s.sure;
  last = s.last;
  parts = s.parts;
  few = s.few;
  none = none_extend bounds others (samples_in wide s.sure) s.none (few_samples wide s.sure (length bounds) (omega (arith, few, long)));
}
  where
    long : length taken ≡ length s.sure + length s.last
    long = ap (λ (l : List ℕ). length l) s.parts ∙ length-append s.sure s.last

soon_then : (wide : Bool) (bounds others first then : List ℕ) → length first ≡ sample_size wide * length bounds → first_large bounds (samples_in wide first) ≡ None → IsSoon wide others then
    → IsSoon wide (bounds ++ others) (first ++ then)
soon_then wide bounds others first then long none s = record {
  sure = first ++ s.sure;
  last = s.last;
  parts = ap (λ (l : List ℕ). first ++ l) s.parts ∙ sym (append_assoc first s.sure s.last);
  few = s.few;
  none = large_then wide bounds others first s.sure long none ∙ ap (later_by (length bounds)) s.none;
}

-- ---- parts of the samples

-- none
pub reads_nothing : (wide : Bool) (start room bound : ℕ) (rest : Option (List ℕ)) (samples : List ℕ) (n : ℕ) → n ≡ 0 → sample_size wide * start ≤ room → ReadsSamples wide start room (replicate n bound) rest rest (take n samples) (Ok tt)
reads_nothing wide start room bound rest samples n none inside =
    subst (λ (k : ℕ). ReadsSamples wide start room (replicate k bound) rest rest (take k samples) (Ok tt)) (sym none) (record {
      taken = [];
      took = Consumes-none rest;
      few = omega arith;
      most = omega (arith, inside);
      are = (by wide, whole wide, nothing_large wide []);
      soon = soon_at_once wide [] [] (omega arith);
    })
  where
    by : (wide : Bool) → 0 ≡ sample_size wide * 0
    by false = refl
    by true = refl

    whole : (wide : Bool) → samples_in wide [] ≡ []
    whole false = refl
    whole true = refl

module _ (wide : Bool) (start room : ℕ) (bounds others : List ℕ) (rest0 rest1 : Option (List ℕ)) where
  -- what halted the first part
  pub reads_first : (samples samples' : List ℕ) (halt : Halt) → ReadsSamples wide start room bounds rest0 rest1 samples (Err halt) → ReadsSamples wide start room (bounds ++ others) rest0 rest1 samples' (Err halt)
  reads_first samples samples' halt r = record { taken = r.taken; took = r.took; few = omega (arith, r.few, more); most = r.most; are = by halt r.are; soon = soon_first wide bounds others r.taken r.few r.soon }
    where
      more : sample_size wide * length (bounds ++ others) ≡ sample_size wide * length bounds + sample_size wide * length others
      more = ap (λ (n : ℕ). sample_size wide * n) (length-append bounds others) ∙ size_add wide (length bounds) (length others)

      by : (halt : Halt) → SamplesAre wide start room bounds rest1 r.taken samples (Err halt) → SamplesAre wide start room (bounds ++ others) rest1 r.taken samples' (Err halt)
      by (Ended total) (there, short, why, none) =
          (there, omega (arith, short, more), why, none_extend bounds others (samples_in wide r.taken) none (short_count wide r.taken (length bounds) short))
      by (Large number) (k, is, some) = (k, is, some_extend bounds others (samples_in wide r.taken) k some)
      by ReadFault short = omega (arith, short, more)

  -- a part, and then what came behind it
  pub reads_then : (rest2 : Option (List ℕ)) (samples samples' : List ℕ) (result : Result (Unit {0}) Halt) → ReadsSamples wide start room bounds rest0 rest1 samples (Ok tt)
      → ReadsSamples wide (start + length bounds) room others rest1 rest2 samples' result → ReadsSamples wide start room (bounds ++ others) rest0 rest2 (samples ++ samples') result
  reads_then rest2 samples samples' result a b = record {
    taken = a.taken ++ b.taken;
    took = Consumes-then rest0 rest1 rest2 a.taken b.taken a.took b.took;
    few = omega (arith, b.few, both, all);
    most = omega (arith, b.most, both, before);
    are = by result b.are;
    soon = soon_then wide bounds others a.taken b.taken a.are.0 a.are.2 b.soon;
  }
    where
      both : length (a.taken ++ b.taken) ≡ sample_size wide * length bounds + length b.taken
      both = length-append a.taken b.taken ∙ ap (λ (n : ℕ). n + length b.taken) a.are.0

      before : sample_size wide * (start + length bounds) ≡ sample_size wide * start + sample_size wide * length bounds
      before = size_add wide start (length bounds)

      all : sample_size wide * length (bounds ++ others) ≡ sample_size wide * length bounds + sample_size wide * length others
      all = ap (λ (n : ℕ). sample_size wide * n) (length-append bounds others) ∙ size_add wide (length bounds) (length others)

      behind : first_large (bounds ++ others) (samples_in wide (a.taken ++ b.taken)) ≡ later_by (length bounds) (first_large others (samples_in wide b.taken))
      behind = large_then wide bounds others a.taken b.taken a.are.0 a.are.2

      by : (result : Result (Unit {0}) Halt) → SamplesAre wide (start + length bounds) room others rest2 b.taken samples' result → SamplesAre wide start room (bounds ++ others) rest2 (a.taken ++ b.taken) (samples ++ samples') result
      by (Ok x) (long, same, none) = (
        omega (arith, long, both, all),
        samples-append wide a.taken b.taken (whole_even wide a.taken (length bounds) a.are.0) ∙ ap (λ (l : List ℕ). l ++ samples_in wide b.taken) a.are.1 ∙ ap (λ (l : List ℕ). samples ++ l) same,
        behind ∙ ap (later_by (length bounds)) none,
      )
      by (Err (Ended total)) (there, short, why, none) = (
        omega (arith, there, both, before),
        omega (arith, short, both, all),
        why,
        behind ∙ ap (later_by (length bounds)) none,
      )
      by (Err (Large number)) (k, is, some) = (length bounds + k, omega (arith, is), behind ∙ ap (later_by (length bounds)) some)
      by (Err ReadFault) short = omega (arith, short, both, all)
