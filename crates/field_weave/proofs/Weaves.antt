-- What a call that weaves or splits leaves, by how its loop ends.
use Rattle.std.proofs.Common.{◌≡◌, ℕ, ◌<◌, ◌≤◌, List, [], Option, Some, None, Ok, Err, refl, sym, ap, subst, ◌∙◌}
use Rattle.std.specs.Io.KnownBytes.{Appends}
use Rattle.vc2_io.specs.Outside.{Rose, GrewShort}
use Rattle.vc2_io.proofs.Known.{Appends-none}
use Rattle.slice_geometry.specs.Frames.{Frame}
use Rattle.picture_codec.specs.Samples.{PictureSamples}
use Rattle.raw_video.specs.RawParse.{raw_length, LargeAt, CutAt, TooLong}
use Rattle.run_theory.specs.Ran.{Ran}
use Rattle.raw_video.specs.Reading.{ReadsFront, RawCause}
use Rattle.raw_video.specs.declared.reader.RawStep.{RawStep}
use Rattle.raw_video.specs.declared.reader.RawStep.TheVariants as steps
use Rattle.raw_video.specs.declared.reader.RawFault.{RawFault}
use Rattle.raw_video.specs.declared.reader.RawFault.TheVariants as faults
use Rattle.field_weave.specs.declared.weaver.WeaveStop.TheVariants as stops
use Rattle.raw_video.specs.PictureRuns.{PictureCommand, BehindPictures, picture_machine, Goes}
use Rattle.raw_video.specs.PictureSoon.{HasOpenEndings}
use Rattle.raw_video.proofs.OpenPrefixes.{soon_behind}
use Rattle.field_weave.specs.declared.Order.{Order}
use Rattle.field_weave.specs.WeaveRuns.{WeaveEnd, FieldsSoFar, fields_end, weaving, splitting, MayGoOn, refused_by, stop_of, Weaves}
use Rattle.raw_video.proofs.PictureTurns.{most_taken, ran_short, ran_over, ran_large, ran_cut, ran_past, ran_lost}

-- at the input's end, and inside a picture
pub weaving_ends : (order : Order) (f : Frame) → HasOpenEndings MayGoOn (weaving order f)
weaving_ends order f = record { finished = λ place own. by place own own.first; cut = λ at. tt }
  where
    by : (place : ℕ) (own : FieldsSoFar) (first : Option PictureSamples) → MayGoOn (fields_end place own first)
    by place own None = tt
    by place own (Some p) = tt

pub splitting_ends : (order : Order) (f : Frame) → HasOpenEndings MayGoOn (splitting order f)
splitting_ends order f = record { finished = λ place own. tt; cut = λ at. tt }

module _ {W : Type 0} (f : Frame) (command : PictureCommand W WeaveEnd) (some : 0 < raw_length f) (by : command.refused ≡ refused_by) (ends : HasOpenEndings MayGoOn command) (z : BehindPictures W) (rest0 rest1 out0 out1 : Option (List ℕ)) (goes : Goes f command z rest0 rest1 out0 out1) (src0 src1 src2 to0 to1 : ℕ) (steady : src1 ≡ src0) (steady_out : to1 ≡ to0) (rest2 : Option (List ℕ)) (p : PictureSamples) where
  -- there is no next picture
  pub weaves_refused : (fault : RawFault) → ReadsFront f z.place rest1 rest2 p (Err fault) → RawCause {X = RawStep} src1 src2 (Err fault)
      → Weaves (picture_machine f command) rest0 rest2 out0 out1 src0 src2 to0 to1 (Err (stop_of fault))
  weaves_refused (faults.SampleTooLarge at) r why = record {
    ran = subst (λ (e : WeaveEnd). Ran (picture_machine f command) rest0 rest2 out0 out1 (Ok e)) (ap (λ g. g (LargeAt at)) by) (ran_large f command some z rest0 rest1 out0 out1 goes rest2 p at r);
    limit = most_taken f command some z rest0 rest1 out0 out1 goes rest2 p (Err (faults.SampleTooLarge at)) r;
    soon = soon_behind MayGoOn f command ends some z rest0 rest1 rest2 out0 out1 goes p (Err (faults.SampleTooLarge at)) r;
    cause = (why ∙ steady, steady_out);
    end = tt;
  }
  weaves_refused (faults.RawTruncated at) r why = record {
    ran = subst (λ (e : WeaveEnd). Ran (picture_machine f command) rest0 rest2 out0 out1 (Ok e)) (ap (λ g. g (CutAt at)) by) (ran_cut f command some z rest0 rest1 out0 out1 goes rest2 p at r);
    limit = most_taken f command some z rest0 rest1 out0 out1 goes rest2 p (Err (faults.RawTruncated at)) r;
    soon = soon_behind MayGoOn f command ends some z rest0 rest1 rest2 out0 out1 goes p (Err (faults.RawTruncated at)) r;
    cause = (why ∙ steady, steady_out);
    end = tt;
  }
  weaves_refused faults.TooLong r why = record {
    ran = subst (λ (e : WeaveEnd). Ran (picture_machine f command) rest0 rest2 out0 out1 (Ok e)) (ap (λ g. g TooLong) by) (ran_past f command some z rest0 rest1 out0 out1 goes rest2 p r);
    limit = most_taken f command some z rest0 rest1 out0 out1 goes rest2 p (Err faults.TooLong) r;
    soon = soon_behind MayGoOn f command ends some z rest0 rest1 rest2 out0 out1 goes p (Err faults.TooLong) r;
    cause = (why ∙ steady, steady_out);
    end = tt;
  }
  weaves_refused faults.ReadFault r why = record {
    ran = ran_lost f command some z rest0 rest1 out0 out1 goes rest2 p r;
    limit = most_taken f command some z rest0 rest1 out0 out1 goes rest2 p (Err faults.ReadFault) r;
    soon = soon_behind MayGoOn f command ends some z rest0 rest1 rest2 out0 out1 goes p (Err faults.ReadFault) r;
    cause = (subst (λ (k : ℕ). k ≤ src2) steady why.0, subst (λ (k : ℕ). Rose k src2) steady why.1, steady_out);
    end = tt;
  }

  -- the input is over, behind whole frames or half of one
  pub weaves_ended : (frames : ℕ) → ReadsFront f z.place rest1 rest2 p (Ok steps.End) → command.finished z.place z.own ≡ Ok frames → command.last z.place z.own ≡ [] → src2 ≡ src1
      → Weaves (picture_machine f command) rest0 rest2 out0 out1 src0 src2 to0 to1 (Ok frames)
  weaves_ended frames r finished none same = record {
    ran = subst (λ (e : WeaveEnd). Ran (picture_machine f command) rest0 rest2 out0 out1 (Ok e)) finished (ran_over f command some z rest0 rest1 out0 out1 goes rest2 p r out1 (subst (λ (l : List ℕ). Appends out1 out1 l) (sym none) (Appends-none out1 out1 refl)));
    limit = most_taken f command some z rest0 rest1 out0 out1 goes rest2 p (Ok steps.End) r;
    soon = soon_behind MayGoOn f command ends some z rest0 rest1 rest2 out0 out1 goes p (Ok steps.End) r;
    cause = (same ∙ steady, steady_out);
    end = r.front.1;
  }

  pub weaves_half : (place : ℕ) → ReadsFront f z.place rest1 rest2 p (Ok steps.End) → command.finished z.place z.own ≡ Err (stops.HalfFrame place) → command.last z.place z.own ≡ [] → src2 ≡ src1
      → Weaves (picture_machine f command) rest0 rest2 out0 out1 src0 src2 to0 to1 (Err (stops.HalfFrame place))
  weaves_half place r finished none same = record {
    ran = subst (λ (e : WeaveEnd). Ran (picture_machine f command) rest0 rest2 out0 out1 (Ok e)) finished (ran_over f command some z rest0 rest1 out0 out1 goes rest2 p r out1 (subst (λ (l : List ℕ). Appends out1 out1 l) (sym none) (Appends-none out1 out1 refl)));
    limit = most_taken f command some z rest0 rest1 out0 out1 goes rest2 p (Ok steps.End) r;
    soon = soon_behind MayGoOn f command ends some z rest0 rest1 rest2 out0 out1 goes p (Ok steps.End) r;
    cause = (same ∙ steady, steady_out);
    end = tt;
  }

  -- a write failed
  pub weaves_short : (out2 : Option (List ℕ)) (to2 : ℕ) → ReadsFront f z.place rest1 rest2 p (Ok steps.Picture) → command.stops z.place z.own ≡ None → GrewShort out1 out2 (command.text z.own p) → src2 ≡ src1 → (to1 ≤ to2) × Rose to1 to2
      → Weaves (picture_machine f command) rest0 rest2 out0 out2 src0 src2 to0 to2 (Err stops.OutFault)
  weaves_short out2 to2 r goes_on short same why = record {
    ran = ran_short f command some z rest0 rest1 out0 out1 goes rest2 p r out2 goes_on short;
    limit = most_taken f command some z rest0 rest1 out0 out1 goes rest2 p (Ok steps.Picture) r;
    soon = soon_behind MayGoOn f command ends some z rest0 rest1 rest2 out0 out1 goes p (Ok steps.Picture) r;
    cause = (same ∙ steady, subst (λ (k : ℕ). k ≤ to2) steady_out why.0, subst (λ (k : ℕ). Rose k to2) steady_out why.1);
    end = tt;
  }
