-- Settings that break no rule are lawful: their header passes, and so do their parameters.
use Rattle.std.proofs.Common.{◌≡◌, ℕ, ◌+◌, ◌*◌, ◌≤◌, ◌<◌, ◌^◌, true, false, List, [], ◌∷◌, Some, None, Ok, Err, refl, sym, ◌∙◌, subst, ◌%◌, arith, ap}
use Rattle.std.specs.Prelude.{Option, Result, ◌==◌, slice_index, is_some, not}
use Rattle.std.specs.List.{AllByRecursion}
use Rattle.std.proofs.lemmas.Bool.{leb-true, eqb-true, eq-eqb, true≢false}
use Rattle.field_rows.specs.Rows.{Rule, first_broken}
use Rattle.sequence_header.specs.Checking.{PassesRules}
use Rattle.slice_geometry.specs.Slicing.{Slicing, slice_count, AreSlicesAllowed, IsShareAllowed}
use Rattle.transform_params.specs.Params.{Params}
use Rattle.transform_params.specs.ParameterFields.{AreLawfulParams, unit_length}
use Rattle.channel_schedule.specs.declared.schedule.Rate.{Rate}
use Rattle.channel_schedule.specs.declared.schedule.Schedule.{Schedule}
use Rattle.channel_schedule.specs.Rates.{IsRate}
use Rattle.std.proofs.Math.Nat.{mul-le-mul_left}
use Rattle.vc2_words.specs.declared.keys.Key.TheVariants as of_key
use Rattle.vc2_words.specs.declared.keys.Rule as settings
use Rattle.vc2_words.specs.Forms.{greatest_number, cut_at, slash, number_of_digits, number_at_least}
use Rattle.field_rows.specs.Rows.{and_then}
use Rattle.vc2_words.specs.Operands.{Table, value_of, has_schedule, operands_of}
use Rattle.vc2_words.specs.Plain.{IsPlain, IsPlainFor}
use Rattle.vc2_words.specs.Lawful.{AreLawfulWords, IsAskedGroup, IsAskedSchedule, IsTrial, IsFieldVideo, IsCutSettings}
use Rattle.vc2_words.specs.declared.keys.Name.{Name}
use Rattle.vc2_words.specs.declared.keys.Name.TheVariants as names
use Rattle.vc2_words.specs.declared.keys.WordFault.{WordFault}
use Rattle.vc2_words.specs.Keys.{name_of, all_keys}
use Rattle.vc2_words.specs.Commands.{AskedCommand, check, encode, trial, weave, split, cut, unless_broken, schedule_from, schedule_of, command_of, part_of, command_named, asked_by}
use Rattle.vc2_words.proofs.Plainness.{IsWhole, missing_none, plain_of, whole_of, pair_is, single_is, range_is, none_some, some_same}
use Rattle.vc2_words.proofs.Given.{IsTableRead, IsValue}
use Rattle.vc2_words.proofs.Small.{AreSmall, given_small, number_small}
use Rattle.vc2_words.proofs.HeaderNumbers.{parts_lawful, field_parts_lawful}
use Rattle.vc2_words.proofs.Trials.{seed_low, pictures_of}
use Rattle.transform_params.proofs.Bounds.{unit_small}
use Rattle.vc2_words.specs.Settings.{number_of, given_number, entries_of, parts_of, params_of, slicing_of, are_slices, is_share, trial_number_rules, trial_rules, broken_rule, or_first, is_even_with, are_paired, first_given, asked_of, field_parts, field_rules, video_of, cut_of, cut_rules, rate_or, rate_given, buffer_given}
use Rattle.vc2_words.proofs.Lawful.{range_of, and_both, passes}
use Rattle.vc2_words.proofs.Rules.{all_hold, slices_hold, share_holds, count_holds}

all_low : (ns : List ℕ) → AreSmall ns → AllByRecursion (λ (n : ℕ). n < 2 ^ 32) ns
all_low [] small = tt
all_low (n ∷ ns) small = (omega (arith, small.0), all_low ns small.1)

entries_low : (given : Table) → IsTableRead given → AllByRecursion (λ (n : ℕ). n < 2 ^ 32) (entries_of (value_of given of_key.Matrix))
entries_low given read = here (value_of given of_key.Matrix) refl
  where
    here : (v : Option (List ℕ)) → value_of given of_key.Matrix ≡ v → AllByRecursion (λ (n : ℕ). n < 2 ^ 32) (entries_of v)
    here None is = tt
    here (Some ns) is = all_low ns (given_small given of_key.Matrix ns read is)

pub slices_allowed : (s : Slicing) → are_slices s ≡ true → AreSlicesAllowed s
slices_allowed s good =
    let one = and_both _ _ good in
    let two = and_both _ _ one.1 in
    let x = range_of 1 8192 s.slices_x one.0 in
    let y = range_of 1 8192 s.slices_y two.0 in
    record { some_across = x.0; across = x.1; some_down = y.0; down = y.1; count = leb-true (s.slices_x * s.slices_y) (2 ^ 20) two.1 }

pub share_allowed : (s : Slicing) → is_share s ≡ true → IsShareAllowed s
share_allowed s good =
    let one = and_both _ _ good in
    let two = and_both _ _ one.1 in
    record { some = leb-true 1 s.b one.0; byte = leb-true s.b s.a two.0; total = leb-true _ (2 ^ 28) two.1 }

-- the pictures of a sequence that these operands ask for
abbrev group_in : Table → Option ℕ
group_in given = first_given (value_of given of_key.Group)

none_before : (a b : Option settings.Rule) → or_first a b ≡ None → a ≡ None
none_before None b e = refl
none_before (Some rule) b e = e

abbrev numbers_of : Table → Option ℕ → List (Rule settings.Rule)
numbers_of given pictures = trial_number_rules (parts_of given) (params_of given) (given_number given of_key.First 0) (group_in given) pictures

abbrev trials_of : Table → Option ℕ → List (Rule settings.Rule)
trials_of given pictures = trial_rules (parts_of given) (params_of given) (group_in given) pictures

numbers_hold : (given : Table) (pictures : Option ℕ) → broken_rule given pictures ≡ None → first_broken (numbers_of given pictures) ≡ None
numbers_hold given pictures none = none_before (first_broken (numbers_of given pictures)) (first_broken (trials_of given pictures)) none

pub params_lawful : (given : Table) (pictures : Option ℕ) → IsTableRead given → broken_rule given pictures ≡ None → AreLawfulParams (params_of given)
params_lawful given pictures read none =
    let first = given_number given of_key.First 0 in
    let held = numbers_hold given pictures none in
    let all = all_hold (numbers_of given pictures) held in
    let a = number_small given of_key.Bytes 0 read in
    let b = number_small given of_key.Bytes 1 read in
    record {
      allowed = record {
        depth = leb-true (slicing_of given).depth 4 all.1.1.1.0;
        slices = slices_allowed (slicing_of given) (slices_hold (parts_of given) (params_of given) first (group_in given) pictures held);
        share = share_allowed (slicing_of given) (share_holds (parts_of given) (params_of given) first (group_in given) pictures held);
      };
      a = omega (arith, a);
      b = omega (arith, b);
      deep = refl;
      count = count_holds (parts_of given) (params_of given) first (group_in given) pictures held;
      small = entries_low given read;
    }

pub header_passes : (given : Table) (pictures : Option ℕ) → IsPlain (parts_of given) → broken_rule given pictures ≡ None → PassesRules (parts_of given)
header_passes given pictures plain none =
    let all = all_hold (numbers_of given pictures) (numbers_hold given pictures none) in
    passes (parts_of given) plain all.0 all.1.0 all.1.1.0

-- ---- the rate

record HasRate (r : Rate) : Type 0 where
  rate : IsRate r
  bytes : r.num < 2 ^ 32
  slots : r.den < 2 ^ 32

rate_lawful : (r : Option (List ℕ)) → ((ns : List ℕ) → r ≡ Some ns → IsValue of_key.Rate ns) → (usual : Rate) → HasRate usual → HasRate (rate_or usual (rate_given r))
rate_lawful None read usual good = good
rate_lawful (Some ns) read usual good =
    let value = read ns refl in
    let pair = pair_is 1 (cut_at slash value.text) ns value.reads in
    rw pair.2 (record { rate = record { some_bytes = pair.3; some_slots = pair.5 }; bytes = omega (arith, pair.4); slots = omega (arith, pair.6) })

one_product : (m n : ℕ) → 1 ≤ m → 1 ≤ n → 1 ≤ m * n
one_product m n some_m some_n = let more : m * 1 ≤ m * n = mul-le-mul_left m some_n in omega (arith, more)

usual_rate : (params : Params) (idle : ℕ) → AreLawfulParams params → idle ≤ 2 ^ 20 → HasRate (record { num = unit_length params; den = slice_count params.slicing + idle })
usual_rate params idle lawful few =
    let slices = lawful.allowed.slices in
    record {
      rate = record { some_bytes = omega arith; some_slots = omega (arith, one_product params.slicing.slices_x params.slicing.slices_y slices.some_across slices.some_down) };
      bytes = unit_small params lawful;
      slots = omega (arith, slices.count);
    }

-- ---- of the words

even_with : (coding n : ℕ) → is_even_with coding n ≡ true → coding ≡ 1 → n % 2 ≡ 0
even_with coding n good one =
    let is : (coding == 1) ≡ true = eq-eqb coding 1 one in
    eqb-true (n % 2) 0 (rw is at good)

group_lawful : (coding : ℕ) (v : Option (List ℕ)) → ((ns : List ℕ) → v ≡ Some ns → IsValue of_key.Group ns) → are_paired coding (first_given v) ≡ true → IsAskedGroup coding (first_given v)
group_lawful coding None read even = tt
group_lawful coding (Some ns) read even =
    let value = read ns refl in
    let one = single_is (number_at_least 1 value.text) ns value.reads in
    let range = range_is 1 greatest_number (number_of_digits value.text) one.0 one.1 in
    let is : slice_index ns 0 ≡ one.0 = ap (λ (l : List ℕ). slice_index l 0) one.2 in
    (omega (arith, is, range.0), omega (arith, is, range.1), even_with coding (slice_index ns 0) even)

lawful : (given : Table) (pictures : Option ℕ) → IsTableRead given → IsPlain (parts_of given) → broken_rule given pictures ≡ None → AreLawfulWords (asked_of given)
lawful given pictures read plain none =
    let first = given_number given of_key.First 0 in
    let low = number_small given of_key.First 0 read in
    let all = all_hold (numbers_of given pictures) (numbers_hold given pictures none) in
    let params = params_lawful given pictures read none in
    let idle = given_number given of_key.Idle 0 in
    let few : idle ≤ 2 ^ 20 = number_small given of_key.Idle 0 read in
    let rate = rate_lawful (value_of given of_key.Rate) (λ ns is. read.read of_key.Rate ns is) (record { num = unit_length (params_of given); den = slice_count (slicing_of given) + idle }) (usual_rate (params_of given) idle params few) in
    record {
      header = parts_lawful given read plain (header_passes given pictures plain none);
      params = params;
      first = omega (arith, low);
      even = even_with (parts_of given).coding first all.1.1.1.1.1.1.1.0;
      rate = rate.rate;
      bytes = rate.bytes;
      slots = rate.slots;
      group = group_lawful (parts_of given).coding (value_of given of_key.Group) (λ ns is. read.read of_key.Group ns is) all.1.1.1.1.1.1.1.1.1.0;
      idle = few;
    }

-- ---- of a trial

none_behind : (a b : Option settings.Rule) → or_first a b ≡ None → b ≡ None
none_behind None b e = e
none_behind (Some rule) b e = none_some (sym e)

trial_lawful : (given : Table) → IsWhole names.Trial given → IsPlain (parts_of given) → broken_rule given (Some (given_number given of_key.Pictures 0)) ≡ None → IsTrial (asked_of given) (part_of given)
trial_lawful given whole plain none =
    let pictures = given_number given of_key.Pictures 0 in
    let numbers = all_hold (numbers_of given (Some pictures)) (numbers_hold given (Some pictures) none) in
    let trials = all_hold (trials_of given (Some pictures)) (none_behind (first_broken (numbers_of given (Some pictures))) (first_broken (trials_of given (Some pictures))) none) in
    let range = pictures_of given whole in
    record {
      settings = lawful given (Some pictures) whole.read plain none;
      seed = seed_low given whole.read;
      some = range.0;
      few = range.1;
      even = even_with (parts_of given).coding pictures numbers.1.1.1.1.1.1.1.1.0;
      short = leb-true _ (2 ^ 28) trials.0;
    }

-- ---- a schedule

schedule_lawful : (given : Table) → IsTableRead given → (s : Schedule) → schedule_of given ≡ Some s → IsAskedSchedule s
schedule_lawful given read s e = here (value_of given of_key.Rate) (value_of given of_key.Delay) (value_of given of_key.Buffer) refl refl e
  where
    few : given_number given of_key.Idle 0 ≤ 2 ^ 20
    few = number_small given of_key.Idle 0 read

    here : (r d b : Option (List ℕ)) → value_of given of_key.Rate ≡ r → value_of given of_key.Delay ≡ d → schedule_from (rate_given r) d (buffer_given b) (given_number given of_key.Idle 0) ≡ Some s → IsAskedSchedule s
    here None d b ir id e = none_some e
    here (Some ns) None b ir id e = none_some e
    here (Some ns) (Some ds) None ir id e = none_some e
    here (Some ns) (Some ds) (Some bs) ir id e =
        let delay : number_of (value_of given of_key.Delay) 0 ≤ 2 ^ 72 = number_small given of_key.Delay 0 read in
        let short : slice_index ds 0 ≤ 2 ^ 72 = rw id at delay in
        let usual : Rate = record { num = 1; den = 1 } in
        let rate = rate_lawful (Some ns) (λ ms is. read.read of_key.Rate ms (ir ∙ is)) usual (record { rate = record { some_bytes = omega arith; some_slots = omega arith }; bytes = omega arith; slots = omega arith }) in
        subst (λ (k : Schedule). IsAskedSchedule k) (some_same e) (record { schedule = record { rate = rate.rate; short = short }; idle = few })

abbrev SaysOf : Option Schedule → Type 0
SaysOf None = Unit {0}
SaysOf (Some s) = IsAskedSchedule s

schedule_says : (given : Table) → IsTableRead given → (r : Option Schedule) → schedule_of given ≡ r → SaysOf r
schedule_says given read None is = tt
schedule_says given read (Some s) is = schedule_lawful given read s is

-- ---- fields

fields_lawful : (given : Table) → IsTableRead given → IsPlain (field_parts given) → first_broken (field_rules (field_parts given)) ≡ None → IsFieldVideo (video_of given)
fields_lawful given read plain none =
    let all = all_hold (field_rules (field_parts given)) none in
    record { header = field_parts_lawful given read plain (passes (field_parts given) plain all.0 all.1.0 all.1.1.0); fields = refl }

-- ---- a cut

-- a rate that is given is one
rate_in : (given : Table) → IsTableRead given → not (is_some (value_of given of_key.Rate)) ≡ false → HasRate (record { num = given_number given of_key.Rate 0; den = given_number given of_key.Rate 1 })
rate_in given read some = here (value_of given of_key.Rate) refl some
  where
    here : (v : Option (List ℕ)) → value_of given of_key.Rate ≡ v → not (is_some v) ≡ false → HasRate (record { num = number_of v 0; den = number_of v 1 })
    here None is some = absurd (true≢false some)
    here (Some ns) is some =
        let value = read.read of_key.Rate ns is in
        let pair = pair_is 1 (cut_at slash value.text) ns value.reads in
        rw pair.2 (record { rate = record { some_bytes = pair.3; some_slots = pair.5 }; bytes = omega (arith, pair.4); slots = omega (arith, pair.6) })

pub cut_lawful : (given : Table) → IsWhole names.Cut given → first_broken (cut_rules (cut_of given)) ≡ None → IsCutSettings (cut_of given)
cut_lawful given whole none =
    let all = missing_none names.Cut (has_schedule given) given all_keys whole.whole in
    let rate = rate_in given whole.read all.1.1.1.1.1.1.1.1.1.1.1.1.0 in
    let order = leb-true (given_number given of_key.From 0 + 1) (given_number given of_key.To 0) (all_hold (cut_rules (cut_of given)) none).0 in
    record {
      some = omega (arith, order);
      last = omega (arith, number_small given of_key.To 0 whole.read);
      rate = rate.rate;
      bytes = rate.bytes;
      slots = rate.slots;
      idle = number_small given of_key.Idle 0 whole.read;
    }

abbrev Says : AskedCommand → Type 0
Says (check schedule) = SaysOf schedule
Says (encode s) = AreLawfulWords s
Says (trial s part) = IsTrial s part
Says (weave video) = IsFieldVideo video
Says (split video) = IsFieldVideo video
Says (cut c) = IsCutSettings c
Says _ = Unit {0}

abbrev fine : AskedCommand → Result AskedCommand WordFault
fine c = Ok c

fine_same : {a b : AskedCommand} → fine a ≡ fine b → a ≡ b
fine_same e = cc

failed : {G : Type 0} {fault : WordFault} {c : AskedCommand} → Err fault ≡ fine c → G
failed e = absurd (let h = e in cc)

unbroken : (given : Table) (pictures : Option ℕ) (told c : AskedCommand) → (broken_rule given pictures ≡ None → Says told) → unless_broken (broken_rule given pictures) told ≡ fine c → Says c
unbroken given pictures told c good e = here (broken_rule given pictures) refl e
  where
    here : (r : Option settings.Rule) → broken_rule given pictures ≡ r → unless_broken r told ≡ fine c → Says c
    here (Some rule) is e = failed e
    here None is e = subst (λ (k : AskedCommand). Says k) (fine_same e) (good is)

unbroken_fields : (given : Table) (told c : AskedCommand) → (first_broken (field_rules (field_parts given)) ≡ None → Says told) → unless_broken (first_broken (field_rules (field_parts given))) told ≡ fine c → Says c
unbroken_fields given told c good e = here (first_broken (field_rules (field_parts given))) refl e
  where
    here : (r : Option settings.Rule) → first_broken (field_rules (field_parts given)) ≡ r → unless_broken r told ≡ fine c → Says c
    here (Some rule) is e = failed e
    here None is e = subst (λ (k : AskedCommand). Says k) (fine_same e) (good is)

unbroken_cut : (given : Table) (told c : AskedCommand) → (first_broken (cut_rules (cut_of given)) ≡ None → Says told) → unless_broken (first_broken (cut_rules (cut_of given))) told ≡ fine c → Says c
unbroken_cut given told c good e = here (first_broken (cut_rules (cut_of given))) refl e
  where
    here : (r : Option settings.Rule) → first_broken (cut_rules (cut_of given)) ≡ r → unless_broken r told ≡ fine c → Says c
    here (Some rule) is e = failed e
    here None is e = subst (λ (k : AskedCommand). Says k) (fine_same e) (good is)

command_says : (name : Name) (given : Table) (c : AskedCommand) → IsWhole name given → IsPlainFor name (parts_of given) → command_of name given ≡ fine c → Says c
command_says names.Chain given c whole plain e = subst (λ (k : AskedCommand). Says k) (fine_same e) tt
command_says names.Header given c whole plain e = subst (λ (k : AskedCommand). Says k) (fine_same e) tt
command_says names.Decode given c whole plain e = subst (λ (k : AskedCommand). Says k) (fine_same e) tt
command_says names.Check given c whole plain e = subst (λ (k : AskedCommand). Says k) (fine_same e) (schedule_says given whole.read (schedule_of given) refl)
command_says names.Proxy given c whole plain e = subst (λ (k : AskedCommand). Says k) (fine_same e) tt
command_says names.Encode given c whole plain e = unbroken given None (encode (asked_of given)) c (lawful given None whole.read plain) e
command_says names.Trial given c whole plain e =
    unbroken given (Some (given_number given of_key.Pictures 0)) (trial (asked_of given) (part_of given)) c (trial_lawful given whole plain) e
command_says names.Weave given c whole plain e = unbroken_fields given (weave (video_of given)) c (fields_lawful given whole.read plain) e
command_says names.Split given c whole plain e = unbroken_fields given (split (video_of given)) c (fields_lawful given whole.read plain) e
command_says names.Cut given c whole plain e = unbroken_cut given (cut (cut_of given)) c (cut_lawful given whole) e
command_says names.Frames given c whole plain e = subst (λ (k : AskedCommand). Says k) (fine_same e) tt

pub words_say : (words : List (List ℕ)) (c : AskedCommand) → asked_by words ≡ fine c → Says c
words_say [] c e = failed e
words_say (word ∷ words) c e = here (name_of word) e
  where
    read : (name : Name) (r : Result Table WordFault) → operands_of name words ≡ r → and_then r (λ given. command_of name given) ≡ fine c → Says c
    read name (Err fault) is e = failed e
    read name (Ok given) is e = command_says name given c (whole_of name words given is) (plain_of name words given is) e

    here : (n : Option Name) → command_named n words ≡ fine c → Says c
    here None e = failed e
    here (Some name) e = read name (operands_of name words) refl e
