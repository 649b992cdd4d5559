-- What stands after a status, part by part, as the clauses of `run` have it.
use Rattle.std.proofs.Common.{◌≡◌, ℕ, List, Option, None, Some, IfSome, Result, Ok, Err, refl, sym, ap, subst, ◌∙◌, cond, Bool, true, false}
use Rattle.std.specs.Prelude.{IfErr, MatchResult}
use Rattle.std.specs.Io.KnownBytes.{Appends, Keeps}
use Rattle.vc2_io.specs.Outside.{GrewShort}
use Rattle.vc2_cli.specs.declared.status.Status.{Status}
use Rattle.vc2_cli.specs.declared.status.Status.TheVariants as st
use Rattle.vc2_cli.specs.declared.status.Ending.{Ending}
use Rattle.vc2_cli.specs.declared.status.Ending.TheVariants.{Done, Scheduled, Refused}
use Rattle.channel_schedule.specs.declared.schedule.Schedule.{Schedule}
use Rattle.channel_schedule.specs.declared.schedule.Outcome.TheVariants as outcomes
use Rattle.channel_schedule.specs.Rates.{IsSchedule}
use Rattle.vc2_words.specs.declared.keys.WordFault.{WordFault}
use Rattle.vc2_words.specs.declared.words.Command.{Command}
use Rattle.vc2_words.specs.Commands.{AskedCommand, chain, header, decode, proxy, check, encode, trial, weave, split, frames, cut, command_seen, asked_by}
use Rattle.vc2_words.proofs.Settled.{words_say}
use Rattle.vc2_words.specs.declared.keys.WordFault.TheVariants.{SettingsRefused}
use Rattle.vc2_words.specs.declared.keys.Rule.TheVariants.{MatrixTooSteep}
use Rattle.vc2_words.specs.Settings.{Asked}
use Rattle.vc2_words.specs.declared.words.TrialPart.{TrialPart}
use Rattle.vc2_words.specs.declared.settings.CutSettings.{CutSettings}
use Rattle.vc2_words.specs.declared.settings.FieldVideo.{FieldVideo}
use Rattle.vc2_words.specs.Lawful.{AreLawfulWords, IsAskedSchedule, IsTrial, IsFieldVideo, IsCutSettings}
use Rattle.stream_writer.specs.Writer.{IsSteepOkUnder}
use Rattle.vc2_cli.specs.Encode.{written_under}
use Rattle.vc2_cli.specs.Words.{seen_words, is_steep_ok, if_steep_ok, checked, words_ask}
use Rattle.vc2_cli.proofs.SteepOk.{steep_from_ok}
use Rattle.vc2_cli.specs.Reply.{Reply, Breaks, Stops, StopsShort, IsStatusOf, command_reply, command_due, status_of, ReadsAll}
use Rattle.vc2_cli.specs.Settled.{Settles}
use Rattle.vc2_cli.specs.Running.{running_of}

pub if_told : (known : Option (List ℕ)) (P : List ℕ → Type 0) → ((input : List ℕ) → known ≡ Some input → P input) → IfSome known P
if_told None P h = tt
if_told (Some input) P h = h input refl

-- a status of a reply is none of the outside
abbrev pub IsOwn : Status → Type 0
IsOwn st.ReadFault = ⊥
IsOwn st.OutFault = ⊥
IsOwn st.NoteFault = ⊥
IsOwn st.NoMemory = ⊥
IsOwn other = Unit {0}

own_ending : (ending : Ending) → IsOwn (status_of ending)
own_ending (Done note) = tt
own_ending (Scheduled outcomes.Runs) = tt
own_ending (Scheduled (outcomes.Late slot have need)) = tt
own_ending (Scheduled (outcomes.Overfull slot fill size)) = tt
own_ending (Refused refusal) = tt

own : (command : Result AskedCommand WordFault) (input : List ℕ) → IsOwn (command_reply command input).status
own (Err fault) input = tt
own (Ok asked) input = own_ending ((running_of asked).answer input).ending

-- ---- the words

-- what was read, and passed the last rule, is what the words ask for
pub words_are : (words : List (List ℕ)) (read command : Result Command WordFault) → MatchResult read (λ told. asked_by words ≡ Ok (command_seen told)) (λ fault. asked_by words ≡ Err fault) → seen_words command ≡ checked (seen_words read) → seen_words command ≡ words_ask words
words_are words (Ok told) command is same = same ∙ ap checked (sym is)
words_are words (Err fault) command is same = same ∙ ap checked (sym is)

-- what passes the last rule was read, and is not too steep
steep_or : (s : Asked) (asked told : AskedCommand) → if_steep_ok s asked ≡ Ok told → (asked ≡ told) × (is_steep_ok s ≡ true)
steep_or s asked told = by (is_steep_ok s) refl
  where
    fine : AskedCommand → Result AskedCommand WordFault
    fine c = Ok c

    by : (steep : Bool) → is_steep_ok s ≡ steep → cond steep (fine asked) (Err (SettingsRefused MatrixTooSteep)) ≡ fine told → (asked ≡ told) × (is_steep_ok s ≡ true)
    by true t e = (cc, t)
    by false t e = absurd cc

check_was : (read : Result AskedCommand WordFault) (schedule : Option Schedule) → checked read ≡ Ok (check schedule) → read ≡ Ok (check schedule)
check_was (Ok (encode s)) schedule e = let was = steep_or s (encode s) (check schedule) e in absurd (let w : encode s ≡ check schedule = was.0 in cc)
check_was (Ok (trial s part)) schedule e = let was = steep_or s (trial s part) (check schedule) e in absurd (let w : trial s part ≡ check schedule = was.0 in cc)
check_was (Ok chain) schedule e = e
check_was (Ok header) schedule e = e
check_was (Ok decode) schedule e = e
check_was (Ok (proxy level)) schedule e = e
check_was (Ok (check other)) schedule e = e
check_was (Ok (frames top)) schedule e = e
check_was (Ok (weave video)) schedule e = e
check_was (Ok (split video)) schedule e = e
check_was (Ok (cut other)) schedule e = e
check_was (Err fault) schedule e = e

pub encode_was : (read : Result AskedCommand WordFault) (s : Asked) → checked read ≡ Ok (encode s) → (read ≡ Ok (encode s)) × (is_steep_ok s ≡ true)
encode_was (Ok (encode t)) s e =
    let was = steep_or t (encode t) (encode s) e in
    let w : encode t ≡ encode s = was.0 in
    let same : t ≡ s = cc in
    (ap (λ (x : Asked). asked_encode x) same, subst (λ (x : Asked). is_steep_ok x ≡ true) same was.1)
  where
    asked_encode : Asked → Result AskedCommand WordFault
    asked_encode x = Ok (encode x)
encode_was (Ok (trial t part)) s e = let was = steep_or t (trial t part) (encode s) e in absurd (let w : trial t part ≡ encode s = was.0 in cc)
encode_was (Ok chain) s e = absurd cc
encode_was (Ok header) s e = absurd cc
encode_was (Ok decode) s e = absurd cc
encode_was (Ok (proxy level)) s e = absurd cc
encode_was (Ok (check other)) s e = absurd cc
encode_was (Ok (frames top)) s e = absurd cc
encode_was (Ok (weave video)) s e = absurd cc
encode_was (Ok (split video)) s e = absurd cc
encode_was (Ok (cut other)) s e = absurd cc
encode_was (Err fault) s e = absurd cc

trial_was : (read : Result AskedCommand WordFault) (s : Asked) (part : TrialPart) → checked read ≡ Ok (trial s part) → (read ≡ Ok (trial s part)) × (is_steep_ok s ≡ true)
trial_was (Ok (trial t other)) s part e =
    let was = steep_or t (trial t other) (trial s part) e in
    let w : trial t other ≡ trial s part = was.0 in
    let same : t ≡ s = cc in
    (ap (λ (x : AskedCommand). fine x) w, subst (λ (x : Asked). is_steep_ok x ≡ true) same was.1)
  where
    fine : AskedCommand → Result AskedCommand WordFault
    fine x = Ok x
trial_was (Ok (encode t)) s part e = let was = steep_or t (encode t) (trial s part) e in absurd (let w : encode t ≡ trial s part = was.0 in cc)
trial_was (Ok chain) s part e = absurd cc
trial_was (Ok header) s part e = absurd cc
trial_was (Ok decode) s part e = absurd cc
trial_was (Ok (proxy level)) s part e = absurd cc
trial_was (Ok (check other)) s part e = absurd cc
trial_was (Ok (frames top)) s part e = absurd cc
trial_was (Ok (weave video)) s part e = absurd cc
trial_was (Ok (split video)) s part e = absurd cc
trial_was (Ok (cut other)) s part e = absurd cc
trial_was (Err fault) s part e = absurd cc

-- fields pass the last rule as they are
weave_was : (read : Result AskedCommand WordFault) (video : FieldVideo) → checked read ≡ Ok (weave video) → read ≡ Ok (weave video)
weave_was (Ok (encode s)) video e = let was = steep_or s (encode s) (weave video) e in absurd (let w : encode s ≡ weave video = was.0 in cc)
weave_was (Ok (trial s part)) video e = let was = steep_or s (trial s part) (weave video) e in absurd (let w : trial s part ≡ weave video = was.0 in cc)
weave_was (Ok chain) video e = e
weave_was (Ok header) video e = e
weave_was (Ok decode) video e = e
weave_was (Ok (proxy level)) video e = e
weave_was (Ok (check other)) video e = e
weave_was (Ok (frames top)) video e = e
weave_was (Ok (weave other)) video e = e
weave_was (Ok (split other)) video e = e
weave_was (Ok (cut other)) video e = e
weave_was (Err fault) video e = e

split_was : (read : Result AskedCommand WordFault) (video : FieldVideo) → checked read ≡ Ok (split video) → read ≡ Ok (split video)
split_was (Ok (encode s)) video e = let was = steep_or s (encode s) (split video) e in absurd (let w : encode s ≡ split video = was.0 in cc)
split_was (Ok (trial s part)) video e = let was = steep_or s (trial s part) (split video) e in absurd (let w : trial s part ≡ split video = was.0 in cc)
split_was (Ok chain) video e = e
split_was (Ok header) video e = e
split_was (Ok decode) video e = e
split_was (Ok (proxy level)) video e = e
split_was (Ok (check other)) video e = e
split_was (Ok (frames top)) video e = e
split_was (Ok (weave other)) video e = e
split_was (Ok (split other)) video e = e
split_was (Ok (cut other)) video e = e
split_was (Err fault) video e = e

-- and so do the frames of a cut
cut_was : (read : Result AskedCommand WordFault) (settings : CutSettings) → checked read ≡ Ok (cut settings) → read ≡ Ok (cut settings)
cut_was (Ok (encode s)) settings e = let was = steep_or s (encode s) (cut settings) e in absurd (let w : encode s ≡ cut settings = was.0 in cc)
cut_was (Ok (trial s part)) settings e = let was = steep_or s (trial s part) (cut settings) e in absurd (let w : trial s part ≡ cut settings = was.0 in cc)
cut_was (Ok chain) settings e = e
cut_was (Ok header) settings e = e
cut_was (Ok decode) settings e = e
cut_was (Ok (proxy level)) settings e = e
cut_was (Ok (check other)) settings e = e
cut_was (Ok (frames top)) settings e = e
cut_was (Ok (weave other)) settings e = e
cut_was (Ok (split other)) settings e = e
cut_was (Ok (cut other)) settings e = e
cut_was (Err fault) settings e = e

-- fields that were read are lawful
pub weave_is : (words : List (List ℕ)) (command : Result Command WordFault) (video : FieldVideo) → seen_words command ≡ words_ask words → seen_words command ≡ Ok (weave video) → IsFieldVideo video
weave_is words command video same is = words_say words (weave video) (weave_was (asked_by words) video (sym same ∙ is))

pub split_is : (words : List (List ℕ)) (command : Result Command WordFault) (video : FieldVideo) → seen_words command ≡ words_ask words → seen_words command ≡ Ok (split video) → IsFieldVideo video
split_is words command video same is = words_say words (split video) (split_was (asked_by words) video (sym same ∙ is))

-- a cut that was read is lawful
pub cut_is : (words : List (List ℕ)) (command : Result Command WordFault) (settings : CutSettings) → seen_words command ≡ words_ask words → seen_words command ≡ Ok (cut settings) → IsCutSettings settings
cut_is words command settings same is = words_say words (cut settings) (cut_was (asked_by words) settings (sym same ∙ is))

-- a schedule that was read is lawful
pub schedule_is : (words : List (List ℕ)) (command : Result Command WordFault) (schedule : Schedule) → seen_words command ≡ words_ask words → seen_words command ≡ Ok (check (Some schedule)) → IsSchedule schedule
schedule_is words command schedule same is =
    let one : IsAskedSchedule schedule = words_say words (check (Some schedule)) (check_was (asked_by words) (Some schedule) (sym same ∙ is)) in
    one.schedule

-- settings that were read are lawful, and their matrix is not too steep
pub settings_are : (words : List (List ℕ)) (command : Result Command WordFault) (s : Asked) → seen_words command ≡ words_ask words → seen_words command ≡ Ok (encode s) → AreLawfulWords s × IsSteepOkUnder (written_under s)
settings_are words command s same is =
    let was = encode_was (asked_by words) s (sym same ∙ is) in
    let lawful : AreLawfulWords s = words_say words (encode s) was.0 in
    (lawful, steep_from_ok s lawful.params was.1)

-- a trial that was read is one, and its matrix is not too steep
pub trial_is : (words : List (List ℕ)) (command : Result Command WordFault) (s : Asked) (part : TrialPart) → seen_words command ≡ words_ask words → seen_words command ≡ Ok (trial s part) → IsTrial s part × IsSteepOkUnder (written_under s)
trial_is words command s part same is =
    let was = trial_was (asked_by words) s part (sym same ∙ is) in
    let one : IsTrial s part = words_say words (trial s part) was.0 in
    (one, steep_from_ok s one.settings.params was.1)

-- their fault is the one that was read
pub fault_is : (command : Result Command WordFault) (asked : Result AskedCommand WordFault) (P : WordFault → Type 0) → seen_words command ≡ asked → IfErr command P → IfErr asked P
fault_is (Ok command) asked P same told = subst (λ (r : Result AskedCommand WordFault). IfErr r P) same tt
fault_is (Err fault) asked P same told = subst (λ (r : Result AskedCommand WordFault). IfErr r P) same told

-- ---- the parts

-- what stands, for every input that the source may tell
abbrev pub AllSettled : Result AskedCommand WordFault → Option (List ℕ) → Option (List ℕ) → Option (List ℕ) → Option (List ℕ) → Option (List ℕ) → Option (List ℕ) → Status → Type 0
AllSettled command known rest out0 out1 note0 note1 status = (input : List ℕ) → known ≡ Some input → Settles (command_reply command input) (command_due command) input rest out0 out1 note0 note1 status

-- the same command by another name
pub settled_by : (command other : Result AskedCommand WordFault) (known rest out0 out1 note0 note1 : Option (List ℕ)) (status : Status) → command ≡ other → AllSettled command known rest out0 out1 note0 note1 status → AllSettled other known rest out0 out1 note0 note1 status
settled_by command other known rest out0 out1 note0 note1 status e all = subst (λ (r : Result AskedCommand WordFault). AllSettled r known rest out0 out1 note0 note1 status) e all

at : (command : Result AskedCommand WordFault) (known rest out0 out1 note0 note1 : Option (List ℕ)) (status is : Status) → AllSettled command known rest out0 out1 note0 note1 status → status ≡ is → (input : List ℕ) → known ≡ Some input
    → Settles (command_reply command input) (command_due command) input rest out0 out1 note0 note1 is
at command known rest out0 out1 note0 note1 status is all e input told = subst (λ s. Settles (command_reply command input) (command_due command) input rest out0 out1 note0 note1 s) e (all input told)

status_in : (reply : Reply) (due : List ℕ → List ℕ) (input : List ℕ) (rest out0 out1 note0 note1 : Option (List ℕ)) (status : Status) → Settles reply due input rest out0 out1 note0 note1 status → IsStatusOf reply status
status_in reply due input rest out0 out1 note0 note1 st.Done h = h.0.0
status_in reply due input rest out0 out1 note0 note1 (st.Refused refusal) h = h.0
status_in reply due input rest out0 out1 note0 note1 (st.Schedule fault) h = h.0.0
status_in reply due input rest out0 out1 note0 note1 (st.Usage fault) h = h.0
status_in reply due input rest out0 out1 note0 note1 st.ReadFault h = tt
status_in reply due input rest out0 out1 note0 note1 st.OutFault h = tt
status_in reply due input rest out0 out1 note0 note1 st.NoteFault h = tt
status_in reply due input rest out0 out1 note0 note1 st.NoMemory h = tt

texts_in : (reply : Reply) (due : List ℕ → List ℕ) (input : List ℕ) (rest out0 out1 note0 note1 : Option (List ℕ)) (status : Status) → IsOwn reply.status → Settles reply due input rest out0 out1 note0 note1 status → status ≡ reply.status → Appends out0 out1 reply.out × Appends note0 note1 reply.note
texts_in reply due input rest out0 out1 note0 note1 st.Done is_own h e = (h.0.1, h.0.2)
texts_in reply due input rest out0 out1 note0 note1 (st.Refused refusal) is_own h e = (h.1, h.2)
texts_in reply due input rest out0 out1 note0 note1 (st.Schedule fault) is_own h e = (h.0.1, h.0.2)
texts_in reply due input rest out0 out1 note0 note1 (st.Usage fault) is_own h e = (h.1, h.2)
texts_in reply due input rest out0 out1 note0 note1 st.ReadFault is_own h e = absurd (subst IsOwn (sym e) is_own)
texts_in reply due input rest out0 out1 note0 note1 st.OutFault is_own h e = absurd (subst IsOwn (sym e) is_own)
texts_in reply due input rest out0 out1 note0 note1 st.NoteFault is_own h e = absurd (subst IsOwn (sym e) is_own)
texts_in reply due input rest out0 out1 note0 note1 st.NoMemory is_own h e = absurd (subst IsOwn (sym e) is_own)

-- ---- the clauses of `run`

pub told_status : (command : Result AskedCommand WordFault) (known rest out0 out1 note0 note1 : Option (List ℕ)) (status : Status) → AllSettled command known rest out0 out1 note0 note1 status
    → IfSome known (λ input. IsStatusOf (command_reply command input) status)
told_status command known rest out0 out1 note0 note1 status all =
    if_told known _ (λ input told. status_in (command_reply command input) (command_due command) input rest out0 out1 note0 note1 status (all input told))

pub told_texts : (command : Result AskedCommand WordFault) (known rest out0 out1 note0 note1 : Option (List ℕ)) (status : Status) → AllSettled command known rest out0 out1 note0 note1 status
    → IfSome known (λ input. status ≡ (command_reply command input).status → Appends out0 out1 (command_reply command input).out × Appends note0 note1 (command_reply command input).note)
told_texts command known rest out0 out1 note0 note1 status all =
    if_told known _ (λ input told. texts_in (command_reply command input) (command_due command) input rest out0 out1 note0 note1 status (own command input) (all input told))

left_in : (rest : Option (List ℕ)) (left : List ℕ) → ((more : List ℕ) → rest ≡ Some more → more ≡ left) → IfSome rest (λ more. more ≡ left)
left_in rest left h = if_told rest (λ more. more ≡ left) h

rest_in : (reply : Reply) (due : List ℕ → List ℕ) (input : List ℕ) (rest out0 out1 note0 note1 : Option (List ℕ)) (status : Status) → ReadsAll status → Settles reply due input rest out0 out1 note0 note1 status
    → (more : List ℕ) → rest ≡ Some more → more ≡ reply.rest
rest_in reply due input rest out0 out1 note0 note1 st.Done reads h = h.1
rest_in reply due input rest out0 out1 note0 note1 (st.Schedule fault) reads h = h.1
rest_in reply due input rest out0 out1 note0 note1 (st.Refused refusal) reads h = absurd reads
rest_in reply due input rest out0 out1 note0 note1 (st.Usage fault) reads h = absurd reads
rest_in reply due input rest out0 out1 note0 note1 st.ReadFault reads h = absurd reads
rest_in reply due input rest out0 out1 note0 note1 st.OutFault reads h = absurd reads
rest_in reply due input rest out0 out1 note0 note1 st.NoteFault reads h = absurd reads
rest_in reply due input rest out0 out1 note0 note1 st.NoMemory reads h = absurd reads

pub told_done : (command : Result AskedCommand WordFault) (known rest out0 out1 note0 note1 : Option (List ℕ)) (status : Status) → AllSettled command known rest out0 out1 note0 note1 status
    → IfSome known (λ input. ReadsAll status → IfSome rest (λ left. left ≡ (command_reply command input).rest))
told_done command known rest out0 out1 note0 note1 status all =
    if_told known _ (λ input told reads. left_in rest (command_reply command input).rest (rest_in (command_reply command input) (command_due command) input rest out0 out1 note0 note1 status reads (all input told)))

pub told_read_fault : (command : Result AskedCommand WordFault) (known rest out0 out1 note0 note1 : Option (List ℕ)) (status : Status) → AllSettled command known rest out0 out1 note0 note1 status
    → IfSome known (λ input. status ≡ st.ReadFault → Breaks (command_due command) input rest out0 out1 × Keeps note0 note1)
told_read_fault command known rest out0 out1 note0 note1 status all = if_told known _ (λ input told is. at command known rest out0 out1 note0 note1 status st.ReadFault all is input told)

pub told_out_fault : (command : Result AskedCommand WordFault) (known rest out0 out1 note0 note1 : Option (List ℕ)) (status : Status) → AllSettled command known rest out0 out1 note0 note1 status
    → IfSome known (λ input. status ≡ st.OutFault → StopsShort (command_reply command input) (command_due command) input rest out0 out1 × Keeps note0 note1)
told_out_fault command known rest out0 out1 note0 note1 status all = if_told known _ (λ input told is. at command known rest out0 out1 note0 note1 status st.OutFault all is input told)

pub told_no_memory : (command : Result AskedCommand WordFault) (known rest out0 out1 note0 note1 : Option (List ℕ)) (status : Status) → AllSettled command known rest out0 out1 note0 note1 status
    → IfSome known (λ input. status ≡ st.NoMemory → Stops (command_reply command input) (command_due command) input rest out0 out1 × Keeps note0 note1)
told_no_memory command known rest out0 out1 note0 note1 status all = if_told known _ (λ input told is. at command known rest out0 out1 note0 note1 status st.NoMemory all is input told)

pub told_note_fault : (command : Result AskedCommand WordFault) (known rest out0 out1 note0 note1 : Option (List ℕ)) (status : Status) → AllSettled command known rest out0 out1 note0 note1 status
    → IfSome known (λ input. status ≡ st.NoteFault → Appends out0 out1 (command_reply command input).out × GrewShort note0 note1 (command_reply command input).note)
told_note_fault command known rest out0 out1 note0 note1 status all = if_told known _ (λ input told is. at command known rest out0 out1 note0 note1 status st.NoteFault all is input told)
