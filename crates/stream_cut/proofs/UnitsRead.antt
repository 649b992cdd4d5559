-- What a skimmed unit that stands says of its bytes: read again at another place, its payload makes the same unit.
use Rattle.std.proofs.Common.{◌≡◌, ℕ, zero, suc, ◌+◌, ◌-◌, ◌*◌, ◌^◌, ◌<◌, ◌≤◌, Bool, List, [], ◌∷◌, ◌++◌, length, take, drop, Option, Some, None, Ok, refl, sym, ap, subst, ◌∙◌, append_assoc, append-nil, arith}
use Rattle.std.specs.List.{concat}
use Rattle.std.proofs.lemmas.List.{length-append, length-take, length-drop, drop-drop, take-append-drop, take_at}
use Rattle.bit_codes.specs.Bits.{Cursor, cursor_at}
use Rattle.bit_codes.proofs.BitLemmas.{length-bits}
use Rattle.field_rows.specs.Rows.{Value, bytes_in, Rule, ◌or_else◌, Rows, done, ◌>>=◌, bytes_under, word_under, byte_under, renamed, first_broken, check_at}
use Rattle.field_rows.specs.Standing.{Stand, StandsAt}
use Rattle.field_rows.proofs.Answers.{found_fields}
use Rattle.field_rows.proofs.Pieces.{Stand-along}
use Rattle.std.specs.Prelude.{slice_index}
use Rattle.parse_info.specs.Code.{is_supported, code_in}
use Rattle.std.specs.Int.{w32, from_be_bytes}
use Rattle.parse_info.specs.declared.TheConstants.{HEAD_SIZE}
use Rattle.parse_info.specs.declared.Code.{Code}
use Rattle.parse_info.specs.declared.Code.TheVariants.{SequenceHeader, EndOfSequence, Auxiliary, Padding, LowDelayPicture}
use Rattle.parse_info.specs.declared.ParseInfo.{ParseInfo}
use Rattle.parse_info.specs.Head.{head_rows}
use Rattle.sequence_header.specs.declared.parts.HeaderParts.{HeaderParts}
use Rattle.sequence_header.specs.Header as header
use Rattle.sequence_header.specs.Header.{header_rows}
use Rattle.slice_geometry.specs.Slicing.{slice_count, bytes_before, total_bytes}
use Rattle.slice_geometry.proofs.Shares.{bytes_before-rises, bytes_before-zero}
use Rattle.transform_params.specs.Params as params
use Rattle.transform_params.specs.Params.{Params, params_rows}
use Rattle.run_theory.specs.Grammar.{bytes_at, unit_at}
use Rattle.run_theory.specs.Begun.{Moves}
use Rattle.run_theory.specs.Fronts.{size_to}
use Rattle.run_theory.proofs.Fields.{moves_row}
use Rattle.stream_rows.specs.declared.reason.Reason.{Reason}
use Rattle.stream_rows.specs.declared.reason.Reason.TheVariants as reasons
use Rattle.stream_rows.specs.Units.{Past, First, DataUnit, Sequence, Repeated, Picture, Skipped, End, reason_of, header_reason, transform_reason, code_rules, next_rules, previous_rules, number_rules, next_checked, share, unit_head, first_payload, repeated_payload, skipped_payload, payload_rows}
use Rattle.stream_rows.specs.Units as rows_of
use Rattle.stream_rows.proofs.Groups.{IsGroup, group_moves}
use Rattle.stream_rows.proofs.UnitGroups.{header_group, params_group}
use Rattle.stream_rows.proofs.LongestHeader.{header_most}
use Rattle.stream_rows.proofs.LongestParams.{params_most}
use Rattle.stream_cut.specs.Skim.{skim_slices, skim_picture, skim_payload_of, skim_payload, skim_rows, skim_grammar}
use Rattle.stream_cut.proofs.Fields.{IsBytes, fit_take, fit_drop, byte_field, no_bits, split, others_hold}
use Rattle.stream_cut.proofs.ParamsRead.{AreFew, made, few_in, params_in, header_in}
use Rattle.stream_writer.proofs.EncodedPieces.{moves_then, moves_none, moves_bytes}
use Rattle.stream_writer.proofs.EncodedParts.{moves_checked}
use Rattle.stream_cut.proofs.SkimmedParts.{skims}

-- ---- the head

record HeadRead (z : Past) (bs : List ℕ) (info : ParseInfo) (mid : Cursor) : Type 0 where
  inside : 13 ≤ length bs
  behind : mid ≡ bytes_at (z.place + 13) (drop 13 bs)
  code : first_broken (code_rules z info.code) ≡ None

thirteen : (bytes : List ℕ) → drop 4 (drop 4 (drop 1 (drop 4 bytes))) ≡ drop 13 bytes
thirteen bytes = ap (λ l. drop 4 (drop 4 l)) (drop-drop 1 4 bytes) ∙ ap (drop 4) (drop-drop 4 5 bytes) ∙ drop-drop 4 9 bytes

head_read : (z : Past) (bs : List ℕ) (info : ParseInfo) (vs : List Value) (mid : Cursor) → IsBytes bs → Stand (unit_head z) vs (bytes_at z.place bs) info mid → HeadRead z bs info mid
unfolding unit_head head_rows word_under byte_under ◌>>=◌
head_read z bs info [] mid fits k = absurd k
head_read z bs info (a ∷ []) mid fits k = absurd k.3
head_read z bs info (a ∷ b ∷ []) mid fits k = absurd k.3.3
head_read z bs info (a ∷ b ∷ c ∷ []) mid fits k = absurd k.3.3.3
head_read z bs info (a ∷ b ∷ c ∷ d ∷ e ∷ vs) mid fits k = absurd k.3.3.3.3
head_read z bs info (a ∷ b ∷ c ∷ d ∷ []) mid fits k =
    let one = byte_field 4 z.place bs a k.0 fits k.1 in
    let two = byte_field 1 (z.place + 4) (drop 4 bs) b k.3.0 (fit_drop 4 bs fits) (subst (λ (x : Cursor). StandsAt _ b x k.3.0) one.behind k.3.1) in
    let bs' = drop 1 (drop 4 bs) in
    let three = byte_field 4 (z.place + 4 + 1) bs' c k.3.3.0 (fit_drop 1 (drop 4 bs) (fit_drop 4 bs fits)) (subst (λ (x : Cursor). StandsAt _ c x k.3.3.0) two.behind k.3.3.1) in
    let four = byte_field 4 (z.place + 4 + 1 + 4) (drop 4 bs') d k.3.3.3.0 (fit_drop 4 bs' (fit_drop 1 (drop 4 bs) (fit_drop 4 bs fits))) (subst (λ (x : Cursor). StandsAt _ d x k.3.3.3.0) three.behind k.3.3.3.1) in
    record {
      inside = omega (arith, four.inside, length-drop 4 bs', length-drop 1 (drop 4 bs), length-drop 4 bs);
      behind = sym k.3.3.3.3.1 ∙ four.behind ∙ ap (λ n. bytes_at n (drop 4 (drop 4 bs'))) (omega arith) ∙ ap (bytes_at (z.place + 13)) (thirteen bs);
      code = subst (λ (i : ParseInfo). first_broken (code_rules z i.code) ≡ None) k.3.3.3.3.0 (others_hold (is_supported (slice_index (bytes_in b) 0) or_else reasons.UnsupportedCode (slice_index (bytes_in b) 0)) (code_rules z (code_in (slice_index (bytes_in b) 0))) k.3.2);
    }

-- ---- the check of the next offset, behind which nothing is left

record Closed (unit u : DataUnit) (c behind : Cursor) : Type 0 where
  same : unit ≡ u
  at : c ≡ behind

closes : (z : Past) (next : ℕ) (unit u : DataUnit) (vs : List Value) (c behind : Cursor) → Stand (next_checked z next >>= λ length. done unit) vs c u behind → Closed unit u c behind
unfolding next_checked check_at ◌>>=◌
closes z next unit u [] c behind k = absurd k
closes z next unit u (v ∷ []) c behind k = record { same = k.3.0; at = no_bits v c k.0 k.1 ∙ k.3.1 }
closes z next unit u (v ∷ w ∷ vs) c behind k = absurd k.3

-- ---- a sequence header

-- This payload is that of a header with these parts, wherever it stands.
pub record IsHeader (parts : HeaderParts) (payload : List ℕ) : Type 0 where
  pub most : length payload ≤ 334
  pub moves : (z : Past) → Moves skim_grammar (first_payload z (13 + length payload)) (z.place + 13) payload (done (Sequence parts))

-- ---- a picture

-- This payload is that of a picture of this number, these parameters and slices under a header with these parts, wherever
-- the number may stand.
pub record IsPicture (parts : HeaderParts) (number : ℕ) (p : Params) (slices : List (List ℕ)) (payload : List ℕ) : Type 0 where
  pub most : 13 + length payload < 2 ^ 32
  pub few : AreFew p.slicing
  pub long : total_bytes p.slicing ≤ length payload
  pub moves : (z : Past) → first_broken (number_rules z number) ≡ None
      → Moves skim_grammar (skim_picture z (13 + length payload) parts) (z.place + 13) payload (done (Picture parts number p slices))

-- ---- what is left of a unit's payload and what follows it

-- the payload and what follows it
record Payload (z : Past) (bs : List ℕ) (behind : Cursor) (payload : List ℕ) : Type 0 where
  tail : List ℕ
  parts : bs ≡ payload ++ tail
  at : behind ≡ bytes_at (z.place + 13 + length payload) tail

-- ---- slices

abbrev AreShares : Params → ℕ → List (List ℕ) → Type 0
AreShares p n [] = Unit {0}
AreShares p n (slice ∷ slices) = (length slice ≡ share p n) × IsBytes slice × AreShares p (n + 1) slices

record SlicesRead (p : Params) (left : ℕ) (so_far : List (List ℕ)) (next : List (List ℕ) → Rows Reason DataUnit) (at : ℕ) (bs : List ℕ) (u : DataUnit) (behind : Cursor) : Type 0 where
  more : List (List ℕ)
  count : length more ≡ left
  shares : AreShares p (length so_far) more
  tail : List ℕ
  parts : bs ≡ concat more ++ tail
  fields : List Value
  others : Stand (next (so_far ++ more)) fields (bytes_at (at + length (concat more)) tail) u behind

slices_read : (p : Params) (left : ℕ) (so_far : List (List ℕ)) (next : List (List ℕ) → Rows Reason DataUnit) (vs : List Value) (at : ℕ) (bs : List ℕ) (u : DataUnit) (behind : Cursor) → IsBytes bs
    → Stand (skim_slices p left so_far >>= next) vs (bytes_at at bs) u behind → SlicesRead p left so_far next at bs u behind
unfolding skim_slices bytes_under ◌>>=◌
slices_read p zero so_far next vs at bs u behind fits k = record {
  more = [];
  count = refl;
  shares = tt;
  tail = bs;
  parts = refl;
  fields = vs;
  others = subst (λ n. Stand (next (so_far ++ [])) vs (bytes_at n bs) u behind) (omega arith) (subst (λ l. Stand (next l) vs (bytes_at at bs) u behind) (sym (append-nil so_far)) k);
}
slices_read p (suc left) so_far next [] at bs u behind fits k = absurd k
slices_read p (suc left) so_far next (v ∷ vs) at bs u behind fits k =
    let n = share p (length so_far) in
    let f = byte_field n at bs v k.0 fits k.1 in
    let slice = take n bs in
    let here : bytes_in v ≡ slice = ap bytes_in f.value in
    let long : length slice ≡ n = omega (arith, length-take n bs, f.inside) in
    let rest : Stand (skim_slices p left (so_far ++ slice ∷ []) >>= next) vs (bytes_at (at + n) (drop n bs)) u behind =
    subst (λ (c : Cursor). Stand (skim_slices p left (so_far ++ slice ∷ []) >>= next) vs c u behind) f.behind (subst (λ l. Stand (skim_slices p left (so_far ++ l ∷ []) >>= next) vs k.0 u behind) here k.3) in
    let m = slices_read p left (so_far ++ slice ∷ []) next vs (at + n) (drop n bs) u behind (fit_drop n bs fits) rest in
    record {
      more = slice ∷ m.more;
      count = ap suc m.count;
      shares = (long, fit_take n bs fits, subst (λ k. AreShares p k m.more) (omega (arith, length-append so_far (slice ∷ []))) m.shares);
      tail = m.tail;
      parts = sym (take-append-drop n bs) ∙ ap (λ l. slice ++ l) m.parts ∙ sym (append_assoc slice (concat m.more) m.tail);
      fields = m.fields;
      others = subst (λ l. Stand (next l) m.fields (bytes_at (at + length (slice ++ concat m.more)) m.tail) u behind) (append_assoc so_far (slice ∷ []) m.more)
          (subst (λ k. Stand (next ((so_far ++ slice ∷ []) ++ m.more)) m.fields (bytes_at k m.tail) u behind) (omega (arith, long, length-append slice (concat m.more))) m.others);
    }

-- they are read again
moves_slices : (p : Params) (slices so_far : List (List ℕ)) (next : List (List ℕ) → Rows Reason DataUnit) (at : ℕ) → AreShares p (length so_far) slices → Moves skim_grammar (skim_slices p (length slices) so_far >>= next) at (concat slices) (next (so_far ++ slices))
unfolding skim_slices bytes_under ◌>>=◌
moves_slices p [] so_far next at f = subst (λ l. Moves skim_grammar (next so_far) at [] (next l)) (sym (append-nil so_far)) (moves_none skim_grammar (next so_far) at)
moves_slices p (slice ∷ slices) so_far next at f =
    let longer : length (so_far ++ slice ∷ []) ≡ length so_far + 1 = omega (arith, length-append so_far (slice ∷ [])) in
    let others = moves_slices p slices (so_far ++ slice ∷ []) next (at + length slice) (subst (λ n. AreShares p n slices) (sym longer) f.2) in
    moves_then skim_grammar _ _ _ at (at + length slice) slice (concat slices) refl
    (moves_bytes skim_grammar (share p (length so_far)) (λ bytes. []) (λ slice. skim_slices p (length slices) (so_far ++ slice ∷ []) >>= next) at slice f.0 f.1 refl)
    (subst (λ l. Moves skim_grammar (skim_slices p (length slices) (so_far ++ slice ∷ []) >>= next) (at + length slice) (concat slices) (next l)) (append_assoc so_far (slice ∷ []) slices) others)

-- slices from slice n on have the bytes between
length-slices : (p : Params) (n : ℕ) (slices : List (List ℕ)) → 1 ≤ p.slicing.b → AreShares p n slices → bytes_before p.slicing.a p.slicing.b n + length (concat slices) ≡ bytes_before p.slicing.a p.slicing.b (n + length slices)
length-slices p n [] some s =
    let none : n ≡ n + 0 = omega arith in
    let all : bytes_before p.slicing.a p.slicing.b n ≡ bytes_before p.slicing.a p.slicing.b (n + 0) = ap (λ k. bytes_before p.slicing.a p.slicing.b k) none in
    omega (arith, all)
length-slices p n (slice ∷ slices) some s =
    let rises = bytes_before-rises p.slicing.a p.slicing.b n (n + 1) some (omega arith) in
    let others = length-slices p (n + 1) slices some s.2 in
    let more : n + 1 + length slices ≡ n + length (slice ∷ slices) = omega arith in
    let all : bytes_before p.slicing.a p.slicing.b (n + 1 + length slices) ≡ bytes_before p.slicing.a p.slicing.b (n + length (slice ∷ slices)) = ap (λ k. bytes_before p.slicing.a p.slicing.b k) more in
    omega (arith, rises, s.0, length-append slice (concat slices), others, all)

length-all : (p : Params) (slices : List (List ℕ)) → 1 ≤ p.slicing.b → AreShares p 0 slices → length slices ≡ slice_count p.slicing → length (concat slices) ≡ total_bytes p.slicing
length-all p slices some s count =
    let all = length-slices p 0 slices some s in
    let whole : bytes_before p.slicing.a p.slicing.b (0 + length slices) ≡ total_bytes p.slicing = ap (λ k. bytes_before p.slicing.a p.slicing.b k) (omega (arith, count)) in
    omega (arith, all, whole, bytes_before-zero p.slicing.a p.slicing.b)

-- ---- the payload of a picture

params_of_skim : IsGroup skim_grammar transform_reason params.reason_of params_rows
params_of_skim = record { names = params_group.names; movable = params_group.movable }

header_of_skim : IsGroup skim_grammar header_reason header.reason_of header_rows
header_of_skim = record { names = header_group.names; movable = header_group.movable }

record WordRead (rules : ℕ → List (Rule Reason)) (at : ℕ) (bs : List ℕ) (n : ℕ) (mid : Cursor) : Type 0 where
  inside : 4 ≤ length bs
  number : n ≡ from_be_bytes w32 (take 4 bs)
  behind : mid ≡ bytes_at (at + 4) (drop 4 bs)
  holds : first_broken (rules n) ≡ None

word_read : (rules : ℕ → List (Rule Reason)) (at : ℕ) (bs : List ℕ) (vs : List Value) (n : ℕ) (mid : Cursor) → IsBytes bs → Stand (word_under rules) vs (bytes_at at bs) n mid → WordRead rules at bs n mid
unfolding word_under
word_read rules at bs [] n mid fits k = absurd k
word_read rules at bs (v ∷ w ∷ vs) n mid fits k = absurd k.3
word_read rules at bs (v ∷ []) n mid fits k =
    let f = byte_field 4 at bs v k.0 fits k.1 in
    record {
      inside = f.inside;
      number = sym k.3.0 ∙ ap (λ x. from_be_bytes w32 (bytes_in x)) f.value;
      behind = sym k.3.1 ∙ f.behind;
      holds = subst (λ m. first_broken (rules m) ≡ None) k.3.0 k.2;
    }

-- a payload of these parts
module _ (parts : HeaderParts) (nb pt : List ℕ) (p : Params) (slices : List (List ℕ)) (four : length nb ≡ 4) (fits : IsBytes nb) (shares : AreShares p 0 slices) (count : length slices ≡ slice_count p.slicing) where
  abbrev word : ℕ
  word = from_be_bytes w32 nb

  abbrev all : List ℕ
  all = nb ++ (pt ++ concat slices)

  picture_moves : ((next : Params → Rows Reason DataUnit) (at : ℕ) → Moves skim_grammar (renamed transform_reason params_rows >>= next) at pt (next p)) → (z : Past) → first_broken (number_rules z word) ≡ None → Moves skim_grammar (skim_picture z (13 + length all) parts) (z.place + 13) all (done (Picture parts word p slices))
  unfolding skim_picture word_under ◌>>=◌
  picture_moves group z rule =
      let n = 13 + length all in
      let long : length all ≡ 4 + length pt + length (concat slices) = omega (arith, four, length-append nb (pt ++ concat slices), length-append pt (concat slices)) in
      let unit = Picture parts word p slices in
      let behind_slices : List (List ℕ) → Rows Reason DataUnit = λ slices. next_checked z n >>= λ length. done (Picture parts word p slices) in
      let behind_params : Params → Rows Reason DataUnit = λ q. skim_slices q (slice_count q.slicing) [] >>= λ slices. next_checked z n >>= λ length. done (Picture parts word q slices) in
      let at = z.place + 17 + length pt in
      let checked : Moves skim_grammar (behind_slices slices) (at + length (concat slices)) [] (done unit) = subst (λ m. Moves skim_grammar (behind_slices slices) m [] (done unit)) (omega (arith, long)) (skims (moves_checked z n unit)) in
      let in_slices : Moves skim_grammar (behind_params p) at (concat slices) (behind_slices slices) = subst (λ m. Moves skim_grammar (skim_slices p m [] >>= behind_slices) at (concat slices) (behind_slices slices)) count (moves_slices p slices [] behind_slices at shares) in
      let to_end : Moves skim_grammar (behind_params p) at (concat slices) (done unit) = subst (λ l. Moves skim_grammar (behind_params p) at l (done unit)) (append-nil (concat slices)) (moves_then skim_grammar _ _ _ at _ (concat slices) [] refl in_slices checked) in
      moves_then skim_grammar _ _ _ (z.place + 13) (z.place + 17) nb (pt ++ concat slices) (omega (arith, four))
      (moves_row skim_grammar 4 (λ v. number_rules z (from_be_bytes w32 (bytes_in v))) _ (z.place + 13) nb four fits rule)
      (moves_then skim_grammar _ _ _ (z.place + 17) at pt (concat slices) refl (group behind_params (z.place + 17)) to_end)

record PictureRead (z : Past) (parts : HeaderParts) (bs : List ℕ) (u : DataUnit) (behind : Cursor) : Type 0 where
  number : ℕ
  p : Params
  slices : List (List ℕ)
  payload : List ℕ
  is : Picture parts number p slices ≡ u
  rule : first_broken (number_rules z number) ≡ None
  span : Payload z bs behind payload
  facts : IsPicture parts number p slices payload

picture_read : (z : Past) (next : ℕ) (parts : HeaderParts) (vs : List Value) (bs : List ℕ) (u : DataUnit) (behind : Cursor) → IsBytes bs → Stand (skim_picture z next parts) vs (bytes_at (z.place + 13) bs) u behind → PictureRead z parts bs u behind
unfolding skim_picture
picture_read z next parts vs bs u behind fits k =
    let c = bytes_at (z.place + 13) bs in
    let n = split (word_under (number_rules z)) _ vs c u behind k in
    let w = word_read (number_rules z) (z.place + 13) bs n.fields n.a n.mid fits n.stand in
    let nb = take 4 bs in
    let bs1 = drop 4 bs in
    let number = from_be_bytes w32 nb in
    let closing : ℕ → Params → List (List ℕ) → Rows Reason DataUnit = λ number p slices. next_checked z next >>= λ length. done (Picture parts number p slices) in
    let rest1 : Stand (renamed transform_reason params_rows >>= λ p. skim_slices p (slice_count p.slicing) [] >>= closing number p) n.more (bytes_at (z.place + 13 + 4) bs1) u behind =
    subst (λ (x : Cursor). Stand (renamed transform_reason params_rows >>= λ p. skim_slices p (slice_count p.slicing) [] >>= closing number p) n.more x u behind) w.behind
    (subst (λ m. Stand (renamed transform_reason params_rows >>= λ p. skim_slices p (slice_count p.slicing) [] >>= closing m p) n.more n.mid u behind) w.number n.others) in
    let q = split (renamed transform_reason params_rows) _ n.more (bytes_at (z.place + 13 + 4) bs1) u behind rest1 in
    let g = params_in (z.place + 13 + 4) bs1 q.fields q.a q.mid q.stand in
    let p = q.a in
    let pt = take g.long bs1 in
    let bs2 = drop g.long bs1 in
    let long : length pt ≡ g.long = omega (arith, length-take g.long bs1, g.inside) in
    let rest2 : Stand (skim_slices p (slice_count p.slicing) [] >>= closing number p) q.more (bytes_at (z.place + 13 + 4 + g.long) bs2) u behind = subst (λ (x : Cursor). Stand (skim_slices p (slice_count p.slicing) [] >>= closing number p) q.more x u behind) g.behind q.others in
    let s = slices_read p (slice_count p.slicing) [] (closing number p) q.more (z.place + 13 + 4 + g.long) bs2 u behind (fit_drop g.long bs1 (fit_drop 4 bs fits)) rest2 in
    let done_with = closes z next (Picture parts number p s.more) u s.fields (bytes_at (z.place + 13 + 4 + g.long + length (concat s.more)) s.tail) behind s.others in
    let few = few_in bs1 p (cursor_at bs1 (8 * g.long)) g.read in
    let four : length nb ≡ 4 = omega (arith, length-take 4 bs, w.inside) in
    let payload = nb ++ (pt ++ concat s.more) in
    let size : length payload ≡ 4 + g.long + length (concat s.more) = omega (arith, four, long, length-append nb (pt ++ concat s.more), length-append pt (concat s.more)) in
    let total = length-all p s.more few.some s.shares s.count in
    record {
      number = number;
      p = p;
      slices = s.more;
      payload = payload;
      is = done_with.same;
      rule = subst (λ m. first_broken (number_rules z m) ≡ None) w.number w.holds;
      span = record {
        tail = s.tail;
        parts = sym (take-append-drop 4 bs) ∙ ap (λ l. nb ++ l) (sym (take-append-drop g.long bs1) ∙ ap (λ l. pt ++ l) s.parts ∙ sym (append_assoc pt (concat s.more) s.tail)) ∙ sym (append_assoc nb (pt ++ concat s.more) s.tail);
        at = sym done_with.at ∙ ap (λ m. bytes_at m s.tail) (omega (arith, size));
      };
      facts = record {
        most = omega (arith, size, total, few.total, params_most bs1 p g.long g.read g.inside);
        few = few;
        long = omega (arith, size, total);
        moves = picture_moves parts nb pt p s.more four (fit_take 4 bs fits) s.shares s.count (λ next at. group_moves params_of_skim next at bs1 p g.long g.read g.inside);
      };
    }

-- ---- the payload of a sequence's first header

record HeaderRead (z : Past) (bs : List ℕ) (u : DataUnit) (behind : Cursor) : Type 0 where
  parts : HeaderParts
  payload : List ℕ
  is : Sequence parts ≡ u
  span : Payload z bs behind payload
  facts : IsHeader parts payload

header_read : (z : Past) (next : ℕ) (vs : List Value) (bs : List ℕ) (u : DataUnit) (behind : Cursor) → Stand (first_payload z next) vs (bytes_at (z.place + 13) bs) u behind → HeaderRead z bs u behind
unfolding first_payload
header_read z next vs bs u behind k =
    let h = split (renamed header_reason header_rows) _ vs (bytes_at (z.place + 13) bs) u behind k in
    let g = header_in (z.place + 13) bs h.fields h.a h.mid h.stand in
    let done_with = closes z next (Sequence h.a) u h.more h.mid behind h.others in
    let payload = take g.long bs in
    let long : length payload ≡ g.long = omega (arith, length-take g.long bs, g.inside) in
    record {
      parts = h.a;
      payload = payload;
      is = done_with.same;
      span = record {
        tail = drop g.long bs;
        parts = sym (take-append-drop g.long bs);
        at = sym done_with.at ∙ g.behind ∙ ap (λ m. bytes_at m (drop g.long bs)) (omega (arith, long));
      };
      facts = record {
        most = omega (arith, long, header_most bs h.a g.long g.read g.inside);
        moves = λ z'.
            let n = 13 + length payload in
            let unit = Sequence h.a in
            let behind_parts : HeaderParts → Rows Reason DataUnit = λ parts. next_checked z' n >>= λ length. done (Sequence parts) in
            let checked : Moves skim_grammar (behind_parts h.a) (z'.place + 13 + length payload) [] (done unit) = subst (λ m. Moves skim_grammar (behind_parts h.a) m [] (done unit)) (omega arith) (skims (moves_checked z' n unit)) in
            subst (λ l. Moves skim_grammar (first_payload z' n) (z'.place + 13) l (done unit)) (append-nil payload)
            (moves_then skim_grammar _ _ _ (z'.place + 13) (z'.place + 13 + length payload) payload [] refl (group_moves header_of_skim behind_parts (z'.place + 13) bs h.a g.long g.read g.inside) checked);
      };
    }

-- ---- a unit

-- What a unit that stands says of what is before it and of its payload.
abbrev pub Facts : Past → List ℕ → DataUnit → Type 0
Facts z payload (Sequence parts) = (z.first ≡ None) × IsHeader parts payload
Facts z payload (Picture parts number p slices) = (first : First) × (z.first ≡ Some first) × (first.parts ≡ parts)
    × (first_broken (number_rules z number) ≡ None) × IsPicture parts number p slices payload
Facts z payload End = (first : First) × (z.first ≡ Some first) × (first_broken (code_rules z EndOfSequence) ≡ None)
Facts z payload Repeated = Unit {0}
Facts z payload Skipped = Unit {0}

drop-front : (n : ℕ) (a b : List ℕ) → n ≤ length a → drop n (a ++ b) ≡ drop n a ++ b
drop-front zero a b le = refl
drop-front (suc n) [] b le = absurd (omega arith)
drop-front (suc n) (x ∷ a) b le = drop-front n a b (omega arith)

-- the payload of so many bytes
payload_of : (z : Past) (bs bytes more payload : List ℕ) (behind : Cursor) → 13 ≤ length bs → bs ≡ bytes ++ more → length bytes ≡ size_to bs behind → Payload z (drop 13 bs) behind payload → payload ≡ drop 13 bytes
payload_of z bs bytes more payload behind long parts size s =
    let left : length behind.rest ≡ 8 * length s.tail = ap (λ (c : Cursor). length c.rest) s.at ∙ length-bits s.tail in
    let all : length (drop 13 bs) ≡ length payload + length s.tail = ap (λ (l : List ℕ). length l) s.parts ∙ length-append payload s.tail in
    let many : length bytes ≡ 13 + length payload = omega (arith, size, left, all, length-drop 13 bs, long) in
    let same : payload ++ s.tail ≡ drop 13 bytes ++ more = sym s.parts ∙ ap (drop 13) parts ∙ drop-front 13 bytes more (omega (arith, many)) in
    sym (take_at payload s.tail (length payload) refl) ∙ ap (take (length payload)) same ∙ take_at (drop 13 bytes) more (length payload) (omega (arith, length-drop 13 bytes, many))

made_as : (z : Past) (payload payload' : List ℕ) (u u' : DataUnit) → payload ≡ payload' → u ≡ u' → Facts z payload u → Facts z payload' u'
made_as z payload payload' u u' e k f = subst (λ l. Facts z l u') e (subst (Facts z payload) k f)

-- units that leave nothing to see
bytes_then : (n : ℕ) (rules : List ℕ → List (Rule Reason)) (next : Rows Reason DataUnit) (vs : List Value) (c : Cursor) (u : DataUnit) (behind : Cursor) → Stand (bytes_under n rules >>= λ payload. next) vs c u behind
    → (ws : List Value) × (mid : Cursor) × Stand next ws mid u behind
bytes_then n rules next vs c u behind k = let x = split (bytes_under n rules) _ vs c u behind k in (x.more, x.mid, x.others)

payload_read : (z : Past) (first : First) (next : ℕ) (code : Code) (vs : List Value) (bs : List ℕ) (u : DataUnit) (behind : Cursor) → z.first ≡ Some first → IsBytes bs → 13 ≤ length bs → first_broken (code_rules z code) ≡ None
    → Stand (skim_payload_of z first next code) vs (bytes_at (z.place + 13) (drop 13 bs)) u behind → (bytes more : List ℕ) → bs ≡ bytes ++ more → length bytes ≡ size_to bs behind → Facts z (drop 13 bytes) u
unfolding skim_payload_of rows_of.payload_of repeated_payload skipped_payload
payload_read z first next SequenceHeader vs bs u behind there fits long code k bytes more parts size =
    let b = bytes_then (length first.payload) _ (next_checked z next >>= λ length. done Repeated) vs _ u behind k in
    subst (Facts z (drop 13 bytes)) (closes z next Repeated u b.0 b.1 behind b.2).same tt
payload_read z first next EndOfSequence vs bs u behind there fits long code k bytes more parts size =
    subst (Facts z (drop 13 bytes)) (made Reason End u vs (bytes_at (z.place + 13) (drop 13 bs)) behind k) (first, there, code)
payload_read z first next Auxiliary vs bs u behind there fits long code k bytes more parts size =
    let b = bytes_then (next - HEAD_SIZE) _ (done Skipped) vs _ u behind k in
    subst (Facts z (drop 13 bytes)) (made Reason Skipped u b.0 b.1 behind b.2) tt
payload_read z first next Padding vs bs u behind there fits long code k bytes more parts size =
    let b = bytes_then (next - HEAD_SIZE) _ (done Skipped) vs _ u behind k in
    subst (Facts z (drop 13 bytes)) (made Reason Skipped u b.0 b.1 behind b.2) tt
payload_read z first next LowDelayPicture vs bs u behind there fits long code k bytes more parts size =
    let r = picture_read z next first.parts vs (drop 13 bs) u behind (fit_drop 13 bs fits) k in
    made_as z r.payload (drop 13 bytes) _ u (payload_of z bs bytes more r.payload behind long parts size r.span) r.is (first, there, refl, r.rule, r.facts)

any_payload_read : (z : Past) (first : Option First) (info : ParseInfo) (vs : List Value) (bs : List ℕ) (u : DataUnit) (behind : Cursor) → z.first ≡ first → IsBytes bs → 13 ≤ length bs → first_broken (code_rules z info.code) ≡ None
    → Stand (skim_payload z first info) vs (bytes_at (z.place + 13) (drop 13 bs)) u behind → (bytes more : List ℕ) → bs ≡ bytes ++ more → length bytes ≡ size_to bs behind → Facts z (drop 13 bytes) u
unfolding skim_payload payload_rows
any_payload_read z None info vs bs u behind there fits long code k bytes more parts size =
    let r = header_read z info.next vs (drop 13 bs) u behind k in
    made_as z r.payload (drop 13 bytes) _ u (payload_of z bs bytes more r.payload behind long parts size r.span) r.is (there, r.facts)
any_payload_read z (Some first) info vs bs u behind there fits long code k bytes more parts size =
    payload_read z first info.next info.code vs bs u behind there fits long code k bytes more parts size

pub unit_read : (z : Past) (bs : List ℕ) (u : DataUnit) (behind : Cursor) → IsBytes bs → unit_at skim_grammar z bs ≡ Ok (u, behind) → (bytes more : List ℕ) → bs ≡ bytes ++ more → length bytes ≡ size_to bs behind → Facts z (drop 13 bytes) u
unfolding skim_rows
unit_read z bs u behind fits e bytes more parts size =
    let f = found_fields reason_of (skim_rows z) (bytes_at z.place bs) u behind e in
    let h = split (unit_head z) (skim_payload z z.first) f.0 (bytes_at z.place bs) u behind f.1 in
    let r = head_read z bs h.a h.fields h.mid fits h.stand in
    any_payload_read z z.first h.a h.more bs u behind refl fits r.inside r.code (subst (λ (c : Cursor). Stand (skim_payload z z.first h.a) h.more c u behind) r.behind h.others) bytes more parts size

-- A unit has a whole head.
pub unit_long : (z : Past) (bs : List ℕ) (u : DataUnit) (behind : Cursor) → IsBytes bs → unit_at skim_grammar z bs ≡ Ok (u, behind) → 13 ≤ size_to bs behind
unfolding skim_rows
unit_long z bs u behind fits e =
    let f = found_fields reason_of (skim_rows z) (bytes_at z.place bs) u behind e in
    let h = split (unit_head z) (skim_payload z z.first) f.0 (bytes_at z.place bs) u behind f.1 in
    let r = head_read z bs h.a h.fields h.mid fits h.stand in
    let a = Stand-along (skim_payload z z.first h.a) h.more h.mid u behind h.others in
    omega (arith, r.inside, length-drop 13 bs, length-bits (drop 13 bs), ap (λ (c : Cursor). length c.rest) r.behind, ap (λ (l : List Bool). length l) a.parts, length-append a.text behind.rest)
