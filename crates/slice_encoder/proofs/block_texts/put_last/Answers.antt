use Rattle.std.proofs.Common.{◌≡◌, ◌∙◌, ℕ, Bool, true, List, ◌-◌, ◌%◌, ◌++◌, length, take, replicate, ap, subst, arith}
use Rattle.std.proofs.lemmas.List.{length-take}
use Rattle.bit_codes.specs.Bits.{digits_below}
use Rattle.bit_codes.specs.Codes.{signed_code_of}
use Rattle.bit_codes.proofs.CodeOf.{length-digits_below}
use Rattle.slice_encoder.specs.BitQueues.{IsSent}
use Rattle.slice_encoder.proofs.BlockTexts.{told, room_behind, sent_join}
use Rattle.slice_encoder.proofs.block_texts.put_last.Goals as goal

pub put_ones-requires : goal.put_ones-requires
put_ones-requires c =
    let a = c.args in
    let e = c.single_entry-entry in
    let n : ℕ = e.result % 256 in
    let one = c.put_front-queue in
    let text = digits_below n c.from.result in
    room_behind a.room.now a.queue one.new.room one.result (take a.left text) a.left c.saturating_sub.result c.requires.room one.ensures
    (omega (arith, length-take a.left text, length-digits_below n c.from.result, c.saturating_sub.ensures, c.from-2.ensures))

pub returns : goal.returns
returns c =
    let a = c.args in
    let e = c.single_entry-entry in
    let n : ℕ = e.result % 256 in
    let one = c.put_front-queue in
    let two = c.put_ones in
    let code : digits_below n c.from.result ≡ signed_code_of a.v = ap (digits_below n) c.from.ensures ∙ e.ensures.digits ∙ ap signed_code_of (told a.v c.requires.small) in
    let left : c.saturating_sub.result ≡ a.left - length (signed_code_of a.v) =
    omega (arith, c.saturating_sub.ensures, c.from-2.ensures, length-digits_below n c.from.result, ap (λ (t : List Bool). length t) code)
    in
    subst (λ (s : List Bool). IsSent a.room.now a.queue two.new.room two.result s)
    (ap (λ (t : List Bool). take a.left t ++ replicate c.saturating_sub.result true) code ∙ ap (λ (k : ℕ). take a.left (signed_code_of a.v) ++ replicate k true) left)
    (sent_join a.room.now a.queue one.new.room one.result two.new.room two.result (take a.left (digits_below n c.from.result)) (replicate c.saturating_sub.result true) one.ensures two.ensures)
