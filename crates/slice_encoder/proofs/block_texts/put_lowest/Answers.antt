use Rattle.std.proofs.Common.{◌≡◌, ◌∙◌, ℤ, length, get_or, subst, sym, pos, to_z, of_z, w64}
use Rattle.std.proofs.lemmas.List.Elements.{All-get_or}
use Rattle.bit_codes.specs.Codes.{signed_code_of}
use Rattle.bounded_blocks.specs.Parts.{IsSmall}
use Rattle.slice_encoder.specs.BitQueues.{HasRoom, IsSent}
use Rattle.slice_encoder.proofs.BlockTexts.{told, room_one, sent_one}
use Rattle.slice_encoder.proofs.block_texts.put_lowest.Goals as goal

pub put_value-queue-requires-clause-room : goal.put_value-queue-requires-clause-room
put_value-queue-requires-clause-room c =
    let a = c.args in
    let l = c.loop-k in
    let vs = a.values.now in
    let lt = c.loop-k-test.true in
    let v = get_or vs l.k (pos 0) in
    let is : v ≡ to_z w64 (of_z w64 v) = sym (told v (All-get_or IsSmall vs l.k (pos 0) lt c.requires.small)) in
    subst (λ (z : ℤ). HasRoom (length l.room) l.queue (length (signed_code_of z))) is (room_one vs l.k a.room.now a.queue l.room l.queue l.invariant.sent lt c.requires.room)

pub loop-k-preserved : goal.loop-k-preserved
loop-k-preserved c =
    let a = c.args in
    let l = c.loop-k in
    let vs = a.values.now in
    let lt = c.loop-k-test.true in
    let v = get_or vs l.k (pos 0) in
    let put = c.put_value-queue in
    let is : to_z w64 (of_z w64 v) ≡ v = told v (All-get_or IsSmall vs l.k (pos 0) lt c.requires.small) in
    record {
      same_length = put.ensures.same_length ∙ l.invariant.same_length;
      sent = sent_one vs l.k a.room.now a.queue l.room l.queue l.invariant.sent lt put.new.room put.result (subst (λ (z : ℤ). IsSent l.room l.queue put.new.room put.result (signed_code_of z)) is put.ensures);
    }
