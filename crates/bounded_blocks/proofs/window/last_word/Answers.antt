use Rattle.bounded_blocks.proofs.window.last_word.Goals as goal

pub returns : goal.returns
returns c = record { eight = c.last_bytes.result; has = c.last_bytes.ensures; is = c.from_be_bytes.ensures }
