use Rattle.std.proofs.Common.{◌≡◌, sym, ◌∙◌, arith}
use Rattle.std.proofs.lemmas.Grind.{common_steps}
use Rattle.std.specs.Prelude.{Ok, Err}
use Rattle.parse_info.specs.declared.InfoFault.TheVariants.{PrefixShort, BadPrefix, CodeShort, UnsupportedCode, NextShort, PreviousShort}
use Rattle.parse_info.proofs.HeadSteps.{info_at-steps, plain_steps}
use Rattle.parse_info.proofs.ParseInfo.read.Goals as goal

pub returns-in_default-clause-found : goal.returns-in_default-clause-found
returns-in_default-clause-found c =
    let bytes = c.args.head.now in
    let steps : Err PrefixShort ≡ plain_steps bytes = grind (arith, common_steps) in
    steps ∙ sym (info_at-steps bytes (λ i. omega (arith, c.type_inv.head i)))

pub returns-then-from_be_bytes-ne-PREFIX-clause-found : goal.returns-then-from_be_bytes-ne-PREFIX-clause-found
returns-then-from_be_bytes-ne-PREFIX-clause-found c =
    let bytes = c.args.head.now in
    let steps : Err BadPrefix ≡ plain_steps bytes = grind (arith, common_steps) in
    steps ∙ sym (info_at-steps bytes (λ i. omega (arith, c.type_inv.head i)))

pub returns-in_default-split_first-clause-found : goal.returns-in_default-split_first-clause-found
returns-in_default-split_first-clause-found c =
    let bytes = c.args.head.now in
    let steps : Err CodeShort ≡ plain_steps bytes = grind (arith, common_steps) in
    steps ∙ sym (info_at-steps bytes (λ i. omega (arith, c.type_inv.head i)))

pub returns-in_default-of_byte-clause-found : goal.returns-in_default-of_byte-clause-found
returns-in_default-of_byte-clause-found c =
    let bytes = c.args.head.now in
    let steps : Err (UnsupportedCode c.in-Some-split_first.byte.now) ≡ plain_steps bytes = grind (arith, common_steps) in
    steps ∙ sym (info_at-steps bytes (λ i. omega (arith, c.type_inv.head i)))

pub returns-in_default-split_first_chunk-clause-found : goal.returns-in_default-split_first_chunk-clause-found
returns-in_default-split_first_chunk-clause-found c =
    let bytes = c.args.head.now in
    let steps : Err (NextShort c.in-Some-of_byte.code) ≡ plain_steps bytes = grind (arith, common_steps) in
    steps ∙ sym (info_at-steps bytes (λ i. omega (arith, c.type_inv.head i)))

pub returns-in_default-split_first_chunk-2-clause-found : goal.returns-in_default-split_first_chunk-2-clause-found
returns-in_default-split_first_chunk-2-clause-found c =
    let bytes = c.args.head.now in
    let steps : Err (PreviousShort c.in-Some-of_byte.code c.from_be_bytes-next.result) ≡ plain_steps bytes = grind (arith, common_steps) in
    steps ∙ sym (info_at-steps bytes (λ i. omega (arith, c.type_inv.head i)))

pub returns-clause-found : goal.returns-clause-found
returns-clause-found c =
    let bytes = c.args.head.now in
    let steps : Ok (record { code = c.in-Some-of_byte.code; next = c.from_be_bytes-next.result; previous = c.from_be_bytes-previous.result }) ≡ plain_steps bytes = grind (arith, common_steps) in
    steps ∙ sym (info_at-steps bytes (λ i. omega (arith, c.type_inv.head i)))
