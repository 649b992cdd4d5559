-- The bits of a header, group by group.
use Rattle.std.proofs.Common.{◌≡◌, ℕ, ◌+◌, Bool, List, ◌++◌, length, refl, ap, ◌∙◌, arith}
use Rattle.std.proofs.lemmas.List.{length-append}
use Rattle.bit_codes.specs.Codes.{code_of}
use Rattle.field_rows.specs.Rows.{Value}
use Rattle.field_rows.specs.Given.{value_bits}
use Rattle.field_rows.proofs.Written.{written-append}
use Rattle.sequence_header.specs.declared.parts.HeaderParts.{HeaderParts}
use Rattle.sequence_header.specs.HeaderFields.{version_fields, size_fields, sampling_fields, scan_fields, rate_fields, aspect_fields, clean_fields, signal_fields, colour_fields, coding_fields, version_of, frame_size, fields_of}
use Rattle.sequence_header.specs.Bytes.{header_bits}

-- the code of 0 has one bit
pub length-code_of_zero : length (code_of 0) ≡ 1
unfolding code_of
length-code_of_zero = refl

more : (vs ws : List Value) (text : List Bool) → value_bits ws ≡ text → value_bits (vs ++ ws) ≡ value_bits vs ++ text
more vs ws text e = written-append vs ws ∙ ap (λ (t : List Bool). value_bits vs ++ t) e

two : (a b : List Value) → value_bits (a ++ b) ≡ value_bits a ++ value_bits b
two a b = written-append a b

three : (a b c : List Value) → value_bits (a ++ (b ++ c)) ≡ value_bits a ++ (value_bits b ++ value_bits c)
three a b c = more a (b ++ c) (value_bits b ++ value_bits c) (two b c)

four : (a b c d : List Value) → value_bits (a ++ (b ++ (c ++ d))) ≡ value_bits a ++ (value_bits b ++ (value_bits c ++ value_bits d))
four a b c d = more a (b ++ (c ++ d)) (value_bits b ++ (value_bits c ++ value_bits d)) (three b c d)

five : (a b c d e : List Value) → value_bits (a ++ (b ++ (c ++ (d ++ e)))) ≡ value_bits a ++ (value_bits b ++ (value_bits c ++ (value_bits d ++ value_bits e)))
five a b c d e = more a (b ++ (c ++ (d ++ e))) (value_bits b ++ (value_bits c ++ (value_bits d ++ value_bits e))) (four b c d e)

six : (a b c d e f : List Value) → value_bits (a ++ (b ++ (c ++ (d ++ (e ++ f))))) ≡ value_bits a ++ (value_bits b ++ (value_bits c ++ (value_bits d ++ (value_bits e ++ value_bits f))))
six a b c d e f = more a (b ++ (c ++ (d ++ (e ++ f)))) (value_bits b ++ (value_bits c ++ (value_bits d ++ (value_bits e ++ value_bits f)))) (five b c d e f)

seven : (a b c d e f g : List Value) → value_bits (a ++ (b ++ (c ++ (d ++ (e ++ (f ++ g)))))) ≡ value_bits a ++ (value_bits b ++ (value_bits c ++ (value_bits d ++ (value_bits e ++ (value_bits f ++ value_bits g)))))
seven a b c d e f g = more a (b ++ (c ++ (d ++ (e ++ (f ++ g))))) (value_bits b ++ (value_bits c ++ (value_bits d ++ (value_bits e ++ (value_bits f ++ value_bits g))))) (six b c d e f g)

eight : (a b c d e f g h : List Value) → value_bits (a ++ (b ++ (c ++ (d ++ (e ++ (f ++ (g ++ h))))))) ≡ value_bits a ++ (value_bits b ++ (value_bits c ++ (value_bits d ++ (value_bits e ++ (value_bits f ++ (value_bits g ++ value_bits h))))))
eight a b c d e f g h = more a (b ++ (c ++ (d ++ (e ++ (f ++ (g ++ h)))))) (value_bits b ++ (value_bits c ++ (value_bits d ++ (value_bits e ++ (value_bits f ++ (value_bits g ++ value_bits h)))))) (seven b c d e f g h)

nine : (a b c d e f g h i : List Value) → value_bits (a ++ (b ++ (c ++ (d ++ (e ++ (f ++ (g ++ (h ++ i)))))))) ≡ value_bits a ++ (value_bits b ++ (value_bits c ++ (value_bits d ++ (value_bits e ++ (value_bits f ++ (value_bits g ++ (value_bits h ++ value_bits i)))))))
nine a b c d e f g h i = more a (b ++ (c ++ (d ++ (e ++ (f ++ (g ++ (h ++ i))))))) (value_bits b ++ (value_bits c ++ (value_bits d ++ (value_bits e ++ (value_bits f ++ (value_bits g ++ (value_bits h ++ value_bits i))))))) (eight b c d e f g h i)

ten : (a b c d e f g h i j : List Value) → value_bits (a ++ (b ++ (c ++ (d ++ (e ++ (f ++ (g ++ (h ++ (i ++ j))))))))) ≡ value_bits a ++ (value_bits b ++ (value_bits c ++ (value_bits d ++ (value_bits e ++ (value_bits f ++ (value_bits g ++ (value_bits h ++ (value_bits i ++ value_bits j))))))))
ten a b c d e f g h i j = more a (b ++ (c ++ (d ++ (e ++ (f ++ (g ++ (h ++ (i ++ j)))))))) (value_bits b ++ (value_bits c ++ (value_bits d ++ (value_bits e ++ (value_bits f ++ (value_bits g ++ (value_bits h ++ (value_bits i ++ value_bits j)))))))) (nine b c d e f g h i j)

pub header_bits-parts : (p : HeaderParts) → header_bits p ≡
    value_bits (version_fields (version_of p)) ++ (value_bits (size_fields (frame_size p)) ++ (value_bits (sampling_fields p.sampling) ++ (value_bits (scan_fields p.scan) ++ (value_bits (rate_fields p.rate)
    ++ (value_bits (aspect_fields p.aspect) ++ (value_bits (clean_fields p.clean) ++ (value_bits (signal_fields p.signal) ++ (value_bits (colour_fields p.colour) ++ value_bits (coding_fields p.coding)))))))))
unfolding header_bits fields_of
header_bits-parts p = ten (version_fields (version_of p)) (size_fields (frame_size p)) (sampling_fields p.sampling) (scan_fields p.scan) (rate_fields p.rate) (aspect_fields p.aspect) (clean_fields p.clean) (signal_fields p.signal) (colour_fields p.colour) (coding_fields p.coding)

length-more : (a text : List Bool) (n : ℕ) → length text ≡ n → length (a ++ text) ≡ length a + n
length-more a text n e = omega (arith, length-append a text, e)

length-two : (a b : List Bool) → length (a ++ b) ≡ length a + length b
length-two a b = length-append a b

length-three : (a b c : List Bool) → length (a ++ (b ++ c)) ≡ length a + (length b + length c)
length-three a b c = length-more a (b ++ c) (length b + length c) (length-two b c)

length-four : (a b c d : List Bool) → length (a ++ (b ++ (c ++ d))) ≡ length a + (length b + (length c + length d))
length-four a b c d = length-more a (b ++ (c ++ d)) (length b + (length c + length d)) (length-three b c d)

length-five : (a b c d e : List Bool) → length (a ++ (b ++ (c ++ (d ++ e)))) ≡ length a + (length b + (length c + (length d + length e)))
length-five a b c d e = length-more a (b ++ (c ++ (d ++ e))) (length b + (length c + (length d + length e))) (length-four b c d e)

length-six : (a b c d e f : List Bool) → length (a ++ (b ++ (c ++ (d ++ (e ++ f))))) ≡ length a + (length b + (length c + (length d + (length e + length f))))
length-six a b c d e f = length-more a (b ++ (c ++ (d ++ (e ++ f)))) (length b + (length c + (length d + (length e + length f)))) (length-five b c d e f)

length-seven : (a b c d e f g : List Bool) → length (a ++ (b ++ (c ++ (d ++ (e ++ (f ++ g)))))) ≡ length a + (length b + (length c + (length d + (length e + (length f + length g)))))
length-seven a b c d e f g = length-more a (b ++ (c ++ (d ++ (e ++ (f ++ g))))) (length b + (length c + (length d + (length e + (length f + length g))))) (length-six b c d e f g)

length-eight : (a b c d e f g h : List Bool) → length (a ++ (b ++ (c ++ (d ++ (e ++ (f ++ (g ++ h))))))) ≡ length a + (length b + (length c + (length d + (length e + (length f + (length g + length h))))))
length-eight a b c d e f g h = length-more a (b ++ (c ++ (d ++ (e ++ (f ++ (g ++ h)))))) (length b + (length c + (length d + (length e + (length f + (length g + length h)))))) (length-seven b c d e f g h)

length-nine : (a b c d e f g h i : List Bool) → length (a ++ (b ++ (c ++ (d ++ (e ++ (f ++ (g ++ (h ++ i)))))))) ≡ length a + (length b + (length c + (length d + (length e + (length f + (length g + (length h + length i)))))))
length-nine a b c d e f g h i = length-more a (b ++ (c ++ (d ++ (e ++ (f ++ (g ++ (h ++ i))))))) (length b + (length c + (length d + (length e + (length f + (length g + (length h + length i))))))) (length-eight b c d e f g h i)

length-ten : (a b c d e f g h i j : List Bool) → length (a ++ (b ++ (c ++ (d ++ (e ++ (f ++ (g ++ (h ++ (i ++ j))))))))) ≡ length a + (length b + (length c + (length d + (length e + (length f + (length g + (length h + (length i + length j))))))))
length-ten a b c d e f g h i j = length-more a (b ++ (c ++ (d ++ (e ++ (f ++ (g ++ (h ++ (i ++ j)))))))) (length b + (length c + (length d + (length e + (length f + (length g + (length h + (length i + length j)))))))) (length-nine b c d e f g h i j)

pub length-header_bits : (p : HeaderParts) → length (header_bits p) ≡
    length (value_bits (version_fields (version_of p))) + (length (value_bits (size_fields (frame_size p))) + (length (value_bits (sampling_fields p.sampling)) + (length (value_bits (scan_fields p.scan)) + (length (value_bits (rate_fields p.rate))
    + (length (value_bits (aspect_fields p.aspect)) + (length (value_bits (clean_fields p.clean)) + (length (value_bits (signal_fields p.signal)) + (length (value_bits (colour_fields p.colour)) + length (value_bits (coding_fields p.coding))))))))))
length-header_bits p = ap (λ (t : List Bool). length t) (header_bits-parts p) ∙ length-ten (value_bits (version_fields (version_of p))) (value_bits (size_fields (frame_size p))) (value_bits (sampling_fields p.sampling)) (value_bits (scan_fields p.scan)) (value_bits (rate_fields p.rate)) (value_bits (aspect_fields p.aspect)) (value_bits (clean_fields p.clean)) (value_bits (signal_fields p.signal)) (value_bits (colour_fields p.colour)) (value_bits (coding_fields p.coding))

pub ruleset zero_bits = (length-code_of_zero)
