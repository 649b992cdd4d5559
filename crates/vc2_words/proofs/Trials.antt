-- What a trial asks for beside its settings.
use Rattle.std.proofs.Common.{◌≡◌, ℕ, ◌≤◌, false, List, [], ◌∷◌, Option, Some, None, refl, arith}
use Rattle.std.specs.Prelude.{is_some, not}
use Rattle.std.proofs.lemmas.Bool.{true≢false}
use Rattle.vc2_words.specs.declared.keys.Key.TheVariants as of_key
use Rattle.vc2_words.specs.declared.keys.Name.TheVariants as names
use Rattle.vc2_words.specs.Keys.{all_keys}
use Rattle.vc2_words.specs.Forms.{number_of_digits, in_range, value_in}
use Rattle.vc2_words.specs.Operands.{Table, value_of, has_schedule}
use Rattle.vc2_words.proofs.Given.{IsTableRead}
use Rattle.vc2_words.specs.Settings.{number_of, given_number}
use Rattle.vc2_words.proofs.Plainness.{IsWhole, missing_none, at_most, single_is, range_is}

seed_form : (text ns : List ℕ) → value_in of_key.Seed text ≡ Some ns → (n : ℕ) × (ns ≡ n ∷ []) × (n ≤ 65535)
seed_form text ns e =
    let one = single_is (in_range 0 65535 (number_of_digits text)) ns e in
    (one.0, one.2, (range_is 0 65535 (number_of_digits text) one.0 one.1).1)

pub seed_low : (given : Table) → IsTableRead given → given_number given of_key.Seed 0 ≤ 65535
seed_low given read = at_most given of_key.Seed 65535 (omega arith) seed_form read

pictures_in : (given : Table) → IsTableRead given → not (is_some (value_of given of_key.Pictures)) ≡ false → (1 ≤ given_number given of_key.Pictures 0) × (given_number given of_key.Pictures 0 ≤ 1000)
pictures_in given read some = here (value_of given of_key.Pictures) refl some
  where
    here : (v : Option (List ℕ)) → value_of given of_key.Pictures ≡ v → not (is_some v) ≡ false → (1 ≤ number_of v 0) × (number_of v 0 ≤ 1000)
    here None is some = absurd (true≢false some)
    here (Some ns) is some =
        let value = read.read of_key.Pictures ns is in
        let one = single_is (in_range 1 1000 (number_of_digits value.text)) ns value.reads in
        rw one.2 (range_is 1 1000 (number_of_digits value.text) one.0 one.1)

pub pictures_of : (given : Table) → IsWhole names.Trial given → (1 ≤ given_number given of_key.Pictures 0) × (given_number given of_key.Pictures 0 ≤ 1000)
pictures_of given whole =
    let all = missing_none names.Trial (has_schedule given) given all_keys whole.whole in
    pictures_in given whole.read all.1.1.1.1.1.1.1.1.1.1.1.1.1.1.1.1.0
