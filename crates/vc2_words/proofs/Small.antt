-- The numbers of values are small, so that `small` changes none of them.
use Rattle.std.proofs.Common.{◌≡◌, ℕ, zero, suc, ◌≤◌, ◌^◌, true, false, List, [], ◌∷◌, Some, None, length, refl, sym, ap, ◌∙◌, subst, arith}
use Rattle.std.specs.Prelude.{Option, Bool, slice_index, ◌==◌, if◌then◌else◌, codes, get_or, set}
use Rattle.std.specs.Str.{bytes_eq}
use Rattle.std.specs.List.{AllByRecursion}
use Rattle.vc2_words.specs.declared.keys.TheConstants.{KEY_COUNT}
use Rattle.vc2_words.specs.declared.keys.Key.{Key}
use Rattle.vc2_words.specs.declared.keys.Key.TheVariants as of_key
use Rattle.vc2_words.specs.Forms as Forms
use Rattle.vc2_words.specs.Forms.{greatest_number, slash, cross, comma, value_in, cut_at, number_of_digits, number_at_least, in_range, single, both_parts, more, exactly, list_in, list_behind, signal_at}
use Rattle.vc2_words.specs.Fits.{bound_of, IsFit, IsFitValue}
use Rattle.vc2_words.proofs.Given.{IsTableRead}
use Rattle.vc2_words.specs.Keys.{place_of}
use Rattle.std.proofs.lemmas.Bool.{eqb-true, eq-eqb, false≢true}
use Rattle.std.proofs.lemmas.List.{get_or-set_same, get_or-set_other, length-set, get_or-replicate}
use Rattle.vc2_words.specs.Operands.{Table, value_of, nothing, with_value}
use Rattle.vc2_words.specs.Settings.{number_of}
use Rattle.vc2_words.proofs.Plainness.{single_is, range_is, pair_is, three, two, some_same, none_some, same_key, in_table}

abbrev pub AreUpTo : ℕ → List ℕ → Type 0
AreUpTo bound ns = AllByRecursion (λ (n : ℕ). n ≤ bound) ns

abbrev pub AreSmall : List ℕ → Type 0
AreSmall ns = AreUpTo greatest_number ns

one_up_to : (bound : ℕ) (r : Option ℕ) (ns : List ℕ) → ((n : ℕ) → r ≡ Some n → n ≤ bound) → single r ≡ Some ns → AreUpTo bound ns
one_up_to bound r ns low e =
    let one = single_is r ns e in
    rw one.2 (low one.0 one.1, tt)

one_small : (r : Option ℕ) (ns : List ℕ) → ((n : ℕ) → r ≡ Some n → n ≤ greatest_number) → single r ≡ Some ns → AreSmall ns
one_small r ns low e = one_up_to greatest_number r ns low e

range_up_to : (low high : ℕ) (text ns : List ℕ) → single (in_range low high (number_of_digits text)) ≡ Some ns → AreUpTo high ns
range_up_to low high text ns e = one_up_to high (in_range low high (number_of_digits text)) ns (λ n is. (range_is low high (number_of_digits text) n is).1) e

range_small : (low high : ℕ) (text ns : List ℕ) → high ≤ greatest_number → single (in_range low high (number_of_digits text)) ≡ Some ns → AreSmall ns
range_small low high text ns top e = one_small (in_range low high (number_of_digits text)) ns (λ n is. let range = range_is low high (number_of_digits text) n is in omega (arith, top, range.1)) e

pair_small : (low : ℕ) (p : Option (List ℕ × List ℕ)) (ns : List ℕ) → both_parts low p ≡ Some ns → AreSmall ns
pair_small low p ns e =
    let pair = pair_is low p ns e in
    rw pair.2 (pair.4, (pair.6, tt))

more_small : (x : Option ℕ) (r : Option (List ℕ)) (ns : List ℕ) → ((n : ℕ) → x ≡ Some n → n ≤ greatest_number) → ((l : List ℕ) → r ≡ Some l → AreSmall l) → more x r ≡ Some ns → AreSmall ns
more_small None r ns low others e = none_some e
more_small (Some n) None ns low others e = none_some e
more_small (Some n) (Some l) ns low others e = subst (λ (k : List ℕ). AreSmall k) (some_same e) (low n refl, others l refl)

from_small : (text : List ℕ) (n : ℕ) → number_at_least 0 text ≡ Some n → n ≤ greatest_number
from_small text n is = (range_is 0 greatest_number (number_of_digits text) n is).1

list_small : (most : ℕ) (text ns : List ℕ) → list_in most text ≡ Some ns → AreSmall ns
list_small zero text ns e = none_some e
list_small (suc most) text ns e = here (λ t l is. list_small most t l is) (cut_at comma text) e
  where
    here : ((t l : List ℕ) → list_in most t ≡ Some l → AreSmall l) → (p : Option (List ℕ × List ℕ)) → list_behind (list_in most) text p ≡ Some ns → AreSmall ns
    here others None e = one_small (number_at_least 0 text) ns (from_small text) e
    here others (Some p) e = more_small (number_at_least 0 p.0) (list_in most p.1) ns (from_small p.0) (others p.1) e

exactly_small : (count : ℕ) (r : Option (List ℕ)) (ns : List ℕ) → ((l : List ℕ) → r ≡ Some l → AreSmall l) → exactly count r ≡ Some ns → AreSmall ns
exactly_small count None ns low e = none_some e
exactly_small count (Some l) ns low e = here (length l == count) e
  where
    here : (t : Bool) → (if t then Some l else None) ≡ Some ns → AreSmall ns
    here false e = none_some e
    here true e = subst (λ (k : List ℕ). AreSmall k) (some_same e) (low l refl)

signal_small : (text ns : List ℕ) (p : Option (List ℕ × List ℕ)) → signal_at text p ≡ Some ns → AreSmall ns
signal_small text ns None e = range_small 1 4 text ns (omega arith) e
signal_small text ns (Some p) e = exactly_small 4 (list_in 4 text) ns (λ l is. list_small 4 text l is) e

pub value_small : (key : Key) (text ns : List ℕ) → value_in key text ≡ Some ns → AreUpTo (bound_of key) ns
value_small of_key.Size text ns e = pair_small 0 (cut_at cross text) ns e
value_small of_key.Sampling text ns e =
    one_small (Forms.sampling text) ns (λ n is. let low = three (bytes_eq text (codes "444")) (bytes_eq text (codes "422")) (bytes_eq text (codes "420")) n is in omega (arith, low)) e
value_small of_key.Fps text ns e = pair_small 1 (cut_at slash text) ns e
value_small of_key.Signal text ns e = signal_small text ns (cut_at comma text) e
value_small of_key.Wavelet text ns e =
    one_small (Forms.wavelet text) ns (λ n is. let low = three (bytes_eq text (codes "legall")) (bytes_eq text (codes "haar-flat")) (bytes_eq text (codes "haar-shift")) n is in omega (arith, low)) e
value_small of_key.Depth text ns e = range_small 0 greatest_number text ns (omega arith) e
value_small of_key.Slices text ns e = pair_small 0 (cut_at cross text) ns e
value_small of_key.Bytes text ns e = pair_small 0 (cut_at slash text) ns e
value_small of_key.Matrix text ns e = list_small 13 text ns e
value_small of_key.Scan text ns e = range_small 0 1 text ns (omega arith) e
value_small of_key.Fields text ns e = one_small (Forms.yes_or_no text) ns (λ n is. let low = two (bytes_eq text (codes "no")) (bytes_eq text (codes "yes")) n is in omega (arith, low)) e
value_small of_key.First text ns e = range_small 0 greatest_number text ns (omega arith) e
value_small of_key.Rate text ns e = pair_small 1 (cut_at slash text) ns e
value_small of_key.Delay text ns e = range_up_to 0 (2 ^ 72) text ns e
value_small of_key.Buffer text ns e = range_up_to 0 (2 ^ 40) text ns e
value_small of_key.Seed text ns e = range_small 0 65535 text ns (omega arith) e
value_small of_key.Pictures text ns e = range_small 1 1000 text ns (omega arith) e
value_small of_key.Group text ns e = range_small 1 greatest_number text ns (omega arith) e
value_small of_key.Idle text ns e = range_up_to 0 (2 ^ 20) text ns e
value_small of_key.Order text ns e = one_small (Forms.top_or_bottom text) ns (λ n is. let low = two (bytes_eq text (codes "bottom")) (bytes_eq text (codes "top")) n is in omega (arith, low)) e
value_small of_key.From text ns e = range_small 0 greatest_number text ns (omega arith) e
value_small of_key.To text ns e = range_small 0 greatest_number text ns (omega arith) e
value_small of_key.Level text ns e = range_small 0 4 text ns (omega arith) e

index_up_to : (bound : ℕ) (ns : List ℕ) (i : ℕ) → AreUpTo bound ns → slice_index ns i ≤ bound
index_up_to bound [] i low = omega arith
index_up_to bound (n ∷ ns) zero low = low.0
index_up_to bound (n ∷ ns) (suc i) low = index_up_to bound ns i low.1

pub given_small : (given : Table) (key : Key) (ns : List ℕ) → IsTableRead given → value_of given key ≡ Some ns → AreUpTo (bound_of key) ns
given_small given key ns read is =
    let value = read.read key ns is in
    value_small key value.text ns value.reads

pub number_small : (given : Table) (key : Key) (i : ℕ) → IsTableRead given → number_of (value_of given key) i ≤ bound_of key
number_small given key i read = here (value_of given key) refl
  where
    here : (v : Option (List ℕ)) → value_of given key ≡ v → number_of v i ≤ bound_of key
    here None is = omega arith
    here (Some ns) is = index_up_to (bound_of key) ns i (given_small given key ns read is)

pub number_fit : (given : Table) (key : Key) (i : ℕ) → IsFit given → number_of (value_of given key) i ≤ bound_of key
number_fit given key i fit = here (value_of given key) refl
  where
    here : (v : Option (List ℕ)) → value_of given key ≡ v → number_of v i ≤ bound_of key
    here None is = omega arith
    here (Some ns) is = fit.fits key ns i is

pub value_fit : (key : Key) (text ns : List ℕ) → value_in key text ≡ Some ns → IsFitValue key ns
value_fit key text ns e = λ i. index_up_to (bound_of key) ns i (value_small key text ns e)

pub nothing_fit : IsFit nothing
nothing_fit = record {
  fits = λ key ns i e. none_some (sym (get_or-replicate KEY_COUNT (place_of key) None None (in_table key)) ∙ e);
  many = refl;
}

pub put_fit : (given : Table) (key : Key) (ns : List ℕ) → IsFit given → IsFitValue key ns → IsFit (with_value given key ns)
put_fit given key ns old new = record {
  fits = λ other found i e. here other found i e (place_of other == place_of key) refl;
  many = length-set given (place_of key) (Some ns) ∙ old.many;
}
  where
    here : (other : Key) (found : List ℕ) (i : ℕ) → value_of (with_value given key ns) other ≡ Some found → (t : Bool) → (place_of other == place_of key) ≡ t → slice_index found i ≤ bound_of other
    here other found i e true same =
        let place = eqb-true (place_of other) (place_of key) same in
        let one : other ≡ key = same_key other key place in
        let stored : get_or (set given (place_of key) (Some ns)) (place_of key) None ≡ Some ns = get_or-set_same given (place_of key) (Some ns) None (omega (arith, in_table key, old.many)) in
        let is : ns ≡ found = some_same (sym stored ∙ (ap (λ j. get_or (set given (place_of key) (Some ns)) j None) (sym place) ∙ e)) in
        subst (λ (q : Key). slice_index found i ≤ bound_of q) (sym one) (subst (λ (l : List ℕ). slice_index l i ≤ bound_of key) is (new i))
    here other found i e false differ =
        old.fits other found i (sym (get_or-set_other given (place_of key) (place_of other) (Some ns) None (λ q. false≢true (sym differ ∙ eq-eqb (place_of other) (place_of key) q))) ∙ e)
