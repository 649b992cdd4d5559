-- The front of a list and of its places in the table of pairs.
use Rattle.std.proofs.Common.{◌≡◌, ◌∙◌, sym, ap, subst, ℕ, ◌≤◌, List, ◌++◌, length, take, arith, ℤ}
use Rattle.std.proofs.lemmas.List.{length-take, length-map, take-map}
use Rattle.std.proofs.lemmas.List.Elements.{All-take}
use Rattle.std.specs.List.{All}
use Rattle.std.proofs.Math.Seq.{take-append_seam}
use Rattle.bounded_blocks.specs.Parts.{IsSmall}
use Rattle.slice_encoder.specs.BlockValues.{IsIn32}
use Rattle.slice_encoder.specs.CodeTables.{place_of, places_of_values}
use Rattle.slice_encoder.specs.TrialLaws.{AreSmallValues}
use Rattle.slice_encoder.proofs.QueueBits.{shorter}

module _ (out all : List ℤ) (places : List ℕ) (count last : ℕ) (listed : take count out ≡ all) (placed : take count places ≡ places_of_values all) (few : last ≤ length all) where
  within : last ≤ count
  within = omega (arith, ap (λ (t : List ℤ). length t) listed, length-take count out, few)

  pub short_list : take last out ≡ take last all
  short_list = sym (shorter last count out within) ∙ ap (take last) listed

  pub short_places : take last places ≡ places_of_values (take last out)
  short_places = sym (shorter last count places within) ∙ ap (take last) placed ∙ take-map place_of last all ∙ sym (ap places_of_values short_list)

-- the values in front of others
pub front_of_small : (front behind : List ℤ) → AreSmallValues (front ++ behind) → AreSmallValues front
front_of_small front behind small = subst AreSmallValues (take-append_seam front behind) (All-take IsSmall (length front) (front ++ behind) small)

-- What is handed on of a list of which the front is known, behind the values in front.
module _ (out all : List ℤ) (places : List ℕ) (last : ℕ) (listed : take last out ≡ take last all) (placed : take last places ≡ places_of_values (take last out)) (few : last ≤ length all) where
  pub handed_room : last ≤ length out
  handed_room = omega (arith, few, ap (λ (t : List ℤ). length t) listed, length-take last out, length-take last all)

  pub handed_room_places : last ≤ length places
  handed_room_places = omega (arith, handed_room, ap (λ (t : List ℕ). length t) placed, length-take last places, length-map (take last out) place_of, length-take last out)

pub handed_on : (front out shown all high : List ℤ) (last : ℕ) → shown ≡ out → take last out ≡ take last all → all ≡ high → front ++ take last shown ≡ front ++ take last high
handed_on front out shown all high last shown_is listed all_is = ap (λ (t : List ℤ). front ++ t) (ap (take last) shown_is ∙ listed ∙ ap (take last) all_is)

pub handed_places : (out shown : List ℤ) (places shown_places : List ℕ) (last : ℕ) → shown ≡ out → shown_places ≡ places → take last places ≡ places_of_values (take last out) → take last shown_places ≡ places_of_values (take last shown)
handed_places out shown places shown_places last shown_is places_is placed = ap (take last) places_is ∙ placed ∙ sym (ap (λ (t : List ℤ). places_of_values (take last t)) shown_is)

pub handed_small : (out shown all : List ℤ) (last : ℕ) → shown ≡ out → take last out ≡ take last all → All IsIn32 all → All IsIn32 (take last shown)
handed_small out shown all last shown_is listed small = subst (All IsIn32) (sym (ap (take last) shown_is ∙ listed)) (All-take IsIn32 last all small)
