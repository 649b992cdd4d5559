-- `c.requires` is a tuple here, since the function has a ghost value: some, most, across, down, entries, index, gathered, room, holds, fits.
use Rattle.std.proofs.Common.{◌≡◌, ◌∙◌, ℕ, ◌≤◌, ◌++◌, List, length, take, sym, ap, arith, ℤ}
use Rattle.std.proofs.lemmas.List.{length-take-le}
use Rattle.std.proofs.Math.Seq.{take-append_seam}
use Rattle.bounded_blocks.specs.Writing.{need}
use Rattle.slice_encoder.specs.Buffers.{high_lists, lists_held}
use Rattle.slice_encoder.specs.Choice.{needs_fit, slice_bits}
use Rattle.slice_encoder.specs.Gathering.{gathered_values, gathered_pairs}
use Rattle.slice_encoder.specs.Jobs.{picture_of}
use Rattle.slice_encoder.specs.Trials.{CodedPicture, luma_of, c1_of}
use Rattle.slice_encoder.proofs.CutLists.{handed_room, handed_room_places, front_of_small, handed_on, handed_places, handed_small}
use Rattle.slice_encoder.proofs.GatheredLists.{ends_same, last_end, pieces_are, pairs_are_high}
use Rattle.slice_encoder.proofs.LookLaws.{cut_need, cut_slice}
use Rattle.slice_encoder.proofs.writer.SliceWriter.put.Goals as goal

front : {X : Type 0} (n : ℕ) (xs ys : List X) → n ≡ length xs → take n (xs ++ ys) ≡ xs
front n xs ys e = ap (λ (k : ℕ). take k (xs ++ ys)) e ∙ take-append_seam xs ys

pub list_luma-requires-clause-room : goal.list_luma-requires-clause-room
list_luma-requires-clause-room g c =
    let a = c.args in
    omega (arith, last_end (luma_of (picture_of a.job g.coefficients)) a.found.index a.job.sx a.job.sy a.gathered.now.luma c.requires.1.1.1.1.1.1.0.luma, c.requires.1.1.1.1.1.1.1.0.luma a.job.sx a.job.sy c.requires.1.1.0 c.requires.1.1.1.0, c.deref_mut.ensures.len)

pub list_luma-requires-clause-room_places : goal.list_luma-requires-clause-room_places
list_luma-requires-clause-room_places g c =
    let a = c.args in
    omega (arith, last_end (luma_of (picture_of a.job g.coefficients)) a.found.index a.job.sx a.job.sy a.gathered.now.luma c.requires.1.1.1.1.1.1.0.luma, c.requires.1.1.1.1.1.1.1.0.luma a.job.sx a.job.sy c.requires.1.1.0 c.requires.1.1.1.0, c.requires.1.1.1.1.1.1.1.0.luma_places, c.deref_mut-2.ensures.len)

pub list_colour-requires-clause-ends : goal.list_colour-requires-clause-ends
list_colour-requires-clause-ends g c = λ k le.
    let a = c.args in
    ends_same (picture_of a.job g.coefficients) a.found.index a.job.sx a.job.sy a.gathered.now.c1 a.gathered.now.c2 c.requires.1.1.1.1.1.1.0.c1 c.requires.1.1.1.1.1.1.0.c2 k le

pub list_colour-requires-clause-room : goal.list_colour-requires-clause-room
list_colour-requires-clause-room g c =
    let a = c.args in
    omega (arith, last_end (c1_of (picture_of a.job g.coefficients)) a.found.index a.job.sx a.job.sy a.gathered.now.c1 c.requires.1.1.1.1.1.1.0.c1, c.requires.1.1.1.1.1.1.1.0.colour a.job.sx a.job.sy c.requires.1.1.0 c.requires.1.1.1.0, c.deref_mut-3.ensures.len)

pub list_colour-requires-clause-room_places : goal.list_colour-requires-clause-room_places
list_colour-requires-clause-room_places g c =
    let a = c.args in
    omega (arith, last_end (c1_of (picture_of a.job g.coefficients)) a.found.index a.job.sx a.job.sy a.gathered.now.c1 c.requires.1.1.1.1.1.1.0.c1, c.requires.1.1.1.1.1.1.1.0.colour a.job.sx a.job.sy c.requires.1.1.0 c.requires.1.1.1.0, c.requires.1.1.1.1.1.1.1.0.colour_places, c.deref_mut-4.ensures.len)

pub list_luma-requires-clause-sizes : goal.list_luma-requires-clause-sizes
list_luma-requires-clause-sizes g c =
    let a = c.args in
    omega (arith, last_end (luma_of (picture_of a.job g.coefficients)) a.found.index a.job.sx a.job.sy a.gathered.now.luma c.requires.1.1.1.1.1.1.0.luma, c.requires.1.1.1.1.1.1.1.0.luma a.job.sx a.job.sy c.requires.1.1.0 c.requires.1.1.1.0, c.requires.1.1.1.1.1.1.1.0.luma_sizes)

pub list_luma-requires-clause-count : goal.list_luma-requires-clause-count
list_luma-requires-clause-count g c =
    let a = c.args in
    let high = pieces_are (luma_of (picture_of a.job g.coefficients)) a.found.index a.job.sx a.job.sy a.gathered.now.luma c.requires.1.1.1.1.1.1.0.luma in
    omega (arith, c.requires.1.1.1.1.1.1.1.1.0.luma_look.most, ap (λ (t : List ℤ). length t) high)

pub list_colour-requires-clause-sizes : goal.list_colour-requires-clause-sizes
list_colour-requires-clause-sizes g c =
    let a = c.args in
    omega (arith, last_end (c1_of (picture_of a.job g.coefficients)) a.found.index a.job.sx a.job.sy a.gathered.now.c1 c.requires.1.1.1.1.1.1.0.c1, c.requires.1.1.1.1.1.1.1.0.colour a.job.sx a.job.sy c.requires.1.1.0 c.requires.1.1.1.0, c.requires.1.1.1.1.1.1.1.0.colour_sizes, c.list_luma.ensures.room)

pub list_colour-requires-clause-count : goal.list_colour-requires-clause-count
list_colour-requires-clause-count g c =
    let a = c.args in
    let high = pairs_are_high (picture_of a.job g.coefficients) a.found.index a.job.sx a.job.sy a.gathered.now.c1 a.gathered.now.c2 c.requires.1.1.1.1.1.1.0.c1 c.requires.1.1.1.1.1.1.0.c2 in
    omega (arith, c.requires.1.1.1.1.1.1.1.1.0.colour_look.most, ap (λ (t : List ℤ). length t) high)

pub slice_bounds-luma-end-2 : goal.slice_bounds-luma-end-2
slice_bounds-luma-end-2 g c =
    let a = c.args in
    let last : ℕ = a.found.trying.looks.luma.last in
    let now : c.deref.result.now ≡ c.list_luma.new.out = c.deref.ensures.value ∙ front (a.self.now.luma.len) c.list_luma.new.out _ (omega (arith, c.list_luma.auto.out, c.deref_mut.ensures.len)) in
    let high = pieces_are (luma_of (picture_of a.job g.coefficients)) a.found.index a.job.sx a.job.sy a.gathered.now.luma c.requires.1.1.1.1.1.1.0.luma in
    let few : last ≤ length (gathered_values a.gathered.now.luma a.job.matrix.now a.found.index) = omega (arith, c.requires.1.1.1.1.1.1.1.1.0.luma_look.most, ap (λ (t : List ℤ). length t) high) in
    sym (length-take-le last c.deref.result.now (omega (arith, handed_room c.list_luma.new.out _ c.list_luma.new.places last c.list_luma.ensures.listed c.list_luma.ensures.places few, ap (λ (t : List ℤ). length t) now)))

pub slice_bounds-luma-end-3 : goal.slice_bounds-luma-end-3
slice_bounds-luma-end-3 g c =
    let a = c.args in
    let last : ℕ = a.found.trying.looks.luma.last in
    let now : c.deref-2.result.now ≡ c.list_luma.new.places = c.deref-2.ensures.value ∙ front (a.self.now.luma_places.len) c.list_luma.new.places _ (omega (arith, c.list_luma.auto.places, c.deref_mut-2.ensures.len)) in
    let high = pieces_are (luma_of (picture_of a.job g.coefficients)) a.found.index a.job.sx a.job.sy a.gathered.now.luma c.requires.1.1.1.1.1.1.0.luma in
    let few : last ≤ length (gathered_values a.gathered.now.luma a.job.matrix.now a.found.index) = omega (arith, c.requires.1.1.1.1.1.1.1.1.0.luma_look.most, ap (λ (t : List ℤ). length t) high) in
    sym (length-take-le last c.deref-2.result.now (omega (arith, handed_room_places c.list_luma.new.out _ c.list_luma.new.places last c.list_luma.ensures.listed c.list_luma.ensures.places few, ap (λ (t : List ℕ). length t) now)))

pub slice_bounds-colour-end-2 : goal.slice_bounds-colour-end-2
slice_bounds-colour-end-2 g c =
    let a = c.args in
    let last : ℕ = a.found.trying.looks.colour.last in
    let now : c.deref-3.result.now ≡ c.list_colour.new.out = c.deref-3.ensures.value ∙ front (a.self.now.colour.len) c.list_colour.new.out _ (omega (arith, c.list_colour.auto.out, c.deref_mut-3.ensures.len)) in
    let high = pairs_are_high (picture_of a.job g.coefficients) a.found.index a.job.sx a.job.sy a.gathered.now.c1 a.gathered.now.c2 c.requires.1.1.1.1.1.1.0.c1 c.requires.1.1.1.1.1.1.0.c2 in
    let few : last ≤ length (gathered_pairs a.gathered.now.c1 a.gathered.now.c2 a.job.matrix.now a.found.index) = omega (arith, c.requires.1.1.1.1.1.1.1.1.0.colour_look.most, ap (λ (t : List ℤ). length t) high) in
    sym (length-take-le last c.deref-3.result.now (omega (arith, handed_room c.list_colour.new.out _ c.list_colour.new.places last c.list_colour.ensures.listed c.list_colour.ensures.places few, ap (λ (t : List ℤ). length t) now)))

pub slice_bounds-colour-end-3 : goal.slice_bounds-colour-end-3
slice_bounds-colour-end-3 g c =
    let a = c.args in
    let last : ℕ = a.found.trying.looks.colour.last in
    let now : c.deref-4.result.now ≡ c.list_colour.new.places = c.deref-4.ensures.value ∙ front (a.self.now.colour_places.len) c.list_colour.new.places _ (omega (arith, c.list_colour.auto.places, c.deref_mut-4.ensures.len)) in
    let high = pairs_are_high (picture_of a.job g.coefficients) a.found.index a.job.sx a.job.sy a.gathered.now.c1 a.gathered.now.c2 c.requires.1.1.1.1.1.1.0.c1 c.requires.1.1.1.1.1.1.0.c2 in
    let few : last ≤ length (gathered_pairs a.gathered.now.c1 a.gathered.now.c2 a.job.matrix.now a.found.index) = omega (arith, c.requires.1.1.1.1.1.1.1.1.0.colour_look.most, ap (λ (t : List ℤ). length t) high) in
    sym (length-take-le last c.deref-4.result.now (omega (arith, handed_room_places c.list_colour.new.out _ c.list_colour.new.places last c.list_colour.ensures.listed c.list_colour.ensures.places few, ap (λ (t : List ℕ). length t) now)))

pub put_slice-requires-clause-luma : goal.put_slice-requires-clause-luma
put_slice-requires-clause-luma g c =
    let a = c.args in
    let j : CodedPicture = picture_of a.job g.coefficients in
    let h = c.requires.1.1.1.1.1.1.1.1.0 in
    let now : c.deref.result.now ≡ c.list_luma.new.out = c.deref.ensures.value ∙ front (a.self.now.luma.len) c.list_luma.new.out _ (omega (arith, c.list_luma.auto.out, c.deref_mut.ensures.len)) in
    let luma = handed_on (take a.found.trying.luma a.luma.now) _ _ _ _ a.found.trying.looks.luma.last now c.list_luma.ensures.listed (pieces_are (luma_of j) a.found.index a.job.sx a.job.sy a.gathered.now.luma c.requires.1.1.1.1.1.1.0.luma) in
    let places : c.deref-2.result.now ≡ c.list_luma.new.places = c.deref-2.ensures.value ∙ front (a.self.now.luma_places.len) c.list_luma.new.places _ (omega (arith, c.list_luma.auto.places, c.deref_mut-2.ensures.len)) in
    let high = pieces_are (luma_of j) a.found.index a.job.sx a.job.sy a.gathered.now.luma c.requires.1.1.1.1.1.1.0.luma in
    record {
      lowest = front_of_small (take a.found.trying.luma a.luma.now) (high_lists j a.found.index a.job.sx a.job.sy).luma h.luma_small;
      high = handed_small _ _ _ a.found.trying.looks.luma.last now c.list_luma.ensures.listed c.list_luma.ensures.small;
      places = handed_places _ _ _ _ a.found.trying.looks.luma.last now places c.list_luma.ensures.places;
    }

pub put_slice-requires-clause-colour : goal.put_slice-requires-clause-colour
put_slice-requires-clause-colour g c =
    let a = c.args in
    let j : CodedPicture = picture_of a.job g.coefficients in
    let h = c.requires.1.1.1.1.1.1.1.1.0 in
    let now : c.deref-3.result.now ≡ c.list_colour.new.out = c.deref-3.ensures.value ∙ front (a.self.now.colour.len) c.list_colour.new.out _ (omega (arith, c.list_colour.auto.out, c.deref_mut-3.ensures.len)) in
    let colour = handed_on (take a.found.trying.colour a.colour.now) _ _ _ _ a.found.trying.looks.colour.last now c.list_colour.ensures.listed (pairs_are_high j a.found.index a.job.sx a.job.sy a.gathered.now.c1 a.gathered.now.c2 c.requires.1.1.1.1.1.1.0.c1 c.requires.1.1.1.1.1.1.0.c2) in
    let places : c.deref-4.result.now ≡ c.list_colour.new.places = c.deref-4.ensures.value ∙ front (a.self.now.colour_places.len) c.list_colour.new.places _ (omega (arith, c.list_colour.auto.places, c.deref_mut-4.ensures.len)) in
    let high = pairs_are_high j a.found.index a.job.sx a.job.sy a.gathered.now.c1 a.gathered.now.c2 c.requires.1.1.1.1.1.1.0.c1 c.requires.1.1.1.1.1.1.0.c2 in
    record {
      lowest = front_of_small (take a.found.trying.colour a.colour.now) (high_lists j a.found.index a.job.sx a.job.sy).colour h.colour_small;
      high = handed_small _ _ _ a.found.trying.looks.colour.last now c.list_colour.ensures.listed c.list_colour.ensures.small;
      places = handed_places _ _ _ _ a.found.trying.looks.colour.last now places c.list_colour.ensures.places;
    }

pub put_slice-requires-clause-need : goal.put_slice-requires-clause-need
put_slice-requires-clause-need g c =
    let a = c.args in
    let j : CodedPicture = picture_of a.job g.coefficients in
    let h = c.requires.1.1.1.1.1.1.1.1.0 in
    let now : c.deref.result.now ≡ c.list_luma.new.out = c.deref.ensures.value ∙ front (a.self.now.luma.len) c.list_luma.new.out _ (omega (arith, c.list_luma.auto.out, c.deref_mut.ensures.len)) in
    let luma = handed_on (take a.found.trying.luma a.luma.now) _ _ _ _ a.found.trying.looks.luma.last now c.list_luma.ensures.listed (pieces_are (luma_of j) a.found.index a.job.sx a.job.sy a.gathered.now.luma c.requires.1.1.1.1.1.1.0.luma) in
    h.luma_need ∙ sym (ap need luma ∙ cut_need (take a.found.trying.luma a.luma.now) (high_lists j a.found.index a.job.sx a.job.sy).luma a.found.trying.looks.luma h.luma_look)

pub put_slice-requires-clause-fits : goal.put_slice-requires-clause-fits
put_slice-requires-clause-fits g c =
    let a = c.args in
    let j : CodedPicture = picture_of a.job g.coefficients in
    let h = c.requires.1.1.1.1.1.1.1.1.0 in
    let now : c.deref.result.now ≡ c.list_luma.new.out = c.deref.ensures.value ∙ front (a.self.now.luma.len) c.list_luma.new.out _ (omega (arith, c.list_luma.auto.out, c.deref_mut.ensures.len)) in
    let luma = handed_on (take a.found.trying.luma a.luma.now) _ _ _ _ a.found.trying.looks.luma.last now c.list_luma.ensures.listed (pieces_are (luma_of j) a.found.index a.job.sx a.job.sy a.gathered.now.luma c.requires.1.1.1.1.1.1.0.luma) in
    let now_colour : c.deref-3.result.now ≡ c.list_colour.new.out = c.deref-3.ensures.value ∙ front (a.self.now.colour.len) c.list_colour.new.out _ (omega (arith, c.list_colour.auto.out, c.deref_mut-3.ensures.len)) in
    let colour = handed_on (take a.found.trying.colour a.colour.now) _ _ _ _ a.found.trying.looks.colour.last now_colour c.list_colour.ensures.listed (pairs_are_high j a.found.index a.job.sx a.job.sy a.gathered.now.c1 a.gathered.now.c2 c.requires.1.1.1.1.1.1.0.c1 c.requires.1.1.1.1.1.1.0.c2) in
    let bytes : ℕ = length a.bytes.now in
    let luma_need = ap need luma ∙ cut_need (take a.found.trying.luma a.luma.now) (high_lists j a.found.index a.job.sx a.job.sy).luma a.found.trying.looks.luma h.luma_look in
    let colour_need = ap need colour ∙ cut_need (take a.found.trying.colour a.colour.now) (high_lists j a.found.index a.job.sx a.job.sy).colour a.found.trying.looks.colour h.colour_look in
    ap (λ (n : ℕ). needs_fit bytes n (need (take a.found.trying.colour a.colour.now ++ take a.found.trying.looks.colour.last c.deref-3.result.now))) luma_need
    ∙ ap (λ (n : ℕ). needs_fit bytes (need (lists_held j a.job.sx a.job.sy a.found.index a.found.trying a.luma.now a.colour.now).luma) n) colour_need
    ∙ sym h.fit
    ∙ c.requires.1.1.1.1.1.1.1.1.1

pub returns-clause-bits : goal.returns-clause-bits
returns-clause-bits g c =
    let a = c.args in
    let j : CodedPicture = picture_of a.job g.coefficients in
    let h = c.requires.1.1.1.1.1.1.1.1.0 in
    let now : c.deref.result.now ≡ c.list_luma.new.out = c.deref.ensures.value ∙ front (a.self.now.luma.len) c.list_luma.new.out _ (omega (arith, c.list_luma.auto.out, c.deref_mut.ensures.len)) in
    let luma = handed_on (take a.found.trying.luma a.luma.now) _ _ _ _ a.found.trying.looks.luma.last now c.list_luma.ensures.listed (pieces_are (luma_of j) a.found.index a.job.sx a.job.sy a.gathered.now.luma c.requires.1.1.1.1.1.1.0.luma) in
    let now_colour : c.deref-3.result.now ≡ c.list_colour.new.out = c.deref-3.ensures.value ∙ front (a.self.now.colour.len) c.list_colour.new.out _ (omega (arith, c.list_colour.auto.out, c.deref_mut-3.ensures.len)) in
    let colour = handed_on (take a.found.trying.colour a.colour.now) _ _ _ _ a.found.trying.looks.colour.last now_colour c.list_colour.ensures.listed (pairs_are_high j a.found.index a.job.sx a.job.sy a.gathered.now.c1 a.gathered.now.c2 c.requires.1.1.1.1.1.1.0.c1 c.requires.1.1.1.1.1.1.0.c2) in
    let bytes : ℕ = length a.bytes.now in
    c.put_slice.ensures
    ∙ ap (λ (t : List ℤ). slice_bits bytes a.found.index (record { luma = t; colour = take a.found.trying.colour a.colour.now ++ take a.found.trying.looks.colour.last c.deref-3.result.now })) luma
    ∙ ap (λ (t : List ℤ). slice_bits bytes a.found.index (record { luma = take a.found.trying.luma a.luma.now ++ take a.found.trying.looks.luma.last (high_lists j a.found.index a.job.sx a.job.sy).luma; colour = t })) colour
    ∙ cut_slice bytes a.found.index (take a.found.trying.luma a.luma.now) (high_lists j a.found.index a.job.sx a.job.sy).luma (take a.found.trying.colour a.colour.now) (high_lists j a.found.index a.job.sx a.job.sy).colour a.found.trying.looks.luma a.found.trying.looks.colour h.luma_look h.colour_look
