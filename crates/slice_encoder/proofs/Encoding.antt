-- A slice that was encoded, after the slices before it.
use Rattle.std.proofs.Common.{◌≡◌, ◌∙◌, ℕ, List, ◌++◌, Bool, ℤ, length, take, sym, ap, subst}
use Rattle.planes.specs.declared.ThreePlanes.{ThreePlanes}
use Rattle.bounded_blocks.specs.Writing.{need}
use Rattle.slice_geometry.specs.declared.SliceHead.{SliceHead}
use Rattle.slice_encoder.specs.Trials.{CodedPicture, Lists, AreKept}
use Rattle.slice_encoder.specs.Tries.{AreTried, tried_lists, KeptHaveSizes, IsNext}
use Rattle.slice_encoder.specs.Choice.{fits, slice_bits}
use Rattle.slice_encoder.specs.declared.search.Trying.{Trying}
use Rattle.slice_encoder.specs.Buffers.{HoldsLists}
use Rattle.slice_encoder.specs.Ready.{AreReadyToWrite}
use Rattle.slice_encoder.specs.Encoded.{IsEncoded, IsEncodedAfter, trial_of}
use Rattle.slice_encoder.proofs.Continues.{lists_go_on, go_on}

pub bits_as : (bytes : List Bool) (n index : ℕ) (l m : Lists) → l ≡ m → bytes ≡ slice_bits n index l → bytes ≡ slice_bits n index m
bits_as bytes n index l m e is = is ∙ ap (λ (x : Lists). slice_bits n index x) e

pub sizes_of : (j : CodedPicture) (sx sy : ℕ) (kept : ThreePlanes) → AreReadyToWrite j sx sy kept → KeptHaveSizes j kept
sizes_of j sx sy kept r = record { luma = r.luma.kept_size; c1 = r.c1.kept_size; c2 = r.c2.kept_size }

pub encoded_after : (j : CodedPicture) (indices : List ℕ) (sx sy : ℕ) (bytes : List ℕ) (head : SliceHead) (old new : ThreePlanes) → AreReadyToWrite j sx sy old → IsEncoded (tried_lists j old sx sy) bytes head → AreTried j sx sy head.qindex old new
    → IsNext j indices sx sy → AreKept j indices old → IsEncodedAfter j indices sx sy bytes head new
encoded_after j indices sx sy bytes head old new ready slice tries next kept =
    let sizes = sizes_of j sx sy old ready in
    let same = λ (i : ℕ). lists_go_on j indices sx sy i old next sizes kept in
    record {
      slice = record {
        least = record {
          most = slice.least.most;
          fit = ap (λ (l : Lists). fits (length bytes) l) (sym (same head.qindex)) ∙ slice.least.fit;
          least = λ i lt. ap (λ (l : Lists). fits (length bytes) l) (sym (same i)) ∙ slice.least.least i lt;
        };
        luma_bits = slice.luma_bits ∙ ap (λ (l : Lists). need l.luma) (same head.qindex);
        bits = slice.bits ∙ ap (λ (l : Lists). slice_bits (length bytes) head.qindex l) (same head.qindex);
      };
      values = (go_on j indices sx sy head.qindex old new next sizes kept tries).1;
    }

-- what a trial answers of the lists that it holds
pub trial_is : (n bytes : ℕ) (l high : Lists) (t : Trying) (lumas colours : List ℤ) → n ≡ bytes → HoldsLists l high n t lumas colours
    → record { luma_need = t.luma_need; colour_need = t.colour_need; fits = t.fits } ≡ trial_of bytes l
trial_is n bytes l high t lumas colours is holds =
    ap (λ (u : ℕ). record { luma_need = u; colour_need = t.colour_need; fits = t.fits }) holds.luma_need
    ∙ ap (λ (u : ℕ). record { luma_need = need l.luma; colour_need = u; fits = t.fits }) holds.colour_need
    ∙ ap (λ (b : Bool). record { luma_need = need l.luma; colour_need = need l.colour; fits = b }) (holds.fit ∙ ap (λ (k : ℕ). fits k l) is)

-- the lists that are held
pub held : (l high : Lists) (bytes : ℕ) (t : Trying) (lumas colours : List ℤ) → HoldsLists l high bytes t lumas colours
    → record { luma = take t.luma lumas ++ high.luma; colour = take t.colour colours ++ high.colour } ≡ l
held l high bytes t lumas colours h =
    ap (λ (vs : List ℤ). record { luma = vs; colour = take t.colour colours ++ high.colour }) h.luma ∙ ap (λ (vs : List ℤ). record { luma = l.luma; colour = vs }) h.colour

pub holds_own : (l high : Lists) (bytes : ℕ) (t : Trying) (lumas colours : List ℤ) → HoldsLists l high bytes t lumas colours
    → HoldsLists (record { luma = take t.luma lumas ++ high.luma; colour = take t.colour colours ++ high.colour }) high bytes t lumas colours
holds_own l high bytes t lumas colours h = subst (λ (m : Lists). HoldsLists m high bytes t lumas colours) (sym (held l high bytes t lumas colours h)) h
