use Rattle.std.proofs.Common.{◌≡◌, ◌∙◌, refl, ℕ, ◌-◌, ◌*◌, ◌/◌, ◌^◌, ◌<◌, ◌≤◌, ◌++◌, Bool, true, List, length, take, drop, get_or, ap, sym, subst, arith, ℤ, pos}
use Rattle.std.specs.Prelude.{slice_index, unsigned_abs}
use Rattle.std.proofs.lemmas.List.{length-take, get_or-take, get_or_append_left}
use Rattle.quant_factors.specs.Factors.{factor_of}
use Rattle.slice_encoder.specs.Limits.{AreSizesTo}
use Rattle.slice_encoder.specs.Sizes.{SizesSeen, size_values, shown}
use Rattle.slice_encoder.proofs.PieceLooks.{bands_count}
use Rattle.slice_encoder.proofs.ShortSigns.{sizes_row}
use Rattle.slice_encoder.proofs.SizeLists.{shown_count}
use Rattle.slice_encoder.proofs.sizes.Sizes.quantise.Goals as goal

pub padded-places-requires : goal.padded-places-requires
padded-places-requires c =
    let i = c.self.inside in
    let v = c.self.invariant in
    let s : SizesSeen = record { depth = i.depth; ends = i.ends; entries = i.key.entries; values = shown i.is_short i.short.items i.long.items } in
    let shown_is = shown_count i.is_short i.short.items i.long.items v.same in
    let count = bands_count s c.args.index v.start v.rise (omega (arith, v.inside, shown_is)) (3 * i.depth) (omega arith) in
    omega (arith, c.requires.count, ap (λ (t : SizesSeen). length (size_values t c.args.index)) c.self.view_is, count, v.inside, v.few)

pub returns : goal.returns
returns c _ =
    let i = c.self.inside in
    let v = c.self.invariant in
    let index : ℕ = c.args.index in
    let n : ℕ = c.padded-places.result in
    let top = c.if-not-are_small.ensures in
    let s : SizesSeen = record { depth = i.depth; ends = i.ends; entries = i.key.entries; values = i.short.items } in
    let short_is : i.is_short ≡ true = top.short refl in
    let seen : s ≡ c.args.self.now = ap (λ (b : Bool). record { depth = i.depth; ends = i.ends; entries = i.key.entries; values = shown b i.short.items i.long.items }) (sym short_is) ∙ c.self.view_is in
    let last : i.key.front ≡ 3 * i.depth = omega (arith, c.if-self.false, v.front) in
    let count : c.args.count ≤ slice_index i.ends (3 * i.depth) =
    omega (arith, c.requires.count, ap (λ (t : SizesSeen). length (size_values t index)) seen, bands_count s index v.start v.rise v.inside (3 * i.depth) (omega arith)) in
    let room : n ≤ length i.short.items = omega (arith, c.if-places-min.false, c.min.ensures, c.len.ensures) in
    let few : n ≤ length c.args.out.now = omega (arith, c.if-places-min.false, c.min.ensures) in
    let fits : c.args.count ≤ n = c.padded-places.ensures.least in
    let lent : c.deref.result.now ≡ i.short.items = c.deref.ensures.value in
    let top_is : AreSizesTo i.top (take (slice_index i.ends (3 * i.depth)) i.short.items) = subst (λ (b : Bool). AreSizesTo i.top (take (slice_index i.ends (3 * i.depth)) (shown b i.short.items i.long.items))) short_is v.top_is in
    let front : length c.quantise.new.out ≡ n = omega (arith, c.quantise.auto.out, few, length-take n c.args.out.now) in
    subst (λ (t : SizesSeen). (p : ℕ) → p < c.args.count → slice_index (c.quantise.new.out ++ drop n c.args.out.now) p ≡ unsigned_abs (get_or (size_values t index) p (pos 0))) seen
    (sizes_row s index v.start v.rise v.inside (c.quantise.new.out ++ drop n c.args.out.now) c.args.count
    (λ k p one le low high before.
    let at : get_or (take n c.deref.result.now) p (pos 0) ≡ get_or i.short.items p (pos 0) = get_or-take n c.deref.result.now p (pos 0) (omega (arith, before, fits)) ∙ ap (λ (t : List ℤ). get_or t p (pos 0)) lent in
    let size = top_is p (omega (arith, before, count, v.inside, length-take (slice_index i.ends (3 * i.depth)) i.short.items)) in
    let is : get_or i.short.items p (pos 0) ≡ pos size.0 = sym (get_or-take (slice_index i.ends (3 * i.depth)) i.short.items p (pos 0) (omega (arith, before, count))) ∙ size.1 in
    let small : unsigned_abs (get_or (take n c.deref.result.now) p (pos 0)) < 2 ^ 13 = omega (arith, ap unsigned_abs (at ∙ is), size.2, top.top refl) in
    get_or_append_left c.quantise.new.out (drop n c.args.out.now) 0 p (omega (arith, before, fits, front))
    ∙ c.quantise.ensures k p one (omega (arith, le, last)) (omega (arith, low, v.ends_same (k - 1) (omega (arith, le, last)))) (omega (arith, high, v.ends_same k (omega (arith, le, last)))) (omega (arith, before, fits, room, ap (λ (t : List ℤ). length t) lent, length-take n c.deref.result.now)) small
    ∙ ap (λ (z : ℤ). 4 * unsigned_abs z / factor_of (index - slice_index i.key.entries k)) at)
    count)
