use Rattle.std.proofs.Common.{◌≡◌, ◌∙◌, ℕ, ◌+◌, ◌-◌, ◌*◌, ◌^◌, ◌≤◌, List, [], ◌++◌, length, map, take, drop, refl, ap, sym, subst, arith, ℤ}
use Rattle.std.specs.Prelude.{slice_index}
use Rattle.std.specs.List.{flat_map, range_with_len}
use Rattle.std.proofs.lemmas.List.{length-map, take-map, drop-map}
use Rattle.slice_encoder.specs.declared.looks.Look.{Look}
use Rattle.slice_encoder.specs.Gathering.{quantised}
use Rattle.slice_encoder.specs.Limits.{places_in, key_values}
use Rattle.slice_encoder.specs.Looks.{IsLook}
use Rattle.slice_encoder.specs.Sizes.{SizesSeen, quantised_sizes}
use Rattle.slice_encoder.proofs.Listed.{flat_more}
use Rattle.slice_encoder.proofs.SizeLists.{shown_count}
use Rattle.slice_encoder.proofs.PieceLooks.{front_of, band_of, part_sizes, same_front, bands_count}
use Rattle.slice_encoder.proofs.sizes.Sizes.look_by.Goals.{then-places-min, else-places-min}
use Rattle.slice_encoder.proofs.sizes.Sizes.look_by.Goals as goal

no_look : IsLook (record { some = 0; more = 0; last = 0 }) []
no_look = record { bits = refl; most = omega arith; zeros = λ k le lt. absurd (omega arith); some = λ there. absurd (omega arith) }

pub look-look-requires-clause-top : goal.look-look-requires-clause-top
look-look-requires-clause-top g c =
    let i = c.self.inside in
    let s = c.args.self.now in
    let end : ℕ = slice_index s.ends (3 * s.depth) in
    let end_is : slice_index i.ends (3 * i.depth) ≡ end = ap (λ (v : SizesSeen). slice_index v.ends (3 * v.depth)) c.self.view_is in
    front_of g.T.Number.value g.T.Number.none c.args.top (places_in i.key) c.padded-places.result end c.args.sizes.now s.values c.requires.sizes
    (omega (arith, end_is, c.self.invariant.ends_same i.key.front (omega arith), c.self.invariant.whole i.key.front c.self.invariant.front)) c.requires.top

pub look-look-requires-clause-all : goal.look-look-requires-clause-all
look-look-requires-clause-all g c =
    part_sizes g.T.Number.value g.T.Number.none g.T.Magnitude.greatest 0 c.padded-places.result c.args.sizes.now (rw c.requires.sizes c.requires.all)

pub look_at_band-band-requires-clause-top : goal.look_at_band-band-requires-clause-top
look_at_band-band-requires-clause-top g c =
    let i = c.self.inside in
    let s = c.args.self.now in
    let k : ℕ = c.loop-k.k in
    let end : ℕ = slice_index s.ends (3 * s.depth) in
    let end_is : slice_index i.ends (3 * i.depth) ≡ end = ap (λ (v : SizesSeen). slice_index v.ends (3 * v.depth)) c.self.view_is in
    let last : k ≤ 3 * i.depth = omega (arith, c.loop-k-test.true, c.loop-k.auto.k-end) in
    let a : ℕ = slice_index i.ends (k - 1) in
    band_of g.T.Number.value g.T.Number.none c.args.top a (slice_index i.ends k - a) end c.args.sizes.now s.values c.requires.sizes
    (omega (arith, end_is, c.self.invariant.rise k (omega (arith, c.loop-k.auto.k)) last, c.self.invariant.whole k last)) c.requires.top

pub offset_bounds-sizes-from : goal.offset_bounds-sizes-from
offset_bounds-sizes-from g c =
    let i = c.self.inside in
    let k : ℕ = c.loop-k.k in
    let last : k ≤ 3 * i.depth = omega (arith, c.loop-k-test.true, c.loop-k.auto.k-end) in
    let long = ap (λ (t : List ℤ). length t) c.requires.sizes in
    let end_is = ap (λ (v : SizesSeen). length v.values) c.self.view_is in
    let shown = shown_count i.is_short i.short.items i.long.items c.self.invariant.same in
    omega (arith, c.self.invariant.whole (k - 1) (omega (arith, last)), c.self.invariant.inside, long, length-map c.args.sizes.now g.T.Number.value, end_is, shown)

pub loop-k-init : goal.loop-k-init
loop-k-init g c =
    let i = c.self.inside in
    let s = c.args.self.now in
    let index = c.args.index in
    let j = c.if-places-min in
    let depth_is : i.depth ≡ s.depth = ap (λ (v : SizesSeen). v.depth) c.self.view_is in
    let back : j.front + 1 - 1 ≡ j.front = omega arith in
    let values : ℕ → List ℤ = λ n. flat_map (quantised_sizes s index) (range_with_len 1 n) in
    let known : (j.front ≤ 3 * s.depth) × IsLook j.look (values j.front) × (j.look.some ≤ 2 ^ 40) × (j.look.more ≤ 2 ^ 45) = elim j.branch [
      | then-places-min w ↦
          let front_is = w.front-is in
          let parts : map g.T.Number.value (take c.padded-places.result c.args.sizes.now) ≡ take c.padded-places.result s.values = sym (take-map g.T.Number.value c.padded-places.result c.args.sizes.now) ∙ ap (take c.padded-places.result) c.requires.sizes in
          let same = same_front i.key s index c.padded-places.result c.self.invariant.cut (ap (λ (v : SizesSeen). v.entries) c.self.view_is)
          (λ k le. c.self.invariant.ends_same k le ∙ ap (λ (v : SizesSeen). slice_index v.ends k) c.self.view_is) (omega (arith, c.padded-places.ensures.least, c.places.ensures.value)) in
          let look : IsLook w.look-look.result (values i.key.front) = subst (λ (t : List ℤ). IsLook w.look-look.result t) (ap (key_values i.key index) parts ∙ same) w.look-look.ensures.look in (
            omega (arith, front_is, c.self.invariant.front, depth_is),
            subst (λ (n : ℕ). IsLook j.look (values n)) (sym front_is) (subst (λ (t : Look). IsLook t (values i.key.front)) (sym w.look-is) look),
            omega (arith, ap (λ (t : Look). t.some) w.look-is, w.look-look.ensures.some),
            omega (arith, ap (λ (t : Look). t.more) w.look-is, w.look-look.ensures.more),
          )
      | else-places-min w ↦ (
        omega (arith, w.front-is),
        subst (λ (n : ℕ). IsLook j.look (values n)) (sym w.front-is) (subst (λ (t : Look). IsLook t []) (sym w.look-is) no_look),
        omega (arith, ap (λ (t : Look). t.some) w.look-is),
        omega (arith, ap (λ (t : Look). t.more) w.look-is),
      )
    ] in
    record {
      front_few = known.0;
      look = subst (λ (n : ℕ). IsLook j.look (values n)) (sym back) known.1;
      some = omega (arith, known.2);
      more = omega (arith, known.3);
    }

pub loop-k-preserved : goal.loop-k-preserved
loop-k-preserved g c =
    let l = c.loop-k in
    let i = c.self.inside in
    let s = c.args.self.now in
    let index = c.args.index in
    let k : ℕ = l.k in
    let n : ℕ = k - 1 in
    let depth_is : i.depth ≡ s.depth = ap (λ (v : SizesSeen). v.depth) c.self.view_is in
    let ends_are : (j : ℕ) → slice_index i.ends j ≡ slice_index s.ends j = λ j. ap (λ (v : SizesSeen). slice_index v.ends j) c.self.view_is in
    let some : 1 ≤ k = omega (arith, l.auto.k) in
    let last : k ≤ 3 * s.depth = omega (arith, c.loop-k-test.true, l.auto.k-end, depth_is) in
    let whole : slice_index s.ends (3 * s.depth) ≤ length s.values = omega (
      arith,
      c.self.invariant.inside,
      ends_are (3 * i.depth),
      ap (λ (d : ℕ). slice_index s.ends (3 * d)) depth_is,
      ap (λ (v : SizesSeen). length v.values) c.self.view_is,
      shown_count i.is_short i.short.items i.long.items c.self.invariant.same,
    ) in
    let count = bands_count s index (omega (arith, c.self.invariant.start, ends_are 0)) (λ j one le. omega (arith, ends_are (j - 1), ends_are j, c.self.invariant.rise j one (omega (arith, le, depth_is)))) whole n (omega (arith, last)) in
    let from : ℕ = slice_index i.ends n in
    let m : ℕ = slice_index i.ends k - from in
    let band = quantised c.quantiser-quantiser.result (map g.T.Number.value (take m (drop from c.args.sizes.now))) in
    let band_is : band ≡ quantised_sizes s index k =
    ap (quantised c.quantiser-quantiser.result) (sym (take-map g.T.Number.value m (drop from c.args.sizes.now)) ∙ ap (take m) (sym (drop-map g.T.Number.value from c.args.sizes.now) ∙ ap (drop from) c.requires.sizes))
    ∙ ap (λ (q : ℕ). quantised q (take m (drop from s.values))) (c.quantiser-quantiser.ensures.value ∙ ap (λ (v : SizesSeen). index - slice_index v.entries k) c.self.view_is)
    ∙ ap (λ (v : SizesSeen). quantised (index - slice_index s.entries k) (take (slice_index v.ends k - slice_index v.ends n) (drop (slice_index v.ends n) s.values))) c.self.view_is in
    let front = flat_map (quantised_sizes s index) (range_with_len 1 n) in
    let up : n + 1 ≡ k + 1 - 1 = omega (arith, some) in
    let grown : front ++ band ≡ flat_map (quantised_sizes s index) (range_with_len 1 (k + 1 - 1)) =
    ap (λ (t : List ℤ). front ++ t) band_is ∙ sym (flat_more (quantised_sizes s index) 1 n k (omega (arith, some))) ∙ ap (λ (j : ℕ). flat_map (quantised_sizes s index) (range_with_len 1 j)) up in
    record {
      front_few = l.invariant.front_few;
      look = subst (λ (t : List ℤ). IsLook c.then-look.result t) grown (c.then-look.ensures.look front band (count ∙ sym (ends_are n)) l.invariant.look c.look_at_band-band.ensures.look);
      some = omega (arith, c.then-look.ensures.some, l.invariant.some, c.look_at_band-band.ensures.some);
      more = omega (arith, c.then-look.ensures.more, l.invariant.more, c.look_at_band-band.ensures.more);
    }

pub returns : goal.returns
returns g c =
    let l = c.loop-k in
    let s = c.args.self.now in
    let depth_is : c.self.inside.depth ≡ s.depth = ap (λ (v : SizesSeen). v.depth) c.self.view_is in
    let end : l.k - 1 ≡ 3 * s.depth = omega (arith, c.loop-k-test.false, l.auto.k-end, depth_is, l.invariant.front_few) in
    subst (λ (n : ℕ). IsLook l.look (flat_map (quantised_sizes s c.args.index) (range_with_len 1 n))) end l.invariant.look
