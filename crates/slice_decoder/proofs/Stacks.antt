-- One more band of a component.
use Rattle.std.proofs.Common.{◌≡◌, ℕ, zero, suc, ◌+◌, ◌-◌, ◌*◌, ◌<◌, ◌≤◌, List, [], ◌++◌, Bool, true, false, ◌&&◌, length, replicate, ℤ, sym, ap, subst, ◌∙◌, inl, inr, arith, add-one, append_assoc, append-nil}
use Rattle.std.proofs.lemmas.Bool.{cases_eq}
use Rattle.planes.specs.declared.Rect.{Rect}
use Rattle.planes.specs.Raster.{Raster}
use Rattle.planes.specs.Subbands.{BandStack, band_index, with_band}
use Rattle.slice_decoder.specs.Slice.{are_small}
use Rattle.slice_geometry.specs.SliceOrder.{area, numbered}
use Rattle.slice_decoder.specs.Dealing.{dealt, behind, HoldsRect, KeepsOutside}
use Rattle.slice_decoder.specs.Components.{Part, rect_of, index_of, quantisers_of, quantisers_before, BandsHold, BandsKeep}
use Rattle.slice_geometry.proofs.NumberedBands.{numbered-same, numbered-other}
use Rattle.slice_decoder.proofs.Dealt.{dealt-append, are_small-append, more-small, more-behind}

-- ---- quantisers

pub quantisers-more : (each : ℕ) (p : Part) (k : ℕ) → quantisers_before each p (k + 1) ≡ quantisers_before each p k ++ quantisers_of each p k
unfolding quantisers_before
quantisers-more each p k = ap (quantisers_before each p) (add-one k)

pub quantisers_rest : ℕ → Part → ℕ → ℕ → List ℕ
quantisers_rest each p n zero = []
quantisers_rest each p n (suc m) = quantisers_rest each p n m ++ quantisers_of each p (n + m)

pub quantisers-split : (each : ℕ) (p : Part) (n m : ℕ) → quantisers_before each p (n + m) ≡ quantisers_before each p n ++ quantisers_rest each p n m
unfolding quantisers_rest
quantisers-split each p n zero =
    let same : n + zero ≡ n = omega arith in
    ap (quantisers_before each p) same ∙ sym (append-nil (quantisers_before each p n))
quantisers-split each p n (suc m) =
    let next : n + suc m ≡ n + m + 1 = omega arith in
    ap (quantisers_before each p) next
    ∙ quantisers-more each p (n + m)
    ∙ ap (λ qs. qs ++ quantisers_of each p (n + m)) (quantisers-split each p n m)
    ∙ append_assoc (quantisers_before each p n) (quantisers_rest each p n m) (quantisers_of each p (n + m))

pub bands-small : (each : ℕ) (p : Part) (k : ℕ) (block block' : List Bool) (index : ℕ) (rect : Rect) (good : Bool) → rect ≡ rect_of p k → index ≡ index_of p k
    → are_small (dealt block (quantisers_before each p k)) ≡ true → block' ≡ behind block (quantisers_before each p k)
    → good ≡ are_small (dealt block' (replicate (each * area rect) index))
    → good ≡ are_small (dealt block (quantisers_before each p (k + 1)))
bands-small each p k block block' index rect good rect_is index_is small left is =
    let Q : Rect → ℕ → Bool = λ r i. are_small (dealt block' (replicate (each * area r) i)) in
    more-small block block' (quantisers_before each p k) (quantisers_of each p k) good small left (is ∙ ap (λ r. Q r index) rect_is ∙ ap (Q (rect_of p k)) index_is)
    ∙ ap (λ qs. are_small (dealt block qs)) (sym (quantisers-more each p k))

pub bands-left : (each : ℕ) (p : Part) (k : ℕ) (block block' left : List Bool) (index : ℕ) (rect : Rect) → rect ≡ rect_of p k → index ≡ index_of p k
    → block' ≡ behind block (quantisers_before each p k)
    → left ≡ behind block' (replicate (each * area rect) index)
    → left ≡ behind block (quantisers_before each p (k + 1))
bands-left each p k block block' left index rect rect_is index_is is then =
    let Q : Rect → ℕ → List Bool = λ r i. behind block' (replicate (each * area r) i) in
    more-behind block block' left (quantisers_before each p k) (quantisers_of each p k) is (then ∙ ap (λ r. Q r index) rect_is ∙ ap (Q (rect_of p k)) index_is)
    ∙ ap (behind block) (sym (quantisers-more each p k))

-- one that is too large is one of all
pub bands-stopped : (each : ℕ) (p : Part) (k total : ℕ) (block : List Bool) → k + 1 ≤ total → false ≡ are_small (dealt block (quantisers_before each p (k + 1))) → false ≡ are_small (dealt block (quantisers_before each p total))
bands-stopped each p k total block le large =
    let whole : total ≡ k + 1 + (total - (k + 1)) = omega arith in
    sym (
    ap (λ n. are_small (dealt block (quantisers_before each p n))) whole
    ∙ ap (λ qs. are_small (dealt block qs)) (quantisers-split each p (k + 1) (total - (k + 1)))
    ∙ ap are_small (dealt-append block (quantisers_before each p (k + 1)) (quantisers_rest each p (k + 1) (total - (k + 1))))
    ∙ are_small-append (dealt block (quantisers_before each p (k + 1))) _
    ∙ ap (λ b. b && are_small (dealt (behind block (quantisers_before each p (k + 1))) (quantisers_rest each p (k + 1) (total - (k + 1))))) (sym large)
    )

-- ---- bands

keeps-after : (r : Rect) (a b c : Raster ℤ) → KeepsOutside r a b → KeepsOutside r b c → KeepsOutside r a c
keeps-after r a b c first then = record {
  same_width = then.same_width ∙ first.same_width;
  same_height = then.same_height ∙ first.same_height;
  outside = λ y x out. then.outside y x out ∙ first.outside y x out;
}

pub bands-keep : (p : Part) (k : ℕ) (old b : BandStack) (before after : Raster ℤ) (level orient : ℕ) (rect : Rect) → band_index level orient ≡ k → k < length b.bands → before ≡ numbered b k → rect ≡ rect_of p k
    → BandsKeep p old b → KeepsOutside rect before after → BandsKeep p old (with_band b level orient after)
bands-keep p k old b before after level orient rect is lt before_is rect_is keeps here = record {
  same_depth = keeps.same_depth;
  bands = λ j. elim (cases_eq j k) [
    | inl same ↦
        let P : ℕ → Type 0 = λ j. KeepsOutside (rect_of p j) (numbered old j) (numbered (with_band b level orient after) j) in
        let Q : Rect → Raster ℤ → Raster ℤ → Type 0 = λ r q n. KeepsOutside r q n in
        let moved : KeepsOutside (rect_of p k) (numbered b k) (numbered (with_band b level orient after) k) =
        subst (λ n. Q (rect_of p k) (numbered b k) n) (sym (numbered-same b level orient k after is lt))
        (subst (λ q. Q (rect_of p k) q after) before_is (subst (λ r. Q r before after) rect_is here))
        in
        subst P (sym same) (keeps-after (rect_of p k) (numbered old k) (numbered b k) (numbered (with_band b level orient after) k) (keeps.bands k) moved)
    | inr ne ↦
        let R : Raster ℤ → Type 0 = λ n. KeepsOutside (rect_of p j) (numbered old j) n in
        subst R (sym (numbered-other b level orient k j after is ne)) (keeps.bands j)
  ];
}

pub bands-hold : (each from : ℕ) (p : Part) (k : ℕ) (block block' : List Bool) (old b : BandStack) (before after : Raster ℤ) (level orient index : ℕ) (rect : Rect)
    → band_index level orient ≡ k → k < length b.bands → before ≡ numbered b k → numbered b k ≡ numbered old k → rect ≡ rect_of p k → index ≡ index_of p k
    → block' ≡ behind block (quantisers_before each p k)
    → BandsHold each from p k block old b
    → HoldsRect each from rect (dealt block' (replicate (each * area rect) index)) before after
    → BandsHold each from p (k + 1) block old (with_band b level orient after)
bands-hold each from p k block block' old b before after level orient index rect is lt before_is untouched rect_is index_is left held here = record {
  same_depth = held.same_depth;
  bands = λ j below. elim (cases_eq j k) [
    | inl same ↦
        let P : ℕ → Type 0 = λ j. HoldsRect each from (rect_of p j) (dealt (behind block (quantisers_before each p j)) (quantisers_of each p j)) (numbered old j) (numbered (with_band b level orient after) j) in
        let Q : Rect → ℕ → List Bool → Raster ℤ → Raster ℤ → Type 0 = λ r i s q n. HoldsRect each from r (dealt s (replicate (each * area r) i)) q n in
        let one : Q (rect_of p k) index block' before after = subst (λ r. Q r index block' before after) rect_is here in
        let two : Q (rect_of p k) (index_of p k) block' before after = subst (λ i. Q (rect_of p k) i block' before after) index_is one in
        let three : Q (rect_of p k) (index_of p k) (behind block (quantisers_before each p k)) before after = subst (λ s. Q (rect_of p k) (index_of p k) s before after) left two in
        let four : Q (rect_of p k) (index_of p k) (behind block (quantisers_before each p k)) (numbered old k) after = subst (λ q. Q (rect_of p k) (index_of p k) (behind block (quantisers_before each p k)) q after) (before_is ∙ untouched) three in
        subst P (sym same) (subst (λ n. Q (rect_of p k) (index_of p k) (behind block (quantisers_before each p k)) (numbered old k) n) (sym (numbered-same b level orient k after is lt)) four)
    | inr ne ↦
        let R : Raster ℤ → Type 0 = λ n. HoldsRect each from (rect_of p j) (dealt (behind block (quantisers_before each p j)) (quantisers_of each p j)) (numbered old j) n in
        subst R (sym (numbered-other b level orient k j after is ne)) (held.bands j (omega arith))
  ];
}
