-- Laws of samples as bytes.
use Rattle.std.proofs.Common.{◌≡◌, ℕ, zero, suc, ◌+◌, ◌*◌, ◌/◌, ◌%◌, ◌<◌, ◌≤◌, Bool, true, false, cond, ltb, ◌&&◌, List, [], ◌∷◌, ◌++◌, length, replicate, take, drop, get_or, set, if◌then◌else◌, Option, Some, None, refl, sym, ap, ◌∙◌, arith, append_assoc, append-nil}
use Rattle.std.specs.List.{AllByRecursion, All}
use Rattle.std.proofs.lemmas.Bool.{lt-ltb, le-ltb, ltb-true}
use Rattle.std.proofs.lemmas.List.{take_more, take_more_set, length-take, length-drop, take-append-drop}
use Rattle.std.proofs.lemmas.List.Elements.{All-more}
use Rattle.std.proofs.lemmas.List.Concat.{flat_map-cons}
use Rattle.raw_video.specs.RawText.{sample_bytes, text_of}
use Rattle.raw_video.specs.RawParse.{samples_in, later, first_large}

-- what a sample is below for its bytes' sake
abbrev pub greatest_of : Bool → ℕ
greatest_of wide = if wide then 65536 else 256

abbrev pub later_by : ℕ → Option ℕ → Option ℕ
later_by n None = None
later_by n (Some k) = Some (n + k)

pub samples-text : (wide : Bool) (samples : List ℕ) → AllByRecursion (λ v. v < greatest_of wide) samples → samples_in wide (text_of wide samples) ≡ samples
samples-text false [] f = refl
samples-text true [] f = refl
samples-text false (v ∷ samples) f =
    flat_map-cons (sample_bytes false) v samples ∙ ap (λ n. n ∷ text_of false samples) (omega (arith, f.0)) ∙ ap (λ l. v ∷ l) (samples-text false samples f.1)
samples-text true (v ∷ samples) f =
    ap (samples_in true) (flat_map-cons (sample_bytes true) v samples) ∙ ap (λ n. n ∷ samples_in true (text_of true samples)) (omega arith) ∙ ap (λ l. v ∷ l) (samples-text true samples f.1)

-- whole samples, and others behind them
pub samples-append : (wide : Bool) (a b : List ℕ) → (wide ≡ true → length a % 2 ≡ 0) → samples_in wide (a ++ b) ≡ samples_in wide a ++ samples_in wide b
samples-append false a b even = refl
samples-append true [] b even = refl
samples-append true (x ∷ []) b even = absurd (let odd = even refl in omega arith)
samples-append true (x ∷ y ∷ a) b even = ap (λ l. (x + 256 * y) ∷ l) (samples-append true a b (λ e. omega (arith, even e)))

pub length-samples : (bytes : List ℕ) → length (samples_in true bytes) ≡ length bytes / 2
length-samples [] = refl
length-samples (x ∷ []) = refl
length-samples (x ∷ y ∷ bytes) = omega (arith, length-samples bytes)

-- bytes of whole samples
pub text-samples : (wide : Bool) (bytes : List ℕ) → AllByRecursion (λ b. b < 256) bytes → (wide ≡ true → length bytes % 2 ≡ 0) → text_of wide (samples_in wide bytes) ≡ bytes
text-samples false [] f even = refl
text-samples true [] f even = refl
text-samples false (x ∷ bytes) f even = flat_map-cons (sample_bytes false) x bytes ∙ ap (λ n. n ∷ text_of false bytes) (omega (arith, f.0)) ∙ ap (λ l. x ∷ l) (text-samples false bytes f.1 (λ e. absurd (cc)))
text-samples true (x ∷ []) f even = absurd (let odd = even refl in omega arith)
text-samples true (x ∷ y ∷ bytes) f even =
    flat_map-cons (sample_bytes true) (x + 256 * y) (samples_in true bytes)
    ∙ ap (λ n. n ∷ (x + 256 * y) / 256 ∷ text_of true (samples_in true bytes)) (omega (arith, f.0))
    ∙ ap (λ n. x ∷ n ∷ text_of true (samples_in true bytes)) (omega (arith, f.0))
    ∙ ap (λ l. x ∷ y ∷ l) (text-samples true bytes f.1.1 (λ e. omega (arith, even e)))

-- ---- samples that are too large

later-later : (n : ℕ) (r : Option ℕ) → later (later_by n r) ≡ later_by (suc n) r
later-later n None = refl
later-later n (Some k) = ap Some (omega arith)

none_later : (b : Bool) (r : Option ℕ) → cond b (later r) (Some 0) ≡ None → (b ≡ true) × (r ≡ None)
none_later true None e = (refl, refl)
none_later true (Some k) e = absurd cc
none_later false r e = absurd cc

later-zero : (r : Option ℕ) → r ≡ later_by 0 r
later-zero None = refl
later-zero (Some k) = ap Some (omega arith)

-- none in front, and so it is behind
pub large-behind : (bounds vs others ws : List ℕ) → length bounds ≡ length vs → first_large bounds vs ≡ None → first_large (bounds ++ others) (vs ++ ws) ≡ later_by (length vs) (first_large others ws)
large-behind [] [] others ws e h = later-zero (first_large others ws)
large-behind [] (v ∷ vs) others ws e h = absurd (omega arith)
large-behind (b ∷ bounds) [] others ws e h = absurd (omega arith)
large-behind (b ∷ bounds) (v ∷ vs) others ws e h =
    let parts = none_later (ltb v b) (first_large bounds vs) h in
    ap (λ t. cond t (later (first_large (bounds ++ others) (vs ++ ws))) (Some 0)) parts.0
    ∙ ap later (large-behind bounds vs others ws (omega arith) parts.1)
    ∙ later-later (length vs) (first_large others ws)

some_later : (b : Bool) (r s : Option ℕ) (k : ℕ) → ((j : ℕ) → r ≡ Some j → s ≡ Some j) → cond b (later r) (Some 0) ≡ Some k → cond b (later s) (Some 0) ≡ Some k
some_later true None s k h e = absurd cc
some_later true (Some j) s k h e = ap later (h j refl) ∙ e
some_later false r s k h e = e

-- one that was found stays the first, whatever follows
pub large-stays : (bounds vs more ws : List ℕ) (k : ℕ) → first_large bounds vs ≡ Some k → first_large (bounds ++ more) (vs ++ ws) ≡ Some k
large-stays [] vs more ws k h = absurd cc
large-stays (b ∷ bounds) [] more ws k h = absurd cc
large-stays (b ∷ bounds) (v ∷ vs) more ws k h = some_later (ltb v b) (first_large bounds vs) (first_large (bounds ++ more) (vs ++ ws)) k (λ j e. large-stays bounds vs more ws j e) h

-- the same, by their places
pub none-large-at : (n bound : ℕ) (vs : List ℕ) → All (λ v. v < bound) vs → first_large (replicate n bound) vs ≡ None
none-large-at zero bound vs f = refl
none-large-at (suc n) bound [] f = refl
none-large-at (suc n) bound (v ∷ vs) f = rw (lt-ltb v bound (f 0 0 (omega arith))) (ap later (none-large-at n bound vs (λ k d lt. f (suc k) d (omega arith))))

both_true : (x y : Bool) → (x && y) ≡ true → (x ≡ true) × (y ≡ true)
both_true true true e = (refl, refl)
both_true true false e = absurd cc
both_true false y e = absurd cc

pub all_more : (below : Bool) (bound : ℕ) (samples : List ℕ) (k : ℕ) → k < length samples → (below ≡ true → All (λ v. v < bound) (take k samples)) → (below && ltb (get_or samples k 0) bound) ≡ true → All (λ v. v < bound) (take (k + 1) samples)
all_more below bound samples k lt f e =
    let both = both_true below (ltb (get_or samples k 0) bound) e in
    All-more (λ v. v < bound) samples k 0 lt (f both.0) (ltb-true (get_or samples k 0) bound both.1)

-- a byte more
pub narrow_more : (bytes samples : List ℕ) (k v : ℕ) → k < length bytes → k < length samples → take k samples ≡ take k bytes → v ≡ get_or bytes k 0 → take (k + 1) (set samples k v) ≡ take (k + 1) bytes
narrow_more bytes samples k v inside room so_far is =
    take_more_set samples k v room ∙ ap (λ l. l ++ v ∷ []) so_far ∙ ap (λ n. take k bytes ++ n ∷ []) is ∙ sym (take_more bytes k 0 inside)

-- two bytes more
pub wide_more : (bytes samples : List ℕ) (k v : ℕ) → 2 * k + 1 < length bytes → k < length samples → take k samples ≡ samples_in true (take (2 * k) bytes) → v ≡ get_or bytes (2 * k) 0 + 256 * get_or bytes (2 * k + 1) 0
    → take (k + 1) (set samples k v) ≡ samples_in true (take (2 * (k + 1)) bytes)
wide_more bytes samples k v inside room so_far is =
    let two : take (2 * k + 1 + 1) bytes ≡ (take (2 * k) bytes ++ get_or bytes (2 * k) 0 ∷ []) ++ get_or bytes (2 * k + 1) 0 ∷ [] = take_more bytes (2 * k + 1) 0 inside ∙ ap (λ l. l ++ get_or bytes (2 * k + 1) 0 ∷ []) (take_more bytes (2 * k) 0 (omega arith)) in
    let even : length (take (2 * k) bytes) % 2 ≡ 0 = omega (arith, length-take (2 * k) bytes) in
    take_more_set samples k v room
    ∙ ap (λ l. l ++ v ∷ []) so_far
    ∙ ap (λ n. samples_in true (take (2 * k) bytes) ++ n ∷ []) is
    ∙ sym (samples-append true (take (2 * k) bytes) (get_or bytes (2 * k) 0 ∷ get_or bytes (2 * k + 1) 0 ∷ []) (λ e. even))
    ∙ ap (samples_in true) (sym (append_assoc (take (2 * k) bytes) (get_or bytes (2 * k) 0 ∷ []) (get_or bytes (2 * k + 1) 0 ∷ [])) ∙ sym two)
    ∙ ap (λ n. samples_in true (take n bytes)) (omega arith)

-- a last byte alone is no sample
pub wide_all : (bytes : List ℕ) → samples_in true (take (2 * (length bytes / 2)) bytes) ≡ samples_in true bytes
wide_all bytes =
    let n = 2 * (length bytes / 2) in
    let even : length (take n bytes) % 2 ≡ 0 = omega (arith, length-take n bytes) in
    sym (append-nil (samples_in true (take n bytes)))
    ∙ ap (λ l. samples_in true (take n bytes) ++ l) (sym (short (drop n bytes) (omega (arith, length-drop n bytes))))
    ∙ sym (samples-append true (take n bytes) (drop n bytes) (λ e. even)) ∙ ap (samples_in true) (take-append-drop n bytes)
  where
    short : (l : List ℕ) → length l < 2 → samples_in true l ≡ []
    short [] lt = refl
    short (x ∷ []) lt = refl
    short (x ∷ y ∷ l) lt = absurd (omega arith)

-- the first that is too large
pub large_found : (samples : List ℕ) (bound k : ℕ) → k < length samples → All (λ v. v < bound) (take k samples) → bound ≤ get_or samples k 0 → Some k ≡ first_large (replicate (length samples) bound) samples
large_found [] bound k lt f h = absurd (omega arith)
large_found (v ∷ samples) bound zero lt f h = rw (le-ltb v bound h) refl
large_found (v ∷ samples) bound (suc k) lt f h =
    let below : v < bound = f 0 0 (omega arith) in
    rw (lt-ltb v bound below) (ap Some (omega arith) ∙ ap later (large_found samples bound k (omega arith) (λ j d j_lt. f (suc j) d (omega arith)) h))

pub ruleset large = (none-large-at)
