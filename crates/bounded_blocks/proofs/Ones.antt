-- A block, and the block with ones behind it.
use Rattle.std.proofs.Common.{◌≡◌, refl, sym, ap, ◌∙◌, ℕ, zero, suc, ◌+◌, ◌-◌, ◌*◌, ◌≤◌, ◌⊎◌, inl, inr, List, [], ◌∷◌, ◌++◌, Bool, true, false, length, drop, replicate, arith}
use Rattle.std.proofs.lemmas.List.{length-drop, length-append, length-replicate, drop-drop, drop_all}
use Rattle.bit_codes.specs.Bits.{digit}
use Rattle.bounded_blocks.specs.Reading.{magnitude_from, with_sign, value_at, values, left_after}

abbrev pub ones : ℕ → List Bool
ones k = replicate k true

-- What is left of a block, and of the block with k ones behind it: the same with fewer ones behind it, and with all of them as long as the block lasts.
pub record Ext (k : ℕ) (l longer : List Bool) : Type 0 where
  pub more : ℕ
  pub is : longer ≡ l ++ ones more
  pub kept : (l ≡ []) ⊎ (more ≡ k)
  pub most : more ≤ k

magnitude_same : (m k : ℕ) (b : List Bool) → ((magnitude_from m (b ++ ones k)).0 ≡ (magnitude_from m b).0) × Ext k (magnitude_from m b).1 (magnitude_from m (b ++ ones k)).1
magnitude_same m zero [] = (refl, record { more = 0; is = refl; kept = inl refl; most = omega arith })
magnitude_same m (suc k) [] = (refl, record { more = k; is = refl; kept = inl refl; most = omega arith })
magnitude_same m k (true ∷ b) = (refl, record { more = k; is = refl; kept = inr refl; most = omega arith })
magnitude_same m zero (false ∷ []) = (refl, record { more = 0; is = refl; kept = inl refl; most = omega arith })
magnitude_same m (suc zero) (false ∷ []) = (omega arith, record { more = 0; is = refl; kept = inl refl; most = omega arith })
magnitude_same m (suc (suc k)) (false ∷ []) = (omega arith, record { more = k; is = refl; kept = inl refl; most = omega arith })
magnitude_same m k (false ∷ c ∷ b) = magnitude_same (2 * m + digit c) k b

still : {k more : ℕ} {s : Bool} {l : List Bool} → ((s ∷ l) ≡ []) ⊎ (more ≡ k) → (l ≡ []) ⊎ (more ≡ k)
still (inl e) = cc
still (inr e) = inr e

sign_same : (n k more : ℕ) (l : List Bool) → (l ≡ []) ⊎ (more ≡ k) → more ≤ k → ((with_sign n (l ++ ones more)).0 ≡ (with_sign n l).0) × Ext k (with_sign n l).1 (with_sign n (l ++ ones more)).1
sign_same zero k more l kept most = (refl, record { more = more; is = refl; kept = kept; most = most })
sign_same (suc n) k zero [] kept most = (refl, record { more = 0; is = refl; kept = inl refl; most = most })
sign_same (suc n) k (suc more) [] kept most = (refl, record { more = more; is = refl; kept = inl refl; most = omega arith })
sign_same (suc n) k more (s ∷ l) kept most = (refl, record { more = more; is = refl; kept = still kept; most = most })

pub value_same : (k : ℕ) (b : List Bool) → ((value_at (b ++ ones k)).0 ≡ (value_at b).0) × Ext k (value_at b).1 (value_at (b ++ ones k)).1
value_same k b =
    let found = magnitude_same 1 k b in
    rw (found.0, found.1.is) (sign_same (magnitude_from 1 b).0 k found.1.more (magnitude_from 1 b).1 found.1.kept found.1.most)

pub values_same : (n k : ℕ) (b : List Bool) → values n (b ++ ones k) ≡ values n b
values_same zero k b = refl
values_same (suc n) k b =
    let one = value_same k b in
    rw (one.0, one.1.is) (ap (λ vs. (value_at b).0 ∷ vs) (values_same n one.1.more (value_at b).1))

-- ---- what is left

nothing_left : (n : ℕ) → left_after n [] ≡ []
nothing_left zero = refl
nothing_left (suc n) = nothing_left n

joined : (n k more last : ℕ) (l : List Bool) → (left_after n l ≡ []) ⊎ (last ≡ more) → (l ≡ []) ⊎ (more ≡ k) → (left_after n l ≡ []) ⊎ (last ≡ k)
joined n k more last l (inl e) one = inl e
joined n k more last l (inr e) (inr f) = inr (e ∙ f)
joined n k more last l (inr e) (inl f) = inl (ap (left_after n) f ∙ nothing_left n)

left_same : (n k : ℕ) (b : List Bool) → Ext k (left_after n b) (left_after n (b ++ ones k))
left_same zero k b = record { more = k; is = refl; kept = inr refl; most = omega arith }
left_same (suc n) k b =
    let one = value_same k b in
    let rest = left_same n one.1.more (value_at b).1 in
    record {
      more = rest.more;
      is = rw (one.1.is) rest.is;
      kept = joined n k one.1.more rest.more (value_at b).1 rest.kept one.1.kept;
      most = omega (arith, rest.most, one.1.most);
    }

-- what is left is the block without its first bits
record From (b l : List Bool) : Type 0 where
  count : ℕ
  inside : count ≤ length b
  is : l ≡ drop count b

magnitude_leaves : (m : ℕ) (b : List Bool) → From b (magnitude_from m b).1
magnitude_leaves m [] = record { count = 0; inside = omega arith; is = refl }
magnitude_leaves m (true ∷ b) = record { count = suc zero; inside = omega arith; is = refl }
magnitude_leaves m (false ∷ []) = record { count = suc zero; inside = omega arith; is = refl }
magnitude_leaves m (false ∷ c ∷ b) =
    let r = magnitude_leaves (2 * m + digit c) b in
    record { count = suc (suc r.count); inside = omega (arith, r.inside); is = r.is }

sign_leaves : (n : ℕ) (l : List Bool) → From l (with_sign n l).1
sign_leaves zero l = record { count = 0; inside = omega arith; is = refl }
sign_leaves (suc n) [] = record { count = 0; inside = omega arith; is = refl }
sign_leaves (suc n) (s ∷ l) = record { count = suc zero; inside = omega arith; is = refl }

then_from : (b l l2 : List Bool) → From b l → From l l2 → From b l2
then_from b l l2 f g = record {
  count = f.count + g.count;
  inside = omega (arith, f.inside, g.inside, ap length f.is, length-drop f.count b);
  is = g.is ∙ ap (drop g.count) f.is ∙ drop-drop g.count f.count b;
}

leaves : (n : ℕ) (b : List Bool) → From b (left_after n b)
leaves zero b = record { count = 0; inside = omega arith; is = refl }
leaves (suc n) b =
    let found = magnitude_from 1 b in
    then_from b (value_at b).1 (left_after n (value_at b).1) (then_from b found.1 (value_at b).1 (magnitude_leaves 1 b) (sign_leaves found.0 found.1)) (leaves n (value_at b).1)

pub left_is_dropped : (n k used : ℕ) (b : List Bool) → used ≤ length b + k → left_after n (b ++ ones k) ≡ drop used (b ++ ones k) → left_after n b ≡ drop used b
left_is_dropped n k used b room e =
    let x = left_same n k b in
    let f = leaves n b in
    let long : length (left_after n b) + x.more ≡ length b + k - used =
    ap (λ z. length (left_after n b) + z) (sym (length-replicate x.more true)) ∙ sym (length-append (left_after n b) (ones x.more)) ∙ ap length (sym x.is ∙ e) ∙ length-drop used (b ++ ones k) ∙ ap (λ z. z - used) (length-append b (ones k) ∙ ap (λ z. length b + z) (length-replicate k true)) in
    let short : length (left_after n b) ≡ length b - f.count = ap length f.is ∙ length-drop f.count b in
    elim x.kept [
      | inl none ↦
          let past : length b ≤ used = omega (arith, long, ap length none, x.most, room) in
          none ∙ sym (drop_all used b past)
      | inr all ↦
          let same : f.count ≡ used = omega (arith, long, short, all, f.inside, room) in
          f.is ∙ ap (λ z. drop z b) same
    ]
