-- Two stores that lie the same.
use Rattle.std.proofs.Common.{◌≡◌, ap, sym, ◌∙◌, ℕ, length, get_or}
use Rattle.slice_store.specs.Store.{Store}
use Rattle.slice_store.specs.Places.{place_of, IsStoreSound}
use Rattle.slice_store.specs.Writing.{LiesLike}

module _ {X Y : Type 0} (s : Store X) (t : Store Y) (like : LiesLike s t) where
  pub same_place : (level orient y x : ℕ) → place_of t level orient y x ≡ place_of s level orient y x
  same_place level orient y x =
      ap (λ v. place_of (record t { slicing = v }) level orient y x) like.slicing
      ∙ ap (λ v. place_of (record t { slicing = s.slicing; size = v }) level orient y x) like.size
      ∙ ap (λ v. place_of (record t { slicing = s.slicing; size = s.size; strips = v }) level orient y x) like.strips
      ∙ ap (λ v. place_of (record t { slicing = s.slicing; size = s.size; strips = s.strips; starts = v }) level orient y x) like.starts

  pub same_length : IsStoreSound s → IsStoreSound t → length s.numbers ≡ length t.numbers
  same_length a b = sym a.last ∙ ap (λ (n : ℕ). get_or s.starts n 0) (sym like.strips) ∙ ap (λ xs. get_or xs t.strips 0) (sym like.starts) ∙ b.last
