-- A line of a component's samples, as a row that analysis takes.
use Rattle.std.proofs.Common.{◌≡◌, ◌∙◌, sym, ap, ℕ, ◌+◌, ◌-◌, ◌*◌, ◌^◌, ◌<◌, ◌≤◌, min, List, ◌++◌, length, take, drop, get_or, ℤ, pos, arith}
use Rattle.std.specs.Prelude.{◌-ℤ◌}
use Rattle.std.proofs.lemmas.List.{length-take, length-append, length-drop, get_or-take, get_or-drop, get_or_append_left}
use Rattle.slice_geometry.specs.declared.Size.{Size}
use Rattle.picture_codec.specs.Samples.{SamplesSeen}
use Rattle.picture_codec.specs.Encoding.{centred}
use Rattle.picture_codec.proofs.ChosenSlices.{part_length}

part_place : (cells : List ℕ) (from n k : ℕ) → k < n → get_or (take (from + n - from) (drop from cells)) k 0 ≡ get_or cells (from + k) 0
part_place cells from n k lt = get_or-take (from + n - from) (drop from cells) k 0 (omega (arith, lt)) ∙ get_or-drop from cells k 0

-- line m of a component of this size, centred, its last sample behind it
abbrev pub centred_row : Size → List ℕ → ℕ → ℕ → ℕ → ℤ
centred_row size cells m x d =
    pos (get_or (take (m * size.w + size.w - m * size.w) (drop (m * size.w) cells)) (min x (length (take (m * size.w + size.w - m * size.w) (drop (m * size.w) cells)) - 1)) 0)
    -ℤ pos (2 ^ (d - 1))

own_row : (d : ℕ) (size : Size) (s : SamplesSeen) (m y x : ℕ) → s.w ≡ size.w → 1 ≤ size.w → m ≡ min y (size.h - 1) → m * size.w + size.w ≤ length s.cells
    → centred_row size s.cells m x d ≡ centred d size s y x
own_row d size s m y x wide some is fits =
    let long = part_length (m * size.w) size.w s.cells fits in
    ap (λ (v : ℕ). pos v -ℤ pos (2 ^ (d - 1)))
    (ap (λ (n : ℕ). get_or (take (m * size.w + size.w - m * size.w) (drop (m * size.w) s.cells)) (min x (n - 1)) 0) long
    ∙ part_place s.cells (m * size.w) size.w (min x (size.w - 1)) (omega (arith, some))
    ∙ ap (λ (n : ℕ). get_or s.cells (n * size.w + min x (size.w - 1)) 0) is
    ∙ ap (λ (n : ℕ). get_or s.cells (min y (size.h - 1) * n + min x (size.w - 1)) 0) (sym wide))

pub row_is_centred : (d e : ℕ) (size z : Size) (s : SamplesSeen) (cells : List ℕ) (m y x : ℕ) → e ≡ d → z ≡ size → cells ≡ s.cells → s.w ≡ size.w → 1 ≤ size.w → m ≡ min y (size.h - 1)
    → m * size.w + size.w ≤ length s.cells → centred_row z cells m x e ≡ centred d size s y x
row_is_centred d e size z s cells m y x same_bits same_size same_cells wide some is fits =
    ap (λ (b : ℕ). centred_row z cells m x b) same_bits ∙ ap (λ (t : Size). centred_row t cells m x d) same_size ∙ ap (λ (l : List ℕ). centred_row size l m x d) same_cells
    ∙ own_row d size s m y x wide some is fits

pub line_inside : (m y h w n : ℕ) → m ≡ min y (h - 1) → 1 ≤ h → n ≡ h * w → m * w + w ≤ n
line_inside m y h w n is some all =
    let least : m + 1 ≤ h = omega (arith, is, some) in
    let most : (m + 1) * w ≤ h * w = grind arith in
    grind arith

-- what is lent whole comes back whole
pub row_back : (n : ℕ) (row rest : List ℤ) (x : ℕ) → x < length row → x < n → get_or (take n (row ++ rest)) x (pos 0) ≡ get_or row x (pos 0)
row_back n row rest x inside lt = get_or-take n (row ++ rest) x (pos 0) lt ∙ get_or_append_left row rest (pos 0) x inside

pub length_back : (n : ℕ) (row items : List ℤ) → n ≡ length items → length row ≡ length items → length (take n (row ++ drop (length row) items)) ≡ length items
length_back n row items whole same =
    omega (arith, whole, same, length-take n (row ++ drop (length row) items), length-append row (drop (length row) items), length-drop (length row) items)
