-- The buffer of the units that are due with a picture.
use Rattle.std.proofs.Common.{◌≡◌, ℕ, ◌+◌, ◌-◌, ◌^◌, ◌<◌, ◌≤◌, List, ◌++◌, length, take, drop, sym, ap, ◌∙◌, append-nil, arith}
use borrow.Rule.Slice.PartMut.{put_mid}
use Rattle.std.proofs.Math.Seq.{take-add}
use Rattle.std.proofs.lemmas.List.{length-append, length-drop, length-take-le, take_at, drop_at, drop_all, drop-take, drop-append-le}
use Rattle.sequence_header.specs.declared.parts.HeaderParts.{HeaderParts}
use Rattle.transform_params.specs.Params.{Params}
use Rattle.transform_params.specs.ParameterFields.{unit_length}
use Rattle.stream_writer.specs.EncodedStream.{header_length, header_unit}
use Rattle.stream_writer.specs.WriterInside.{HoldsHeader}

-- a vector whose items are as many as before
pub same_room : (x items : List ℕ) (len : ℕ) → length x ≡ len → take len (x ++ drop (length x) items) ≡ x
same_room x items len e = take_at x (drop (length x) items) len e

-- a header's unit behind its end's room
pub first_holds : (parts : HeaderParts) (p : Params) (b unit behind : List ℕ) (to : ℕ) → length unit ≡ header_length parts → length behind ≡ unit_length p → unit_length p < 2 ^ 32 → 13 ≤ length b → to ≤ 13 + header_length parts → unit ≡ header_unit parts
    → HoldsHeader parts p (take 13 b ++ (unit ++ behind)) to
first_holds parts p b unit behind to many others small room inside is =
    let first = length-take-le 13 b room in
    let long : length (take 13 b ++ (unit ++ behind)) ≡ 13 + header_length parts + unit_length p = omega (arith, length-append (take 13 b) (unit ++ behind), length-append unit behind, first, many, others) in
    record {
      long = long;
      small = small;
      inside = omega (arith, long, inside);
      header = ap (take (header_length parts)) (drop_at (take 13 b) (unit ++ behind) 13 first) ∙ take_at unit behind (header_length parts) many ∙ is;
    }

-- an end in its place
pub end_holds : (parts : HeaderParts) (p : Params) (b end : List ℕ) (from : ℕ) → HoldsHeader parts p b from → length end ≡ 13 → HoldsHeader parts p (end ++ drop 13 b) from
end_holds parts p b end from h e =
    let long : length (end ++ drop 13 b) ≡ length b = omega (arith, length-append end (drop 13 b), length-drop 13 b, e, h.long) in
    record {
      long = long ∙ h.long;
      small = h.small;
      inside = omega (arith, long, h.inside);
      header = ap (take (header_length parts)) (drop_at end (drop 13 b) 13 e) ∙ h.header;
    }

-- a picture's unit in its place
module _ (parts : HeaderParts) (p : Params) (n : ℕ) (n_is : n ≡ header_length parts) (b unit : List ℕ) (from : ℕ) (h : HoldsHeader parts p b from) (many : length unit ≡ unit_length p) where
  in_front : length (take (13 + n) b) ≡ 13 + n
  in_front = length-take-le (13 + n) b (omega (arith, h.long, n_is))

  put_long : length (take (13 + n) b ++ unit) ≡ length b
  put_long = omega (arith, length-append (take (13 + n) b) unit, in_front, many, h.long, n_is)

  -- as a part of the buffer
  pub put_is : put_mid (13 + n) (length b - (13 + n)) b unit ≡ take (13 + n) b ++ unit
  put_is =
      ap (λ l. take (13 + n) b ++ (unit ++ l)) (drop_all (length b - (13 + n)) (drop (13 + n) b) (omega (arith, length-drop (13 + n) b)))
      ∙ ap (λ l. take (13 + n) b ++ l) (append-nil unit)

  -- the whole buffer
  pub put_all : (items : List ℕ) (len : ℕ) → length b ≡ len → (let x = put_mid (13 + n) (length b - (13 + n)) b unit in take len (x ++ drop (length x) items)) ≡ take (13 + n) b ++ unit
  put_all items len e =
      let x = put_mid (13 + n) (length b - (13 + n)) b unit in
      same_room x items len (ap (λ (l : List ℕ). length l) put_is ∙ put_long ∙ e) ∙ put_is

  pub put_holds : (to : ℕ) → to ≤ 13 + n → HoldsHeader parts p (take (13 + n) b ++ unit) to
  put_holds to inside = record {
    long = put_long ∙ h.long;
    small = h.small;
    inside = omega (arith, put_long, h.long, n_is, inside);
    header =
        ap (λ k. take k (drop 13 (take (13 + n) b ++ unit))) (sym n_is)
        ∙ ap (take n) (drop-append-le 13 (take (13 + n) b) unit (omega (arith, in_front)))
        ∙ ap (λ l. take n (l ++ unit)) (drop-take 13 n b)
        ∙ take_at (take n (drop 13 b)) unit n (length-take-le n (drop 13 b) (omega (arith, length-drop 13 b, h.long, n_is)))
        ∙ ap (λ k. take k (drop 13 b)) n_is ∙ h.header;
  }

  -- behind the header
  pub put_last : drop (13 + n) (take (13 + n) b ++ unit) ≡ unit
  put_last = drop_at (take (13 + n) b) unit (13 + n) in_front

  -- what is in front of it
  pub front_is : take (13 + n) b ≡ take 13 b ++ header_unit parts
  front_is = take-add 13 n b ∙ ap (λ l. take 13 b ++ l) (ap (λ k. take k (drop 13 b)) n_is ∙ h.header)
