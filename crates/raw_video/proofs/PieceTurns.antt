-- One piece of samples, from the bytes that came.
use Rattle.std.proofs.Common.{◌≡◌, ℕ, ◌+◌, ◌-◌, ◌*◌, ◌/◌, ◌<◌, ◌≤◌, ◌⊎◌, inl, inr, min, Bool, true, false, List, ◌++◌, length, take, replicate, Option, Some, None, Ok, Err, refl, sym, ap, subst, ◌∙◌, arith}
use Rattle.std.specs.Io.KnownBytes.{Consumes, IsAtEnd}
use Rattle.std.proofs.lemmas.List.{length-take, length-replicate, replicate-append-replicate}
use Rattle.raw_video.specs.RawParse.{sample_size, samples_in, first_large}
use Rattle.raw_video.specs.Reading.{whole_samples, ReadsSamples, IsSoon}
use Rattle.raw_video.specs.declared.reading.Halt.TheVariants.{Ended, Large}
use Rattle.raw_video.proofs.ReadTurns.{none_extend, some_extend, large_inside, soon_at_once}

pub replicate_more : (count n bound : ℕ) → count ≤ n → replicate n bound ≡ replicate count bound ++ replicate (n - count) bound
replicate_more count n bound le =
    let is : n ≡ count + (n - count) = omega (arith, le) in
    ap (λ (m : ℕ). replicate m bound) is ∙ sym (replicate-append-replicate count (n - count) bound)

-- ---- as many samples as a read asks for

pub size_is : (wide : Bool) → (1 ≤ whole_samples wide 4096) × (whole_samples wide 4096 ≤ 4096)
size_is false = (omega arith, omega arith)
size_is true = (omega arith, omega arith)

pub read_fits : (wide : Bool) (most n : ℕ) → most ≡ whole_samples wide 4096 → n ≤ most → sample_size wide * n ≤ 4096
read_fits false most n e le = omega (arith, e, le)
read_fits true most n e le = omega (arith, e, le)

inside_of : (wide : Bool) (count piece : ℕ) → piece < (count + whole_samples wide 4096 - 1) / whole_samples wide 4096 → whole_samples wide 4096 * piece < count
inside_of false count piece lt = omega (arith, lt)
inside_of true count piece lt = omega (arith, lt)

next_of : (wide : Bool) (piece : ℕ) → whole_samples wide 4096 * (piece + 1) ≡ whole_samples wide 4096 * piece + whole_samples wide 4096
next_of false piece = omega arith
next_of true piece = omega arith

module _ (wide : Bool) (most count piece : ℕ) (is : most ≡ whole_samples wide 4096) where
  pub piece_inside : piece < (count + most - 1) / most → most * piece < count
  piece_inside lt = subst (λ (m : ℕ). m * piece < count) (sym is) (inside_of wide count piece (subst (λ (m : ℕ). piece < (count + m - 1) / m) is lt))

  pub piece_next : most * (piece + 1) ≡ most * piece + most
  piece_next = subst (λ (m : ℕ). m * (piece + 1) ≡ m * piece + m) (sym is) (next_of wide piece)

-- ---- one piece

whole_few : (wide : Bool) (n came : ℕ) → came ≤ sample_size wide * n → whole_samples wide came ≤ n
whole_few false n came le = omega (arith, le)
whole_few true n came le = omega (arith, le)

whole_all : (wide : Bool) (n came : ℕ) → came ≡ sample_size wide * n → whole_samples wide came ≡ n
whole_all false n came e = omega (arith, e)
whole_all true n came e = omega (arith, e)

module _ (wide : Bool) (start room n bound before want most came count : ℕ) (rest0 rest1 : Option (List ℕ)) (buf bytes new : List ℕ)
    (before_is : before ≡ sample_size wide * start) (want_is : want ≡ sample_size wide * n) (inside : sample_size wide * start ≤ room) (most_is : most ≡ min want (room - before))
    (long : length buf ≡ most) (came_few : came ≤ length buf) (one_read : sample_size wide * n ≤ 4096) (took : Consumes rest0 rest1 (take came buf)) (ends : came < length buf → IsAtEnd rest1)
    (bytes_are : bytes ≡ take came buf) (parsed : take count new ≡ samples_in wide bytes) (count_is : count ≡ whole_samples wide (length bytes)) (fits : count ≤ length new) where
  size : length (take came buf) ≡ came
  size = omega (arith, length-take came buf, came_few)

  count_whole : count ≡ whole_samples wide came
  count_whole = count_is ∙ ap (whole_samples wide) (ap (λ (l : List ℕ). length l) bytes_are ∙ size)

  count_few : count ≤ n
  count_few = omega (arith, count_whole, whole_few wide n came (omega (arith, came_few, long, most_is, want_is)))

  samples_are : take count new ≡ samples_in wide (take came buf)
  samples_are = parsed ∙ ap (samples_in wide) bytes_are

  samples_long : length (take count new) ≡ count
  samples_long = omega (arith, length-take count new, fits)

  few : length (take came buf) ≤ sample_size wide * length (replicate n bound)
  few =
      let all : sample_size wide * length (replicate n bound) ≡ sample_size wide * n = ap (λ (m : ℕ). sample_size wide * m) (length-replicate n bound) in
      omega (arith, size, all, came_few, long, most_is, want_is)

  soon : IsSoon wide (replicate n bound) (take came buf)
  soon = soon_at_once wide (replicate n bound) (take came buf) (omega (arith, size, came_few, long, most_is, want_is, one_read))

  room_left : sample_size wide * start + length (take came buf) ≤ room
  room_left = omega (arith, size, came_few, long, most_is, before_is, inside)

  bounds_more : replicate n bound ≡ replicate (length (take count new)) bound ++ replicate (n - count) bound
  bounds_more = replicate_more count n bound count_few ∙ ap (λ (m : ℕ). replicate m bound ++ replicate (n - count) bound) (sym samples_long)

  none_all : first_large (replicate (length (take count new)) bound) (take count new) ≡ None → first_large (replicate n bound) (samples_in wide (take came buf)) ≡ None
  none_all none =
      let s = take count new in
      ap (first_large (replicate n bound)) (sym samples_are) ∙ ap (λ (b : List ℕ). first_large b s) bounds_more
      ∙ none_extend (replicate (length s) bound) (replicate (n - count) bound) s none (omega (arith, length-replicate (length s) bound))

  pub large_few : (k : ℕ) → first_large (replicate (length (take count new)) bound) (take count new) ≡ Some k → k < n
  large_few k some = omega (arith, (large_inside (replicate (length (take count new)) bound) (take count new) k some).0, samples_long, count_few)

  pub piece_large : (k : ℕ) → first_large (replicate (length (take count new)) bound) (take count new) ≡ Some k → ReadsSamples wide start room (replicate n bound) rest0 rest1 (take n new) (Err (Large (start + k)))
  piece_large k some =
      let s = take count new in
      record {
        taken = take came buf;
        took = took;
        few = few;
        most = room_left;
        soon = soon;
        are = (
          k,
          refl,
          ap (first_large (replicate n bound)) (sym samples_are) ∙ ap (λ (b : List ℕ). first_large b s) bounds_more ∙ some_extend (replicate (length s) bound) (replicate (n - count) bound) s k some,
        );
      }

  why : came < want → (before + came ≡ room) ⊎ IsAtEnd rest1
  why less = elim (split came (length buf)) [
    | inl lt ↦ inr (ends lt)
    | inr ge ↦ inl (omega (arith, ge, came_few, long, most_is, less, before_is, inside))
  ]
    where
      split : (a b : ℕ) → (a < b) ⊎ (b ≤ a)
      split a b = grind arith

  pub piece_ended : first_large (replicate (length (take count new)) bound) (take count new) ≡ None → came < want → ReadsSamples wide start room (replicate n bound) rest0 rest1 (take n new) (Err (Ended (before + came)))
  piece_ended none less = record {
    taken = take came buf;
    took = took;
    few = few;
    most = room_left;
    soon = soon;
    are = (
      omega (arith, before_is, size),
      (let all : sample_size wide * length (replicate n bound) ≡ sample_size wide * n = ap (λ (m : ℕ). sample_size wide * m) (length-replicate n bound) in omega (arith, size, less, want_is, all)),
      why less,
      none_all none,
    );
  }

  pub piece_whole : first_large (replicate (length (take count new)) bound) (take count new) ≡ None → want ≤ came → ReadsSamples wide start room (replicate n bound) rest0 rest1 (take n new) (Ok tt)
  piece_whole none all =
      let is : came ≡ want = omega (arith, all, came_few, long, most_is) in
      let whole : count ≡ n = count_whole ∙ whole_all wide n came (omega (arith, is, want_is)) in
      record {
        taken = take came buf;
        took = took;
        few = few;
        most = room_left;
        soon = soon;
        are = (
          (let many : sample_size wide * length (replicate n bound) ≡ sample_size wide * n = ap (λ (m : ℕ). sample_size wide * m) (length-replicate n bound) in omega (arith, size, is, want_is, many)),
          sym samples_are ∙ ap (λ (m : ℕ). take m new) whole,
          none_all none,
        );
      }
