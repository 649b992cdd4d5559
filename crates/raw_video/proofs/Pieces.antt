-- Samples that go out piece by piece, and components one after another.
use Rattle.std.proofs.Common.{◌≡◌, ℕ, ◌+◌, Bool, List, ◌++◌, take, drop, Option, Result, Ok, Err, sym, ap, ◌∙◌}
use Rattle.std.specs.Result.{OnErr}
use Rattle.std.specs.Io.KnownBytes.{Appends}
use Rattle.std.proofs.Math.Seq.{take-add}
use Rattle.std.proofs.lemmas.List.{take-append-drop}
use Rattle.std.proofs.lemmas.Grind.{flat_map-append}
use Rattle.vc2_io.specs.Outside.{GrewShort}
use Rattle.vc2_io.proofs.Known.{Appends-then, Appends-along}
use Rattle.slice_geometry.specs.Frames.{Frame}
use Rattle.picture_codec.specs.Samples.{PictureSamples}
use Rattle.raw_video.specs.RawText.{is_wide, text_of, raw_text}
use Rattle.vc2_io.proofs.Short.{GrewShort-first, GrewShort-second, GrewShort-along}

-- what holds anyway holds of an error
pub OnErr-always : {T E P : Type 0} (r : Result T E) → P → OnErr r P
OnErr-always (Ok x) p = tt
OnErr-always (Err e) p = p

-- the text of joined samples
pub text_joined : (wide : Bool) (first second : List ℕ) → text_of wide first ++ text_of wide second ≡ text_of wide (first ++ second)
text_joined wide first second = sym (flat_map-append _ first second)

-- the text of the samples up to a place, and of all behind it
pub text_cut : (wide : Bool) (samples : List ℕ) (done : ℕ) → text_of wide (take done samples) ++ text_of wide (drop done samples) ≡ text_of wide samples
text_cut wide samples done = text_joined wide _ _ ∙ ap (text_of wide) (take-append-drop done samples)

-- one more piece
pub Appends-piece : (a b c : Option (List ℕ)) (wide : Bool) (samples : List ℕ) (done more : ℕ) → Appends a b (text_of wide (take done samples)) → Appends b c (text_of wide (take more (drop done samples))) → Appends a c (text_of wide (take (done + more) samples))
Appends-piece a b c wide samples done more h k =
    Appends-along a c _ _ (text_joined wide _ _ ∙ ap (text_of wide) (sym (take-add done more samples))) (Appends-then a b c _ _ h k)

-- a piece that was not written whole
pub GrewShort-piece : (a b c : Option (List ℕ)) (wide : Bool) (samples : List ℕ) (done more : ℕ) → Appends a b (text_of wide (take done samples)) → GrewShort b c (text_of wide (take more (drop done samples))) → GrewShort a c (text_of wide samples)
GrewShort-piece a b c wide samples done more h g =
    let rest = GrewShort-along b c _ _ (text_cut wide (drop done samples) more) (GrewShort-first b c _ _ g) in
    GrewShort-along a c _ _ (text_cut wide samples done) (GrewShort-second a b c _ _ h rest)

-- the raw text of a picture, component by component
pub raw_text_is : (f : Frame) (s : PictureSamples) → (text_of (is_wide f) s.luma.cells ++ text_of (is_wide f) s.c1.cells) ++ text_of (is_wide f) s.c2.cells ≡ raw_text f s
unfolding raw_text
raw_text_is f s =
    let wide = is_wide f in
    ap (λ l. l ++ text_of wide s.c2.cells) (text_joined wide s.luma.cells s.c1.cells) ∙ text_joined wide (s.luma.cells ++ s.c1.cells) s.c2.cells

-- all components were written
pub Appends-picture : (a b c d : Option (List ℕ)) (f : Frame) (s : PictureSamples) → Appends a b (text_of (is_wide f) s.luma.cells) → Appends b c (text_of (is_wide f) s.c1.cells) → Appends c d (text_of (is_wide f) s.c2.cells) → Appends a d (raw_text f s)
Appends-picture a b c d f s luma c1 c2 = Appends-along a d _ _ (raw_text_is f s) (Appends-then a c d _ _ (Appends-then a b c _ _ luma c1) c2)

-- luma was not written whole
pub GrewShort-luma : (a b : Option (List ℕ)) (f : Frame) (s : PictureSamples) → GrewShort a b (text_of (is_wide f) s.luma.cells) → GrewShort a b (raw_text f s)
GrewShort-luma a b f s luma = GrewShort-along a b _ _ (raw_text_is f s) (GrewShort-first a b _ _ (GrewShort-first a b _ _ luma))

-- C1 was not written whole
pub GrewShort-c1 : (a b c : Option (List ℕ)) (f : Frame) (s : PictureSamples) → Appends a b (text_of (is_wide f) s.luma.cells) → GrewShort b c (text_of (is_wide f) s.c1.cells) → GrewShort a c (raw_text f s)
GrewShort-c1 a b c f s luma c1 = GrewShort-along a c _ _ (raw_text_is f s) (GrewShort-first a c _ _ (GrewShort-second a b c _ _ luma c1))

-- C2 was not written whole
pub GrewShort-c2 : (a b c d : Option (List ℕ)) (f : Frame) (s : PictureSamples) → Appends a b (text_of (is_wide f) s.luma.cells) → Appends b c (text_of (is_wide f) s.c1.cells) → GrewShort c d (text_of (is_wide f) s.c2.cells) → GrewShort a d (raw_text f s)
GrewShort-c2 a b c d f s luma c1 c2 = GrewShort-along a d _ _ (raw_text_is f s) (GrewShort-second a c d _ _ (Appends-then a b c _ _ luma c1) c2)
