use Rattle.std.proofs.Common.{◌≡◌, ℕ, ap, sym, ◌∙◌, arith, List, length}
use Rattle.std.proofs.Math.Nat.{mul_comm}
use Rattle.std.proofs.lemmas.List.{with_items_is}
use Rattle.lifting.specs.SampleRoom.{synthesis_in}
use Rattle.picture_codec.specs.Pictures.{sample_of}
use Rattle.picture_codec.specs.Samples.{SamplesSeen, samples_by}
use Rattle.picture_codec.proofs.Tables.{tabulated_is}
use Rattle.picture_codec.proofs.samples.Samples.synthesise.Goals as goal

pub synth-requires-clause-shown : goal.synth-requires-clause-shown
synth-requires-clause-shown g c = record {
  some_bits = c.requires.depth.some;
  bits = c.requires.depth.most;
  count = ap length c.as_mut_slice.ensures.value ∙ c.self.invariant.0;
  few = omega (arith, c.self.invariant.1.product, mul_comm c.self.inside.w c.self.inside.h);
  across = omega (arith, c.requires.fits, ap (λ (s : SamplesSeen). s.w) c.self.view_is);
  down = omega (arith, c.requires.high, ap (λ (s : SamplesSeen). s.h) c.self.view_is);
}

pub returns-clause-samples : goal.returns-clause-samples
returns-clause-samples g c = λ yes.
    let shown : ℕ → ℕ → ℕ = λ y x. sample_of c.args.depth (synthesis_in g.T.Number.value g.T.Number.none c.args.wavelet c.args.bands.now c.args.padded.w c.args.padded.h y x) in
    let made = c.synth.new.samples in
    let count : length made ≡ length c.self.inside.cells.items = c.synth.ensures.count ∙ ap length c.as_mut_slice.ensures.value in
    let with_cells : List ℕ → SamplesSeen = λ cells. record { w = c.self.inside.w; h = c.self.inside.h; cells = cells } in
    ap with_cells (with_items_is c.self.inside.cells made (count ∙ sym c.self.inside.cells.ok.0))
    ∙ tabulated_is (with_cells made) shown (count ∙ c.self.invariant.0) (c.synth.ensures.samples yes)
    ∙ ap (λ (s : SamplesSeen). samples_by (record { w = s.w; h = s.h }) shown) c.self.view_is

pub returns-clause-left : goal.returns-clause-left
returns-clause-left g c = λ no.
    let made = c.synth.new.samples in
    let count : length made ≡ length c.self.inside.cells.items = c.synth.ensures.count ∙ ap length c.as_mut_slice.ensures.value in
    let with_cells : List ℕ → SamplesSeen = λ cells. record { w = c.self.inside.w; h = c.self.inside.h; cells = cells } in
    ap with_cells (with_items_is c.self.inside.cells made (count ∙ sym c.self.inside.cells.ok.0) ∙ c.synth.ensures.left no ∙ c.as_mut_slice.ensures.value)
    ∙ c.self.view_is
