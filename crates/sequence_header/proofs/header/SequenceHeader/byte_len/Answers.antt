use Rattle.std.proofs.Common.{◌≡◌, ◌+◌, ◌/◌, length, ap, subst, arith}
use Rattle.sequence_header.specs.Bytes.{header_bits, header_len}
use Rattle.sequence_header.proofs.Indices.{rate_index, aspect_index, signal_index, colour_index}
use Rattle.sequence_header.specs.declared.parts.HeaderParts.{HeaderParts}
use Rattle.sequence_header.specs.Checking.{IsLawfulHeader}
use Rattle.sequence_header.proofs.WroteText.{HaveKinds, header_kinds}
use Rattle.sequence_header.proofs.Sums.{length-header_bits}
use Rattle.sequence_header.proofs.header.SequenceHeader.byte_len.Goals as goal

pub rate_bits-requires : goal.rate_bits-requires
rate_bits-requires c = rate_index c.self.inside.parts.rate c.self.invariant.rate

pub signal_bits-requires : goal.signal_bits-requires
signal_bits-requires c = signal_index c.self.inside.parts.signal c.self.invariant.signal

pub aspect_bits-requires : goal.aspect_bits-requires
aspect_bits-requires c = aspect_index c.self.inside.parts.aspect c.self.invariant.aspect

pub colour_bits-requires : goal.colour_bits-requires
colour_bits-requires c = colour_index c.self.inside.parts.colour c.self.invariant.colour

pub returns-clause-length : goal.returns-clause-length
returns-clause-length c =
    let sum = length-header_bits c.self.inside.parts in
    let here : (length (header_bits c.self.inside.parts) + 7) / 8 ≡ header_len c.args.self.now = ap header_len c.self.view_is in
    omega (arith, sum, here)

pub returns-clause-lawful : goal.returns-clause-lawful
returns-clause-lawful c =
    let kinds : HaveKinds c.self.inside.parts = record {
      version = c.version_bits.ensures.kinds;
      size = c.size_bits.ensures.kinds;
      sampling = c.sampling_bits.ensures.kinds _;
      scan = c.scan_bits.ensures.kinds;
      rate = c.rate_bits.ensures.kinds;
      aspect = c.aspect_bits.ensures.kinds;
      clean = c.clean_bits.ensures.kinds;
      signal = c.signal_bits.ensures.kinds;
      colour = c.colour_bits.ensures.kinds;
      coding = c.coding_bits.ensures.kinds _ _;
    } in
    let here : IsLawfulHeader c.self.inside.parts = record { passes = c.self.invariant; kinds = header_kinds c.self.inside.parts c.self.invariant kinds } in
    subst (λ (p : HeaderParts). IsLawfulHeader p) c.self.view_is here
