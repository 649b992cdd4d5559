use Rattle.std.proofs.Common.{ℕ, ◌<◌, ◌*◌, ◌+◌, ◌%◌, ◌/◌, sym, ap, subst, ◌∙◌, arith, refl, length}
use Rattle.std.specs.Prelude.{if◌then◌else◌, None, Some}
use Rattle.slice_geometry.specs.declared.PictureShape.{PictureShape}
use Rattle.slice_geometry.specs.Slicing.{slice_count, slice_bytes}
use Rattle.slice_geometry.proofs.Shares.{share_most, some_share}
use Rattle.slice_decoder.specs.Slice.{slice_at}
use Rattle.slice_decoder.specs.Decoded.{AreReady, AllKeepOthers, IsDecoded}
use Rattle.transform_params.specs.Views.{params_of}
use Rattle.picture_codec.specs.Decoding.{PictureDecoderSeen, IsTaken, wanted_of}
use Rattle.picture_codec.proofs.Tables.{row_below}
use Rattle.picture_codec.proofs.Steps.{all_ready, all_same, all_more, takes_each}
use Rattle.picture_codec.proofs.Whole.{wanted_some}
use Rattle.picture_codec.proofs.decoder.PictureDecoder.slice.Goals as goal

pub decode-requires-clause-most : goal.decode-requires-clause-most
decode-requires-clause-most c =
    let s = c.self.inside.params.layout in
    let n = c.self.inside.next in
    let wanted = wanted_some n (slice_count s) (slice_bytes s.a s.b n) (length c.args.bytes.now) (c.requires.wanted ∙ ap wanted_of (sym c.self.view_is)) in
    let allowed = c.slices_x-across.ensures.allowed in
    omega (arith, wanted.1, share_most s.a s.b n (slice_count s) allowed.share.some wanted.0, allowed.share.total)

pub decode-requires-clause-some : goal.decode-requires-clause-some
decode-requires-clause-some c =
    let s = c.self.inside.params.layout in
    let n = c.self.inside.next in
    let wanted = wanted_some n (slice_count s) (slice_bytes s.a s.b n) (length c.args.bytes.now) (c.requires.wanted ∙ ap wanted_of (sym c.self.view_is)) in
    let allowed = c.slices_x-across.ensures.allowed in
    omega (arith, wanted.1, some_share s.a s.b n allowed.share.some allowed.share.byte)

pub decode-requires-clause-down : goal.decode-requires-clause-down
decode-requires-clause-down c =
    let s = c.self.inside.params.layout in
    let n = c.self.inside.next in
    let wanted = wanted_some n (slice_count s) (slice_bytes s.a s.b n) (length c.args.bytes.now) (c.requires.wanted ∙ ap wanted_of (sym c.self.view_is)) in
    let inside : n < s.slices_y * s.slices_x = omega (arith, wanted.0) in
    subst (λ (a : ℕ). n / a < s.slices_y) (sym c.slices_x-across.ensures.value) (row_below n s.slices_x s.slices_y inside)

pub decode-requires-clause-ready : goal.decode-requires-clause-ready
decode-requires-clause-ready c =
    let s = c.self.inside.params.layout in
    let n = c.self.inside.next in
    let shape = c.self.inside.picture.shape in
    let wanted = wanted_some n (slice_count s) (slice_bytes s.a s.b n) (length c.args.bytes.now) (c.requires.wanted ∙ ap wanted_of (sym c.self.view_is)) in
    let allowed = c.slices_x-across.ensures.allowed in
    let bands = c.self.inside.bands in
    let is = all_ready s shape n wanted.0 allowed.slices bands c.self.invariant.taken in
    subst (λ (sh : PictureShape). AreReady s sh (n % c.slices_x-across.result) (n / c.slices_x-across.result) bands) (sym c.shape.ensures)
    (subst (λ a. AreReady s shape (n % a) (n / a) bands) (sym c.slices_x-across.ensures.value) is)

pub invariant_of-self : goal.invariant_of-self
invariant_of-self c =
    let s = c.self.inside.params.layout in
    let n = c.self.inside.next in
    let shape = c.self.inside.picture.shape in
    let matrix = c.self.inside.params.matrix in
    let head = c.in-Ok.field-0 in
    let bytes = c.args.bytes.now in
    let wanted = wanted_some n (slice_count s) (slice_bytes s.a s.b n) (length bytes) (c.requires.wanted ∙ ap wanted_of (sym c.self.view_is)) in
    let allowed = c.slices_x-across.ensures.allowed in
    let old = c.self.inside.bands in
    let new = c.decode.new.self in
    let across = c.slices_x-across.result in
    let keeps = subst (λ a. AllKeepOthers s shape (n % a) (n / a) old new) c.slices_x-across.ensures.value
    (subst (λ (sh : PictureShape). AllKeepOthers s sh (n % across) (n / across) old new) c.shape.ensures c.in-Ok.ensures.others) in
    let decoded = subst (λ a. IsDecoded s shape (n % a) (n / a) matrix (slice_at s shape.luma shape.colour (n % a) (n / a) bytes) head new) c.slices_x-across.ensures.value
    (subst (λ (sh : PictureShape). IsDecoded s sh (n % across) (n / across) matrix (slice_at s sh.luma sh.colour (n % across) (n / across) bytes) head new) c.shape.ensures c.in-Ok.ensures.decoded) in
    record {
      taken = all_more s shape n wanted.0 allowed.slices matrix (slice_at s shape.luma shape.colour (n % s.slices_x) (n / s.slices_x) bytes) head old new c.self.invariant.taken keeps decoded;
      luma = c.self.invariant.luma;
      colour = c.self.invariant.colour;
    }

pub invariant_of-self-in-Err : goal.invariant_of-self-in-Err
invariant_of-self-in-Err c =
    let s = c.self.inside.params.layout in
    let n = c.self.inside.next in
    let shape = c.self.inside.picture.shape in
    let wanted = wanted_some n (slice_count s) (slice_bytes s.a s.b n) (length c.args.bytes.now) (c.requires.wanted ∙ ap wanted_of (sym c.self.view_is)) in
    let allowed = c.slices_x-across.ensures.allowed in
    let old = c.self.inside.bands in
    let new = c.decode.new.self in
    let across = c.slices_x-across.result in
    let keeps = subst (λ a. AllKeepOthers s shape (n % a) (n / a) old new) c.slices_x-across.ensures.value
    (subst (λ (sh : PictureShape). AllKeepOthers s sh (n % across) (n / across) old new) c.shape.ensures c.in-Err.ensures.others) in
    record {
      taken = all_same s shape n wanted.0 allowed.slices old new c.self.invariant.taken keeps;
      luma = c.self.invariant.luma;
      colour = c.self.invariant.colour;
    }

pub returns-in-Ok : goal.returns-in-Ok
returns-in-Ok c =
    let s = c.self.inside.params.layout in
    let n = c.self.inside.next in
    let shape = c.self.inside.picture.shape in
    let p = params_of c.self.inside.params in
    let matrix = c.self.inside.params.matrix in
    let head = c.in-Ok.field-0 in
    let bytes = c.args.bytes.now in
    let old = c.self.inside.bands in
    let new = c.decode.new.self in
    let across = c.slices_x-across.result in
    let keeps = subst (λ a. AllKeepOthers s shape (n % a) (n / a) old new) c.slices_x-across.ensures.value
    (subst (λ (sh : PictureShape). AllKeepOthers s sh (n % across) (n / across) old new) c.shape.ensures c.in-Ok.ensures.others) in
    let decoded = subst (λ a. IsDecoded s shape (n % a) (n / a) matrix (slice_at s shape.luma shape.colour (n % a) (n / a) bytes) head new) c.slices_x-across.ensures.value
    (subst (λ (sh : PictureShape). IsDecoded s sh (n % across) (n / across) matrix (slice_at s sh.luma sh.colour (n % across) (n / across) bytes) head new) c.shape.ensures c.in-Ok.ensures.decoded) in
    let after : PictureDecoderSeen = record { shape = shape; params = p; bands = new; next = n + 1; refused = c.self.inside.refused; picture = if c.self.inside.finished then Some c.self.inside.picture.samples else None } in
    subst (λ (d : PictureDecoderSeen). IsTaken bytes d after) c.self.view_is
    (record {
      state = refl;
      fits = decoded.fits;
      small = decoded.small;
      each = takes_each shape p (n % s.slices_x) (n / s.slices_x) bytes head old new keeps decoded;
    })
