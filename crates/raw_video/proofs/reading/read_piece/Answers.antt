use Rattle.std.proofs.Common.{◌≡◌, ◌≤◌, ◌*◌, ◌++◌, ℕ, length, take, drop, replicate, sym, ap, ◌∙◌, arith}
use Rattle.std.proofs.lemmas.List.{length-take, length-replicate, take-append-le}
use Rattle.std.proofs.lemmas.Grind.{common_steps}
use Rattle.raw_video.specs.RawParse.{sample_size}
use Rattle.raw_video.proofs.ReadTurns.{soon_at_once}
use Rattle.raw_video.proofs.PieceTurns.{large_few, piece_large, piece_ended, piece_whole}
use Rattle.raw_video.proofs.reading.read_piece.Goals as goal

pub overflow_add-result : goal.overflow_add-result
overflow_add-result g c =
    let rest = g.S.Source.rest in
    let buffer = c.args.bytes.now in
    let buf = c.fill.new.buf in
    let most = c.min-most.result in
    let came = c.in-Ok.came in
    let few : most ≤ 4096 = omega (arith, c.min-most.ensures, c.bytes_of-want.ensures, c.requires.one_read) in
    let long : length buf ≡ most = c.fill.auto.buf ∙ (let e : length (take most buffer) ≡ most = omega (arith, length-take most buffer, c.requires.bytes_long, few) in e) in
    let bytes : take came (buf ++ drop most buffer) ≡ take came buf = take-append-le came buf (drop most buffer) c.in-Ok.ensures.bound in
    omega (
      arith,
      c.requires.start_few,
      c.requires.few,
      large_few c.args.form.wide c.args.start c.args.room c.args.n c.args.form.bound c.bytes_of-before.result c.bytes_of-want.result most came c.parse-count.result (rest c.args.src.now) (rest c.fill.new.src) buf (take came (buf ++ drop most buffer)) c.parse-count.new.samples
          c.bytes_of-before.ensures c.bytes_of-want.ensures c.requires.inside c.min-most.ensures long c.in-Ok.ensures.bound c.requires.one_read c.in-Ok.ensures.ok c.in-Ok.ensures.end bytes c.parse-count.ensures.samples c.parse-count.ensures.count c.parse-count.ensures.fits c.in-Some.k (sym c.first_large.ensures ∙ c.in-Some.is),
    )

pub returns-in-Some-clause-piece : goal.returns-in-Some-clause-piece
returns-in-Some-clause-piece g c =
    let rest = g.S.Source.rest in
    let buffer = c.args.bytes.now in
    let buf = c.fill.new.buf in
    let most = c.min-most.result in
    let came = c.in-Ok.came in
    let few : most ≤ 4096 = omega (arith, c.min-most.ensures, c.bytes_of-want.ensures, c.requires.one_read) in
    let long : length buf ≡ most = c.fill.auto.buf ∙ (let e : length (take most buffer) ≡ most = omega (arith, length-take most buffer, c.requires.bytes_long, few) in e) in
    let bytes : take came (buf ++ drop most buffer) ≡ take came buf = take-append-le came buf (drop most buffer) c.in-Ok.ensures.bound in
    piece_large c.args.form.wide c.args.start c.args.room c.args.n c.args.form.bound c.bytes_of-before.result c.bytes_of-want.result most came c.parse-count.result (rest c.args.src.now) (rest c.fill.new.src) buf (take came (buf ++ drop most buffer)) c.parse-count.new.samples
    c.bytes_of-before.ensures c.bytes_of-want.ensures c.requires.inside c.min-most.ensures long c.in-Ok.ensures.bound c.requires.one_read c.in-Ok.ensures.ok c.in-Ok.ensures.end bytes c.parse-count.ensures.samples c.parse-count.ensures.count c.parse-count.ensures.fits c.in-Some.k (sym c.first_large.ensures ∙ c.in-Some.is)

pub returns-then-came-want-clause-piece : goal.returns-then-came-want-clause-piece
returns-then-came-want-clause-piece g c =
    let rest = g.S.Source.rest in
    let buffer = c.args.bytes.now in
    let buf = c.fill.new.buf in
    let most = c.min-most.result in
    let came = c.in-Ok.came in
    let few : most ≤ 4096 = omega (arith, c.min-most.ensures, c.bytes_of-want.ensures, c.requires.one_read) in
    let long : length buf ≡ most = c.fill.auto.buf ∙ (let e : length (take most buffer) ≡ most = omega (arith, length-take most buffer, c.requires.bytes_long, few) in e) in
    let bytes : take came (buf ++ drop most buffer) ≡ take came buf = take-append-le came buf (drop most buffer) c.in-Ok.ensures.bound in
    piece_ended c.args.form.wide c.args.start c.args.room c.args.n c.args.form.bound c.bytes_of-before.result c.bytes_of-want.result most came c.parse-count.result (rest c.args.src.now) (rest c.fill.new.src) buf (take came (buf ++ drop most buffer)) c.parse-count.new.samples
    c.bytes_of-before.ensures c.bytes_of-want.ensures c.requires.inside c.min-most.ensures long c.in-Ok.ensures.bound c.requires.one_read c.in-Ok.ensures.ok c.in-Ok.ensures.end bytes c.parse-count.ensures.samples c.parse-count.ensures.count c.parse-count.ensures.fits (sym c.first_large.ensures ∙ c.in_default.is) c.if-came-want.true

pub returns-clause-piece : goal.returns-clause-piece
returns-clause-piece g c =
    let rest = g.S.Source.rest in
    let buffer = c.args.bytes.now in
    let buf = c.fill.new.buf in
    let most = c.min-most.result in
    let came = c.in-Ok.came in
    let few : most ≤ 4096 = omega (arith, c.min-most.ensures, c.bytes_of-want.ensures, c.requires.one_read) in
    let long : length buf ≡ most = c.fill.auto.buf ∙ (let e : length (take most buffer) ≡ most = omega (arith, length-take most buffer, c.requires.bytes_long, few) in e) in
    let bytes : take came (buf ++ drop most buffer) ≡ take came buf = take-append-le came buf (drop most buffer) c.in-Ok.ensures.bound in
    piece_whole c.args.form.wide c.args.start c.args.room c.args.n c.args.form.bound c.bytes_of-before.result c.bytes_of-want.result most came c.parse-count.result (rest c.args.src.now) (rest c.fill.new.src) buf (take came (buf ++ drop most buffer)) c.parse-count.new.samples
    c.bytes_of-before.ensures c.bytes_of-want.ensures c.requires.inside c.min-most.ensures long c.in-Ok.ensures.bound c.requires.one_read c.in-Ok.ensures.ok c.in-Ok.ensures.end bytes c.parse-count.ensures.samples c.parse-count.ensures.count c.parse-count.ensures.fits (sym c.first_large.ensures ∙ c.in_default.is) c.if-came-want.false

pub returns-in-Err-clause-piece : goal.returns-in-Err-clause-piece
returns-in-Err-clause-piece g c =
    let buffer = c.args.bytes.now in
    let buf = c.fill.new.buf in
    let most = c.min-most.result in
    let bounds = replicate c.args.n c.args.form.bound in
    let few : most ≤ 4096 = omega (arith, c.min-most.ensures, c.bytes_of-want.ensures, c.requires.one_read) in
    let long : length buf ≡ most = c.fill.auto.buf ∙ (let e : length (take most buffer) ≡ most = omega (arith, length-take most buffer, c.requires.bytes_long, few) in e) in
    let all : sample_size c.args.form.wide * length bounds ≡ sample_size c.args.form.wide * c.args.n = ap (λ (m : ℕ). sample_size c.args.form.wide * m) (length-replicate c.args.n c.args.form.bound) in
    let lost = c.in-Err.ensures.err in
    record {
      taken = lost.0;
      took = lost.2;
      few = omega (arith, lost.1, long, all, c.min-most.ensures, c.bytes_of-want.ensures);
      most = omega (arith, lost.1, long, c.min-most.ensures, c.bytes_of-before.ensures, c.requires.inside);
      are = omega (arith, lost.1, long, all, c.min-most.ensures, c.bytes_of-want.ensures);
      soon = soon_at_once c.args.form.wide bounds lost.0 (omega (arith, lost.1, long, few));
    }

pub parse-count-requires : goal.parse-count-requires
parse-count-requires g c = grind (arith, common_steps)
