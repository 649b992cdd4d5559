-- The replies of `proxy` to streams and refusals.
use Rattle.std.proofs.Common.{◌≡◌, ℕ, ◌+◌, ◌≤◌, List, [], ◌∷◌, ◌++◌, length, map, refl, sym, ap, ◌∙◌, arith, append-nil, inl, inr}
use Rattle.run_theory.specs.Walk.{answer_to}
use Rattle.stream_rows.specs.Refusals.{Refusal}
use Rattle.stream_rows.specs.Units.{DataUnit, Sequence, Repeated, Picture, Skipped, End, unit_rows}
use Rattle.stream_rows.specs.Streams.{Entry, total, IsStream, IsRefusal, frame_under}
use Rattle.stream_rows.proofs.Tables.{stream_table}
use Rattle.stream_rows.proofs.OneAnswer.{one_answer}
use Rattle.stream_rows.proofs.Answering.{IsPlain, texts, own_behind, answer_stream, answer_refusal}
use Rattle.vc2_cli.specs.declared.status.Note.TheVariants.{Decoded}
use Rattle.vc2_cli.specs.declared.status.Ending.TheVariants.{Done, Refused}
use Rattle.vc2_cli.specs.Decode.{unit_text, unit_pictures, decode_machine}
use Rattle.vc2_cli.specs.Proxy.{Proxied, levels_in, proxy_text, proxying, proxy_machine}
use Rattle.vc2_cli.specs.Reply.{reply_of}
use Rattle.vc2_cli.specs.StreamReplies.{AreBytes, raw_texts_of, pictures_text, decoded_reply, refused_reply}
use Rattle.vc2_cli.specs.ProxyReplies.{proxies_of, proxies_text, proxied_reply, HaveAtMost, IsProxied}
use Rattle.vc2_cli.proofs.Proxying.{full_text}
use Rattle.vc2_cli.proofs.LowDepths.{stream_low, refusal_low}
use Rattle.vc2_cli.proofs.StreamReplies.{text_first, is_decoded}

module _ (level : ℕ) where
  -- ---- what the units leave is counted

  abbrev plain : IsPlain (proxying level)
  plain = record {
    text = λ own unit. proxy_text own.level unit;
    is_text = λ z own unit bytes. refl;
    step = λ own unit. record { level = own.level; pictures = own.pictures + unit_pictures unit };
    is_step = λ z own unit bytes. refl;
  }

  -- behind so many pictures
  abbrev behind : ℕ → Proxied
  behind pictures = record { level = level; pictures = pictures }

  pictures_behind : (es : List Entry) (pictures : ℕ) → own_behind plain.step (behind pictures) es ≡ behind (pictures + total unit_pictures es)
  pictures_behind [] pictures = ap behind (omega arith)
  pictures_behind (e ∷ es) pictures = pictures_behind es (pictures + unit_pictures e.unit) ∙ ap behind (omega arith)

  -- what is written for the units is the raw text of their proxies
  abbrev written : ℕ → List Entry → List ℕ
  written pictures es = texts plain.text plain.step (behind pictures) es

  written_first : (unit : DataUnit) (others : List DataUnit) → proxy_text level unit ++ raw_texts_of (proxies_of level others) ≡ raw_texts_of (proxies_of level (unit ∷ others))
  written_first (Sequence parts) others = refl
  written_first Repeated others = refl
  written_first (Picture parts number params slices) others = refl
  written_first Skipped others = refl
  written_first End others = refl

  written_proxies : (es : List Entry) (pictures : ℕ) → written pictures es ≡ proxies_text level es
  written_proxies [] pictures = refl
  written_proxies (e ∷ es) pictures = ap (λ l. proxy_text level e.unit ++ l) (written_proxies es (pictures + unit_pictures e.unit)) ∙ written_first e.unit (map (λ x. x.unit) es)

  -- ---- the replies

  proxied : (bytes : List ℕ) (es : List Entry) (last : Entry) → AreBytes bytes → IsStream bytes es last → reply_of [] (answer_to (proxy_machine level) bytes) ≡ proxied_reply level bytes es
  proxied bytes es last fits s =
      let left = s.stream.left in
      let a = answer_stream unit_rows stream_table (proxying level) plain bytes es last fits s in
      let own = own_behind plain.step (behind 0) es in
      let counted : own.pictures ≡ total unit_pictures es = ap (λ (w : Proxied). w.pictures) (pictures_behind es 0) ∙ omega arith in
      let ending : Done (Decoded own.pictures (left.place + length a.0)) ≡ Done (Decoded (total unit_pictures es) (length bytes)) = ap (λ n. Done (Decoded n (left.place + length a.0))) counted ∙ ap (λ k. Done (Decoded (total unit_pictures es) k)) a.1 in
      ap (reply_of []) a.2
      ∙ ap (λ e. reply_of [] (record { ending = e; text = written 0 es; last = [] })) ending
      ∙ ap (λ l. reply_of [] (record { ending = Done (Decoded (total unit_pictures es) (length bytes)); text = l; last = [] })) (written_proxies es 0)
      ∙ ap (λ l. record (decoded_reply bytes es) { out = l }) (append-nil (proxies_text level es))

  proxy_refused : (bytes : List ℕ) (refusal : Refusal) → AreBytes bytes → (r : IsRefusal bytes refusal) → reply_of [] (answer_to (proxy_machine level) bytes) ≡ refused_reply (proxies_text level r.units) refusal
  proxy_refused bytes refusal fits r =
      ap (reply_of []) (answer_refusal unit_rows stream_table (proxying level) plain bytes refusal fits r).1
      ∙ ap (λ x. reply_of [] (record { ending = Refused x; text = written 0 r.units; last = [] })) (sym r.there)
      ∙ ap (λ l. reply_of [] (record { ending = Refused refusal; text = l; last = [] })) (written_proxies r.units 0)
      ∙ ap (λ l. record (refused_reply (proxies_text level r.units) refusal) { out = l }) (append-nil (proxies_text level r.units))

  -- a unit whose picture has no more levels than are asked for
  unit_full : (unit : DataUnit) → levels_in unit ≤ level → proxy_text level unit ≡ unit_text unit
  unit_full (Picture parts number params slices) few = full_text (frame_under parts) params level slices few
  unit_full (Sequence parts) few = refl
  unit_full Repeated few = refl
  unit_full Skipped few = refl
  unit_full End few = refl

  proxies_full : (es : List Entry) → HaveAtMost level es → proxies_text level es ≡ pictures_text es
  proxies_full [] few = refl
  proxies_full (e ∷ es) few =
      sym (written_first e.unit (map (λ x. x.unit) es))
      ∙ ap (λ l. l ++ proxies_text level es) (unit_full e.unit few.0)
      ∙ ap (λ l. unit_text e.unit ++ l) (proxies_full es few.1)
      ∙ text_first e.unit (map (λ x. x.unit) es)

  full_stream : (bytes : List ℕ) → AreBytes bytes → (es : List Entry) (last : Entry) → IsStream bytes es last → HaveAtMost level es
      → reply_of [] (answer_to (proxy_machine level) bytes) ≡ reply_of [] (answer_to decode_machine bytes)
  full_stream bytes fits es last s few =
      proxied bytes es last fits s
      ∙ ap (λ l. record (decoded_reply bytes es) { out = l }) (proxies_full es few)
      ∙ sym ((is_decoded bytes fits).stream es last s)

  full_refused : (bytes : List ℕ) → AreBytes bytes → (refusal : Refusal) (r : IsRefusal bytes refusal) → HaveAtMost level r.units
      → reply_of [] (answer_to (proxy_machine level) bytes) ≡ reply_of [] (answer_to decode_machine bytes)
  full_refused bytes fits refusal r few =
      proxy_refused bytes refusal fits r
      ∙ ap (λ l. refused_reply l refusal) (proxies_full r.units few)
      ∙ sym ((is_decoded bytes fits).refusal refusal r)

  few_enough : (es : List Entry) → 4 ≤ level → HaveAtMost 4 es → HaveAtMost level es
  few_enough [] deep low = tt
  few_enough (e ∷ es) deep low = (omega (arith, low.0, deep), few_enough es deep low.1)

  pub is_proxied : (bytes : List ℕ) → AreBytes bytes → IsProxied level bytes
  is_proxied bytes fits = record {
    stream = λ es last s. proxied bytes es last fits s;
    refusal = λ refusal r. proxy_refused bytes refusal fits r;
    full = full_stream bytes fits;
    full_refusal = full_refused bytes fits;
    deepest = λ deep. elim (one_answer unit_rows stream_table bytes) [
      | inl s ↦ full_stream bytes fits s.0 s.1 s.2 (few_enough s.0 deep (stream_low bytes s.0 s.1 s.2))
      | inr r ↦ full_refused bytes fits r.0 r.1 (few_enough (r.1).units deep (refusal_low bytes r.0 r.1))
    ];
  }
