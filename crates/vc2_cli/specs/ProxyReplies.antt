-- What `proxy` replies to a stream, and to an input that is refused.
use Rattle.std.specs.Prelude.{◌≡◌, ◌≤◌, ℕ, List, [], ◌∷◌, map, Ok}
use Rattle.std.specs.List.{AllByRecursion}
use Rattle.slice_geometry.specs.Frames.{Frame}
use Rattle.picture_codec.specs.Samples.{PictureSamples}
use Rattle.stream_rows.specs.Refusals.{Refusal}
use Rattle.stream_rows.specs.Units.{DataUnit, Picture}
use Rattle.stream_rows.specs.Streams.{Entry, IsStream, IsRefusal, frame_under}
use Rattle.proxy_picture.specs.Proxy.{proxy_frame, proxy_picture}
use Rattle.vc2_words.specs.Commands.{decode, proxy}
use Rattle.vc2_cli.specs.Proxy.{levels_in}
use Rattle.vc2_cli.specs.Reply.{Reply, command_reply}
use Rattle.vc2_cli.specs.StreamReplies.{raw_texts_of, decoded_reply, refused_reply}

-- the proxy of each picture unit, in order, with its sizes and depths
abbrev pub proxies_of : ℕ → List DataUnit → List (Frame × PictureSamples)
proxies_of level [] = []
proxies_of level (Picture parts number params slices ∷ others) =
    (proxy_frame (frame_under parts) params level, proxy_picture (frame_under parts) params level slices) ∷ proxies_of level others
proxies_of level (other ∷ others) = proxies_of level others

-- their raw text
abbrev pub proxies_text : ℕ → List Entry → List ℕ
proxies_text level units = raw_texts_of (proxies_of level (map (λ entry. entry.unit) units))

-- a stream of these units and the last one: all their proxies, and the note of `decode`
abbrev pub proxied_reply : ℕ → List ℕ → List Entry → Reply
proxied_reply level bytes units = record (decoded_reply bytes units) { out = proxies_text level units }

-- no picture of these units has more levels
abbrev pub HaveAtMost : ℕ → List Entry → Type 0
HaveAtMost level units = AllByRecursion (λ entry. levels_in entry.unit ≤ level) units

-- The proxies of a stream are written whole; of an input that is refused, those up to its fault. Where no picture has more
-- levels than are asked for, they are the pictures; and no picture of any input has more than four.
pub record IsProxied (level : ℕ) (bytes : List ℕ) : Type 0 where
  pub stream : (units : List Entry) (last : Entry) → IsStream bytes units last
      → command_reply (Ok (proxy level)) bytes ≡ proxied_reply level bytes units
  pub refusal : (refusal : Refusal) (is : IsRefusal bytes refusal)
      → command_reply (Ok (proxy level)) bytes ≡ refused_reply (proxies_text level is.units) refusal
  pub full : (units : List Entry) (last : Entry) → IsStream bytes units last → HaveAtMost level units
      → command_reply (Ok (proxy level)) bytes ≡ command_reply (Ok decode) bytes
  pub full_refusal : (refusal : Refusal) (is : IsRefusal bytes refusal) → HaveAtMost level is.units
      → command_reply (Ok (proxy level)) bytes ≡ command_reply (Ok decode) bytes
  pub deepest : 4 ≤ level → command_reply (Ok (proxy level)) bytes ≡ command_reply (Ok decode) bytes
