-- A record of a kind and a body, as bytes, is read as that kind and body. Assumes nothing.
use Rattle.std.specs.Prelude.{◌≡◌, List, ◌++◌, ℕ, ◌+◌, ◌-◌, ◌<◌, T, length}
use Rattle.std.proofs.Common.{sym, ap, ◌∙◌, subst, arith, take_all}
use Rattle.codec.specs.Bytes.{little, bytes}
use Rattle.terms.specs.declared.Settings.{Settings}
use Rattle.refusals.specs.Refusals.{Tested}
use Rattle.frames.specs.declared.Framed.{Framed}
use Rattle.frames.specs.Framing.{framed, framed_as, frame_kind, known}
use Rattle.records.specs.Records.{decode_body, parsed_body, parsed_frame, parse}
use Rattle.frames.specs.Frames.{length_field, kind_field, body_of, allows, lengths_of}

-- ---- a record of a kind and a body, as bytes

abbrev pub record_bytes : ℕ → List ℕ → List ℕ
record_bytes k b = bytes 2 (length b + 2) ++ (bytes 2 k ++ b)

-- a record whose body has a length of its kind is read as that kind and body
pub parse_record :
    (σ : Settings) (k : ℕ) (b : List ℕ) → T (allows (lengths_of k) (length b + 2)) → k < 65536 → length b + 2 < 65536 →
    parse σ (record_bytes k b) ≡ parsed_body (decode_body σ k b) b (length (record_bytes k b))
unfolding bytes little parse
parse_record σ k b allowed small short =
    let s : List ℕ = record_bytes k b in
    let l : length_field s ≡ length b + 2 = omega arith in
    let e : kind_field s ≡ k = omega arith in
    let body : body_of s ≡ b = take_all (length_field s + 2 - 4) b (omega arith) in
    let u : length_field s + 2 ≡ length s = omega arith in
    let t : T (allows (lengths_of (kind_field s)) (length_field s)) =
    subst (λ (n : ℕ). T (allows (lengths_of (kind_field s)) n)) (sym l) (subst (λ (n : ℕ). T (allows (lengths_of n) (length b + 2))) (sym e) allowed) in
    let f : framed s ≡ Framed.Record (kind_field s) (length_field s + 2) =
    frame_kind s (omega arith) (omega arith) (omega arith)
    ∙ ap (λ (x : Tested). framed_as x (kind_field s) (length_field s + 2)) (known (lengths_of (kind_field s)) (length_field s) t) in
    ap (λ (x : Framed). parsed_frame σ s x) f
    ∙ ap (λ (x : ℕ). parsed_body (decode_body σ x (body_of s)) (body_of s) (length_field s + 2)) e
    ∙ ap (λ (x : List ℕ). parsed_body (decode_body σ k x) x (length_field s + 2)) body
    ∙ ap (λ (x : ℕ). parsed_body (decode_body σ k b) b x) u
