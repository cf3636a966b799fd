-- What is read of the input is what the definition says. Assumes nothing.
use Rattle.std.specs.Prelude.{Result, Ok, Err}
use mathlib.Core.Path.{◌≡◌, refl, sym, ap, ◌∙◌, subst}
use mathlib.Core.List.{List}
use Prim.Native.Nat.{ℕ, ◌+◌, ◌-◌, ◌≤◌}
use native.Mathlib.Omega.{arith}
use lib.Dec.{T}
use lib.ListN.{length, take, drop, length-drop}
use lib.Seq.{drop-drop, length-take-le}
use Rattle.records.specs.declared.Command.{Command}
use Rattle.frames.specs.declared.Framed.TheVariants as Framed
use Rattle.records.specs.Records.{decode_body, parsed_body, parsed_frame, parse}
use Rattle.frames.specs.Framing.{framed, FramedIn, framed_in}
use Rattle.frames.specs.Frames.{length_field, body_of, lengths_of, allows}
use Rattle.reader.specs.declared.Input.{Input}
use Rattle.terms.specs.declared.Settings.{Settings}
use Rattle.terms.specs.Tests.{differ}
use Rattle.reader.specs.Code.{input_of, parsed_of, ParsedAs}

-- ---- the body of a record

-- the body is the part of the input behind its first four bytes
pub body_at : (at k u : ℕ) (x : List ℕ) → FramedIn (drop at x) k u → take (at + u - (at + 4)) (drop (at + 4) x) ≡ body_of (drop at x)
body_at at k u x F =
    let e : at + u - (at + 4) ≡ length_field (drop at x) + 2 - 4 = omega (arith, F.used) in
    ap (λ (n : ℕ). take n (drop (at + 4) x)) e ∙ ap (take (length_field (drop at x) + 2 - 4)) (sym (drop-drop 4 at x))

pub body_allowed : (k u : ℕ) (x : List ℕ) → FramedIn x k u → T (allows (lengths_of k) (length (body_of x) + 2))
body_allowed k u x F =
    let n : length (body_of x) ≡ length_field x + 2 - 4 = length-take-le (length_field x + 2 - 4) (drop 4 x) (omega (arith, length-drop 4 x, F.used, F.room)) in
    let e : length (body_of x) + 2 ≡ length_field x = omega (arith, F.used, F.least) in
    subst (λ (v : ℕ). T (allows (lengths_of k) v)) (sym e) F.allowed

pub body_room : (at k u : ℕ) (x : List ℕ) → FramedIn (drop at x) k u → (at + 4 ≤ at + u) × (at + u ≤ length x)
body_room at k u x F = (omega (arith, F.least), omega (arith, length-drop at x, F.room, F.least))

-- ---- the reading

pub read_nothing : (σ : Settings) (x : List ℕ) → framed x ≡ Framed.Nothing → ParsedAs σ x Input.Nothing
unfolding parse
read_nothing σ x e = record { parsed = sym (ap (parsed_frame σ x) e); framed = λ c u f. differ (cc) }

pub read_refused : (σ : Settings) (x : List ℕ) (n u : ℕ) → framed x ≡ Framed.Refused n u → ParsedAs σ x (Input.Refused n u)
unfolding parse
read_refused σ x n u e = record { parsed = sym (ap (parsed_frame σ x) e); framed = λ c w f. differ (cc) }

input_parsed : (d : Result Command ℕ) (u : ℕ) (b : List ℕ) → parsed_of (input_of d u) b ≡ parsed_body d b u
input_parsed (Ok c) u b = refl
input_parsed (Err n) u b = refl

input_used : (d : Result Command ℕ) (u : ℕ) (c : Command) (w : ℕ) → input_of d u ≡ Input.Record c w → u ≡ w
input_used (Ok x) u c w e = cc
input_used (Err n) u c w e = differ (cc)

-- a frame, and what its body was decoded as
pub read_record :
    (σ : Settings) (x : List ℕ) (k u : ℕ) → framed x ≡ Framed.Record k u → (d : Result Command ℕ) → d ≡ decode_body σ k (body_of x) → (r : Input) → r ≡ input_of d u →
    ParsedAs σ x r
unfolding parse
read_record σ x k u e d f r g = record {
  parsed =
      ap (λ (i : Input). parsed_of i (body_of x)) g
      ∙ input_parsed d u (body_of x)
      ∙ ap (λ (y : Result Command ℕ). parsed_body y (body_of x) u) f
      ∙ sym (ap (parsed_frame σ x) e);
  framed = λ c w z. (k, subst (FramedIn x k) (input_used d u c w (sym g ∙ z)) (framed_in x k u e));
}
