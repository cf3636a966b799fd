-- The laws of `Laid`: one text behind the other is both at once. Assumes nothing.
use mathlib.Core.Path.{◌≡◌, sym, ap, ◌∙◌, subst}
use mathlib.Core.List.{List, [], ◌++◌}
use Prim.Native.Nat.{ℕ, ◌+◌, ◌≤◌}
use native.Mathlib.Omega.{arith}
use lib.IntN.{ℤ}
use lib.ListN.{length, take, drop, length-append}
use lib.Seq.{take_at, drop-drop}
use borrow.Rule.Slice.PartMut.{put_mid}
use Rattle.codec.specs.Bytes.{put}
use Rattle.codec.proofs.Laws.{put_nil, put_put}
use Rattle.lines.specs.Lines.{end_text, Laid}
use Rattle.lines.proofs.Spelled.{end_short}

-- one text behind the other
pub laid_then :
    {t u before middle after : List ℕ} {at next end : ℕ} → Laid t before at middle next → Laid u middle next after end → at + length t ≤ length before →
    Laid (t ++ u) before at after end
laid_then {t} {u} {before = b} {at = at} {next = n} first then fits = record {
  place = then.place ∙ simp length-append (omega (arith, first.place));
  bytes = then.bytes ∙ ap (λ m. put m n u) first.bytes ∙ put_put b at n t u first.place (omega (arith, first.place));
}

-- the same text by another name
pub laid_as : {t u before after : List ℕ} {at next : ℕ} → t ≡ u → Laid t before at after next → Laid u before at after next
laid_as {before = b} {after = a} {at = at} {next = n} e l = subst (λ t. Laid t b at a n) e l

-- a text laid from the start on is what stands there first
pub laid_first : {t before after : List ℕ} {next : ℕ} → Laid t before 0 after next → take next after ≡ t
unfolding put
laid_first {t} {before = b} {next = n} l = ap (take n) l.bytes ∙ take_at t (drop (0 + length t) b) n (omega (arith, l.place))

-- and lies within what is there then
pub laid_inside : {t before after : List ℕ} {next : ℕ} → Laid t before 0 after next → next ≤ length after
unfolding put
laid_inside {t} {before = b} {next = n} l =
    rw l.bytes (simp length-append (omega (arith, l.place)))

-- nothing is laid
pub laid_none : (before : List ℕ) (at next : ℕ) → next ≡ at → Laid [] before at before next
laid_none b at next e = record { place = omega arith; bytes = sym (put_nil b at) }

-- what is written over a part of a buffer is laid there
pub mid_put : (b t u : List ℕ) (at k : ℕ) → u ≡ t → k ≡ length t → put_mid at k b u ≡ put b at t
unfolding put
mid_put b t u at k e f = rw (e, f) (ap (λ r. take at b ++ (t ++ r)) (drop-drop (length t) at b))

-- an end has at most 21 bytes
pub end_behind : (none z : ℤ) {before after : List ℕ} {at next : ℕ} → Laid (end_text none z) before at after next → next ≤ at + 21
end_behind none z l = omega (arith, l.place, end_short none z)
