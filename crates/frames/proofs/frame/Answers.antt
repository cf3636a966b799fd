-- The tests of the frame in their order. Assumes nothing.
use mathlib.Core.Path.{sym}
use Prim.Native.Nat.{◌-◌, ◌≤◌}
use native.Mathlib.Omega.{arith}
use borrow.Author.Tests.{lt-ltb, le-ltb, eq-eqb, ne_eqb}
use lib.ListN.{length}
use Rattle.codec.specs.Bytes.{little}
use Rattle.refusals.specs.Refusals.{rank}
use Rattle.frames.specs.Framing.{framed, frame_kind}
use Rattle.frames.proofs.frame.Goals as goal

pub returns-then-input-eq0 : goal.returns-then-input-eq0
unfolding framed
returns-then-input-eq0 c = let s = c.args.input.now in simp (eq-eqb (length s) 0 c.if-input-eq0.true)

pub returns-then-input-lt4 : goal.returns-then-input-lt4
unfolding framed rank
returns-then-input-lt4 c =
    let s = c.args.input.now in
    simp (ne_eqb (length s) 0 c.if-input-eq0.false, lt-ltb (length s) 4 c.if-input-lt4.true, c.number.ensures)

pub returns-then-length-lt2 : goal.returns-then-length-lt2
unfolding framed rank
returns-then-length-lt2 c =
    let s = c.args.input.now in
    let n : 4 ≤ length s = omega arith in
    simp (ne_eqb (length s) 0 (λ e. omega arith), le-ltb (length s) 4 n, lt-ltb (little 2 s 0) 2 (omega arith), c.number-then-length-lt2.ensures)

pub returns-then-input-length : goal.returns-then-input-length
unfolding framed rank
returns-then-input-length c =
    let s = c.args.input.now in
    let n : 4 ≤ length s = omega arith in
    simp (
      ne_eqb (length s) 0 (λ e. omega arith),
      le-ltb (length s) 4 n,
      le-ltb (little 2 s 0) 2 (omega arith),
      lt-ltb (length s - 2) (little 2 s 0) (omega arith),
      c.number-then-input-length.ensures,
    )

pub returns : goal.returns
returns c =
    let s = c.args.input.now in
    let field = c.u16_at-length.ensures in
    simp (c.framed_by.ensures, c.tested-tested.ensures, c.lengths_of.ensures, c.u16_at-kind.ensures, field)
    (sym (frame_kind s (omega arith) (omega (arith, field)) (omega (arith, field))))
